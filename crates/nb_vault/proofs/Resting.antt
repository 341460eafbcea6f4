-- Records between two turns and within one: what images stand for, and what becomes of the group.
use Rattle.std.proofs.Common.{◌≡◌, inl, inr, ⊎_elim, ℕ, ◌+◌, ◌<◌, ◌≤◌, Bool, cond, false, true, List, [], ◌∷◌, ◌++◌, length, Option, None, Some, IfSome, refl, sym, ap, subst, ◌∙◌, append_assoc, arith}
use Rattle.std.specs.List.{AllByRecursion}
use Rattle.std.specs.Vec.{vec_capacity}
use Rattle.std.proofs.lemmas.List.{append-nil, length-append, take-append-le}
use Rattle.std.proofs.lemmas.Grind.{flat_map-append}
use Rattle.nb_units.specs.declared.charter.Charter.{Charter}
use Rattle.nb_entry.specs.declared.entry.Entry.{Entry}
use Rattle.nb_book.specs.Legal.{LegalUnder, NextUnder}
use Rattle.nb_entry.specs.Spelling.{entry_bytes, entries_bytes, IsEntry, Spells}
use Rattle.nb_entry.specs.declared.spelling.TheConstants.{MAX_ENTRY, MAX_ITEM_ENTRIES}
use Rattle.nb_journal.specs.declared.journal.Journal.{Journal}
use Rattle.nb_journal.specs.Layout.{front_bytes, appended_bytes, zeros_behind}
use Rattle.nb_journal.specs.Stands.{Stands, BeforeOrAfter}
use Rattle.nb_journal.specs.States.{AtRest, InDoubt}
use Rattle.nb_journal.specs.Time.{LeavesOnly}
use Rattle.nb_journal.proofs.Appending.{stands_now}
use Rattle.nb_port.specs.Tells.{DiskTells}
use Rattle.nb_port.specs.Disk.{wrote_at, MayTear}
use Rattle.nb_vault.specs.Holdings.{StandsFor, StandsForEither, IsGate, WritesItem, TearsItem}
use Rattle.nb_vault.specs.Records.{Carries, Gathers, HasRoom, IsGroup, Rests, EitherOf, WithOrWithout, disk_under, over_of}
use Rattle.nb_vault.specs.declared.records.Records.{Records}
use Rattle.nb_vault.proofs.Joining.{all_more, few_items, joins_item, no_both, short_entries, some_length, under_more}

-- ---- what an image stands for

-- a group that is an item
pub spells : (charter : Charter) (cap : ℕ) (entries group : List Entry) → IsGroup charter cap entries group → (group ≡ [] → ⊥) → Spells (entries_bytes group) group
spells charter cap entries group is some = record { bytes = refl; each = is.each; some = some_length group some; most = is.most }

module _ {D : Type 0} (r : Records D) (entries : List Entry) (items : List (List ℕ)) (carries : Carries r entries items) where
  pub stands_for : (image : List ℕ) → Stands (front_bytes r.book.cap r.charter) items image → StandsFor r.charter r.book.cap entries image
  stands_for image stands = record { items = items; terms = carries.terms; stands = stands; joins = carries.joins; legal = carries.legal; within = carries.count }

  -- without the group or with it
  pub stands_either : (group : List Entry) → IsGroup r.charter r.book.cap entries group → (group ≡ [] → ⊥) → (image : List ℕ) → BeforeOrAfter (front_bytes r.book.cap r.charter) items (entries_bytes group) image
      → StandsForEither r.charter r.book.cap entries group image
  stands_either group is some image (inl before) = inl (stands_for image before)
  stands_either group is some image (inr after) = inr (record {
    items = items ++ entries_bytes group ∷ [];
    terms = carries.terms;
    stands = after;
    joins = joins_item items (entries_bytes group) entries group carries.joins (spells r.charter r.book.cap entries group is some);
    legal = is.legal;
    within = is.within;
  })

-- ---- through time

pub leaves_more : {D : Type 0} (tells : DiskTells D) (old new : D) (P Q : List ℕ → Type 0) → ((c : List ℕ) → P c → Q c)
    → LeavesOnly tells old new P → LeavesOnly tells old new Q
leaves_more tells old new P Q more leaves = record {
  later = leaves.later;
  each = λ c is. more c (leaves.each c is);
  before = λ t c le is. ⊎_elim inl (λ p. inr (more c p)) (leaves.before t c le is);
}

pub leaves_then : {D : Type 0} (tells : DiskTells D) (old mid new : D) (P Q R : List ℕ → Type 0) → LeavesOnly tells old mid P → LeavesOnly tells mid new Q
    → ((c : List ℕ) → P c → R c) → ((c : List ℕ) → Q c → R c) → LeavesOnly tells old new R
leaves_then tells old mid new P Q R first second p q = record {
  later = omega (arith, first.later, second.later);
  each = λ c is. ⊎_elim (λ was. p c (first.each c was)) (q c) (second.before (tells.moment old) c first.later is);
  before = λ t c le is. ⊎_elim (λ was. ⊎_elim inl (λ now. inr (p c now)) (first.before t c le was)) (λ now. inr (q c now)) (second.before t c (omega (arith, le, first.later)) is);
}

-- ---- records

module _ {D : Type 0} (tells : DiskTells D) where
  -- what is left of records at rest
  pub rest_images : (r : Records D) → Rests tells r → (image : List ℕ) → tells.allowed (disk_under r) image → EitherOf r image
  rest_images r rests image is = by_stale r.journal.stale refl
    where
      by_stale : (b : Bool) → r.journal.stale ≡ b → WithOrWithout r r.book.entries (cond b r.group.items []) image
      by_stale false fresh = inl (stands_for r r.book.entries rests.items rests.carries image (stands_now tells _ rests.items r.journal (rests.fresh fresh) image is))
      by_stale true stale =
          let d = rests.doubt stale in
          stands_either r r.book.entries rests.items rests.carries r.group.items d.group d.some image (d.rest.images image is)

  told : (o : Option (List ℕ)) (P Q : List ℕ → Type 0) → ((c : List ℕ) → P c → Q c) → IfSome o P → IfSome o Q
  told None P Q step some = tt
  told (Some c) P Q step some = step c some

  -- what the content stands for
  pub rest_content : (r : Records D) → Rests tells r → IfSome (tells.content (disk_under r)) (EitherOf r)
  rest_content r rests = by_stale r.journal.stale refl
    where
      by_stale : (b : Bool) → r.journal.stale ≡ b → IfSome (tells.content (disk_under r)) (WithOrWithout r r.book.entries (cond b r.group.items []))
      by_stale false fresh = told (tells.content (disk_under r)) (Stands (front_bytes r.book.cap r.charter) rests.items) (WithOrWithout r r.book.entries [])
          (λ c stands. inl (stands_for r r.book.entries rests.items rests.carries c stands)) (rests.fresh fresh).bytes
      by_stale true stale =
          let d = rests.doubt stale in
          told (tells.content (disk_under r)) (BeforeOrAfter (front_bytes r.book.cap r.charter) rests.items (entries_bytes r.group.items)) (WithOrWithout r r.book.entries r.group.items)
          (λ c stands. stands_either r r.book.entries rests.items rests.carries r.group.items d.group d.some c stands) d.rest.bytes

  -- what the content of a journal at rest stands for
  pub fresh_content : (r : Records D) → Rests tells r → r.journal.stale ≡ false → IfSome (tells.content (disk_under r)) (StandsFor r.charter r.book.cap r.book.entries)
  fresh_content r rests fresh =
      told (tells.content (disk_under r)) (Stands (front_bytes r.book.cap r.charter) rests.items) (StandsFor r.charter r.book.cap r.book.entries)
      (λ c stands. stands_for r r.book.entries rests.items rests.carries c stands) (rests.fresh fresh).bytes

  -- and what a stop leaves of it
  pub fresh_images : (r : Records D) → Rests tells r → r.journal.stale ≡ false → (image : List ℕ) → tells.allowed (disk_under r) image → StandsFor r.charter r.book.cap r.book.entries image
  fresh_images r rests fresh image is = stands_for r r.book.entries rests.items rests.carries image (stands_now tells _ rests.items r.journal (rests.fresh fresh) image is)

  -- all but the entries, the group and what the journal holds
  pub record SameFrame (old new : Records D) : Type 0 where
    pub charter : new.charter ≡ old.charter
    pub cap : new.book.cap ≡ old.book.cap
    pub most : new.journal.cap ≡ old.journal.cap
    pub room : new.journal.room ≡ old.journal.room

  -- the front stays
  same_front : (old new : Records D) → SameFrame old new → front_bytes new.book.cap new.charter ≡ front_bytes old.book.cap old.charter
  same_front old new same = rw (same.cap, same.charter) refl

  carries_same : (old new : Records D) (entries : List Entry) (items : List (List ℕ)) → SameFrame old new → Carries old entries items → Carries new entries items
  carries_same old new entries items same carries = record {
    joins = carries.joins;
    terms = rw (same.cap, same.charter) carries.terms;
    cap = same.most ∙ carries.cap ∙ sym same.cap;
    room = same.room ∙ carries.room;
    legal = subst (λ (charter : Charter). LegalUnder charter.version charter.rate entries) (sym same.charter) carries.legal;
    count = omega (arith, carries.count, same.cap);
  }

  -- nothing is in doubt
  pub fresh_rests : (old new : Records D) (entries : List Entry) (items : List (List ℕ)) → Carries old entries items → SameFrame old new → HasRoom new
      → AtRest tells (front_bytes old.book.cap old.charter) items new.journal → new.book.entries ≡ entries → Rests tells new
  fresh_rests old new entries items carries same has rest is = record {
    items = items;
    carries = subst (λ (es : List Entry). Carries new es items) (sym is) (carries_same old new entries items same carries);
    has = has;
    fresh = λ fresh. subst (λ (front : List ℕ). AtRest tells front items new.journal) (sym (same_front old new same)) rest;
    doubt = λ stale. absurd (no_both new.journal.stale rest.fresh stale);
  }

  -- the group is an item
  pub grown_rests : (old new : Records D) (entries group : List Entry) (items : List (List ℕ)) → Carries old entries items → IsGroup old.charter old.book.cap entries group → (group ≡ [] → ⊥) → SameFrame old new → HasRoom new
      → AtRest tells (front_bytes old.book.cap old.charter) (items ++ entries_bytes group ∷ []) new.journal → new.book.entries ≡ entries ++ group → Rests tells new
  grown_rests old new entries group items carries is some same has rest grown =
      fresh_rests old new (entries ++ group) (items ++ entries_bytes group ∷ [])
      (record {
        joins = joins_item items (entries_bytes group) entries group carries.joins (spells old.charter old.book.cap entries group is some);
        terms = carries.terms;
        cap = carries.cap;
        room = carries.room;
        legal = is.legal;
        count = is.within;
      }) same has rest grown

  -- the group is in doubt
  pub doubt_rests : (old new : Records D) (entries : List Entry) (items : List (List ℕ)) → Carries old entries items → IsGroup old.charter old.book.cap entries new.group.items → (new.group.items ≡ [] → ⊥) → SameFrame old new → HasRoom new
      → InDoubt tells (front_bytes old.book.cap old.charter) items (entries_bytes new.group.items) new.journal → new.book.entries ≡ entries → Rests tells new
  doubt_rests old new entries items carries group some same has rest is = record {
    items = items;
    carries = subst (λ (es : List Entry). Carries new es items) (sym is) (carries_same old new entries items same carries);
    has = has;
    fresh = λ fresh. absurd (no_both new.journal.stale fresh rest.stale);
    doubt = λ stale. record {
      some = some;
      group = subst (λ (charter : Charter). IsGroup charter new.book.cap new.book.entries new.group.items) (sym same.charter)
          (subst (λ (cap : ℕ). IsGroup old.charter cap new.book.entries new.group.items) (sym same.cap) (subst (λ (es : List Entry). IsGroup old.charter old.book.cap es new.group.items) (sym is) group));
      rest = subst (λ (front : List ℕ). InDoubt tells front items (entries_bytes new.group.items) new.journal) (sym (same_front old new same)) rest;
    };
  }

  -- one entry more of a turn
  pub gathered : (old new : Records D) (e : Entry) (g : Gathers tells old) → SameFrame old new → HasRoom new → new.journal ≡ old.journal → new.base ≡ old.base → new.book.entries ≡ old.book.entries ++ e ∷ [] → new.group.items ≡ old.group.items ++ e ∷ []
      → new.item.items ≡ old.item.items ++ entry_bytes e → IsEntry e → NextUnder old.charter.version old.charter.rate old.book.entries e → length old.book.entries < old.book.cap → length old.group.items < MAX_ITEM_ENTRIES → Gathers tells new
  gathered old new e g same has journal base entries group item fits next within few = record {
    items = g.items;
    carries = subst (λ (es : List Entry). Carries new es g.items) (sym over) (carries_same old new (over_of old) g.items same g.carries);
    has = has;
    rest = subst (λ (j : Journal D). AtRest tells (front_bytes new.book.cap new.charter) g.items j) (sym journal) (subst (λ (front : List ℕ). AtRest tells front g.items old.journal) (sym (same_front old new same)) g.rest);
    base = omega (arith, g.base, base, ap length entries, length-append old.book.entries (e ∷ []));
    whole = whole;
    group = record {
      legal = subst (λ (charter : Charter). LegalUnder charter.version charter.rate (over_of new ++ new.group.items)) (sym same.charter)
          (subst (LegalUnder old.charter.version old.charter.rate) whole (subst (LegalUnder old.charter.version old.charter.rate) (sym entries)
          (under_more old.charter.version old.charter.rate old.book.entries e (subst (LegalUnder old.charter.version old.charter.rate) (sym g.whole) g.group.legal) next)));
      within = omega (arith, ap length whole, ap length entries, length-append old.book.entries (e ∷ []), within, same.cap);
      each = subst (AllByRecursion IsEntry) (sym group) (all_more IsEntry old.group.items e g.group.each fits);
      most = omega (arith, ap length group, length-append old.group.items (e ∷ []), few);
    };
    bytes = item ∙ ap (λ (xs : List ℕ). xs ++ entry_bytes e) g.bytes ∙ ap (λ (xs : List ℕ). entries_bytes old.group.items ++ xs) (sym (append-nil (entry_bytes e)))
        ∙ sym (flat_map-append entry_bytes old.group.items (e ∷ [])) ∙ ap entries_bytes (sym group);
  }
    where
      over : over_of new ≡ over_of old
      over = rw (base, entries) (take-append-le old.base old.book.entries (e ∷ []) g.base)

      whole : new.book.entries ≡ over_of new ++ new.group.items
      whole =
          entries ∙ ap (λ (es : List Entry). es ++ e ∷ []) g.whole ∙ append_assoc (over_of old) old.group.items (e ∷ []) ∙ ap (λ (es : List Entry). over_of old ++ es) (sym group)
          ∙ ap (λ (es : List Entry). es ++ new.group.items) (sym over)

  -- its bytes leave room for one more
  pub item_room : (r : Records D) (g : Gathers tells r) → length r.group.items < MAX_ITEM_ENTRIES → length r.item.items + MAX_ENTRY ≤ vec_capacity r.item
  item_room r g few = omega (arith, g.has.item, short_entries r.group.items g.group.each, few, ap length g.bytes)

  -- nothing was gathered
  pub idle_rests : (r : Records D) (g : Gathers tells r) → r.group.items ≡ [] → Rests tells r
  idle_rests r g none =
      fresh_rests r r (over_of r) g.items g.carries (record { charter = refl; cap = refl; most = refl; room = refl }) g.has g.rest
      (g.whole ∙ ap (λ (es : List Entry). over_of r ++ es) none ∙ append-nil (over_of r))

  -- the journal is not full, and an item has room
  pub not_full : (r : Records D) (g : Gathers tells r) → (r.group.items ≡ [] → ⊥) → r.journal.cap ≤ r.journal.len → ⊥
  not_full r g some full =
      omega (arith, full, g.rest.count, g.carries.cap, few_items g.items (over_of r) g.carries.joins, g.group.within, length-append (over_of r) r.group.items, some_length r.group.items some)

  pub not_big : (r : Records D) (item : List ℕ) (g : Gathers tells r) → item ≡ r.item.items → r.journal.room < length item → ⊥
  not_big r item g is big = omega (arith, big, g.carries.room, ap length is, ap length g.bytes, short_entries r.group.items g.group.each, g.group.most)

  -- settling what is in doubt
  pub settle_leaves : (r : Records D) (new : D) → Rests tells r → r.journal.stale ≡ true
      → ((front : List ℕ) (items : List (List ℕ)) (item : List ℕ) → InDoubt tells front items item r.journal → LeavesOnly tells (disk_under r) new (BeforeOrAfter front items item))
      → LeavesOnly tells (disk_under r) new (EitherOf r)
  settle_leaves r new rests stale each =
      let d = rests.doubt stale in
      subst (λ (b : Bool). LeavesOnly tells (disk_under r) new (WithOrWithout r r.book.entries (cond b r.group.items []))) (sym stale)
      (leaves_more tells (disk_under r) new (BeforeOrAfter (front_bytes r.book.cap r.charter) rests.items (entries_bytes r.group.items)) (WithOrWithout r r.book.entries r.group.items)
      (stands_either r r.book.entries rests.items rests.carries r.group.items d.group d.some)
      (each _ rests.items (entries_bytes r.group.items) d.rest))

  -- appending the group
  pub record_leaves : (r : Records D) (new : D) (item : List ℕ) (g : Gathers tells r) → (r.group.items ≡ [] → ⊥) → item ≡ r.item.items
      → ((front : List ℕ) (items : List (List ℕ)) → AtRest tells front items r.journal → LeavesOnly tells (disk_under r) new (BeforeOrAfter front items item))
      → LeavesOnly tells (disk_under r) new (WithOrWithout r (over_of r) r.group.items)
  record_leaves r new item g some is each =
      leaves_more tells (disk_under r) new (BeforeOrAfter (front_bytes r.book.cap r.charter) g.items item) (WithOrWithout r (over_of r) r.group.items)
      (λ c stands. stands_either r (over_of r) g.items g.carries r.group.items g.group some c
      (subst (λ (x : List ℕ). BeforeOrAfter (front_bytes r.book.cap r.charter) g.items x c) (is ∙ g.bytes) stands))
      (each _ g.items g.rest)

  -- ---- what is written

  -- the journal's gate stands behind the items
  gate_at : (r : Records D) → Gathers tells r → IsGate r.charter r.book.cap (over_of r) (tells.content (disk_under r)) r.journal.gate
  gate_at r g = record { items = g.items; joins = g.carries.joins; stands = g.rest.bytes; place = g.rest.place }

  pub writes_at : (r : Records D) (item : List ℕ) (new : Option (List ℕ)) → Gathers tells r → (r.group.items ≡ [] → ⊥) → item ≡ r.item.items
      → new ≡ wrote_at (tells.content (disk_under r)) r.journal.gate (appended_bytes r.journal.gate item) → WritesItem r.charter r.book.cap (over_of r) r.group.items (tells.content (disk_under r)) new
  writes_at r item new g some is wrote = of_group r.group.items some (is ∙ g.bytes)
    where
      of_group : (group : List Entry) → (group ≡ [] → ⊥) → item ≡ entries_bytes group → WritesItem r.charter r.book.cap (over_of r) group (tells.content (disk_under r)) new
      of_group [] some same = absurd (some refl)
      of_group (e ∷ more) some same = (r.journal.gate, gate_at r g, wrote ∙ ap (λ (bytes : List ℕ). wrote_at (tells.content (disk_under r)) r.journal.gate (appended_bytes r.journal.gate bytes)) same)

  pub tears_at : (r : Records D) (item : List ℕ) (new : Option (List ℕ)) → Gathers tells r → item ≡ r.item.items
      → MayTear (tells.content (disk_under r)) new r.journal.gate (length item + 6 + zeros_behind r.journal.gate item) → TearsItem r.charter r.book.cap (over_of r) r.group.items (tells.content (disk_under r)) new
  tears_at r item new g is torn =
      (r.journal.gate, gate_at r g, subst (λ (bytes : List ℕ). MayTear (tells.content (disk_under r)) new r.journal.gate (length bytes + 6 + zeros_behind r.journal.gate bytes)) (is ∙ g.bytes) torn)
