-- Entries read from an item, one after another.
use Rattle.std.proofs.Common.{◌≡◌, ◌⊎◌, inl, inr, ⊎_elim, ℕ, ◌+◌, ◌<◌, ◌≤◌, List, [], ◌∷◌, ◌++◌, length, take, drop, Result, Ok, Err, refl, sym, ap, subst, ◌∙◌, append_assoc, arith, length-append}
use Rattle.std.specs.List.{AllByRecursion}
use Rattle.std.proofs.lemmas.List.{append-nil, take-append-drop, take_at, drop-drop, drop_all, length-drop}
use Rattle.std.proofs.lemmas.Grind.{flat_map-append}
use Rattle.nb_units.specs.declared.charter.Charter.{Charter}
use Rattle.nb_units.specs.Laws.{StandsAt}
use Rattle.nb_entry.specs.declared.entry.Entry.{Entry}
use Rattle.nb_entry.specs.declared.entry.Entry.TheVariants.{Enrol, Fund, Paid, Charged, Refused}
use Rattle.nb_entry.specs.declared.spelling.EntryFault.{EntryFault}
use Rattle.nb_entry.specs.declared.spelling.TheConstants.{MAX_ITEM_ENTRIES}
use Rattle.nb_book.specs.Legal.{LegalUnder, NextUnder}
use Rattle.nb_entry.specs.Spelling.{IsEntry, Spells, entry_bytes, entries_bytes, bytes_of_kind}
use Rattle.nb_entry.proofs.Layouts.{one_spelling, entry_long}
use Rattle.nb_vault.specs.Restoring.{SpellsNothing}
use Rattle.nb_vault.proofs.Joining.{all_more, under_at}

-- an entry has bytes
entry_some : (e : Entry) → IsEntry e → 1 ≤ length (entry_bytes e)
entry_some e fits = omega (arith, entry_long e fits, some e)
  where
    some : (e : Entry) → 1 ≤ bytes_of_kind e
    some (Enrol id role acct nonce key) = omega arith
    some (Fund acct amount reference) = omega arith
    some (Paid digest epoid consumer merchant product price cacct macct moment key) = omega arith
    some (Charged digest epoid consumer merchant product price fee cacct macct moment key) = omega arith
    some (Refused digest epoid consumer merchant product price code a b moment) = omega arith

-- so many entries were read of an item, up to the place
pub record ReadOn (item : List ℕ) (before now : List Entry) (place n : ℕ) : Type 0 where
  pub read : List Entry
  pub bytes : item ≡ entries_bytes read ++ drop place item
  pub inside : place ≤ length item
  pub each : AllByRecursion IsEntry read
  pub count : n ≡ length read
  pub entries : now ≡ before ++ read
  pub more : (read ≡ []) ⊎ (place < length item)

pub read_none : (item : List ℕ) (before : List Entry) → ReadOn item before before 0 0
read_none item before = record { read = []; bytes = refl; inside = omega arith; each = tt; count = refl; entries = sym (append-nil before); more = inl refl }

-- what stands at a place, and what follows it
behind : (item field : List ℕ) (place : ℕ) → StandsAt field item place → drop place item ≡ field ++ drop (place + length field) item
behind item field place stands =
    sym (take-append-drop (length field) (drop place item)) ∙ ap (λ (xs : List ℕ). xs ++ drop (length field) (drop place item)) stands ∙ ap (λ (xs : List ℕ). field ++ xs) (drop-drop (length field) place item)

-- one entry more
pub read_more : (item : List ℕ) (before now after : List Entry) (place place' n : ℕ) (e : Entry) → ReadOn item before now place n → IsEntry e → StandsAt (entry_bytes e) item place → place' ≡ place + length (entry_bytes e) → place' < length item
    → after ≡ now ++ e ∷ [] → ReadOn item before after place' (n + 1)
read_more item before now after place place' n e so_far fits stands at left is = record {
  read = so_far.read ++ e ∷ [];
  bytes = bytes;
  inside = omega (arith, left);
  each = all_more IsEntry so_far.read e so_far.each fits;
  count = omega (arith, so_far.count, length-append so_far.read (e ∷ []));
  entries = is ∙ ap (λ (es : List Entry). es ++ e ∷ []) so_far.entries ∙ append_assoc before so_far.read (e ∷ []);
  more = inr left;
}
  where
    bytes : item ≡ entries_bytes (so_far.read ++ e ∷ []) ++ drop place' item
    bytes =
        so_far.bytes ∙ ap (λ (xs : List ℕ). entries_bytes so_far.read ++ xs) (behind item (entry_bytes e) place stands)
        ∙ ap (λ (m : ℕ). entries_bytes so_far.read ++ (entry_bytes e ++ drop m item)) (sym at)
        ∙ sym (append_assoc (entries_bytes so_far.read) (entry_bytes e) (drop place' item))
        ∙ ap (λ (xs : List ℕ). (entries_bytes so_far.read ++ xs) ++ drop place' item) (sym (append-nil (entry_bytes e)))
        ∙ ap (λ (xs : List ℕ). xs ++ drop place' item) (sym (flat_map-append entry_bytes so_far.read (e ∷ [])))

-- the last entry
pub read_all : (item : List ℕ) (before now after : List Entry) (place place' n : ℕ) (e : Entry) → ReadOn item before now place n → n < MAX_ITEM_ENTRIES → IsEntry e → StandsAt (entry_bytes e) item place → place' ≡ place + length (entry_bytes e) → length item ≤ place'
    → after ≡ now ++ e ∷ [] → (entries : List Entry) × Spells item entries × (after ≡ before ++ entries)
read_all item before now after place place' n e so_far few fits stands at left is = (
  so_far.read ++ e ∷ [],
  record {
    bytes = bytes;
    each = all_more IsEntry so_far.read e so_far.each fits;
    some = omega (arith, length-append so_far.read (e ∷ []));
    most = omega (arith, few, so_far.count, length-append so_far.read (e ∷ []));
  },
  is ∙ ap (λ (es : List Entry). es ++ e ∷ []) so_far.entries ∙ append_assoc before so_far.read (e ∷ []),
)
  where
    bytes : item ≡ entries_bytes (so_far.read ++ e ∷ [])
    bytes =
        so_far.bytes ∙ ap (λ (xs : List ℕ). entries_bytes so_far.read ++ xs) (behind item (entry_bytes e) place stands)
        ∙ ap (λ (xs : List ℕ). entries_bytes so_far.read ++ (entry_bytes e ++ xs)) (drop_all (place + length (entry_bytes e)) item (omega (arith, at, left)))
        ∙ sym (flat_map-append entry_bytes so_far.read (e ∷ []))

-- ---- entries that the item spells go on where reading stands

pub goes_on : (read entries : List Entry) (rest : List ℕ) → AllByRecursion IsEntry read → AllByRecursion IsEntry entries → entries_bytes read ++ rest ≡ entries_bytes entries
    → (more : List Entry) × (entries ≡ read ++ more) × (rest ≡ entries_bytes more) × AllByRecursion IsEntry more
goes_on [] entries rest all each same = (entries, refl, same, each)
goes_on (r ∷ read) [] rest all each same =
    let none : length (entry_bytes r ++ (entries_bytes read ++ rest)) ≡ 0 = ap length (sym (append_assoc (entry_bytes r) (entries_bytes read) rest) ∙ same) in
    absurd (omega (arith, none, entry_some r all.0, length-append (entry_bytes r) (entries_bytes read ++ rest)))
goes_on (r ∷ read) (e ∷ entries) rest all each same =
    let one = one_spelling.0 r e (entries_bytes read ++ rest) (entries_bytes entries) all.0 each.0 (sym (append_assoc (entry_bytes r) (entries_bytes read) rest) ∙ same) in
    let more = goes_on read entries rest all.1 each.1 one.1 in
    (more.0, ap (λ (es : List Entry). es ++ entries) (ap (λ (x : Entry). x ∷ []) (sym one.0)) ∙ ap (λ (es : List Entry). r ∷ es) more.1, more.2, more.3)

-- an entry that the item spells and that is not read yet: it stands where reading goes on
pub record LeftOver (item : List ℕ) (read entries : List Entry) (place : ℕ) : Type 0 where
  pub next : Entry
  pub more : List Entry
  pub is : entries ≡ read ++ next ∷ more
  pub fits : IsEntry next
  pub stands : StandsAt (entry_bytes next) item place

-- there is one
pub left_over : (item : List ℕ) (before now : List Entry) (place n : ℕ) (entries : List Entry) (so_far : ReadOn item before now place n) → Spells item entries → LeftOver item so_far.read entries place
left_over item before now place n entries so_far spells = some (goes_on so_far.read entries (drop place item) so_far.each spells.each (sym so_far.bytes ∙ spells.bytes))
  where
    nothing : (ms : List Entry) → entries ≡ so_far.read ++ ms → drop place item ≡ entries_bytes ms → AllByRecursion IsEntry ms → LeftOver item so_far.read entries place
    nothing [] is rest each =
        absurd (⊎_elim (λ none. omega (arith, spells.some, ap length is, ap length (append-nil so_far.read), ap length none)) (λ left. omega (arith, left, ap length rest, length-drop place item)) so_far.more)
    nothing (e ∷ ms) is rest each = record {
      next = e;
      more = ms;
      is = is;
      fits = each.0;
      stands = ap (take (length (entry_bytes e))) rest ∙ take_at (entry_bytes e) (entries_bytes ms) (length (entry_bytes e)) refl;
    }

    some : ((more : List Entry) × (entries ≡ so_far.read ++ more) × (drop place item ≡ entries_bytes more) × AllByRecursion IsEntry more) → LeftOver item so_far.read entries place
    some m = nothing m.0 m.1 m.2 m.3

-- ---- why an item spells no entries that may come next

-- all entries, with those that are left over
all_of : (before now read entries : List Entry) (next : Entry) (more : List Entry) → now ≡ before ++ read → entries ≡ read ++ next ∷ more → before ++ entries ≡ now ++ next ∷ more
all_of before now read entries next more a b = ap (λ (es : List Entry). before ++ es) b ∙ sym (append_assoc before read (next ∷ more)) ∙ ap (λ (es : List Entry). es ++ next ∷ more) (sym a)

module _ (charter : Charter) (cap : ℕ) (item : List ℕ) (before now : List Entry) (place n : ℕ) (so_far : ReadOn item before now place n) where
  -- no entry is read there
  pub bad_unread : (result : Result Entry EntryFault) (fault : EntryFault) → ((e : Entry) → IsEntry e → StandsAt (entry_bytes e) item place → result ≡ Ok e) → result ≡ Err fault → SpellsNothing charter cap item before
  bad_unread result fault found is entries spells list =
      let left = left_over item before now place n entries so_far spells in
      no_result (sym (found left.next left.fits left.stands) ∙ is)
    where
      no_result : {e : Entry} → (let ok : Result Entry EntryFault = Ok e in ok ≡ Err fault) → ⊥
      no_result both = cc

  -- as many are held as may be
  pub bad_full : cap ≤ length now → SpellsNothing charter cap item before
  bad_full full entries spells list =
      let left = left_over item before now place n entries so_far spells in
      omega (arith, full, list.within, ap length (all_of before now so_far.read entries left.next left.more so_far.entries left.is), length-append now (left.next ∷ left.more))

  -- the entry there may not come next
  pub bad_illegal : (result : Result Entry EntryFault) (e : Entry) → ((e : Entry) → IsEntry e → StandsAt (entry_bytes e) item place → result ≡ Ok e) → result ≡ Ok e → (NextUnder charter.version charter.rate now e → ⊥) → SpellsNothing charter cap item before
  bad_illegal result e found is illegal entries spells list =
      let left = left_over item before now place n entries so_far spells in
      let legal : LegalUnder charter.version charter.rate (now ++ left.next ∷ left.more) = subst (LegalUnder charter.version charter.rate) (all_of before now so_far.read entries left.next left.more so_far.entries left.is) list.legal in
      illegal (subst (NextUnder charter.version charter.rate now) (same (sym (found left.next left.fits left.stands) ∙ is)) (under_at charter.version charter.rate now left.next left.more legal))
    where
      same : {d : Entry} → (let ok : Result Entry EntryFault = Ok d in ok ≡ Ok e) → d ≡ e
      same both = cc

  -- there are too many
  pub bad_long : MAX_ITEM_ENTRIES ≤ n → SpellsNothing charter cap item before
  bad_long many entries spells list =
      let left = left_over item before now place n entries so_far spells in
      omega (arith, many, spells.most, so_far.count, ap length left.is, length-append so_far.read (left.next ∷ left.more))
