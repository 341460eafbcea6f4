-- A journal of the first version, with a rate written in it and the magic of the second: it stands for the same entries.
use Rattle.std.proofs.Common.{◌≡◌, ℕ, ◌+◌, ◌-◌, ◌≤◌, ◌⊎◌, List, [], ◌∷◌, ◌++◌, length, take, drop, Option, Some, None, refl, sym, ap, subst, ◌∙◌, arith, inl, inr, slice_index_or, length-append, append-nil}
use Rattle.std.specs.Prelude.{IfSome, replicate}
use Rattle.std.specs.List.{flat_map}
use Rattle.std.proofs.lemmas.List.{append_assoc, drop-drop, length-take}
use Rattle.std.proofs.lemmas.Option.{same_Some}
use Rattle.std.proofs.Math.Seq.{take-append-add, take-append_seam, drop-append-add, drop-append_seam}
use Rattle.nb_port.specs.Tells.{DiskTells}
use Rattle.nb_port.specs.Disk.{Only, Torn, put_at, wrote_at}
use Rattle.nb_port.specs.Faults.{Rose}
use Rattle.nb_units.specs.Fields.{be2, be4}
use Rattle.nb_units.specs.declared.charter.Charter.{Charter}
use Rattle.nb_units.specs.declared.limits.TheConstants.{HEAD, MAX_RATE}
use Rattle.nb_entry.specs.declared.entry.Entry.{Entry}
use Rattle.nb_book.proofs.Rates.{first_stays_legal}
use Rattle.nb_journal.specs.Layout.{IsMagic, front_bytes, item_bytes, magic, up_to_gate}
use Rattle.nb_journal.specs.Making.{NoJournal, with_fee, without_fee}
use Rattle.nb_journal.specs.Migrating.{TornCrown, blanked}
use Rattle.nb_journal.specs.Reading.{IsDamaged, IsUnborn, found_in}
use Rattle.nb_journal.specs.Stands.{Stands}
use Rattle.nb_journal.specs.Time.{Unwritten}
use Rattle.nb_journal.specs.declared.limits.TheConstants.{MAX_IMAGE}
use Rattle.nb_journal.proofs.Crowning.{crown_stands}
use Rattle.nb_journal.proofs.Opens.{front_length}
use Rattle.nb_turns.specs.Lines.{entries_of}
use Rattle.nb_vault.specs.declared.vault.opening.VaultFault.{VaultFault}
use Rattle.nb_vault.specs.declared.vault.opening.VaultFault.TheVariants as opens
use Rattle.nb_vault.specs.Holdings.{Joins, StandsFor}
use Rattle.nb_vault.specs.Opens.{IsBadEntry, VaultOpenFails, VaultOpensAs}
use Rattle.nb_vault.specs.Vaults.{Chronicled, GateIsAt, HoldsItems, entries_in, doubt_in}
use Rattle.nb_entry.specs.Spelling.{entries_bytes}
use Rattle.nb_vault.proofs.HoldingLaws.{no_damage, no_bad}
use Rattle.nb_commands.specs.declared.ending.TheConstants.{CLEAN, OUT_OF_MEMORY}
use Rattle.nb_commands.specs.declared.migrate.MigrateEnd.{MigrateEnd}
use Rattle.nb_commands.specs.declared.migrate.MigrateEnd.TheVariants.{Moved, ReadFault, TooLong, NotFirst, Damaged, BadEntry, NoMemory, Exists, LookFault, LayFault, CrownFault}
use Rattle.nb_commands.specs.Init.{HasNoJournal}
use Rattle.nb_commands.specs.Input.{TookAll, TookMore}
use Rattle.nb_commands.specs.Migrate.{BeginsFirst, EndsAt, IsFirst, IsFirstInput, IsLaid, IsMoved, IsRefused, LaidSo, MovesAs, PutsAs, StandsIfCrowned, move_ending, refused_for, renewed}
use Rattle.nb_commands.proofs.Making.{not_born}

-- ---- the bytes

-- bytes put over as many others
put_over : (front old behind bytes : List ℕ) → length bytes ≡ length old → put_at (front ++ (old ++ behind)) (length front) bytes ≡ front ++ (bytes ++ behind)
unfolding put_at
put_over front old behind bytes same =
    rw (take-append_seam front (old ++ behind), drop-append-add front (old ++ behind) (length bytes))
    (append_assoc front bytes (drop (length bytes) (old ++ behind)) ∙ ap (λ (n : ℕ). front ++ (bytes ++ drop n (old ++ behind))) same ∙ ap (λ (xs : List ℕ). front ++ (bytes ++ xs)) (drop-append_seam old behind))

-- the terms of a front, with what follows them: cap and head, the rate, and the rest
parts : (cap head rate zeros flat gate : List ℕ) → ((cap ++ (head ++ (rate ++ zeros))) ++ flat) ++ gate ≡ (cap ++ head) ++ (rate ++ (zeros ++ (flat ++ gate)))
parts cap head rate zeros flat gate =
    append_assoc (cap ++ (head ++ (rate ++ zeros))) flat gate
    ∙ append_assoc cap (head ++ (rate ++ zeros)) (flat ++ gate)
    ∙ ap (λ (xs : List ℕ). cap ++ xs) (append_assoc head (rate ++ zeros) (flat ++ gate))
    ∙ ap (λ (xs : List ℕ). cap ++ (head ++ xs)) (append_assoc rate zeros (flat ++ gate))
    ∙ sym (append_assoc cap head (rate ++ (zeros ++ (flat ++ gate))))

-- a journal of the second version, which is the renewed image but for the magic
record Second (cap : ℕ) (head : List ℕ) (rate : ℕ) (items : List (List ℕ)) (image : List ℕ) : Type 0 where
  whole : List ℕ
  stands : Stands (front_bytes cap (with_fee head rate)) items whole
  same : drop 8 image ≡ drop 8 whole

second_of : (cap : ℕ) (head : List ℕ) (rate : ℕ) (items : List (List ℕ)) (image : List ℕ) (gate : ℕ) → length head ≡ HEAD → Stands (front_bytes cap (without_fee head)) items image
    → gate ≡ length (up_to_gate (front_bytes cap (without_fee head)) items) → Second cap head rate items (renewed image gate rate)
second_of cap head rate items image gate whole stands place =
    let flat = flat_map item_bytes items in
    let zeros : List ℕ = 0 ∷ 0 ∷ [] in
    let last : List ℕ = stands.gate ∷ [] in
    let before : List ℕ = magic 1 ++ (be4 cap ++ head) in
    let behind : List ℕ = zeros ++ (flat ++ last) in
    let upto = up_to_gate (front_bytes cap (without_fee head)) items in
    let cut : take (gate + 1) image ≡ before ++ (be2 0 ++ behind) =
    ap (λ (n : ℕ). take (n + 1) image) place ∙ ap (take (length upto + 1)) stands.bytes ∙ take-append-add upto (stands.gate ∷ stands.rest) 1
    ∙ ap (λ (xs : List ℕ). magic 1 ++ xs) (parts (be4 cap) head (be2 0) zeros flat last) in
    let long : 92 ≡ length before = omega (arith, length-append (be4 cap) head, whole) in
    let put : renewed image gate rate ≡ before ++ (be2 rate ++ behind) =
    ap (λ (xs : List ℕ). put_at xs 92 (be2 rate)) cut ∙ ap (λ (n : ℕ). put_at (before ++ (be2 0 ++ behind)) n (be2 rate)) long ∙ put_over before (be2 0) behind (be2 rate) refl in
    record {
      whole = up_to_gate (front_bytes cap (with_fee head rate)) items ++ last;
      stands = record { gate = stands.gate; rest = []; shut = stands.shut; bytes = refl };
      same = ap (drop 8) put ∙ sym (parts (be4 cap) head (be2 rate) zeros flat last);
    }

-- where its gate stands
pub gate_within : (image : List ℕ) (gate : ℕ) → EndsAt image gate → (96 ≤ gate) × (gate + 1 ≤ length image)
gate_within image gate e =
    let front = front_bytes e.cap (without_fee e.head) in
    let upto = up_to_gate front e.items in
    let long : length upto ≡ 96 + length (flat_map item_bytes e.items) = length-append front (flat_map item_bytes e.items) ∙ ap (λ (n : ℕ). n + length (flat_map item_bytes e.items)) (front_length e.cap (without_fee e.head) e.whole.terms) in
    let all : length image ≡ length upto + length (e.shut.gate ∷ e.shut.rest) = ap length e.shut.bytes ∙ length-append upto (e.shut.gate ∷ e.shut.rest) in
    (omega (arith, long, e.place), omega (arith, all, e.place))

-- ---- what is laid and crowned

module _ (image : List ℕ) (gate rate : ℕ) (e : EndsAt image gate) (few : rate ≤ MAX_RATE) where
  abbrev charter : Charter
  charter = with_fee e.head rate

  abbrev laid_image : List ℕ
  laid_image = renewed image gate rate

  stands_for : (other : List ℕ) → Stands (front_bytes e.cap charter) e.items other → StandsFor charter e.cap e.entries other
  stands_for other stands = record {
    items = e.items;
    terms = record { some = e.whole.terms.some; most = e.whole.terms.most; whole = e.whole.terms.whole; ruled = inr (refl, few) };
    stands = stands;
    joins = e.joins;
    legal = first_stays_legal 0 rate e.entries e.whole.legal;
    within = e.whole.within;
  }

  -- once it is crowned, and while it is
  abbrev Crowns : List ℕ → List ℕ → Type 0
  Crowns old blank =
      Stands (front_bytes e.cap charter) e.items (put_at (put_at old 0 blank) 0 (magic 2))
      × ((left : List ℕ) → Torn 0 8 (put_at old 0 blank) left → take 8 left ≡ magic 2 → Stands (front_bytes e.cap charter) e.items left)

  crowns : (old : List ℕ) → Crowns old (blanked laid_image)
  crowns old =
      let second = second_of e.cap e.head rate e.items image gate e.whole.terms.whole e.shut e.place in
      subst (Crowns old) (ap (λ (xs : List ℕ). replicate 8 0 ++ xs) (sym second.same)) (crown_stands old second.whole charter e.cap e.items refl second.stands)

  -- what a stop leaves while the magic is written, for what the disk told before
  torn_so : (told laid : Option (List ℕ)) → laid ≡ wrote_at told 0 (blanked laid_image) → (c : List ℕ) → TornCrown laid c → IfSome laid (λ bytes. StandsIfCrowned e.head rate e.cap e.entries c)
  torn_so told None is c torn = tt
  torn_so None (Some bytes) is c torn = absurd cc
  torn_so (Some old) (Some bytes) is c torn = λ begins. stands_for c ((crowns old).1 c (subst (λ (b : List ℕ). Torn 0 8 b c) (same_Some bytes _ is) torn) begins)

  -- zeros are no magic
  zeros_first : (old bytes : List ℕ) (version : ℕ) → found_in (put_at old 0 (blanked bytes)) ≡ magic version → ⊥
  unfolding put_at
  zeros_first old bytes version is = omega (arith, ap (λ (xs : List ℕ). slice_index_or xs 0 1) is)

  no_magic : (old bytes : List ℕ) → IsMagic (found_in (put_at old 0 (blanked bytes))) → ⊥
  no_magic old bytes (inl is) = zeros_first old bytes 1 is
  no_magic old bytes (inr is) = zeros_first old bytes 2 is

  blank_so : (told laid : Option (List ℕ)) → laid ≡ wrote_at told 0 (blanked laid_image) → (c : List ℕ) → laid ≡ Some c → IsMagic (found_in c) → ⊥
  blank_so None laid is c only born = let none : None ≡ Some c = sym is ∙ only in absurd cc
  blank_so (Some old) laid is c only born = no_magic old laid_image (subst (λ (b : List ℕ). IsMagic (found_in b)) (same_Some c _ (sym only ∙ is)) born)

  -- both writes
  whole_so : (told : Option (List ℕ)) → IfSome (wrote_at (wrote_at told 0 (blanked laid_image)) 0 (magic 2)) (StandsFor charter e.cap e.entries)
  whole_so None = tt
  whole_so (Some old) = stands_for _ (crowns old).0

  once : (old bytes : List ℕ) → put_at (put_at old 0 (blanked bytes)) 0 (magic 2) ≡ put_at old 0 (magic 2 ++ drop 8 bytes)
  unfolding put_at
  once old bytes = refl

  once_at : (told : Option (List ℕ)) (bytes : List ℕ) → wrote_at (wrote_at told 0 (blanked bytes)) 0 (magic 2) ≡ wrote_at told 0 (magic 2 ++ drop 8 bytes)
  once_at None bytes = refl
  once_at (Some old) bytes = ap Some (once old bytes)

  module _ {D : Type 0} (tells : DiskTells D) (old mid laid new : D) (same : tells.content mid ≡ tells.content old) (unborn : NoJournal (tells.content old)) (so : LaidSo tells mid laid new laid_image) where
    pub laid_so : IsLaid tells old new image rate
    laid_so = record {
      gate = gate;
      first = e;
      laid = laid;
      unborn = unborn;
      bytes = so.bytes ∙ ap (λ (c : Option (List ℕ)). wrote_at c 0 (blanked laid_image)) same;
      blank = λ c allowed. blank_so (tells.content mid) (tells.content laid) so.bytes c (so.only c allowed);
      since = record {
        later = so.since.later;
        each = λ c left. torn_so (tells.content mid) (tells.content laid) so.bytes c (so.since.each c left);
        before = λ t c upto left. elim (so.since.before t c upto left) [
          | inl past ↦ inl past
          | inr torn ↦ inr (torn_so (tells.content mid) (tells.content laid) so.bytes c torn)
        ];
      };
    }

    pub moved_so : tells.content new ≡ wrote_at (tells.content laid) 0 (magic 2) → Only (tells.content new) (tells.allowed new) → IsMoved tells old new image rate
    unfolding laid_so
    moved_so crowned only =
        let both : tells.content new ≡ wrote_at (wrote_at (tells.content mid) 0 (blanked laid_image)) 0 (magic 2) = crowned ∙ ap (λ (c : Option (List ℕ)). wrote_at c 0 (magic 2)) so.bytes in
        let stands : IfSome (tells.content new) (StandsFor charter e.cap e.entries) = subst (λ (c : Option (List ℕ)). IfSome c (StandsFor charter e.cap e.entries)) (sym both) (whole_so (tells.content mid)) in
        record {
          way = laid_so;
          stands = stands;
          images = λ c allowed. subst (λ (told : Option (List ℕ)). IfSome told (StandsFor charter e.cap e.entries)) (only c allowed) stands;
          bytes = both ∙ once_at (tells.content mid) laid_image ∙ ap (λ (c : Option (List ℕ)). wrote_at c 0 (magic 2 ++ drop 8 laid_image)) same;
        }

  -- what came of putting it, as what came of moving it
  pub puts_moves : {D : Type 0} (tells : DiskTells D) (rest rest' : Option (List ℕ)) (source source' : ℕ) (old mid new : D) (end : MigrateEnd) → TookAll rest rest' MAX_IMAGE image → tells.content mid ≡ tells.content old → NoJournal (tells.content old)
      → tells.faults old ≤ tells.faults mid → (all : List ℕ) → all ≡ laid_image → PutsAs tells mid new all end → MovesAs tells rest rest' source source' old new rate end
  puts_moves tells rest rest' source source' old mid new Moved took same unborn count all is put =
      let so = subst (LaidSo tells mid put.0 new) is put.1 in
      (image, took, moved_so tells old mid put.0 new same unborn so put.2 put.3)
  puts_moves tells rest rest' source source' old mid new CrownFault took same unborn count all is put =
      let so = subst (LaidSo tells mid put.0 new) is put.1 in
      ((image, took, laid_so tells old mid put.0 new same unborn so), omega (arith, put.2, count))
  puts_moves tells rest rest' source source' old mid new LayFault took same unborn count all is put =
      ((image, took, (e.head, e.cap, e.entries, e.whole)), omega (arith, put, count), unborn)
  puts_moves tells rest rest' source source' old mid new ReadFault took same unborn count all is put = absurd put
  puts_moves tells rest rest' source source' old mid new TooLong took same unborn count all is put = absurd put
  puts_moves tells rest rest' source source' old mid new NotFirst took same unborn count all is put = absurd put
  puts_moves tells rest rest' source source' old mid new (Damaged place) took same unborn count all is put = absurd put
  puts_moves tells rest rest' source source' old mid new BadEntry took same unborn count all is put = absurd put
  puts_moves tells rest rest' source source' old mid new NoMemory took same unborn count all is put = absurd put
  puts_moves tells rest rest' source source' old mid new Exists took same unborn count all is put = absurd put
  puts_moves tells rest rest' source source' old mid new LookFault took same unborn count all is put = absurd put

-- ---- the rate is written in place

pub renewed_so : (whole front back rest bytes all : List ℕ) → all ≡ front ++ (bytes ++ rest) → front ≡ take 92 whole → back ≡ drop 92 whole → rest ≡ drop 2 back → length bytes ≡ 2 → all ≡ put_at whole 92 bytes
unfolding put_at
renewed_so whole front back rest bytes all is front_is back_is rest_is two =
    is ∙ ap (λ (xs : List ℕ). xs ++ (bytes ++ rest)) front_is
    ∙ ap (λ (xs : List ℕ). take 92 whole ++ (bytes ++ xs)) (rest_is ∙ ap (drop 2) back_is ∙ drop-drop 2 92 whole ∙ ap (λ (n : ℕ). drop (92 + n) whole) (sym two))
    ∙ sym (append_assoc (take 92 whole) bytes (drop (92 + length bytes) whole))

-- ---- what was opened

-- what begins with the first magic has no other charter
of_first : (charter : Charter) (cap : ℕ) (entries : List Entry) (image : List ℕ) → BeginsFirst image → StandsFor charter cap entries image → charter ≡ without_fee charter.head
of_first charter cap entries image first stands = elim stands.terms.ruled [
  | inl old ↦ λ i. record { head = charter.head; version = old.0 i; rate = old.1 i }
  | inr new ↦
      let begins : magic charter.version ≡ magic 1 = sym (ap (take 8) stands.stands.bytes) ∙ first in
      absurd (omega (arith, new.0, ap (λ (xs : List ℕ). slice_index_or xs 7 0) begins))
]

-- what a vault was opened over ends at its gate
pub opened_ends : {D : Type 0} (tells : DiskTells D) (disk : D) (v : Chronicled D) (image : List ℕ) (gate : ℕ) → BeginsFirst image → tells.content disk ≡ Some image → tells.content v.disk ≡ tells.content disk
    → VaultOpensAs tells disk v → GateIsAt tells v gate → EndsAt image gate
opened_ends tells disk v image gate first is same opened at =
    let stands : StandsFor v.origin.charter v.origin.cap v.origin.entries image =
    subst (λ (c : Option (List ℕ)). IfSome c (StandsFor v.origin.charter v.origin.cap v.origin.entries)) is opened.stands in
    let charter = of_first v.origin.charter v.origin.cap v.origin.entries image first stands in
    let entries : entries_in v ≡ v.origin.entries = ap (entries_of v.origin.entries) opened.lines ∙ append-nil v.origin.entries in
    let front = front_bytes v.origin.cap v.origin.charter in
    let held : HoldsItems v.stale front at.items (entries_bytes (doubt_in v)) image =
    subst (λ (c : Option (List ℕ)). IfSome c (HoldsItems v.stale front at.items (entries_bytes (doubt_in v)))) (same ∙ is) at.stands in
    let shut : Stands front at.items image = subst (λ b. HoldsItems b front at.items (entries_bytes (doubt_in v)) image) opened.durable.fresh held in
    record {
      head = v.origin.charter.head;
      cap = v.origin.cap;
      entries = v.origin.entries;
      items = at.items;
      whole = subst (λ (c : Charter). StandsFor c v.origin.cap v.origin.entries image) charter stands;
      joins = subst (Joins at.items) entries at.joins;
      shut = subst (λ (c : Charter). Stands (front_bytes v.origin.cap c) at.items image) charter shut;
      place = at.place ∙ ap (λ (c : Charter). length (up_to_gate (front_bytes v.origin.cap c) at.items)) charter;
    }

found_first : (image : List ℕ) → BeginsFirst image → found_in image ≡ magic 1
found_first image first =
    let long : 8 ≤ length image = omega (arith, ap length first, length-take 8 image) in
    let none : 8 - length image ≡ 0 = omega (arith, long) in
    ap (λ (xs : List ℕ). xs ++ replicate (8 - length image) 0) first ∙ ap (λ (n : ℕ). magic 1 ++ replicate n 0) none

-- why it was not opened
pub refused_is : {D : Type 0} {tells : DiskTells D} {old new : D} (image : List ℕ) (fault : VaultFault) → Unwritten tells old new → BeginsFirst image → tells.content old ≡ Some image → VaultOpenFails tells old new fault → IsRefused image (refused_for fault)
refused_is image (opens.Unborn found) nothing first is fails =
    let unborn : IsUnborn image found = subst (λ (c : Option (List ℕ)). IfSome c (λ image. IsUnborn image found)) is fails.1 in
    λ begins. fails.0 (inl (unborn.0 ∙ found_first image begins))
refused_is image (opens.Damaged item place) nothing first is fails = (first, (item, subst (λ (c : Option (List ℕ)). IfSome c (λ image. IsDamaged image item place)) is fails))
refused_is image (opens.BadEntry item) nothing first is fails = (first, (item, subst (λ (c : Option (List ℕ)). IfSome c (λ image. IsBadEntry image item)) is fails))
refused_is image (opens.DiskFault before after) nothing first is fails = tt
refused_is image opens.NoMemory nothing first is fails = tt

-- ---- a journal of the first version is moved

-- all of an input is the input
pub same_input : (left left' : Option (List ℕ)) (input bytes : List ℕ) (limit : ℕ) → left ≡ Some input → TookAll left left' limit bytes → bytes ≡ input
same_input None left' input bytes limit is took = absurd cc
same_input (Some all) None input bytes limit is took = absurd took.took
same_input (Some all) (Some behind) input bytes limit is took =
    sym (took.took ∙ ap (λ (xs : List ℕ). bytes ++ xs) took.ended ∙ append-nil bytes) ∙ same_Some all input is

-- and none is longer
pub not_longer : (left left' : Option (List ℕ)) (input : List ℕ) (limit : ℕ) → left ≡ Some input → length input ≤ limit → TookMore left left' limit → ⊥
not_longer None left' input limit is few took = absurd cc
not_longer (Some all) None input limit is few took = absurd took.took
not_longer (Some all) (Some behind) input limit is few took =
    let long : length input ≡ length took.taken + length behind = ap length (sym (same_Some all input is) ∙ took.took) ∙ length-append took.taken behind in
    omega (arith, long, few, took.many)

begins_first : (input : List ℕ) → IsFirst input → BeginsFirst input
begins_first input first = ap (take 8) first.3.stands.bytes

-- an input that was refused is no journal of the first version
not_refused : (input : List ℕ) (end : MigrateEnd) → IsFirst input → IsRefused input end → end ≡ NoMemory
not_refused input NoMemory first refused = refl
not_refused input NotFirst first refused = absurd (refused (begins_first input first))
not_refused input (Damaged place) first refused = absurd (no_damage (without_fee first.0) first.1 first.2 input refused.1.0 place first.3 refused.1.1)
not_refused input BadEntry first refused = absurd (no_bad (without_fee first.0) first.1 first.2 input refused.1.0 first.3 refused.1.1)
not_refused input Moved first refused = absurd refused
not_refused input ReadFault first refused = absurd refused
not_refused input TooLong first refused = absurd refused
not_refused input Exists first refused = absurd refused
not_refused input LookFault first refused = absurd refused
not_refused input LayFault first refused = absurd refused
not_refused input CrownFault first refused = absurd refused

abbrev EndsSo : MigrateEnd → Type 0
EndsSo end = ((move_ending end).status ≡ CLEAN) ⊎ ((move_ending end).status ≡ OUT_OF_MEMORY)

module _ {D : Type 0} (tells : DiskTells D) (rest rest' : Option (List ℕ)) (source source' : ℕ) (old new : D) (rate : ℕ) (input : IsFirstInput rest) where
  refused_so : (end : MigrateEnd) (bytes : List ℕ) (limit : ℕ) → TookAll rest rest' limit bytes → IsRefused bytes end → EndsSo end
  refused_so end bytes limit took refused =
      let same = same_input rest rest' input.input bytes limit input.is took in
      let none : end ≡ NoMemory = not_refused input.input end input.first (subst (λ (i : List ℕ). IsRefused i end) same refused) in
      inr (ap (λ (other : MigrateEnd). (move_ending other).status) none)

  pub moves_clean : (end : MigrateEnd) → MovesAs tells rest rest' source source' old new rate end → HasNoJournal (tells.content old) → (Rose source source' → ⊥) → (Rose (tells.faults old) (tells.faults new) → ⊥) → EndsSo end
  moves_clean Moved is none no_source no_disk = inl refl
  moves_clean ReadFault is none no_source no_disk = absurd (no_source is.0)
  moves_clean TooLong is none no_source no_disk = absurd (not_longer rest rest' input.input _ input.is input.few is.0)
  moves_clean NoMemory is none no_source no_disk = inr refl
  moves_clean NotFirst is none no_source no_disk = refused_so NotFirst is.0.0 _ is.0.1 is.0.2
  moves_clean (Damaged place) is none no_source no_disk = refused_so (Damaged place) is.0.0 _ is.0.1 is.0.2
  moves_clean BadEntry is none no_source no_disk = refused_so BadEntry is.0.0 _ is.0.1 is.0.2
  moves_clean Exists is none no_source no_disk = absurd (not_born (tells.content old) none is.1.born)
  moves_clean LookFault is none no_source no_disk = absurd (no_disk is.1)
  moves_clean LayFault is none no_source no_disk = absurd (no_disk is.1)
  moves_clean CrownFault is none no_source no_disk = absurd (no_disk is.1)
