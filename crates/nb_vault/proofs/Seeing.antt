-- What contracts see of a vault.
use Rattle.std.proofs.Common.{◌≡◌, ⊎_elim, ℕ, ◌≤◌, Bool, true, false, cond, List, [], ◌++◌, length, Option, None, Some, IfSome, refl, sym, ap, subst, ◌∙◌, arith}
use Rattle.std.proofs.lemmas.List.{append-nil, length-append, length-take}
use Rattle.nb_port.specs.Tells.{DiskTells}
use Rattle.nb_entry.specs.declared.entry.Entry.{Entry}
use Rattle.nb_book.specs.Legal.{LegalUnder}
use Rattle.nb_entry.specs.Spelling.{entries_bytes}
use Rattle.nb_book.proofs.Counting.{settled_once}
use Rattle.nb_book.proofs.Summing.{balances_make_total, none_overdrawn}
use Rattle.nb_turns.specs.declared.limits.TheConstants.{MAX_FAULTS, MAX_REQUESTS}
use Rattle.nb_turns.specs.Turns.{State}
use Rattle.nb_turns.specs.Lines.{open_doubt}
use Rattle.nb_turns.specs.Laws.{IsBalanced}
use Rattle.nb_vault.specs.declared.parts.Parts.{Parts}
use Rattle.nb_journal.specs.Layout.{front_bytes, up_to_gate}
use Rattle.nb_journal.specs.Stands.{BeforeOrAfter}
use Rattle.nb_vault.specs.Holdings.{Joins, StandsFor, StandsForEither}
use Rattle.nb_vault.specs.Parts.{IsVault, seen_as}
use Rattle.nb_vault.specs.Records.{EitherOf, disk_under, doubt_of}
use Rattle.nb_vault.specs.Vaults.{GateIsAt, HoldsItems, Keeps, LinesFit, IsDurable, entries_in, doubt_in, state_of, StandsForState}
use Rattle.nb_vault.proofs.Resting.{rest_images, rest_content, fresh_images}

-- the state, by the fields
abbrev pub state_at : {D : Type 0} → Parts D → State
state_at p = record { entries = p.records.book.entries; doubt = doubt_of p.records; faults = p.faults }

module _ {D : Type 0} (tells : DiskTells D) (p : Parts D) (vault : IsVault tells p) where
  pub entries_seen : entries_in (seen_as p) ≡ p.records.book.entries
  entries_seen = sym vault.told.listed

  -- the group in doubt is what the lines tell
  group_told : p.records.journal.stale ≡ true → open_doubt p.lines.items ≡ p.records.group.items
  group_told stale =
      let here : doubt_of p.records ≡ p.records.group.items = ap (λ (b : Bool). cond b p.records.group.items []) stale in
      ⊎_elim (λ none. absurd ((vault.rests.doubt stale).some (sym here ∙ none))) (λ is. sym is ∙ here) vault.told.doubt_is

  pub doubt_seen : doubt_in (seen_as p) ≡ doubt_of p.records
  doubt_seen = by_stale p.records.journal.stale refl
    where
      by_stale : (b : Bool) → p.records.journal.stale ≡ b → cond b (open_doubt p.lines.items) [] ≡ cond b p.records.group.items []
      by_stale false fresh = refl
      by_stale true stale = group_told stale

  pub state_seen : state_of (seen_as p) ≡ state_at p
  state_seen = rw (entries_seen, doubt_seen, sym vault.faults_are) refl

  pub either_seen : (image : List ℕ) → EitherOf p.records image → StandsForState (seen_as p) image
  either_seen image is =
      subst (λ (entries : List Entry). StandsForEither p.records.charter p.records.book.cap entries (doubt_in (seen_as p)) image) (sym entries_seen)
      (subst (λ (doubt : List Entry). StandsForEither p.records.charter p.records.book.cap p.records.book.entries doubt image) (sym doubt_seen) is)

  legal_with : (b : Bool) → p.records.journal.stale ≡ b → LegalUnder p.records.charter.version p.records.charter.rate (p.records.book.entries ++ cond b p.records.group.items [])
  legal_with false fresh = subst (LegalUnder p.records.charter.version p.records.charter.rate) (sym (append-nil p.records.book.entries)) vault.rests.carries.legal
  legal_with true stale = (vault.rests.doubt stale).group.legal

  count_with : (b : Bool) → p.records.journal.stale ≡ b → length (p.records.book.entries ++ cond b p.records.group.items []) ≤ p.records.book.cap
  count_with false fresh = omega (arith, vault.rests.carries.count, ap length (append-nil p.records.book.entries))
  count_with true stale = (vault.rests.doubt stale).group.within

  most_with : (b : Bool) → p.records.journal.stale ≡ b → length (cond b p.records.group.items []) ≤ MAX_REQUESTS
  most_with false fresh = omega arith
  most_with true stale = omega (arith, (vault.rests.doubt stale).group.most)

  told : (o : Option (List ℕ)) → IfSome o (EitherOf p.records) → IfSome o (StandsForState (seen_as p))
  told None is = tt
  told (Some c) is = either_seen c is

  some_doubt : p.records.journal.stale ≡ true → doubt_in (seen_as p) ≡ [] → ⊥
  some_doubt stale none = (vault.rests.doubt stale).some (ap (λ (b : Bool). cond b p.records.group.items []) (sym stale) ∙ sym doubt_seen ∙ none)

  -- what every vault keeps
  pub keeps : Keeps tells (seen_as p)
  keeps = record {
    legal = rw (entries_seen, doubt_seen) (legal_with p.records.journal.stale refl);
    within = rw (entries_seen, doubt_seen) (count_with p.records.journal.stale refl);
    money = subst IsBalanced (sym entries_seen)
        (record { once = settled_once p.records.book.entries vault.rests.carries.legal.legal; sums = balances_make_total p.records.book.entries vault.rests.carries.legal.legal; none_overdrawn = none_overdrawn p.records.book.entries vault.rests.carries.legal.legal });
    terms = vault.rests.carries.terms;
    bytes = told (tells.content (disk_under p.records)) (rest_content tells p.records vault.rests);
    images = λ image is. either_seen image (rest_images tells p.records vault.rests image is);
    doubt = some_doubt;
    most = subst (λ (es : List Entry). length es ≤ MAX_REQUESTS) (sym doubt_seen) (most_with p.records.journal.stale refl);
    sound = vault.told.sound;
    backed = vault.told.backed;
    turns = vault.told.turns;
    few = subst (λ (n : ℕ). n ≤ MAX_FAULTS) vault.faults_are vault.few;
    closed = vault.told.closed;
    lawful = vault.lawful;
    open_most = vault.open_most;
    told = omega (arith, vault.has.told, vault.faults_are, ap length entries_seen, length-take p.opening p.records.book.entries);
  }

  place_with : (b : Bool) → p.records.journal.stale ≡ b → p.records.journal.gate ≡ length (up_to_gate (front_bytes p.records.book.cap p.records.charter) vault.rests.items)
  place_with false fresh = (vault.rests.fresh fresh).place
  place_with true stale = (vault.rests.doubt stale).rest.place

  stands_with : (b : Bool) → p.records.journal.stale ≡ b
      → IfSome (tells.content (disk_under p.records)) (HoldsItems b (front_bytes p.records.book.cap p.records.charter) vault.rests.items (entries_bytes p.records.group.items))
  stands_with false fresh = (vault.rests.fresh fresh).bytes
  stands_with true stale = (vault.rests.doubt stale).rest.bytes

  -- what is in doubt is the group, where anything is
  doubted_with : (b : Bool) → p.records.journal.stale ≡ b → (c : Option (List ℕ)) (front : List ℕ) (items : List (List ℕ))
      → IfSome c (HoldsItems b front items (entries_bytes p.records.group.items)) → IfSome c (HoldsItems b front items (entries_bytes (doubt_in (seen_as p))))
  doubted_with b is None front items holds = tt
  doubted_with false fresh (Some c) front items holds = holds
  doubted_with true stale (Some c) front items holds =
      let group : p.records.group.items ≡ doubt_in (seen_as p) = sym (doubt_seen ∙ ap (λ (d : Bool). cond d p.records.group.items []) stale) in
      subst (λ (es : List Entry). BeforeOrAfter front items (entries_bytes es) c) group holds

  -- where the first gate that is not open stands
  pub gate_is_at : GateIsAt tells (seen_as p) p.records.journal.gate
  gate_is_at = record {
    items = vault.rests.items;
    joins = subst (Joins vault.rests.items) (sym entries_seen) vault.rests.carries.joins;
    place = place_with p.records.journal.stale refl;
    stands = doubted_with p.records.journal.stale refl (tells.content (disk_under p.records)) (front_bytes p.records.book.cap p.records.charter) vault.rests.items
        (stands_with p.records.journal.stale refl);
  }

  -- what is answered is durable
  pub durable : p.records.journal.stale ≡ false → IsDurable tells (seen_as p)
  durable fresh = record {
    fresh = fresh;
    images = λ image is. subst (λ (es : List Entry). StandsFor p.records.charter p.records.book.cap es image) (sym entries_seen) (fresh_images tells p.records vault.rests fresh image is);
  }

-- so many lines are enough
pub lines_fit : {D : Type 0} (tells : DiskTells D) → LinesFit tells
lines_fit tells = (
  λ v keeps. omega (arith, keeps.told, keeps.within, keeps.few, length-append (entries_in v) (doubt_in v)),
  λ (cap : ℕ). refl,
)
