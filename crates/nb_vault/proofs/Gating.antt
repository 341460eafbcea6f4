-- One gate opens all entries of a turn, or none of them.
use Rattle.std.proofs.Common.{◌≡◌, ◌⊎◌, inl, inr, ⊎_elim, ℕ, List, [], ◌++◌, refl, sym, ap, subst}
use Rattle.std.proofs.lemmas.List.{append-nil}
use Rattle.nb_port.specs.Tells.{DiskTells}
use Rattle.nb_entry.specs.declared.entry.Entry.{Entry}
use Rattle.nb_turns.specs.Turns.{Request, State, Outcome, Decides, Fails, Refuses, SettlesInto, Unsettled, Doubts, Turn, recorded}
use Rattle.nb_vault.specs.declared.origin.Origin.{Origin}
use Rattle.nb_vault.specs.Gates.{HasAll, HasNoneOrAll, OneGate}
use Rattle.nb_vault.specs.Holdings.{StandsFor}
use Rattle.nb_vault.specs.Vaults.{Chronicled, StandsForState, doubt_in, entries_in, house_in, state_of}
use Rattle.nb_vault.proofs.Resting.{leaves_more}

module _ {D : Type 0} (old new : Chronicled D) (requests : List Request) (same : new.origin ≡ old.origin) (image : List ℕ) where
  -- as before the turn
  before : (outcome : Outcome) → StandsForState old image → HasNoneOrAll old new requests outcome image
  before outcome (inl is) = record { entries = entries_in old; stands = is; whole = inl (inl refl) }
  before outcome (inr is) = record { entries = entries_in old ++ doubt_in old; stands = is; whole = inl (inr refl) }

  at_start : (es : List Entry) → StandsFor new.origin.charter new.origin.cap es image → StandsFor old.origin.charter old.origin.cap es image
  at_start es is = subst (λ (o : Origin). StandsFor o.charter o.cap es image) same is

  -- the entries and the doubt behind it are these
  behind : (outcome : Outcome) (es ds : List Entry) → entries_in new ≡ es → doubt_in new ≡ ds → (SettlesInto (state_of old) es ⊎ HasAll old new requests outcome es)
      → (SettlesInto (state_of old) (es ++ ds) ⊎ HasAll old new requests outcome (es ++ ds)) → StandsForState new image → HasNoneOrAll old new requests outcome image
  behind outcome es ds entries doubt alone both (inl is) = record { entries = es; stands = subst (λ (xs : List Entry). StandsFor old.origin.charter old.origin.cap xs image) entries (at_start (entries_in new) is); whole = alone }
  behind outcome es ds entries doubt alone both (inr is) = record {
    entries = es ++ ds;
    stands = subst (λ (xs : List Entry). StandsFor old.origin.charter old.origin.cap (es ++ xs) image) doubt
        (subst (λ (xs : List Entry). StandsFor old.origin.charter old.origin.cap (xs ++ doubt_in new) image) entries (at_start (entries_in new ++ doubt_in new) is));
    whole = both;
  }

  by_turn : (outcome : Outcome) → Turn (house_in old) (state_of old) requests outcome (state_of new) → StandsForState new image → HasNoneOrAll old new requests outcome image
  by_turn (Decides over) turn =
      let more : List Entry = recorded (house_in old) over requests in
      behind (Decides over) (over ++ more) [] (ap (λ (s : State). s.entries) turn.2) (ap (λ (s : State). s.doubt) turn.2)
      (inr (record { over = over; of_turn = refl; settled = turn.1; all = refl }))
      (inr (record { over = over; of_turn = refl; settled = turn.1; all = append-nil (over ++ more) }))
  by_turn (Fails from to) turn =
      ⊎_elim
      (λ (u : Unsettled (state_of old) (state_of new)).
      behind (Fails from to) (entries_in old) (doubt_in old) (ap (λ (s : State). s.entries) u.1) (ap (λ (s : State). s.doubt) u.1) (inl (inl refl)) (inl (inr refl)))
      (λ (d : Doubts (house_in old) (state_of old) requests (state_of new)).
      let entries : entries_in new ≡ d.over = ap (λ (s : State). s.entries) d.left in
      behind (Fails from to) d.over (recorded (house_in old) d.over requests) entries (ap (λ (s : State). s.doubt) d.left)
      (inl d.settled) (inr (record { over = d.over; of_turn = (d, sym entries); settled = d.settled; all = refl })))
      turn.1
  by_turn Refuses turn = behind Refuses (entries_in old) (doubt_in old) (ap (λ (s : State). s.entries) turn.1) (ap (λ (s : State). s.doubt) turn.1) (inl (inl refl)) (inl (inr refl))

pub one_gate : {D : Type 0} (tells : DiskTells D) → OneGate tells
one_gate tells old new by requests outcome found out out' went same leaves =
    leaves_more tells old.disk new.disk (λ image. StandsForState old image ⊎ StandsForState new image) (HasNoneOrAll old new requests outcome)
    (λ c is. ⊎_elim (before old new requests same c outcome) (by_turn old new requests same c outcome went.turn) is) leaves
