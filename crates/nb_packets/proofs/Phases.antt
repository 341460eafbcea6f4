-- Calls, as they come to a phase, and behind a stop.
use Rattle.std.proofs.Common.{◌≡◌, ℕ, zero, suc, ◌+◌, List, [], ◌∷◌, length, map, set, Some, None, refl, sym, ap, subst, ◌∙◌, arith}
use Rattle.std.specs.List.{slice_get}
use Rattle.nb_world.specs.declared.call.Call.{Call}
use Rattle.nb_world.specs.declared.call.CallPhase.{CallPhase}
use Rattle.nb_world.specs.Steps.{in_phase, set_phase, stopped}
use Rattle.nb_world.proofs.Chains.{same_some}
use Rattle.nb_packets.specs.Calls.{StopsAt, stopped_up_to}

-- ---- a phase

pub phase_there : (phase : CallPhase) (calls : List Call) (c : ℕ) (call : Call) → slice_get calls c ≡ Some call → set calls c (in_phase phase call) ≡ set_phase phase calls c
phase_there phase [] c call e = refl
phase_there phase (x ∷ calls) zero call e = ap (λ (y : Call). in_phase phase y ∷ calls) (sym (same_some x call e))
phase_there phase (x ∷ calls) (suc c) call e = ap (λ (ys : List Call). x ∷ ys) (phase_there phase calls c call e)

pub phase_not_there : (phase : CallPhase) (calls : List Call) (c : ℕ) → slice_get calls c ≡ None → calls ≡ set_phase phase calls c
phase_not_there phase [] c e = refl
phase_not_there phase (x ∷ calls) zero e = absurd cc
phase_not_there phase (x ∷ calls) (suc c) e = ap (λ (ys : List Call). x ∷ ys) (phase_not_there phase calls c e)

-- ---- a stop

up_to_there : (i : ℕ) (calls : List Call) → slice_get (stopped_up_to i calls) i ≡ slice_get calls i
up_to_there zero calls = refl
up_to_there (suc i) [] = refl
up_to_there (suc i) (x ∷ calls) = up_to_there i calls

up_to_set : (i : ℕ) (calls : List Call) (call : Call) → slice_get calls i ≡ Some call → set (stopped_up_to i calls) i (stopped call) ≡ stopped_up_to (suc i) calls
up_to_set zero [] call e = absurd cc
up_to_set zero (x ∷ calls) call e = ap (λ (y : Call). stopped y ∷ calls) (sym (same_some x call e))
up_to_set (suc i) [] call e = absurd cc
up_to_set (suc i) (x ∷ calls) call e = ap (λ (ys : List Call). stopped x ∷ ys) (up_to_set i calls call e)

-- one call more
pub stops_more : (i : ℕ) (calls new : List Call) → StopsAt (stopped_up_to i calls) new i → new ≡ stopped_up_to (i + 1) calls
stops_more i calls new stops =
    let more : suc i ≡ i + 1 = omega (arith) in
    subst (λ (n : ℕ). new ≡ stopped_up_to n calls) more (stops.behind ∙ up_to_set i calls stops.call (sym (up_to_there i calls) ∙ stops.there))

-- all calls
pub stops_all : (calls : List Call) → stopped_up_to (length calls) calls ≡ map stopped calls
stops_all [] = refl
stops_all (x ∷ calls) = ap (λ (ys : List Call). stopped x ∷ ys) (stops_all calls)
