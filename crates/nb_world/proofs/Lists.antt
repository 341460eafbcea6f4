-- Lists: elements by place, fronts, and the phases of calls.
use Rattle.std.proofs.Common.{◌≡◌, ℕ, zero, suc, List, [], ◌∷◌, ◌++◌, length, Some, refl, sym, ap, subst, ◌∙◌, append_assoc}
use Rattle.std.specs.Prelude.{map}
use Rattle.std.proofs.lemmas.List.{append-nil}
use Rattle.std.specs.List.{slice_get, AllByRecursion}
use Rattle.nb_world.specs.declared.call.Call.{Call}
use Rattle.nb_world.specs.declared.call.CallPhase.{CallPhase}
use Rattle.nb_world.specs.Steps.{in_phase, set_phase, stopped}
use Rattle.nb_world.specs.Laws.{Begins}

pub get_append : {A : Type 0} (xs ys : List A) (k : ℕ) (x : A) → slice_get xs k ≡ Some x → slice_get (xs ++ ys) k ≡ Some x
get_append [] ys k x is = cc
get_append (y ∷ xs) ys zero x is = is
get_append (y ∷ xs) ys (suc k) x is = get_append xs ys k x is

pub get_last : {A : Type 0} (xs ys : List A) (x : A) → slice_get (xs ++ x ∷ ys) (length xs) ≡ Some x
get_last [] ys x = refl
get_last (y ∷ xs) ys x = get_last xs ys x

abbrev pub begins_same : {A : Type 0} (xs : List A) → Begins xs xs
begins_same xs = ([], sym (append-nil xs))

abbrev pub begins_then : {A : Type 0} (xs ys zs : List A) → Begins ys xs → Begins zs ys → Begins zs xs
begins_then xs ys zs first second = (first.0 ++ second.0, second.1 ∙ ap (λ front. front ++ second.0) first.1 ∙ append_assoc xs first.0 second.0)

pub all_append : {A : Type 0} (P : A → Type 0) (xs ys : List A) → AllByRecursion P xs → AllByRecursion P ys → AllByRecursion P (xs ++ ys)
all_append P [] ys first second = second
all_append P (x ∷ xs) ys first second = (first.0, all_append P xs ys first.1 second)

pub all_weaker : {A : Type 0} (P Q : A → Type 0) (xs : List A) → ((x : A) → P x → Q x) → AllByRecursion P xs → AllByRecursion Q xs
all_weaker P Q [] step all = tt
all_weaker P Q (x ∷ xs) step all = (step x all.0, all_weaker P Q xs step all.1)

pub all_at : {A : Type 0} (P : A → Type 0) (xs : List A) (k : ℕ) (x : A) → slice_get xs k ≡ Some x → AllByRecursion P xs → P x
all_at P [] k x is all = absurd cc
all_at P (y ∷ xs) zero x is all = let same : y ≡ x = cc in subst P same all.0
all_at P (y ∷ xs) (suc k) x is all = all_at P xs k x is all.1

-- ---- calls

-- a call is there later, with its packet and its moment
pub record Remains (calls : List Call) (c : ℕ) (call : Call) : Type 0 where
  pub now : Call
  pub is : slice_get calls c ≡ Some now
  pub packet : now.packet ≡ call.packet
  pub moment : now.moment ≡ call.moment

pub phase_remains : (phase : CallPhase) (calls : List Call) (k c : ℕ) (call : Call) → slice_get calls c ≡ Some call → Remains (set_phase phase calls k) c call
phase_remains phase [] k c call is = absurd cc
phase_remains phase (x ∷ calls) zero zero call is = record { now = in_phase phase x; is = refl; packet = ap (λ (y : Call). y.packet) (the_same is); moment = ap (λ (y : Call). y.moment) (the_same is) }
  where
    the_same : Some x ≡ Some call → x ≡ call
    the_same e = cc
phase_remains phase (x ∷ calls) zero (suc c) call is = record { now = call; is = is; packet = refl; moment = refl }
phase_remains phase (x ∷ calls) (suc k) zero call is = record { now = call; is = is; packet = refl; moment = refl }
phase_remains phase (x ∷ calls) (suc k) (suc c) call is =
    let r : Remains (set_phase phase calls k) c call = phase_remains phase calls k c call is in
    record { now = r.now; is = r.is; packet = r.packet; moment = r.moment }

pub stopped_remains : (calls : List Call) (c : ℕ) (call : Call) → slice_get calls c ≡ Some call → slice_get (map stopped calls) c ≡ Some (stopped call)
stopped_remains [] c call is = absurd cc
stopped_remains (x ∷ calls) zero call is = let same : x ≡ call = cc in ap (λ (y : Call). Some (stopped y)) same
stopped_remains (x ∷ calls) (suc c) call is = stopped_remains calls c call is

-- what speaks of the packet alone holds of a call in every phase
module _ (P : Call → Type 0) (keeps : (phase : CallPhase) (call : Call) → P call → P (in_phase phase call)) where
  pub all_phase : (phase : CallPhase) (calls : List Call) (k : ℕ) → AllByRecursion P calls → AllByRecursion P (set_phase phase calls k)
  all_phase phase [] k all = tt
  all_phase phase (x ∷ calls) zero all = (keeps phase x all.0, all.1)
  all_phase phase (x ∷ calls) (suc k) all = (all.0, all_phase phase calls k all.1)

  pub all_stopped : (calls : List Call) → AllByRecursion P calls → AllByRecursion P (map stopped calls)
  all_stopped [] all = tt
  all_stopped (x ∷ calls) all = (keeps _ x all.0, all_stopped calls all.1)
