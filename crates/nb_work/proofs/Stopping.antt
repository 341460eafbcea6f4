-- How a job ends, worker by worker.
use Rattle.std.proofs.Common.{◌≡◌, ◌≢◌, ℕ, ◌+◌, ◌<◌, Bool, true, false, List, length, Some, sym, ap, subst, ◌∙◌, inl, inr, arith}
use Rattle.std.specs.List.{slice_get}
use Rattle.std.proofs.lemmas.Bool.{cases_lt}
use Rattle.std.proofs.lemmas.Option.{slice_get_within, same_Some}
use Rattle.nb_server.specs.declared.worker.How.{How}
use Rattle.nb_server.specs.declared.worker.How.TheVariants.{Closed, PortFault, NoMemory}
use Rattle.nb_server.specs.declared.worker.WorkerEnd.{WorkerEnd}
use Rattle.nb_commands.specs.declared.ending.Ending.{Ending}
use Rattle.nb_commands.specs.declared.ending.TheConstants.{CLEAN, OUT_OF_MEMORY, PORT_FAILED}
use Rattle.nb_commands.specs.Ending.{at_no_place}
use Rattle.nb_work.specs.Work.{AnyStopped, StoppedAs}

-- each of the first so many stopped so
abbrev Each : (How → Type 0) → List WorkerEnd → ℕ → Type 0
Each P ends i = (k : ℕ) (end : WorkerEnd) → k < i → slice_get ends k ≡ Some end → P end.how

-- what is known behind the first so many: no port failed, and whether one had no memory; where none had, each was closed
pub record Looked (ends : List WorkerEnd) (i : ℕ) (starved : Bool) : Type 0 where
  pub none : Each (λ (how : How). how ≢ PortFault) ends i
  pub any : starved ≡ true → AnyStopped NoMemory ends
  pub closed : starved ≡ false → Each (λ (how : How). how ≡ Closed) ends i

pub nothing_looked : (ends : List WorkerEnd) → Looked ends 0 false
nothing_looked ends = record {
  none = λ k end small is. absurd (omega (arith, small));
  any = λ is. absurd cc;
  closed = λ is k end small there. absurd (omega (arith, small));
}

-- one more
more : (P : How → Type 0) (ends : List WorkerEnd) (i : ℕ) (last : WorkerEnd) → Each P ends i → slice_get ends i ≡ Some last → P last.how → Each P ends (i + 1)
more P ends i last before there so k end small is = elim (cases_lt k i) [
  | inl less ↦ before k end less is
  | inr at ↦ here (omega (arith, small, at))
]
  where
    here : k ≡ i → P end.how
    here same = subst (λ (e : WorkerEnd). P e.how) (same_Some last end (sym there ∙ ap (slice_get ends) (sym same) ∙ is)) so

pub closed_looked : (ends : List WorkerEnd) (i : ℕ) (starved : Bool) (last : WorkerEnd) → Looked ends i starved → slice_get ends i ≡ Some last → last.how ≡ Closed → Looked ends (i + 1) starved
closed_looked ends i starved last looked there closed = record {
  none = more (λ (how : How). how ≢ PortFault) ends i last looked.none there (λ (is : last.how ≡ PortFault). closed_port (sym closed ∙ is));
  any = looked.any;
  closed = λ is. more (λ (how : How). how ≡ Closed) ends i last (looked.closed is) there closed;
}
  where
    closed_port : Closed ≡ PortFault → ⊥
    closed_port e = cc

pub starved_looked : (ends : List WorkerEnd) (i : ℕ) (starved : Bool) (last : WorkerEnd) → Looked ends i starved → slice_get ends i ≡ Some last → last.how ≡ NoMemory → Looked ends (i + 1) true
starved_looked ends i starved last looked there none = record {
  none = more (λ (how : How). how ≢ PortFault) ends i last looked.none there (λ (is : last.how ≡ PortFault). starved_port (sym none ∙ is));
  any = λ is. (i, last, there, none);
  closed = λ is. absurd (true_false is);
}
  where
    starved_port : NoMemory ≡ PortFault → ⊥
    starved_port e = cc

    true_false : true ≡ false → ⊥
    true_false e = cc

pub failed_ends : (ends : List WorkerEnd) (i : ℕ) (last : WorkerEnd) (ending : Ending) → slice_get ends i ≡ Some last → last.how ≡ PortFault → ending ≡ at_no_place PORT_FAILED → StoppedAs ends ending
failed_ends ends i last ending there failed is = inl ((i, last, there, failed), is)

all_of : (P : How → Type 0) (ends : List WorkerEnd) (i : ℕ) → i ≡ length ends → Each P ends i → (k : ℕ) (end : WorkerEnd) → slice_get ends k ≡ Some end → P end.how
all_of P ends i at each k end is = each k end (omega (arith, at, slice_get_within ends k end is)) is

pub starved_ends : (ends : List WorkerEnd) (i : ℕ) (starved : Bool) (ending : Ending) → Looked ends i starved → i ≡ length ends → starved ≡ true → ending ≡ at_no_place OUT_OF_MEMORY → StoppedAs ends ending
starved_ends ends i starved ending looked at is ends_so = inr (inl (all_of (λ (how : How). how ≢ PortFault) ends i at looked.none, looked.any is, ends_so))

pub clean_ends : (ends : List WorkerEnd) (i : ℕ) (starved : Bool) (ending : Ending) → Looked ends i starved → i ≡ length ends → starved ≡ false → ending ≡ at_no_place CLEAN → StoppedAs ends ending
clean_ends ends i starved ending looked at is ends_so = inr (inr (all_of (λ (how : How). how ≡ Closed) ends i at (looked.closed is), ends_so))
