-- How calls of a disk go on, one behind the other.
use Rattle.std.proofs.Common.{◌∙◌, inl, inr, ⊎_elim, ℕ, List, arith}
use Rattle.nb_journal.specs.Time.{Since, LeavesOnly, Untouched}
use Rattle.nb_port.specs.Tells.{DiskTells}

module _ {D : Type 0} (tells : DiskTells D) where
  -- before the first call
  pub started : (old : D) (P : List ℕ → Type 0) → ((c : List ℕ) → tells.left old (tells.moment old) c → P c) → LeavesOnly tells old old P
  started old P here = record { later = omega arith; each = here; before = λ t c le since. inl since }

  -- one step more, within and behind which a stop leaves what has P
  pub goes_on : (old mid new : D) (P Q : List ℕ → Type 0) → LeavesOnly tells old mid P → Since Q (tells.moment mid) (tells.moment new) (tells.left mid) (tells.left new)
      → ((c : List ℕ) → Q c → P c) → LeavesOnly tells old new P
  goes_on old mid new P Q so_far time here = record {
    later = omega (arith, so_far.later, time.later);
    each = λ c since. ⊎_elim (so_far.each c) (here c) (time.each (tells.moment old) c so_far.later since);
    before = λ t c le since. ⊎_elim (so_far.before t c le) (λ now. inr (here c now)) (time.each t c (omega (arith, le, so_far.later)) since);
  }

-- two steps that wrote nothing
pub untouched_then : {D : Type 0} (tells : DiskTells D) (old mid new : D)
    → Untouched tells old mid → Untouched tells mid new → Untouched tells old new
untouched_then tells old mid new first second = record {
  same = second.same ∙ first.same;
  images = λ c. (λ is. (first.images c).0 ((second.images c).0 is), λ is. (second.images c).1 ((first.images c).1 is));
  time = record {
    later = omega (arith, first.time.later, second.time.later);
    each = λ t c le since. ⊎_elim (first.time.each t c le) (λ now. inr ((first.images c).0 now)) (second.time.each t c (omega (arith, le, first.time.later)) since);
  };
}
