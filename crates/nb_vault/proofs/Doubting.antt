-- How many entries the lines tell to be in doubt.
use Rattle.std.proofs.Common.{◌≡◌, ◌⊎◌, inl, inr, ℕ, ◌≤◌, List, [], ◌∷◌, ◌++◌, length, sym, ap, subst, ◌∙◌, arith}
use Rattle.std.proofs.lemmas.List.{append-nil}
use Rattle.nb_entry.specs.declared.entry.Entry.{Entry}
use Rattle.nb_turns.specs.declared.limits.TheConstants.{MAX_REQUESTS}
use Rattle.nb_turns.specs.declared.line.Line.{Line}
use Rattle.nb_turns.specs.declared.line.Line.TheVariants.{Fault}
use Rattle.nb_turns.specs.Lines.{open_doubt, adopts, commits}
use Rattle.nb_turns.proofs.Adding.{IsRecorded, open_behind, adopted_recorded, committed_recorded}
use Rattle.nb_turns.proofs.Lists.{all_append}
use Rattle.nb_turns.proofs.Lining.{doubt_faults}

module _ (before : List Line) (by turn : ℕ) (few : length (open_doubt before) ≤ MAX_REQUESTS) where
  -- lines that record entries leave no more in doubt
  pub few_recorded : (kept made : List Entry) → length (open_doubt (before ++ (adopts by turn kept ++ commits by turn made))) ≤ MAX_REQUESTS
  few_recorded kept made = by_lines (open_behind before (adopts by turn kept ++ commits by turn made)
      (all_append IsRecorded (adopts by turn kept) (commits by turn made) (adopted_recorded by turn kept) (committed_recorded by turn made)))
    where
      by_lines : (adopts by turn kept ++ commits by turn made ≡ []) ⊎ (open_doubt (before ++ (adopts by turn kept ++ commits by turn made)) ≡ []) → length (open_doubt (before ++ (adopts by turn kept ++ commits by turn made))) ≤ MAX_REQUESTS
      by_lines (inl none) = subst (λ (ls : List Line). length (open_doubt ls) ≤ MAX_REQUESTS) (sym (ap (λ (ls : List Line). before ++ ls) none ∙ append-nil before)) few
      by_lines (inr closed) = omega (arith, ap length closed)

  -- nor does a fault
  pub few_faulted : (from to : ℕ) → length (open_doubt (before ++ Fault by turn from to ∷ [])) ≤ MAX_REQUESTS
  few_faulted from to = omega (arith, few, ap length (doubt_faults before by turn from to))
