-- Ruling on a case, where nothing fails.
use Rattle.std.proofs.Common.{◌≡◌, ◌⊎◌, inl, inr, ℕ, List, Option, Ok, Err, refl, sym, ap, ◌∙◌, arith}
use Rattle.nb_port.specs.Faults.{Rose}
use Rattle.nb_judge.specs.declared.case_bytes.TheConstants.{MAX_CASE}
use Rattle.nb_judge.specs.Layout.{case_of}
use Rattle.nb_judge.specs.declared.ruling.Ruling.{Ruling}
use Rattle.nb_commands.specs.declared.ending.TheConstants.{CLEAN, OUT_OF_MEMORY}
use Rattle.nb_commands.specs.declared.judging.JudgeEnd.{JudgeEnd}
use Rattle.nb_commands.specs.declared.judging.JudgeEnd.TheVariants.{Ruled, ReadFault, TooLong, Malformed, WriteFault, NoMemory}
use Rattle.nb_commands.specs.Judge.{IsCaseInput, IsRuledOn, JudgesAs, TellsRuling, judge_ending}
use Rattle.nb_commands.proofs.Moving.{same_input, not_longer}

module _ (left left' : Option (List ℕ)) (source source' : ℕ) (sent sent' : Option (List ℕ)) (sink sink' : ℕ) (input : IsCaseInput left) where
  -- a case alone is ruled on, or there was no memory
  pub rules_clean : (end : JudgeEnd) → JudgesAs left left' source source' sent sent' sink sink' end → (Rose source source' → ⊥) → (Rose sink sink' → ⊥)
      → ((judge_ending end).status ≡ CLEAN) ⊎ ((judge_ending end).status ≡ OUT_OF_MEMORY)
  rules_clean Ruled is no_source no_sink = inl refl
  rules_clean ReadFault is no_source no_sink = absurd (no_source is.0)
  rules_clean TooLong is no_source no_sink = absurd (not_longer left left' input.input MAX_CASE input.is input.few is)
  rules_clean (Malformed place) is no_source no_sink =
      let clash = sym (ap case_of (same_input left left' input.input is.0 MAX_CASE input.is is.1)) ∙ is.2 in
      let both = sym input.read ∙ clash in
      absurd cc
  rules_clean WriteFault is no_source no_sink = absurd (no_sink is.2)
  rules_clean NoMemory is no_source no_sink = inr refl

module _ (left left' : Option (List ℕ)) (source source' : ℕ) (sent sent' : Option (List ℕ)) (sink sink' : ℕ) (ruling : Ruling) (is : IsRuledOn left left' ruling) where
  -- where a case was ruled on, the line of the ruling tells how that ended
  pub told_judges : (end : JudgeEnd) → TellsRuling sent sent' sink sink' ruling end → JudgesAs left left' source source' sent sent' sink sink' end
  told_judges Ruled told = (ruling, is, told)
  told_judges WriteFault told = (ruling, is, told.0, told.1)
  told_judges NoMemory told = record { taken = is.input; few = omega (arith, is.all.few); took = is.all.took }
  told_judges ReadFault told = absurd told
  told_judges TooLong told = absurd told
  told_judges (Malformed place) told = absurd told
