use Rattle.std.proofs.Common.{◌≡◌, take}
use Rattle.nb_answers.specs.Drill.{recorded, tally}
use Rattle.nb_answers.proofs.tally.tally_of.Given as goal

-- those that were looked at are told
abbrev pub invariant-telling : goal.invariant-telling
invariant-telling l = l.tally ≡ tally (recorded (take l.line-index l.lines))
