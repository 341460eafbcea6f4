use Rattle.std.proofs.Common.{ℕ, ◌≤◌, length, Result}
use Rattle.nb_script.specs.declared.limits.TheConstants.{MAX_LINES}
use Rattle.nb_script.specs.Settings.{Setting}
use Rattle.nb_script.specs.Reads.{LinesSay, lines_of}
use Rattle.nb_script.proofs.script.read_lines.Given as goal

-- what is said of the rest is said of all lines
abbrev pub invariant-lines : goal.invariant-lines
invariant-lines l = record {
  said : (told : Result Setting ℕ) → LinesSay l.scene l.number (lines_of l.rest) told → LinesSay l.fn.scene 2 (lines_of l.fn.text) told;
  few : l.number ≤ MAX_LINES;
}

-- the rest gets shorter
abbrev pub decreases-lines : goal.decreases-lines
decreases-lines l = length l.rest
