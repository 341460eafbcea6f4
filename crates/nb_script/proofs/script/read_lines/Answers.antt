use Rattle.std.proofs.Common.{Err, arith, subst, ◌+◌}
use Rattle.nb_script.proofs.Following.{too_many, not_taken}
use Rattle.nb_script.specs.Reads as reads
use Rattle.nb_script.proofs.script.read_lines.Goals as goal

pub returns-then-number-gt-MAX_LINES : goal.returns-then-number-gt-MAX_LINES
returns-then-number-gt-MAX_LINES c =
    c.lines.invariant.said (Err (c.lines.number + 1))
    (too_many c.lines.scene c.lines.number c.lines.rest.now c.in-Some.line.now c.in-Some.behind.now c.in-Some.ensures.some (λ few. omega (arith, few, c.if-number-gt-MAX_LINES.true)))

pub returns-then-not-branch : goal.returns-then-not-branch
returns-then-not-branch c =
    c.lines.invariant.said (Err (c.lines.number + 1))
    (not_taken c.lines.scene c.take_line.new.scene c.lines.number c.lines.rest.now c.in-Some.line.now c.in-Some.behind.now c.in-Some.ensures.some
    (subst (reads.TakesLine c.lines.scene (c.lines.number + 1) c.in-Some.line.now c.take_line.new.scene) c.if-not-branch.true c.in_ok-take_line.ensures))
