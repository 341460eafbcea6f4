use Rattle.std.proofs.Common.{◌<◌, ◌+◌, ◌^◌, List, take, sym, ap, ◌∙◌, arith}
use Rattle.nb_turns.specs.declared.line.Line.{Line}
use Rattle.nb_answers.specs.declared.tally.Tally.{Tally}
use Rattle.nb_answers.specs.Drill.{and_one, recorded, tally}
use Rattle.nb_answers.proofs.Tallying.{fits, line_other, line_stands, one_more}
use Rattle.nb_answers.proofs.tally.tally_of.Goals.{in-Doubt, in-Doubt-2, in-Commit2}
use Rattle.nb_answers.proofs.tally.tally_of.Goals as goal

fit : (c : goal.In-Commit) → ((c.telling.tally.paid + 1 < 2 ^ 64) × (c.telling.tally.refused + 1 < 2 ^ 64) × (c.telling.tally.total + Rattle.nb_book.specs.Money.fund c.in-Commit.entry < 2 ^ 64))
fit c =
    let lines : List Line = c.args.lines.now in
    fits lines c.telling.line-index c.in-Commit.entry c.telling.tally c.telling-test.true (omega (arith, c.well_formed)) c.telling.invariant c.requires
    (line_stands lines c.telling.line-index _ c.in-Commit.entry c.telling-test.true c.in-Commit.is)

pub and_one-tally-requires-clause-paid : goal.and_one-tally-requires-clause-paid
and_one-tally-requires-clause-paid c = (fit c).0

pub and_one-tally-requires-clause-refused : goal.and_one-tally-requires-clause-refused
and_one-tally-requires-clause-refused c = (fit c).1

pub and_one-tally-requires-clause-total : goal.and_one-tally-requires-clause-total
and_one-tally-requires-clause-total c = (fit c).2

pub telling-preserved : goal.telling-preserved
telling-preserved c =
    let lines : List Line = c.args.lines.now in
    elim c.match-line.branch [
      | in-Doubt w ↦ w.tally-is ∙ c.telling.invariant ∙ ap tally (sym (line_other lines c.telling.line-index _ c.telling-test.true w.in-Doubt.is))
      | in-Doubt-2 w ↦ w.tally-is ∙ c.telling.invariant ∙ ap tally (sym (line_other lines c.telling.line-index _ c.telling-test.true w.in-Doubt.is))
      | in-Commit2 w ↦
          w.tally-is ∙ w.and_one-tally.ensures ∙ ap (λ (t : Tally). and_one t w.in-Commit.entry) c.telling.invariant ∙ sym (one_more (recorded (take c.telling.line-index lines)) w.in-Commit.entry)
          ∙ ap tally (sym (line_stands lines c.telling.line-index _ w.in-Commit.entry c.telling-test.true w.in-Commit.is))
    ]
