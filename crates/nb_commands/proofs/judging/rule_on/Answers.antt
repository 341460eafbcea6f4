use Rattle.std.proofs.Common.{sym, ap, ◌∙◌}
use Rattle.nb_judge.specs.Layout.{case_of}
use Rattle.nb_commands.proofs.Rulings.{told_judges}
use Rattle.nb_commands.proofs.judging.rule_on.Goals as goal

pub returns-clause-judged : goal.returns-clause-judged
returns-clause-judged g c =
    told_judges (g.S.Source.left c.args.source.now) (g.S.Source.left c.read_most.new.source) (g.S.Source.faults c.args.source.now) (g.S.Source.faults c.read_most.new.source) (g.K.Sink.sent c.args.sink.now) (g.K.Sink.sent c.tell.new.sink)
    (g.K.Sink.faults c.args.sink.now) (g.K.Sink.faults c.tell.new.sink) c.judge-ruling.result
    (record {
      input = c.in-All.input.items;
      all = c.in-All.ensures.gives;
      case = c.in-Ok.case;
      read = sym (ap case_of c.as_slice.ensures.value) ∙ c.in-Ok.ensures.reads;
      rules = c.judge-ruling.ensures;
    })
    c.tell.result c.tell.ensures.tells
