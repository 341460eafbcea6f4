use Rattle.std.proofs.Common.{rules}
use Rattle.nb_turn.proofs.Steps.{counts_as}
use Rattle.nb_turn.proofs.types.Turn.count_line.Goals as goal

pub fetch_add-requires : goal.fetch_add-requires
fetch_add-requires g c =
    let t = g.T.Chronicle in
    (search rules, search rules, counts_as t.origin t.history t.maker _ _ _ _ c.args.self.now.sized.1 g.J.NextLine.line c.requires.next)
