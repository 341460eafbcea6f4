use Rattle.std.proofs.Common.{rules, ◌≡◌, [], ◌∷◌, Some, sym, ap, subst}
use Rattle.atomic_table.specs.Table.{opening}
use Rattle.nb_turn.specs.Views.{fresh_view}
use Rattle.nb_turn.specs.Rule.{Kept}
use Rattle.nb_turn.proofs.Splitting.{starts}
use Rattle.nb_turn.proofs.types.Turn.open.Goals as goal

pub new-requires : goal.new-requires
new-requires g c =
    let t = g.T.Chronicle in
    let start = t.origin c.of-about.result.value in
    let slots : c.push_reserved.new.self.items ≡ Some c.args.value ∷ [] = search rules in
    let about : c.of-about.result.value ≡ c.args.value = search rules in
    subst (λ xs. Kept t.origin t.history t.maker start (opening (0 ∷ 0 ∷ 1 ∷ []) xs (fresh_view start))) (sym slots)
    (starts t.origin t.history t.maker start c.args.value (ap t.origin (sym about)) c.requires)
