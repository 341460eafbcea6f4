use Rattle.std.proofs.Common.{[], ◌∷◌, subst, sym}
use Rattle.nb_turn.specs.Passes.{sees}
use Rattle.nb_server.specs.Steps.{JoinsAll, pass_seen}
use Rattle.nb_server.proofs.Joining.{joins_one}
use Rattle.nb_server.proofs.server.join_one.Goals as goal

pub returns-in-Some-clause-joins : goal.returns-in-Some-clause-joins
returns-in-Some-clause-joins g c = subst (λ o. JoinsAll pass_seen (sees c.args.first) (o ∷ []) (sees c.join.result)) (sym c.in-Some.is) (joins_one pass_seen (sees c.args.first) (sees c.join.result) c.in-Some.own c.join.ensures.view)
