use Rattle.nb_turn.specs.Passes.{sees}
use Rattle.nb_turn.proofs.Passing.{parts_settled, parts_own}
use Rattle.nb_turn.proofs.types.Pass.witness.Goals as goal

pub returns-clause-parts : goal.returns-clause-parts
returns-clause-parts g c = parts_settled g.T.Chronicle.maker (sees c.args.self.now) c.args.self.now.is_pass.settled

pub returns-clause-own : goal.returns-clause-own
returns-clause-own g c = parts_own g.T.Chronicle.maker (sees c.args.self.now) c.args.self.now.is_pass.settled
