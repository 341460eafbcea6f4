use Rattle.std.proofs.Common.{ℕ, List, Option, subst}
use Rattle.nb_journal.specs.Window.{Sees}
use Rattle.nb_journal.proofs.Records.{body_gives}
use Rattle.nb_journal.proofs.Windows.{part_stands}
use Rattle.nb_journal.proofs.opening.record.body_at.Goals as goal

pub returns-in-There-clause-gives : goal.returns-in-There-clause-gives
returns-in-There-clause-gives g c =
    let told = g.D.Disk.tells.content c.args.disk.now in
    let sees = subst (λ (t : Option (List ℕ)). Sees t c.reach.new.self) c.in-There.ensures.nothing.same c.in-There.ensures.sees in
    body_gives _ _ told c.args.place c.args.len c.part.result.now c.body_of.result c.body_of.ensures
    (part_stands told c.reach.new.self c.args.place c.args.len c.part.result.now sees c.in-There.ensures.gives c.part.ensures)
