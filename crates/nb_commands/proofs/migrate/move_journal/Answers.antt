use Rattle.std.proofs.Common.{ℕ, List, subst, ◌∙◌}
use Rattle.nb_commands.specs.Migrate.{EndsAt}
use Rattle.nb_commands.proofs.Moving.{puts_moves}
use Rattle.nb_commands.proofs.migrate.move_journal.Goals as goal

pub returns-clause-moved : goal.returns-clause-moved
returns-clause-moved g c =
    let ends = subst (λ (image : List ℕ). EndsAt image c.in-Ok.gate) c.as_slice.ensures.value c.in-Ok.ensures in
    let old = c.in-Other.ensures in
    puts_moves c.in-All.image.items c.in-Ok.gate c.args.rate ends c.requires.rate g.D.Disk.tells (g.S.Source.left c.args.source.now) (g.S.Source.left c.read_most.new.source) (g.S.Source.faults c.args.source.now) (g.S.Source.faults c.read_most.new.source)
    c.args.disk.now c.magic_of.new.disk c.put_journal.new.disk c.put_journal.result c.in-All.ensures.gives old.nothing.same old.gives old.count c.as_slice-2.result.now (c.as_slice-2.ensures.value ∙ c.renew.ensures.items) c.put_journal.ensures.puts
