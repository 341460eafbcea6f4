use Rattle.std.proofs.Common.{ℕ, inl, refl, subst}
use Rattle.nb_journal.specs.Making.{without_fee}
use Rattle.nb_commands.specs.Init.{IsMade}
use Rattle.nb_commands.proofs.Making.{made_of}
use Rattle.nb_answers.proofs.drilling.make.Goals as goal

pub returns-in-Ok-clause-made : goal.returns-in-Ok-clause-made
returns-in-Ok-clause-made g c =
    let told = c.in-Ok.ensures in
    subst (λ (cap : ℕ). IsMade g.D.Disk.tells c.args.disk.now c.init.new.disk (without_fee c.args.head.now) cap) c.entry_count.ensures
    (made_of g.D.Disk.tells c.args.disk.now c.init.new.disk (without_fee c.args.head.now) c.entry_count.result c.told-head (inl (refl, refl)) told.gives.0.0 told.gives.1 told.gives.2 told.gives.3 told.bytes)
