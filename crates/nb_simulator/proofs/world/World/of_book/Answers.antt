use Rattle.std.proofs.Common.{◌∙◌}
use Rattle.nb_simulator.proofs.Setting.{made_lawful}
use Rattle.nb_simulator.proofs.world.World.of_book.Goals as goal

pub returns-in-Ok-Some-clause-sets : goal.returns-in-Ok-Some-clause-sets
returns-in-Ok-Some-clause-sets c =
    let made = made_lawful c.args.setup c.args.head c.args.book c.as_slice.result.now c.in-Ok-Some.field-0 c.in-Ok-Some.parties c.requires.ruling c.requires.some c.requires.most c.requires.head c.requires.filled
    c.as_slice.ensures.value c.in-Ok-Some.ensures.makes c.in-Ok-Some.field-0-is in
    (made.0, c.at_first.ensures ∙ made.1)
