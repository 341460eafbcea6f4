use Rattle.nb_units.proofs.FieldLaws.{u32_stands}
use Rattle.nb_units.proofs.laws.u32_stands.Goals as goal

pub returns : goal.returns
returns c = u32_stands
