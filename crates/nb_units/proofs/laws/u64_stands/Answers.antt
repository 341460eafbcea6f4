use Rattle.nb_units.proofs.FieldLaws.{u64_stands}
use Rattle.nb_units.proofs.laws.u64_stands.Goals as goal

pub returns : goal.returns
returns c = u64_stands
