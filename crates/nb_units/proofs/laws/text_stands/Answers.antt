use Rattle.nb_units.proofs.FieldLaws.{text_stands}
use Rattle.nb_units.proofs.laws.text_stands.Goals as goal

pub returns : goal.returns
returns c = text_stands
