use Rattle.nb_units.proofs.FieldLaws.{text_long}
use Rattle.nb_units.proofs.laws.text_long.Goals as goal

pub returns : goal.returns
returns c = text_long
