use Rattle.nb_units.proofs.FieldLaws.{text_short}
use Rattle.nb_units.proofs.laws.text_short.Goals as goal

pub returns : goal.returns
returns c = text_short
