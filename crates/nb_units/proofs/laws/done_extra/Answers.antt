use Rattle.nb_units.proofs.FieldLaws.{done_extra}
use Rattle.nb_units.proofs.laws.done_extra.Goals as goal

pub returns : goal.returns
returns c = done_extra
