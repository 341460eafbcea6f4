use Rattle.nb_script.proofs.Shelving.{scripts_have_shelves}
use Rattle.nb_script.proofs.laws.scripts_have_shelves.Goals as goal

pub returns : goal.returns
returns c = scripts_have_shelves
