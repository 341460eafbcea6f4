use Rattle.std.proofs.Common.{refl}
use Rattle.nb_port.specs.Images.{fresh}
use Rattle.nb_port.proofs.Stops.{old_kept, new_content}
use Rattle.nb_port.proofs.laws.old_and_new.Goals as goal

pub returns-clause-old : goal.returns-clause-old
returns-clause-old c start steps = old_kept (fresh start) start steps refl

pub returns-clause-new : goal.returns-clause-new
returns-clause-new c start steps none = new_content (fresh start) start steps none refl
