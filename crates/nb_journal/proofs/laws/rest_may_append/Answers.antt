use Rattle.nb_journal.proofs.Growing.{rest_may_append}
use Rattle.nb_journal.proofs.laws.rest_may_append.Goals as goal

pub returns : goal.returns
returns g c = rest_may_append g.D.Disk.tells
