use Rattle.nb_escrow.proofs.Replying.{done_tells_the_entry}
use Rattle.nb_escrow.proofs.laws.done_tells_the_entry.Goals as goal

pub returns : goal.returns
returns c = done_tells_the_entry
