use Rattle.nb_escrow.proofs.Recording.{records_legal}
use Rattle.nb_escrow.proofs.laws.records_legal.Goals as goal

pub returns : goal.returns
returns c = records_legal
