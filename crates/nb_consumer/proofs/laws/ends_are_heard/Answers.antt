use Rattle.nb_consumer.proofs.Ending.{ends_are_heard}
use Rattle.nb_consumer.proofs.laws.ends_are_heard.Goals as goal

pub returns : goal.returns
returns c = ends_are_heard
