use Rattle.nb_consumer.proofs.Telling.{last_item_tells}
use Rattle.nb_consumer.proofs.laws.last_item_tells.Goals as goal

pub returns : goal.returns
returns c = last_item_tells
