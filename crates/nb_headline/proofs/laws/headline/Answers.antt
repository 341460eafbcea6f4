use Rattle.nb_headline.proofs.Sentences.{headline_law}
use Rattle.nb_headline.proofs.laws.headline.Goals as goal

pub returns : goal.returns
returns g c = headline_law c.stays_legal.ensures c.records_legal.ensures c.status_tells_key.ensures c.status_tells_the_order.ensures g.D.Disk.tells
