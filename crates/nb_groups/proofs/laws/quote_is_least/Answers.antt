use Rattle.nb_groups.proofs.Quotes.{quote_is_least}
use Rattle.nb_groups.proofs.laws.quote_is_least.Goals as goal

pub returns : goal.returns
returns c = quote_is_least
