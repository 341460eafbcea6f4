use Rattle.nb_book.proofs.Roles.{legal_keeps_rules}
use Rattle.nb_book.proofs.laws.legal_keeps_rules.Goals as goal

pub returns : goal.returns
returns c = legal_keeps_rules
