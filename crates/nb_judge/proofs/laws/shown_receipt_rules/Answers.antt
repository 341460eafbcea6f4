use Rattle.nb_judge.proofs.Once.{shown_receipt_rules}
use Rattle.nb_judge.proofs.laws.shown_receipt_rules.Goals as goal

pub returns : goal.returns
returns c = shown_receipt_rules
