use Rattle.nb_seal.proofs.Opening.{text_in_opens, text_in_no_seal}
use Rattle.nb_seal.proofs.laws.text_in_bytes.Goals as goal

pub returns-clause-opened : goal.returns-clause-opened
returns-clause-opened c = text_in_opens

pub returns-clause-none : goal.returns-clause-none
returns-clause-none c = text_in_no_seal
