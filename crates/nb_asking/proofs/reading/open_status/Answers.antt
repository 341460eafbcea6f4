use Rattle.nb_asking.proofs.Opening.{told_lawful}
use Rattle.nb_asking.proofs.reading.open_status.Goals as goal

pub returns-in-Ok-clause-lawful : goal.returns-in-Ok-clause-lawful
returns-in-Ok-clause-lawful c = told_lawful c.in-Ok.text.receipt c.in-Ok.ensures.spelled.0.receipt
