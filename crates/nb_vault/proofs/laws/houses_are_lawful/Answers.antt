use Rattle.nb_vault.proofs.Vaulting.{house_lawful, house_records}
use Rattle.nb_vault.proofs.laws.houses_are_lawful.Goals as goal

pub returns-clause-lawful : goal.returns-clause-lawful
returns-clause-lawful c = house_lawful

pub returns-clause-rate : goal.returns-clause-rate
returns-clause-rate c = house_records
