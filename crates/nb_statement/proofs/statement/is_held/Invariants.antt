use Rattle.nb_vault.specs.Vaults.{entries_in}
use Rattle.nb_statement.proofs.Knowing.{Searches}
use Rattle.nb_statement.proofs.statement.is_held.Given as goal

-- the search of what is left is that of all
abbrev pub invariant-entries : goal.invariant-entries
invariant-entries g l = Searches l.account (entries_in l.vault) l.at
