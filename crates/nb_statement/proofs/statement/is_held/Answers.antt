use Rattle.std.proofs.Common.{sym, ◌∙◌, ◌<◌, length, arith}
use Rattle.nb_vault.specs.Vaults.{entries_in}
use Rattle.nb_statement.proofs.Knowing.{search_on, search_found, stands_there}
use Rattle.nb_statement.proofs.statement.is_held.Goals.{in-Some+else-is_opened_by, in_default}
use Rattle.nb_statement.proofs.statement.is_held.Goals as goal

pub returns-then-is_opened_by : goal.returns-then-is_opened_by
returns-then-is_opened_by g c =
    sym (search_found c.args.account (entries_in c.args.vault.now) c.entries.at c.in-Some.entry (sym c.in-Some.ensures) (sym c.is_opened_by.ensures ∙ c.if-is_opened_by.true) c.entries.invariant)

pub entries-preserved : goal.entries-preserved
entries-preserved g c =
    let within : c.entries.at < length (entries_in c.args.vault.now) = omega (arith, c.entries-test.true, c.entries-at-end.ensures.count) in
    elim c.match-entry.branch [
      | in-Some+else-is_opened_by w ↦
          search_on c.args.account (entries_in c.args.vault.now) c.entries.at w.in-Some.entry (sym w.in-Some.ensures) (sym w.is_opened_by.ensures ∙ w.if-is_opened_by.false) c.entries.invariant
      | in_default w ↦ absurd (stands_there (entries_in c.args.vault.now) c.entries.at within (sym c.entry.ensures ∙ w.in_default.is))
    ]
