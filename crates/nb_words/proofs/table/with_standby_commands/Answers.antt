use Rattle.std.proofs.Common.{◌≡◌, ◌∙◌, IfOk, ap, codes, subst, []}
use Rattle.clap.specs.Simple.{App}
use Rattle.clap.specs.Words.{app_of, with_subcommand}
use Rattle.nb_words.specs.Table.{journal_position, shape}
use Rattle.nb_words.proofs.table.with_standby_commands.Goals as goal

pub returns : goal.returns
returns c =
    subst (λ (a : App). IfOk c.with_journal-2.result (λ more. app_of more ≡ with_subcommand a (shape (codes "promote") journal_position [])))
    (c.in_ok-program-2.ensures ∙ ap (λ (a : App). with_subcommand a (shape (codes "follow") journal_position [])) c.in_ok-program.ensures) c.with_journal-2.ensures
