use Rattle.std.proofs.Common.{[], ◌∷◌, codes, ap, ◌∙◌}
use Rattle.std.proofs.lemmas.Result.{IfOk-weaker}
use Rattle.clap.specs.Words.{with_subcommand}
use Rattle.clap.specs.Simple.{App}
use Rattle.nb_words.specs.Table as table
use Rattle.nb_words.proofs.table.with_house_commands.Goals as goal

pub returns : goal.returns
returns c =
    let first = c.in_ok-program.ensures in
    let second = c.in_ok-program-2.ensures ∙ ap (λ (a : App). with_subcommand a (table.shape (codes "migrate") (codes "JOURNAL" ∷ codes "PERMILLE" ∷ []) [])) first in
    let third = c.in_ok-program-3.ensures ∙ ap (λ (a : App). with_subcommand a (table.shape (codes "statement") (codes "JOURNAL" ∷ codes "ACCT" ∷ []) [])) second in
    IfOk-weaker c.with-4.result _ _ (λ more is. is ∙ ap (λ (a : App). with_subcommand a (table.shape (codes "judge") [] [])) third) c.with-4.ensures
