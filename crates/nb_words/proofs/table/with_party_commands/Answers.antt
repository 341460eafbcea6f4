use Rattle.std.proofs.Common.{[], ◌∷◌, codes, ap, ◌∙◌}
use Rattle.std.proofs.lemmas.Result.{IfOk-weaker}
use Rattle.clap.specs.Words.{with_subcommand}
use Rattle.clap.specs.Simple.{App}
use Rattle.nb_words.specs.Table as table
use Rattle.nb_words.proofs.table.with_party_commands.Goals as goal

pub returns : goal.returns
returns c =
    let first = c.in_ok-program.ensures in
    let second = c.in_ok-program-2.ensures ∙ ap (λ (a : App). with_subcommand a (table.shape (codes "sell") table.sell_positions [])) first in
    let third = c.in_ok-program-3.ensures ∙ ap (λ (a : App). with_subcommand a (table.shape (codes "credential") (codes "CONSUMER" ∷ codes "UNTIL" ∷ codes "GROUPS" ∷ []) [])) second in
    let fourth = c.in_ok-program-4.ensures ∙ ap (λ (a : App). with_subcommand a (table.shape (codes "buywith") table.buy_positions [])) third in
    IfOk-weaker c.with_sale-2.result _ _ (λ more is. is ∙ ap (λ (a : App). with_subcommand a (table.shape (codes "selloffers") table.sell_positions [])) fourth) c.with_sale-2.ensures
