use Rattle.std.proofs.Common.{◌≡◌, map, true, false, ap, ◌∙◌, []}
use Rattle.std.proofs.lemmas.Result.{IfOk-weaker}
use Rattle.clap.specs.Words.{app_of, with_subcommand}
use Rattle.clap.specs.Simple.{App}
use Rattle.clap.proofs.WalkLemmas.{both}
use Rattle.clap.proofs.SimpleLemmas.{is_false}
use Rattle.nb_words.specs.Table as table
use Rattle.nb_words.proofs.table.with.Goals as goal

pub returns : goal.returns
returns c =
    let needed = map (λ id. id.now) c.args.needed.now in
    let optional = map (λ id. id.now) c.args.optional.now in
    let all : app_of c.in_ok-command-2.command ≡ record { top = table.shape c.args.name.now needed optional; subs = [] } =
    c.in_ok-command-2.ensures ∙ ap (λ (a : App). table.with_positions a optional false) (c.in_ok-command.ensures ∙ ap (λ (a : App). table.with_positions a needed true) c.new-command.ensures.app) in
    let plain = ap (λ (a : App). a.top.is_plain) all in
    IfOk-weaker c.subcommand.result _ _ (λ more adds. adds.shape (is_false _ (both _ _ (both _ _ (both _ _ plain).1).1).0) ∙ ap (λ (a : App). with_subcommand (app_of c.args.program) a.top) all) c.subcommand.ensures
