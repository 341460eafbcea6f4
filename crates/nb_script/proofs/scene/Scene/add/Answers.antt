use Rattle.std.proofs.Common.{◌++◌, ◌∷◌, [], sym, ap, ◌∙◌}
use Rattle.nb_entry.specs.declared.entry.Entry.{Entry}
use Rattle.nb_script.specs.declared.line.Line.{Line}
use Rattle.nb_script.specs.Settings as settings
use Rattle.nb_script.proofs.scene.Scene.add.Goals as goal

pub returns-in_ok-enter-in-Fund : goal.returns-in_ok-enter-in-Fund
returns-in_ok-enter-in-Fund c =
    c.in_ok-enter-in-Fund.ensures
    ∙ ap (λ (e : Entry). record c.args.self.now { entries = c.args.self.now.entries ++ e ∷ [] }) c.fund_entry.ensures
    ∙ ap (λ (l : Line). settings.behind c.args.self.now c.args.number l) (sym c.in-Fund.is)
