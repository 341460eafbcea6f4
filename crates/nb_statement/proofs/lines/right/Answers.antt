use Rattle.std.proofs.Common.{◌++◌, List, ℕ, ap, ◌∙◌}
use Rattle.std.specs.Fmt.{decimal}
use Rattle.nb_statement.proofs.Placing.{placed}
use Rattle.nb_statement.proofs.lines.right.Goals as goal

pub returns-clause-value : goal.returns-clause-value
returns-clause-value c =
    c.raw-2.ensures ∙ ap (λ (xs : List ℕ). xs ++ c.as_bytes-text.result.now) c.raw.ensures
    ∙ placed c.args.line.now c.split_at.result.0.now c.as_bytes-text.result.now (decimal c.args.n) c.saturating_sub.result c.args.width c.split_at.ensures.front c.saturating_sub.ensures
    (c.as_bytes-text.ensures.value ∙ c.format.ensures.text) c.requires.width
