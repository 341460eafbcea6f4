use Rattle.std.proofs.Common.{rules, ◌≡◌, ◌<◌, ◌^◌, None, sym, ◌∙◌, arith}
use Rattle.nb_script.proofs.Numerals.{within, below, above, no_number, none_found}
use Rattle.nb_script.proofs.words.Words.number.Goals as goal
use Rattle.nb_script.proofs.words.Words.number.Goals.{then-n-least-via-then-n-least, then-n-least-via-else-n-least+then-n-most}

pub returns-in_err-n-clause-value : goal.returns-in_err-n-clause-value
returns-in_err-n-clause-value c =
    let none : c.decimal_of.result ≡ None = search rules in
    let told : c.from_residual.result ≡ None = search rules in
    told ∙ no_number c.args.self.now c.args.k c.args.least c.args.most c.ranges.most.fits (λ n small is. none_found c.decimal_of.result n none (c.decimal_of.ensures.each n small (c.word.ensures ∙ is)))

pub returns-then-n-least-clause-value : goal.returns-then-n-least-clause-value
returns-then-n-least-clause-value c =
    let is = sym c.word.ensures ∙ c.in_ok-n.ensures.some in
    let small : c.in_ok-n.n < 2 ^ 64 = search rules in
    elim c.then-n-least.branch [
      | then-n-least-via-then-n-least w ↦ below c.args.self.now c.args.k c.in_ok-n.n c.args.least c.args.most is small (omega (arith, w.if-n-least))
      | then-n-least-via-else-n-least+then-n-most w ↦ above c.args.self.now c.args.k c.in_ok-n.n c.args.least c.args.most is small (omega (arith, w.if-n-most))
    ]

pub returns-clause-value : goal.returns-clause-value
returns-clause-value c =
    let is = sym c.word.ensures ∙ c.in_ok-n.ensures.some in
    let small : c.in_ok-n.n < 2 ^ 64 = search rules in
    within c.args.self.now c.args.k c.in_ok-n.n c.args.least c.args.most is small (omega (arith, c.if-n-least.false)) (omega (arith, c.if-n-most.false))
