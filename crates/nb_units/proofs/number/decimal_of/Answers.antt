use Rattle.std.proofs.Common.{Some, ap, sym, subst, ◌∙◌, arith}
use Rattle.std.proofs.lemmas.Bool.{iff_false}
use Rattle.std.proofs.lemmas.Fmt.{parse-decimal}
use Rattle.nb_units.specs.Numerals.{IsPlain}
use Rattle.nb_units.proofs.Numerals.{plain, is_text, parsed, one_value, no_error}
use Rattle.nb_units.proofs.number.decimal_of.Goals as goal

pub returns-then-not-is_plain-clause-each : goal.returns-then-not-is_plain-clause-each
returns-then-not-is_plain-clause-each c n small is = absurd (iff_false c.is_plain.ensures c.if-not-is_plain.true (plain c.args.word.now n small is))

pub returns-in-Ok-parse-clause-some : goal.returns-in-Ok-parse-clause-some
returns-in-Ok-parse-clause-some c =
    sym c.in-Ok.ensures.cases.0
    ∙ parsed c.in-Ok.text.now c.parse.result c.in-Ok-parse.n c.parse.ensures.value.0 c.in-Ok-parse.is (subst IsPlain (sym c.in-Ok.ensures.cases.0) (c.is_plain.ensures.0 c.if-not-is_plain.false))

pub returns-in-Ok-parse-clause-each : goal.returns-in-Ok-parse-clause-each
returns-in-Ok-parse-clause-each c n small is =
    ap Some (one_value c.parse.result c.in-Ok-parse.n n c.in-Ok-parse.is (parse-decimal 64 n c.in-Ok.text.now c.parse.result small (omega (arith, small)) (c.in-Ok.ensures.cases.0 ∙ is) c.parse.ensures.value.0))

pub returns-in-Err-parse-clause-each : goal.returns-in-Err-parse-clause-each
returns-in-Err-parse-clause-each c n small is =
    absurd (no_error c.parse.result _ n c.in-Err-parse.is (parse-decimal 64 n c.in-Ok.text.now c.parse.result small (omega (arith, small)) (c.in-Ok.ensures.cases.0 ∙ is) c.parse.ensures.value.0))

pub returns-in-Err-clause-each : goal.returns-in-Err-clause-each
returns-in-Err-clause-each c n small is = absurd (c.in-Err.ensures.cases.0 (is_text c.args.word.now n small is))
