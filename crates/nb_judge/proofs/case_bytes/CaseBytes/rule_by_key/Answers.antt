use Rattle.std.proofs.Common.{◌≡◌, ◌-◌, codes, length, ap, refl, arith, inr, subst}
use Rattle.nb_seal.proofs.Opening.{length-seal_of}
use Rattle.nb_judge.specs.declared.case.Case.{Case}
use Rattle.nb_judge.specs.declared.ruling.Ruling.TheVariants.{KeyOpens}
use Rattle.nb_judge.specs.Ruling.{RulesByKey}
use Rattle.nb_judge.proofs.case_bytes.CaseBytes.rule_by_key.Goals as goal

pub overflow_sub-result : goal.overflow_sub-result
overflow_sub-result c =
    let o = c.if-opens.ensures.opened refl in
    omega (arith, ap length o.1, length-seal_of c.args.key.now (codes "good") o.0)

pub returns-then-opens : goal.returns-then-opens
returns-then-opens c =
    let o = c.if-opens.ensures.opened refl in
    let long : length c.self.inside.sealed.now - 32 ≡ length o.0 = omega (arith, ap length o.1, length-seal_of c.args.key.now (codes "good") o.0) in
    subst (λ (x : Case). RulesByKey x c.args.key.now (KeyOpens (length c.self.inside.sealed.now - 32))) c.self.view_is (inr (o.0, o.1, ap KeyOpens long))
