use Rattle.std.proofs.Common.{◌≢◌, take, drop, ap, ◌∙◌}
use Rattle.std.specs.Prelude.{replicate}
use Rattle.nb_units.specs.Charter.{AreVersionAndRate}
use Rattle.nb_journal.proofs.Fronts.{no_rate, no_zeros}
use Rattle.nb_journal.proofs.opening.front.terms_of.Goals as goal

pub returns-then-not-may_have-clause-none : goal.returns-then-not-may_have-clause-none
returns-then-not-may_have-clause-none c =
    let none : AreVersionAndRate c.args.version c.short_number-rate.result → ⊥ = λ are. cc (c.may_have.ensures.1 are) in
    no_rate c.args.version c.short_number-rate.result c.args.bytes.now c.split_at-3.result.0.now none c.short_number-rate.ensures
    (c.split_at-3.ensures.front ∙ ap (take 2) (c.split_at-2.ensures.back ∙ ap (drop 80) c.split_at.ensures.back)) c.short_number-rate.type_inv

pub returns-then-not-same_bytes-clause-none : goal.returns-then-not-same_bytes-clause-none
returns-then-not-same_bytes-clause-none c =
    let other : c.split_at-3.result.1.now ≢ replicate 2 0 = λ is. cc (c.same_bytes.ensures.1 is) in
    no_zeros c.args.version c.args.bytes.now c.split_at-3.result.1.now (c.split_at-3.ensures.back ∙ ap (drop 2) (c.split_at-2.ensures.back ∙ ap (drop 80) c.split_at.ensures.back)) other
