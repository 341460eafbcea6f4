use Rattle.std.proofs.Common.{rules, ◌≡◌, Err, refl, sym, subst}
use Rattle.nb_groups.specs.Offers.{Tariff}
use Rattle.nb_groups.specs.Reads.{ReadsLines}
use Rattle.nb_groups.proofs.Reading.{SoFar, first_line, one_more, smaller, not_added}
use Rattle.nb_groups.proofs.offers.read_lines.Goals as goal

pub returns-in-None : goal.returns-in-None
returns-in-None c = (refl, c.in-None.ensures.none refl)

pub lines-init : goal.lines-init
lines-init c =
    subst (λ (t : Tariff). SoFar c.args.bytes.now t c.in-Some.first.1.now 1) (sym c.new-offers.ensures) (first_line c.args.bytes.now c.in-Some.first.0 c.in-Some.first.1.now c.in-Some.ensures.some)

pub lines-preserved : goal.lines-preserved
lines-preserved c =
    one_more c.args.bytes.now c.lines.rest.now c.in-Some-offer_of.behind.now c.lines.offers c.add.new.self c.lines.number c.in-Some-offer_of.offer c.lines.invariant c.in-Some-offer_of.ensures.some
    c.in_ok-add.ensures.0 c.in_ok-add.ensures.1 c.in_ok-add.ensures.2

pub lines-smaller : goal.lines-smaller
lines-smaller c = smaller c.lines.rest.now c.in-Some-offer_of.behind.now c.in-Some-offer_of.offer c.in-Some-offer_of.ensures.some

pub returns-in_err-add : goal.returns-in_err-add
returns-in_err-add c =
    let same : c.from_residual.result ≡ Err c.in_err-add.field-0.0 = search rules in
    subst (ReadsLines c.args.bytes.now) (sym same)
    (not_added c.args.bytes.now c.lines.rest.now c.in-Some-offer_of.behind.now c.lines.offers c.add.new.self c.lines.number c.in-Some-offer_of.offer c.in_err-add.field-0.0 c.lines.invariant c.in-Some-offer_of.ensures.some c.in_err-add.ensures)
