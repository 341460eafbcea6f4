use Rattle.std.proofs.Common.{◌≡◌, ℕ, ◌+◌, ◌<◌, ◌++◌, ◌∷◌, [], true, List, Some, length, sym, ap, subst, ◌∙◌, arith}
use Rattle.std.proofs.lemmas.Option.{same_Some}
use Rattle.nb_groups.specs.Groups.{are_groups}
use Rattle.nb_groups.proofs.Naming.{SoFar, one_more, too_many, last_of}
use Rattle.nb_groups.proofs.groups.Groups.named.Goals as goal

pub returns-then-len-eq-MAX_GROUPS-clause-each : goal.returns-then-len-eq-MAX_GROUPS-clause-each
returns-then-len-eq-MAX_GROUPS-clause-each c = λ groups are e.
    let full : length c.naming.numbers + 1 ≡ 4 = omega (arith, c.if-len-eq-MAX_GROUPS.true, c.len.ensures) in
    absurd (too_many c.args.word.now c.naming.numbers c.naming.rest.now c.in-Some.behind.now c.in-Some.group c.naming.invariant c.in-Some.ensures.some c.in-Some.ensures.fits full groups are e)

pub naming-preserved : goal.naming-preserved
naming-preserved c =
    let room : length c.naming.numbers + 1 < 4 = omega (arith, c.if-len-eq-MAX_GROUPS.false, c.len.ensures, c.naming.invariant.few) in
    subst (λ (ns : List ℕ). SoFar c.args.word.now ns c.in-Some.behind.now) (sym c.push.ensures)
    (one_more c.args.word.now c.naming.numbers c.naming.rest.now c.in-Some.behind.now c.in-Some.group c.naming.invariant c.in-Some.ensures.some c.in-Some.ensures.fits room)

pub returns-in_err-last-clause-each : goal.returns-in_err-last-clause-each
returns-in_err-last-clause-each c = λ groups are e.
    let l = last_of c.args.word.now c.naming.numbers c.naming.rest.now c.naming.invariant c.in_default.ensures.each groups are e in
    let both = sym c.in_err-last.was ∙ c.decimal_of.ensures.each l.last (omega (arith, l.fits)) l.rest_is in
    absurd cc

pub returns-then-last-from-clause-each : goal.returns-then-last-from-clause-each
returns-then-last-from-clause-each c = λ groups are e.
    let l = last_of c.args.word.now c.naming.numbers c.naming.rest.now c.naming.invariant c.in_default.ensures.each groups are e in
    let same = same_Some _ _ (c.in_ok-last.ensures.each l.last (omega (arith, l.fits)) l.rest_is) in
    absurd (omega (arith, l.fits, same, c.if-last-from.true, c.from.ensures))

pub returns-then-not-are_groups-clause-each : goal.returns-then-not-are_groups-clause-each
returns-then-not-are_groups-clause-each c = λ groups are e.
    let l = last_of c.args.word.now c.naming.numbers c.naming.rest.now c.naming.invariant c.in_default.ensures.each groups are e in
    let same = same_Some _ _ (c.in_ok-last.ensures.each l.last (omega (arith, l.fits)) l.rest_is) in
    let all : c.as_slice.result.now ≡ groups = c.as_slice.ensures.value ∙ c.push-2.ensures ∙ ap (λ (n : ℕ). c.naming.numbers ++ n ∷ []) same ∙ sym l.are in
    let is : c.are_groups.result ≡ true = c.are_groups.ensures ∙ ap are_groups all ∙ are.0 in
    let not = c.if-not-are_groups.true in
    absurd cc

pub returns-clause-each : goal.returns-clause-each
returns-clause-each c = λ groups are e.
    let l = last_of c.args.word.now c.naming.numbers c.naming.rest.now c.naming.invariant c.in_default.ensures.each groups are e in
    let same = same_Some _ _ (c.in_ok-last.ensures.each l.last (omega (arith, l.fits)) l.rest_is) in
    let all : c.push-2.new.self ≡ groups = c.push-2.ensures ∙ ap (λ (n : ℕ). c.naming.numbers ++ n ∷ []) same ∙ sym l.are in
    ap Some all
