use Rattle.std.proofs.Common.{rules, ◌≡◌, ◌∙◌, sym, ap, subst, arith}
use Rattle.std.specs.Int.{bit_at}
use Rattle.std.proofs.lemmas.Nat.Bits.{shr_and_one}
use Rattle.nb_turn.specs.Views.{found_one, named, joined}
use Rattle.nb_turn.specs.Seats.{IsPass}
use Rattle.nb_turn.proofs.Passing.{found_pass, named_pass, joined_back}
use Rattle.nb_turn.proofs.Splitting.{splits_seat}
use Rattle.nb_turn.proofs.Joining.{joins_seats}
use Rattle.nb_turn.proofs.types.Turn.split.Goals as goal

pub split_seat-other-requires : goal.split_seat-other-requires
split_seat-other-requires g c =
    let t = g.T.Chronicle in
    (search rules, search rules, splits_seat t.origin t.history t.maker _ _ _)

pub join_seat-requires : goal.join_seat-requires
join_seat-requires g c =
    let t = g.T.Chronicle in
    let set : bit_at c.claim-word.result c.args.number ≡ 1 = sym (shr_and_one c.claim-word.result c.args.number) ∙ c.if-word-number-eq1.true in
    let first = ap (λ m. m.0.holds) c.split_seat-other.ensures.2 ∙ c.args.pass.is_pass.idle in
    let second = ap (λ v. v.holds) (c.claim-word.ensures.set set) ∙ ap (λ m. m.0.holds) c.split_seat-other.ensures.4 in
    (search rules, search rules, search rules, search rules, joins_seats t.origin t.history t.maker _ _ _ _ _ first second)

pub invariant_of-result : goal.invariant_of-result
invariant_of-result g c =
    let set : bit_at c.claim-word.result c.args.number ≡ 1 = sym (shr_and_one c.claim-word.result c.args.number) ∙ c.if-word-number-eq1.true in
    let other = c.claim-word.ensures.set set ∙ ap (λ m. found_one 2 c.claim-word.result m.0) c.split_seat-other.ensures.4 in
    let first = ap (λ m. m.0) c.split_seat-other.ensures.2 in
    let same = ap (λ m. m.0) c.join_seat.ensures.2 ∙ (λ i. joined (first i) (other i)) ∙ joined_back c.args.pass.seat.me.0 2 c.claim-word.result in
    let empty = ap (λ m. m.1) c.join_seat.ensures.2 ∙ ap (λ m. m.1) c.split_seat-other.ensures.2 ∙ c.args.pass.is_pass.empty in
    record { is_pass = found_pass g.T.Chronicle.maker c.args.pass.seat.me c.join_seat.new.seat.me _ _ 2 c.claim-word.result c.args.pass.is_pass empty same }

pub invariant_of-first : goal.invariant_of-first
invariant_of-first g c = record { is_pass = subst (λ m. IsPass g.T.Chronicle.maker m c.args.pass.number c.args.pass.seen) (sym c.split_seat-other.ensures.2) c.args.pass.is_pass }

pub invariant_of-result-2 : goal.invariant_of-result-2
invariant_of-result-2 g c =
    let clear : bit_at c.claim-word.result c.args.number ≡ 0 = omega (arith, shr_and_one c.claim-word.result c.args.number, c.if-word-number-eq1.false) in
    let same = (c.claim-word.ensures.clear clear).0 ∙ ap (λ m. named c.args.number c.claim-word.result m.0) c.split_seat-other.ensures.4 in
    record { is_pass = named_pass g.T.Chronicle.maker c.args.pass.seat.me.0 c.claim-word.new.seat.me c.args.pass.seen c.args.number c.claim-word.result c.args.pass.is_pass.from c.args.pass.is_pass.seen_is c.claim-word.ensures.turn.1 same }
