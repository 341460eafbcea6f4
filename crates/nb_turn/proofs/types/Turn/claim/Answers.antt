use Rattle.std.proofs.Common.{rules, ◌≡◌, ℕ, [], ◌∙◌, sym, subst}
use Rattle.std.specs.Int.{bit_at}
use Rattle.std.proofs.lemmas.Nat.{one_shl}
use Rattle.nb_turn.specs.Lines.{lines_by}
use Rattle.nb_turn.specs.Views.{named}
use Rattle.nb_turn.proofs.Steps.{claims_as, same_power}
use Rattle.nb_turn.proofs.types.Turn.claim.Goals as goal

pub fetch_or-requires : goal.fetch_or-requires
fetch_or-requires g c =
    let t = g.T.Chronicle in
    (search rules, search rules, claims_as t.origin t.history t.maker _ _ _ _ c.args.self.now.sized.1 c.args.number _ (one_shl c.args.number 64 c.requires.within) c.requires.newcomer.0 c.requires.newcomer.1 c.requires.newcomer.2)

pub returns-clause-clear : goal.returns-clause-clear
returns-clause-clear g c =
    let e = c.fetch_or.ensures.2 in
    let same : c.args.number ≡ e.0 = same_power c.args.number e.0 (sym (one_shl c.args.number 64 c.requires.within) ∙ e.1) in
    subst (λ (n : ℕ). bit_at c.fetch_or.result n ≡ 0 → (c.fetch_or.new.seat.me.0 ≡ named n c.fetch_or.result c.args.seat.now.me.0) × (lines_by g.T.Chronicle.maker n c.args.seat.now.me.0.seen ≡ [])) (sym same) e.4
