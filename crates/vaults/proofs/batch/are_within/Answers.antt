use Rattle.std.proofs.Common.{take, get_or, sym, subst, arith}
use Rattle.std.specs.List.{All}
use Rattle.std.proofs.lemmas.List.{take_all, take_more}
use Rattle.std.proofs.lemmas.List.Elements.{All-push}
use Rattle.nb_vault.specs.declared.answer.AskAt.{AskAt}
use Rattle.nb_vault.specs.Asking.{IsWithin}
use Rattle.vaults.proofs.batch.are_within.Goals as goal

pub loop-ask-preserved : goal.loop-ask-preserved
loop-ask-preserved c =
    let asks = c.args.asks.now in
    let i = c.loop-ask.ask-index in
    let d : AskAt = record { kind = 0; start = 0; len = 0; moment = 0 } in
    let here : IsWithin c.args.bytes.now (get_or asks i d) = omega (arith, c.if-ask-bytes.false, c.if-ask-bytes-2.false) in
    subst (All (IsWithin c.args.bytes.now)) (sym (take_more asks i d c.loop-ask-test.true)) (All-push (IsWithin c.args.bytes.now) (take i asks) (get_or asks i d) c.loop-ask.invariant here)

pub returns : goal.returns
returns c = λ is. subst (All (IsWithin c.args.bytes.now)) (take_all c.loop-ask.ask-index c.args.asks.now (omega (arith, c.loop-ask-test.false))) c.loop-ask.invariant
