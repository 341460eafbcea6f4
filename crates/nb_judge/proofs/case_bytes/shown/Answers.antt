use Rattle.std.proofs.Common.{◌≡◌, Result, Ok, ap, sym, ◌∙◌}
use Rattle.nb_endorse.specs.declared.receipt.Signed.{Signed}
use Rattle.nb_endorse.specs.declared.sealed.SealedFault.{SealedFault}
use Rattle.nb_endorse.specs.Tags.{receipt_tag, signed_receipt}
use Rattle.nb_judge.proofs.case_bytes.shown.Goals as goal

signed_is : (a b : Signed) → (let first : Result Signed SealedFault = Ok a in first ≡ Ok b) → a ≡ b
signed_is a b e = cc

pub returns-in_default-clause-none : goal.returns-in_default-clause-none
returns-in_default-clause-none c = λ is r shows.
    let house = c.args.house.now in
    let same : c.in-Ok.signed ≡ signed_receipt house r = signed_is c.in-Ok.signed (signed_receipt house r) (sym c.in-Ok.is ∙ c.read_receipt.ensures.found (signed_receipt house r) shows.lawful shows.opens) in
    let right = c.if-receipt_tag_ok.ensures.1 (ap (λ (s : Signed). s.tag) same ∙ ap (λ (s : Signed). receipt_tag house s.receipt) (sym same)) in
    absurd cc

pub returns-in_default-2-clause-none : goal.returns-in_default-2-clause-none
returns-in_default-2-clause-none c = λ is r shows.
    let found = sym c.in_default.is ∙ c.read_receipt.ensures.found (signed_receipt c.args.house.now r) shows.lawful shows.opens in
    absurd cc
