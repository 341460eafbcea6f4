-- A case has one ruling: where a test fails no other can hold in its place.
use Rattle.std.proofs.Common.{◌≡◌, ℕ, List, Option, Some, codes, sym, ap, ◌∙◌, length, inl, inr, subst}
use Rattle.nb_seal.proofs.Opening.{opens_once}
use Rattle.nb_endorse.specs.declared.receipt.Receipt.{Receipt}
use Rattle.nb_endorse.specs.declared.receipt.Signed.{Signed}
use Rattle.nb_endorse.specs.Spelling.{signed_bytes}
use Rattle.nb_endorse.specs.Tags.{signed_receipt}
use Rattle.nb_endorse.proofs.Receipts.{one_receipt}
use Rattle.nb_judge.specs.declared.case.Case.{Case}
use Rattle.nb_judge.specs.declared.ruling.Ruling.{Ruling}
use Rattle.nb_judge.specs.declared.ruling.Ruling.TheVariants.{KeyOpens, OtherOrder}
use Rattle.nb_judge.specs.Ruling.{RulesByReceipt, RulesByFields, RulesByCode, RulesByGoods, RulesByKey, Shows}
use Rattle.nb_judge.specs.Laws.{OneRuling, ShownReceiptRules}

some_is : {A : Type 0} (a b : A) → (let first : Option A = Some a in first ≡ Some b) → a ≡ b
some_is a b e = cc

one_shown : (consumer house bytes : List ℕ) (a b : Receipt) → Shows consumer house bytes a → Shows consumer house bytes b → a ≡ b
one_shown consumer house bytes a b first second =
    ap (λ (s : Signed). s.receipt) (one_receipt (signed_receipt house a) (signed_receipt house b) first.lawful second.lawful
    (opens_once consumer (codes "rcpt") bytes (signed_bytes (signed_receipt house a)) (signed_bytes (signed_receipt house b)) first.opens second.opens))

by_key : (c : Case) (key : List ℕ) (a b : Ruling) → RulesByKey c key a → RulesByKey c key b → a ≡ b
by_key c key a b (inl (shut, is)) (inl (also, same)) = is ∙ sym same
by_key c key a b (inl (shut, is)) (inr (goods, opens, same)) = absurd (shut goods opens)
by_key c key a b (inr (goods, opens, is)) (inl (shut, same)) = absurd (shut goods opens)
by_key c key a b (inr (goods, opens, is)) (inr (others, opened, same)) =
    is ∙ ap (λ (text : List ℕ). KeyOpens (length text)) (opens_once key (codes "good") c.sealed goods others opens opened) ∙ sym same

by_goods : (c : Case) (key : List ℕ) (a b : Ruling) → RulesByGoods c key a → RulesByGoods c key b → a ≡ b
by_goods c key a b (inl (other, is)) (inl (also, same)) = is ∙ sym same
by_goods c key a b (inl (other, is)) (inr (right, more)) = absurd (other right)
by_goods c key a b (inr (right, more)) (inl (other, same)) = absurd (other right)
by_goods c key a b (inr (right, more)) (inr (also, further)) = by_key c key a b more further

by_code : (c : Case) (r : Receipt) (a b : Ruling) → RulesByCode c r a → RulesByCode c r b → a ≡ b
by_code c r a b (inl (refused, is)) (inl (also, same)) = is ∙ sym same
by_code c r a b (inl (refused, is)) (inr (key, paid, has, more)) = absurd (refused paid)
by_code c r a b (inr (key, paid, has, more)) (inl (refused, same)) = absurd (refused paid)
by_code c r a b (inr (key, paid, has, more)) (inr (other, also, holds, further)) =
    by_goods c key a b more (subst (λ (k : List ℕ). RulesByGoods c k b) (some_is other key (sym holds ∙ has)) further)

by_fields : (c : Case) (r : Receipt) (a b : Ruling) → RulesByFields c r a → RulesByFields c r b → a ≡ b
by_fields c r a b (inl (n, differs, is)) (inl (m, also, same)) = is ∙ ap OtherOrder (some_is n m (sym differs ∙ also)) ∙ sym same
by_fields c r a b (inl (n, differs, is)) (inr (fits, more)) = absurd cc
by_fields c r a b (inr (fits, more)) (inl (n, differs, same)) = absurd cc
by_fields c r a b (inr (fits, more)) (inr (also, further)) = by_code c r a b more further

by_receipt : (c : Case) (a b : Ruling) → RulesByReceipt c a → RulesByReceipt c b → a ≡ b
by_receipt c a b (inl (none, is)) (inl (also, same)) = is ∙ sym same
by_receipt c a b (inl (none, is)) (inr (r, shows, more)) = absurd (none r shows)
by_receipt c a b (inr (r, shows, more)) (inl (none, same)) = absurd (none r shows)
by_receipt c a b (inr (r, shows, more)) (inr (q, show, further)) =
    by_fields c r a b more (subst (λ (x : Receipt). RulesByFields c x b) (one_shown c.consumer c.house c.receipt q r show shows) further)

pub shown_receipt_rules : ShownReceiptRules
shown_receipt_rules c r ruling made shows fits (inl (other, is)) = absurd (other made)
shown_receipt_rules c r ruling made shows fits (inr (right, inl (none, is))) = absurd (none r shows)
shown_receipt_rules c r ruling made shows fits (inr (right, inr (q, show, more))) =
    behind (subst (λ (x : Receipt). RulesByFields c x ruling) (one_shown c.consumer c.house c.receipt q r show shows) more)
  where
    behind : RulesByFields c r ruling → RulesByCode c r ruling
    behind (inl (n, differs, is)) = absurd cc
    behind (inr (also, further)) = further

pub one_ruling : OneRuling
one_ruling c a b (inl (other, is)) (inl (also, same)) = is ∙ sym same
one_ruling c a b (inl (other, is)) (inr (right, more)) = absurd (other right)
one_ruling c a b (inr (right, more)) (inl (other, same)) = absurd (other right)
one_ruling c a b (inr (right, more)) (inr (also, further)) = by_receipt c a b more further
