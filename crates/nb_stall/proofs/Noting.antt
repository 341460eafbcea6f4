-- What is held of purchases, with an item more.
use Rattle.std.proofs.Common.{◌≡◌, ℕ, ◌<◌, Bool, true, false, cond, ◌==◌, Option, None, refl, sym, ap, ◌∙◌, arith}
use Rattle.std.specs.Prelude.{nat_lt}
use Rattle.std.specs.Ordering.{is_eq, nat_cmp}
use Rattle.std.specs.Cmp.{both_tied}
use Rattle.std.proofs.lemmas.Bool.{eqb-true, eq-eqb, ltb-true, false≢true}
use Rattle.nb_goods.specs.Divided.{Divided}
use Rattle.nb_stall.specs.declared.purchase.Purchase.{Purchase}
use Rattle.nb_stall.specs.declared.item.Item.{Item}
use Rattle.nb_stall.specs.declared.sale.Held.{Held}
use Rattle.nb_stall.specs.Reading.{purchase_of}
use Rattle.nb_stall.specs.Sales.{is_same, purchase_cmp}
use Rattle.nb_stall.specs.Ledger.{noted, noted_at}

-- numbers compare equal exactly where they are one
nat_same : (a b : ℕ) → is_eq (nat_cmp a b) ≡ (a == b)
nat_same a b = by (nat_lt a b) (a == b) refl refl
  where
    by : (less same : Bool) → nat_lt a b ≡ less → (a == b) ≡ same → is_eq (nat_cmp a b) ≡ (a == b)
    by true true is e = absurd (let l : a < b = ltb-true a b is in let s : a ≡ b = eqb-true a b e in omega (arith, l, s))
    by true false is e = rw (is, e) refl
    by false true is e = rw (is, e) refl
    by false false is e = rw (is, e) refl

-- the order of purchases tells them apart
pub same_is : (p q : Purchase) → is_eq (purchase_cmp p q) ≡ is_same p q
same_is p q =
    sym (both_tied (p.consumer.0 == q.consumer.0) (p.transaction == q.transaction) (nat_cmp p.consumer.0 q.consumer.0) (nat_cmp p.transaction q.transaction)
    (sym (nat_same p.consumer.0 q.consumer.0)) (sym (nat_same p.transaction q.transaction)))

-- purchases that are the same are one
pub one_purchase : (p q : Purchase) → is_same p q ≡ true → p ≡ q
one_purchase p q is = by (p.consumer.0 == q.consumer.0) refl (p.transaction == q.transaction) refl is
  where
    by : (first : Bool) → (p.consumer.0 == q.consumer.0) ≡ first → (second : Bool) → (p.transaction == q.transaction) ≡ second → is_same p q ≡ true → p ≡ q
    by true a true b is =
        let c : p.consumer.0 ≡ q.consumer.0 = eqb-true p.consumer.0 q.consumer.0 a in
        let t : p.transaction ≡ q.transaction = eqb-true p.transaction q.transaction b in
        rw (c, t) refl
    by true a false b is = absurd (false≢true (sym (rw (a, b) refl) ∙ is))
    by false a second b is = absurd (false≢true (sym (rw a refl) ∙ is))

pub same_purchase : (p : Purchase) → is_same p p ≡ true
same_purchase p = rw (eq-eqb p.consumer.0 p.consumer.0 refl, eq-eqb p.transaction p.transaction refl) refl

-- what is held at each purchase, where at that of the item it is what was noted, and elsewhere what it was
pub noted_so : (x : Item) (parts : Option Divided) (p : Purchase) (old new : Purchase → Option Held) (w : Option Held) → p ≡ purchase_of x
    → ((q : Purchase) → new q ≡ cond (is_eq (purchase_cmp p q)) w (old q)) → w ≡ noted (old p) x parts
    → (q : Purchase) → new q ≡ noted_at x parts q (old q)
noted_so x parts p old new w names updates is q = by (is_same p q) refl
  where
    by : (same : Bool) → is_same p q ≡ same → new q ≡ noted_at x parts q (old q)
    by true e =
        let one : p ≡ q = one_purchase p q e in
        updates q ∙ ap (λ (b : Bool). cond b w (old q)) (same_is p q ∙ e) ∙ is ∙ ap (λ (r : Purchase). noted (old r) x parts) one
        ∙ sym (ap (λ (b : Bool). cond b (noted (old q) x parts) (old q)) (sym (ap (λ (r : Purchase). is_same r q) names) ∙ e))
    by false e =
        updates q ∙ ap (λ (b : Bool). cond b w (old q)) (same_is p q ∙ e)
        ∙ sym (ap (λ (b : Bool). cond b (noted (old q) x parts) (old q)) (sym (ap (λ (r : Purchase). is_same r q) names) ∙ e))

-- the same where nothing was noted and nothing is held there
pub not_noted : (x : Item) (parts : Option Divided) (p : Purchase) (old : Purchase → Option Held) → p ≡ purchase_of x → old p ≡ None → noted None x parts ≡ None
    → (q : Purchase) → old q ≡ noted_at x parts q (old q)
not_noted x parts p old names none is q = by (is_same p q) refl
  where
    by : (same : Bool) → is_same p q ≡ same → old q ≡ noted_at x parts q (old q)
    by true e =
        let one : p ≡ q = one_purchase p q e in
        let none_q : old q ≡ None = sym (ap old one) ∙ none in
        none_q ∙ sym is ∙ sym (ap (λ (h : Option Held). noted h x parts) none_q)
        ∙ sym (ap (λ (b : Bool). cond b (noted (old q) x parts) (old q)) (sym (ap (λ (r : Purchase). is_same r q) names) ∙ e))
    by false e = sym (ap (λ (b : Bool). cond b (noted (old q) x parts) (old q)) (sym (ap (λ (r : Purchase). is_same r q) names) ∙ e))
