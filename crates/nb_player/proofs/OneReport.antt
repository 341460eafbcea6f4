-- A world has one report.
use Rattle.std.proofs.Common.{◌≡◌, ℕ, Bool, true, false, List, Ordering, refl, sym, ap, ◌∙◌}
use Rattle.std.specs.Prelude.{IsTrue, Contains}
use Rattle.std.specs.BTreeSet as sorted
use Rattle.std.specs.BTreeSet.{BTreeSet}
use Rattle.std.specs.Cmp.{IsTotalOrder, nat_cmp_total, on_total, then_total}
use Rattle.std.specs.List.Sorted.{IsStrictlySortedBy}
use Rattle.std.specs.Ordering.{nat_cmp}
use Rattle.std.proofs.lemmas.Map.Lookups.{CmpEqualImpliesEq, exact_unsigned, exact_pairs, btree_set_from_contains}
use Rattle.std.proofs.lemmas.Map.Views.{btree_set_contains_iff}
use Rattle.nb_player.specs.Report.{purchase_order, report_of}
use Rattle.nb_player.specs.Laws.{OneReport}

pub purchase_order_total : IsTotalOrder purchase_order
purchase_order_total = then_total (on_total (λ p. p.0) nat_cmp_total) (on_total (λ p. p.1) nat_cmp_total)

pub purchase_order_exact : CmpEqualImpliesEq purchase_order
purchase_order_exact = exact_pairs nat_cmp nat_cmp exact_unsigned exact_unsigned

same_test : (a b : Bool) → (IsTrue a → IsTrue b) → (IsTrue b → IsTrue a) → a ≡ b
same_test true true f g = refl
same_test true false f g = sym (f refl)
same_test false true f g = g refl
same_test false false f g = refl

-- two lists in order that have the same elements are one
same_rows : {K : Type 0} {R : K → K → Ordering} (o : IsTotalOrder R) (exact : CmpEqualImpliesEq R) (xs ys : List K) → IsStrictlySortedBy R xs → IsStrictlySortedBy R ys
    → ((q : K) → Contains xs q → Contains ys q) → ((q : K) → Contains ys q → Contains xs q) → xs ≡ ys
same_rows {K} {R} o exact xs ys s t f g =
    let here : BTreeSet K = record { keys = xs } in
    let there : BTreeSet K = record { keys = ys } in
    btree_set_from_contains o here there s t (λ q.
    let one = btree_set_contains_iff o exact here q in
    let other = btree_set_contains_iff o exact there q in
    same_test (sorted.contains R here q) (sorted.contains R there q) (λ e. other.1 (f q (one.0 e))) (λ e. one.1 (g q (other.0 e)))) exact

pub one_report : OneReport
one_report w a b r s =
    let accounts : r.accounts ≡ s.accounts = same_rows nat_cmp_total exact_unsigned r.accounts s.accounts r.are_accounts.ascend s.are_accounts.ascend
    (λ q h. (s.are_accounts.each q).1 ((r.are_accounts.each q).0 h)) (λ q h. (r.are_accounts.each q).1 ((s.are_accounts.each q).0 h)) in
    let purchases : r.purchases ≡ s.purchases = same_rows purchase_order_total purchase_order_exact r.purchases s.purchases r.are_purchases.ascend s.are_purchases.ascend
    (λ q h. (s.are_purchases.each q).1 ((r.are_purchases.each q).0 h)) (λ q h. (r.are_purchases.each q).1 ((s.are_purchases.each q).0 h)) in
    r.is ∙ ap (λ (x : List ℕ). report_of w x r.purchases) accounts ∙ ap (λ (x : List (ℕ × ℕ)). report_of w s.accounts x) purchases ∙ sym s.is
