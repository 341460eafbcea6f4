-- Shelves, one behind the other.
use Rattle.std.proofs.Common.{◌≡◌, ℕ, ◌+◌, ◌≤◌, false, List, [], ◌∷◌, ◌++◌, sym, ap, subst, ◌∙◌, append_assoc, append-nil, arith}
use Rattle.std.specs.List.{list_any}
use Rattle.std.proofs.lemmas.List.Sums.{sum_by_push}
use Rattle.nb_script.specs.declared.limits.TheConstants.{MAX_ALL_GOODS}
use Rattle.nb_script.specs.declared.line.Shelf.{Shelf}
use Rattle.nb_script.specs.Settings.{IsShelf, all_goods, is_of, AreSold, AreShelvesBehind}
use Rattle.nb_script.specs.Laws.{ScriptsHaveShelves}
use Rattle.nb_script.proofs.Induction.{script_keeps}

-- a shelf more, which is new
pub shelf_more : (before shelves : List Shelf) (x : Shelf) → AreShelvesBehind before shelves → IsShelf x → list_any (is_of x.merchant x.product) (before ++ shelves) ≡ false
    → AreShelvesBehind before (shelves ++ x ∷ [])
shelf_more before [] x are is new = (is, ap (list_any (is_of x.merchant x.product)) (sym (append-nil before)) ∙ new, tt)
shelf_more before (y ∷ shelves) x are is new =
    (are.0, are.1, shelf_more (before ++ y ∷ []) shelves x are.2 is (ap (list_any (is_of x.merchant x.product)) (append_assoc before (y ∷ []) shelves) ∙ new))

-- its goods come to those before
goods_more : (shelves : List Shelf) (x : Shelf) → all_goods (shelves ++ x ∷ []) ≡ all_goods shelves + x.length
goods_more shelves x = sum_by_push (λ (y : Shelf). y.length) shelves x

-- a line keeps them so, and none are sold before the first
pub scripts_have_shelves : ScriptsHaveShelves
scripts_have_shelves = script_keeps (λ s. AreSold s.shelves) (record {
  start = λ head cap some most. (tt, none);
  consumer = λ s c may are. are;
  merchant = λ s m may are. are;
  fund = λ s number acct amount may are. are;
  shelf = λ s x may are. (shelf_more [] s.shelves x are.0 may.0 may.2, subst (λ (n : ℕ). n ≤ MAX_ALL_GOODS) (sym (goods_more s.shelves x)) may.3);
  does = λ s a are. are;
})
  where
    none : 0 ≤ MAX_ALL_GOODS
    none = omega arith
