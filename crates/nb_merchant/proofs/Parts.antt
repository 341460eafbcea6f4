-- What is said of the result in each item holds of the result that is known of each purchase.
use Rattle.std.proofs.Common.{◌≡◌, ℕ, Bool, true, false, cond, List, [], ◌∷◌, ◌++◌, Option, Some, None, refl, subst}
use Rattle.std.specs.List.{AllByRecursion}
use Rattle.nb_units.specs.declared.epoid.Epoid.{Epoid}
use Rattle.nb_stall.specs.declared.purchase.Purchase.{Purchase}
use Rattle.nb_stall.specs.declared.item.Item.{Item}
use Rattle.nb_stall.specs.declared.item.Item.TheVariants as item
use Rattle.nb_stall.specs.declared.sale.Progress.{Progress}
use Rattle.nb_stall.specs.declared.sale.Progress.TheVariants as progress
use Rattle.nb_stall.specs.declared.sale.Sale.{Sale}
use Rattle.nb_stall.specs.Reading.{purchase_of}
use Rattle.nb_stall.specs.Sales.{is_same, progressed, moved, told, sale_from, sale_in}
use Rattle.nb_stall.proofs.Noting.{one_purchase}

-- it is said of an item, of how far a purchase has come, of what is known of one
abbrev pub ItemSays : (Purchase → List ℕ → Type 0) → Item → Type 0
ItemSays Says (item.Settled p part) = Says p part
ItemSays Says other = Unit {0}

abbrev ProgressSays : (Purchase → List ℕ → Type 0) → Purchase → Progress → Type 0
ProgressSays Says p (progress.Settled epoid order part) = Says p part
ProgressSays Says p other = Unit {0}

abbrev SaleSays : (Purchase → List ℕ → Type 0) → Purchase → Option Sale → Type 0
SaleSays Says p None = Unit {0}
SaleSays Says p (Some sale) = ProgressSays Says p sale.progress

progress_says : (Says : Purchase → List ℕ → Type 0) (p : Purchase) (before : Progress) (x : Item) → purchase_of x ≡ p → ProgressSays Says p before → ItemSays Says x → ProgressSays Says p (progressed before x)
progress_says Says p progress.Quoted (item.Quoted q product price request) same old new = tt
progress_says Says p progress.Quoted (item.Delivered q epoid checksum) same old new = tt
progress_says Says p progress.Quoted (item.Endorsed q order) same old new = tt
progress_says Says p progress.Quoted (item.Settled q part) same old new = tt
progress_says Says p (progress.Delivered e) (item.Quoted q product price request) same old new = tt
progress_says Says p (progress.Delivered e) (item.Delivered q epoid checksum) same old new = tt
progress_says Says p (progress.Delivered e) (item.Endorsed q order) same old new = tt
progress_says Says p (progress.Delivered e) (item.Settled q part) same old new = tt
progress_says Says p (progress.Endorsed e o) (item.Quoted q product price request) same old new = tt
progress_says Says p (progress.Endorsed e o) (item.Delivered q epoid checksum) same old new = tt
progress_says Says p (progress.Endorsed e o) (item.Endorsed q order) same old new = tt
progress_says Says p (progress.Endorsed e o) (item.Settled q part) same old new = subst (λ (r : Purchase). Says r part) same new
progress_says Says p (progress.Settled e o r) x same old new = old

moved_says : (Says : Purchase → List ℕ → Type 0) (p : Purchase) (sale : Option Sale) (x : Item) → purchase_of x ≡ p → SaleSays Says p sale → ItemSays Says x → SaleSays Says p (moved sale x)
moved_says Says p (Some sale) x same old new = progress_says Says p sale.progress x same old new
moved_says Says p None (item.Quoted q product price request) same old new = tt
moved_says Says p None (item.Delivered q epoid checksum) same old new = tt
moved_says Says p None (item.Endorsed q order) same old new = tt
moved_says Says p None (item.Settled q part) same old new = tt

sale_says : (Says : Purchase → List ℕ → Type 0) (p : Purchase) (sale : Option Sale) (items : List Item) → SaleSays Says p sale → AllByRecursion (ItemSays Says) items → SaleSays Says p (sale_from p sale items)
sale_says Says p sale [] old all = old
sale_says Says p sale (x ∷ items) old all = sale_says Says p (told p sale x) items (by (is_same (purchase_of x) p) refl) all.1
  where
    by : (same : Bool) → is_same (purchase_of x) p ≡ same → SaleSays Says p (cond same (moved sale x) sale)
    by true e = moved_says Says p sale x (one_purchase (purchase_of x) p e) old all.0
    by false e = old

-- where it is said of each item, it holds of a purchase whose result was told
pub part_says : (Says : Purchase → List ℕ → Type 0) (items : List Item) (p : Purchase) (sale : Sale) (epoid : Epoid) (order part : List ℕ) → AllByRecursion (ItemSays Says) items
    → sale_in items p ≡ Some sale → sale.progress ≡ progress.Settled epoid order part → Says p part
part_says Says items p sale epoid order part all there settled = subst (ProgressSays Says p) settled (subst (SaleSays Says p) there (sale_says Says p None items tt all))

-- ---- of items

item_means : (Says Means : Purchase → List ℕ → Type 0) → ((p : Purchase) (part : List ℕ) → Says p part → Means p part) → (x : Item) → ItemSays Says x → ItemSays Means x
item_means Says Means each (item.Settled p part) says = each p part says
item_means Says Means each (item.Quoted p product price request) says = tt
item_means Says Means each (item.Delivered p epoid checksum) says = tt
item_means Says Means each (item.Endorsed p order) says = tt

-- of items, and of items behind them
pub both_mean : (First Second Means : Purchase → List ℕ → Type 0) → ((p : Purchase) (part : List ℕ) → First p part → Means p part) → ((p : Purchase) (part : List ℕ) → Second p part → Means p part)
    → (xs ys : List Item) → AllByRecursion (ItemSays First) xs → AllByRecursion (ItemSays Second) ys → AllByRecursion (ItemSays Means) (xs ++ ys)
both_mean First Second Means front behind [] [] first second = tt
both_mean First Second Means front behind [] (y ∷ ys) first second = (item_means Second Means behind y second.0, both_mean First Second Means front behind [] ys tt second.1)
both_mean First Second Means front behind (x ∷ xs) ys first second = (item_means First Means front x first.0, both_mean First Second Means front behind xs ys first.1 second)
