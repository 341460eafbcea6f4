-- What a merchant keeps is its items.
use Rattle.std.proofs.Common.{◌≡◌, ℕ, List, ◌++◌, map, Option, Some, None, Result, Ok, Err, refl, sym, ap, ◌∙◌}
use Rattle.std.proofs.lemmas.List.{map-append}
use Rattle.nb_msgs.specs.declared.node.Reason.{Reason}
use Rattle.nb_msgs.specs.declared.node.Step.{Step}
use Rattle.nb_msgs.specs.Steps.{kept_in}
use Rattle.nb_stall.specs.declared.item.Item.{Item as Sold}
use Rattle.nb_stall.specs.Spelling.{item_bytes}
use Rattle.nb_merchant.specs.declared.answer.Answer.{Answer}
use Rattle.nb_merchant.specs.Shop.{Shop}
use Rattle.nb_merchant.specs.Table as sells

kept_sold : (row : Result Answer Reason) → kept_in (sells.step_of row) ≡ map item_bytes (sells.kept_by row)
kept_sold (Ok answer) = by answer.keep refl
  where
    by : (o : Option Sold) → answer.keep ≡ o → kept_in (sells.step_of (Ok answer)) ≡ map item_bytes (sells.listed answer.keep)
    by None e = rw e refl
    by (Some x) e = rw e refl
kept_sold (Err why) = refl

-- what a merchant kept is its items
pub sells_more : (old new : Shop) (row : Result Answer Reason) (s : Step) (before items kept : List (List ℕ)) → before ≡ map item_bytes old.items → items ≡ before
    → new ≡ sells.after old row → s ≡ sells.step_of row → kept ≡ items ++ kept_in s → kept ≡ map item_bytes new.items
sells_more old new row s before items kept was still after is more =
    more ∙ ap (λ (t : Step). items ++ kept_in t) is ∙ ap (λ (xs : List (List ℕ)). xs ++ kept_in (sells.step_of row)) (still ∙ was)
    ∙ ap (λ (ys : List (List ℕ)). map item_bytes old.items ++ ys) (kept_sold row) ∙ sym (map-append item_bytes old.items (sells.kept_by row)) ∙ ap (λ (b : Shop). map item_bytes b.items) (sym after)
