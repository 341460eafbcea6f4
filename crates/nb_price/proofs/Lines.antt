-- An item's line and its goods.
use Rattle.std.proofs.Common.{◌≡◌, ℕ, List, ◌∷◌, ◌++◌, length, ap, ◌∙◌, append_assoc}
use Rattle.std.specs.Fmt.{decimal}
use Rattle.nb_price.specs.Shelf.{Item, IsName, item_bytes}
use Rattle.nb_price.specs.Fields.{IsFree, line_bytes}

-- an item is its line and its goods
pub item_line : (x : Item) (rest : List ℕ) → item_bytes x ++ rest ≡ line_bytes x.id x.price x.name (length x.goods) (x.goods ++ rest)
unfolding item_bytes line_bytes
item_line x rest =
    let last : List ℕ = decimal (length x.goods) ++ 10 ∷ x.goods in
    let behind : List ℕ = x.name ++ 59 ∷ last in
    let priced : List ℕ = decimal x.price ++ 59 ∷ behind in
    append_assoc (decimal x.id) (59 ∷ priced) rest
    ∙ ap (λ (l : List ℕ). decimal x.id ++ 59 ∷ l) (
    append_assoc (decimal x.price) (59 ∷ behind) rest
    ∙ ap (λ (l : List ℕ). decimal x.price ++ 59 ∷ l) (
    append_assoc x.name (59 ∷ last) rest
    ∙ ap (λ (l : List ℕ). x.name ++ 59 ∷ l) (append_assoc (decimal (length x.goods)) (10 ∷ x.goods) rest)
    )
    )

-- a name has no semicolon
pub free_name : (name : List ℕ) → IsName name → IsFree 59 name
free_name name is k h = (is k h).2
