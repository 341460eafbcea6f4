-- What stands at the front of bytes is one item.
use Rattle.std.proofs.Common.{◌≡◌, ℕ, ◌<◌, List, ◌∷◌, ◌++◌, length, take, drop, inl, inr, ◌^◌, refl, sym, ap, ◌∙◌, arith}
use Rattle.std.proofs.lemmas.List.{take_at, drop_at}
use Rattle.std.specs.Fmt.{decimal}
use Rattle.nb_price.specs.Shelf.{Item, BeginsWith}
use Rattle.nb_price.specs.Fields.{IsNoDigit, line_bytes}
use Rattle.nb_price.proofs.Splitting.{one_word}
use Rattle.nb_price.proofs.Numerals.{free_decimal, one_number}
use Rattle.nb_price.proofs.Lines.{item_line, free_name}

-- two numbers before the same mark are one
pub one_numeral : (mark m n : ℕ) (rest more : List ℕ) → IsNoDigit mark → m < 2 ^ 32 → n < 2 ^ 32 → decimal m ++ mark ∷ rest ≡ decimal n ++ mark ∷ more → (m ≡ n) × (rest ≡ more)
one_numeral mark m n rest more apart p q e =
    let words = one_word mark (decimal m) (decimal n) rest more (free_decimal m mark p apart) (free_decimal n mark q apart) e in
    (one_number m n p q words.0, words.1)

-- two items at the front are one
pub one_item : (bytes : List ℕ) (x y : Item) (r s : List ℕ) → BeginsWith bytes x r → BeginsWith bytes y s → (x ≡ y) × (r ≡ s)
unfolding line_bytes
one_item bytes x y r s a b =
    let both = sym (item_line x r) ∙ sym a.1 ∙ b.1 ∙ item_line y s in
    let id = one_numeral 59 x.id y.id _ _ (inr (omega arith)) a.0.id b.0.id both in
    let price = one_numeral 59 x.price y.price _ _ (inr (omega arith)) (omega (arith, a.0.price.1)) (omega (arith, b.0.price.1)) id.1 in
    let name = one_word 59 x.name y.name _ _ (free_name x.name a.0.bytes) (free_name y.name b.0.bytes) price.1 in
    let len = one_numeral 10 (length x.goods) (length y.goods) _ _ (inl (omega arith)) (omega (arith, a.0.goods)) (omega (arith, b.0.goods)) name.1 in
    let goods : x.goods ≡ y.goods = sym (take_at x.goods r (length x.goods) refl) ∙ ap (take (length x.goods)) len.1 ∙ take_at y.goods s (length x.goods) (sym len.0) in
    let behind : r ≡ s = sym (drop_at x.goods r (length x.goods) refl) ∙ ap (drop (length x.goods)) len.1 ∙ drop_at y.goods s (length x.goods) (sym len.0) in
    (rw (id.0, price.0, name.0, goods) refl, behind)
