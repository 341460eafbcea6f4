-- What opening sealed goods answers.
use Rattle.std.specs.Prelude.{◌≡◌, ℕ, List, Result, Ok, Err, ⊤}
use Rattle.nb_seal.specs.declared.seals.Unsealed.{Unsealed}
use Rattle.nb_seal.specs.declared.seals.Unsealed.TheVariants as unsealed
use Rattle.nb_seal.specs.Seal.{iv_shown}
use Rattle.nb_goods.specs.declared.goods.OpenGoods.{OpenGoods}
use Rattle.nb_goods.specs.declared.goods.OpenGoods.TheVariants.{BadSeal, NoMemory}
use Rattle.nb_goods.specs.Goods.{OpensTo, OpensToNothing}

-- the goods that the bytes open to; that they open to nothing, and their front; or want of memory, of which nothing is said
abbrev pub Opening : List ℕ → List ℕ → Result (List ℕ) OpenGoods → Type 0
Opening key bytes (Ok goods) = OpensTo key bytes goods
Opening key bytes (Err (BadSeal iv)) = OpensToNothing key bytes × (iv ≡ iv_shown bytes)
Opening key bytes (Err NoMemory) = ⊤

-- for the contracts of conversions alone: the fault of a seal as one of goods
abbrev pub goods_fault : Unsealed → OpenGoods
goods_fault (unsealed.BadSeal iv) = BadSeal iv
goods_fault unsealed.NoMemory = NoMemory
