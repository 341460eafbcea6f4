use Rattle.std.proofs.Common.{◌≡◌, [], ◌++◌, map, length}
use Rattle.std.specs.Vec.Iter.{into_iter_items, into_iter_len}
use Rattle.nb_simulator.specs.Setups.{SellersFit, stalls_may, shop_of}
use Rattle.nb_simulator.proofs.setup.sellers_of.Given as goal

-- those so far and those that are left make all, and may exactly where all may
abbrev pub invariant-loop-seller : goal.invariant-loop-seller
invariant-loop-seller l = record {
  may : stalls_may l.book.entries l.sellers (into_iter_items l.seller-iterator) ≡ stalls_may l.book.entries [] (into_iter_items l.initial.seller-iterator);
  fit : SellersFit (into_iter_items l.seller-iterator) → SellersFit (into_iter_items l.initial.seller-iterator);
  made : l.sellers ++ map shop_of (into_iter_items l.seller-iterator) ≡ map shop_of (into_iter_items l.initial.seller-iterator);
  len : into_iter_len l.seller-iterator ≡ length (into_iter_items l.seller-iterator);
}
