use Rattle.std.proofs.Common.{◌≡◌, [], ◌++◌, map, drop}
use Rattle.nb_consumer.specs.State.{new_buyer}
use Rattle.nb_simulator.specs.Setups.{wallets_may}
use Rattle.nb_simulator.proofs.setup.buyers_of.Given as goal

-- those so far and those that are left make all, and may exactly where all may
abbrev pub invariant-loop-wallet : goal.invariant-loop-wallet
invariant-loop-wallet l = record {
  may : wallets_may l.book.entries l.buyers (drop l.wallet-index l.wallets) ≡ wallets_may l.book.entries [] l.wallets;
  made : l.buyers ++ map new_buyer (drop l.wallet-index l.wallets) ≡ map new_buyer l.wallets;
}
