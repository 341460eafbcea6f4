use Rattle.std.proofs.Common.{◌≡◌, map, take}
use Rattle.nb_player.specs.Playing.{wallet_of}
use Rattle.nb_player.proofs.playing.wallets_of.Given as goal

abbrev pub invariant-loop-c : goal.invariant-loop-c
invariant-loop-c l = l.wallets.items ≡ map wallet_of (take l.c-index l.listed)
