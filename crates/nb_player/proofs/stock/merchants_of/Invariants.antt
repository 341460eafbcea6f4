use Rattle.std.proofs.Common.{◌≡◌, take}
use Rattle.nb_player.specs.Stock.{merchants_of}
use Rattle.nb_player.proofs.stock.merchants_of.Given as goal

abbrev pub invariant-loop-m : goal.invariant-loop-m
invariant-loop-m l = l.merchants.items ≡ merchants_of (take l.m-index l.script.merchants.items) l.script.shelves.items
