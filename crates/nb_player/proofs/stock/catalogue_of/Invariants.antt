use Rattle.std.proofs.Common.{◌≡◌, take}
use Rattle.nb_player.specs.Stock.{catalogue_of}
use Rattle.nb_player.proofs.stock.catalogue_of.Given as goal

abbrev pub invariant-loop-shelf : goal.invariant-loop-shelf
invariant-loop-shelf l = l.catalogue ≡ catalogue_of l.merchant (take l.shelf-index l.shelves)
