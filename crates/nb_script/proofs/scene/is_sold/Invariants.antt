use Rattle.std.proofs.Common.{◌≡◌, false, take}
use Rattle.std.specs.List.{list_any}
use Rattle.nb_script.specs.Settings.{is_of}
use Rattle.nb_script.proofs.scene.is_sold.Given as goal

-- none so far is of it
abbrev pub invariant-loop-shelf : goal.invariant-loop-shelf
invariant-loop-shelf l = list_any (is_of l.merchant l.product) (take l.shelf-index l.shelves) ≡ false
