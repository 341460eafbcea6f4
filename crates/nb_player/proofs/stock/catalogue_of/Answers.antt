use Rattle.std.proofs.Common.{List, ◌++◌, ◌∷◌, [], take, slice_index_or, ap, ◌∙◌, sym, subst}
use Rattle.std.proofs.lemmas.List.{take_more}
use Rattle.std.proofs.lemmas.Option.{slice_get-get_or}
use Rattle.nb_price.specs.Products.{Product}
use Rattle.nb_script.specs.declared.line.Shelf.{Shelf}
use Rattle.nb_player.specs.Stock.{IsNew, product_of}
use Rattle.nb_player.proofs.Stocking.{is_new, own_more}
use Rattle.nb_player.proofs.stock.catalogue_of.Goals as goal

-- what stands where there is no shelf
abbrev no_shelf : Shelf
no_shelf = record { merchant = record { 0 = 0 }; product = 0; price = record { 0 = 0 }; length = 0 }

pub put-requires : goal.put-requires
put-requires c =
    let shelves = c.args.shelves.now in
    let i = c.loop-shelf.shelf-index in
    let x : Shelf = slice_index_or shelves i no_shelf in
    let new = is_new c.args.merchant shelves i x c.requires (slice_get-get_or shelves i no_shelf c.loop-shelf-test.true) c.if-shelf-merchant.false in
    subst (λ (products : List Product). IsNew products x) (sym c.loop-shelf.invariant) new

pub loop-shelf-preserved : goal.loop-shelf-preserved
loop-shelf-preserved c =
    let shelves = c.args.shelves.now in
    let i = c.loop-shelf.shelf-index in
    let x : Shelf = slice_index_or shelves i no_shelf in
    rw (take_more shelves i no_shelf c.loop-shelf-test.true)
    (c.in_ok-put.ensures ∙ ap (λ (products : List Product). products ++ product_of x ∷ []) c.loop-shelf.invariant ∙ sym (own_more c.args.merchant (take i shelves) x c.if-shelf-merchant.false))
