use Rattle.std.proofs.Common.{List, ℕ, ap, sym, ◌++◌, ◌∷◌, [], ◌∙◌}
use Rattle.std.specs.Map.{keys_of}
use Rattle.std.proofs.lemmas.List.{map-append}
use Rattle.nb_price.specs.declared.catalogue.Goods.{Goods}
use Rattle.nb_price.proofs.Lookups.{no_place}
use Rattle.nb_price.proofs.catalogue.push.Goals as goal

pub add-requires : goal.add-requires
add-requires c = record { new = no_place c.args.products.now.items c.args.numbers.now c.args.product c.requires.keys c.requires.new }

pub returns-clause-keys : goal.returns-clause-keys
returns-clause-keys c =
    c.in_ok-add.ensures.added ∙ ap (λ (ns : List ℕ). ns ++ c.args.product ∷ []) (c.requires.keys ∙ sym (ap keys_of c.in_ok-reserve.ensures.items))
    ∙ sym (map-append (λ (e : ℕ × Goods). e.0) c.reserve.new.self.items ((c.args.product, c.args.goods) ∷ []))
    ∙ sym (ap keys_of c.push_reserved.ensures.items)
