use Rattle.std.proofs.Common.{sym}
use Rattle.nb_price.proofs.Lookups.{held_here, none_held}
use Rattle.nb_price.proofs.catalogue.held.Goals as goal

pub returns-in-Some : goal.returns-in-Some
returns-in-Some c =
    record { value = held_here c.args.products.now.items c.args.numbers.now c.args.product c.in-Some.at c.index.result.now _ c.requires c.in-Some.ensures.index c.in-Some.ensures.within c.index.ensures }

pub returns-in-None : goal.returns-in-None
returns-in-None c = record { value = sym (none_held c.args.products.now.items c.args.numbers.now c.args.product c.requires (sym c.in-None.ensures.index)) }
