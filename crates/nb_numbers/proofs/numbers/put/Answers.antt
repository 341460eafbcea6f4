use Rattle.std.proofs.Common.{List, length, ap, ◌∙◌, ◌++◌, ◌∷◌, [], ℕ, refl}
use Rattle.nb_numbers.proofs.Finding.{same_found, more_found}
use Rattle.nb_numbers.proofs.numbers.put.Goals as goal

pub returns-in_err-reserve-clause-found : goal.returns-in_err-reserve-clause-found
returns-in_err-reserve-clause-found c =
    same_found c.args.places.now.entries c.args.places.now.entries c.args.in_order.now.items c.reserve.new.self.items c.requires.found refl c.in_err-reserve.ensures.items

pub returns-in_err-_was-clause-found : goal.returns-in_err-_was-clause-found
returns-in_err-_was-clause-found c =
    same_found c.args.places.now.entries c.insert.new.self.entries c.args.in_order.now.items c.reserve.new.self.items c.requires.found c.in_err-_was.ensures.err c.in_ok-reserve.ensures.items

pub returns-clause-found : goal.returns-clause-found
returns-clause-found c =
    more_found c.args.places.now.entries c.insert.new.self.entries c.args.in_order.now.items c.push_reserved.new.self.items c.args.number c.len-place.result
    c.requires.found c.requires.new (c.len-place.ensures ∙ c.reserve.new.self.ok.0 ∙ ap length c.in_ok-reserve.ensures.items) c.in_ok-_was.ensures.updates.0
    (c.push_reserved.ensures.items ∙ ap (λ (xs : List ℕ). xs ++ c.args.number ∷ []) c.in_ok-reserve.ensures.items)
