use Rattle.std.proofs.Common.{◌≡◌, ℕ, List, [], ◌∷◌, ◌++◌, None, refl, sym, ap, ◌∙◌}
use Rattle.std.specs.Prelude.{is_some}
use Rattle.nb_consumer.specs.State.{ordered_with}
use Rattle.std.specs.Prelude.{nat_eq}
use Rattle.std.specs.Ordering.{nat_cmp}
use Rattle.std.specs.Cmp.Lexicographic.{pointwise, slice_cmp}
use Rattle.nb_numbers.proofs.Beside.{none_where_false, same_firsts}
use Rattle.nb_consumer.proofs.Firsts.{known_noted, new_noted, more_orders, orders_again}
use Rattle.nb_consumer.proofs.knowledge.order_at.Goals as goal

pub returns-then-contains_key-clause-noted : goal.returns-then-contains_key-clause-noted
returns-then-contains_key-clause-noted c =
    known_noted c.change_at.result c.args.orders.now.items c.args.epoid.now c.args.transaction
    (sym c.if-contains_key.true ∙ c.contains_key.ensures ∙ ap is_some (c.requires.firsts.each c.args.epoid.now))

pub returns-in_err-reserve-clause-firsts : goal.returns-in_err-reserve-clause-firsts
returns-in_err-reserve-clause-firsts c =
    same_firsts (slice_cmp nat_cmp) (pointwise nat_eq) c.args.firsts.now.entries c.args.firsts.now.entries c.args.orders.now.items c.reserve.new.self.items c.requires.firsts refl c.in_err-reserve.ensures.items

pub returns-in_err-_was-clause-firsts : goal.returns-in_err-_was-clause-firsts
returns-in_err-_was-clause-firsts c =
    same_firsts (slice_cmp nat_cmp) (pointwise nat_eq) c.args.firsts.now.entries c.insert.new.self.entries c.args.orders.now.items c.reserve.new.self.items c.requires.firsts c.in_err-_was.ensures.err c.in_ok-reserve.ensures.items

pub returns-in-Ok-clause-noted : goal.returns-in-Ok-clause-noted
returns-in-Ok-clause-noted c =
    let none : ordered_with c.args.orders.now.items c.args.epoid.now ≡ None =
    none_where_false (ordered_with c.args.orders.now.items c.args.epoid.now) c.contains_key.result (c.contains_key.ensures ∙ ap is_some (c.requires.firsts.each c.args.epoid.now)) c.if-contains_key.false in
    new_noted c.args.orders.now.items c.push_reserved.new.self.items c.args.epoid.now c.args.transaction none
    (c.push_reserved.ensures.items ∙ ap (λ (l : List (List ℕ × ℕ)). l ++ (c.args.epoid.now, c.args.transaction) ∷ []) c.in_ok-reserve.ensures.items)

pub returns-in-Ok-clause-firsts : goal.returns-in-Ok-clause-firsts
returns-in-Ok-clause-firsts c =
    let none : ordered_with c.args.orders.now.items c.args.epoid.now ≡ None =
    none_where_false (ordered_with c.args.orders.now.items c.args.epoid.now) c.contains_key.result (c.contains_key.ensures ∙ ap is_some (c.requires.firsts.each c.args.epoid.now)) c.if-contains_key.false in
    more_orders c.args.firsts.now.entries c.insert.new.self.entries c.args.orders.now.items c.push_reserved.new.self.items c.args.epoid.now c.args.transaction c.requires.firsts none c.in_ok-_was.ensures.updates.0
    (c.push_reserved.ensures.items ∙ ap (λ (l : List (List ℕ × ℕ)). l ++ (c.args.epoid.now, c.args.transaction) ∷ []) c.in_ok-reserve.ensures.items)

pub returns-in-Err-clause-firsts : goal.returns-in-Err-clause-firsts
returns-in-Err-clause-firsts c =
    let none : ordered_with c.args.orders.now.items c.args.epoid.now ≡ None =
    none_where_false (ordered_with c.args.orders.now.items c.args.epoid.now) c.contains_key.result (c.contains_key.ensures ∙ ap is_some (c.requires.firsts.each c.args.epoid.now)) c.if-contains_key.false in
    orders_again c.args.firsts.now.entries c.insert.new.self.entries c.remove-noted.new.self.entries c.args.orders.now.items c.reserve.new.self.items c.args.epoid.now c.args.transaction c.requires.firsts none c.in_ok-_was.ensures.updates.0
    c.remove-noted.ensures.updates.0 c.in_ok-reserve.ensures.items
