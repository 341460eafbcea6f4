use Rattle.std.proofs.Common.{rules, Err, map, ◌≡◌, ◌++◌, ◌∷◌, [], None, is_some, refl, sym, ap, subst, ◌∙◌}
use Rattle.std.specs.Map.{lookup}
use Rattle.nb_numbers.proofs.Beside.{none_where_false}
use Rattle.nb_groups.specs.Offers.{Tariff, offer_at, same_key, price_for, key_of}
use Rattle.nb_groups.specs.Reads.{Adds}
use Rattle.nb_groups.specs.declared.fault.OffersFault.TheVariants.{NoMemory}
use Rattle.nb_groups.proofs.Lookups.{looked_up, pushed, some_is_not_none}
use Rattle.nb_groups.proofs.offers.Offers.add.Goals as goal

pub returns-then-contains_key : goal.returns-then-contains_key
returns-then-contains_key c = (
  refl,
  λ none.
      let inside = subst (λ (t : Tariff). price_for t.offers (key_of c.args.offer) ≡ None) (sym c.self.view_is) none in
      some_is_not_none (lookup (same_key (key_of c.args.offer)) c.self.inside.prices.items) (sym (sym c.if-contains_key.true ∙ c.contains_key.ensures ∙ ap is_some (c.self.invariant.firsts.each (key_of c.args.offer))))
      (looked_up c.self.inside.prices.items (key_of c.args.offer) ∙ inside),
)

pub put-requires-clause-new : goal.put-requires-clause-new
put-requires-clause-new c =
    none_where_false (lookup (same_key (key_of c.args.offer)) c.self.inside.prices.items) c.contains_key.result
    (c.contains_key.ensures ∙ ap is_some (c.self.invariant.firsts.each (key_of c.args.offer))) c.if-contains_key.false

pub returns : goal.returns
returns c =
    let none : lookup (same_key (key_of c.args.offer)) c.self.inside.prices.items ≡ None =
    none_where_false (lookup (same_key (key_of c.args.offer)) c.self.inside.prices.items) c.contains_key.result
    (c.contains_key.ensures ∙ ap is_some (c.self.invariant.firsts.each (key_of c.args.offer))) c.if-contains_key.false in (
      subst (λ (t : Tariff). price_for t.offers (key_of c.args.offer) ≡ None) c.self.view_is (sym (looked_up c.self.inside.prices.items (key_of c.args.offer)) ∙ none),
      ap (λ (t : Tariff). t.keeper) c.self.view_is,
      pushed c.self.inside.prices.items c.put.new.prices.items c.args.offer c.in_ok-put.ensures.added ∙ ap (λ (t : Tariff). t.offers ++ c.args.offer ∷ []) c.self.view_is,
    )

pub returns-in_err-put : goal.returns-in_err-put
returns-in_err-put c =
    let none : lookup (same_key (key_of c.args.offer)) c.self.inside.prices.items ≡ None =
    none_where_false (lookup (same_key (key_of c.args.offer)) c.self.inside.prices.items) c.contains_key.result
    (c.contains_key.ensures ∙ ap is_some (c.self.invariant.firsts.each (key_of c.args.offer))) c.if-contains_key.false in
    let same : c.from_residual.result ≡ Err NoMemory = search rules in
    subst (Adds c.args.self.now (record { keeper = c.self.inside.keeper; offers = map offer_at c.put.new.prices.items }) c.args.line c.args.offer) (sym same)
    (subst (λ (t : Tariff). price_for t.offers (key_of c.args.offer) ≡ None) c.self.view_is (sym (looked_up c.self.inside.prices.items (key_of c.args.offer)) ∙ none))
