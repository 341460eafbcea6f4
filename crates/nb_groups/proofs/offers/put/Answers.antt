use Rattle.std.proofs.Common.{ℕ, List, [], ◌∷◌, ◌++◌, refl, sym, ap, subst, ◌∙◌}
use Rattle.std.specs.List.{IsDistinct}
use Rattle.std.specs.Map.{keys_of}
use Rattle.nb_numbers.proofs.Beside.{same_firsts}
use Rattle.nb_groups.specs.Offers.{same_key}
use Rattle.nb_groups.specs.Prices.{key_cmp}
use Rattle.nb_groups.proofs.Prices.{more_prices, apart_more}
use Rattle.nb_groups.proofs.offers.put.Goals as goal

pub returns-in_err-reserve-clause-firsts : goal.returns-in_err-reserve-clause-firsts
returns-in_err-reserve-clause-firsts c =
    same_firsts key_cmp same_key c.args.by_key.now.entries c.args.by_key.now.entries c.args.prices.now.items c.reserve.new.self.items c.requires.firsts refl c.in_err-reserve.ensures.items

pub returns-in_err-reserve-clause-apart : goal.returns-in_err-reserve-clause-apart
returns-in_err-reserve-clause-apart c = subst (λ (l : List ((ℕ × ℕ) × ℕ)). IsDistinct same_key (keys_of l)) (sym c.in_err-reserve.ensures.items) c.requires.apart

pub returns-in_err-_was-clause-firsts : goal.returns-in_err-_was-clause-firsts
returns-in_err-_was-clause-firsts c =
    same_firsts key_cmp same_key c.args.by_key.now.entries c.insert.new.self.entries c.args.prices.now.items c.reserve.new.self.items c.requires.firsts c.in_err-_was.ensures.err c.in_ok-reserve.ensures.items

pub returns-in_err-_was-clause-apart : goal.returns-in_err-_was-clause-apart
returns-in_err-_was-clause-apart c = subst (λ (l : List ((ℕ × ℕ) × ℕ)). IsDistinct same_key (keys_of l)) (sym c.in_ok-reserve.ensures.items) c.requires.apart

pub returns-clause-firsts : goal.returns-clause-firsts
returns-clause-firsts c =
    more_prices c.args.by_key.now.entries c.insert.new.self.entries c.args.prices.now.items c.push_reserved.new.self.items c.args.key c.args.price c.requires.firsts c.requires.new c.in_ok-_was.ensures.updates.0
    (c.push_reserved.ensures.items ∙ ap (λ (l : List ((ℕ × ℕ) × ℕ)). l ++ (c.args.key, c.args.price) ∷ []) c.in_ok-reserve.ensures.items)

pub returns-clause-apart : goal.returns-clause-apart
returns-clause-apart c =
    apart_more c.args.prices.now.items c.push_reserved.new.self.items c.args.key c.args.price c.requires.apart c.requires.new
    (c.push_reserved.ensures.items ∙ ap (λ (l : List ((ℕ × ℕ) × ℕ)). l ++ (c.args.key, c.args.price) ∷ []) c.in_ok-reserve.ensures.items)
