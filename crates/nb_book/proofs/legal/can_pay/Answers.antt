use Rattle.std.proofs.Common.{◌≡◌, ◌≤◌, ℕ, Some, sym, ap, subst, ◌∙◌}
use Rattle.std.proofs.lemmas.Bool.{eqb-true, leb-true, le-leb}
use Rattle.std.specs.Option.{option_map}
use Rattle.nb_units.specs.declared.ids.AcctId.{AcctId}
use Rattle.nb_book.specs.declared.party.Party.{Party}
use Rattle.nb_book.specs.Money.{balance}
use Rattle.nb_book.specs.Searches.{account_of}
use Rattle.nb_book.proofs.legal.can_pay.Goals as goal

pub returns-then-eq : goal.returns-then-eq
returns-then-eq c =
    let same : c.args.party.now.acct ≡ c.args.acct = ap (λ n. record { 0 = n }) (eqb-true c.args.party.now.acct.0 c.args.acct.0 (sym c.eq.ensures ∙ c.if-eq.true)) in
    let account : account_of c.args.book.now.entries c.args.id ≡ Some c.args.acct = ap (λ p. option_map (λ (q : Party). q.acct) p) c.requires.enrolled ∙ ap (λ (a : AcctId). Some a) same in
    let value : c.balance_of.result ≡ balance c.args.book.now.entries c.args.acct = c.balance_of.ensures.balance ∙ ap (λ a. balance c.args.book.now.entries a) same in (
      λ less. (account, subst (λ (n : ℕ). c.args.price.0 ≤ n) value (leb-true c.args.price.0 c.balance_of.result less)),
      λ may. le-leb c.args.price.0 c.balance_of.result (subst (λ (n : ℕ). c.args.price.0 ≤ n) (sym value) may.1),
    )
