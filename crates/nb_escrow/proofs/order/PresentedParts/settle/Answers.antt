use Rattle.std.proofs.Common.{ℕ, List, sym, subst}
use Rattle.nb_book.specs.Legal.{NextUnder}
use Rattle.nb_escrow.specs.declared.order.Presented.{Presented}
use Rattle.nb_escrow.specs.declared.settlement.Settlement.{Settlement}
use Rattle.nb_escrow.specs.Settlements.{settlement, settlement_entry}
use Rattle.nb_escrow.proofs.Paying.{settled_legal, outcome_lawful}
use Rattle.nb_escrow.proofs.order.PresentedParts.settle.Goals as goal

pub returns-clause-legal : goal.returns-clause-legal
returns-clause-legal c =
    let legal : Settlement → Type 0 = λ (s : Settlement). NextUnder c.args.head.now.version c.args.head.now.rate c.args.book.now.entries (settlement_entry s) in
    subst (λ (digest : List ℕ). legal (settlement c.from.result digest c.self.inside.order.now.epoid c.self.inside.order.now.consumer c.self.inside.order.now.merchant c.self.inside.order.now.product c.self.inside.order.now.price c.args.moment c.outcome.result)) (sym c.digest.ensures)
    (subst (λ (p : Presented). legal (settlement c.from.result p.digest p.order.epoid p.order.consumer p.order.merchant p.order.product p.order.price c.args.moment c.outcome.result)) (sym c.self.view_is)
    (settled_legal c.args.book.now.entries c.args.head.now c.args.self.now c.args.moment c.requires.terms c.requires.presented c.requires.new c.from.result c.outcome.result c.outcome.ensures))

pub returns-clause-outcome : goal.returns-clause-outcome
returns-clause-outcome c = rw c.outcome.ensures (outcome_lawful c.args.book.now.entries c.args.head.now c.args.self.now c.args.moment c.requires.presented)
