use Rattle.std.proofs.Common.{sym, subst, rules}
use Rattle.nb_book.specs.Legal.{NextUnder}
use Rattle.nb_escrow.specs.declared.head.Head.{Head}
use Rattle.nb_escrow.specs.Head.{IsRuling}
use Rattle.nb_vault.proofs.Joining.{may_rule}
use Rattle.nb_vault.proofs.records.Records.decide_one.Goals as goal

pub decide_with-decision-requires : goal.decide_with-decision-requires
decide_with-decision-requires g c =
    let charter = c.args.self.now.charter in
    record { terms = subst IsRuling (sym c.requires.keys) (may_rule charter.version charter.rate c.requires.gathers.carries.terms.ruled) }

pub gather-requires-clause-legal : goal.gather-requires-clause-legal
gather-requires-clause-legal g c =
    subst (λ (h : Head). NextUnder h.version h.rate c.remember.new.book.entries c.in-Some.entry) c.requires.keys (search rules)

pub gather-requires-clause-gathers : goal.gather-requires-clause-gathers
gather-requires-clause-gathers g c = rw c.remember.ensures (search rules)

pub returns-in_default-clause-gathers : goal.returns-in_default-clause-gathers
returns-in_default-clause-gathers g c = rw c.remember.ensures (search rules)
