use Rattle.std.proofs.Common.{sym, ◌∙◌}
use Rattle.nb_book.proofs.Confirming.{seated}
use Rattle.nb_book.proofs.list.EntryList.seat_of.Goals as goal

pub returns-then-eq-clause-place : goal.returns-then-eq-clause-place
returns-then-eq-clause-place c =
    (seated c.args.self.now.entries.items c.requires.legal c.args.id c.in-Some.party c.args.account c.in-Some.ensures (sym c.eq.ensures ∙ c.if-eq.true)).0

pub returns-then-eq-clause-within : goal.returns-then-eq-clause-within
returns-then-eq-clause-within c =
    (seated c.args.self.now.entries.items c.requires.legal c.args.id c.in-Some.party c.args.account c.in-Some.ensures (sym c.eq.ensures ∙ c.if-eq.true)).1
