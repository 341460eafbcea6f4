use Rattle.std.proofs.Common.{◌≤◌, List, length, refl, sym, subst, ◌∙◌}
use Rattle.std.proofs.lemmas.List.{take_all}
use Rattle.std.proofs.lemmas.Bool.{false≢true}
use Rattle.nb_entry.specs.declared.entry.Entry.{Entry}
use Rattle.nb_book.specs.Legal.{LegalUnder}
use Rattle.nb_simulator.proofs.Setting.{front_more, next_at, one_more_fits}
use Rattle.nb_simulator.proofs.setup.book_of.Goals as goal

pub returns-then-not-legal : goal.returns-then-not-legal
returns-then-not-legal c under short =
    false≢true (c.if-not-legal.ensures.1 (next_at c.legal_under.ensures.next c.args.head.now.version c.args.head.now.rate c.args.entries.now c.loop-entry.book.entries c.loop-entry.entry-index _ under c.loop-entry-test.true c.loop-entry.invariant.entries))

pub loop-entry-preserved : goal.loop-entry-preserved
loop-entry-preserved c = record {
  entries = front_more c.args.entries.now c.loop-entry.book.entries c.apply.new.self.entries c.loop-entry.entry-index _ _ c.apply.ensures.entries c.loop-entry.invariant.entries c.loop-entry-test.true refl;
  cap = c.apply.ensures.cap ∙ c.loop-entry.invariant.cap;
  legal = subst (LegalUnder c.args.head.now.version c.args.head.now.rate) (sym c.apply.ensures.entries)
      (c.legal_under.ensures.stays c.args.head.now.version c.args.head.now.rate c.loop-entry.book.entries _ c.loop-entry.invariant.legal (c.if-not-legal.ensures.0 refl));
  within = one_more_fits c.loop-entry.book.entries c.apply.new.self.entries _ c.args.cap c.apply.ensures.entries c.loop-entry.invariant.within (λ same. c.if-len-cap.false (c.len.ensures.len ∙ same));
}

pub returns : goal.returns
returns c =
    let all = c.loop-entry.invariant.entries ∙ take_all c.loop-entry.entry-index c.args.entries.now c.loop-entry-test.false in (
      all,
      c.loop-entry.invariant.cap,
      subst (LegalUnder c.args.head.now.version c.args.head.now.rate) all c.loop-entry.invariant.legal,
      subst (λ (es : List Entry). length es ≤ c.args.cap) all c.loop-entry.invariant.within,
    )
