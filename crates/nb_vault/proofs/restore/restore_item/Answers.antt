use Rattle.std.proofs.Common.{◌<◌, sym, ap, subst, ◌∙◌, length, arith, rules}
use Rattle.std.specs.List.{AllByRecursion}
use Rattle.std.proofs.lemmas.Bool.{eqb-false}
use Rattle.std.proofs.lemmas.List.{length-drop, length-append}
use Rattle.nb_units.specs.Laws.{StandsAt}
use Rattle.nb_units.specs.Reading.{Reading}
use Rattle.nb_book.specs.Legal.{IsOfRate, NextUnder}
use Rattle.nb_entry.specs.Spelling.{entry_bytes}
use Rattle.nb_vault.proofs.Joining.{all_more}
use Rattle.nb_vault.proofs.Restoring.{bad_unread, bad_full, bad_illegal, bad_long, read_more}
use Rattle.nb_vault.proofs.restore.restore_item.Goals as goal

pub returns-in-Err-clause-gives : goal.returns-in-Err-clause-gives
returns-in-Err-clause-gives c =
    let so_far = c.loop-n.invariant.so_far in
    bad_unread c.args.charter.now c.args.book.now.cap c.args.item.now c.args.book.now.entries c.loop-n.book.entries c.loop-n.cut.place c.loop-n.n so_far c.read_entry.result c.in-Err.field-0
    (λ e fits stands. c.read_entry.ensures.found e fits (subst (λ bytes. StandsAt (entry_bytes e) bytes c.loop-n.cut.place) (sym c.loop-n.invariant.bytes) stands)) c.in-Err.is

pub returns-then-n-room-clause-gives : goal.returns-then-n-room-clause-gives
returns-then-n-room-clause-gives c =
    bad_full c.args.charter.now c.args.book.now.cap c.args.item.now c.args.book.now.entries c.loop-n.book.entries c.loop-n.cut.place c.loop-n.n c.loop-n.invariant.so_far
    (omega (arith, c.if-n-room.true, c.cap.ensures.cap, c.len.ensures.len, c.len.ensures.within, c.loop-n.invariant.so_far.count, ap length c.loop-n.invariant.so_far.entries, length-append c.args.book.now.entries c.loop-n.invariant.so_far.read))

pub returns-then-not-legal-clause-gives : goal.returns-then-not-legal-clause-gives
returns-then-not-legal-clause-gives c =
    bad_illegal c.args.charter.now c.args.book.now.cap c.args.item.now c.args.book.now.entries c.loop-n.book.entries c.loop-n.cut.place c.loop-n.n c.loop-n.invariant.so_far c.read_entry.result c.in-Ok.entry
    (λ e fits stands. c.read_entry.ensures.found e fits (subst (λ bytes. StandsAt (entry_bytes e) bytes c.loop-n.cut.place) (sym c.loop-n.invariant.bytes) stands)) c.in-Ok.is (λ legal. search rules)

pub loop-n-preserved : goal.loop-n-preserved
loop-n-preserved c =
    let some = eqb-false (length c.rest.result.now) 0 (sym c.if-is_empty.ensures) in
    let bytes = ap (λ (r : Reading). r.bytes) c.in-Ok.ensures.moved ∙ c.loop-n.invariant.bytes in
    let next : NextUnder c.args.charter.now.version c.args.charter.now.rate c.loop-n.book.entries c.in-Ok.entry = search rules in
    let left : c.read_entry.new.cut.place < length c.args.item.now = omega (arith, some, ap length c.rest.ensures.value, length-drop c.read_entry.new.cut.place c.read_entry.new.cut.bytes, ap length bytes) in
    record {
      so_far = read_more c.args.item.now c.args.book.now.entries c.loop-n.book.entries c.apply.new.self.entries c.loop-n.cut.place c.read_entry.new.cut.place c.loop-n.n c.in-Ok.entry c.loop-n.invariant.so_far c.in-Ok.ensures.spelled.0
          (subst (λ bytes. StandsAt (entry_bytes c.in-Ok.entry) bytes c.loop-n.cut.place) c.loop-n.invariant.bytes c.in-Ok.ensures.spelled.1) (ap (λ (r : Reading). r.place) c.in-Ok.ensures.moved) left c.apply.ensures.entries;
      bytes = ap (λ (r : Reading). r.bytes) c.in-Ok.ensures.moved ∙ c.loop-n.invariant.bytes;
      each = subst (AllByRecursion (IsOfRate c.args.charter.now.version c.args.charter.now.rate)) (sym c.apply.ensures.entries)
          (all_more (IsOfRate c.args.charter.now.version c.args.charter.now.rate) c.loop-n.book.entries c.in-Ok.entry c.loop-n.invariant.each next.1);
      cap = c.apply.ensures.cap ∙ c.loop-n.invariant.cap;
    }

pub returns-clause-gives : goal.returns-clause-gives
returns-clause-gives c =
    bad_long c.args.charter.now c.args.book.now.cap c.args.item.now c.args.book.now.entries c.loop-n.book.entries c.loop-n.cut.place c.loop-n.n c.loop-n.invariant.so_far (omega (arith, c.loop-n-test.false))
