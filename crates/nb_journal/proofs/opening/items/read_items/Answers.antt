use Rattle.std.proofs.Common.{◌≡◌, ◌<◌, ◌+◌, [], ◌∷◌, ◌++◌, length, take, drop, arith, ap, length-append}
use Rattle.nb_units.specs.Fields.{be4}
use Rattle.nb_journal.specs.Layout.{open_gate}
use Rattle.nb_journal.specs.Reading.{Shut, Broken, Fault, first_of, items_from}
use Rattle.nb_journal.specs.Scanning.{ItemAt, ReadSoFar, AllRead}
use Rattle.nb_journal.proofs.ReadingOn.{more_items, more_read, ends_shut, ends_broken, ends_full}
use Rattle.nb_journal.proofs.Moments.{untouched_then}
use Rattle.nb_journal.proofs.Telling.{some_same, some_both}
use Rattle.nb_journal.proofs.opening.items.read_items.Goals as goal

pub returns-in-Shut-clause-gives : goal.returns-in-Shut-clause-gives
returns-in-Shut-clause-gives g c =
    let told = g.D.Disk.tells.content c.args.disk.now in
    let items = c.loop-item.items.items in
    let place = c.loop-item.place in
    let shut = some_same told (g.D.Disk.tells.content c.loop-item.disk) (λ image. first_of (drop place image) ≡ Shut) c.loop-item.invariant.nothing.same c.in-Shut.ensures.gives in (
      c.loop-item.invariant.items,
      some_both told (λ image. ReadSoFar image c.args.cap items place) (λ image. first_of (drop place image) ≡ Shut) (λ image. AllRead image c.args.cap items place) (λ image. ends_shut c.args.cap items place image) c.loop-item.invariant.reads shut,
    )

pub returns-in-Broken-clause-gives : goal.returns-in-Broken-clause-gives
returns-in-Broken-clause-gives g c =
    let told = g.D.Disk.tells.content c.args.disk.now in
    let items = c.loop-item.items.items in
    let place = c.loop-item.place in
    let broken = some_same told (g.D.Disk.tells.content c.loop-item.disk) (λ image. first_of (drop place image) ≡ Broken) c.loop-item.invariant.nothing.same c.in-Broken.ensures.gives in
    some_both told (λ image. ReadSoFar image c.args.cap items place) (λ image. first_of (drop place image) ≡ Broken) (λ image. items_from c.args.cap [] 96 (drop 96 image) ≡ Fault c.loop-item.item place)
    (λ image. ends_broken c.args.cap items place c.loop-item.item image c.loop-item.invariant.count) c.loop-item.invariant.reads broken

pub loop-item-preserved : goal.loop-item-preserved
loop-item-preserved g c =
    let told = g.D.Disk.tells.content c.args.disk.now in
    let items = c.loop-item.items.items in
    let place = c.loop-item.place in
    let item = c.in-Item.blob in
    let below : length items < c.args.cap = omega (arith, c.loop-item.invariant.count, c.loop-item-test.true) in
    let pushed : c.push.new.self.items ≡ items ++ item ∷ [] = c.in-Ok-push.ensures.items in
    let next : c.as_slice.result.now ≡ item = c.as_slice.ensures in
    let there = some_same told (g.D.Disk.tells.content c.loop-item.disk) (λ image. ItemAt image place item) c.loop-item.invariant.nothing.same c.in-Item.ensures.gives.1 in
    let reads = some_both told (λ image. ReadSoFar image c.args.cap items place) (λ image. ItemAt image place item) (λ image. ReadSoFar image c.args.cap (items ++ item ∷ []) (place + (length item + 5)))
    (λ image. more_read c.args.cap items place item image below) c.loop-item.invariant.reads there in
    let are = more_items c.args.cap items place item c.loop-item.invariant.items c.in-Item.ensures.gives.0 below in
    record {
      count = omega (arith, c.loop-item.invariant.count, ap length pushed, length-append items (item ∷ []));
      items = rw (pushed, next) are;
      reads = rw (pushed, next) reads;
      nothing = untouched_then g.D.Disk.tells _ c.loop-item.disk _ c.loop-item.invariant.nothing c.in-Item.ensures.nothing;
      sees = c.in-Item.ensures.sees;
      faults = omega (arith, c.loop-item.invariant.faults, c.in-Item.ensures.count);
    }

pub returns-in-Shut-lead_at-clause-gives : goal.returns-in-Shut-lead_at-clause-gives
returns-in-Shut-lead_at-clause-gives g c =
    let told = g.D.Disk.tells.content c.args.disk.now in
    let items = c.loop-item.items.items in
    let place = c.loop-item.place in
    let shut = some_same told (g.D.Disk.tells.content c.loop-item.disk) (λ image. first_of (drop place image) ≡ Shut) c.loop-item.invariant.nothing.same c.in-Shut-lead_at.ensures.gives in (
      c.loop-item.invariant.items,
      some_both told (λ image. ReadSoFar image c.args.cap items place) (λ image. first_of (drop place image) ≡ Shut) (λ image. AllRead image c.args.cap items place) (λ image. ends_shut c.args.cap items place image) c.loop-item.invariant.reads shut,
    )

pub returns-in-Broken-lead_at-clause-gives : goal.returns-in-Broken-lead_at-clause-gives
returns-in-Broken-lead_at-clause-gives g c =
    let told = g.D.Disk.tells.content c.args.disk.now in
    let items = c.loop-item.items.items in
    let place = c.loop-item.place in
    let full : c.args.cap ≡ length items = omega (arith, c.loop-item.invariant.count, c.loop-item.invariant.items.count, c.loop-item-test.false) in
    let broken = some_same told (g.D.Disk.tells.content c.loop-item.disk) (λ image. first_of (drop place image) ≡ Broken) c.loop-item.invariant.nothing.same c.in-Broken-lead_at.ensures.gives in
    some_both told (λ image. ReadSoFar image c.args.cap items place) (λ image. first_of (drop place image) ≡ Broken) (λ image. items_from c.args.cap [] 96 (drop 96 image) ≡ Fault c.args.cap place)
    (λ image. ends_broken c.args.cap items place c.args.cap image full) c.loop-item.invariant.reads broken

pub returns-in-Sized-clause-gives : goal.returns-in-Sized-clause-gives
returns-in-Sized-clause-gives g c =
    let told = g.D.Disk.tells.content c.args.disk.now in
    let items = c.loop-item.items.items in
    let place = c.loop-item.place in
    let full : c.args.cap ≡ length items = omega (arith, c.loop-item.invariant.count, c.loop-item.invariant.items.count, c.loop-item-test.false) in
    let lead = some_same told (g.D.Disk.tells.content c.loop-item.disk) (λ image. take 5 (drop place image) ≡ open_gate ∷ be4 c.in-Sized.field-0) c.loop-item.invariant.nothing.same c.in-Sized.ensures.gives.1 in
    some_both told (λ image. ReadSoFar image c.args.cap items place) (λ image. take 5 (drop place image) ≡ open_gate ∷ be4 c.in-Sized.field-0) (λ image. items_from c.args.cap [] 96 (drop 96 image) ≡ Fault c.args.cap place)
    (λ image. ends_full c.args.cap items place c.in-Sized.field-0 image full c.in-Sized.ensures.gives.0) c.loop-item.invariant.reads lead
