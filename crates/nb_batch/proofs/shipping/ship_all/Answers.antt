use Rattle.std.proofs.Common.{List, ℕ, ◌<◌, ◌∙◌, length, sym, subst, arith}
use Rattle.nb_vault.specs.Vaults.{entries_in}
use Rattle.nb_standby.specs.Following.{house_key}
use Rattle.nb_batch.specs.Send.{SentPart}
use Rattle.nb_batch.proofs.Recording.{one_more, part_sent, put_is, rose_behind, stands_there}
use Rattle.nb_batch.proofs.shipping.ship_all.Goals.{in-Some+in-All, in_default}
use Rattle.nb_batch.proofs.shipping.ship_all.Goals as goal

pub returns-in-Failed-clause-ships : goal.returns-in-Failed-clause-ships
returns-in-Failed-clause-ships g c =
    let within : c.entries.at < length (entries_in c.args.vault.now) = omega (arith, c.entries-test.true, c.entries-at-end.ensures.count) in (
      c.requires.within,
      rose_behind (g.K.Sink.faults c.args.sink.now) (g.K.Sink.faults c.entries.sink) (g.K.Sink.faults c.make_room.new.sink) c.entries.invariant.count c.in-Failed.ensures.made.0,
      part_sent (house_key c.args.vault.now) c.args.from c.entries.at (entries_in c.args.vault.now) (g.K.Sink.sent c.args.sink.now) (g.K.Sink.sent c.entries.sink) (g.K.Sink.sent c.make_room.new.sink)
          c.entries.waits.items c.entries.invariant.low (omega (arith, within)) c.entries.invariant.sent c.in-Failed.ensures.made.1,
    )

pub returns-in-Failed-send_all-clause-ships : goal.returns-in-Failed-send_all-clause-ships
returns-in-Failed-send_all-clause-ships g c = (
  c.requires.within,
  rose_behind (g.K.Sink.faults c.args.sink.now) (g.K.Sink.faults c.entries.sink) (g.K.Sink.faults c.send_all.new.sink) c.entries.invariant.count c.in-Failed-send_all.ensures.sent.0,
  part_sent (house_key c.args.vault.now) c.args.from c.entries.at (entries_in c.args.vault.now) (g.K.Sink.sent c.args.sink.now) (g.K.Sink.sent c.entries.sink) (g.K.Sink.sent c.send_all.new.sink)
      c.entries.waits.items c.entries.invariant.low (omega (arith, c.entries.auto.at-end, c.entries-at-end.ensures.count)) c.entries.invariant.sent
      (subst (λ (bytes : List ℕ). SentPart (g.K.Sink.sent c.entries.sink) (g.K.Sink.sent c.send_all.new.sink) bytes) c.as_slice.ensures.value c.in-Failed-send_all.ensures.sent.1),
)

pub entries-preserved : goal.entries-preserved
entries-preserved g c =
    let key = house_key c.args.vault.now in
    let within : c.entries.at < length (entries_in c.args.vault.now) = omega (arith, c.entries-test.true, c.entries-at-end.ensures.count) in
    elim c.match-entry.branch [
      | in-Some+in-All w ↦
          rw (w.sink-is, w.waits-is) (record {
            sent = one_more key c.args.from c.entries.at (entries_in c.args.vault.now) w.in-Some.entry (g.K.Sink.sent c.args.sink.now) (g.K.Sink.sent c.entries.sink) (g.K.Sink.sent w.make_room.new.sink)
                c.entries.waits.items w.make_room.new.waits.items w.ship_with.new.out.items c.entries.invariant.low within (sym w.in-Some.ensures) c.entries.invariant.sent w.in-All.ensures.made.0
                (put_is key c.args.house.now _ c.entries.at w.in-Some.entry w.make_room.new.waits.items w.ship_with.new.out.items w.ship_with.ensures.bytes c.requires.key w.from.ensures);
            count = omega (arith, c.entries.invariant.count, w.in-All.ensures.count);
            room = omega (arith, c.entries.invariant.room, w.ship_with.ensures.room, w.in-All.ensures.room);
            low = omega (arith, c.entries.invariant.low);
          })
      | in_default w ↦ absurd (stands_there (entries_in c.args.vault.now) c.entries.at within (sym c.entry.ensures ∙ w.in_default.is))
    ]
