use Rattle.std.proofs.Common.{ℕ, ◌<◌, length, arith, ap, ◌∙◌}
use Rattle.std.proofs.lemmas.List.{get_or_read}
use Rattle.nb_index.specs.Slots.{slot_of}
use Rattle.nb_index.proofs.Keys.{new_push}
use Rattle.nb_index.proofs.Holding.{put_chains}
use Rattle.nb_index.proofs.index.FixedIndex.put.Goals as goal

pub invariant_of-self : goal.invariant_of-self
invariant_of-self c =
    let slots_long = c.self.inside.lasts.ok.0 in
    let puts_long = c.self.inside.puts.ok.0 in
    let room = rw (← c.self.view_is) at c.requires.room in
    let absent = rw (← c.self.view_is) at c.requires.absent in
    let within : c.slot_for-slot.result < length c.self.inside.lasts.items = omega (arith, c.slot_for-slot.ensures.within, c.len.ensures, slots_long) in
    record {
      some = c.self.invariant.some;
      most = c.self.invariant.most;
      half = omega (arith, puts_long, c.push_reserved-2.ensures.len, room);
      room = omega (arith, c.self.invariant.room, c.push_reserved-2.ensures.capacity);
      room_before = omega (arith, c.self.invariant.room_before, c.push_reserved.ensures.capacity);
      new = rw c.push_reserved-2.ensures.items (new_push _ _ c.self.invariant.new absent);
      chains =
          rw (c.push_reserved-2.ensures.items, c.push_reserved.ensures.items, get_or_read _ _ _ within c.index.ensures 0)
          (put_chains _ _ _ _ _ _ _ _ c.self.invariant.chains within
          (c.slot_for-slot.ensures.slot ∙ ap (λ (n : ℕ). slot_of c.self.inside.key n c.args.key.now) c.len.ensures)
          (omega (arith, c.len-2.ensures, c.push_reserved-2.ensures.len, puts_long)));
      remembered = c.self.invariant.remembered;
    }
