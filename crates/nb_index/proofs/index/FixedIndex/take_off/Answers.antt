use Rattle.std.proofs.Common.{◌≡◌, ℕ, ◌-◌, ◌<◌, [], Some, List, length, get_or, arith, sym, ap, ◌∙◌}
use Rattle.std.proofs.lemmas.List.{length-map}
use Rattle.std.proofs.lemmas.Option.{same_Some}
use Rattle.nb_index.specs.declared.put.Put.{Put}
use Rattle.nb_index.specs.Slots.{slot_of}
use Rattle.nb_index.proofs.Keys.{new_take}
use Rattle.nb_index.proofs.Holding.{off_chains}
use Rattle.nb_index.proofs.index.FixedIndex.take_off.Goals as goal

pub invariant_of-self : goal.invariant_of-self
invariant_of-self c =
    let d : Put = record { key = []; value = 0 } in
    let slots_long = c.self.inside.lasts.ok.0 in
    let puts_long = c.self.inside.puts.ok.0 in
    let some = rw (← c.self.view_is) at c.requires.some in
    let last = rw (← puts_long) at (rw (← c.self.view_is) at c.requires.last) in
    let same : c.self.inside.before.len ≡ c.self.inside.puts.len =
    omega (
      arith,
      c.self.inside.before.ok.0,
      puts_long,
      c.self.invariant.chains.as_many,
      length-map c.self.inside.puts.items (λ p. slot_of c.self.inside.key c.self.inside.lasts.len p.key),
    ) in
    let within : c.slot_for-slot.result < length c.self.inside.lasts.items = omega (arith, c.slot_for-slot.ensures.within, c.len.ensures, slots_long) in
    let number : c.in-Some.number ≡ get_or c.self.inside.before.items (c.self.inside.puts.len - 1) 0 =
    same_Some _ _
    (sym c.in-Some.is
    ∙ c.pop-before.ensures.value 0 (omega (arith, some, puts_long, same))
    ∙ ap (λ (n : ℕ). Some (get_or c.self.inside.before.items (n - 1) 0)) same) in
    record {
      some = c.self.invariant.some;
      most = c.self.invariant.most;
      half = omega (arith, c.pop.ensures.len, c.self.invariant.half);
      room = omega (arith, c.self.invariant.room, c.pop.ensures.capacity);
      room_before = omega (arith, c.self.invariant.room_before, c.pop-before.ensures.capacity);
      new = rw c.pop.ensures.rest (new_take _ _ c.self.invariant.new);
      chains =
          rw (c.pop.ensures.rest, c.pop-before.ensures.rest, same, number)
          (off_chains _ _ _ _ _ _ _ d c.self.invariant.chains (omega (arith, some, puts_long))
          (c.slot_for-slot.ensures.slot
          ∙ ap (λ (n : ℕ). slot_of c.self.inside.key n c.args.key.now) c.len.ensures
          ∙ ap (λ (k : List ℕ). slot_of c.self.inside.key c.self.inside.lasts.len k) (sym (last d)))
          within);
      remembered = c.self.invariant.remembered;
    }
