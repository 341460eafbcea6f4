use Rattle.std.proofs.Common.{◌≡◌, ℕ, ◌+◌, ◌-◌, ◌<◌, Some, length, arith, sym, ap, ◌∙◌}
use Rattle.std.proofs.lemmas.List.{get_or_read, length-map}
use Rattle.std.proofs.lemmas.Bool.{true≢false}
use Rattle.std.proofs.lemmas.Slice.Eq.{bytes_eq-Decides}
use Rattle.nb_index.specs.declared.put.Put.{Put}
use Rattle.nb_index.specs.Slots.{slot_of}
use Rattle.nb_index.proofs.Walking.{starts, finds, goes_on}
use Rattle.nb_index.proofs.index.FixedIndex.find.Goals as goal

pub loop-number-init : goal.loop-number-init
loop-number-init c =
    let within : c.slot_for-slot.result < length c.self.inside.lasts.items = omega (arith, c.slot_for-slot.ensures.within, c.len.ensures, c.self.inside.lasts.ok.0) in
    rw (get_or_read _ _ _ within c.index-number.ensures 0)
    (starts _ _ _ _ _ _ _ c.self.invariant.chains within (c.slot_for-slot.ensures.slot ∙ ap (λ (n : ℕ). slot_of c.self.inside.key n c.args.key.now) c.len.ensures))

pub returns-then-eq-clause-found : goal.returns-then-eq-clause-found
returns-then-eq-clause-found c =
    let count : c.loop-number.number ≡ c.loop-number.number - 1 + 1 = omega (arith, c.loop-number-test.true) in
    let key : c.index.result.now.key ≡ c.args.key.now = (bytes_eq-Decides c.index.result.now.key c.args.key.now).0 (sym c.eq.ensures ∙ c.if-eq.true) in
    rw (← c.self.view_is)
    (sym
    (finds _ _ _ _ _ _ _ c.index.result.now c.loop-number.invariant c.self.invariant.new count (ap (λ (p : Put). p.key) (sym c.index.ensures) ∙ key)
    ∙ ap (λ (p : Put). Some p.value) (sym c.index.ensures)))

pub loop-number-smaller : goal.loop-number-smaller
loop-number-smaller c =
    let count : c.loop-number.number ≡ c.loop-number.number - 1 + 1 = omega (arith, c.loop-number-test.true) in
    let other : c.index.result.now.key ≡ c.args.key.now → ⊥ =
    λ same. true≢false (sym ((bytes_eq-Decides c.index.result.now.key c.args.key.now).1 same) ∙ sym c.eq.ensures ∙ c.if-eq.false) in
    let within : c.loop-number.number - 1 < length c.self.inside.before.items =
    omega (arith, count, c.loop-number.invariant.within, c.self.invariant.chains.as_many, length-map c.self.inside.puts.items (λ p. slot_of c.self.inside.key c.self.inside.lasts.len p.key)) in
    rw (get_or_read _ _ _ within c.index-number-in-loop-number.ensures 0)
    (goes_on _ _ _ _ _ _ _ _ _ c.index.result.now c.loop-number.invariant c.self.invariant.chains
    (c.slot_for-slot.ensures.slot ∙ ap (λ (n : ℕ). slot_of c.self.inside.key n c.args.key.now) c.len.ensures) count
    (λ same. other (ap (λ (p : Put). p.key) c.index.ensures ∙ same))).0

pub loop-number-preserved : goal.loop-number-preserved
loop-number-preserved c =
    let count : c.loop-number.number ≡ c.loop-number.number - 1 + 1 = omega (arith, c.loop-number-test.true) in
    let other : c.index.result.now.key ≡ c.args.key.now → ⊥ =
    λ same. true≢false (sym ((bytes_eq-Decides c.index.result.now.key c.args.key.now).1 same) ∙ sym c.eq.ensures ∙ c.if-eq.false) in
    let within : c.loop-number.number - 1 < length c.self.inside.before.items =
    omega (arith, count, c.loop-number.invariant.within, c.self.invariant.chains.as_many, length-map c.self.inside.puts.items (λ p. slot_of c.self.inside.key c.self.inside.lasts.len p.key)) in
    rw (get_or_read _ _ _ within c.index-number-in-loop-number.ensures 0)
    (goes_on _ _ _ _ _ _ _ _ _ c.index.result.now c.loop-number.invariant c.self.invariant.chains
    (c.slot_for-slot.ensures.slot ∙ ap (λ (n : ℕ). slot_of c.self.inside.key n c.args.key.now) c.len.ensures) count
    (λ same. other (ap (λ (p : Put). p.key) c.index.ensures ∙ same))).1
