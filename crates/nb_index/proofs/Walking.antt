-- The walk of `find` from put to put of one slot.
use Rattle.std.proofs.Common.{◌≡◌, ℕ, suc, ◌+◌, ◌-◌, ◌<◌, ◌≤◌, Bool, true, false, cond, ltb, ◌||◌, List, [], ◌∷◌, map, Option, Some, length, take, get_or, arith, refl, sym, ap, subst, ◌∙◌, length-take}
use Rattle.std.proofs.lemmas.Bool.{ltb-false, eqb-false}
use Rattle.std.proofs.lemmas.List.{take-take, get_or-take, take-map, length-map}
use Rattle.std.proofs.lemmas.Slice.Eq.{bytes_eq-Decides}
use Rattle.std.specs.Prelude.{◌==◌}
use Rattle.std.specs.Str.{bytes_eq}
use Rattle.nb_index.specs.declared.put.Put.{Put}
use Rattle.nb_index.specs.Puts.{value_in, AreNew}
use Rattle.nb_index.specs.Slots.{slot_of, slots_of, last_in, Chains}
use Rattle.nb_index.proofs.Places.{last_le, last_is}
use Rattle.nb_index.proofs.Keys.{passed, hit}

-- the puts up to the last one at the slot of a key answer as all do: those behind it have other keys
pub only_front : (slot : List ℕ → ℕ) (k : List ℕ) (ps : List Put)
    → value_in (take (last_in (slot k) (map (λ p. slot p.key) ps)) ps) k ≡ value_in ps k
only_front slot k [] = refl
only_front slot k (p ∷ ps) =
    part (last_in (slot k) (map (λ p. slot p.key) ps)) (ltb 0 (last_in (slot k) (map (λ p. slot p.key) ps))) refl
    (slot p.key == slot k) refl (bytes_eq p.key k) refl (only_front slot k ps)
  where
    kept : (n : ℕ) → value_in (take n ps) k ≡ value_in ps k → value_in (take (n + 1) (p ∷ ps)) k ≡ value_in (p ∷ ps) k
    kept n rest =
        let next : n + 1 ≡ suc n = omega arith in
        rw next (ap (λ (x : Option ℕ). cond (bytes_eq p.key k) (Some p.value) x) rest)

    part : (n : ℕ) (more : Bool) → ltb 0 n ≡ more → (here : Bool) → (slot p.key == slot k) ≡ here → (b : Bool) → bytes_eq p.key k ≡ b
        → value_in (take n ps) k ≡ value_in ps k
        → value_in (take (cond (more || here) (n + 1) 0) (p ∷ ps)) k ≡ value_in (p ∷ ps) k
    part n true later here is b same rest = kept n rest
    part n false none true is b same rest = kept n rest
    part n false none false other true same rest =
        absurd (eqb-false (slot p.key) (slot k) other (ap slot ((bytes_eq-Decides p.key k).0 same)))
    part n false none false other false differs rest =
        let zero_is : n ≡ 0 = omega (arith, ltb-false 0 n none) in
        subst (λ (m : ℕ). value_in (take m ps) k ≡ value_in ps k) zero_is rest ∙ rw differs refl

-- where the walk stands: the first `number` puts answer as all do, and the last of them is at the slot of the key
pub record Stands (index : List ℕ) (slots : ℕ) (ps : List Put) (k : List ℕ) (at number : ℕ) : Type 0 where
  pub within : number ≤ length ps
  pub same : value_in (take number ps) k ≡ value_in ps k
  pub slot : 0 < number → get_or (slots_of index slots ps) (number - 1) 0 ≡ at

-- the walk begins at the last put at the slot of the key
pub starts : (index : List ℕ) (slots : ℕ) (ps : List Put) (k : List ℕ) (lasts before : List ℕ) (at : ℕ)
    → Chains lasts before (slots_of index slots ps) → at < length lasts → at ≡ slot_of index slots k → Stands index slots ps k at (get_or lasts at 0)
starts index slots ps k lasts before at chains within is =
    let last : get_or lasts at 0 ≡ last_in at (slots_of index slots ps) = chains.last at within in
    rw last
    record {
      within = omega (arith, last_le at (slots_of index slots ps), length-map ps (λ p. slot_of index slots p.key));
      same = rw is (only_front (slot_of index slots) k ps);
      slot = λ some. last_is at (slots_of index slots ps) some;
    }

-- a put of the key is the one that is looked for
pub finds : (index : List ℕ) (slots : ℕ) (ps : List Put) (k : List ℕ) (at number n : ℕ) (d : Put)
    → Stands index slots ps k at number → AreNew ps → number ≡ n + 1 → (get_or ps n d).key ≡ k → value_in ps k ≡ Some (get_or ps n d).value
finds index slots ps k at number n d stands new is key =
    sym stands.same ∙ rw is (hit k ps n d new (omega (arith, stands.within)) key)

-- behind a put of another key the walk goes on to the put before it at the slot
pub goes_on : (index : List ℕ) (slots : ℕ) (ps : List Put) (k : List ℕ) (lasts before : List ℕ) (at number n : ℕ) (d : Put)
    → Stands index slots ps k at number → Chains lasts before (slots_of index slots ps) → at ≡ slot_of index slots k → number ≡ n + 1
    → ((get_or ps n d).key ≡ k → ⊥) → (get_or before n 0 < number) × Stands index slots ps k at (get_or before n 0)
goes_on index slots ps k lasts before at number n d stands chains is count other =
    let hs : List ℕ = slots_of index slots ps in
    let within : n < length ps = omega (arith, stands.within) in
    let within_slots : n < length hs = omega (arith, length-map ps (λ p. slot_of index slots p.key)) in
    let here : get_or hs n 0 ≡ at = subst (λ (m : ℕ). get_or hs m 0 ≡ at) (omega arith) (stands.slot (omega arith)) in
    let earlier : get_or before n 0 ≡ last_in at (take n hs) = chains.earlier n within_slots ∙ ap (λ (h : ℕ). last_in h (take n hs)) here in
    let low : last_in at (take n hs) ≤ n = omega (arith, last_le at (take n hs), length-take n hs) in
    rw earlier (
      omega arith,
      record {
        within = omega arith;
        same =
            ap (λ (qs : List Put). value_in qs k) (sym (take-take (last_in at (take n hs)) n ps low))
            ∙ rw (take-map (λ p. slot_of index slots p.key) n ps, is) (only_front (slot_of index slots) k (take n ps))
            ∙ sym (passed k ps n d within other)
            ∙ ap (λ (m : ℕ). value_in (take m ps) k) (sym count)
            ∙ stands.same;
        slot = λ some.
            let lower : last_in at (take n hs) - 1 < n = omega arith in
            sym (get_or-take n hs (last_in at (take n hs) - 1) 0 lower) ∙ last_is at (take n hs) some;
      },
    )
