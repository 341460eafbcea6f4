-- What the fields of an index hold behind one put and without the last one.
use Rattle.std.proofs.Common.{◌≡◌, ℕ, ◌+◌, ◌<◌, List, [], ◌∷◌, ◌++◌, length, take, set, get_or, arith, sym, ◌∙◌}
use Rattle.std.proofs.lemmas.List.{map_push, take-map, get_or-map, length-map}
use Rattle.nb_index.specs.declared.put.Put.{Put}
use Rattle.nb_index.specs.Slots.{slot_of, slots_of, Chains}
use Rattle.nb_index.proofs.Places.{pushed, popped}

-- the chains behind one more put
pub put_chains : (index : List ℕ) (slots : ℕ) (ps : List Put) (p : Put) (lasts before : List ℕ) (at count : ℕ)
    → Chains lasts before (slots_of index slots ps) → at < length lasts → at ≡ slot_of index slots p.key → count ≡ length ps + 1
    → Chains (set lasts at count) (before ++ get_or lasts at 0 ∷ []) (slots_of index slots (ps ++ p ∷ []))
put_chains index slots ps p lasts before at count chains within is counted =
    let many : count ≡ length (slots_of index slots ps) + 1 = omega (arith, counted, length-map ps (λ p. slot_of index slots p.key)) in
    rw (many, map_push (λ p. slot_of index slots p.key) ps p, sym is) (pushed lasts before (slots_of index slots ps) at chains within)

-- the chains without the last put
pub off_chains : (index : List ℕ) (slots : ℕ) (ps : List Put) (n : ℕ) (lasts before : List ℕ) (at : ℕ) (d : Put)
    → Chains lasts before (slots_of index slots ps) → length ps ≡ n + 1 → at ≡ slot_of index slots (get_or ps n d).key → at < length lasts
    → Chains (set lasts at (get_or before n 0)) (take n before) (slots_of index slots (take n ps))
off_chains index slots ps n lasts before at d chains long is within =
    let many : length (slots_of index slots ps) ≡ n + 1 = omega (arith, long, length-map ps (λ p. slot_of index slots p.key)) in
    let here : get_or (slots_of index slots ps) n 0 ≡ at = get_or-map (λ p. slot_of index slots p.key) ps n d 0 (omega (arith, long)) ∙ sym is in
    rw (sym (take-map (λ p. slot_of index slots p.key) n ps)) (popped lasts before (slots_of index slots ps) at n chains many here within)
