-- What a write does to bytes that stand behind a front: to those behind a gate, and to the gate.
use Rattle.std.proofs.Common.{◌≡◌, ℕ, ◌+◌, ◌<◌, ◌≤◌, List, [], ◌∷◌, ◌++◌, length, take, drop, arith, refl, sym, ap, subst, ◌∙◌, length-append, length-drop}
use Rattle.std.proofs.lemmas.List.{append_assoc, drop-drop, take-take, take-append-drop, drop-take, take_at, drop_at, length-take-le}
use Rattle.std.proofs.Math.Seq.{take-append_seam, drop-append-add}
use Rattle.nb_port.specs.Disk.{Torn, put_at}

-- a torn write behind a front leaves the front
front_kept : (front rest c : List ℕ) (n : ℕ) → Torn (length front) n (front ++ rest) c → c ≡ front ++ drop (length front) c
front_kept front rest c n torn =
    let within : length front ≤ length (front ++ rest) = omega (arith, length-append front rest) in
    let same : take (length front) c ≡ front = sym (take-take (length front) (length (front ++ rest)) c within) ∙ torn.before ∙ take-append_seam front rest in
    sym (take-append-drop (length front) c) ∙ ap (λ (xs : List ℕ). xs ++ drop (length front) c) same

-- one byte behind a front
abbrev with_gate : List ℕ → ℕ → List ℕ
with_gate front gate = front ++ gate ∷ []

-- the byte, and what stands behind it
gated : (front : List ℕ) (gate : ℕ) (rest : List ℕ) → with_gate front gate ++ rest ≡ front ++ gate ∷ rest
gated front gate rest = append_assoc front (gate ∷ []) rest

-- the front and the byte are one longer
gate_length : (front : List ℕ) (gate : ℕ) → length (with_gate front gate) ≡ length front + 1
gate_length front gate = length-append front (gate ∷ [])

-- a torn write behind the gate leaves the front and the gate
pub behind_torn : (front : List ℕ) (gate : ℕ) (rest c : List ℕ) (n : ℕ) → Torn (length front + 1) n (front ++ gate ∷ rest) c → c ≡ front ++ gate ∷ drop (length front + 1) c
behind_torn front gate rest c n torn =
    let behind : Torn (length (with_gate front gate)) n (with_gate front gate ++ rest) c =
    subst (λ (xs : List ℕ). Torn (length (with_gate front gate)) n xs c) (sym (gated front gate rest)) (subst (λ (m : ℕ). Torn m n (front ++ gate ∷ rest) c) (sym (gate_length front gate)) torn) in
    front_kept (with_gate front gate) rest c n behind ∙ gated front gate (drop (length (with_gate front gate)) c) ∙ ap (λ (m : ℕ). front ++ gate ∷ drop m c) (gate_length front gate)

-- bytes that are put behind the gate
pub behind_put : (front : List ℕ) (gate : ℕ) (rest bytes : List ℕ) → put_at (front ++ gate ∷ rest) (length front + 1) bytes ≡ front ++ gate ∷ (bytes ++ drop (length bytes) rest)
unfolding put_at
behind_put front gate rest bytes =
    let all = with_gate front gate in
    let long = gate_length front gate in
    let is : front ++ gate ∷ rest ≡ all ++ rest = sym (gated front gate rest) in
    rw (is, sym long, take-append_seam all rest, drop-append-add all rest (length bytes)) (append_assoc all bytes (drop (length bytes) rest) ∙ gated front gate (bytes ++ drop (length bytes) rest))

-- a byte that is put at the gate
pub gate_put : (front : List ℕ) (gate : ℕ) (rest : List ℕ) (byte : ℕ) → put_at (front ++ gate ∷ rest) (length front) (byte ∷ []) ≡ front ++ byte ∷ rest
unfolding put_at
gate_put front gate rest byte = rw (take-append_seam front (gate ∷ rest), drop-append-add front (gate ∷ rest) 1) (append_assoc front (byte ∷ []) rest)

-- a torn write of the gate leaves the front and all that stands behind the gate
pub record GateTorn (front rest c : List ℕ) : Type 0 where
  pub gate : ℕ
  pub more : List ℕ
  pub bytes : c ≡ front ++ gate ∷ (rest ++ more)

-- such a write leaves one
pub gate_torn : (front : List ℕ) (gate : ℕ) (rest c : List ℕ) → Torn (length front) 1 (front ++ gate ∷ rest) c → GateTorn front rest c
gate_torn front gate rest c torn = part (drop (length front) c) refl
  where
    all : length (front ++ gate ∷ rest) ≡ (length front + 1) + length rest
    all = omega (arith, length-append front (gate ∷ rest))

    behind : take (length rest) (drop (length front + 1) c) ≡ rest
    behind =
        sym (drop-take (length front + 1) (length rest) c) ∙ ap (λ (m : ℕ). drop (length front + 1) (take m c)) (sym all) ∙ torn.after ∙ drop-append-add front (gate ∷ rest) 1

    part : (xs : List ℕ) → drop (length front) c ≡ xs → GateTorn front rest c
    part [] none = absurd (omega (arith, torn.no_shorter, all, length-drop (length front) c, ap length none))
    part (byte ∷ xs) some =
        let tail : drop (length front + 1) c ≡ xs = sym (drop-drop 1 (length front) c) ∙ ap (drop 1) some in
        let split : xs ≡ rest ++ drop (length rest) xs =
        sym (take-append-drop (length rest) xs) ∙ ap (λ (ys : List ℕ). ys ++ drop (length rest) xs) (subst (λ (ys : List ℕ). take (length rest) ys ≡ rest) tail behind) in
        record {
          gate = byte;
          more = drop (length rest) xs;
          bytes = front_kept front (gate ∷ rest) c 1 torn ∙ ap (λ (ys : List ℕ). front ++ ys) some ∙ ap (λ (ys : List ℕ). front ++ byte ∷ ys) split;
        }

-- bytes that are put behind a gate, and then the gate: one write of both
pub both_put : (old : List ℕ) (gate byte : ℕ) (bytes : List ℕ) → gate < length old → put_at (put_at old (gate + 1) bytes) gate (byte ∷ []) ≡ put_at old gate (byte ∷ bytes)
unfolding put_at
both_put old gate byte bytes inside =
    let front = take (gate + 1) old in
    let behind = bytes ++ drop (gate + 1 + length bytes) old in
    let long : length front ≡ gate + 1 = length-take-le (gate + 1) old (omega (arith, inside)) in
    let split : front ++ bytes ++ drop (gate + 1 + length bytes) old ≡ front ++ behind = append_assoc front bytes (drop (gate + 1 + length bytes) old) in
    let before : take gate (front ++ behind) ≡ take gate old =
    sym (take-take gate (gate + 1) (front ++ behind) (omega arith)) ∙ ap (take gate) (take_at front behind (gate + 1) long) ∙ take-take gate (gate + 1) old (omega arith) in
    let after : drop (gate + 1) (front ++ behind) ≡ behind = drop_at front behind (gate + 1) long in
    let next : gate + 1 + length bytes ≡ gate + length (byte ∷ bytes) = omega arith in
    ap (λ (xs : List ℕ). take gate xs ++ byte ∷ [] ++ drop (gate + 1) xs) split
    ∙ ap (λ (xs : List ℕ). xs ++ byte ∷ [] ++ drop (gate + 1) (front ++ behind)) before
    ∙ ap (λ (xs : List ℕ). take gate old ++ byte ∷ [] ++ xs) after
    ∙ append_assoc (take gate old) (byte ∷ []) behind
    ∙ ap (λ (n : ℕ). take gate old ++ byte ∷ (bytes ++ drop n old)) next
    ∙ sym (append_assoc (take gate old) (byte ∷ bytes) (drop (gate + length (byte ∷ bytes)) old))
