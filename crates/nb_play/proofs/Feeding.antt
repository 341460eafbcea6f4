-- A source of a drill's frames, and its clock.
use Rattle.std.proofs.Common.{◌≡◌, ◌≢◌, ℕ, true, eqb, min, suc, ◌+◌, ◌-◌, ◌/◌, ◌%◌, ◌<◌, ◌≤◌, List, [], ◌++◌, refl, sym, ap, ◌∙◌, arith, append_assoc, length, take, drop}
use Rattle.std.proofs.lemmas.List.{replicate-append-replicate, drop-drop, drop_all, length-drop}
use Rattle.std.proofs.lemmas.Bool.{eqb-true}
use Rattle.std.proofs.Math.ListN.{take-append-drop}
use Rattle.nb_units.specs.Frames.{frame}
use Rattle.nb_port.specs.Faults.{one_more}
use Rattle.nb_port.specs.Clock.{Gives}
use Rattle.nb_play.specs.Drill.{frame_bytes, order_frame}
use Rattle.nb_play.specs.Feed.{frames_from, bytes_from, count_of, told_by, IsAgain}
use Rattle.nb_play.proofs.Framing.{orders}

pub told_next : (asked : ℕ) → Gives (told_by asked) (told_by (one_more asked)) 1000000
told_next asked =
    let moment : ℕ = 1000000 in
    grind (arith, replicate-append-replicate asked 1 moment)

-- the second frame of an order is the first one again
pub again : (seed place : ℕ) → 24 < place → eqb ((place - 24) % 2) 1 ≡ true → IsAgain seed place
again seed place behind is =
    let odd : (place - 24) % 2 ≡ 1 = eqb-true ((place - 24) % 2) 1 is in
    let same : (place - 24) / 2 ≡ (place - 1 - 24) / 2 = omega (arith, odd, behind) in
    (omega (arith, behind), ap frame (orders seed place (omega (arith, behind)) ∙ ap (order_frame seed) same ∙ sym (orders seed (place - 1) (omega (arith, behind)))))

-- nothing is left behind the last frame
pub done : (seed at made count : ℕ) (bytes : List ℕ) → at ≡ length bytes → made ≡ count → drop at bytes ++ bytes_from seed made (count - made) ≡ []
unfolding frames_from
done seed at made count bytes all last =
    let none : count - made ≡ 0 = omega (arith, last) in
    rw (none, all, drop_all (length bytes) bytes (omega arith)) refl

-- behind a frame comes the next one
pub next : (seed at made count : ℕ) (bytes : List ℕ) → at ≡ length bytes → made < count
    → drop at bytes ++ bytes_from seed made (count - made) ≡ frame_bytes seed made ++ bytes_from seed (made + 1) (count - (made + 1))
unfolding frames_from
next seed at made count bytes all more =
    let one : count - made ≡ suc (count - (made + 1)) = omega (arith, more) in
    let step : made + 1 ≡ suc made = omega arith in
    rw (one, all, drop_all (length bytes) bytes (omega arith), step) refl

-- a part of a frame is taken off
pub part : (bytes rest : List ℕ) (at n : ℕ) → drop at bytes ++ rest ≡ take n (drop at bytes) ++ (drop (at + n) bytes ++ rest)
part bytes rest at n =
    ap (λ (xs : List ℕ). xs ++ rest) (sym (take-append-drop n (drop at bytes))) ∙ append_assoc (take n (drop at bytes)) (drop n (drop at bytes)) rest
    ∙ ap (λ (xs : List ℕ). take n (drop at bytes) ++ (xs ++ rest)) (drop-drop n at bytes)

-- a source whose frame was not read to its end: its fields, and what is left
abbrev pub Ready : (seed orders at made : ℕ) → (bytes left : List ℕ) → Type 0
Ready seed orders at made bytes left =
    (orders ≤ 100000) × (at < length bytes) × (made ≤ count_of orders) × (0 < made → bytes ≡ frame_bytes seed (made - 1))
    × (left ≡ drop at bytes ++ bytes_from seed made (count_of orders - made))

-- the frame that waits has something left
pub ready_now : (seed orders at made : ℕ) (bytes left : List ℕ) → orders ≤ 100000 → at ≤ length bytes → made ≤ count_of orders → (0 < made → bytes ≡ frame_bytes seed (made - 1))
    → left ≡ drop at bytes ++ bytes_from seed made (count_of orders - made) → at ≢ length bytes → Ready seed orders at made bytes left
ready_now seed orders at made bytes left few within small last is other = (few, omega (arith, within, other), small, last, is)

-- the next frame was made
pub ready_next : (seed orders at made : ℕ) (bytes fresh left : List ℕ) → orders ≤ 100000 → at ≡ length bytes → made < count_of orders → fresh ≡ frame_bytes seed made
    → left ≡ drop at bytes ++ bytes_from seed made (count_of orders - made) → Ready seed orders 0 (made + 1) fresh left
ready_next seed orders at made bytes fresh left few all more is held =
    let long : 0 < length (frame_bytes seed made) = omega arith in
    let same : made + 1 - 1 ≡ made = omega arith in (
      few,
      omega (arith, long, ap length is),
      omega (arith, more),
      (λ some. is ∙ ap (frame_bytes seed) (sym same)),
      held ∙ next seed at made (count_of orders) bytes all more ∙ ap (λ (xs : List ℕ). xs ++ bytes_from seed (made + 1) (count_of orders - (made + 1))) (sym is),
    )

-- what a read gives of it
pub gives : (seed orders at made n room : ℕ) (bytes left buf : List ℕ) → Ready seed orders at made bytes left → n ≡ min (length (drop at bytes)) room → 0 < room → take n buf ≡ take n (drop at bytes)
    → (0 < n) × (n ≤ room) × (left ≡ take n buf ++ (drop (at + n) bytes ++ bytes_from seed made (count_of orders - made)))
gives seed orders at made n room bytes left buf ready least some same =
    let long = length-drop at bytes in (
      omega (arith, least, long, ready.1, some),
      omega (arith, least),
      ready.4 ∙ part bytes (bytes_from seed made (count_of orders - made)) at n ∙ ap (λ (xs : List ℕ). xs ++ (drop (at + n) bytes ++ bytes_from seed made (count_of orders - made))) (sym same),
    )
