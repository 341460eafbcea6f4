-- What is held of a content: a part of it is what stands in the content at its place.
use Rattle.std.proofs.Common.{◌≡◌, ⊎_elim, ℕ, zero, suc, ◌+◌, ◌-◌, ◌<◌, ◌≤◌, min, List, [], ◌∷◌, length, take, drop, Option, Some, None, IfSome, arith, refl, sym, ap, ◌∙◌}
use Rattle.std.proofs.lemmas.List.{take_all, take_min, drop-take, drop-drop, length-take}
use Rattle.nb_journal.specs.Held.{Held}
use Rattle.nb_journal.specs.Window.{Sees, Reaches, part_of}

takes : (k m : ℕ) (xs : List ℕ) → k ≤ m → take k (take m xs) ≡ take k xs
takes zero m xs le = refl
takes (suc k) zero xs le = absurd (omega (arith, le))
takes (suc k) (suc m) [] le = refl
takes (suc k) (suc m) (x ∷ xs) le = ap (λ (ys : List ℕ). x ∷ ys) (takes k m xs (omega (arith, le)))

-- a part of what was taken off the front
within_front : (bytes xs : List ℕ) (asked s need : ℕ) → bytes ≡ take asked xs → s + need ≤ length bytes → take need (drop s bytes) ≡ take need (drop s xs)
within_front bytes xs asked s need is le =
    let n = length bytes in
    let count : n ≡ min asked (length xs) = ap length is ∙ length-take asked xs in
    let front : bytes ≡ take (s + (n - s)) xs = is ∙ sym (take_min asked xs) ∙ (let e : min asked (length xs) ≡ s + (n - s) = omega (arith, count, le) in ap (λ (k : ℕ). take k xs) e) in
    ap (λ (ys : List ℕ). take need (drop s ys)) front ∙ ap (take need) (drop-take s (n - s) xs) ∙ takes need (n - s) (drop s xs) (omega (arith, le))

-- where fewer were there than were asked for, all are
all_there : (bytes xs : List ℕ) (asked : ℕ) → bytes ≡ take asked xs → length bytes < asked → bytes ≡ xs
all_there bytes xs asked is few = is ∙ take_all asked xs (omega (arith, few, ap length is ∙ length-take asked xs))

pub part_is : (told : Option (List ℕ)) (held : Held) (place need : ℕ) → Sees told held → Reaches held place need → IfSome told (λ image. part_of held place need ≡ take need (drop place image))
part_is None held place need sees reaches = tt
part_is (Some image) held place need sees reaches =
    let s = place - held.place in
    let xs = drop held.place image in
    let there : drop s xs ≡ drop place image = drop-drop s held.place image ∙ (let e : held.place + s ≡ place = omega (arith, reaches.0) in ap (λ (k : ℕ). drop k image) e) in
    ⊎_elim
    (λ (far : place + need ≤ held.place + length held.bytes). within_front held.bytes xs held.asked s need sees (omega (arith, far, reaches.0)) ∙ ap (take need) there)
    (λ (few : length held.bytes < held.asked). ap (λ (ys : List ℕ). take need (drop s ys)) (all_there held.bytes xs held.asked sees few) ∙ ap (take need) there)
    reaches.1

pub part_stands : (told : Option (List ℕ)) (held : Held) (place need : ℕ) (bytes : List ℕ) → Sees told held → Reaches held place need → bytes ≡ part_of held place need → IfSome told (λ image. bytes ≡ take need (drop place image))
part_stands None held place need bytes sees reaches is = tt
part_stands (Some image) held place need bytes sees reaches is = is ∙ part_is (Some image) held place need sees reaches
