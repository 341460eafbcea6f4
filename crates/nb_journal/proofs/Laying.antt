-- An image is laid piece by piece: neighbouring writes are one.
use Rattle.std.proofs.Common.{◌≡◌, refl, ℕ, ◌+◌, ◌-◌, ◌≤◌, List, ◌++◌, length, take, drop, Option, Some, None, IfSome, arith, sym, ap, ◌∙◌, length-append, length-drop}
use Rattle.std.specs.Prelude.{replicate, ⊤}
use Rattle.std.proofs.lemmas.List.{drop-drop, length-take-le}
use Rattle.std.proofs.Math.Seq.{take-append_seam, drop-append-add, take-add}
use Rattle.nb_port.specs.Disk.{put_at, wrote_at}
use Rattle.nb_journal.specs.Migrating.{blanked}
use Rattle.nb_journal.proofs.Telling.{any_content, some_wrote}

-- a write at the end of one that begins at place 0
put_next : (old bytes piece : List ℕ) → put_at (put_at old 0 bytes) (length bytes) piece ≡ put_at old 0 (bytes ++ piece)
unfolding put_at
put_next old bytes piece =
    let behind = drop (0 + length bytes) old in
    let all : 0 + length bytes + length piece ≡ 0 + length (bytes ++ piece) = omega (arith, length-append bytes piece) in
    ap (λ (xs : List ℕ). xs ++ piece ++ drop (length bytes + length piece) (bytes ++ behind)) (take-append_seam bytes behind)
    ∙ ap (λ (xs : List ℕ). bytes ++ piece ++ xs) (drop-append-add bytes behind (length piece) ∙ drop-drop (length piece) (0 + length bytes) old ∙ ap (λ (n : ℕ). drop n old) all)

-- behind the zeros a blanked image is the image
blanked_behind : (image : List ℕ) (place : ℕ) → 8 ≤ place → drop place (blanked image) ≡ drop place image
blanked_behind image place behind =
    let k = place - 8 in
    let split : place ≡ 8 + k = omega (arith, behind) in
    ap (λ (n : ℕ). drop n (blanked image)) split ∙ drop-append-add (replicate 8 0) (drop 8 image) k ∙ drop-drop k 8 image ∙ ap (λ (n : ℕ). drop n image) (sym split)

-- it is as long
blanked_length : (image : List ℕ) → 8 ≤ length image → length (blanked image) ≡ length image
blanked_length image long = omega (arith, long, length-append (replicate 8 0) (drop 8 image), length-drop 8 image)

-- one piece more, put behind what was laid
next_laid : (told : Option (List ℕ)) (image : List ℕ) (place len : ℕ) → 8 ≤ place → place ≤ length image
    → wrote_at (wrote_at told 0 (take place (blanked image))) place (take len (drop place image)) ≡ wrote_at told 0 (take (place + len) (blanked image))
next_laid None image place len behind within = refl
next_laid (Some old) image place len behind within =
    let laid = take place (blanked image) in
    let long : length laid ≡ place = length-take-le place (blanked image) (omega (arith, within, behind, blanked_length image (omega (arith, behind, within)))) in
    let next : laid ++ take len (drop place image) ≡ take (place + len) (blanked image) =
    ap (λ (xs : List ℕ). laid ++ take len xs) (sym (blanked_behind image place behind)) ∙ sym (take-add place len (blanked image)) in
    ap Some (ap (λ (n : ℕ). put_at (put_at old 0 laid) n (take len (drop place image))) (sym long) ∙ put_next old laid (take len (drop place image)) ∙ ap (put_at old 0) next)

-- the same of what a disk tells
pub more_laid : (old mid new : Option (List ℕ)) (image rest piece : List ℕ) (place len : ℕ) → 8 ≤ place → place ≤ length image → rest ≡ drop place image → piece ≡ take len rest
    → mid ≡ wrote_at old 0 (take place (blanked image)) → new ≡ wrote_at mid place piece → new ≡ wrote_at old 0 (take (place + len) (blanked image))
more_laid old mid new image rest piece place len behind within rest_is piece_is first second =
    second
    ∙ ap (wrote_at mid place) (piece_is ∙ ap (take len) rest_is)
    ∙ ap (λ (told : Option (List ℕ)). wrote_at told place (take len (drop place image))) first
    ∙ next_laid old image place len behind within

-- what was put at place 0 is no longer than what stands there then
put_length : (old bytes : List ℕ) → length bytes ≤ length (put_at old 0 bytes)
unfolding put_at
put_length old bytes = omega (arith, length-append bytes (drop (0 + length bytes) old))

-- the next piece begins within what was laid, or at its end
pub laid_so_far : (old new : Option (List ℕ)) (image : List ℕ) (place : ℕ) → 8 ≤ place → place ≤ length image → new ≡ wrote_at old 0 (take place (blanked image)) → IfSome new (λ bytes. place ≤ length bytes)
laid_so_far old new image place behind within wrote =
    some_wrote old new 0 (take place (blanked image)) (λ bytes. ⊤) (λ bytes. place ≤ length bytes) wrote
    (λ bytes any. omega (arith, put_length bytes (take place (blanked image)), length-take-le place (blanked image) (omega (arith, within, blanked_length image (omega (arith, behind, within))))))
    (any_content old)
