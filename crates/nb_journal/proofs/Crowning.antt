-- What stands where an image was laid, once its magic is written, and while it is.
use Rattle.std.proofs.Common.{◌≡◌, ℕ, ◌+◌, ◌≤◌, List, ◌∷◌, ◌++◌, length, take, drop, arith, sym, ap, subst, ◌∙◌}
use Rattle.std.proofs.lemmas.List.{append_assoc, take-take, take-append-drop}
use Rattle.nb_port.specs.Disk.{Torn, put_at}
use Rattle.nb_units.specs.declared.charter.Charter.{Charter}
use Rattle.nb_journal.specs.Layout.{magic, front_bytes, up_to_gate}
use Rattle.nb_journal.specs.Stands.{Stands}
use Rattle.nb_journal.specs.Migrating.{blanked}

-- up to its end, a content that was torn in its first eight bytes is what it was behind them
pub crown_leaves : (content image : List ℕ) → 8 ≤ length content → Torn 0 8 content image → take 8 image ≡ magic 2 → take (length content) image ≡ magic 2 ++ drop 8 content
crown_leaves content image long torn begins =
    let front = take (length content) image in
    sym (take-append-drop 8 front)
    ∙ ap (λ (xs : List ℕ). xs ++ drop 8 front) (take-take 8 (length content) image long ∙ begins)
    ∙ ap (λ (xs : List ℕ). magic 2 ++ xs) torn.after

-- what follows the last gate is free
stands_more : (front : List ℕ) (items : List (List ℕ)) (image more : List ℕ) → Stands front items image → Stands front items (image ++ more)
stands_more front items image more stands = record {
  gate = stands.gate;
  rest = stands.rest ++ more;
  shut = stands.shut;
  bytes = ap (λ (xs : List ℕ). xs ++ more) stands.bytes ∙ append_assoc (up_to_gate front items) (stands.gate ∷ stands.rest) more;
}

-- a journal of the second version is its magic, and what stands behind it
begins_so : (image : List ℕ) (charter : Charter) (cap : ℕ) (items : List (List ℕ)) → charter.version ≡ 2 → Stands (front_bytes cap charter) items image → image ≡ magic 2 ++ drop 8 image
begins_so image charter cap items second stands =
    let first : take 8 image ≡ magic charter.version = ap (take 8) stands.bytes in
    sym (take-append-drop 8 image) ∙ ap (λ (xs : List ℕ). xs ++ drop 8 image) (first ∙ ap magic second)

-- the magic and the bytes that were laid behind it, with what followed these on the disk
crowned : (image tail : List ℕ) (charter : Charter) (cap : ℕ) (items : List (List ℕ)) → charter.version ≡ 2 → Stands (front_bytes cap charter) items image
    → Stands (front_bytes cap charter) items (magic 2 ++ (drop 8 image ++ tail))
crowned image tail charter cap items second stands =
    subst (λ (xs : List ℕ). Stands (front_bytes cap charter) items (xs ++ tail)) (begins_so image charter cap items second stands)
    (stands_more (front_bytes cap charter) items image tail stands)

-- where it is crowned, or torn there and begins so
pub crown_stands : (old image : List ℕ) (charter : Charter) (cap : ℕ) (items : List (List ℕ)) → charter.version ≡ 2 → Stands (front_bytes cap charter) items image
    → Stands (front_bytes cap charter) items (put_at (put_at old 0 (blanked image)) 0 (magic 2))
    × ((left : List ℕ) → Torn 0 8 (put_at old 0 (blanked image)) left → take 8 left ≡ magic 2 → Stands (front_bytes cap charter) items left)
unfolding put_at
crown_stands old image charter cap items second stands = (whole, torn_whole)
  where
    tail : List ℕ
    tail = drop (0 + length (blanked image)) old

    whole : Stands (front_bytes cap charter) items (magic 2 ++ (drop 8 image ++ tail))
    whole = crowned image tail charter cap items second stands

    torn_whole : (left : List ℕ) → Torn 0 8 (blanked image ++ tail) left → take 8 left ≡ magic 2 → Stands (front_bytes cap charter) items left
    torn_whole left torn begins =
        let n = length (blanked image ++ tail) in
        let front : take n left ≡ magic 2 ++ (drop 8 image ++ tail) = crown_leaves (blanked image ++ tail) left (omega arith) torn begins in
        let split : (magic 2 ++ (drop 8 image ++ tail)) ++ drop n left ≡ left = ap (λ (xs : List ℕ). xs ++ drop n left) (sym front) ∙ take-append-drop n left in
        subst (Stands (front_bytes cap charter) items) split (stands_more (front_bytes cap charter) items (magic 2 ++ (drop 8 image ++ tail)) (drop n left) whole)
