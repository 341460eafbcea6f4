-- A stall and its head, there and back.
use Rattle.std.proofs.Common.{◌≡◌, ◌<◌, ◌^◌, ℕ, List, ◌++◌, length, take, drop, replicate, refl, sym, ap, ◌∙◌, append_assoc, arith, length-drop, take-append-drop}
use Rattle.std.specs.Int.{w32, from_be_bytes}
use Rattle.std.proofs.lemmas.List.{length-take-le, take_at, drop_at, drop-drop}
use Rattle.std.proofs.lemmas.Nat.{from_be_bytes-to_be_bytes_4, be_bytes_4}
use Rattle.std.proofs.Math.Seq.{take-add}
use Rattle.nb_units.specs.Frames.{AreBytes}
use Rattle.nb_units.proofs.ByteLists.{AreBytes-drop, AreBytes-take}
use Rattle.nb_stall.specs.declared.stall.Stall.{Stall}
use Rattle.nb_stall.specs.Head.{head_bytes, stall_of, HeadReadsBack, HeadSpellsBack}

same_stall : (i a : ℕ) (k m : List ℕ) (s : Stall) → i ≡ s.id.0 → a ≡ s.acct.0 → k ≡ s.key → m ≡ s.master → (let made : Stall = record { id = record { 0 = i }; acct = record { 0 = a }; key = k; master = m } in made ≡ s)
same_stall i a k m s p q r t = rw (p, q, r, t) refl

pub head_reads_back : HeadReadsBack
unfolding head_bytes stall_of
head_reads_back s is =
    same_stall _ _ _ _ s (from_be_bytes-to_be_bytes_4 s.id.0 is.id) (from_be_bytes-to_be_bytes_4 s.acct.0 is.acct) (take_at s.key s.master 32 is.key) (drop_at s.key s.master 32 is.key)

-- the parts of a head, one behind the other, with zeros in it
parts : (head a b zeros c d : List ℕ) → a ≡ take 4 head → b ≡ take 4 (drop 4 head) → c ≡ take 32 (drop 16 head) → d ≡ drop 48 head → a ++ b ++ zeros ++ c ++ d ≡ take 8 head ++ zeros ++ drop 16 head
parts head a b zeros c d p q r s =
    rw (p, q, r, s) (
    ap (λ (xs : List ℕ). xs ++ zeros ++ take 32 (drop 16 head) ++ drop 48 head) (sym (take-add 4 4 head))
    ∙ append_assoc (take 8 head ++ zeros) (take 32 (drop 16 head)) (drop 48 head)
    ∙ ap (λ (xs : List ℕ). take 8 head ++ zeros ++ (take 32 (drop 16 head) ++ xs)) (sym (drop-drop 32 16 head))
    ∙ ap (λ (xs : List ℕ). take 8 head ++ zeros ++ xs) (take-append-drop 32 (drop 16 head)))

pub head_spells_back : HeadSpellsBack
unfolding head_bytes stall_of
head_spells_back head are whole =
    let id : List ℕ = take 4 head in
    let acct : List ℕ = take 4 (drop 4 head) in
    let id_long : length id ≡ 4 = length-take-le 4 head (omega (arith, whole)) in
    let acct_long : length acct ≡ 4 = length-take-le 4 (drop 4 head) (omega (arith, whole, length-drop 4 head)) in
    let key_long : length (take 32 (drop 16 head)) ≡ 32 = length-take-le 32 (drop 16 head) (omega (arith, whole, length-drop 16 head)) in
    let id_are : AreBytes id = AreBytes-take 4 head are in
    let acct_are : AreBytes acct = AreBytes-take 4 (drop 4 head) (AreBytes-drop 4 head are) in (
      record { id = below4 id id_are; acct = below4 acct acct_are; key = key_long; master = omega (arith, whole, length-drop 48 head) },
      parts head _ _ (replicate 8 0) _ _ (be_bytes_4 id _ id_long id_are refl) (be_bytes_4 acct _ acct_long acct_are refl) refl refl,
    )
  where
    below4 : (bytes : List ℕ) → AreBytes bytes → from_be_bytes w32 bytes < 2 ^ 32
    below4 bytes are = omega (arith, are 0, are 1, are 2, are 3)
