-- A wallet and its head, there and back.
use Rattle.std.proofs.Common.{◌≡◌, ◌<◌, ◌^◌, ℕ, List, ◌++◌, length, take, drop, replicate, refl, sym, ap, ◌∙◌, arith, length-drop}
use Rattle.std.specs.Int.{w32, w64, from_be_bytes}
use Rattle.std.proofs.lemmas.List.{length-take-le, take_at}
use Rattle.std.proofs.lemmas.Nat.{from_be_bytes-to_be_bytes_4, from_be_bytes-to_be_bytes_8, be_bytes_4, be_bytes_8}
use Rattle.std.proofs.Math.Seq.{take-add}
use Rattle.nb_units.specs.Frames.{AreBytes}
use Rattle.nb_units.proofs.ByteLists.{AreBytes-drop, AreBytes-take}
use Rattle.nb_wallet.specs.declared.wallet.Wallet.{Wallet}
use Rattle.nb_wallet.specs.Head.{head_bytes, wallet_of, HeadReadsBack, HeadSpellsBack}

same_wallet : (i a n : ℕ) (k : List ℕ) (w : Wallet) → i ≡ w.id.0 → a ≡ w.acct.0 → n ≡ w.nonce → k ≡ w.key → (let made : Wallet = record { id = record { 0 = i }; acct = record { 0 = a }; nonce = n; key = k } in made ≡ w)
same_wallet i a n k w p q r s = rw (p, q, r, s) refl

pub head_reads_back : HeadReadsBack
unfolding head_bytes wallet_of
head_reads_back w is =
    same_wallet _ _ _ _ w (from_be_bytes-to_be_bytes_4 w.id.0 is.id) (from_be_bytes-to_be_bytes_4 w.acct.0 is.acct) (from_be_bytes-to_be_bytes_8 w.nonce is.nonce) (take_at w.key (replicate 32 0) 32 is.key)

-- four parts of a head, one behind the other, are its front
parts : (head a b c d : List ℕ) → a ≡ take 4 head → b ≡ take 4 (drop 4 head) → c ≡ take 8 (drop 8 head) → d ≡ take 32 (drop 16 head) → a ++ b ++ c ++ d ≡ take 48 head
parts head a b c d p q r s =
    rw (p, q, r, s) (
    ap (λ (xs : List ℕ). xs ++ take 8 (drop 8 head) ++ take 32 (drop 16 head)) (sym (take-add 4 4 head))
    ∙ ap (λ (xs : List ℕ). xs ++ take 32 (drop 16 head)) (sym (take-add 8 8 head))
    ∙ sym (take-add 16 32 head))

pub head_spells_back : HeadSpellsBack
unfolding head_bytes wallet_of
head_spells_back head are whole =
    let id : List ℕ = take 4 head in
    let acct : List ℕ = take 4 (drop 4 head) in
    let nonce : List ℕ = take 8 (drop 8 head) in
    let id_long : length id ≡ 4 = length-take-le 4 head (omega (arith, whole)) in
    let acct_long : length acct ≡ 4 = length-take-le 4 (drop 4 head) (omega (arith, whole, length-drop 4 head)) in
    let nonce_long : length nonce ≡ 8 = length-take-le 8 (drop 8 head) (omega (arith, whole, length-drop 8 head)) in
    let key_long : length (take 32 (drop 16 head)) ≡ 32 = length-take-le 32 (drop 16 head) (omega (arith, whole, length-drop 16 head)) in
    let id_are : AreBytes id = AreBytes-take 4 head are in
    let acct_are : AreBytes acct = AreBytes-take 4 (drop 4 head) (AreBytes-drop 4 head are) in
    let nonce_are : AreBytes nonce = AreBytes-take 8 (drop 8 head) (AreBytes-drop 8 head are) in (
      record { id = below4 id id_are; acct = below4 acct acct_are; nonce = below8 nonce nonce_are; key = key_long },
      ap (λ (xs : List ℕ). xs ++ replicate 32 0) (parts head _ _ _ _ (be_bytes_4 id _ id_long id_are refl) (be_bytes_4 acct _ acct_long acct_are refl) (be_bytes_8 nonce _ nonce_long nonce_are refl) refl),
    )
  where
    below4 : (bytes : List ℕ) → AreBytes bytes → from_be_bytes w32 bytes < 2 ^ 32
    below4 bytes are = omega (arith, are 0, are 1, are 2, are 3)

    below8 : (bytes : List ℕ) → AreBytes bytes → from_be_bytes w64 bytes < 2 ^ 64
    below8 bytes are = omega (arith, are 0, are 1, are 2, are 3, are 4, are 5, are 6, are 7)
