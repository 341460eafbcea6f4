-- The line of a keeper and of an offer.
use Rattle.std.proofs.Common.{◌≡◌, ℕ, List, [], ◌∷◌, ◌++◌, take, drop, Result, Ok, Err, sym, ap, ◌∙◌, append_assoc}
use Rattle.std.specs.Prelude.{MatchResult}
use Rattle.std.specs.Fmt.{decimal}
use Rattle.std.proofs.lemmas.List.{take_at}
use Rattle.hex.specs.Hex.{decode_sized}
use Rattle.hex.specs.declared.error.FromHexError.{FromHexError}
use Rattle.nb_groups.specs.declared.found.Offer.{Offer}
use Rattle.nb_groups.specs.declared.limits.TheConstants.{KEEPER}
use Rattle.nb_groups.specs.Offers.{offer_bytes, BeginsWithKeeper}

-- an offer's line, its rest brought inside
pub offer_line : (o : Offer) (rest : List ℕ) → offer_bytes o ++ rest ≡ decimal o.product ++ 59 ∷ (decimal o.group ++ 59 ∷ (decimal o.price ++ 10 ∷ rest))
unfolding offer_bytes
offer_line o rest =
    let last : List ℕ = decimal o.price ++ 10 ∷ [] in
    let behind : List ℕ = decimal o.group ++ 59 ∷ last in
    append_assoc (decimal o.product) (59 ∷ behind) rest
    ∙ ap (λ (l : List ℕ). decimal o.product ++ 59 ∷ l) (
    append_assoc (decimal o.group) (59 ∷ last) rest
    ∙ ap (λ (l : List ℕ). decimal o.group ++ 59 ∷ l) (append_assoc (decimal o.price) (10 ∷ []) rest)
    )

-- where digits were not decoded no keeper's line stands
pub no_keeper : (bytes behind digits keeper rest : List ℕ) (r : Result (Unit {0}) FromHexError) (fault : FromHexError) (out : List ℕ) → behind ≡ drop 7 bytes → digits ≡ take 64 behind
    → MatchResult (decode_sized digits 32) (λ made. (r ≡ Ok tt) × (out ≡ made)) (λ e. r ≡ Err e) → r ≡ Err fault → ¬ BeginsWithKeeper bytes keeper rest
no_keeper bytes behind digits keeper rest r fault out behind_is digits_is decoded failed begins =
    let spelled : bytes ≡ KEEPER ++ (begins.digits ++ 10 ∷ rest) = begins.spelled ∙ append_assoc KEEPER begins.digits (10 ∷ rest) in
    let inside : behind ≡ begins.digits ++ 10 ∷ rest = behind_is ∙ ap (drop 7) spelled in
    let same : digits ≡ begins.digits = digits_is ∙ ap (take 64) inside ∙ take_at begins.digits (10 ∷ rest) 64 begins.long in
    by (decode_sized digits 32) (ap (λ (l : List ℕ). decode_sized l 32) same ∙ begins.key) decoded
  where
    by : (d : Result (List ℕ) FromHexError) → d ≡ Ok keeper → MatchResult d (λ made. (r ≡ Ok tt) × (out ≡ made)) (λ e. r ≡ Err e) → ⊥
    by (Ok made) e is = clash (sym is.0 ∙ failed)
      where
        clash : ◌≡◌ {A = Result (Unit {0}) FromHexError} (Ok tt) (Err fault) → ⊥
        clash e = cc
    by (Err other) e is = clash e
      where
        clash : ◌≡◌ {A = Result (List ℕ) FromHexError} (Err other) (Ok keeper) → ⊥
        clash e = cc
