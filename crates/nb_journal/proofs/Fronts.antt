-- The front of an image, from its first bytes on.
use Rattle.std.proofs.Common.{◌≡◌, ◌≢◌, inl, inr, ℕ, ◌^◌, ◌<◌, arith, List, [], ◌∷◌, ◌++◌, take, drop, Option, Some, None, IfSome, sym, ap, subst, ◌∙◌}
use Rattle.std.specs.Prelude.{replicate}
use Rattle.std.specs.Int.{w16, from_be_bytes}
use Rattle.std.proofs.lemmas.List.{drop_at}
use Rattle.std.proofs.lemmas.Nat.{from_be_bytes-to_be_bytes_2}
use Rattle.nb_units.specs.Charter.{AreVersionAndRate}
use Rattle.nb_units.specs.Fields.{be2, be4}
use Rattle.nb_units.specs.declared.charter.Charter.{Charter}
use Rattle.nb_journal.specs.Layout.{magic, IsMagic, terms, front_bytes, AreTerms}
use Rattle.nb_journal.specs.Scanning.{NoTerms, FrontFrom, FrontGives}
use Rattle.nb_journal.specs.declared.opening.front.FrontRead.{FrontRead}
use Rattle.nb_journal.specs.declared.opening.front.FrontRead.TheVariants as fronts

-- a rate that a journal may have fits two bytes
pub rate_fits : (version rate : ℕ) → AreVersionAndRate version rate → rate < 2 ^ 16
rate_fits version rate (inl first) = omega (arith, first.1)
rate_fits version rate (inr second) = omega (arith, second.1)

-- the version of a journal has a magic
pub magic_known : (version rate : ℕ) → AreVersionAndRate version rate → IsMagic (magic version)
magic_known version rate (inl first) = inl (ap magic first.0)
magic_known version rate (inr second) = inr (ap magic second.0)

-- the first version has no rate
no_fee : (version rate : ℕ) → AreVersionAndRate version rate → version ≡ 1 → rate ≡ 0
no_fee version rate (inl first) is = first.1
no_fee version rate (inr second) is = absurd (omega (arith, second.0, is))

-- a front of the first version
pub first_layout : (cap : ℕ) (charter : Charter) → AreTerms cap charter → charter.version ≡ 1 → front_bytes cap charter ≡ magic 1 ++ (be4 cap ++ (charter.head ++ replicate 4 0))
first_layout cap charter are is =
    ap (λ (v : ℕ). magic v ++ terms cap charter) is
    ∙ ap (λ (r : ℕ). magic 1 ++ (be4 cap ++ (charter.head ++ (be2 r ++ 0 ∷ 0 ∷ [])))) (no_fee charter.version charter.rate are.ruled is)

-- and of the second
pub fee_layout : (cap : ℕ) (charter : Charter) → charter.version ≡ 2 → front_bytes cap charter ≡ magic 2 ++ (be4 cap ++ (charter.head ++ (be2 charter.rate ++ replicate 2 0)))
fee_layout cap charter is = ap (λ (v : ℕ). magic v ++ terms cap charter) is

-- what stands behind a magic, a cap and a head
abbrev behind_head : List ℕ → List ℕ
behind_head bytes = drop 80 (drop 4 bytes)

-- a rate that is none of the version
pub no_rate : (version rate : ℕ) (bytes thousandths : List ℕ) → (AreVersionAndRate version rate → ⊥) → be2 rate ≡ thousandths → thousandths ≡ take 2 (behind_head bytes) → rate < 2 ^ 16 → NoTerms version bytes
no_rate version rate bytes thousandths none spelled front fits = λ cap charter are same is.
    let word : be2 rate ≡ be2 charter.rate =
    spelled ∙ front ∙ ap (λ (xs : List ℕ). take 2 (behind_head xs)) is ∙ ap (take 2) (drop_at charter.head (be2 charter.rate ++ 0 ∷ 0 ∷ []) 80 are.whole) in
    let one : rate ≡ charter.rate = sym (from_be_bytes-to_be_bytes_2 rate fits) ∙ ap (from_be_bytes w16) word ∙ from_be_bytes-to_be_bytes_2 charter.rate (rate_fits charter.version charter.rate are.ruled) in
    none (subst (λ (v : ℕ). AreVersionAndRate v rate) same (subst (λ (r : ℕ). AreVersionAndRate charter.version r) (sym one) are.ruled))

-- zeros that are not zeros
pub no_zeros : (version : ℕ) (bytes zeros : List ℕ) → zeros ≡ drop 2 (behind_head bytes) → zeros ≢ replicate 2 0 → NoTerms version bytes
no_zeros version bytes zeros back other = λ cap charter are same is.
    other (back ∙ ap (λ (xs : List ℕ). drop 2 (behind_head xs)) is ∙ ap (drop 2) (drop_at charter.head (be2 charter.rate ++ 0 ∷ 0 ∷ []) 80 are.whole))

-- what the first bytes say is so of the content
pub front_gives : (before after : ℕ) (told : Option (List ℕ)) (bytes : List ℕ) (front : FrontRead) → FrontFrom bytes front → IfSome told (λ image. bytes ≡ take 96 image) → FrontGives before after told front
front_gives before after None bytes (fronts.Is t) says reads = (says.0, tt)
front_gives before after None bytes (fronts.Unborn found) says reads = (says.0, tt)
front_gives before after None bytes fronts.Missing says reads = tt
front_gives before after None bytes fronts.Failed says reads = absurd says
front_gives before after (Some image) bytes (fronts.Is t) says reads = (says.0, sym reads ∙ says.1)
front_gives before after (Some image) bytes (fronts.Unborn found) says reads = (says.0, says.1 image reads)
front_gives before after (Some image) bytes fronts.Missing says reads = says image reads
front_gives before after (Some image) bytes fronts.Failed says reads = absurd says
