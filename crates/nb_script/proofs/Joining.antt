-- Parts and numbers, in other words than those in which they are read.
use Rattle.std.proofs.Common.{◌≡◌, ℕ, ◌≤◌, Bool, true, false, cond, List, [], ◌∷◌, Option, Some, None, refl, sym, ap, subst, ◌∙◌, arith}
use Rattle.std.specs.Prelude.{nat_eq, nat_le, ◌&&◌, if◌then◌else◌}
use Rattle.std.specs.Fmt.{decimal}
use Rattle.std.specs.Str.{bytes_eq}
use Rattle.std.specs.Str.Parse.{digits_value}
use Rattle.std.proofs.lemmas.Bool.{eqb-true, le-leb, leb-true}
use Rattle.std.proofs.lemmas.Slice.Eq.{bytes_eq-Decides}
use Rattle.nb_script.specs.Words.{parts, onto_first, number_in}
use Rattle.nb_script.specs.Laws.{joined, PartsJoin, NumbersAreDecimal}
use Rattle.nb_script.proofs.Numerals.{is_number}
use Rattle.nb_script.proofs.Parting.{SomePart, some_part}

-- a byte before the first part
joined_onto : (mark b : ℕ) (part : List ℕ) (more : List (List ℕ)) → joined mark ((b ∷ part) ∷ more) ≡ b ∷ joined mark (part ∷ more)
joined_onto mark b part [] = refl
joined_onto mark b part (next ∷ more) = refl

pub parts_join : PartsJoin
unfolding parts
parts_join mark [] = refl
parts_join mark (b ∷ bytes) = by (nat_eq b mark) refl (some_part mark bytes) (parts_join mark bytes)
  where
    by : (t : Bool) → nat_eq b mark ≡ t → (p : SomePart mark bytes) → joined mark (parts mark bytes) ≡ bytes → joined mark (parts mark (b ∷ bytes)) ≡ b ∷ bytes
    by true e p inner =
        ap (λ (t : Bool). joined mark (cond t ([] ∷ parts mark bytes) (onto_first b (parts mark bytes)))) e
        ∙ ap (λ (ls : List (List ℕ)). joined mark ([] ∷ ls)) p.is
        ∙ ap (λ (l : List ℕ). mark ∷ l) (sym (ap (joined mark) p.is) ∙ inner)
        ∙ ap (λ (n : ℕ). n ∷ bytes) (sym (eqb-true b mark e))
    by false e p inner =
        ap (λ (t : Bool). joined mark (cond t ([] ∷ parts mark bytes) (onto_first b (parts mark bytes)))) e
        ∙ ap (λ (ls : List (List ℕ)). joined mark (onto_first b ls)) p.is
        ∙ joined_onto mark b p.first p.more
        ∙ ap (λ (l : List ℕ). b ∷ l) (sym (ap (joined mark) p.is) ∙ inner)

-- a number that is told is the word's, within the limits
told : (least most : ℕ) (word : List ℕ) (n : ℕ) → number_in least most word ≡ Some n → (word ≡ decimal n) × (least ≤ n) × (n ≤ most)
told least most word n is = by (bytes_eq word (decimal m)) (nat_le least m) (nat_le m most) refl refl refl is
  where
    m : ℕ
    m = digits_value 10 word

    clash : (k : ℕ) → ◌≡◌ {A = Option ℕ} None (Some k) → (word ≡ decimal n) × (least ≤ n) × (n ≤ most)
    clash k e = absurd cc

    same : (j k : ℕ) → ◌≡◌ {A = Option ℕ} (Some j) (Some k) → j ≡ k
    same j k e = cc

    by : (t low high : Bool) → bytes_eq word (decimal m) ≡ t → nat_le least m ≡ low → nat_le m most ≡ high → (let r : Option ℕ = if (t && low && high) then Some m else None in r) ≡ Some n
        → (word ≡ decimal n) × (least ≤ n) × (n ≤ most)
    by false low high e f g is = clash n is
    by true false high e f g is = clash n is
    by true true false e f g is = clash n is
    by true true true e f g is =
        subst (λ (k : ℕ). (word ≡ decimal k) × (least ≤ k) × (k ≤ most)) (same m n is) ((bytes_eq-Decides word (decimal m)).0 e, leb-true least m f, leb-true m most g)

pub numbers_are_decimal : NumbersAreDecimal
numbers_are_decimal least most word n small = (
  told least most word n,
  λ so. is_number word n least most so.0 (omega (arith, so.2, small)) ∙ rw (le-leb least n so.1, le-leb n most so.2) refl,
)
