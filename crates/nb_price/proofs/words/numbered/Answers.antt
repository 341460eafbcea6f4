use Rattle.std.proofs.Common.{refl, sym, ◌∙◌, ◌≡◌, ◌∷◌, ◌++◌, List, ℕ, Option, None, Some, ◌<◌, ◌^◌}
use Rattle.std.specs.Fmt.{decimal}
use Rattle.nb_price.specs.Fields.{IsFree, IsNoDigit}
use Rattle.nb_price.proofs.Numerals.{free_decimal, short_decimal}
use Rattle.nb_price.proofs.Splitting.{one_word}
use Rattle.nb_price.proofs.words.numbered.Goals as goal

none_some : (n : ℕ) → ◌≡◌ {A = Option ℕ} None (Some n) → ⊥
none_some n e = cc

-- the word before the mark is the number's
the_word : (bytes word rest more : List ℕ) (mark n : ℕ) → n < 2 ^ 32 → IsNoDigit mark → bytes ≡ word ++ mark ∷ rest → IsFree mark word
    → bytes ≡ decimal n ++ mark ∷ more → (word ≡ decimal n) × (rest ≡ more)
the_word bytes word rest more mark n small apart own free e = one_word mark word (decimal n) rest more free (free_decimal n mark small apart) (sym own ∙ e)

pub returns-in_err-word-clause-each : goal.returns-in_err-word-clause-each
returns-in_err-word-clause-each c n rest small e = absurd (c.in_err-word.ensures.none refl (decimal n) rest (short_decimal n small) e)

pub returns-in_err-n-clause-each : goal.returns-in_err-n-clause-each
returns-in_err-n-clause-each c n rest small e =
    let is = the_word c.args.bytes.now c.in_ok-word.word.now c.in_ok-word.rest.now rest c.args.mark n small c.requires c.in_ok-word.ensures.some c.in_ok-word.ensures.free e in
    absurd (none_some n (c.in_err-n.ensures.each n small is.0))

pub returns-clause-each : goal.returns-clause-each
returns-clause-each c n rest small e =
    let is = the_word c.args.bytes.now c.in_ok-word.word.now c.in_ok-word.rest.now rest c.args.mark n small c.requires c.in_ok-word.ensures.some c.in_ok-word.ensures.free e in
    let same : ◌≡◌ {A = Option ℕ} (Some c.in_ok-n.n) (Some n) = c.in_ok-n.ensures.each n small is.0 in
    (some_is c.in_ok-n.n n same, is.1)
  where
    some_is : (m k : ℕ) → ◌≡◌ {A = Option ℕ} (Some m) (Some k) → m ≡ k
    some_is m k e = cc
