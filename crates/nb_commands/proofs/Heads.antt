-- Reading a head, piece by piece.
use Rattle.std.proofs.Common.{◌≡◌, ℕ, ◌+◌, ◌<◌, inl, inr, List, ◌++◌, length, take, Option, sym, ap, subst, ◌∙◌, arith}
use Rattle.std.specs.Io.KnownBytes.{Consumes, Keeps, IsAtEnd}
use Rattle.std.proofs.KnownBytes.{Consumes-trans, Consumes-kept}
use Rattle.std.proofs.lemmas.List.{length-take-le}
use Rattle.std.proofs.Math.Seq.{take-append-add, take-append_seam}
use Rattle.nb_units.specs.declared.limits.TheConstants.{HEAD}
use Rattle.nb_commands.specs.declared.init.HeadRead.{HeadRead}
use Rattle.nb_commands.specs.declared.init.HeadRead.TheVariants as reads
use Rattle.nb_commands.specs.Init.{TookOther, TookPart, HeadGives, CountedAs}

-- so many bytes more were read behind those that were
pub took_more : (a b c : Option (List ℕ)) (bytes front buf : List ℕ) (at n : ℕ) → Consumes a b (take at bytes) → Consumes b c (take n buf) → front ≡ take at bytes → length front ≡ at → Consumes a c (take (at + n) (front ++ buf))
took_more a b c bytes front buf at n took more is long =
    let joined : take (at + n) (front ++ buf) ≡ take at bytes ++ take n buf =
    ap (λ (m : ℕ). take (m + n) (front ++ buf)) (sym long) ∙ take-append-add front buf n ∙ ap (λ (xs : List ℕ). xs ++ take n buf) is in
    subst (Consumes a c) (sym joined) (Consumes-trans a b c (take at bytes) (take n buf) took more)

-- the input ended behind so many bytes
pub ended : (before after : ℕ) (a b c : Option (List ℕ)) (bytes front buf : List ℕ) (at : ℕ) (r : HeadRead) → Consumes a b (take at bytes) → Keeps b c → IsAtEnd c → at < HEAD + 1 → front ≡ take at bytes → length front ≡ at → CountedAs (front ++ buf) at r
    → HeadGives before after a c r
ended before after a b c bytes front buf at (reads.Whole head) took kept end few is long counted =
    let all : head ≡ take at bytes =
    counted.1 ∙ ap (λ (n : ℕ). take n (front ++ buf)) (sym counted.0 ∙ sym long) ∙ take-append_seam front buf ∙ is in
    record { whole = counted.2; took = Consumes-kept a b c head (subst (Consumes a b) (sym all) took) kept; ended = end }
ended before after a b c bytes front buf at (reads.Other n) took kept end few is long counted = record {
  taken = front;
  counted = counted.1 ∙ sym long;
  took = Consumes-kept a b c front (subst (Consumes a b) (sym is) took) kept;
  other = inl (omega (arith, long, counted.0, few), end);
}
ended before after a b c bytes front buf at reads.Failed took kept end few is long counted = absurd counted

-- the source failed behind so many bytes
pub failed : (a b c : Option (List ℕ)) (bytes : List ℕ) (at : ℕ) → Consumes a b (take at bytes) → Keeps b c → at < HEAD + 1 → length bytes ≡ HEAD + 1 → TookPart a c
failed a b c bytes at took kept few long = record {
  taken = take at bytes;
  short = omega (arith, few, length-take-le at bytes (omega (arith, few, long)));
  took = Consumes-kept a b c (take at bytes) took kept;
}

-- one byte more than a head was read
pub too_long : (a b : Option (List ℕ)) (bytes : List ℕ) (at : ℕ) → Consumes a b (take at bytes) → at ≡ HEAD + 1 → length bytes ≡ HEAD + 1 → TookOther a b at
too_long a b bytes at took all long =
    let count : length (take at bytes) ≡ at = length-take-le at bytes (omega (arith, all, long)) in
    record { taken = take at bytes; counted = sym count; took = took; other = inr (count ∙ all) }
