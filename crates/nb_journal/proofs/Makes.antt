-- A journal without items: all of it but the magic is put, and then the magic.
use Rattle.std.proofs.Common.{◌≡◌, refl, ℕ, ◌+◌, List, [], ◌∷◌, ◌++◌, length, drop, Option, Some, None, IfSome, sym, ap, ◌∙◌}
use Rattle.std.specs.Prelude.{replicate, ⊤}
use Rattle.std.proofs.lemmas.List.{append_assoc, append-nil}
use Rattle.nb_port.specs.Disk.{put_at, wrote_at}
use Rattle.nb_journal.specs.Layout.{magic, terms, front_bytes}
use Rattle.nb_units.specs.declared.charter.Charter.{Charter}
use Rattle.nb_journal.specs.Stands.{Stands}
use Rattle.nb_journal.proofs.Telling.{any_content, some_wrote}

-- all but the magic
abbrev unborn_bytes : ℕ → Charter → List ℕ
unborn_bytes cap charter = replicate 8 0 ++ (terms cap charter ++ 0 ∷ [])

-- they stand at the front, with a gate that is closed
record HasTerms (cap : ℕ) (charter : Charter) (image : List ℕ) : Type 0 where
  pub rest : List ℕ
  pub bytes : image ≡ replicate 8 0 ++ (terms cap charter ++ 0 ∷ rest)

-- as the first write leaves them
terms_put : (cap : ℕ) (charter : Charter) (old : List ℕ) → HasTerms cap charter (put_at old 0 (unborn_bytes cap charter))
unfolding put_at
terms_put cap charter old = record {
  rest = drop (0 + length (unborn_bytes cap charter)) old;
  bytes =
      append_assoc (replicate 8 0) (terms cap charter ++ 0 ∷ []) (drop (0 + length (unborn_bytes cap charter)) old)
      ∙ ap (λ (xs : List ℕ). replicate 8 0 ++ xs) (append_assoc (terms cap charter) (0 ∷ []) (drop (0 + length (unborn_bytes cap charter)) old));
}

-- with the magic over the zeros it is a journal without items
magic_put : (cap : ℕ) (charter : Charter) (image : List ℕ) → HasTerms cap charter image → Stands (front_bytes cap charter) [] (put_at image 0 (magic charter.version))
unfolding put_at
magic_put cap charter image has = record {
  gate = 0;
  rest = has.rest;
  shut = λ e. cc;
  bytes =
      ap (λ (xs : List ℕ). magic charter.version ++ xs) (ap (drop 8) has.bytes)
      ∙ sym (append_assoc (magic charter.version) (terms cap charter) (0 ∷ has.rest))
      ∙ ap (λ (xs : List ℕ). xs ++ 0 ∷ has.rest) (sym (append-nil (front_bytes cap charter)));
}

-- the magic over the zeros: one write of both
both_put : (old : List ℕ) (cap : ℕ) (charter : Charter) → put_at (put_at old 0 (unborn_bytes cap charter)) 0 (magic charter.version) ≡ put_at old 0 (front_bytes cap charter ++ 0 ∷ [])
unfolding put_at
both_put old cap charter = refl

-- the same where the disk tells
both_at : (told : Option (List ℕ)) (cap : ℕ) (charter : Charter) → wrote_at (wrote_at told 0 (unborn_bytes cap charter)) 0 (magic charter.version) ≡ wrote_at told 0 (front_bytes cap charter ++ 0 ∷ [])
both_at None cap charter = refl
both_at (Some old) cap charter = ap Some (both_put old cap charter)

-- both writes, one behind the other
pub made : (old mid new : Option (List ℕ)) (cap : ℕ) (charter : Charter) → mid ≡ wrote_at old 0 (unborn_bytes cap charter) → new ≡ wrote_at mid 0 (magic charter.version) → IfSome new (Stands (front_bytes cap charter) [])
made old mid new cap charter first second =
    some_wrote mid new 0 (magic charter.version) (HasTerms cap charter) (Stands (front_bytes cap charter) []) second (magic_put cap charter)
    (some_wrote old mid 0 (unborn_bytes cap charter) (λ image. ⊤) (HasTerms cap charter) first (λ image any. terms_put cap charter image) (any_content old))

-- and as one write of both
pub made_bytes : (old mid new : Option (List ℕ)) (cap : ℕ) (charter : Charter) → mid ≡ wrote_at old 0 (unborn_bytes cap charter) → new ≡ wrote_at mid 0 (magic charter.version) → new ≡ wrote_at old 0 (front_bytes cap charter ++ 0 ∷ [])
made_bytes old mid new cap charter first second = second ∙ ap (λ (told : Option (List ℕ)). wrote_at told 0 (magic charter.version)) first ∙ both_at old cap charter
