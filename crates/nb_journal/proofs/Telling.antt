-- What holds of the content of a disk that tells, carried through its calls.
use Rattle.std.proofs.Common.{◌≡◌, ℕ, List, Option, Some, None, IfSome, subst}
use Rattle.std.specs.Prelude.{⊤}
use Rattle.nb_port.specs.Disk.{Torn, MayTear, put_at, wrote_at}

-- of each content something holds
pub any_content : (told : Option (List ℕ)) → IfSome told (λ image. ⊤)
any_content None = tt
any_content (Some image) = tt

-- the content is this one
pub some_of : (told : Option (List ℕ)) (P : List ℕ → Type 0) (c : List ℕ) → told ≡ Some c → IfSome told P → P c
some_of told P c is some = subst (λ (o : Option (List ℕ)). IfSome o P) is some

-- the content is the same
pub some_same : (old new : Option (List ℕ)) (P : List ℕ → Type 0) → new ≡ old → IfSome new P → IfSome old P
some_same old new P same some = subst (λ (o : Option (List ℕ)). IfSome o P) same some

-- what follows of each image follows of the content
pub some_each : (told : Option (List ℕ)) (P Q : List ℕ → Type 0) → ((image : List ℕ) → P image → Q image) → IfSome told P → IfSome told Q
some_each None P Q step some = tt
some_each (Some image) P Q step some = step image some

-- two facts on the content
pub some_both : (told : Option (List ℕ)) (P Q R : List ℕ → Type 0) → ((image : List ℕ) → P image → Q image → R image) → IfSome told P → IfSome told Q → IfSome told R
some_both None P Q R then p q = tt
some_both (Some image) P Q R then p q = then image p q

-- behind a write that is done
pub some_wrote : (old new : Option (List ℕ)) (place : ℕ) (bytes : List ℕ) (P Q : List ℕ → Type 0) → new ≡ wrote_at old place bytes
    → ((d : List ℕ) → P d → Q (put_at d place bytes)) → IfSome old P → IfSome new Q
some_wrote None None place bytes P Q is then some = tt
some_wrote None (Some new) place bytes P Q is then some = absurd cc
some_wrote (Some old) None place bytes P Q is then some = tt
some_wrote (Some old) (Some new) place bytes P Q is then some =
    let same : put_at old place bytes ≡ new = cc in
    subst Q same (then old some)

-- behind a write that failed
pub some_torn : (old new : Option (List ℕ)) (place n : ℕ) (P Q : List ℕ → Type 0) → MayTear old new place n
    → ((d c : List ℕ) → P d → Torn place n d c → Q c) → IfSome old P → IfSome new Q
some_torn None None place n P Q torn then some = tt
some_torn None (Some new) place n P Q torn then some = absurd torn
some_torn (Some old) None place n P Q torn then some = tt
some_torn (Some old) (Some new) place n P Q torn then some = then old new some torn.0
