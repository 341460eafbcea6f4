-- The proofs of the trait Disk's laws, for a disk in memory and for one that does not tell. They stand in specs and call no
-- tactic, since an `impl` may cite no proof of its own crate.
use Rattle.std.specs.Prelude.{◌≡◌, ℕ, zero, suc, ◌+◌, ◌<◌, ◌≤◌, ◌^◌, List, [], ◌∷◌, ◌++◌, Option, Some, None, IfSome, length, take, drop}
use Rattle.std.proofs.Common.{refl, sym, ap, subst, ◌∙◌, zero-le, suc-le-suc}
use Rattle.std.proofs.Math.Nat.{le_refl, zero-add, suc-add}
use Rattle.std.proofs.Math.Seq.{take-length, take_all}
use Rattle.nb_port.specs.Disk.{Torn, put_at}
use Rattle.nb_port.specs.Images.{Told, fresh, step, after, Allowed, Images, LeftFrom}
use Rattle.nb_port.specs.declared.memory.step.DiskStep.{DiskStep}
use Rattle.nb_port.specs.declared.memory.step.DiskStep.TheVariants.{Pause, Wrote, Tore, Synced}

-- ---- the content is an image

-- bytes that stay are torn
pub torn_same : (place n : ℕ) (old : List ℕ) → Torn place n old old
torn_same place n old = record {
  no_shorter = le_refl (length old);
  before = ap (take place) (take-length old);
  after = ap (drop (place + n)) (take-length old);
}

-- a place and n, counted on from the place
abbrev count_on : ℕ → ℕ → ℕ
count_on zero n = n
count_on (suc place) n = suc (count_on place n)

counts_on : (place n : ℕ) → count_on place n ≡ place + n
counts_on zero n = sym (zero-add n)
counts_on (suc place) n = ap suc (counts_on place n) ∙ sym (suc-add place n)

-- torn from a place up to an end
abbrev TornTo : ℕ → ℕ → List ℕ → List ℕ → Type 0
TornTo place end old new =
    (length old ≤ length new)
    × (take place (take (length old) new) ≡ take place old)
    × (drop end (take (length old) new) ≡ drop end old)

-- so are bytes that are put at the front
front_torn : (bytes old : List ℕ) → TornTo zero (length bytes) old (bytes ++ drop (length bytes) old)
front_torn [] old = (le_refl (length old), refl, take-length old)
front_torn (b ∷ bs) [] = (zero-le, refl, refl)
front_torn (b ∷ bs) (x ∷ xs) = let rest = front_torn bs xs in (suc-le-suc rest.0, refl, rest.2)

-- and at a place
torn_put_to : (place : ℕ) (bytes old : List ℕ)
    → TornTo place (count_on place (length bytes)) old (take place old ++ bytes ++ drop (count_on place (length bytes)) old)
torn_put_to zero bytes old = front_torn bytes old
torn_put_to (suc place) bytes [] = (zero-le, refl, refl)
torn_put_to (suc place) bytes (x ∷ xs) =
    let rest = torn_put_to place bytes xs in
    (suc-le-suc rest.0, ap (λ (ys : List ℕ). x ∷ ys) rest.1, rest.2)

-- bytes that are put at a place are torn there
pub torn_put : (place : ℕ) (bytes old : List ℕ) → Torn place (length bytes) old (put_at old place bytes)
unfolding put_at
torn_put place bytes old =
    let is = subst (λ (end : ℕ). TornTo place end old (take place old ++ bytes ++ drop end old)) (counts_on place (length bytes)) (torn_put_to place bytes old) in
    record { no_shorter = is.0; before = is.1; after = is.2 }

-- the content of a disk in memory is one of its images
content_after : (s : Told) (steps : List DiskStep) → Allowed s s.content → Allowed (after s steps) (after s steps).content
content_after s [] is = is
content_after s (Pause ∷ xs) is = content_after s xs is
content_after s (Wrote place bytes ∷ xs) is =
    content_after (step s (Wrote place bytes)) xs (s.content, is, torn_put place bytes s.content)
content_after s (Tore place bytes ∷ xs) is =
    content_after (step s (Tore place bytes)) xs (s.content, is, torn_same place (length bytes) s.content)
content_after s (Synced ∷ xs) is = content_after (step s Synced) xs refl

-- the content of a disk in memory is one of its images
pub content_left : (start : List ℕ) (steps : List DiskStep) → Images start steps (after (fresh start) steps).content
content_left start steps = content_after (fresh start) steps refl

-- so is the content that it tells
pub content_now : (start : List ℕ) (steps : List DiskStep) (c : List ℕ) → Some (after (fresh start) steps).content ≡ Some c
    → Images start steps c
content_now start steps c is =
    subst (λ (told : Option (List ℕ)). IfSome told (Images start steps)) is (content_left start steps)

-- a disk that does not tell has no content
pub untold : (c : List ℕ) → None ≡ Some c → ⊥
untold c is = subst (λ (told : Option (List ℕ)). IfSome told (λ _. ⊥)) is tt

-- so its content is as short as one likes
pub untold_fits : (c : List ℕ) → None ≡ Some c → length c < 2 ^ 63
untold_fits c is = subst (λ (told : Option (List ℕ)). IfSome told (λ _. length c < 2 ^ 63)) is tt

-- ---- what is left

-- what a stop may leave now is among what is left since a moment up to now
pub now_counts : (start : List ℕ) (steps : List DiskStep) (t : ℕ) (c : List ℕ) → t ≤ length steps → Images start steps c
    → LeftFrom start steps t c
now_counts start steps t c within is =
    let whole = subst (λ (xs : List DiskStep). Images start xs c) (sym (take-length steps)) is in
    (length steps, within, le_refl (length steps), whole)

-- and since now there is no more
pub now_only : (start : List ℕ) (steps : List DiskStep) (c : List ℕ) → LeftFrom start steps (length steps) c
    → Images start steps c
now_only start steps c left = subst (λ (xs : List DiskStep). Images start xs c) (take_all left.0 steps left.1) left.3

-- ---- bytes that are lent

-- they are what a stop leaves
pub lent_counts : (bytes c : List ℕ) → Some bytes ≡ Some c → bytes ≡ c
lent_counts bytes c is = subst (λ (told : Option (List ℕ)). IfSome told (λ found. bytes ≡ found)) is refl
