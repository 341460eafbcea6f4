-- What a port is seen as, and what its calls give. The links that a port does not tell are None.
use Rattle.std.specs.Prelude.{◌≡◌, ℕ, ◌≤◌, ◌<◌, ◌+◌, ◌==◌, Bool, false, List, [], ◌∷◌, ◌++◌, Option, Some, None, if◌then◌else◌}
use Rattle.nb_port.specs.Faults.{Rose}
use Rattle.nb_link.specs.Link.{LinkSeen}
use Rattle.nb_link.specs.declared.port.PortOut.{PortOut}
use Rattle.nb_link.specs.declared.port.PortOut.TheVariants as outs

-- how many links it may still give, how many were given and not taken back, its count of failures, the links to come, those
-- that were taken back, and whether it listens: where it does not, who comes is refused
pub record PortSeen : Type 0 where
  pub left : ℕ
  pub out : ℕ
  pub faults : ℕ
  pub coming : Option (List LinkSeen)
  pub taken : Option (List LinkSeen)
  pub listening : Option Bool

-- the links to come, before this one was given
abbrev pub with_first : LinkSeen → Option (List LinkSeen) → Option (List LinkSeen)
with_first link None = None
with_first link (Some links) = Some (link ∷ links)

-- the links taken back, with this one
abbrev pub with_last : LinkSeen → Option (List LinkSeen) → Option (List LinkSeen)
with_last link None = None
with_last link (Some links) = Some (links ++ link ∷ [])

-- whether a port listens that may give so many links more, where it tells: behind its last link it does not
abbrev pub listening_with : ℕ → Option Bool → Option Bool
listening_with left None = None
listening_with left (Some listens) = Some (if left == 0 then false else listens)

-- a link was given: the first of those to come
pub record GivesLink (old new : PortSeen) (link : LinkSeen) : Type 0 where
  pub left : old.left ≡ new.left + 1
  pub out : new.out ≡ old.out + 1
  pub count : old.faults ≤ new.faults
  pub coming : old.coming ≡ with_first link new.coming
  pub taken : new.taken ≡ old.taken
  pub listening : new.listening ≡ listening_with new.left old.listening

-- none was given, with links to come, and the count rose
pub record FailsToGive (old new : PortSeen) : Type 0 where
  pub left : 0 < old.left
  pub rose : Rose old.faults new.faults
  pub count : old.faults ≤ new.faults
  pub same : new ≡ record old { faults = new.faults }

-- what `next` gives: it is Closed exactly where no link is left
abbrev pub NextGives : {L : Type 0} → (L → LinkSeen) → PortSeen → PortSeen → PortOut L → Type 0
NextGives seen old new (outs.Got link) = GivesLink old new (seen link)
NextGives seen old new outs.Closed = (old.left ≡ 0) × (new ≡ old)
NextGives seen old new outs.Failed = FailsToGive old new

-- a link was taken back
pub record TakesBack (old new : PortSeen) (link : LinkSeen) : Type 0 where
  pub out : old.out ≡ new.out + 1
  pub taken : new.taken ≡ with_last link old.taken
  pub same : new ≡ record old { out = new.out; taken = new.taken }
