-- What sending a piece gives.
use Rattle.std.specs.Prelude.{ℕ, ◌<◌, List, Option, length, take}
use Rattle.std.specs.Io.KnownBytes.{Appends}
use Rattle.nb_port.specs.Faults.{Rose}
use Rattle.nb_batch.specs.declared.send.Sent.{Sent}
use Rattle.nb_batch.specs.declared.send.Sent.TheVariants.{All, Failed}

-- a part of the piece was sent, from its front, and not all of it
pub record SentPart (sent sent' : Option (List ℕ)) (piece : List ℕ) : Type 0 where
  pub count : ℕ
  pub less : count < length piece
  pub appends : Appends sent sent' (take count piece)

-- the counts of faults before and after, what was sent before and after
abbrev pub SentIs : ℕ → ℕ → Option (List ℕ) → Option (List ℕ) → List ℕ → Sent → Type 0
SentIs before after sent sent' piece All = Appends sent sent' piece
SentIs before after sent sent' piece Failed = Rose before after × SentPart sent sent' piece
