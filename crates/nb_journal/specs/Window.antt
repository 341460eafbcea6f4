-- For the contracts of private functions alone: what is held of a content.
use Rattle.std.specs.Prelude.{◌≡◌, ◌⊎◌, ℕ, ◌+◌, ◌-◌, ◌≤◌, ◌<◌, List, length, take, drop, Option, IfSome}
use Rattle.nb_port.specs.Faults.{Rose}
use Rattle.nb_journal.specs.Held.{Held}
use Rattle.nb_journal.specs.declared.opening.window.Reached.{Reached}
use Rattle.nb_journal.specs.declared.opening.window.Reached.TheVariants.{There, Failed}

-- what is held stands there in the content: fewer bytes than were asked for only where it ends
abbrev pub Sees : Option (List ℕ) → Held → Type 0
Sees content held = IfSome content (λ image. held.bytes ≡ take held.asked (drop held.place image))

-- so many bytes from a place on are held, or all that the content has there
abbrev pub Reaches : Held → ℕ → ℕ → Type 0
Reaches held place need = (held.place ≤ place) × ((place + need ≤ held.place + length held.bytes) ⊎ (length held.bytes < held.asked))

-- the bytes from a place on that are held, at most so many
abbrev pub part_of : Held → ℕ → ℕ → List ℕ
part_of held place most = take most (drop (place - held.place) held.bytes)

-- what reaching for bytes gives: the counts of faults before and after, what is held then
abbrev pub ReachGives : ℕ → ℕ → Held → ℕ → ℕ → Reached → Type 0
ReachGives before after held place need There = Reaches held place need
ReachGives before after held place need Failed = Rose before after
