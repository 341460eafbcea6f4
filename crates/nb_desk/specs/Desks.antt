-- Which passes are of which desk, and what a vault is to a pass.
use Rattle.nb_turn.specs.Passes.{Belongs, IsSame}
use Rattle.nb_turn.specs.declared.chronicle.Chronicle.{Ghosts}
use Rattle.nb_turn.specs.declared.types.Pass.{Pass}
use Rattle.nb_turn.specs.declared.chronicle.View.{View}
use Rattle.nb_turn.specs.Told.{Meets}
use Rattle.nb_turns.specs.declared.line.Line.{Line}
use Rattle.nb_turns.specs.Lines.{maker_of}
use Rattle.nb_vault.specs.declared.origin.Origin.{Origin}
use Rattle.nb_vault.specs.Vaults.{Chronicled}
use Rattle.nb_desk.specs.declared.desk.Desk.{Desk}

-- it is the same desk
abbrev pub IsSameDesk : {D : Type 0} → Desk D → Desk D → Type 0
IsSameDesk c d = IsSame c.turn d.turn

-- the pass is one of this desk
abbrev pub IsAt : {D : Type 0} {d : Ghosts (Chronicled D) Origin Line} → Pass (Chronicled D) Origin Line d → Desk D → Type 0
IsAt p d = Belongs p d.turn

-- a vault at taking, against what the pass knew
abbrev pub MeetsVault : {D : Type 0} → View Origin Line → Chronicled D → Type 0
MeetsVault {D} v vault = Meets (λ (c : Chronicled D). c.origin) (λ (c : Chronicled D). c.lines) maker_of v vault
