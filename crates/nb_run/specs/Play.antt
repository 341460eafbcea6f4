-- What playing a script comes to.
use Rattle.std.specs.Prelude.{◌≡◌, ℕ, ◌≤◌, List, [], length, Option, Some, Ok, Err}
use Rattle.std.specs.Io.KnownBytes.{Appends}
use Rattle.nb_port.specs.Faults.{Rose}
use Rattle.nb_batch.specs.Send.{SentPart}
use Rattle.nb_script.specs.declared.limits.TheConstants.{MAX_SCRIPT}
use Rattle.nb_script.specs.Settings.{Setting}
use Rattle.nb_script.specs.Reads.{ScriptSays, lines_of}
use Rattle.nb_player.specs.Playing.{TellsOf}
use Rattle.nb_commands.specs.declared.ending.Ending.{Ending}
use Rattle.nb_commands.specs.declared.ending.TheConstants.{CLEAN, SOURCE_FAILED, SINK_FAILED, BAD_INPUT, OUT_OF_MEMORY}
use Rattle.nb_run.specs.declared.playing.PlayEnd.{PlayEnd}
use Rattle.nb_run.specs.declared.playing.PlayEnd.TheVariants as ends
use Rattle.nb_commands.specs.Ending.{at_no_place}
use Rattle.nb_commands.specs.Input.{TookAll, TookMore, TookUpTo}

-- how it ends the program: bytes that are no script are shown at their first bad line, and an input that is too long at the limit
abbrev pub play_ending : PlayEnd → Ending
play_ending ends.Played = at_no_place CLEAN
play_ending ends.ReadFault = at_no_place SOURCE_FAILED
play_ending ends.TooLong = record { status = BAD_INPUT; place = MAX_SCRIPT }
play_ending (ends.BadLine line) = record { status = BAD_INPUT; place = line }
play_ending ends.WriteFault = at_no_place SINK_FAILED
play_ending ends.NoMemory = at_no_place OUT_OF_MEMORY

-- all of the input was read, and is a script of which this is the report
pub record IsReportOf (left left' : Option (List ℕ)) (report : List ℕ) : Type 0 where
  pub input : List ℕ
  pub all : TookAll left left' MAX_SCRIPT input
  pub said : Setting
  pub says : ScriptSays (lines_of input) (Ok said)
  pub tells : TellsOf said report

-- by cases on the end, for what was left of the input, the counts of faults of source and sink, and what was sent: the report, or a part of it from its
-- front, is all that is sent
abbrev pub PlaysAs : Option (List ℕ) → Option (List ℕ) → ℕ → ℕ → Option (List ℕ) → Option (List ℕ) → ℕ → ℕ → PlayEnd → Type 0
PlaysAs left left' source source' sent sent' sink sink' ends.Played = (report : List ℕ) × IsReportOf left left' report × Appends sent sent' report
PlaysAs left left' source source' sent sent' sink sink' ends.ReadFault = Rose source source' × TookUpTo left left' MAX_SCRIPT
PlaysAs left left' source source' sent sent' sink sink' ends.TooLong = TookMore left left' MAX_SCRIPT
PlaysAs left left' source source' sent sent' sink sink' (ends.BadLine line) = (input : List ℕ) × TookAll left left' MAX_SCRIPT input × ScriptSays (lines_of input) (Err line)
PlaysAs left left' source source' sent sent' sink sink' ends.WriteFault = (report : List ℕ) × IsReportOf left left' report × Rose sink sink' × SentPart sent sent' report
PlaysAs left left' source source' sent sent' sink sink' ends.NoMemory = TookUpTo left left' MAX_SCRIPT

-- playing a script came to one of its ends, which says how the run ends
abbrev pub PlayIs : Option (List ℕ) → Option (List ℕ) → ℕ → ℕ → Option (List ℕ) → Option (List ℕ) → ℕ → ℕ → Ending → Type 0
PlayIs left left' source source' sent sent' sink sink' ending = (end : PlayEnd) × (ending ≡ play_ending end) × PlaysAs left left' source source' sent sent' sink sink' end

-- the input is a script, and nothing else
pub record IsScriptInput (left : Option (List ℕ)) : Type 0 where
  pub input : List ℕ
  pub is : left ≡ Some input
  pub few : length input ≤ MAX_SCRIPT
  pub said : Setting
  pub says : ScriptSays (lines_of input) (Ok said)
