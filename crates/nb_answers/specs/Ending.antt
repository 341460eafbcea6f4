-- How a batch ends the program.
use Rattle.std.specs.Prelude.{◌≡◌, ◌⊎◌, ℕ}
use Rattle.nb_frame.specs.Faults.{place_of}
use Rattle.nb_batch.specs.declared.batch.BatchEnd.{BatchEnd}
use Rattle.nb_batch.specs.declared.batch.BatchEnd.TheVariants.{Clean, Cut, BadFrame, ReadFault, WriteFault, NoMemory, FrameLimit}
use Rattle.nb_commands.specs.declared.ending.Ending.{Ending}
use Rattle.nb_commands.specs.declared.ending.TheConstants.{CLEAN, SOURCE_FAILED, SINK_FAILED, BAD_INPUT, OUT_OF_MEMORY, DISK_FAILED, NO_JOURNAL, FRAME_LIMIT}
use Rattle.nb_commands.specs.Ending.{at_no_place}

-- a batch that ends so took nothing in: there was no memory, no journal, or the disk failed as the journal was opened
abbrev pub EndsEarly : Ending → Type 0
EndsEarly ending = (ending.status ≡ OUT_OF_MEMORY) ⊎ (ending.status ≡ NO_JOURNAL) ⊎ (ending.status ≡ DISK_FAILED)

-- how a batch ends the program
abbrev pub ended : BatchEnd → Ending
ended Clean = at_no_place CLEAN
ended (Cut bytes) = record { status = BAD_INPUT; place = bytes }
ended (BadFrame fault) = record { status = BAD_INPUT; place = place_of fault }
ended ReadFault = at_no_place SOURCE_FAILED
ended WriteFault = at_no_place SINK_FAILED
ended NoMemory = at_no_place OUT_OF_MEMORY
ended FrameLimit = at_no_place FRAME_LIMIT

-- the status that a batch ends with
abbrev pub status_of : BatchEnd → ℕ
status_of end = (ended end).status
