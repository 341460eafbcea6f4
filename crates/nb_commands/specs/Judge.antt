-- What ruling on a case comes to.
use Rattle.std.specs.Prelude.{◌≡◌, ℕ, ◌≤◌, List, ◌++◌, codes, length, Option, Some, Ok, Err}
use Rattle.std.specs.Fmt.{decimal}
use Rattle.std.specs.Io.KnownBytes.{Appends}
use Rattle.nb_port.specs.Faults.{Rose}
use Rattle.nb_batch.specs.Send.{SentPart}
use Rattle.nb_judge.specs.declared.case.Case.{Case}
use Rattle.nb_judge.specs.declared.case_bytes.TheConstants.{MAX_CASE}
use Rattle.nb_judge.specs.declared.ruling.Ruling.{Ruling}
use Rattle.nb_judge.specs.declared.ruling.Ruling.TheVariants.{NoOrder, NoReceipt, OtherOrder, NotPaid, WrongGoods, WrongKey, KeyOpens}
use Rattle.nb_judge.specs.Layout.{case_of}
use Rattle.nb_judge.specs.Ruling.{Rules}
use Rattle.nb_commands.specs.declared.ending.Ending.{Ending}
use Rattle.nb_commands.specs.declared.ending.TheConstants.{CLEAN, SOURCE_FAILED, SINK_FAILED, BAD_INPUT, OUT_OF_MEMORY}
use Rattle.nb_commands.specs.declared.judging.JudgeEnd.{JudgeEnd}
use Rattle.nb_commands.specs.declared.judging.JudgeEnd.TheVariants as ends
use Rattle.nb_commands.specs.Ending.{at_no_place}
use Rattle.nb_commands.specs.Input.{TookAll, TookMore, TookUpTo}

-- the line of a ruling, with a line feed
abbrev pub ruling_line : Ruling → List ℕ
ruling_line (NoOrder tag) = codes "no order\n"
ruling_line (NoReceipt iv) = codes "no receipt\n"
ruling_line (OtherOrder field) = codes "other order " ++ decimal field ++ codes "\n"
ruling_line (NotPaid code) = codes "not paid " ++ decimal code ++ codes "\n"
ruling_line (WrongGoods named given) = codes "wrong goods\n"
ruling_line (WrongKey iv) = codes "wrong key\n"
ruling_line (KeyOpens len) = codes "key opens " ++ decimal len ++ codes "\n"

-- how it ends the program: bytes that are no case are shown at their bad place, and an input that is too long at the limit
abbrev pub judge_ending : JudgeEnd → Ending
judge_ending ends.Ruled = at_no_place CLEAN
judge_ending ends.ReadFault = at_no_place SOURCE_FAILED
judge_ending ends.TooLong = record { status = BAD_INPUT; place = MAX_CASE }
judge_ending (ends.Malformed place) = record { status = BAD_INPUT; place = place }
judge_ending ends.WriteFault = at_no_place SINK_FAILED
judge_ending ends.NoMemory = at_no_place OUT_OF_MEMORY

-- all of the input was read, and is a case on which this is ruled
pub record IsRuledOn (left left' : Option (List ℕ)) (ruling : Ruling) : Type 0 where
  pub input : List ℕ
  pub all : TookAll left left' MAX_CASE input
  pub case : Case
  pub read : case_of input ≡ Ok case
  pub rules : Rules case ruling

-- by cases on the end, for what was left of the input, the counts of faults of source and sink, and what was sent: the line of the ruling, or a part
-- of it from its front, is all that is sent
abbrev pub JudgesAs : Option (List ℕ) → Option (List ℕ) → ℕ → ℕ → Option (List ℕ) → Option (List ℕ) → ℕ → ℕ → JudgeEnd → Type 0
JudgesAs left left' source source' sent sent' sink sink' ends.Ruled = (ruling : Ruling) × IsRuledOn left left' ruling × Appends sent sent' (ruling_line ruling)
JudgesAs left left' source source' sent sent' sink sink' ends.ReadFault = Rose source source' × TookUpTo left left' MAX_CASE
JudgesAs left left' source source' sent sent' sink sink' ends.TooLong = TookMore left left' MAX_CASE
JudgesAs left left' source source' sent sent' sink sink' (ends.Malformed place) = (input : List ℕ) × TookAll left left' MAX_CASE input × (case_of input ≡ Err place)
JudgesAs left left' source source' sent sent' sink sink' ends.WriteFault = (ruling : Ruling) × IsRuledOn left left' ruling × Rose sink sink' × SentPart sent sent' (ruling_line ruling)
JudgesAs left left' source source' sent sent' sink sink' ends.NoMemory = TookUpTo left left' MAX_CASE

-- ruling on a case came to one of its ends, which says how the run ends
abbrev pub JudgeIs : Option (List ℕ) → Option (List ℕ) → ℕ → ℕ → Option (List ℕ) → Option (List ℕ) → ℕ → ℕ → Ending → Type 0
JudgeIs left left' source source' sent sent' sink sink' ending = (end : JudgeEnd) × (ending ≡ judge_ending end) × JudgesAs left left' source source' sent sent' sink sink' end

-- the input is a case, and nothing else
pub record IsCaseInput (left : Option (List ℕ)) : Type 0 where
  pub input : List ℕ
  pub is : left ≡ Some input
  pub few : length input ≤ MAX_CASE
  pub case : Case
  pub read : case_of input ≡ Ok case

-- ---- for the contracts of private functions alone

-- the line was sent, or a part of it, or there was no memory for it
abbrev pub TellsRuling : Option (List ℕ) → Option (List ℕ) → ℕ → ℕ → Ruling → JudgeEnd → Type 0
TellsRuling sent sent' sink sink' ruling ends.Ruled = Appends sent sent' (ruling_line ruling)
TellsRuling sent sent' sink sink' ruling ends.WriteFault = Rose sink sink' × SentPart sent sent' (ruling_line ruling)
TellsRuling sent sent' sink sink' ruling ends.NoMemory = sent' ≡ sent
TellsRuling sent sent' sink sink' ruling other = ⊥
