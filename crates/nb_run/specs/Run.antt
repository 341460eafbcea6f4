-- What a run of the program comes to: command by command what is left to do, or how the run ends and why, and what stands after it.
use Rattle.std.specs.Prelude.{◌≡◌, ℕ, ◌⊎◌, List, [], Option, Some, None}
use Rattle.nb_port.specs.Tells.{DiskTells}
use Rattle.nb_port.specs.Faults.{Rose}
use Rattle.nb_units.specs.declared.ids.PartyId.{PartyId}
use Rattle.nb_units.specs.declared.ids.Price.{Price}
use Rattle.nb_price.specs.Products.{Product}
use Rattle.nb_groups.specs.Offers.{Tariff}
use Rattle.nb_journal.specs.Making.{IsCap, SparesJournal}
use Rattle.nb_journal.specs.Time.{Unwritten}
use Rattle.nb_batch.specs.declared.answering.Answerer.{Answerer}
use Rattle.nb_batch.specs.declared.answering.Answerer.TheVariants as answers
use Rattle.nb_batch.specs.Batch.{Outside}
use Rattle.nb_words.specs.declared.words.Command.{Command}
use Rattle.nb_words.specs.declared.words.Command.TheVariants.{Init, Batch, Drill, Serve, Migrate, Statement, Judge, Buy, BuyWith, Sell, SellOffers, Credential, Play, Ship, Follow, Promote}
use Rattle.nb_words.specs.Words.{Are, IsCommand, MayBeRead}
use Rattle.nb_commands.specs.declared.ending.Ending.{Ending}
use Rattle.nb_commands.specs.declared.ending.Job.{Job}
use Rattle.nb_commands.specs.declared.ending.Job.TheVariants as jobs
use Rattle.nb_commands.specs.declared.ending.Outcome.{Outcome}
use Rattle.nb_commands.specs.declared.ending.Outcome.TheVariants.{Done, Work}
use Rattle.nb_commands.specs.declared.ending.TheConstants.{CLEAN, BAD_WORDS, SOURCE_FAILED, SINK_FAILED, BAD_INPUT, OUT_OF_MEMORY, DISK_FAILED, NO_JOURNAL, NOT_MADE, FRAME_LIMIT, NO_ACCOUNT, NO_PLACE}
use Rattle.nb_commands.specs.declared.init.InitEnd.{InitEnd}
use Rattle.nb_commands.specs.Asking.{AsksAs, IsRequestInput}
use Rattle.nb_commands.specs.Ending.{Ends, EndsWith, at_no_place}
use Rattle.nb_commands.specs.Granting.{GrantIs, IsKeyInput, credential_for}
use Rattle.nb_commands.specs.Init.{HasNoJournal, IsHeadInput, MakesAs, ending_of}
use Rattle.nb_commands.specs.Judge.{IsCaseInput, JudgeIs}
use Rattle.nb_commands.specs.Migrate.{IsFirstInput, MigrateIs}
use Rattle.nb_commands.specs.Offering.{IsWaresInput, OffersAs}
use Rattle.nb_commands.specs.Opening.{IsJournal}
use Rattle.nb_commands.specs.Promote.{PromoteIs}
use Rattle.nb_commands.specs.Selling.{IsShelfInput, StocksAs}
use Rattle.nb_commands.specs.Ship.{ShipIs}
use Rattle.nb_commands.specs.Statement.{StatementIs}
use Rattle.nb_answers.specs.Batch.{BatchIs, IsWholeInput}
use Rattle.nb_answers.specs.Drill.{DrillIs}
use Rattle.nb_answers.specs.Ending.{EndsEarly}
use Rattle.nb_run.specs.Play.{IsScriptInput, PlayIs}

-- the statuses that a run ends with, but for 2
abbrev pub IsStatus : ℕ → Type 0
IsStatus n =
    (n ≡ CLEAN) ⊎ (n ≡ SOURCE_FAILED) ⊎ (n ≡ SINK_FAILED) ⊎ (n ≡ BAD_INPUT) ⊎ (n ≡ OUT_OF_MEMORY) ⊎ (n ≡ DISK_FAILED) ⊎ (n ≡ NO_JOURNAL) ⊎ (n ≡ NOT_MADE) ⊎ (n ≡ FRAME_LIMIT) ⊎ (n ≡ NO_ACCOUNT) ⊎ (n ≡ NO_PLACE)

-- What a run has before it, or after it: input, output, disk and clock, and beside them what input, output and clock tell.
pub record Around (S K D C : Type 0) : Type 0 where
  -- the input, what is left of it, and how often it failed
  pub source : S
  pub left : Option (List ℕ)
  pub source_faults : ℕ
  -- the output, what was sent, and how often it failed
  pub sink : K
  pub sent : Option (List ℕ)
  pub sink_faults : ℕ
  -- the journal's disk, of which `tells` speaks where it is given
  pub disk : D
  -- the clock, and the moments that it gave
  pub clock : C
  pub moments : Option (List ℕ)

-- these objects now, by what they tell of themselves
abbrev pub around : {S K D C : Type 0} → (S → Option (List ℕ)) → (S → ℕ) → (K → Option (List ℕ)) → (K → ℕ) → (C → Option (List ℕ)) → S → K → D → C → Around S K D C
around left source_faults sent sink_faults moments source sink disk clock = record {
  source = source;
  left = left source;
  source_faults = source_faults source;
  sink = sink;
  sent = sent sink;
  sink_faults = sink_faults sink;
  disk = disk;
  clock = clock;
  moments = moments clock;
}

-- what of it a batch has
abbrev pub outside : {S K D C : Type 0} → Around S K D C → Outside
outside around = record { left = around.left; sent = around.sent; moments = around.moments }

-- nothing was touched
pub record IsUntouched {S K D C : Type 0} (before after : Around S K D C) : Type 0 where
  pub source : after.source ≡ before.source
  pub sink : after.sink ≡ before.sink
  pub disk : after.disk ≡ before.disk
  pub clock : after.clock ≡ before.clock

-- there was no memory to read the words: nothing was touched
abbrev pub IsUnbegun : {S K D C : Type 0} → Around S K D C → Around S K D C → Outcome → Type 0
IsUnbegun before after outcome = (outcome ≡ Done (at_no_place OUT_OF_MEMORY)) × IsUntouched before after

-- the job is to buy with a request, which is the input
abbrev pub BuysAsked : Option (List ℕ) → PartyId → ℕ → Price → ℕ → Job → Type 0
BuysAsked left merchant product limit transaction job = (request : List ℕ) × (job ≡ jobs.Buy merchant product limit transaction request) × IsRequestInput left request

-- the job is to sell what a shelf has, which is the input
abbrev pub SellsShelf : Option (List ℕ) → ℕ → Job → Type 0
SellsShelf left links job = (products : List Product) × (job ≡ jobs.Sell links products None) × IsShelfInput left products

-- the job is to sell with offers what a shelf has, which are the input
abbrev pub SellsWares : Option (List ℕ) → ℕ → Job → Type 0
SellsWares left links job = (tariff : Tariff) × (products : List Product) × (job ≡ jobs.Sell links products (Some tariff)) × IsWaresInput left tariff products

-- making a journal came to one of its ends, which says how the run ends
abbrev pub InitIs : {D : Type 0} → DiskTells D → Option (List ℕ) → Option (List ℕ) → ℕ → ℕ → D → D → ℕ → Option ℕ → Ending → Type 0
InitIs tells left left' faults faults' old new cap rate ending = (end : InitEnd) × (ending ≡ ending_of end) × MakesAs tells left left' faults faults' old new cap rate end

module _ {S K D C : Type 0} (tells : DiskTells D) (before after : Around S K D C) (outcome : Outcome) where
  -- ---- what failed, and what stays

  -- the count of the input's faults rose
  abbrev pub SourceFailed : Type 0
  SourceFailed = Rose before.source_faults after.source_faults

  -- that of the output did
  abbrev pub SinkFailed : Type 0
  SinkFailed = Rose before.sink_faults after.sink_faults

  -- that of the disk did
  abbrev pub DiskFailed : Type 0
  DiskFailed = Rose (tells.faults before.disk) (tells.faults after.disk)

  -- but after 0 and 4 the output is as before
  abbrev pub KeepsOutput : Type 0
  KeepsOutput = (EndsWith outcome CLEAN → ⊥) → (EndsWith outcome SINK_FAILED → ⊥) → after.sink ≡ before.sink

  -- all was done, or memory was wanting
  abbrev pub DoneOrStarved : Type 0
  DoneOrStarved = EndsWith outcome CLEAN ⊎ EndsWith outcome OUT_OF_MEMORY

  -- ---- each kind of command
  -- `Came` says what it came to, by how the run ends: it was done, or why it was not. Where its input is good, which `IsGood` says, and nothing fails, it
  -- ends as the field `complete` says

  -- A journal is made of the input. It sends nothing and asks for no moment, and nothing is written over a journal that is there; `complete` where there
  -- is none.
  pub record MakesJournal (Came : Ending → Type 0) (IsGood EndsSo : Type 0) : Type 0 where
    pub came : Ends outcome Came
    pub sink : after.sink ≡ before.sink
    pub clock : after.clock ≡ before.clock
    pub spares : SparesJournal tells before.disk after.disk
    pub complete : IsGood → HasNoJournal (tells.content before.disk) → (SourceFailed → ⊥) → (DiskFailed → ⊥) → EndsSo

  -- The journal is read. It takes nothing of the input, asks for no moment and writes nothing to the disk; `complete` where there is a journal.
  pub record ReadsJournal (Came : Ending → Type 0) (EndsSo : Type 0) : Type 0 where
    pub came : Ends outcome Came
    pub source : after.source ≡ before.source
    pub clock : after.clock ≡ before.clock
    pub unwritten : Unwritten tells before.disk after.disk
    pub silent : KeepsOutput
    pub complete : IsJournal (tells.content before.disk) → (SinkFailed → ⊥) → (DiskFailed → ⊥) → EndsSo

  -- The frames of the input are answered. Where the journal was not opened, or memory was wanting, nothing was taken, sent, asked for or written; `complete`
  -- where there is a journal, and the input is whole frames alone, fewer than are answered at most.
  pub record AnswersFrames (by : Answerer) : Type 0 where
    pub came : Ends outcome (BatchIs tells by before.disk after.disk (outside before) (outside after))
    pub source : Ends outcome EndsEarly → after.source ≡ before.source
    pub sink : Ends outcome EndsEarly → after.sink ≡ before.sink
    pub clock : Ends outcome EndsEarly → after.clock ≡ before.clock
    pub unwritten : Ends outcome EndsEarly → Unwritten tells before.disk after.disk
    pub complete : IsJournal (tells.content before.disk) → IsWholeInput before.left → (SourceFailed → ⊥) → (SinkFailed → ⊥) → (DiskFailed → ⊥) → DoneOrStarved

  -- The frames that a seed gives are answered over a journal that is made for them. It takes nothing of the input and asks for no moment, and nothing is
  -- written over a journal that is there; `complete` where there is none.
  pub record Drills (seed orders : ℕ) : Type 0 where
    pub came : Ends outcome (DrillIs tells before.disk after.disk before.sent after.sent seed orders)
    pub source : after.source ≡ before.source
    pub clock : after.clock ≡ before.clock
    pub spares : SparesJournal tells before.disk after.disk
    pub silent : KeepsOutput
    pub complete : HasNoJournal (tells.content before.disk) → (SinkFailed → ⊥) → (DiskFailed → ⊥) → DoneOrStarved

  -- What the input comes to is written. Neither the disk nor the clock is touched.
  pub record WritesOut (Came : Ending → Type 0) (IsGood : Type 0) : Type 0 where
    pub came : Ends outcome Came
    pub disk : after.disk ≡ before.disk
    pub clock : after.clock ≡ before.clock
    pub silent : KeepsOutput
    pub complete : IsGood → (SourceFailed → ⊥) → (SinkFailed → ⊥) → DoneOrStarved

  -- The input is taken for a job, which is left to do, or it is told why it is not. Nothing but the input is touched; `complete` for each job that the
  -- input is good for.
  pub record TakesInput (Came : Outcome → Type 0) (IsGood : Job → Type 0) : Type 0 where
    pub came : Came outcome
    pub sink : after.sink ≡ before.sink
    pub disk : after.disk ≡ before.disk
    pub clock : after.clock ≡ before.clock
    pub complete : (job : Job) → IsGood job → (SourceFailed → ⊥) → (outcome ≡ Work job) ⊎ EndsWith outcome OUT_OF_MEMORY

  -- ---- each command

  -- what this command did
  abbrev pub Does : Command → Type 0
  Does (Init cap rate) =
      MakesJournal (InitIs tells before.left after.left before.source_faults after.source_faults before.disk after.disk cap rate) (IsCap cap × IsHeadInput before.left) (EndsWith outcome CLEAN)
  Does (Migrate rate) = MakesJournal (MigrateIs tells before.left after.left before.source_faults after.source_faults before.disk after.disk rate) (IsFirstInput before.left) DoneOrStarved
  Does (Statement acct) =
      ReadsJournal (StatementIs tells before.disk after.disk before.sent after.sent acct) (EndsWith outcome CLEAN ⊎ EndsWith outcome NO_ACCOUNT ⊎ EndsWith outcome OUT_OF_MEMORY)
  Does (Ship from) = ReadsJournal (ShipIs tells before.disk after.disk before.sent after.sent from) (EndsWith outcome CLEAN ⊎ EndsWith outcome NO_PLACE ⊎ EndsWith outcome OUT_OF_MEMORY)
  Does Promote = ReadsJournal (PromoteIs tells before.disk after.disk before.sent after.sent) DoneOrStarved
  Does Batch = AnswersFrames answers.House
  Does Follow = AnswersFrames answers.Standby
  Does (Drill seed orders) = Drills seed orders
  Does Judge = WritesOut (JudgeIs before.left after.left before.source_faults after.source_faults before.sent after.sent before.sink_faults after.sink_faults) (IsCaseInput before.left)
  Does Play = WritesOut (PlayIs before.left after.left before.source_faults after.source_faults before.sent after.sent before.sink_faults after.sink_faults) (IsScriptInput before.left)
  Does (Credential consumer until groups) =
      WritesOut (GrantIs before.left after.left before.source_faults after.source_faults before.sent after.sent before.sink_faults after.sink_faults (credential_for consumer until groups)) (IsKeyInput before.left)
  Does (Serve workers sessions) = (outcome ≡ Work (jobs.Serve workers sessions)) × IsUntouched before after
  Does (Buy merchant product limit transaction) = (outcome ≡ Work (jobs.Buy merchant product limit transaction [])) × IsUntouched before after
  Does (BuyWith merchant product limit transaction) =
      TakesInput (AsksAs before.left after.left before.source_faults after.source_faults merchant product limit transaction)
      (BuysAsked before.left merchant product limit transaction)
  Does (Sell links) = TakesInput (StocksAs before.left after.left before.source_faults after.source_faults links) (SellsShelf before.left links)
  Does (SellOffers links) = TakesInput (OffersAs before.left after.left before.source_faults after.source_faults links) (SellsWares before.left links)

  -- ---- a run

  -- The words are a command, and this is what it did. Or they are none, which is told. Or there was no memory to read them, which is told of words that
  -- are names alone and call for no help. In the last two nothing was touched, and no place is shown.
  abbrev pub Ran : List (List ℕ) → Type 0
  Ran words =
      ((command : Command) × Are words command × Does command)
      ⊎ ((IsCommand words → ⊥) × (outcome ≡ Done (at_no_place BAD_WORDS)) × IsUntouched before after)
      ⊎ (MayBeRead words × IsUnbegun before after outcome)

-- ---- for the contracts of private functions alone

-- the command is that of some words: its numbers are within their limits
abbrev pub HasWords : Command → Type 0
HasWords command = (words : List (List ℕ)) × Are words command
