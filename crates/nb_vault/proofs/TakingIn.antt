-- An entry that another vault has, taken in: from the steps of its turn.
use Rattle.std.proofs.Common.{◌≡◌, ℕ, ◌<◌, List, [], ◌∷◌, length, Option, None, false, refl, sym, subst, ◌∙◌}
use Rattle.std.specs.Option.{option_to_list}
use Rattle.std.proofs.lemmas.List.{append-nil}
use Rattle.nb_units.specs.declared.charter.Charter.{Charter}
use Rattle.nb_port.specs.Tells.{DiskTells}
use Rattle.nb_entry.specs.declared.entry.Entry.{Entry}
use Rattle.nb_journal.specs.Time.{Unwritten}
use Rattle.nb_turns.specs.declared.limits.TheConstants.{MAX_FAULTS}
use Rattle.nb_turns.specs.Turns.{Decides}
use Rattle.nb_turns.specs.Lines.{next_turn}
use Rattle.nb_vault.specs.declared.parts.Parts.{Parts}
use Rattle.nb_vault.specs.declared.answer.AnswerAll.TheVariants as all
use Rattle.nb_vault.specs.declared.taking.TakeIn.{TakeIn}
use Rattle.nb_vault.specs.declared.taking.TakeIn.TheVariants as takes
use Rattle.nb_vault.specs.Parts.{IsVault, SameOrigin, Readied}
use Rattle.nb_vault.specs.Records.{Gathers, Rests, disk_under, over_of}
use Rattle.nb_vault.specs.Taking.{IsJudged, TakesIn, all_in, entry_taken, house_told, nothing_asked}
use Rattle.nb_vault.specs.Vaults.{Chronicled, DurableWhere, FaultWithin, IsDurable, SameWhere, WentBy}
use Rattle.nb_vault.proofs.Answering.{Steps}

-- ---- by cases on what came of the entry

module _ (charter : Charter) (cap : ℕ) (over : List Entry) (place : ℕ) (e : Entry) where
  pub decided_is : (how : TakeIn) → IsJudged charter cap over place e how → all_in how ≡ all.Answered
  decided_is takes.Taken is = refl
  decided_is takes.Same is = refl
  decided_is takes.Other is = refl
  decided_is takes.Ahead is = refl
  decided_is takes.Illegal is = refl
  decided_is (takes.DiskFault before after) is = absurd is
  decided_is (takes.Worn faults) is = absurd is

  -- an entry is recorded only where it is taken in
  pub taken_is : (how : TakeIn) → (option_to_list (entry_taken e how) ≡ [] → ⊥) → how ≡ takes.Taken
  taken_is takes.Taken some = refl
  taken_is takes.Same some = absurd (some refl)
  taken_is takes.Other some = absurd (some refl)
  taken_is takes.Ahead some = absurd (some refl)
  taken_is takes.Illegal some = absurd (some refl)
  taken_is (takes.DiskFault before after) some = absurd (some refl)
  taken_is (takes.Worn faults) some = absurd (some refl)

-- a turn that decided so is what came of the entry
pub decides_in : {D : Type 0} (tells : DiskTells D) (old new : Chronicled D) (by place : ℕ) (e : Entry) (how : TakeIn) (over : List Entry)
    → WentBy (house_told (entry_taken e how)) tells old new by nothing_asked (Decides over) (length over ∷ []) [] [] → IsJudged old.origin.charter old.origin.cap over place e how
    → (old.stale ≡ false → entry_taken e how ≡ None → tells.faults new.disk ≡ tells.faults old.disk) → TakesIn tells old new by place e how
decides_in tells old new by place e takes.Taken over went judged still = record { over = over; went = went; judged = judged; still = still }
decides_in tells old new by place e takes.Same over went judged still = record { over = over; went = went; judged = judged; still = still }
decides_in tells old new by place e takes.Other over went judged still = record { over = over; went = went; judged = judged; still = still }
decides_in tells old new by place e takes.Ahead over went judged still = record { over = over; went = went; judged = judged; still = still }
decides_in tells old new by place e takes.Illegal over went judged still = record { over = over; went = went; judged = judged; still = still }
decides_in tells old new by place e (takes.DiskFault before after) over went judged still = absurd judged
decides_in tells old new by place e (takes.Worn faults) over went judged still = absurd judged

-- what is said of an answer to requests is said of it
pub where_durable : {D : Type 0} (tells : DiskTells D) (new : Chronicled D) (how : TakeIn) → all_in how ≡ all.Answered → IsDurable tells new → DurableWhere tells new (all_in how)
where_durable tells new how is durable = subst (DurableWhere tells new) (sym is) durable

pub where_same : {D : Type 0} (old new : Chronicled D) (how : TakeIn) → all_in how ≡ all.Answered → SameWhere old new (all_in how)
where_same old new how is = subst (SameWhere old new) (sym is) tt

pub where_fault : {D : Type 0} (tells : DiskTells D) (old new : Chronicled D) (how : TakeIn) → all_in how ≡ all.Answered → FaultWithin tells old new (all_in how)
where_fault tells old new how is = subst (FaultWithin tells old new) (sym is) tt

-- ---- the steps

module _ {D : Type 0} (tells : DiskTells D) (old mid p : Parts D) (by turn : ℕ) (told : Option Entry) where
  pub taking_steps : IsVault tells old → old.faults < MAX_FAULTS → turn ≡ next_turn old.lines.items → Readied old mid by turn → Rests tells mid.records
      → SameOrigin old mid → Unwritten tells (disk_under old.records) (disk_under mid.records) → SameOrigin mid p → p.records.journal ≡ mid.records.journal → over_of p.records ≡ mid.records.book.entries
      → p.records.group.items ≡ option_to_list told → Gathers tells p.records → p.lines.items ≡ mid.lines.items → p.faults ≡ mid.faults → Steps (house_told told) tells old mid p by nothing_asked
  taking_steps vault few turn_is ready rests first nothing second journal over group gathers lines faults = record {
    vault = vault;
    few = few;
    ready = subst (λ (n : ℕ). Readied old mid by n) turn_is ready;
    rests = rests;
    first = first;
    nothing = nothing;
    second = second;
    journal = journal;
    over = over;
    group = group ∙ sym (append-nil (option_to_list told));
    list = (gathers.group.legal.legal, gathers.group.within);
    lines = lines;
    faults = faults;
  }
