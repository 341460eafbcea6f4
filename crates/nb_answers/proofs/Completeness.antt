-- An input of whole frames alone ends a batch well, unless something failed or memory was wanting.
use Rattle.std.proofs.Common.{◌≡◌, ◌≢◌, ℕ, ◌⊎◌, List, [], ◌∷◌, ◌++◌, length, Option, None, Some, refl, sym, ap, subst, ◌∙◌, append_assoc, append-nil, arith, inl, inr, ⊎_elim}
use Rattle.std.specs.Prelude.{map}
use Rattle.std.specs.List.{flat_map, AllByRecursion}
use Rattle.std.specs.Io.KnownBytes.{Consumes, IsAtEnd}
use Rattle.std.proofs.lemmas.List.{length-append, length-map}
use Rattle.std.proofs.lemmas.Option.{same_Some}
use Rattle.nb_port.specs.Tells.{DiskTells}
use Rattle.nb_port.specs.Faults.{Rose}
use Rattle.nb_units.specs.Frames.{Whole, Empty, Partial, Bad, HeaderFault, Frame, frame, IsFrame, front_of, Splits}
use Rattle.nb_units.proofs.FrameLaws.{longest, whole_front, bad_stays, empty_bad}
use Rattle.nb_commands.specs.declared.ending.TheConstants.{OUT_OF_MEMORY, NO_JOURNAL, DISK_FAILED}
use Rattle.nb_batch.specs.declared.batch.BatchEnd.{BatchEnd}
use Rattle.nb_batch.specs.declared.batch.BatchEnd.TheVariants.{Clean, Cut, BadFrame, ReadFault, WriteFault, NoMemory, FrameLimit}
use Rattle.nb_vault.specs.declared.vault.opening.VaultFault.{VaultFault}
use Rattle.nb_vault.specs.declared.vault.opening.VaultFault.TheVariants.{Unborn, Damaged, BadEntry, DiskFault, NoMemory as Starved}
use Rattle.nb_vault.specs.Vaults.{Chronicled}
use Rattle.nb_batch.specs.declared.answering.Answerer.{Answerer}
use Rattle.nb_batch.specs.Batch.{frame_of, Outside, Served, FaultOf}
use Rattle.nb_answers.specs.Ending.{EndsEarly, ended}
use Rattle.nb_commands.specs.Opening.{unopened}
use Rattle.nb_answers.specs.Batch.{EndsWhole, IsWholeInput}
use Rattle.nb_batch.proofs.Serving.{nothing_whole}

nothing_partial : front_of [] ≡ Partial → ⊥
unfolding front_of
nothing_partial e = empty_partial e
  where
    empty_partial : Empty ≡ Partial → ⊥
    empty_partial e = cc

nothing_bad : (h : HeaderFault) → front_of [] ≡ Bad h → ⊥
unfolding front_of
nothing_bad h e = empty_bad h e

partial_whole : (f : Frame) (rest : List ℕ) → Partial ≡ Whole f rest → ⊥
partial_whole f rest e = cc

bad_whole : (fault : HeaderFault) (f : Frame) (rest : List ℕ) → Bad fault ≡ Whole f rest → ⊥
bad_whole fault f rest e = cc

-- what is left of whole frames begins with a frame, or is nothing
begins : (rest left : List ℕ) (more : List Frame) → AllByRecursion IsFrame more → rest ++ left ≡ flat_map frame more ++ [] → (rest ≡ []) ⊎ ((f : Frame) × (behind : List ℕ) × (front_of (rest ++ left) ≡ Whole f behind))
begins rest left [] lawful is = inl (nothing rest left is)
  where
    nothing : (a b : List ℕ) → a ++ b ≡ [] → a ≡ []
    nothing [] b e = refl
    nothing (x ∷ a) b e = absurd cc
begins rest left (m ∷ more) lawful is =
    inr (m, flat_map frame more ++ [], ap front_of (is ∙ append_assoc (frame m) (flat_map frame more) []) ∙ whole_front m (flat_map frame more ++ []) lawful.0)

no_cut_rest : (rest left : List ℕ) (more : List Frame) → AllByRecursion IsFrame more → rest ++ left ≡ flat_map frame more ++ [] → front_of rest ≡ Partial → IsAtEnd (Some left) → ⊥
no_cut_rest rest left more lawful is cut end =
    elim (begins rest left more lawful is) [
      | inl none ↦ nothing_partial (ap front_of (sym none) ∙ cut)
      | inr b ↦ partial_whole b.0 b.1 (sym (ap front_of (ap (λ (xs : List ℕ). rest ++ xs) end ∙ append-nil rest) ∙ cut) ∙ b.2)
    ]

no_bad_rest : (rest left : List ℕ) (more : List Frame) (h : HeaderFault) → AllByRecursion IsFrame more → rest ++ left ≡ flat_map frame more ++ [] → front_of rest ≡ Bad h → ⊥
no_bad_rest rest left more h lawful is bad =
    elim (begins rest left more lawful is) [
      | inl none ↦ nothing_bad h (ap front_of (sym none) ∙ bad)
      | inr b ↦ bad_whole h b.0 b.1 (sym (bad_stays rest left h bad) ∙ b.2)
    ]

-- how whole frames were split
pub record Parts (left' : Option (List ℕ)) (frames gs : List Frame) (rest : List ℕ) : Type 0 where
  pub left : List ℕ
  pub known : left' ≡ Some left
  pub more : List Frame
  pub all : frames ≡ gs ++ more
  pub after : rest ++ left ≡ flat_map frame more ++ []

pub parts : (frames gs : List Frame) (rest taken : List ℕ) (left left' : Option (List ℕ)) → left ≡ Some (flat_map frame frames) → AllByRecursion IsFrame frames → Consumes left left' taken → Splits taken gs rest
    → Parts left' frames gs rest
parts frames gs rest taken None left' is lawful took s = absurd cc
parts frames gs rest taken (Some bytes) None is lawful took s = absurd took
parts frames gs rest taken (Some bytes) (Some left) is lawful took s =
    let bytes_are : bytes ≡ flat_map frame frames = same_Some bytes (flat_map frame frames) is in
    let whole : flat_map frame frames ++ [] ≡ flat_map frame gs ++ (rest ++ left) =
    append-nil (flat_map frame frames) ∙ sym bytes_are ∙ took ∙ ap (λ (xs : List ℕ). xs ++ left) s.bytes ∙ append_assoc (flat_map frame gs) rest left in
    let l = longest frames gs [] (rest ++ left) whole lawful s.lawful nothing_whole in
    record { left = left; known = refl; more = l.0; all = l.1; after = l.2 }

lawful_rest : (gs more : List Frame) → AllByRecursion IsFrame (gs ++ more) → AllByRecursion IsFrame more
lawful_rest [] more all = all
lawful_rest (g ∷ gs) more all = lawful_rest gs more all.1

-- whole frames alone end a batch well, unless the source failed or memory was wanting
pub whole_end : {D : Type 0} (tells : DiskTells D) (by : Answerer) (old new : Chronicled D) (end : BatchEnd) (before after : Outside) (source source' sink sink' : ℕ)
    → Served tells by old new before after end → FaultOf source source' sink sink' end → IsWholeInput before.left → (Rose sink sink' → ⊥) → EndsWhole (ended end)
whole_end tells by old new Clean before after source source' sink sink' s fault input no_sink = inl refl
whole_end tells by old new NoMemory before after source source' sink sink' s fault input no_sink = inr (inl refl)
whole_end tells by old new ReadFault before after source source' sink sink' s fault input no_sink = inr (inr (inl refl))
whole_end tells by old new WriteFault before after source source' sink sink' s fault input no_sink = absurd (no_sink fault)
whole_end tells by old new (Cut place) before after source source' sink sink' s fault input no_sink =
    let gs : List Frame = map frame_of s.answered ++ s.unanswered in
    let p = parts input.frames gs s.rest s.read before.left after.left input.is input.lawful s.took s.frames in
    let P : List Frame → Type 0 = λ fs. AllByRecursion IsFrame fs in
    absurd (no_cut_rest s.rest p.left p.more (lawful_rest gs p.more (subst P p.all input.lawful)) p.after s.ends.0 (subst IsAtEnd p.known s.ends.1))
whole_end tells by old new (BadFrame bad) before after source source' sink sink' s fault input no_sink =
    let gs : List Frame = map frame_of s.answered ++ s.unanswered in
    let p = parts input.frames gs s.rest s.read before.left after.left input.is input.lawful s.took s.frames in
    let P : List Frame → Type 0 = λ fs. AllByRecursion IsFrame fs in
    absurd (no_bad_rest s.rest p.left p.more s.ends.0 (lawful_rest gs p.more (subst P p.all input.lawful)) p.after s.ends.1)
whole_end tells by old new FrameLimit before after source source' sink sink' s fault input no_sink =
    let gs : List Frame = map frame_of s.answered ++ s.unanswered in
    let p = parts input.frames gs s.rest s.read before.left after.left input.is input.lawful s.took s.frames in
    absurd (omega (arith, input.few, s.counted, ap length p.all, length-append gs p.more, length-append (map frame_of s.answered) s.unanswered, length-map s.answered frame_of))

-- how a run ends that was not opened is told by why
pub unopened_whole : (fault : VaultFault) → EndsWhole (unopened fault)
unopened_whole (Unborn found) = inr (inr (inr (inl refl)))
unopened_whole (Damaged item place) = inr (inr (inr (inl refl)))
unopened_whole (BadEntry item) = inr (inr (inr (inl refl)))
unopened_whole (DiskFault before after) = inr (inr (inr (inr refl)))
unopened_whole Starved = inr (inl refl)

-- a batch that was opened ends with none of the two
pub opened_end : (end : BatchEnd) → ((ended end).status ≢ NO_JOURNAL) × ((ended end).status ≢ DISK_FAILED)
opened_end Clean = (λ e. omega (arith, e), λ e. omega (arith, e))
opened_end NoMemory = (λ e. omega (arith, e), λ e. omega (arith, e))
opened_end ReadFault = (λ e. omega (arith, e), λ e. omega (arith, e))
opened_end WriteFault = (λ e. omega (arith, e), λ e. omega (arith, e))
opened_end (Cut place) = (λ e. omega (arith, e), λ e. omega (arith, e))
opened_end (BadFrame fault) = (λ e. omega (arith, e), λ e. omega (arith, e))
opened_end FrameLimit = (λ e. omega (arith, e), λ e. omega (arith, e))

-- a batch that was opened and ends early had no memory
starved_end : (end : BatchEnd) → (ended end).status ≡ OUT_OF_MEMORY → end ≡ NoMemory
starved_end NoMemory e = refl
starved_end Clean e = absurd (omega (arith, e))
starved_end ReadFault e = absurd (omega (arith, e))
starved_end WriteFault e = absurd (omega (arith, e))
starved_end (Cut place) e = absurd (omega (arith, e))
starved_end (BadFrame fault) e = absurd (omega (arith, e))
starved_end FrameLimit e = absurd (omega (arith, e))

pub early_end : (end : BatchEnd) → EndsEarly (ended end) → end ≡ NoMemory
early_end end early =
    elim early [
      | inl starved ↦ starved_end end starved
      | inr other ↦ absurd (⊎_elim (opened_end end).0 (opened_end end).1 other)
    ]
