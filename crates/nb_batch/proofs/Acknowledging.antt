-- What `follow` does with a frame, as a standby's answer to it.
use Rattle.std.proofs.Common.{◌≡◌, ◌⊎◌, inl, inr, ℕ, ◌≤◌, List, [], ◌++◌, length, Result, Ok, Err, refl, sym, ap, ◌∙◌, arith}
use Rattle.std.specs.Option.{option_to_list}
use Rattle.nb_units.specs.Frames.{frame}
use Rattle.nb_port.specs.Tells.{DiskTells}
use Rattle.nb_port.specs.Faults.{Backed}
use Rattle.nb_turns.specs.declared.mark.Mark.{Mark}
use Rattle.nb_turns.specs.declared.mark.Mark.TheVariants.{At}
use Rattle.nb_turns.specs.Turns.{Request}
use Rattle.nb_vault.specs.declared.origin.Origin.{Origin}
use Rattle.nb_vault.specs.declared.taking.TakeIn.{TakeIn}
use Rattle.nb_vault.specs.declared.taking.TakeIn.TheVariants as takes
use Rattle.nb_vault.specs.Taking.{all_in}
use Rattle.nb_vault.specs.Vaults.{Chronicled, DurableWhere, FaultWithin, IsDurable, entries_in, state_of}
use Rattle.nb_escrow.specs.Head.{head_of}
use Rattle.nb_standby.specs.declared.code.TheConstants.{TAKEN, SAME}
use Rattle.nb_standby.specs.declared.limits.TheConstants.{ACKNOWLEDGED_FRAME}
use Rattle.nb_standby.specs.declared.shipped.Shipped.{Shipped}
use Rattle.nb_standby.specs.Answering.{CameOf, mark_of, record_in}
use Rattle.nb_standby.specs.Following.{FollowsAs, code_of, house_key}
use Rattle.nb_standby.specs.Spelling.{acknowledged_bytes, told}
use Rattle.nb_standby.proofs.Steps.{takes_to}
use Rattle.nb_batch.specs.declared.answering.Answerer.TheVariants as answers
use Rattle.nb_batch.specs.Answering.{AnswersWith, MayAcknowledge, failure_in_mark}

module _ {D : Type 0} (tells : DiskTells D) (old new : Chronicled D) (rises : tells.faults old.disk ≤ tells.faults new.disk) where
  -- a fault lies between the disk's counts
  backed : (place : ℕ) (how : TakeIn) → FaultWithin tells old new (all_in how) → Backed (tells.faults old.disk) (option_to_list (failure_in_mark (mark_of place how))) (tells.faults new.disk)
  backed place takes.Taken within = rises
  backed place takes.Same within = rises
  backed place takes.Other within = rises
  backed place takes.Ahead within = rises
  backed place takes.Illegal within = rises
  backed place (takes.DiskFault before after) within = (within.0, within.2, omega (arith, within.3))
  backed place (takes.Worn faults) within = rises

  -- by cases on what was read
  came : (read : Result Shipped ℕ) (code : ℕ) → FollowsAs tells old new read code
      → (mark : Mark) × CameOf (house_key old) old.origin.charter old.origin.cap (state_of old) read mark code (state_of new)
      × Backed (tells.faults old.disk) (option_to_list (failure_in_mark mark)) (tells.faults new.disk)
  came (Err place) code is = (At 0, (refl, is.0, ap (λ (v : Chronicled D). state_of v) is.1), rises)
  came (Ok r) code (inl is) = (At r.place, inl (is.0, refl, is.1, ap (λ (v : Chronicled D). state_of v) is.2), rises)
  came (Ok r) code (inr is) =
      (mark_of r.place is.1.how, inr (is.0, (is.1.how, refl, is.1.code_is, takes_to tells old new r.place r.entry is.1.how is.1.taken)), backed r.place is.1.how is.1.fault)

  pub acknowledged : (request : Request) (code : ℕ) (out sent : List ℕ) → out ≡ [] → FollowsAs tells old new (record_in request) code
      → sent ≡ out ++ frame (record { kind = ACKNOWLEDGED_FRAME; body = acknowledged_bytes (told (house_key old) code (length (entries_in new))) }) → AnswersWith tells answers.Standby old new request sent
  acknowledged request code out sent none follows put =
      let made = frame (record { kind = ACKNOWLEDGED_FRAME; body = acknowledged_bytes (told (house_key old) code (length (entries_in new))) }) in
      let step = came (record_in request) code follows in
      record {
        mark = step.0;
        turn = record { code = code; reply_is = put ∙ ap (λ (xs : List ℕ). xs ++ made) none; came = step.1 };
        backed = step.2;
      }

  -- what stands is told only where it is durable
  lasts : (how : TakeIn) (code : ℕ) → code ≡ code_of how → DurableWhere tells new (all_in how) → (code ≡ TAKEN) ⊎ (code ≡ SAME) → IsDurable tells new
  lasts takes.Taken code is durable stands = durable
  lasts takes.Same code is durable stands = durable
  lasts takes.Other code is durable stands = durable
  lasts takes.Ahead code is durable stands = durable
  lasts takes.Illegal code is durable stands = durable
  lasts (takes.DiskFault before after) code is durable (inl stands) = absurd (omega (arith, is, stands))
  lasts (takes.DiskFault before after) code is durable (inr stands) = absurd (omega (arith, is, stands))
  lasts (takes.Worn faults) code is durable (inl stands) = absurd (omega (arith, is, stands))
  lasts (takes.Worn faults) code is durable (inr stands) = absurd (omega (arith, is, stands))

  holds : (read : Result Shipped ℕ) (code : ℕ) → FollowsAs tells old new read code → (code ≡ TAKEN) ⊎ (code ≡ SAME) → IsDurable tells new
  holds (Err place) code is (inl stands) = absurd (omega (arith, is.0, stands))
  holds (Err place) code is (inr stands) = absurd (omega (arith, is.0, stands))
  holds (Ok r) code (inl is) (inl stands) = absurd (omega (arith, is.1, stands))
  holds (Ok r) code (inl is) (inr stands) = absurd (omega (arith, is.1, stands))
  holds (Ok r) code (inr is) stands = lasts is.1.how code is.1.code_is is.1.durable stands

  pub may_acknowledge : (read : Result Shipped ℕ) (code : ℕ) (out sent : List ℕ) → out ≡ [] → new.origin ≡ old.origin → FollowsAs tells old new read code
      → sent ≡ out ++ frame (record { kind = ACKNOWLEDGED_FRAME; body = acknowledged_bytes (told (house_key old) code (length (entries_in new))) }) → MayAcknowledge tells new sent
  may_acknowledge read code out sent none same follows put =
      let made : Origin → List ℕ = λ o. frame (record { kind = ACKNOWLEDGED_FRAME; body = acknowledged_bytes (told (head_of o.charter).house code (length (entries_in new))) }) in
      record {
        code = code;
        sent_is = put ∙ ap (λ (xs : List ℕ). xs ++ made old.origin) none ∙ ap made (sym same);
        durable = holds read code follows;
      }
