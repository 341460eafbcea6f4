-- One step of a batch, from what its calls ensure.
use Rattle.std.proofs.Common.{◌≡◌, ◌⊎◌, ℕ, ◌<◌, ◌≤◌, List, [], ◌∷◌, ◌++◌, length, take, drop, Option, refl, sym, ap, subst, ◌∙◌, append-nil, inl, arith}
use Rattle.std.specs.Option.{option_to_list}
use Rattle.nb_port.specs.Tells.{DiskTells}
use Rattle.nb_port.specs.Faults.{Rose, Backed}
use Rattle.nb_units.specs.Frames.{Frame, IsFrame}
use Rattle.nb_endorse.specs.declared.refusal.TheConstants.{DISK_FAULT, WORN}
use Rattle.nb_frame.specs.State.{Collected, waiting}
use Rattle.nb_frame.specs.declared.stream.TheConstants.{MAX_PIECE}
use Rattle.nb_frame.specs.Collected.{frame_at}
use Rattle.nb_frame.specs.declared.stream.FrameAt.{FrameAt}
use Rattle.nb_turns.specs.declared.limits.TheConstants.{MAX_FAULTS}
use Rattle.nb_turns.specs.declared.mark.Mark.{Mark}
use Rattle.nb_turns.specs.declared.mark.Mark.TheVariants.{At, Fault, Worn}
use Rattle.nb_turns.specs.Turns.{Request, House, State, Outcome, Decides, Fails, Refuses, answered as answered_by, recorded, replies}
use Rattle.nb_turns.specs.Laws.{TurnOfOne, one_answer}
use Rattle.nb_turns.proofs.Single.{one_is_turn}
use Rattle.nb_vault.specs.declared.answer.AnswerAll.TheVariants as answers
use Rattle.nb_vault.specs.Asking.{request_of}
use Rattle.nb_journal.proofs.Moments.{started}
use Rattle.nb_journal.specs.Time.{LeavesOnly}
use Rattle.nb_vault.proofs.Resting.{leaves_more}
use Rattle.nb_vault.specs.Sending.{MaySend, StandsTold}
use Rattle.nb_vault.specs.Vaults.{Chronicled, Keeps, IsDurable, StandsForState, Went, state_of, house_in, TurnOf, FaultWithin}
use Rattle.nb_vault.specs.declared.origin.Origin.{Origin}
use Rattle.nb_vault.specs.Rules.{house_of, refused}
use Rattle.nb_escrow.specs.Head.{head_of}
use Rattle.nb_entry.specs.declared.entry.Entry.{Entry}
use Rattle.nb_batch.specs.declared.batch.BatchEnd.{BatchEnd}
use Rattle.nb_batch.specs.declared.batch.BatchEnd.TheVariants.{Clean, Cut, BadFrame, ReadFault, WriteFault, NoMemory as Starved, FrameLimit}
use Rattle.nb_batch.specs.declared.batch.Step.TheVariants as step
use Rattle.nb_batch.specs.Fetch.{Reads, AheadAs, EndsAs, IsReadEnd}
use Rattle.nb_batch.specs.declared.answering.Answerer.{Answerer}
use Rattle.nb_batch.specs.declared.answering.Answerer.TheVariants as who
use Rattle.nb_batch.specs.Answering.{AnswersWith, AsksOnce, failure_in_mark}
use Rattle.nb_batch.specs.Batch.{Outside, Stepped, StepIs, FaultOf}

-- ---- where nothing is done

module _ {D : Type 0} (tells : DiskTells D) (only_now : (d : D) (c : List ℕ) → tells.left d (tells.moment d) c → tells.allowed d c) (house : Chronicled D) (keeps : Keeps tells house) where
  -- a stop leaves what every vault keeps
  pub leaves_now : LeavesOnly tells house.disk house.disk (StandsForState house)
  leaves_now = started tells house.disk (StandsForState house) (λ c is. keeps.images c (only_now house.disk c is))

  pub leaves_either : LeavesOnly tells house.disk house.disk (λ (image : List ℕ). StandsForState house image ⊎ StandsForState house image)
  leaves_either = leaves_more tells house.disk house.disk (StandsForState house) (λ (image : List ℕ). StandsForState house image ⊎ StandsForState house image) (λ c is. inl is) leaves_now

-- ---- one answer

module _ {D : Type 0} (tells : DiskTells D) (old new : Chronicled D) (by : ℕ) (request : Request) where
  -- the turn of one request
  one_turn : (outcome : Outcome) (found out out' : List ℕ) (mark : Mark) (reply : List ℕ) → Went tells old new by (request ∷ []) outcome found out out' → one_answer request mark reply ≡ answered_by (house_in old) (request ∷ []) outcome
      → TurnOfOne (house_in old) (state_of old) request mark reply (state_of new)
  one_turn outcome found out out' mark reply went told =
      (one_is_turn (house_in old) (state_of old) (state_of new) request mark reply).1 (record { outcome = outcome; turn = went.turn; told = told })

  -- the mark's reply is what is sent
  answers_with : (mark : Mark) (told sent : List ℕ) → TurnOfOne (house_in old) (state_of old) request mark told (state_of new) → Backed (tells.faults old.disk) (option_to_list (failure_in_mark mark)) (tells.faults new.disk) → sent ≡ told
      → AnswersWith tells who.House old new request sent
  answers_with mark told sent turn backed is =
      record { mark = mark; turn = subst (λ (bytes : List ℕ). TurnOfOne (house_in old) (state_of old) request mark bytes (state_of new)) (sym is) turn; backed = backed }

  -- a request was decided over these entries, at this place
  decided_at : (over : List Entry) (out sent : List ℕ) (place : ℕ) → Went tells old new by (request ∷ []) (Decides over) (place ∷ []) out sent → TurnOfOne (house_in old) (state_of old) request (At place) ((house_in old).rules over request).reply (state_of new)
  decided_at over out sent place went =
      let at : place ≡ length over = same_first place (length over) went.found_is in
      one_turn (Decides over) (place ∷ []) out sent (At place) ((house_in old).rules over request).reply went (ap (λ (n : ℕ). one_answer request (At n) ((house_in old).rules over request).reply) at)
    where
      same_first : (x y : ℕ) → x ∷ [] ≡ y ∷ [] → x ≡ y
      same_first x y is = cc

  -- what is sent is its reply
  sent_is : (over : List Entry) (out sent found : List ℕ) → out ≡ [] → Went tells old new by (request ∷ []) (Decides over) found out sent → sent ≡ ((house_in old).rules over request).reply
  sent_is over out sent found none went =
      went.out_is ∙ ap (λ (xs : List ℕ). xs ++ (((house_in old).rules over request).reply ++ [])) none ∙ append-nil ((house_in old).rules over request).reply

  pub answered : (out sent : List ℕ) (place : ℕ) → out ≡ [] → TurnOf tells old new by (request ∷ []) (place ∷ []) out sent answers.Answered → tells.faults old.disk ≤ tells.faults new.disk → AnswersWith tells who.House old new request sent
  answered out sent place none is count =
      answers_with (At place) ((house_in old).rules is.0 request).reply sent (decided_at is.0 out sent place is.1) count (sent_is is.0 out sent (place ∷ []) none is.1)

  pub failed : (out out' sent : List ℕ) (before after : ℕ) → out ≡ [] → TurnOf tells old new by (request ∷ []) [] out out' (answers.DiskFault before after) → FaultWithin tells old new (answers.DiskFault before after)
      → sent ≡ out' ++ refused DISK_FAULT before after → AnswersWith tells who.House old new request sent
  failed out out' sent before after none is within put =
      answers_with (Fault before after) (refused DISK_FAULT before after) sent (one_turn (Fails before after) [] out out' (Fault before after) (refused DISK_FAULT before after) is refl) (within.0, within.2, omega (arith, within.3))
      (put ∙ ap (λ (xs : List ℕ). xs ++ refused DISK_FAULT before after) (is.out_is ∙ append-nil out ∙ none))

  pub worn : (out out' sent : List ℕ) (count : ℕ) → out ≡ [] → TurnOf tells old new by (request ∷ []) [] out out' (answers.Worn count) → tells.faults old.disk ≤ tells.faults new.disk → sent ≡ out' ++ refused WORN count 0 → AnswersWith tells who.House old new request sent
  worn out out' sent count none is rises put =
      answers_with Worn (refused WORN MAX_FAULTS 0) sent (one_turn Refuses [] out out' Worn (refused WORN MAX_FAULTS 0) is.1 refl) rises
      (put ∙ ap (λ (xs : List ℕ). xs ++ refused WORN count 0) (is.1.out_is ∙ append-nil out ∙ none) ∙ ap (λ (n : ℕ). refused WORN n 0) is.0)

  -- what was decided may be sent, and so may each of the two refusals
  pub may_send : (out sent : List ℕ) (place : ℕ) → out ≡ [] → new.origin ≡ old.origin → IsDurable tells new → TurnOf tells old new by (request ∷ []) (place ∷ []) out sent answers.Answered → MaySend tells new sent
  may_send out sent place none same durable is =
      let house : house_in old ≡ house_in new = ap (λ (o : Origin). house_of (head_of o.charter) o.cap) (sym same) in
      record {
        requests = request ∷ [];
        outcome = Decides is.0;
        fits = (omega arith, omega arith);
        sent_is = is.1.out_is ∙ ap (λ (xs : List ℕ). xs ++ replies (answered_by (house_in old) (request ∷ []) (Decides is.0))) none ∙ ap (λ (h : House). replies (answered_by h (request ∷ []) (Decides is.0))) house;
        told = (durable, ap (λ (s : State). s.entries) is.1.turn.2 ∙ ap (λ (h : House). is.0 ++ recorded h is.0 (request ∷ [])) house);
      }

  pub may_refuse : (outcome : Outcome) (out out' sent reply : List ℕ) → out ≡ [] → Went tells old new by (request ∷ []) outcome [] out out' → out' ≡ out ++ [] → sent ≡ out' ++ reply
      → reply ++ [] ≡ replies (answered_by (house_in new) (request ∷ []) outcome) → StandsTold tells new (request ∷ []) outcome → MaySend tells new sent
  may_refuse outcome out out' sent reply none went nothing put is told = record {
    requests = request ∷ [];
    outcome = outcome;
    fits = (omega arith, omega arith);
    sent_is = put ∙ ap (λ (xs : List ℕ). xs ++ reply) (nothing ∙ append-nil out ∙ none) ∙ sym (append-nil reply) ∙ is;
    told = told;
  }

-- ---- one step

pub stepped_with : {D : Type 0} (tells : DiskTells D) (by : Answerer) (held held' : Collected) (old new : Chronicled D) (f : FrameAt) (moment : ℕ) (body reply : List ℕ) (before after : Outside)
    → Reads before.left after.left held held' (frame_at held'.held f ∷ []) → IsFrame (frame_at held'.held f) → (length (waiting held) < MAX_PIECE → length (waiting held') < MAX_PIECE) → body ≡ take f.len (drop f.start held'.held) → AsksOnce by before.moments after.moments moment
    → AnswersWith tells by old new (request_of f.kind body moment) reply → (done : List ℕ → Type 0) → done reply → (s : Stepped tells by held held' old new before after) × done s.one.reply
stepped_with tells by held held' old new f moment body reply before after read lawful ahead is now answer done sent =
    let one : List ℕ → Frame = λ bytes. record { kind = f.kind; body = bytes } in (
      record {
        one = record { request = request_of f.kind body moment; mark = answer.mark; reply = reply };
        turn = answer.turn;
        backed = answer.backed;
        lawful = subst (λ (bytes : List ℕ). IsFrame (one bytes)) (sym is) lawful;
        read = subst (λ (bytes : List ℕ). Reads before.left after.left held held' (one bytes ∷ [])) (sym is) read;
        ahead = ahead;
        asked = now;
      },
      sent,
    )

-- reading ended, and nothing else was done
pub stopped_with : {D : Type 0} (tells : DiskTells D) (by : Answerer) (end : BatchEnd) (held held' : Collected) (house : Chronicled D) (before : Outside) (left : Option (List ℕ))
    → Reads before.left left held held' [] → IsReadEnd end → EndsAs end held'.taken (waiting held') left → (length (waiting held) < MAX_PIECE → AheadAs end (length (waiting held'))) → StepIs tells by held held' house house before (record before { left = left }) (step.Ended end)
stopped_with tells by Clean held held' house before left read is ends ahead = (record { read = read; same = refl; unsent = refl; unasked = refl }, is, ends, ahead)
stopped_with tells by (Cut place) held held' house before left read is ends ahead = (record { read = read; same = refl; unsent = refl; unasked = refl }, is, ends, ahead)
stopped_with tells by (BadFrame fault) held held' house before left read is ends ahead = (record { read = read; same = refl; unsent = refl; unasked = refl }, is, ends, ahead)
stopped_with tells by ReadFault held held' house before left read is ends ahead = (record { read = read; same = refl; unsent = refl; unasked = refl }, is, ends, ahead)
stopped_with tells by WriteFault held held' house before left read is ends ahead = absurd is
stopped_with tells by Starved held held' house before left read is ends ahead = absurd is
stopped_with tells by FrameLimit held held' house before left read is ends ahead = absurd is

-- the source failed where that is why reading ended
pub read_fault : (end : BatchEnd) (source source' sink sink' : ℕ) → IsReadEnd end → (end ≡ ReadFault → Rose source source') → FaultOf source source' sink sink' end
read_fault Clean source source' sink sink' is rose = tt
read_fault (Cut place) source source' sink sink' is rose = tt
read_fault (BadFrame fault) source source' sink sink' is rose = tt
read_fault ReadFault source source' sink sink' is rose = rose refl
read_fault WriteFault source source' sink sink' is rose = absurd is
read_fault Starved source source' sink sink' is rose = tt
read_fault FrameLimit source source' sink sink' is rose = tt
