-- A call has the phase of the turn exactly where the turn is its; what nodes ignore changes nothing.
use Rattle.std.proofs.Common.{◌≡◌, ◌≢◌, ◌⊎◌, inl, inr, ℕ, zero, suc, Bool, true, false, List, [], ◌∷◌, ◌++◌, length, take, Option, None, Some, refl, sym, ap, subst, ◌∙◌, arith}
use Rattle.std.proofs.lemmas.Bool.{eqb-true}
use Rattle.std.specs.Prelude.{◌==◌, map, IsSome, if◌then◌else◌}
use Rattle.std.specs.Option.{is_none}
use Rattle.std.specs.List.{slice_get}
use Rattle.nb_units.specs.declared.ids.PartyId.{PartyId}
use Rattle.nb_book.specs.Laws.{StaysLegal}
use Rattle.nb_world.specs.declared.call.Call.{Call}
use Rattle.nb_world.specs.declared.call.CallPhase.{CallPhase}
use Rattle.nb_world.specs.declared.call.CallPhase.TheVariants.{Waiting, InTurn, Answered, Gone}
use Rattle.nb_world.specs.declared.event.Event.{Event}
use Rattle.nb_world.specs.declared.event.Event.TheVariants as on
use Rattle.nb_world.specs.declared.packet.Packet.{Packet}
use Rattle.nb_msgs.specs.declared.node.To.{To}
use Rattle.nb_msgs.specs.declared.node.To.TheVariants as to
use Rattle.nb_world.specs.declared.turning.Stage.{Stage}
use Rattle.nb_world.specs.declared.turning.Stage.TheVariants as stage
use Rattle.nb_world.specs.declared.turning.Turning.{Turning}
use Rattle.nb_world.specs.World.{Going, Stays, Rules, World, request_of, is_decided, is_written}
use Rattle.nb_world.specs.Steps.{◌>>=◌, where_so, is_waiting, in_phase, set_phase, stopped, phase_stopped, may_answer, consumer_goes, merchant_goes, consumer_at, merchant_at, delivered_to, deliver_of, quiet_consumer_of, quiet_merchant_of, turn_of, write_of, open_of, answer_of, stop_of, step, next, or_same, run}
use Rattle.nb_world.specs.Fits.{IsConsumer, IsMerchant}
use Rattle.nb_world.specs.Laws.{OneHasTurn, TurnIsOfOneCall, TurnIsOfItsCall, UnreadChangesNothing, IgnoredChangesNothing}
use Rattle.nb_world.proofs.Chains.{inside, holds, no_value, same_some}
use Rattle.nb_world.proofs.Lists.{get_append, all_at, Remains, phase_remains}
use Rattle.nb_world.proofs.Growing.{StageSo, TurnSo, TurnIs}
use Rattle.nb_world.proofs.Serving.{run_kept, setup_sound}
use Rattle.nb_world.proofs.Outside.{Outside, buy_outside, quiet_consumer_outside, quiet_merchant_outside, restart_consumer_outside, restart_merchant_outside, clock_outside, inject_outside, deliver_outside}

-- ---- calls

-- a call that is found among calls of which one came to a phase is that one, or is as it was
phase_get : (phase : CallPhase) (calls : List Call) (k c : ℕ) (call : Call) → slice_get (set_phase phase calls k) c ≡ Some call
    → ((c ≡ k) × (call.phase ≡ phase)) ⊎ ((c ≢ k) × (slice_get calls c ≡ Some call))
phase_get phase [] k c call is = absurd cc
phase_get phase (x ∷ calls) zero zero call is = inl (refl, sym (ap (λ (y : Call). y.phase) (same_some (in_phase phase x) call is)))
phase_get phase (x ∷ calls) zero (suc c) call is = inr ((λ same. omega arith), is)
phase_get phase (x ∷ calls) (suc k) zero call is = inr ((λ same. omega arith), is)
phase_get phase (x ∷ calls) (suc k) (suc c) call is = up (phase_get phase calls k c call is)
  where
    up : ((c ≡ k) × (call.phase ≡ phase)) ⊎ ((c ≢ k) × (slice_get calls c ≡ Some call)) → ((suc c ≡ suc k) × (call.phase ≡ phase)) ⊎ ((suc c ≢ suc k) × (slice_get calls c ≡ Some call))
    up (inl same) = inl (ap suc same.0, same.1)
    up (inr other) = inr ((λ same. other.0 (omega arith)), other.1)

-- a call that is found in two lists, one behind the other, is in one of them
append_get : (xs ys : List Call) (c : ℕ) (call : Call) → slice_get (xs ++ ys) c ≡ Some call → (slice_get xs c ≡ Some call) ⊎ ((k : ℕ) × (slice_get ys k ≡ Some call) × ((other : Call) → slice_get xs c ≢ Some other))
append_get [] ys c call is = inr (c, is, λ other there. cc)
append_get (x ∷ xs) ys zero call is = inl is
append_get (x ∷ xs) ys (suc c) call is = append_get xs ys c call is

stopped_get : (calls : List Call) (c : ℕ) (call : Call) → slice_get (map stopped calls) c ≡ Some call → call.phase ≢ InTurn
stopped_get [] c call is same = absurd cc
stopped_get (x ∷ calls) zero call is same = never x.phase (ap (λ (y : Call). y.phase) (same_some (stopped x) call is) ∙ same)
  where
    never : (phase : CallPhase) → phase_stopped phase ≡ InTurn → ⊥
    never Waiting is = cc
    never InTurn is = cc
    never Answered is = cc
    never Gone is = cc
stopped_get (x ∷ calls) (suc c) call is same = stopped_get calls c call is same

-- ---- the turn is of one call

-- and that call is there
record PhaseSo {C M : Type 0} (w : World C M) : Type 0 where
  pub one : OneHasTurn w
  pub there : (t : Turning) → w.turn ≡ Some t → (call : Call) × (slice_get w.calls t.call ≡ Some call)
  pub written : (t : Turning) → w.turn ≡ Some t → t.stage ≡ stage.Written → IsSome t.verdict.entry

some_is : {A : Type 0} (o : Option A) (x : A) → o ≡ Some x → IsSome o
some_is (Some y) x is = refl
some_is None x is = absurd cc

module _ {C M : Type 0} where
  free_so : (w : World C M) → w.turn ≡ None → ((c : ℕ) (call : Call) → slice_get w.calls c ≡ Some call → call.phase ≢ InTurn) → PhaseSo w
  free_so w free none = record {
    one = λ c call there. ((λ in_turn. absurd (none c call there in_turn)), (λ has. let e : None ≡ Some has.0 = sym free ∙ has.1 in absurd cc));
    there = λ t is. let e : None ≡ Some t = sym free ∙ is in absurd cc;
    written = λ t is. let e : None ≡ Some t = sym free ∙ is in absurd cc;
  }

  -- where the turn is free no call has its phase
  none_in_turn : (v : World C M) → PhaseSo v → v.turn ≡ None → (c : ℕ) (call : Call) → slice_get v.calls c ≡ Some call → call.phase ≢ InTurn
  none_in_turn v so free c call there in_turn = let has = (so.one c call there).0 in_turn in let e : None ≡ Some has.0 = sym free ∙ has.1 in cc

  outside_so : (v w : World C M) → PhaseSo v → Outside v w → PhaseSo w
  outside_so v w so out = record {
    one = λ c call there. cases c call (append_get v.calls out.asked c call (ap (λ calls. slice_get calls c) (sym out.calls) ∙ there));
    there = λ t is. let found = so.there t (sym out.turn ∙ is) in (found.0, ap (λ calls. slice_get calls t.call) out.calls ∙ get_append v.calls out.asked t.call found.0 found.1);
    written = λ t is. so.written t (sym out.turn ∙ is);
  }
    where
      cases : (c : ℕ) (call : Call) → (slice_get v.calls c ≡ Some call) ⊎ ((k : ℕ) × (slice_get out.asked k ≡ Some call) × ((other : Call) → slice_get v.calls c ≢ Some other))
          → ((call.phase ≡ InTurn) → ((t : Turning) × (w.turn ≡ Some t) × (t.call ≡ c))) × (((t : Turning) × (w.turn ≡ Some t) × (t.call ≡ c)) → call.phase ≡ InTurn)
      cases c call (inl before) = (
        (λ in_turn. let has = (so.one c call before).0 in_turn in (has.0, out.turn ∙ has.1, has.2)),
        (λ has. (so.one c call before).1 (has.0, sym out.turn ∙ has.1, has.2)),
      )
      cases c call (inr new) =
          let waits : call.phase ≡ Waiting = all_at (λ (x : Call). x.phase ≡ Waiting) out.asked new.0 call new.1 out.waiting in (
            (λ in_turn. let e : Waiting ≡ InTurn = sym waits ∙ in_turn in absurd cc),
            (λ has. let found = so.there has.0 (sym out.turn ∙ has.1) in absurd (new.2 found.0 (ap (slice_get v.calls) (sym has.2) ∙ found.1))),
          )

  -- the turn comes to another stage, of the same call, and calls are as they were
  staged_so : (v w : World C M) (t u : Turning) → PhaseSo v → v.turn ≡ Some t → w.turn ≡ Some u → u.call ≡ t.call → w.calls ≡ v.calls → (u.stage ≡ stage.Written → IsSome u.verdict.entry) → PhaseSo w
  staged_so v w t u so old new same calls has = record {
    one = λ c call there.
        let before : slice_get v.calls c ≡ Some call = ap (λ all. slice_get all c) (sym calls) ∙ there in (
          (λ in_turn. let has = (so.one c call before).0 in_turn in let one : t ≡ has.0 = same_some t has.0 (sym old ∙ has.1) in (u, new, same ∙ ap (λ (x : Turning). x.call) one ∙ has.2)),
          (λ has. let one : u ≡ has.0 = same_some u has.0 (sym new ∙ has.1) in (so.one c call before).1 (t, old, sym same ∙ ap (λ (x : Turning). x.call) one ∙ has.2)),
        );
    there = λ x is.
        let one : u ≡ x = same_some u x (sym new ∙ is) in
        let found = so.there t old in
        (found.0, ap (λ all. slice_get all x.call) calls ∙ ap (slice_get v.calls) (sym (ap (λ (y : Turning). y.call) one) ∙ same) ∙ found.1);
    written = λ x is. subst (λ (y : Turning). y.stage ≡ stage.Written → IsSome y.verdict.entry) (same_some u x (sym new ∙ is)) has;
  }

  turn_so : (p : Rules C M) (v w : World C M) (n : ℕ) → PhaseSo v → turn_of p v n ≡ Some w → PhaseSo w
  unfolding turn_of
  turn_so p v w n so is =
      let free = inside (where_so (is_none v.turn)) _ w is in
      let call = inside (slice_get v.calls n) _ w free.2 in
      let waits = inside (where_so (is_waiting call.0.phase)) _ w call.2 in
      let packet = inside (slice_get v.packets call.0.packet) _ w waits.2 in
      let none : v.turn ≡ None = no_value v.turn (holds _ free.0 free.1) in
      let same = same_some _ w packet.2 in
      taken (no_value v.turn (holds _ free.0 free.1)) call.0 call.1 _ (sym (ap (λ (x : World C M). x.turn) same)) refl (sym (ap (λ (x : World C M). x.calls) same)) refl
    where
      taken : v.turn ≡ None → (found : Call) → slice_get v.calls n ≡ Some found → (t : Turning) → w.turn ≡ Some t → t.call ≡ n → w.calls ≡ set_phase InTurn v.calls n → t.stage ≡ stage.Decided → PhaseSo w
      taken none found stands t now its calls decided = record {
        written = λ x is written. let e : stage.Decided ≡ stage.Written = sym decided ∙ ap (λ (y : Turning). y.stage) (same_some t x (sym now ∙ is)) ∙ written in absurd cc;
        one = λ c call there. cases c call (phase_get InTurn v.calls n c call (ap (λ all. slice_get all c) (sym calls) ∙ there));
        there = λ x is.
            let one : t ≡ x = same_some t x (sym now ∙ is) in
            let r : Remains (set_phase InTurn v.calls n) n found = phase_remains InTurn v.calls n n found stands in
            (r.now, ap (λ all. slice_get all x.call) calls ∙ ap (slice_get (set_phase InTurn v.calls n)) (sym (ap (λ (y : Turning). y.call) one) ∙ its) ∙ r.is);
      }
        where
          cases : (c : ℕ) (call : Call) → ((c ≡ n) × (call.phase ≡ InTurn)) ⊎ ((c ≢ n) × (slice_get v.calls c ≡ Some call))
              → ((call.phase ≡ InTurn) → ((x : Turning) × (w.turn ≡ Some x) × (x.call ≡ c))) × (((x : Turning) × (w.turn ≡ Some x) × (x.call ≡ c)) → call.phase ≡ InTurn)
          cases c call (inl here) = ((λ in_turn. (t, now, its ∙ sym here.0)), (λ has. here.1))
          cases c call (inr other) = (
            (λ in_turn. absurd (none_in_turn v so none c call other.1 in_turn)),
            (λ has. let one : t ≡ has.0 = same_some t has.0 (sym now ∙ has.1) in absurd (other.0 (sym has.2 ∙ sym (ap (λ (y : Turning). y.call) one) ∙ its))),
          )

  write_so : (v w : World C M) (n : ℕ) → PhaseSo v → write_of v n ≡ Some w → PhaseSo w
  unfolding write_of
  write_so v w n so is =
      let t = inside v.turn _ w is in
      let its = inside (where_so (t.0.call == n)) _ w t.2 in
      let decided = inside (where_so (is_decided t.0.stage)) _ w its.2 in
      let entry = inside t.0.verdict.entry _ w decided.2 in
      let same = sym (same_some _ w entry.2) in
      staged_so v w t.0 _ so t.1 (ap (λ (x : World C M). x.turn) same) refl (ap (λ (x : World C M). x.calls) same) (λ written. some_is t.0.verdict.entry entry.0 entry.1)

  open_so : (v w : World C M) (n : ℕ) → PhaseSo v → open_of v n ≡ Some w → PhaseSo w
  unfolding open_of
  open_so v w n so is =
      let t = inside v.turn _ w is in
      let its = inside (where_so (t.0.call == n)) _ w t.2 in
      let written = inside (where_so (is_written t.0.stage)) _ w its.2 in
      let entry = inside t.0.verdict.entry _ w written.2 in
      let same = sym (same_some _ w entry.2) in
      staged_so v w t.0 _ so t.1 (ap (λ (x : World C M). x.turn) same) refl (ap (λ (x : World C M). x.calls) same) (λ written. absurd cc)

  answer_so : (v w : World C M) (n : ℕ) → PhaseSo v → answer_of v n ≡ Some w → PhaseSo w
  unfolding answer_of
  answer_so v w n so is =
      let t = inside v.turn _ w is in
      let its = inside (where_so (t.0.call == n)) _ w t.2 in
      let ready = inside (where_so (may_answer t.0.stage t.0.verdict.entry)) _ w its.2 in
      let same = sym (same_some _ w ready.2) in
      free_so w (ap (λ (x : World C M). x.turn) same) (λ c call there. never t.0 t.1 (eqb-true _ _ (holds _ its.0 its.1)) c call (phase_get Answered v.calls n c call (ap (λ (x : World C M). slice_get x.calls c) (sym same) ∙ there)))
    where
      never : (t : Turning) → v.turn ≡ Some t → t.call ≡ n → (c : ℕ) (call : Call) → ((c ≡ n) × (call.phase ≡ Answered)) ⊎ ((c ≢ n) × (slice_get v.calls c ≡ Some call)) → call.phase ≢ InTurn
      never t turn its c call (inl here) in_turn = let e : Answered ≡ InTurn = sym here.1 ∙ in_turn in cc
      never t turn its c call (inr other) in_turn =
          let has = (so.one c call other.1).0 in_turn in
          let one : t ≡ has.0 = same_some t has.0 (sym turn ∙ has.1) in
          other.0 (sym has.2 ∙ sym (ap (λ (y : Turning). y.call) one) ∙ its)

  stop_so : (v : World C M) (keep : Bool) → PhaseSo (stop_of v keep)
  unfolding stop_of
  stop_so v keep = free_so _ refl (λ c call there. stopped_get v.calls c call there)

  step_so : (p : Rules C M) (v w : World C M) (e : Event) → PhaseSo v → step p v e ≡ Some w → PhaseSo w
  step_so p v w (on.Buy id start) so is = outside_so v w so (buy_outside p v w id start is)
  step_so p v w (on.Deliver k) so is = outside_so v w so (deliver_outside p v w k is)
  step_so p v w (on.Turn c) so is = turn_so p v w c so is
  step_so p v w (on.Write c) so is = write_so v w c so is
  step_so p v w (on.Open c) so is = open_so v w c so is
  step_so p v w (on.Answer c) so is = answer_so v w c so is
  step_so p v w (on.QuietConsumer id tid) so is = outside_so v w so (quiet_consumer_outside p v w id tid is)
  step_so p v w (on.QuietMerchant id consumer tid) so is = outside_so v w so (quiet_merchant_outside p v w id consumer tid is)
  step_so p v w (on.Stop keep) so is = subst PhaseSo (same_some (stop_of v keep) w is) (stop_so v keep)
  step_so p v w (on.RestartConsumer id) so is = outside_so v w so (restart_consumer_outside p v w id is)
  step_so p v w (on.RestartMerchant id) so is = outside_so v w so (restart_merchant_outside p v w id is)
  step_so p v w (on.Clock moment) so is = outside_so v w so (clock_outside p v w moment is)
  step_so p v w (on.Inject addressee kind body) so is = outside_so v w so (inject_outside p v w addressee kind body is)

  next_so : (p : Rules C M) (v : World C M) (e : Event) → PhaseSo v → PhaseSo (next p v e)
  next_so p v e so = cases (step p v e) refl
    where
      cases : (o : Option (World C M)) → step p v e ≡ o → PhaseSo (or_same v o)
      cases None is = so
      cases (Some w) is = step_so p v w e so is

  run_so : (p : Rules C M) (v : World C M) (es : List Event) → PhaseSo v → PhaseSo (run p v es)
  run_so p v [] so = so
  run_so p v (e ∷ es) so = run_so p (next p v e) es (next_so p v e so)

first_so : {C M : Type 0} (w : World C M) → w.turn ≡ None → w.calls ≡ [] → PhaseSo w
first_so w no_turn no_calls = free_so w no_turn (λ c call there. let e : slice_get [] c ≡ Some call = ap (λ calls. slice_get calls c) (sym no_calls) ∙ there in absurd cc)

pub turn_is_of_one_call : {C M : Type 0} → TurnIsOfOneCall C M
turn_is_of_one_call p w no_turn no_calls es = (run_so p w es (first_so w no_turn no_calls)).one

-- and it is what its call has, on what that asks
pub turn_is_of_its_call : {C M : Type 0} → StaysLegal → TurnIsOfItsCall C M
turn_is_of_its_call {C} {M} stays p w records setup es t is =
    let so : PhaseSo (run p w es) = run_so p w es (first_so w setup.no_turn setup.no_calls) in
    let sound : TurnSo p.verdict (run p w es) t = subst (TurnIs p.verdict (run p w es)) is (run_kept stays p records w (setup_sound p.verdict w setup) es).sound.turn in
    record {
      call = sound.asks.call;
      packet = sound.packet;
      stands = sound.asks.is;
      in_turn = (so.one t.call sound.asks.call sound.asks.is).1 (t, is, refl);
      of = sound.asks.of;
      within = sound.within;
      decided = sound.decided ∙ ap (λ (moment : ℕ). p.verdict (take t.at (run p w es).durable) (request_of sound.packet moment)) (sym sound.asks.at);
      written = so.written t is;
      unopened = unopened (run p w es) t t.stage sound.stage;
      opened = λ opened. subst (StageSo (run p w es) t) opened sound.stage;
    }
  where
    unopened : (v : World C M) (t : Turning) (s : Stage) → StageSo v t s → s ≢ stage.Opened → t.at ≡ length v.durable
    unopened v t stage.Decided so not = so
    unopened v t stage.Written so not = so
    unopened v t stage.Opened so not = absurd (not refl)

-- ---- nodes

module _ {C M : Type 0} (p : Rules C M) (w : World C M) where
  -- what is not read leaves the world, whatever was heard
  either_same : (b : Bool) (v : World C M) → b ≡ false → (if b then v else w) ≡ w
  either_same true v is = absurd cc
  either_same false v is = refl

  both_same : (b : Bool) (v : World C M) → v ≡ w → (if b then v else w) ≡ w
  both_same true v is = is
  both_same false v is = refl

  unread_consumer : (i : Option ℕ) (b : Bool) → b ≡ false → (heard : ℕ → C → World C M)
      → or_same w (i >>= (λ i. slice_get w.consumers i >>= (λ c. Some (if b then heard i c else w)))) ≡ w
  unread_consumer None b is heard = refl
  unread_consumer (Some i) b is heard = found (slice_get w.consumers i)
    where
      found : (o : Option C) → or_same w (o >>= (λ c. Some (if b then heard i c else w))) ≡ w
      found None = refl
      found (Some c) = either_same b (heard i c) is

  unread_merchant : (i : Option ℕ) (b : Bool) → b ≡ false → (heard : ℕ → M → World C M)
      → or_same w (i >>= (λ i. slice_get w.merchants i >>= (λ m. Some (if b then heard i m else w)))) ≡ w
  unread_merchant None b is heard = refl
  unread_merchant (Some i) b is heard = found (slice_get w.merchants i)
    where
      found : (o : Option M) → or_same w (o >>= (λ m. Some (if b then heard i m else w))) ≡ w
      found None = refl
      found (Some m) = either_same b (heard i m) is

  unread_delivered : (k : ℕ) (packet : Packet) (addressee : To) → addressee ≢ to.Server → p.is_body packet.kind packet.body ≡ false → or_same w (delivered_to p w k packet addressee) ≡ w
  unread_delivered k packet to.Server node is = absurd (node refl)
  unread_delivered k packet (to.Merchant id) node is =
      unread_merchant (merchant_at p w id) (p.is_body packet.kind packet.body) is (λ i m. merchant_goes w i id (p.merchant_hears m packet.kind packet.body w.moment))
  unread_delivered k packet (to.Consumer id) node is =
      unread_consumer (consumer_at p w id) (p.is_body packet.kind packet.body) is (λ i c. consumer_goes w i id (p.consumer_hears c packet.kind packet.body))

  unread : (k : ℕ) (packet : Packet) → slice_get w.packets k ≡ Some packet → packet.to ≢ to.Server → p.is_body packet.kind packet.body ≡ false → next p w (on.Deliver k) ≡ w
  unfolding deliver_of
  unread k packet stands node is = rw stands (unread_delivered k packet packet.to node is)

  consumer_stays : (i : ℕ) (id : PartyId) (g : Going C) → g ≡ Stays → consumer_goes w i id g ≡ w
  consumer_stays i id g is = ap (consumer_goes w i id) is

  merchant_stays : (i : ℕ) (id : PartyId) (g : Going M) → g ≡ Stays → merchant_goes w i id g ≡ w
  merchant_stays i id g is = ap (merchant_goes w i id) is

  consumer_ignores : (k : ℕ) (packet : Packet) (id : PartyId) → slice_get w.packets k ≡ Some packet → (c : C) → IsConsumer p w id c → packet.to ≡ to.Consumer id
      → p.consumer_hears c packet.kind packet.body ≡ Stays → next p w (on.Deliver k) ≡ w
  unfolding deliver_of
  consumer_ignores k packet id stands c is for_it ignored =
      rw (stands, for_it, is.first, is.stands) (both_same (p.is_body packet.kind packet.body) (consumer_goes w is.place id (p.consumer_hears c packet.kind packet.body)) (consumer_stays is.place id (p.consumer_hears c packet.kind packet.body) ignored))

  merchant_ignores : (k : ℕ) (packet : Packet) (id : PartyId) → slice_get w.packets k ≡ Some packet → (m : M) → IsMerchant p w id m → packet.to ≡ to.Merchant id
      → p.merchant_hears m packet.kind packet.body w.moment ≡ Stays → next p w (on.Deliver k) ≡ w
  unfolding deliver_of
  merchant_ignores k packet id stands m is for_it ignored =
      rw (stands, for_it, is.first, is.stands) (both_same (p.is_body packet.kind packet.body) (merchant_goes w is.place id (p.merchant_hears m packet.kind packet.body w.moment)) (merchant_stays is.place id (p.merchant_hears m packet.kind packet.body w.moment) ignored))

  quiet_consumer_ignores : (id : PartyId) (c : C) (tid : ℕ) → IsConsumer p w id c → p.consumer_waited c tid ≡ Stays → next p w (on.QuietConsumer id tid) ≡ w
  unfolding quiet_consumer_of
  quiet_consumer_ignores id c tid is ignored = rw (is.first, is.stands) (knows (p.has_purchase tid c))
    where
      knows : (b : Bool) → or_same w (where_so b >>= (λ known. Some (consumer_goes w is.place id (p.consumer_waited c tid)))) ≡ w
      knows true = consumer_stays is.place id (p.consumer_waited c tid) ignored
      knows false = refl

  quiet_merchant_ignores : (id : PartyId) (m : M) (buyer : PartyId) (tid : ℕ) → IsMerchant p w id m → p.merchant_waited m buyer tid ≡ Stays → next p w (on.QuietMerchant id buyer tid) ≡ w
  unfolding quiet_merchant_of
  quiet_merchant_ignores id m buyer tid is ignored = rw (is.first, is.stands) (knows (p.has_sale buyer tid m))
    where
      knows : (b : Bool) → or_same w (where_so b >>= (λ known. Some (merchant_goes w is.place id (p.merchant_waited m buyer tid)))) ≡ w
      knows true = merchant_stays is.place id (p.merchant_waited m buyer tid) ignored
      knows false = refl

pub unread_changes_nothing : {C M : Type 0} → UnreadChangesNothing C M
unread_changes_nothing p w k packet stands node is = unread p w k packet stands node is

pub ignored_changes_nothing : {C M : Type 0} → IgnoredChangesNothing C M
ignored_changes_nothing p w id = (
  (λ k packet c stands. consumer_ignores p w k packet id stands c),
  (λ k packet m stands. merchant_ignores p w k packet id stands m),
  (λ c tid is ignored. quiet_consumer_ignores p w id c tid is ignored),
  (λ m buyer tid is ignored. quiet_merchant_ignores p w id m buyer tid is ignored),
)
