-- What each event does to calls, packets and entries, in every world.
use Rattle.std.proofs.Common.{◌≡◌, ◌⊎◌, inl, inr, ℕ, ◌<◌, ◌≤◌, Bool, List, [], ◌∷◌, ◌++◌, length, Option, None, Some, refl, sym, ap, subst, ◌∙◌, arith, length-append}
use Rattle.std.proofs.lemmas.Option.{slice_get_within}
use Rattle.std.specs.Prelude.{◌==◌}
use Rattle.std.specs.Option.{option_to_list, option_map, is_none}
use Rattle.std.specs.List.{slice_get, AllByRecursion}
use Rattle.nb_entry.specs.declared.entry.Entry.{Entry}
use Rattle.nb_world.specs.declared.call.Call.{Call}
use Rattle.nb_world.specs.declared.call.CallPhase.TheVariants.{InTurn, Answered}
use Rattle.nb_world.specs.declared.event.Event.{Event}
use Rattle.nb_world.specs.declared.event.Event.TheVariants as on
use Rattle.nb_world.specs.declared.packet.Maker.TheVariants as by
use Rattle.nb_world.specs.declared.packet.Packet.{Packet}
use Rattle.nb_msgs.specs.declared.node.To.{To}
use Rattle.nb_world.specs.declared.turning.Stage.TheVariants as stage
use Rattle.nb_world.specs.declared.turning.Turning.{Turning}
use Rattle.nb_world.specs.World.{Rules, World, request_of, is_decided, is_written}
use Rattle.nb_world.specs.Steps.{where_so, is_waiting, set_phase, may_answer, asker_of, reply_to, acknowledged_by, origin_of, left, origins_left, turn_of, write_of, open_of, answer_of, stop_of, step, next, or_same, run}
use Rattle.nb_world.specs.Laws.{GrowsInto, OnlyGrows, RepliesReadAll}
use Rattle.nb_world.proofs.Chains.{inside, same_some}
use Rattle.nb_world.proofs.Lists.{begins_same, all_append, all_weaker, all_at}
use Rattle.nb_world.proofs.Growing.{grows_same, grows_then, get_begins, longer}
use Rattle.nb_world.proofs.Outside.{Outside, NotByHouse, outside_grows, buy_outside, quiet_consumer_outside, quiet_merchant_outside, restart_consumer_outside, restart_merchant_outside, clock_outside, inject_outside, deliver_outside}
use Rattle.nb_world.proofs.Serving.{asks_phase, asks_stopped}
use Rattle.nb_world.proofs.Stopping.{run_then}
use Rattle.nb_world.proofs.Tying.{length_phase, length_stopped}

-- a packet that the house made is of the turn
MadeInTurn : Option Turning → Packet → Type 0
MadeInTurn turn made = (c at : ℕ) → made.maker ≡ by.Server c at → (t : Turning) × (turn ≡ Some t) × (t.call ≡ c) × (t.at ≡ at)

module _ {C M : Type 0} where
  -- a turn is an earlier one at whatever stage, or that of a call that was there, over all entries
  TurnFrom : World C M → Turning → Type 0
  TurnFrom v t = ((u : Turning) × (v.turn ≡ Some u) × (u.call ≡ t.call) × (u.at ≡ t.at)) ⊎ ((call : Call) × (slice_get v.calls t.call ≡ Some call) × (t.at ≡ length v.server))

  record Moves (v w : World C M) : Type 0 where
    pub grows : GrowsInto v w
    pub more : length v.calls ≤ length w.calls
    pub same : v.server ≡ v.durable → w.server ≡ w.durable
    pub replies : AllByRecursion (MadeInTurn v.turn) grows.packets.0
    pub turn : (t : Turning) → w.turn ≡ Some t → TurnFrom v t

  no_turn : (v w : World C M) → w.turn ≡ None → (t : Turning) → w.turn ≡ Some t → TurnFrom v t
  no_turn v w none t is = let e : None ≡ Some t = sym none ∙ is in absurd cc

  later_turn : (v w : World C M) (t u : Turning) → v.turn ≡ Some t → w.turn ≡ Some u → t.call ≡ u.call → t.at ≡ u.at → (x : Turning) → w.turn ≡ Some x → TurnFrom v x
  unfolding TurnFrom
  later_turn v w t u old new call at x is =
      let same : u ≡ x = same_some u x (sym new ∙ is) in
      inl (t, old, call ∙ ap (λ (y : Turning). y.call) same, at ∙ ap (λ (y : Turning). y.at) same)

  same_moves : (v : World C M) → Moves v v
  unfolding TurnFrom
  same_moves v = record {
    grows = record {
      durable = begins_same v.durable;
      packets = begins_same v.packets;
      origins = begins_same v.origins;
      acknowledged = begins_same v.acknowledged;
      calls = λ c packet moment asks. asks;
    };
    more = omega arith;
    same = λ is. is;
    replies = tt;
    turn = λ t is. inl (t, is, refl, refl);
  }

  outside_moves : (v w : World C M) → Outside v w → Moves v w
  unfolding TurnFrom MadeInTurn
  outside_moves v w out = record {
    grows = outside_grows v w out;
    more = omega (arith, ap length out.calls, length-append v.calls out.asked);
    same = λ is. out.server ∙ is ∙ sym out.durable;
    replies = all_weaker NotByHouse (MadeInTurn v.turn) out.made (λ (made : Packet) (not : NotByHouse made) (c at : ℕ) (is : made.maker ≡ by.Server c at). absurd (not c at is)) out.not_by_house;
    turn = λ t is. inl (t, sym out.turn ∙ is, refl, refl);
  }

  turn_moves : (p : Rules C M) (v w : World C M) (c : ℕ) → turn_of p v c ≡ Some w → Moves v w
  unfolding turn_of TurnFrom
  turn_moves p v w c is =
      let free = inside (where_so (is_none v.turn)) _ w is in
      let call = inside (slice_get v.calls c) _ w free.2 in
      let waits = inside (where_so (is_waiting call.0.phase)) _ w call.2 in
      let packet = inside (slice_get v.packets call.0.packet) _ w waits.2 in
      subst (Moves v) (same_some _ w packet.2) (taken call.0 call.1 (record { call = c; at = length v.server; verdict = p.verdict v.server (request_of packet.0 call.0.moment); stage = stage.Decided }) refl refl)
    where
      taken : (call : Call) → slice_get v.calls c ≡ Some call → (t : Turning) → t.call ≡ c → t.at ≡ length v.server → Moves v (record v { turn = Some t; calls = set_phase InTurn v.calls c })
      taken call there t its at =
          let w : World C M = record v { turn = Some t; calls = set_phase InTurn v.calls c } in
          record {
            grows = record {
              durable = begins_same v.durable;
              packets = begins_same v.packets;
              origins = begins_same v.origins;
              acknowledged = begins_same v.acknowledged;
              calls = asks_phase v w (λ k packet is. is) InTurn c refl;
            };
            more = omega (arith, length_phase InTurn v.calls c);
            same = λ is. is;
            replies = tt;
            turn = λ x is.
                let same : t ≡ x = same_some t x is in
                inr (call, ap (slice_get v.calls) (sym (ap (λ (y : Turning). y.call) same) ∙ its) ∙ there, sym (ap (λ (y : Turning). y.at) same) ∙ at);
          }

  write_moves : (v w : World C M) (c : ℕ) → write_of v c ≡ Some w → Moves v w
  unfolding write_of
  write_moves v w c is =
      let t = inside v.turn _ w is in
      let its = inside (where_so (t.0.call == c)) _ w t.2 in
      let decided = inside (where_so (is_decided t.0.stage)) _ w its.2 in
      let entry = inside t.0.verdict.entry _ w decided.2 in
      subst (Moves v) (same_some _ w entry.2) (written t.0 (record { call = t.0.call; at = t.0.at; verdict = t.0.verdict; stage = stage.Written }) t.1 refl refl)
    where
      written : (t u : Turning) → v.turn ≡ Some t → t.call ≡ u.call → t.at ≡ u.at → Moves v (record v { turn = Some u })
      written t u old call at =
          let w : World C M = record v { turn = Some u } in
          record {
            grows = record {
              durable = begins_same v.durable;
              packets = begins_same v.packets;
              origins = begins_same v.origins;
              acknowledged = begins_same v.acknowledged;
              calls = λ c packet moment asks. record { call = asks.call; is = asks.is; of = asks.of; at = asks.at };
            };
            more = omega arith;
            same = λ is. is;
            replies = tt;
            turn = later_turn v w t u old refl call at;
          }

  open_moves : (v w : World C M) (c : ℕ) → open_of v c ≡ Some w → Moves v w
  unfolding open_of
  open_moves v w c is =
      let t = inside v.turn _ w is in
      let its = inside (where_so (t.0.call == c)) _ w t.2 in
      let written = inside (where_so (is_written t.0.stage)) _ w its.2 in
      let entry = inside t.0.verdict.entry _ w written.2 in
      subst (Moves v) (same_some _ w entry.2) (opened t.0 (record { call = t.0.call; at = t.0.at; verdict = t.0.verdict; stage = stage.Opened }) entry.0 t.1 refl refl)
    where
      opened : (t u : Turning) (entry : Entry) → v.turn ≡ Some t → t.call ≡ u.call → t.at ≡ u.at
          → Moves v (record v { turn = Some u; durable = v.durable ++ entry ∷ []; server = v.server ++ entry ∷ []; origins = v.origins ++ origin_of v.durable c ∷ [] })
      opened t u entry old call at =
          let w : World C M = record v { turn = Some u; durable = v.durable ++ entry ∷ []; server = v.server ++ entry ∷ []; origins = v.origins ++ origin_of v.durable c ∷ [] } in
          record {
            grows = record {
              durable = (entry ∷ [], refl);
              packets = begins_same v.packets;
              origins = (origin_of v.durable c ∷ [], refl);
              acknowledged = begins_same v.acknowledged;
              calls = λ c packet moment asks. record { call = asks.call; is = asks.is; of = asks.of; at = asks.at };
            };
            more = omega arith;
            same = λ is. ap (λ entries. entries ++ entry ∷ []) is;
            replies = tt;
            turn = later_turn v w t u old refl call at;
          }

  answer_moves : (v w : World C M) (c : ℕ) → answer_of v c ≡ Some w → Moves v w
  unfolding answer_of MadeInTurn
  answer_moves v w c is =
      let t = inside v.turn _ w is in
      let its = inside (where_so (t.0.call == c)) _ w t.2 in
      let ready = inside (where_so (may_answer t.0.stage t.0.verdict.entry)) _ w its.2 in
      subst (Moves v) (same_some _ w ready.2) (answered t.0 t.1)
    where
      made : (t : Turning) → v.turn ≡ Some t → (o : Option To) → AllByRecursion (MadeInTurn v.turn) (option_to_list (option_map (reply_to t) o))
      made t turn None = tt
      made t turn (Some addressee) = ((λ c at is. (t, turn, cc, cc)), tt)

      answered : (t : Turning) → v.turn ≡ Some t → Moves v (record v {
        turn = None;
        calls = set_phase Answered v.calls c;
        packets = v.packets ++ option_to_list (option_map (reply_to t) (asker_of v c));
        acknowledged = v.acknowledged ++ acknowledged_by t;
      })
      answered t turn =
          let w : World C M = record v {
            turn = None;
            calls = set_phase Answered v.calls c;
            packets = v.packets ++ option_to_list (option_map (reply_to t) (asker_of v c));
            acknowledged = v.acknowledged ++ acknowledged_by t;
          } in
          record {
            grows = record {
              durable = begins_same v.durable;
              packets = (option_to_list (option_map (reply_to t) (asker_of v c)), refl);
              origins = begins_same v.origins;
              acknowledged = (acknowledged_by t, refl);
              calls = asks_phase v w (λ k packet is. get_begins v.packets w.packets (option_to_list (option_map (reply_to t) (asker_of v c)), refl) k packet is) Answered c refl;
            };
            more = omega (arith, length_phase Answered v.calls c);
            same = λ is. is;
            replies = made t turn (asker_of v c);
            turn = no_turn v w refl;
          }

  stop_moves : (v : World C M) (keep : Bool) → Moves v (stop_of v keep)
  unfolding stop_of
  stop_moves v keep = record {
    grows = record {
      durable = (option_to_list (left keep v.turn), refl);
      packets = begins_same v.packets;
      origins = (origins_left v.durable keep v.turn, refl);
      acknowledged = begins_same v.acknowledged;
      calls = asks_stopped v (stop_of v keep) (λ k packet is. is) refl;
    };
    more = omega (arith, length_stopped v.calls);
    same = λ is. refl;
    replies = tt;
    turn = no_turn v (stop_of v keep) refl;
  }

  step_moves : (p : Rules C M) (v w : World C M) (e : Event) → step p v e ≡ Some w → Moves v w
  step_moves p v w (on.Buy id start) is = outside_moves v w (buy_outside p v w id start is)
  step_moves p v w (on.Deliver k) is = outside_moves v w (deliver_outside p v w k is)
  step_moves p v w (on.Turn c) is = turn_moves p v w c is
  step_moves p v w (on.Write c) is = write_moves v w c is
  step_moves p v w (on.Open c) is = open_moves v w c is
  step_moves p v w (on.Answer c) is = answer_moves v w c is
  step_moves p v w (on.QuietConsumer id tid) is = outside_moves v w (quiet_consumer_outside p v w id tid is)
  step_moves p v w (on.QuietMerchant id consumer tid) is = outside_moves v w (quiet_merchant_outside p v w id consumer tid is)
  step_moves p v w (on.Stop keep) is = subst (Moves v) (same_some (stop_of v keep) w is) (stop_moves v keep)
  step_moves p v w (on.RestartConsumer id) is = outside_moves v w (restart_consumer_outside p v w id is)
  step_moves p v w (on.RestartMerchant id) is = outside_moves v w (restart_merchant_outside p v w id is)
  step_moves p v w (on.Clock moment) is = outside_moves v w (clock_outside p v w moment is)
  step_moves p v w (on.Inject addressee kind body) is = outside_moves v w (inject_outside p v w addressee kind body is)

  next_moves : (p : Rules C M) (v : World C M) (e : Event) → Moves v (next p v e)
  next_moves p v e = cases (step p v e) refl
    where
      cases : (o : Option (World C M)) → step p v e ≡ o → Moves v (or_same v o)
      cases None is = same_moves v
      cases (Some w) is = step_moves p v w e is

pub only_grows : {C M : Type 0} → OnlyGrows C M
only_grows p w [] = grows_same w
only_grows p w (e ∷ es) = grows_then w (next p w e) (run p (next p w e) es) (next_moves p w e).grows (only_grows p (next p w e) es)

-- ---- where replies were read

-- each reply, and the turn, is of a call that was delivered
record AllCalled {C M : Type 0} (v : World C M) : Type 0 where
  pub same : v.server ≡ v.durable
  pub turn : (t : Turning) → v.turn ≡ Some t → t.call < length v.calls
  pub replies : AllByRecursion (λ (made : Packet). (c at : ℕ) → made.maker ≡ by.Server c at → c < length v.calls) v.packets

-- where the call is none of the first n, these were read over no fewer than m entries
record ReadOver {C M : Type 0} (n m : ℕ) (v : World C M) : Type 0 where
  pub same : v.server ≡ v.durable
  pub long : m ≤ length v.durable
  pub turn : (t : Turning) → v.turn ≡ Some t → n ≤ t.call → m ≤ t.at
  pub replies : AllByRecursion (λ (made : Packet). (c at : ℕ) → made.maker ≡ by.Server c at → n ≤ c → m ≤ at) v.packets

module _ {C M : Type 0} where
  called_next : (v w : World C M) → Moves v w → AllCalled v → AllCalled w
  unfolding TurnFrom MadeInTurn
  called_next v w moves old = record {
    same = moves.same old.same;
    turn = λ t is. from t (moves.turn t is);
    replies = subst (AllByRecursion Within) (sym moves.grows.packets.1) (all_append Within v.packets moves.grows.packets.0
        (all_weaker (λ (made : Packet). (c at : ℕ) → made.maker ≡ by.Server c at → c < length v.calls) Within v.packets
        (λ (made : Packet) (is : (c at : ℕ) → made.maker ≡ by.Server c at → c < length v.calls) (c at : ℕ) (maker : made.maker ≡ by.Server c at).
        let before : c < length v.calls = is c at maker in omega (arith, moves.more)) old.replies)
        (all_weaker (MadeInTurn v.turn) Within moves.grows.packets.0
        (λ (made : Packet) (is : MadeInTurn v.turn made) (c at : ℕ) (maker : made.maker ≡ by.Server c at).
        let t = is c at maker in let before : t.0.call < length v.calls = old.turn t.0 t.1 in omega (arith, moves.more, t.2)) moves.replies));
  }
    where
      Within : Packet → Type 0
      Within made = (c at : ℕ) → made.maker ≡ by.Server c at → c < length w.calls

      from : (t : Turning) → TurnFrom v t → t.call < length w.calls
      from t (inl earlier) = let before : earlier.0.call < length v.calls = old.turn earlier.0 earlier.1 in omega (arith, moves.more, earlier.2)
      from t (inr new) = let before : t.call < length v.calls = slice_get_within v.calls t.call new.0 new.1 in omega (arith, moves.more)

  read_next : (n m : ℕ) (v w : World C M) → Moves v w → ReadOver n m v → ReadOver n m w
  unfolding TurnFrom MadeInTurn
  read_next n m v w moves old = record {
    same = moves.same old.same;
    long = omega (arith, old.long, longer v.durable w.durable moves.grows.durable);
    turn = λ t is. from t (moves.turn t is);
    replies = subst (AllByRecursion Over) (sym moves.grows.packets.1) (all_append Over v.packets moves.grows.packets.0 old.replies
        (all_weaker (MadeInTurn v.turn) Over moves.grows.packets.0
        (λ (made : Packet) (is : MadeInTurn v.turn made) (c at : ℕ) (maker : made.maker ≡ by.Server c at) (late : n ≤ c).
        let t = is c at maker in let over : m ≤ t.0.at = old.turn t.0 t.1 (omega (arith, late, t.2)) in omega (arith, t.3)) moves.replies));
  }
    where
      Over : Packet → Type 0
      Over made = (c at : ℕ) → made.maker ≡ by.Server c at → n ≤ c → m ≤ at

      from : (t : Turning) → TurnFrom v t → n ≤ t.call → m ≤ t.at
      from t (inl earlier) late = let over : m ≤ earlier.0.at = old.turn earlier.0 earlier.1 (omega (arith, late, earlier.2)) in omega (arith, earlier.3)
      from t (inr new) late = omega (arith, new.2, ap length old.same, old.long)

  run_called : (p : Rules C M) (v : World C M) (es : List Event) → AllCalled v → AllCalled (run p v es)
  run_called p v [] old = old
  run_called p v (e ∷ es) old = run_called p (next p v e) es (called_next v (next p v e) (next_moves p v e) old)

  run_read : (n m : ℕ) (p : Rules C M) (v : World C M) (es : List Event) → ReadOver n m v → ReadOver n m (run p v es)
  run_read n m p v [] old = old
  run_read n m p v (e ∷ es) old = run_read n m p (next p v e) es (read_next n m v (next p v e) (next_moves p v e) old)

  -- from here on
  read_here : (v : World C M) → AllCalled v → ReadOver (length v.calls) (length v.durable) v
  read_here v called = record {
    same = called.same;
    long = omega arith;
    turn = λ t is late. let before : t.call < length v.calls = called.turn t is in omega (arith, late);
    replies = all_weaker (λ (made : Packet). (c at : ℕ) → made.maker ≡ by.Server c at → c < length v.calls)
        (λ (made : Packet). (c at : ℕ) → made.maker ≡ by.Server c at → length v.calls ≤ c → length v.durable ≤ at) v.packets
        (λ (made : Packet) (is : (c at : ℕ) → made.maker ≡ by.Server c at → c < length v.calls) (c at : ℕ) (maker : made.maker ≡ by.Server c at) (late : length v.calls ≤ c).
        let before : c < length v.calls = is c at maker in omega (arith, late)) called.replies;
  }

pub replies_read_all : {C M : Type 0} → RepliesReadAll C M
replies_read_all {C} {M} p w same packets turn before more k c at made there maker late =
    let first : AllCalled w = record {
      same = same;
      turn = λ t is. let e : None ≡ Some t = sym turn ∙ is in absurd cc;
      replies = subst (AllByRecursion (λ (made : Packet). (c at : ℕ) → made.maker ≡ by.Server c at → c < length w.calls)) (sym packets) tt;
    } in
    let v : World C M = run p w before in
    let read : ReadOver (length v.calls) (length v.durable) (run p v more) = run_read (length v.calls) (length v.durable) p v more (read_here v (run_called p w before first)) in
    let stands : slice_get (run p v more).packets k ≡ Some made = ap (λ (x : World C M). slice_get x.packets k) (sym (run_then p w before more)) ∙ there in
    all_at (λ (x : Packet). (c at : ℕ) → x.maker ≡ by.Server c at → length v.calls ≤ c → length v.durable ≤ at) (run p v more).packets k made stands read.replies c at maker late
