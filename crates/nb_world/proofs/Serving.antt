-- The house's own events, and every list of events.
use Rattle.std.proofs.Common.{◌≡◌, ℕ, ◌≤◌, Bool, true, false, List, [], ◌∷◌, ◌++◌, length, take, Option, None, Some, refl, sym, ap, subst, ◌∙◌, arith, length-append}
use Rattle.std.proofs.lemmas.List.{append-nil, take_at}
use Rattle.std.proofs.lemmas.Bool.{eqb-true}
use Rattle.std.specs.Prelude.{◌==◌, map}
use Rattle.std.specs.Option.{option_to_list, option_map, is_none}
use Rattle.std.specs.List.{slice_get, AllByRecursion}
use Rattle.nb_entry.specs.declared.entry.Entry.{Entry}
use Rattle.nb_book.specs.Legal.{Legal}
use Rattle.nb_book.specs.Laws.{StaysLegal}
use Rattle.nb_turns.specs.Turns.{Request}
use Rattle.nb_world.specs.declared.call.Call.{Call}
use Rattle.nb_world.specs.declared.call.CallPhase.{CallPhase}
use Rattle.nb_world.specs.declared.call.CallPhase.TheVariants.{InTurn, Answered}
use Rattle.nb_world.specs.declared.event.Event.{Event}
use Rattle.nb_world.specs.declared.event.Event.TheVariants as on
use Rattle.nb_world.specs.declared.packet.Maker.{Maker}
use Rattle.nb_world.specs.declared.packet.Maker.TheVariants as by
use Rattle.nb_world.specs.declared.packet.Packet.{Packet}
use Rattle.nb_msgs.specs.declared.node.To.{To}
use Rattle.nb_msgs.specs.declared.node.To.TheVariants as to
use Rattle.nb_world.specs.declared.turning.Acknowledged.{Acknowledged}
use Rattle.nb_world.specs.declared.turning.Origin.{Origin}
use Rattle.nb_world.specs.declared.turning.Stage.{Stage}
use Rattle.nb_world.specs.declared.turning.Stage.TheVariants as stage
use Rattle.nb_world.specs.declared.turning.Turning.{Turning}
use Rattle.nb_world.specs.declared.turning.Verdict.{Verdict}
use Rattle.nb_world.specs.World.{Rules, World, request_of, is_decided, is_written, written_at}
use Rattle.nb_world.specs.Steps.{where_so, is_waiting, in_phase, set_phase, stopped, may_answer, node_of, asker_of, reply_to, acknowledged_by, origin_of, left, origins_left, turn_of, write_of, open_of, answer_of, stop_of, step, next, or_same, run}
use Rattle.nb_world.specs.Laws.{Asks, CallsHouse, CameBy, StandsDurable, IsAsker, RepliesSo, RecordsLegal, IsSetUp, WorldLaw, GrowsInto}
use Rattle.nb_world.proofs.Chains.{inside, holds, same_some}
use Rattle.nb_world.proofs.Lists.{get_last, begins_same, Remains, phase_remains, stopped_remains, all_phase, all_stopped}
use Rattle.nb_world.proofs.Growing.{StageSo, TurnSo, TurnIs, Sound, grows_same, grows_then, lawful_later, called_later, take_begins, get_begins}
use Rattle.nb_world.proofs.Outside.{Kept, outside_kept, buy_outside, quiet_consumer_outside, quiet_merchant_outside, restart_consumer_outside, restart_merchant_outside, clock_outside, inject_outside, deliver_outside}

-- ---- calls in another phase

module _ {C M : Type 0} (v w : World C M) (packets : (k : ℕ) (packet : Packet) → slice_get v.packets k ≡ Some packet → slice_get w.packets k ≡ Some packet) where
  pub asks_phase : (phase : CallPhase) (k : ℕ) → w.calls ≡ set_phase phase v.calls k → (c : ℕ) (packet : Packet) (moment : ℕ) → Asks v c packet moment → Asks w c packet moment
  asks_phase phase k calls c packet moment asks =
      let r : Remains (set_phase phase v.calls k) c asks.call = phase_remains phase v.calls k c asks.call asks.is in
      record {
        call = r.now;
        is = ap (λ all. slice_get all c) calls ∙ r.is;
        of = ap (λ number. slice_get w.packets number) r.packet ∙ packets asks.call.packet packet asks.of;
        at = r.moment ∙ asks.at;
      }

  pub asks_stopped : w.calls ≡ map stopped v.calls → (c : ℕ) (packet : Packet) (moment : ℕ) → Asks v c packet moment → Asks w c packet moment
  asks_stopped calls c packet moment asks = record {
    call = stopped asks.call;
    is = ap (λ all. slice_get all c) calls ∙ stopped_remains v.calls c asks.call asks.is;
    of = packets asks.call.packet packet asks.of;
    at = asks.at;
  }

-- a call of a packet for the house is one in every phase
called_phase : {C M : Type 0} (w : World C M) (phase : CallPhase) (call : Call) → CallsHouse w call → CallsHouse w (in_phase phase call)
called_phase w phase call is = record { packet = is.packet; of = is.of; for_house = is.for_house }

-- ---- the rows

module _ {C M : Type 0} (stays : StaysLegal) (p : Rules C M) (records : RecordsLegal p.verdict) (v : World C M) (sound : Sound p.verdict v) where
  -- what a turn of this world is
  its_turn : (t : Turning) → v.turn ≡ Some t → TurnSo p.verdict v t
  its_turn t is = subst (TurnIs p.verdict v) is sound.turn

  turn_kept : (w : World C M) (c : ℕ) → turn_of p v c ≡ Some w → Kept p.verdict v w
  unfolding turn_of
  turn_kept w c is =
      let free = inside (where_so (is_none v.turn)) _ w is in
      let call = inside (slice_get v.calls c) _ w free.2 in
      let waits = inside (where_so (is_waiting call.0.phase)) _ w call.2 in
      let packet = inside (slice_get v.packets call.0.packet) _ w waits.2 in
      subst (Kept p.verdict v) (same_some _ w packet.2) (taken call.0 packet.0 call.1 packet.1)
    where
      taken : (call : Call) (packet : Packet) → slice_get v.calls c ≡ Some call → slice_get v.packets call.packet ≡ Some packet
          → Kept p.verdict v (record v {
            turn = Some (record { call = c; at = length v.server; verdict = p.verdict v.server (request_of packet call.moment); stage = stage.Decided });
            calls = set_phase InTurn v.calls c;
          })
      taken call packet there asks =
          let w : World C M = record v {
            turn = Some (record { call = c; at = length v.server; verdict = p.verdict v.server (request_of packet call.moment); stage = stage.Decided });
            calls = set_phase InTurn v.calls c;
          } in
          let grows : GrowsInto v w = record {
            durable = begins_same v.durable;
            packets = begins_same v.packets;
            origins = begins_same v.origins;
            acknowledged = begins_same v.acknowledged;
            calls = asks_phase v w (λ k packet is. is) InTurn c refl;
          } in
          let all : take (length v.server) v.durable ≡ v.server =
          ap (λ entries. take (length entries) v.durable) sound.lawful.same ∙ ap (take (length v.durable)) (sym (append-nil v.durable)) ∙ take_at v.durable [] (length v.durable) refl ∙ sym sound.lawful.same in
          record {
            sound = record {
              lawful = lawful_later p.verdict v w grows sound.lawful sound.lawful.legal sound.lawful.same
                  (all_phase (CallsHouse w) (called_phase w) InTurn v.calls c (called_later p.verdict v w grows sound.lawful.called)) tt tt tt;
              turn = record {
                packet = packet;
                moment = call.moment;
                asks = grows.calls c packet call.moment (record { call = call; is = there; of = asks; at = refl });
                within = omega (arith, ap length sound.lawful.same);
                decided = ap (λ entries. p.verdict entries (request_of packet call.moment)) (sym all);
                stage = ap length sound.lawful.same;
              };
            };
            grows = grows;
          }

  -- a turn that comes to another stage
  staged : (t : Turning) (s : Stage) → TurnSo p.verdict v t → StageSo v t s
      → Kept p.verdict v (record v { turn = Some (record { call = t.call; at = t.at; verdict = t.verdict; stage = s }) })
  staged t s is so =
      let w : World C M = record v { turn = Some (record { call = t.call; at = t.at; verdict = t.verdict; stage = s }) } in
      let grows : GrowsInto v w = record {
        durable = begins_same v.durable;
        packets = begins_same v.packets;
        origins = begins_same v.origins;
        acknowledged = begins_same v.acknowledged;
        calls = λ c packet moment asks. record { call = asks.call; is = asks.is; of = asks.of; at = asks.at };
      } in
      record {
        sound = record {
          lawful = lawful_later p.verdict v w grows sound.lawful sound.lawful.legal sound.lawful.same (called_later p.verdict v w grows sound.lawful.called) tt tt tt;
          turn = record { packet = is.packet; moment = is.moment; asks = grows.calls t.call is.packet is.moment is.asks; within = is.within; decided = is.decided; stage = stage_so s so };
        };
        grows = grows;
      }
    where
      stage_so : (s : Stage) → StageSo v t s
          → StageSo (let w : World C M = record v { turn = Some (record { call = t.call; at = t.at; verdict = t.verdict; stage = s }) } in w) (record { call = t.call; at = t.at; verdict = t.verdict; stage = s }) s
      stage_so stage.Decided so = so
      stage_so stage.Written so = so
      stage_so stage.Opened so = so

  at_decided : (t : Turning) (s : Stage) → is_decided s ≡ true → StageSo v t s → StageSo v t stage.Written
  at_decided t stage.Decided is so = so
  at_decided t stage.Written is so = absurd cc
  at_decided t stage.Opened is so = absurd cc

  at_written : (t : Turning) (s : Stage) → is_written s ≡ true → StageSo v t s → t.at ≡ length v.durable
  at_written t stage.Decided is so = absurd cc
  at_written t stage.Written is so = so
  at_written t stage.Opened is so = absurd cc

  write_kept : (w : World C M) (c : ℕ) → write_of v c ≡ Some w → Kept p.verdict v w
  unfolding write_of
  write_kept w c is =
      let t = inside v.turn _ w is in
      let its = inside (where_so (t.0.call == c)) _ w t.2 in
      let decided = inside (where_so (is_decided t.0.stage)) _ w its.2 in
      let entry = inside t.0.verdict.entry _ w decided.2 in
      let so : TurnSo p.verdict v t.0 = its_turn t.0 t.1 in
      subst (Kept p.verdict v) (same_some _ w entry.2)
      (staged t.0 stage.Written so (at_decided t.0 t.0.stage (holds _ decided.0 decided.1) so.stage))

  -- what the verdict over all entries records may come next
  legal_next : (packet : Packet) (moment : ℕ) (entry : Entry) → (p.verdict v.durable (request_of packet moment)).entry ≡ Some entry → Legal (v.durable ++ entry ∷ [])
  legal_next packet moment entry ruled = stays v.durable entry sound.lawful.legal (records v.durable (request_of packet moment) entry sound.lawful.legal ruled)

  all_of : (n : ℕ) → n ≡ length v.durable → take n v.durable ≡ v.durable
  all_of n is = ap (λ k. take k v.durable) is ∙ ap (take (length v.durable)) (sym (append-nil v.durable)) ∙ take_at v.durable [] (length v.durable) refl

  -- the turn's verdict is over all entries
  ruled_by : (t : Turning) (entry : Entry) → (so : TurnSo p.verdict v t) → t.at ≡ length v.durable → t.verdict.entry ≡ Some entry → (p.verdict v.durable (request_of so.packet so.moment)).entry ≡ Some entry
  ruled_by t entry so at is =
      ap (λ entries. (p.verdict entries (request_of so.packet so.moment)).entry) (sym (all_of t.at at)) ∙ sym (ap (λ (x : Verdict). x.entry) so.decided) ∙ is

  -- a world that has one entry more, which came by a call
  came_next : (w : World C M) (c : ℕ) (packet : Packet) (moment : ℕ) (entry : Entry) → w.durable ≡ v.durable ++ entry ∷ [] → Asks w c packet moment
      → (p.verdict v.durable (request_of packet moment)).entry ≡ Some entry → CameBy p.verdict w (origin_of v.durable c)
  came_next w c packet moment entry is asks ruled = record {
    packet = packet;
    moment = moment;
    entry = entry;
    asks = asks;
    stands = ap (λ entries. slice_get entries (length v.durable)) is ∙ get_last v.durable [] entry;
    ruled = ap (λ entries. (p.verdict entries (request_of packet moment)).entry) (ap (take (length v.durable)) is ∙ take_at v.durable (entry ∷ []) (length v.durable) refl) ∙ ruled;
  }

  opened : (t : Turning) (c : ℕ) (entry : Entry) → TurnSo p.verdict v t → t.call ≡ c → t.at ≡ length v.durable → t.verdict.entry ≡ Some entry
      → Kept p.verdict v (record v {
        turn = Some (record { call = t.call; at = t.at; verdict = t.verdict; stage = stage.Opened });
        durable = v.durable ++ entry ∷ [];
        server = v.server ++ entry ∷ [];
        origins = v.origins ++ origin_of v.durable c ∷ [];
      })
  opened t c entry so its at is =
      let w : World C M = record v {
        turn = Some (record { call = t.call; at = t.at; verdict = t.verdict; stage = stage.Opened });
        durable = v.durable ++ entry ∷ [];
        server = v.server ++ entry ∷ [];
        origins = v.origins ++ origin_of v.durable c ∷ [];
      } in
      let grows : GrowsInto v w = record {
        durable = (entry ∷ [], refl);
        packets = begins_same v.packets;
        origins = (origin_of v.durable c ∷ [], refl);
        acknowledged = begins_same v.acknowledged;
        calls = λ c packet moment asks. record { call = asks.call; is = asks.is; of = asks.of; at = asks.at };
      } in
      let ruled : (p.verdict v.durable (request_of so.packet so.moment)).entry ≡ Some entry = ruled_by t entry so at is in
      let asks : Asks w c so.packet so.moment = subst (λ n. Asks w n so.packet so.moment) its (grows.calls t.call so.packet so.moment so.asks) in
      record {
        sound = record {
          lawful = lawful_later p.verdict v w grows sound.lawful (legal_next so.packet so.moment entry ruled) (ap (λ entries. entries ++ entry ∷ []) sound.lawful.same)
              (called_later p.verdict v w grows sound.lawful.called) (came_next w c so.packet so.moment entry refl asks ruled, tt) tt tt;
          turn = record {
            packet = so.packet;
            moment = so.moment;
            asks = grows.calls t.call so.packet so.moment so.asks;
            within = omega (arith, so.within, length-append v.durable (entry ∷ []));
            decided = so.decided ∙ ap (λ entries. p.verdict entries (request_of so.packet so.moment)) (sym (take_begins v.durable w.durable grows.durable t.at so.within));
            stage = (entry, is, ap (slice_get (v.durable ++ entry ∷ [])) at ∙ get_last v.durable [] entry);
          };
        };
        grows = grows;
      }

  open_kept : (w : World C M) (c : ℕ) → open_of v c ≡ Some w → Kept p.verdict v w
  unfolding open_of
  open_kept w c is =
      let t = inside v.turn _ w is in
      let its = inside (where_so (t.0.call == c)) _ w t.2 in
      let written = inside (where_so (is_written t.0.stage)) _ w its.2 in
      let entry = inside t.0.verdict.entry _ w written.2 in
      let so : TurnSo p.verdict v t.0 = its_turn t.0 t.1 in
      subst (Kept p.verdict v) (same_some _ w entry.2)
      (opened t.0 c entry.0 so (eqb-true _ _ (holds _ its.0 its.1)) (at_written t.0 t.0.stage (holds _ written.0 written.1) so.stage) entry.1)

  -- ---- answers

  -- the entry of a turn that may be answered stands at its place
  entry_stands : (t : Turning) (s : Stage) (o : Option Entry) → t.verdict.entry ≡ o → may_answer s o ≡ true → StageSo v t s
      → (entry : Entry) → t.verdict.entry ≡ Some entry → slice_get v.durable t.at ≡ Some entry
  entry_stands t stage.Decided None is ready so entry has = absurd cc
  entry_stands t stage.Decided (Some e) is ready so entry has = absurd cc
  entry_stands t stage.Written None is ready so entry has = absurd cc
  entry_stands t stage.Written (Some e) is ready so entry has = absurd cc
  entry_stands t stage.Opened o is ready so entry has = so.2 ∙ sym so.1 ∙ has

  node_asks : (maker : Maker) (addressee : To) → node_of maker ≡ Some addressee → IsAsker maker addressee
  node_asks (by.Consumer id) addressee is = subst (IsAsker (by.Consumer id)) (same_some (to.Consumer id) addressee is) refl
  node_asks (by.Merchant id) addressee is = subst (IsAsker (by.Merchant id)) (same_some (to.Merchant id) addressee is) refl
  node_asks (by.Server c at) addressee is = absurd cc
  node_asks by.Network addressee is = absurd cc

  asker_is : (c : ℕ) (packet : Packet) (moment : ℕ) (addressee : To) → Asks v c packet moment → asker_of v c ≡ Some addressee → IsAsker packet.maker addressee
  asker_is c packet moment addressee asks is =
      let call = inside (slice_get v.calls c) _ addressee is in
      let found = inside (slice_get v.packets call.0.packet) _ addressee call.2 in
      let one_call : call.0 ≡ asks.call = same_some _ _ (sym call.1 ∙ asks.is) in
      let one_packet : found.0 ≡ packet = same_some _ _ (sym found.1 ∙ ap (λ (x : Call). slice_get v.packets x.packet) one_call ∙ asks.of) in
      node_asks packet.maker addressee (subst (λ (x : Packet). node_of x.maker ≡ Some addressee) one_packet found.2)

  answered : (t : Turning) (c : ℕ) → TurnSo p.verdict v t → t.call ≡ c → may_answer t.stage t.verdict.entry ≡ true
      → Kept p.verdict v (record v {
        turn = None;
        calls = set_phase Answered v.calls c;
        packets = v.packets ++ option_to_list (option_map (reply_to t) (asker_of v c));
        acknowledged = v.acknowledged ++ acknowledged_by t;
      })
  answered t c so its ready =
      let w : World C M = record v {
        turn = None;
        calls = set_phase Answered v.calls c;
        packets = v.packets ++ option_to_list (option_map (reply_to t) (asker_of v c));
        acknowledged = v.acknowledged ++ acknowledged_by t;
      } in
      let grows : GrowsInto v w = record {
        durable = begins_same v.durable;
        packets = (option_to_list (option_map (reply_to t) (asker_of v c)), refl);
        origins = begins_same v.origins;
        acknowledged = (acknowledged_by t, refl);
        calls = asks_phase v w (λ k packet is. get_begins v.packets w.packets (option_to_list (option_map (reply_to t) (asker_of v c)), refl) k packet is) Answered c refl;
      } in
      record {
        sound = record {
          lawful = lawful_later p.verdict v w grows sound.lawful sound.lawful.legal sound.lawful.same
              (all_phase (CallsHouse w) (called_phase w) Answered v.calls c (called_later p.verdict v w grows sound.lawful.called)) tt
              (acks w refl t.verdict.entry refl) (replies w grows refl (asker_of v c) refl);
          turn = tt;
        };
        grows = grows;
      }
    where
      acks : (w : World C M) → w.durable ≡ v.durable → (o : Option Entry) → t.verdict.entry ≡ o
          → AllByRecursion (StandsDurable w) (option_to_list (option_map (λ (entry : Entry). let a : Acknowledged = record { entry = entry; place = t.at } in a) o))
      acks w same None is = tt
      acks w same (Some entry) is = (ap (λ entries. slice_get entries t.at) same ∙ entry_stands t t.stage t.verdict.entry refl ready so.stage entry is, tt)

      replies : (w : World C M) → GrowsInto v w → w.durable ≡ v.durable → (o : Option To) → asker_of v c ≡ o
          → AllByRecursion (λ (made : Packet). RepliesSo p.verdict w made made.maker) (option_to_list (option_map (reply_to t) o))
      replies w grows same None is = tt
      replies w grows same (Some addressee) is =
          let decided : t.verdict ≡ p.verdict (take t.at w.durable) (request_of so.packet so.moment) =
          so.decided ∙ ap (λ entries. p.verdict (take t.at entries) (request_of so.packet so.moment)) (sym same) in (
            record {
              packet = so.packet;
              moment = so.moment;
              asks = grows.calls t.call so.packet so.moment so.asks;
              within = subst (λ (entries : List Entry). t.at ≤ length entries) (sym same) so.within;
              kind = ap (λ (x : Verdict). x.kind) decided;
              body = ap (λ (x : Verdict). x.body) decided;
              recorded = λ entry has. ap (λ entries. slice_get entries t.at) same
                  ∙ entry_stands t t.stage t.verdict.entry refl ready so.stage entry (ap (λ (x : Verdict). x.entry) decided ∙ has);
              for_asker = asker_is t.call so.packet so.moment addressee so.asks (ap (asker_of v) its ∙ is);
            },
            tt,
          )

  answer_kept : (w : World C M) (c : ℕ) → answer_of v c ≡ Some w → Kept p.verdict v w
  unfolding answer_of
  answer_kept w c is =
      let t = inside v.turn _ w is in
      let its = inside (where_so (t.0.call == c)) _ w t.2 in
      let ready = inside (where_so (may_answer t.0.stage t.0.verdict.entry)) _ w its.2 in
      subst (Kept p.verdict v) (same_some _ w ready.2)
      (answered t.0 c (its_turn t.0 t.1) (eqb-true _ _ (holds _ its.0 its.1)) (holds _ ready.0 ready.1))

  -- ---- a stop

  -- what a stop leaves of an entry is what the verdict over all entries records for the call that it came by
  AddsSo : Option Entry → List Origin → Type 0
  AddsSo None more = more ≡ []
  AddsSo (Some entry) more = (c : ℕ) × (packet : Packet) × (moment : ℕ) × Asks v c packet moment
      × ((p.verdict v.durable (request_of packet moment)).entry ≡ Some entry) × (more ≡ origin_of v.durable c ∷ [])

  written_so : (t : Turning) (s : Stage) (o : Option Entry) → t.verdict.entry ≡ o → TurnSo p.verdict v t → StageSo v t s
      → AddsSo (written_at s o) (option_to_list (option_map (λ (entry : Entry). origin_of v.durable t.call) (written_at s o)))
  unfolding AddsSo
  written_so t stage.Decided o is so at = refl
  written_so t stage.Written None is so at = refl
  written_so t stage.Written (Some entry) is so at = (t.call, so.packet, so.moment, so.asks, ruled_by t entry so at is, refl)
  written_so t stage.Opened o is so at = refl

  adds_so : (keep : Bool) (turn : Option Turning) → TurnIs p.verdict v turn → AddsSo (left keep turn) (origins_left v.durable keep turn)
  unfolding AddsSo
  adds_so true None is = refl
  adds_so false None is = refl
  adds_so true (Some t) is = written_so t t.stage t.verdict.entry refl is is.stage
  adds_so false (Some t) is = refl

  stopped_with : (o : Option Entry) (more : List Origin) → AddsSo o more
      → Kept p.verdict v (record v {
        turn = None;
        calls = map stopped v.calls;
        durable = v.durable ++ option_to_list o;
        server = v.durable ++ option_to_list o;
        origins = v.origins ++ more;
      })
  unfolding AddsSo
  stopped_with o more adds =
      let w : World C M = record v {
        turn = None;
        calls = map stopped v.calls;
        durable = v.durable ++ option_to_list o;
        server = v.durable ++ option_to_list o;
        origins = v.origins ++ more;
      } in
      let grows : GrowsInto v w = record {
        durable = (option_to_list o, refl);
        packets = begins_same v.packets;
        origins = (more, refl);
        acknowledged = begins_same v.acknowledged;
        calls = asks_stopped v w (λ k packet is. is) refl;
      } in
      record {
        sound = record {
          lawful = lawful_later p.verdict v w grows sound.lawful (legal o more adds) refl
              (all_stopped (CallsHouse w) (called_phase w) v.calls (called_later p.verdict v w grows sound.lawful.called)) (came o more adds w refl grows) tt tt;
          turn = tt;
        };
        grows = grows;
      }
    where
      legal : (o : Option Entry) (more : List Origin) → AddsSo o more → Legal (v.durable ++ option_to_list o)
      legal None more adds = subst Legal (sym (append-nil v.durable)) sound.lawful.legal
      legal (Some entry) more adds = legal_next adds.1 adds.2 entry adds.4

      came : (o : Option Entry) (more : List Origin) → AddsSo o more → (w : World C M) → w.durable ≡ v.durable ++ option_to_list o → GrowsInto v w → AllByRecursion (CameBy p.verdict w) more
      came None more adds w is grows = subst (AllByRecursion (CameBy p.verdict w)) (sym adds) tt
      came (Some entry) more adds w is grows = subst (AllByRecursion (CameBy p.verdict w)) (sym adds.5)
          (came_next w adds.0 adds.1 adds.2 entry is (grows.calls adds.0 adds.1 adds.2 adds.3) adds.4, tt)

  stop_kept : (w : World C M) (keep : Bool) → Some (stop_of v keep) ≡ Some w → Kept p.verdict v w
  unfolding stop_of
  stop_kept w keep is = subst (Kept p.verdict v) (same_some _ w is) (stopped_with (left keep v.turn) (origins_left v.durable keep v.turn) (adds_so keep v.turn sound.turn))

  -- ---- all of them

  pub step_kept : (w : World C M) (e : Event) → step p v e ≡ Some w → Kept p.verdict v w
  step_kept w (on.Buy id start) is = outside_kept p.verdict v sound w (buy_outside p v w id start is)
  step_kept w (on.Deliver k) is = outside_kept p.verdict v sound w (deliver_outside p v w k is)
  step_kept w (on.Turn c) is = turn_kept w c is
  step_kept w (on.Write c) is = write_kept w c is
  step_kept w (on.Open c) is = open_kept w c is
  step_kept w (on.Answer c) is = answer_kept w c is
  step_kept w (on.QuietConsumer id tid) is = outside_kept p.verdict v sound w (quiet_consumer_outside p v w id tid is)
  step_kept w (on.QuietMerchant id consumer tid) is = outside_kept p.verdict v sound w (quiet_merchant_outside p v w id consumer tid is)
  step_kept w (on.Stop keep) is = stop_kept w keep is
  step_kept w (on.RestartConsumer id) is = outside_kept p.verdict v sound w (restart_consumer_outside p v w id is)
  step_kept w (on.RestartMerchant id) is = outside_kept p.verdict v sound w (restart_merchant_outside p v w id is)
  step_kept w (on.Clock moment) is = outside_kept p.verdict v sound w (clock_outside p v w moment is)
  step_kept w (on.Inject addressee kind body) is = outside_kept p.verdict v sound w (inject_outside p v w addressee kind body is)

  pub next_kept : (e : Event) → Kept p.verdict v (next p v e)
  next_kept e = cases (step p v e) refl
    where
      cases : (o : Option (World C M)) → step p v e ≡ o → Kept p.verdict v (or_same v o)
      cases None is = record { sound = sound; grows = grows_same v }
      cases (Some w) is = step_kept w e is

-- ---- every list of events

pub run_kept : {C M : Type 0} → StaysLegal → (p : Rules C M) → RecordsLegal p.verdict → (v : World C M) → Sound p.verdict v → (es : List Event) → Kept p.verdict v (run p v es)
run_kept stays p records v sound [] = record { sound = sound; grows = grows_same v }
run_kept stays p records v sound (e ∷ es) =
    let here : Kept p.verdict v (next p v e) = next_kept stays p records v sound e in
    let rest : Kept p.verdict (next p v e) (run p (next p v e) es) = run_kept stays p records (next p v e) here.sound es in
    record { sound = rest.sound; grows = grows_then v (next p v e) (run p (next p v e) es) here.grows rest.grows }

pub setup_sound : {C M : Type 0} (verdict : List Entry → Request → Verdict) (w : World C M) → IsSetUp w → Sound verdict w
setup_sound verdict w is = record {
  lawful = record {
    legal = is.legal;
    same = is.same;
    called = subst (AllByRecursion (CallsHouse w)) (sym is.no_calls) tt;
    came = subst (AllByRecursion (CameBy verdict w)) (sym is.no_origins) tt;
    stands = subst (AllByRecursion (StandsDurable w)) (sym is.none_acknowledged) tt;
    replies = subst (AllByRecursion (λ (made : Packet). RepliesSo verdict w made made.maker)) (sym is.no_packets) tt;
  };
  turn = subst (TurnIs verdict w) (sym is.no_turn) tt;
}

pub world_law : {C M : Type 0} → StaysLegal → WorldLaw C M
world_law stays p w records setup es = (run_kept stays p records w (setup_sound p.verdict w setup) es).sound.lawful
