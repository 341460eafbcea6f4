-- What is played leads a world from entries to entries, and hands out replies.
use Rattle.std.proofs.Common.{◌≡◌, ℕ, zero, suc, ◌+◌, Bool, true, false, List, [], ◌∷◌, ◌++◌, length, Option, None, Some, refl, sym, ap, ◌∙◌, append_assoc, length-append}
use Rattle.std.proofs.lemmas.List.{append-nil}
use Rattle.std.proofs.lemmas.Bool.{eq-eqb}
use Rattle.std.specs.Prelude.{map, if◌then◌else◌}
use Rattle.std.specs.Option.{option_to_list, option_map, is_some}
use Rattle.std.specs.List.{slice_get}
use Rattle.nb_entry.specs.declared.entry.Entry.{Entry}
use Rattle.nb_turns.specs.Turns.{Request}
use Rattle.nb_world.specs.declared.call.Call.{Call}
use Rattle.nb_world.specs.declared.call.CallPhase.{CallPhase}
use Rattle.nb_world.specs.declared.call.CallPhase.TheVariants.{Waiting, InTurn, Answered}
use Rattle.nb_world.specs.declared.event.Event.{Event}
use Rattle.nb_world.specs.declared.event.Event.TheVariants as on
use Rattle.nb_world.specs.declared.packet.Packet.{Packet}
use Rattle.nb_msgs.specs.declared.node.To.TheVariants as to
use Rattle.nb_world.specs.declared.turning.Stage.{Stage}
use Rattle.nb_world.specs.declared.turning.Stage.TheVariants as stage
use Rattle.nb_world.specs.declared.turning.Turning.{Turning}
use Rattle.nb_world.specs.World.{Rules, World, request_of, is_decided, is_written}
use Rattle.nb_world.specs.Steps.{is_waiting, set_phase, stopped, may_answer, asker_of, reply_to, acknowledged_by, origin_of, left, server_gets, delivered_to, deliver_of, turn_of, write_of, open_of, answer_of, stop_of, step, next, or_same, run}
use Rattle.nb_world.specs.Laws.{Begins}
use Rattle.nb_world.specs.Ties.{ruling_of, IsAt, IsPacketOf, Answers, asks, ends, reply_of_turn, told_at, told_along}
use Rattle.nb_world.proofs.Lists.{get_last, begins_same, begins_then}
use Rattle.nb_world.proofs.Stopping.{run_then}

-- ---- from a world to another

-- these events lead from a world to another, and their answers hand out these replies
pub record Leads {C M : Type 0} (p : Rules C M) (w : World C M) (events : List Event) (end : World C M) (told : List (List ℕ)) : Type 0 where
  pub to : run p w events ≡ end
  pub tells : told_along p w events ≡ told

module _ {C M : Type 0} (p : Rules C M) where
  pub told_then : (w : World C M) (es more : List Event) → told_along p w (es ++ more) ≡ told_along p w es ++ told_along p (run p w es) more
  told_then w [] more = refl
  told_then w (e ∷ es) more =
      ap (λ rest. told_at w e ++ rest) (told_then (next p w e) es more) ∙ sym (append_assoc (told_at w e) (told_along p (next p w e) es) (told_along p (run p (next p w e) es) more))

  pub leads_then : (w v u : World C M) (es more : List Event) (told others : List (List ℕ))
      → Leads p w es v told → Leads p v more u others → Leads p w (es ++ more) u (told ++ others)
  leads_then w v u es more told others first second = record {
    to = run_then p w es more ∙ ap (λ x. run p x more) first.to ∙ second.to;
    tells = told_then w es more ∙ ap (λ x. told_along p w es ++ told_along p x more) first.to ∙ ap (λ x. x ++ told_along p v more) first.tells ∙ ap (λ x. told ++ x) second.tells;
  }

  pub leads_step : (w v : World C M) (e : Event) → step p w e ≡ Some v → Leads p w (e ∷ []) v (told_at w e)
  leads_step w v e is = record { to = ap (or_same w) is; tells = append-nil (told_at w e) }

-- ---- a call that has the turn

-- the world is at these entries but for the turn, which a call has that went no further
pub record Asked {C M : Type 0} (p : Rules C M) (w : World C M) (request : Request) (entries : List Entry) (end : World C M) : Type 0 where
  pub durable : end.durable ≡ entries
  pub server : end.server ≡ entries
  pub turn : end.turn ≡ Some (record { call = length w.calls; at = length entries; verdict = p.verdict entries request; stage = stage.Decided })
  pub calls : length end.calls ≡ length w.calls + 1
  pub packets : Begins end.packets w.packets

pub length_phase : (phase : CallPhase) (calls : List Call) (k : ℕ) → length (set_phase phase calls k) ≡ length calls
length_phase phase [] k = refl
length_phase phase (x ∷ calls) zero = refl
length_phase phase (x ∷ calls) (suc k) = ap suc (length_phase phase calls k)

pub length_stopped : (calls : List Call) → length (map stopped calls) ≡ length calls
length_stopped [] = refl
length_stopped (x ∷ calls) = ap suc (length_stopped calls)

module _ {C M : Type 0} (p : Rules C M) where
  -- ---- one event

  clock_leads : (w : World C M) (moment : ℕ) → Leads p w (on.Clock moment ∷ []) (record w { moment = moment }) []
  clock_leads w moment = leads_step p w (record w { moment = moment }) (on.Clock moment) refl

  deliver_leads : (w : World C M) (k : ℕ) (packet : Packet) → slice_get w.packets k ≡ Some packet → packet.to ≡ to.Server → Leads p w (on.Deliver k ∷ []) (server_gets w k) []
  unfolding deliver_of
  deliver_leads w k packet stands for_house =
      let is : step p w (on.Deliver k) ≡ Some (server_gets w k) = rw stands (ap (delivered_to p w k packet) for_house) in
      leads_step p w (server_gets w k) (on.Deliver k) is

  turn_leads : (w : World C M) (n : ℕ) (call : Call) (packet : Packet) → w.turn ≡ None → slice_get w.calls n ≡ Some call → call.phase ≡ Waiting → slice_get w.packets call.packet ≡ Some packet
      → Leads p w (on.Turn n ∷ []) (record w {
        turn = Some (record { call = n; at = length w.server; verdict = p.verdict w.server (request_of packet call.moment); stage = stage.Decided });
        calls = set_phase InTurn w.calls n;
      }) []
  unfolding turn_of
  turn_leads w n call packet free there waits asks =
      let waiting : is_waiting call.phase ≡ true = ap is_waiting waits in
      leads_step p w _ (on.Turn n) (rw (free, there, waiting, asks) refl)

  write_leads : (w : World C M) (n : ℕ) (t : Turning) (entry : Entry) → w.turn ≡ Some t → t.call ≡ n → t.stage ≡ stage.Decided → t.verdict.entry ≡ Some entry
      → Leads p w (on.Write n ∷ []) (record w { turn = Some (record { call = t.call; at = t.at; verdict = t.verdict; stage = stage.Written }) }) []
  unfolding write_of
  write_leads w n t entry turn its decided has =
      let stage_is : is_decided t.stage ≡ true = ap is_decided decided in
      leads_step p w (record w { turn = Some (record { call = t.call; at = t.at; verdict = t.verdict; stage = stage.Written }) }) (on.Write n) (rw (turn, eq-eqb t.call n its, stage_is, has) refl)

  open_leads : (w : World C M) (n : ℕ) (t : Turning) (entry : Entry) → w.turn ≡ Some t → t.call ≡ n → t.stage ≡ stage.Written → t.verdict.entry ≡ Some entry
      → Leads p w (on.Open n ∷ []) (record w {
        turn = Some (record { call = t.call; at = t.at; verdict = t.verdict; stage = stage.Opened });
        durable = w.durable ++ entry ∷ [];
        server = w.server ++ entry ∷ [];
        origins = w.origins ++ origin_of w.durable n ∷ [];
      }) []
  unfolding open_of
  open_leads w n t entry turn its written has =
      let stage_is : is_written t.stage ≡ true = ap is_written written in
      leads_step p w _ (on.Open n) (rw (turn, eq-eqb t.call n its, stage_is, has) refl)

  answer_step : (w : World C M) (n : ℕ) (t : Turning) → w.turn ≡ Some t → t.call ≡ n → may_answer t.stage t.verdict.entry ≡ true
      → answer_of w n ≡ Some (record w {
        turn = None;
        calls = set_phase Answered w.calls n;
        packets = w.packets ++ option_to_list (option_map (reply_to t) (asker_of w n));
        acknowledged = w.acknowledged ++ acknowledged_by t;
      })
  unfolding answer_of
  answer_step w n t turn its ready = rw (turn, eq-eqb t.call n its, ready) refl

  answer_leads : (w : World C M) (n : ℕ) (t : Turning) → w.turn ≡ Some t → t.call ≡ n → may_answer t.stage t.verdict.entry ≡ true
      → Leads p w (on.Answer n ∷ []) (record w {
        turn = None;
        calls = set_phase Answered w.calls n;
        packets = w.packets ++ option_to_list (option_map (reply_to t) (asker_of w n));
        acknowledged = w.acknowledged ++ acknowledged_by t;
      }) ((ruling_of t.verdict).reply ∷ [])
  answer_leads w n t turn its ready =
      let is = answer_step w n t turn its ready in
      let one = leads_step p w _ (on.Answer n) is in
      record {
        to = one.to;
        tells = one.tells ∙ ap (λ o. if is_some o then reply_of_turn w.turn else []) is ∙ ap reply_of_turn turn;
      }

  -- ---- one request

  -- these events lead to a world at these entries, with one call more
  pub record One (w : World C M) (es : List Event) (told : List (List ℕ)) (entries : List Entry) : Type 0 where
    pub end : World C M
    pub leads : Leads p w es end told
    pub at : IsAt end entries
    pub calls : length end.calls ≡ length w.calls + 1
    pub packets : Begins end.packets w.packets

  asked : (w : World C M) (entries : List Entry) (number : Request → ℕ) (request : Request) → IsAt w entries → IsPacketOf w (number request) request
      → (end : World C M) × Leads p w (asks number (length w.calls) request) end [] × Asked p w request entries end
  asked w entries number request at is =
      let w1 : World C M = record w { moment = request.moment } in
      let w2 : World C M = server_gets w1 (number request) in
      let call : Call = record { packet = number request; moment = request.moment; phase = Waiting } in
      let w3 : World C M = record w2 {
        turn = Some (record { call = length w.calls; at = length w2.server; verdict = p.verdict w2.server (request_of is.packet call.moment); stage = stage.Decided });
        calls = set_phase InTurn w2.calls (length w.calls);
      } in
      let same : request_of is.packet request.moment ≡ request =
      ap (λ (kind : ℕ). let r : Request = record { kind = kind; body = is.packet.body; moment = request.moment } in r) is.kind
      ∙ ap (λ (body : List ℕ). let r : Request = record { kind = request.kind; body = body; moment = request.moment } in r) is.body in (
        w3,
        leads_then p w w1 w3 (on.Clock request.moment ∷ []) (on.Deliver (number request) ∷ on.Turn (length w.calls) ∷ []) [] [] (clock_leads w request.moment)
            (leads_then p w1 w2 w3 (on.Deliver (number request) ∷ []) (on.Turn (length w.calls) ∷ []) [] [] (deliver_leads w1 (number request) is.packet is.stands is.for_house)
            (turn_leads w2 (length w.calls) call is.packet at.free (get_last w.calls [] call) refl is.stands)),
        record {
          durable = at.durable;
          server = at.server;
          turn = ap (λ (es : List Entry). let t : Turning = record { call = length w.calls; at = length es; verdict = p.verdict es (request_of is.packet request.moment); stage = stage.Decided } in Some t) at.server
              ∙ ap (λ (r : Request). let t : Turning = record { call = length w.calls; at = length entries; verdict = p.verdict entries r; stage = stage.Decided } in Some t) same;
          calls = length_phase InTurn (w.calls ++ call ∷ []) (length w.calls) ∙ length-append w.calls (call ∷ []);
          packets = begins_same w.packets;
        },
      )

  turn_now : ℕ → List Entry → Request → Stage → Turning
  turn_now n entries request s = record { call = n; at = length entries; verdict = p.verdict entries request; stage = s }

  module _ (w : World C M) (entries : List Entry) (number : Request → ℕ) (request : Request) (at : IsAt w entries) (is : IsPacketOf w (number request) request) where
    -- it is answered
    pub told_as : (o : Option Entry) → (p.verdict entries request).entry ≡ o
        → One w (asks number (length w.calls) request ++ ends (length w.calls) Answers o) ((ruling_of (p.verdict entries request)).reply ∷ []) (entries ++ option_to_list o)
    told_as None has =
        let first = asked w entries number request at is in
        let v : World C M = first.0 in
        let a : Asked p w request entries v = first.2 in
        let n : ℕ = length w.calls in
        let t : Turning = record { call = n; at = length entries; verdict = p.verdict entries request; stage = stage.Decided } in
        record {
          end = record v {
            turn = None;
            calls = set_phase Answered v.calls n;
            packets = v.packets ++ option_to_list (option_map (reply_to t) (asker_of v n));
            acknowledged = v.acknowledged ++ acknowledged_by t;
          };
          leads = leads_then p w v _ (asks number n request) (on.Answer n ∷ []) [] ((ruling_of (p.verdict entries request)).reply ∷ []) first.1 (answer_leads v n t a.turn refl (ap (may_answer stage.Decided) has));
          at = record { durable = a.durable ∙ sym (append-nil entries); server = a.server ∙ sym (append-nil entries); free = refl };
          calls = length_phase Answered v.calls n ∙ a.calls;
          packets = begins_then w.packets v.packets (v.packets ++ option_to_list (option_map (reply_to t) (asker_of v n))) a.packets (option_to_list (option_map (reply_to t) (asker_of v n)), refl);
        }
    told_as (Some entry) has =
        let first = asked w entries number request at is in
        let v : World C M = first.0 in
        let a : Asked p w request entries v = first.2 in
        let n : ℕ = length w.calls in
        let t : Turning = record { call = n; at = length entries; verdict = p.verdict entries request; stage = stage.Decided } in
        let t1 : Turning = record { call = n; at = length entries; verdict = p.verdict entries request; stage = stage.Written } in
        let t2 : Turning = record { call = n; at = length entries; verdict = p.verdict entries request; stage = stage.Opened } in
        let v1 : World C M = record v { turn = Some t1 } in
        let v2 : World C M = record v1 {
          turn = Some t2;
          durable = v1.durable ++ entry ∷ [];
          server = v1.server ++ entry ∷ [];
          origins = v1.origins ++ origin_of v1.durable n ∷ [];
        } in
        let v3 : World C M = record v2 {
          turn = None;
          calls = set_phase Answered v2.calls n;
          packets = v2.packets ++ option_to_list (option_map (reply_to t2) (asker_of v2 n));
          acknowledged = v2.acknowledged ++ acknowledged_by t2;
        } in
        let reply : List (List ℕ) = (ruling_of (p.verdict entries request)).reply ∷ [] in
        record {
          end = v3;
          leads = leads_then p w v v3 (asks number n request) (on.Write n ∷ on.Open n ∷ on.Answer n ∷ []) [] reply first.1
              (leads_then p v v1 v3 (on.Write n ∷ []) (on.Open n ∷ on.Answer n ∷ []) [] reply (write_leads v n t entry a.turn refl refl has)
              (leads_then p v1 v2 v3 (on.Open n ∷ []) (on.Answer n ∷ []) [] reply (open_leads v1 n t1 entry refl refl refl has)
              (answer_leads v2 n t2 refl refl (ap (may_answer stage.Opened) has))));
          at = record { durable = ap (λ (es : List Entry). es ++ entry ∷ []) a.durable; server = ap (λ (es : List Entry). es ++ entry ∷ []) a.server; free = refl };
          calls = length_phase Answered v.calls n ∙ a.calls;
          packets = begins_then w.packets v.packets v3.packets a.packets (option_to_list (option_map (reply_to t2) (asker_of v2 n)), refl);
        }

    -- its entry is written, and a stop leaves it or not
    pub left_as : (keep : Bool) (entry : Entry) → (p.verdict entries request).entry ≡ Some entry
        → One w (asks number (length w.calls) request ++ on.Write (length w.calls) ∷ on.Stop keep ∷ []) [] (if keep then entries ++ entry ∷ [] else entries)
    unfolding stop_of
    left_as keep entry has =
        let first = asked w entries number request at is in
        let v : World C M = first.0 in
        let a : Asked p w request entries v = first.2 in
        let n : ℕ = length w.calls in
        let t : Turning = record { call = n; at = length entries; verdict = p.verdict entries request; stage = stage.Decided } in
        let t1 : Turning = record { call = n; at = length entries; verdict = p.verdict entries request; stage = stage.Written } in
        let v1 : World C M = record v { turn = Some t1 } in
        let stays : (b : Bool) → v.durable ++ option_to_list (left b (Some t1)) ≡ (if b then entries ++ entry ∷ [] else entries) = left_is v a entry has in
        record {
          end = stop_of v1 keep;
          leads = leads_then p w v (stop_of v1 keep) (asks number n request) (on.Write n ∷ on.Stop keep ∷ []) [] [] first.1
              (leads_then p v v1 (stop_of v1 keep) (on.Write n ∷ []) (on.Stop keep ∷ []) [] [] (write_leads v n t entry a.turn refl refl has)
              (leads_step p v1 (stop_of v1 keep) (on.Stop keep) refl));
          at = record { durable = stays keep; server = stays keep; free = refl };
          calls = length_stopped v.calls ∙ a.calls;
          packets = a.packets;
        }
      where
        left_is : (v : World C M) → Asked p w request entries v → (entry : Entry) → (p.verdict entries request).entry ≡ Some entry → (b : Bool)
            → v.durable ++ option_to_list (left b (Some (record { call = length w.calls; at = length entries; verdict = p.verdict entries request; stage = stage.Written }))) ≡ (if b then entries ++ entry ∷ [] else entries)
        left_is v a entry has true = ap (λ o. v.durable ++ option_to_list o) has ∙ ap (λ (es : List Entry). es ++ entry ∷ []) a.durable
        left_is v a entry has false = append-nil v.durable ∙ a.durable
