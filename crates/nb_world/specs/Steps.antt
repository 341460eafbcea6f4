-- The step of a world: a row for each event, from a world to the next one, or to none where the event does not fit.
use Rattle.std.specs.Prelude.{ℕ, ◌==◌, ◌&&◌, Bool, true, false, List, [], ◌∷◌, ◌++◌, length, map, set, nat_le, Option, None, Some, zero, suc, if◌then◌else◌}
use Rattle.std.specs.List.{position, slice_get}
use Rattle.std.specs.Option.{option_to_list, option_map, is_none, is_some}
use Rattle.nb_units.specs.declared.frames.TheConstants.{LAST_KIND, MAX_BODY}
use Rattle.nb_units.specs.declared.limits.TheConstants.{MAX_MEMO}
use Rattle.nb_body.specs.declared.limits.TheConstants.{MAX_REQUEST}
use Rattle.nb_units.specs.declared.ids.PartyId.{PartyId}
use Rattle.nb_entry.specs.declared.entry.Entry.{Entry}
use Rattle.nb_world.specs.declared.call.Call.{Call}
use Rattle.nb_world.specs.declared.call.CallPhase.{CallPhase}
use Rattle.nb_world.specs.declared.call.CallPhase.TheVariants.{Waiting, InTurn, Answered, Gone}
use Rattle.nb_world.specs.declared.event.Event.{Event}
use Rattle.nb_world.specs.declared.event.Event.TheVariants as on
use Rattle.nb_world.specs.declared.packet.Maker.{Maker}
use Rattle.nb_world.specs.declared.packet.Maker.TheVariants as by
use Rattle.nb_world.specs.declared.packet.Packet.{Packet}
use Rattle.nb_world.specs.declared.packet.Sending.{Sending}
use Rattle.nb_msgs.specs.declared.node.To.{To}
use Rattle.nb_msgs.specs.declared.node.To.TheVariants as to
use Rattle.nb_wallet.specs.declared.wallet.Start.{Start}
use Rattle.nb_world.specs.declared.turning.Acknowledged.{Acknowledged}
use Rattle.nb_world.specs.declared.turning.Origin.{Origin}
use Rattle.nb_world.specs.declared.turning.Stage.{Stage}
use Rattle.nb_world.specs.declared.turning.Stage.TheVariants as stage
use Rattle.nb_world.specs.declared.turning.Turning.{Turning}
use Rattle.nb_world.specs.World.{Going, Stays, Goes, Rules, World, request_of, is_decided, is_written, entry_written}

-- ---- a row is a chain of conditions

infixl 10 ◌>>=◌
-- what comes of a value, if there is one
abbrev pub ◌>>=◌ : {A B : Type 0} → Option A → (A → Option B) → Option B
(Some x) >>= next = next x
None >>= next = None

-- the condition holds
abbrev pub where_so : Bool → Option (Unit {0})
where_so true = Some tt
where_so false = None

-- ---- nodes

-- the packets of what a maker sends, if anything
abbrev pub packets_of : Maker → Option Sending → List Packet
packets_of maker None = []
packets_of maker (Some s) = record { kind = s.kind; body = s.body; maker = maker; to = s.to } ∷ []

-- the world behind a step of the consumer, of the merchant, at a place
abbrev pub consumer_goes : {C M : Type 0} → World C M → ℕ → PartyId → Going C → World C M
consumer_goes w i id Stays = w
consumer_goes w i id (Goes c sent) = record w { consumers = set w.consumers i c; packets = w.packets ++ packets_of (by.Consumer id) sent }

-- the world behind a step of the merchant at a place
abbrev pub merchant_goes : {C M : Type 0} → World C M → ℕ → PartyId → Going M → World C M
merchant_goes w i id Stays = w
merchant_goes w i id (Goes m sent) = record w { merchants = set w.merchants i m; packets = w.packets ++ packets_of (by.Merchant id) sent }

-- the place of the consumer, of the merchant, that is this party
abbrev pub consumer_at : {C M : Type 0} → Rules C M → World C M → PartyId → Option ℕ
consumer_at p w id = position (p.is_consumer id) w.consumers

-- the place of the merchant that is this party
abbrev pub merchant_at : {C M : Type 0} → Rules C M → World C M → PartyId → Option ℕ
merchant_at p w id = position (p.is_merchant id) w.merchants

-- it is the house, or a party that there is in this role
abbrev pub is_known : {C M : Type 0} → Rules C M → World C M → To → Bool
is_known p w to.Server = true
is_known p w (to.Merchant id) = is_some (merchant_at p w id)
is_known p w (to.Consumer id) = is_some (consumer_at p w id)

-- a purchase that a consumer does start
abbrev pub started : {C M : Type 0} → World C M → ℕ → PartyId → Going C → Option (World C M)
started w i id Stays = None
started w i id (Goes c sent) = Some (consumer_goes w i id (Goes c sent))

-- the row of a consumer that starts a purchase
unfoldable pub buy_of : {C M : Type 0} → Rules C M → World C M → PartyId → Start → Option (World C M)
buy_of p w id start = do
  i ← consumer_at p w id
  c ← slice_get w.consumers i
  request ← where_so (nat_le (length start.request) MAX_REQUEST)
  memo ← where_so (nat_le (length start.memo) MAX_MEMO)
  started w i id (p.consumer_starts c start)

-- the row of a consumer that heard nothing of a purchase for long
unfoldable pub quiet_consumer_of : {C M : Type 0} → Rules C M → World C M → PartyId → ℕ → Option (World C M)
quiet_consumer_of p w id tid = do
  i ← consumer_at p w id
  c ← slice_get w.consumers i
  known ← where_so (p.has_purchase tid c)
  Some (consumer_goes w i id (p.consumer_waited c tid))

-- the row of a merchant that heard nothing of a purchase for long
unfoldable pub quiet_merchant_of : {C M : Type 0} → Rules C M → World C M → PartyId → PartyId → ℕ → Option (World C M)
quiet_merchant_of p w id consumer tid = do
  i ← merchant_at p w id
  m ← slice_get w.merchants i
  known ← where_so (p.has_sale consumer tid m)
  Some (merchant_goes w i id (p.merchant_waited m consumer tid))

-- the row of a consumer that starts again
unfoldable pub restart_consumer_of : {C M : Type 0} → Rules C M → World C M → PartyId → Option (World C M)
restart_consumer_of p w id = do
  i ← consumer_at p w id
  c ← slice_get w.consumers i
  Some (record w { consumers = set w.consumers i (p.consumer_again c) })

-- the row of a merchant that starts again
unfoldable pub restart_merchant_of : {C M : Type 0} → Rules C M → World C M → PartyId → Option (World C M)
restart_merchant_of p w id = do
  i ← merchant_at p w id
  m ← slice_get w.merchants i
  Some (record w { merchants = set w.merchants i (p.merchant_again m) })

-- ---- the network

-- a packet reaches the consumer, the merchant, that is this party: where its body is spelled as those of its kind are, the
-- node's step, and else nothing
abbrev pub consumer_gets : {C M : Type 0} → Rules C M → World C M → Packet → PartyId → Option (World C M)
consumer_gets p w packet id = do
  i ← consumer_at p w id
  c ← slice_get w.consumers i
  Some (if p.is_body packet.kind packet.body then consumer_goes w i id (p.consumer_hears c packet.kind packet.body) else w)

-- a packet reaches the merchant that is this party
abbrev pub merchant_gets : {C M : Type 0} → Rules C M → World C M → Packet → PartyId → Option (World C M)
merchant_gets p w packet id = do
  i ← merchant_at p w id
  m ← slice_get w.merchants i
  Some (if p.is_body packet.kind packet.body then merchant_goes w i id (p.merchant_hears m packet.kind packet.body w.moment) else w)

-- the packet of this number reaches the house: a call that waits
abbrev pub server_gets : {C M : Type 0} → World C M → ℕ → World C M
server_gets w k = record w { calls = w.calls ++ record { packet = k; moment = w.moment; phase = Waiting } ∷ [] }

-- a packet reaches whom it is for
abbrev pub delivered_to : {C M : Type 0} → Rules C M → World C M → ℕ → Packet → To → Option (World C M)
delivered_to p w k packet to.Server = Some (server_gets w k)
delivered_to p w k packet (to.Merchant id) = merchant_gets p w packet id
delivered_to p w k packet (to.Consumer id) = consumer_gets p w packet id

-- the row of a packet that is delivered: the one of this number
unfoldable pub deliver_of : {C M : Type 0} → Rules C M → World C M → ℕ → Option (World C M)
deliver_of p w k = do
  packet ← slice_get w.packets k
  delivered_to p w k packet packet.to

-- the row of a packet that somebody puts there
unfoldable pub inject_of : {C M : Type 0} → Rules C M → World C M → To → ℕ → List ℕ → Option (World C M)
inject_of p w addressee kind body = do
  served ← where_so (nat_le 1 kind && nat_le kind LAST_KIND)
  short ← where_so (nat_le (length body) MAX_BODY)
  known ← where_so (is_known p w addressee)
  Some (record w { packets = w.packets ++ record { kind = kind; body = body; maker = by.Network; to = addressee } ∷ [] })

-- ---- the house

-- it waits for its turn
abbrev pub is_waiting : CallPhase → Bool
is_waiting Waiting = true
is_waiting other = false

-- the call comes to a phase
abbrev pub in_phase : CallPhase → Call → Call
in_phase phase call = record { packet = call.packet; moment = call.moment; phase = phase }

-- the call at a place, if there is one, comes to a phase
abbrev pub set_phase : CallPhase → List Call → ℕ → List Call
set_phase phase [] c = []
set_phase phase (call ∷ calls) zero = in_phase phase call ∷ calls
set_phase phase (call ∷ calls) (suc c) = call ∷ set_phase phase calls c

-- the row of a waiting call that takes the turn
unfoldable pub turn_of : {C M : Type 0} → Rules C M → World C M → ℕ → Option (World C M)
turn_of p w c = do
  free ← where_so (is_none w.turn)
  call ← slice_get w.calls c
  waits ← where_so (is_waiting call.phase)
  packet ← slice_get w.packets call.packet
  Some (record w {
    turn = Some (record { call = c; at = length w.server; verdict = p.verdict w.server (request_of packet call.moment); stage = stage.Decided });
    calls = set_phase InTurn w.calls c;
  })

-- the row of a turn whose entry is written
unfoldable pub write_of : {C M : Type 0} → World C M → ℕ → Option (World C M)
write_of w c = do
  t ← w.turn
  its ← where_so (t.call == c)
  decided ← where_so (is_decided t.stage)
  entry ← t.verdict.entry
  Some (record w { turn = Some (record { call = t.call; at = t.at; verdict = t.verdict; stage = stage.Written }) })

-- the call that the entry behind these came by
abbrev pub origin_of : List Entry → ℕ → Origin
origin_of entries c = record { place = length entries; call = c }

-- the row of a turn whose entry is opened: it is durable then
unfoldable pub open_of : {C M : Type 0} → World C M → ℕ → Option (World C M)
open_of w c = do
  t ← w.turn
  its ← where_so (t.call == c)
  written ← where_so (is_written t.stage)
  entry ← t.verdict.entry
  Some (record w {
    turn = Some (record { call = t.call; at = t.at; verdict = t.verdict; stage = stage.Opened });
    durable = w.durable ++ entry ∷ [];
    server = w.server ++ entry ∷ [];
    origins = w.origins ++ origin_of w.durable c ∷ [];
  })

-- the reply may be handed out: the verdict records nothing, or its entry is opened
abbrev pub may_answer : Stage → Option Entry → Bool
may_answer stage.Opened entry = true
may_answer stage.Decided None = true
may_answer other entry = false

-- whom a reply is for: the node that made the packet of the call
abbrev pub node_of : Maker → Option To
node_of (by.Consumer id) = Some (to.Consumer id)
node_of (by.Merchant id) = Some (to.Merchant id)
node_of other = None

-- whom the reply to a call is for
abbrev pub asker_of : {C M : Type 0} → World C M → ℕ → Option To
asker_of w c = do
  call ← slice_get w.calls c
  packet ← slice_get w.packets call.packet
  node_of packet.maker

-- the packet of a reply
abbrev pub reply_to : Turning → To → Packet
reply_to t addressee = record { kind = t.verdict.kind; body = t.verdict.body; maker = by.Server t.call t.at; to = addressee }

-- the entry of a turn, acknowledged
abbrev pub acknowledged_by : Turning → List Acknowledged
acknowledged_by t = option_to_list (option_map (λ (entry : Entry). record { entry = entry; place = t.at }) t.verdict.entry)

-- the row of a call whose reply is handed out
unfoldable pub answer_of : {C M : Type 0} → World C M → ℕ → Option (World C M)
answer_of w c = do
  t ← w.turn
  its ← where_so (t.call == c)
  ready ← where_so (may_answer t.stage t.verdict.entry)
  Some (record w {
    turn = None;
    calls = set_phase Answered w.calls c;
    packets = w.packets ++ option_to_list (option_map (reply_to t) (asker_of w c));
    acknowledged = w.acknowledged ++ acknowledged_by t;
  })

-- a call that is not answered is gone behind a stop
abbrev pub phase_stopped : CallPhase → CallPhase
phase_stopped Answered = Answered
phase_stopped other = Gone

-- what becomes of a call where the house stops
abbrev pub stopped : Call → Call
stopped call = in_phase (phase_stopped call.phase) call

-- what a stop leaves of the entry that is written and not opened
abbrev pub left : Bool → Option Turning → Option Entry
left true turn = entry_written turn
left false turn = None

-- and the call that it came by
abbrev pub origins_left : List Entry → Bool → Option Turning → List Origin
origins_left entries keep None = []
origins_left entries keep (Some t) = option_to_list (option_map (λ (entry : Entry). origin_of entries t.call) (left keep (Some t)))

-- the row of a house that stops, with the entry that is written left or not
unfoldable pub stop_of : {C M : Type 0} → World C M → Bool → World C M
stop_of w keep = record w {
  turn = None;
  calls = map stopped w.calls;
  durable = w.durable ++ option_to_list (left keep w.turn);
  server = w.durable ++ option_to_list (left keep w.turn);
  origins = w.origins ++ origins_left w.durable keep w.turn;
}

-- ---- events

-- the world behind an event, or none where it does not fit
abbrev pub step : {C M : Type 0} → Rules C M → World C M → Event → Option (World C M)
step p w (on.Buy id start) = buy_of p w id start
step p w (on.Deliver k) = deliver_of p w k
step p w (on.Turn c) = turn_of p w c
step p w (on.Write c) = write_of w c
step p w (on.Open c) = open_of w c
step p w (on.Answer c) = answer_of w c
step p w (on.QuietConsumer id tid) = quiet_consumer_of p w id tid
step p w (on.QuietMerchant id consumer tid) = quiet_merchant_of p w id consumer tid
step p w (on.Stop keep) = Some (stop_of w keep)
step p w (on.RestartConsumer id) = restart_consumer_of p w id
step p w (on.RestartMerchant id) = restart_merchant_of p w id
step p w (on.Clock moment) = Some (record w { moment = moment })
step p w (on.Inject addressee kind body) = inject_of p w addressee kind body

-- an event that does not fit changes nothing
abbrev pub or_same : {A : Type 0} → A → Option A → A
or_same old None = old
or_same old (Some new) = new

-- the world behind an event, which is as it was where the event does not fit
abbrev pub next : {C M : Type 0} → Rules C M → World C M → Event → World C M
next p w e = or_same w (step p w e)

-- the world behind a list of events
abbrev pub run : {C M : Type 0} → Rules C M → World C M → List Event → World C M
run p w [] = w
run p w (e ∷ es) = run p (next p w e) es
