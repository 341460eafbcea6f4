-- Worlds in numbers: a consumer, which sends its enrolment where it starts a purchase, a merchant, and a small house.
use Rattle.std.specs.Prelude.{◌≡◌, ℕ, ◌+◌, ◌==◌, true, false, List, [], ◌∷◌, ◌++◌, length, take, nat_lt, slice_index_or, None, Some, if◌then◌else◌}
use Rattle.nb_units.specs.declared.frames.TheConstants.{DONE_REPLY, ENROL_REQUEST, PRICE_REQUEST}
use Rattle.nb_units.specs.declared.ids.PartyId.{PartyId}
use Rattle.nb_entry.specs.declared.entry.Entry.{Entry}
use Rattle.nb_turns.specs.Turns.{Request}
use Rattle.nb_turns.specs.Worked.{enrolment, small_rules, small_house, enrol_one, enrol_two}
use Rattle.nb_world.specs.declared.call.CallPhase.TheVariants.{Answered, Gone}
use Rattle.nb_world.specs.declared.event.Event.{Event}
use Rattle.nb_world.specs.declared.event.Event.TheVariants as on
use Rattle.nb_world.specs.declared.packet.Maker.TheVariants as by
use Rattle.nb_world.specs.declared.packet.Packet.{Packet}
use Rattle.nb_world.specs.declared.packet.Sending.{Sending}
use Rattle.nb_msgs.specs.declared.node.To.TheVariants as to
use Rattle.nb_wallet.specs.declared.wallet.Start.{Start}
use Rattle.nb_world.specs.declared.turning.Verdict.{Verdict}
use Rattle.nb_world.specs.World.{Stays, Goes, Rules, World}
use Rattle.nb_world.specs.Steps.{run, step}
use Rattle.nb_world.specs.Ties.{Stops, events_of, all_play}

-- the party 1
abbrev pub first_party : PartyId
first_party = record { 0 = 1 }

-- the party 2
abbrev pub second_party : PartyId
second_party = record { 0 = 2 }

-- what the consumer sends
abbrev pub enrols_itself : Sending
enrols_itself = record { to = to.Server; kind = ENROL_REQUEST; body = 1 ∷ [] }

-- what a small house's ruling comes to in a world
abbrev pub small_verdict : List Entry → Request → Verdict
small_verdict entries request = record { kind = DONE_REPLY; body = (small_rules entries request).reply; entry = (small_rules entries request).entry }

-- a consumer is how many replies it heard, a merchant the sum of the moments at which it heard something; a body is spelled right where it has a byte
abbrev pub small_world_rules : Rules ℕ ℕ
small_world_rules = record {
  verdict = small_verdict;
  is_body = λ kind body. nat_lt 0 (length body);
  is_consumer = λ id heard. id.0 == 1;
  has_purchase = λ tid heard. tid == 1;
  consumer_starts = λ heard start. Goes heard (Some enrols_itself);
  consumer_hears = λ heard kind body. Goes (heard + 1) None;
  consumer_waited = λ heard tid. Goes heard (Some enrols_itself);
  consumer_again = λ heard. 0;
  is_merchant = λ id m. id.0 == 2;
  has_sale = λ id tid m. true;
  merchant_hears = λ m kind body moment. Goes (m + moment) None;
  merchant_waited = λ m id tid. Stays;
  merchant_again = λ m. 0;
}

-- a small world, in which nothing has happened
abbrev pub small_world : World ℕ ℕ
small_world = record {
  consumers = 0 ∷ [];
  merchants = 0 ∷ [];
  packets = [];
  calls = [];
  turn = None;
  durable = [];
  server = [];
  origins = [];
  acknowledged = [];
  moment = 0;
}

-- a purchase of product 1 from the second party
abbrev pub small_start : Start
small_start = record { transaction = 1; merchant = second_party; product = 1; limit = record { 0 = 5 }; request = []; memo = [] }

-- the packet by which the consumer enrols itself
abbrev pub enrolling : Packet
enrolling = record { kind = ENROL_REQUEST; body = 1 ∷ []; maker = by.Consumer first_party; to = to.Server }

-- it sends, the house answers, and it hears the reply
abbrev pub all_goes_well : List Event
all_goes_well =
    on.Clock 7 ∷ on.Buy first_party small_start ∷ on.Deliver 0 ∷ on.Turn 0 ∷ on.Write 0 ∷ on.Open 0 ∷ on.Answer 0 ∷ on.Deliver 1 ∷ []

-- the entry stands at place 0, came by call 0 and is acknowledged; the reply is told at place 0, and was heard
abbrev pub HeardOnce : Type 0
HeardOnce = run small_world_rules small_world all_goes_well ≡ record small_world {
  consumers = 1 ∷ [];
  packets = enrolling ∷ record { kind = DONE_REPLY; body = 1 ∷ 0 ∷ 0 ∷ []; maker = by.Server 0 0; to = to.Consumer first_party } ∷ [];
  calls = record { packet = 0; moment = 7; phase = Answered } ∷ [];
  durable = enrolment 1 ∷ [];
  server = enrolment 1 ∷ [];
  origins = record { place = 0; call = 0 } ∷ [];
  acknowledged = record { entry = enrolment 1; place = 0 } ∷ [];
  moment = 7;
}

-- the house stops behind the writing and the entry is left; the packet comes again, is told what is held, and nothing is recorded
abbrev pub stopped_and_again : List Event
stopped_and_again =
    on.Buy first_party small_start ∷ on.Deliver 0 ∷ on.Turn 0 ∷ on.Write 0 ∷ on.Stop true ∷ on.Deliver 0 ∷ on.Turn 1 ∷ on.Answer 1 ∷ []

-- law in numbers: the world behind these events
abbrev pub LeftAndTold : Type 0
LeftAndTold = run small_world_rules small_world stopped_and_again ≡ record small_world {
  packets = enrolling ∷ record { kind = DONE_REPLY; body = 1 ∷ 0 ∷ 0 ∷ []; maker = by.Server 1 1; to = to.Consumer first_party } ∷ [];
  calls = record { packet = 0; moment = 0; phase = Gone } ∷ record { packet = 0; moment = 0; phase = Answered } ∷ [];
  durable = enrolment 1 ∷ [];
  server = enrolment 1 ∷ [];
  origins = record { place = 0; call = 0 } ∷ [];
}

-- an injected request is recorded and acknowledged, and no packet is made of its reply; a packet that is not there is not delivered, and a
-- call that was answered takes no turn again
abbrev pub injected_and_unfit : List Event
injected_and_unfit =
    on.Inject to.Server ENROL_REQUEST (1 ∷ []) ∷ on.Deliver 0 ∷ on.Turn 0 ∷ on.Write 0 ∷ on.Open 0 ∷ on.Answer 0 ∷ on.Deliver 1 ∷ on.Turn 0 ∷ []

-- law in numbers: the world behind these events
abbrev pub InjectedIsRecorded : Type 0
InjectedIsRecorded = (run small_world_rules small_world injected_and_unfit ≡ record small_world {
  packets = record { kind = ENROL_REQUEST; body = 1 ∷ []; maker = by.Network; to = to.Server } ∷ [];
  calls = record { packet = 0; moment = 0; phase = Answered } ∷ [];
  durable = enrolment 1 ∷ [];
  server = enrolment 1 ∷ [];
  origins = record { place = 0; call = 0 } ∷ [];
  acknowledged = record { entry = enrolment 1; place = 0 } ∷ [];
}) × (step small_world_rules small_world (on.Deliver 0) ≡ None)

-- the merchant hears an injected packet at the clock's moment, and not one without a byte; the consumer sends again where it knows the purchase,
-- and the purchase 2 is none of its own
abbrev pub heard_and_waited : List Event
heard_and_waited =
    on.Clock 7 ∷ on.Inject (to.Merchant second_party) PRICE_REQUEST (5 ∷ []) ∷ on.Deliver 0 ∷ on.Inject (to.Merchant second_party) PRICE_REQUEST [] ∷ on.Deliver 1
    ∷ on.QuietConsumer first_party 1 ∷ on.QuietConsumer first_party 2 ∷ []

-- behind its restart the merchant heard nothing
abbrev pub NodesHear : Type 0
NodesHear = (run small_world_rules small_world heard_and_waited ≡ record small_world {
  merchants = 7 ∷ [];
  packets = record { kind = PRICE_REQUEST; body = 5 ∷ []; maker = by.Network; to = to.Merchant second_party }
      ∷ record { kind = PRICE_REQUEST; body = []; maker = by.Network; to = to.Merchant second_party } ∷ enrolling ∷ [];
  moment = 7;
}) × ((run small_world_rules small_world (heard_and_waited ++ on.RestartMerchant second_party ∷ [])).merchants ≡ 0 ∷ [])

-- ---- two consumers, and a merchant that sends

-- the party 3
abbrev pub third_party : PartyId
third_party = record { 0 = 3 }

-- a consumer below 10 is the party 1, any other the party 3, and starts again as 100 more; a merchant that waited counts that, and enrols itself
abbrev pub two_consumers_rules : Rules ℕ ℕ
two_consumers_rules = record small_world_rules {
  is_consumer = λ id heard. if nat_lt heard 10 then id.0 == 1 else id.0 == 3;
  consumer_again = λ heard. heard + 100;
  merchant_waited = λ m id tid. Goes (m + 1) (Some enrols_itself);
}

-- the small world with a second consumer
abbrev pub two_consumers : World ℕ ℕ
two_consumers = record small_world { consumers = 0 ∷ 10 ∷ [] }

-- the second consumer hears a packet and starts again; the merchant sends, is answered, and hears the reply
abbrev pub merchant_is_answered : List Event
merchant_is_answered =
    on.Clock 3 ∷ on.Inject (to.Consumer third_party) DONE_REPLY (1 ∷ []) ∷ on.Deliver 0 ∷ on.RestartConsumer third_party
    ∷ on.QuietMerchant second_party first_party 1 ∷ on.Deliver 1 ∷ on.Turn 0 ∷ on.Write 0 ∷ on.Open 0 ∷ on.Answer 0 ∷ on.Deliver 2 ∷ []

-- law in numbers: the world behind these events
abbrev pub EachNodeItsOwn : Type 0
EachNodeItsOwn = run two_consumers_rules two_consumers merchant_is_answered ≡ record two_consumers {
  consumers = 0 ∷ 111 ∷ [];
  merchants = 4 ∷ [];
  packets = record { kind = DONE_REPLY; body = 1 ∷ []; maker = by.Network; to = to.Consumer third_party }
      ∷ record { kind = ENROL_REQUEST; body = 1 ∷ []; maker = by.Merchant second_party; to = to.Server }
      ∷ record { kind = DONE_REPLY; body = 1 ∷ 0 ∷ 0 ∷ []; maker = by.Server 0 0; to = to.Merchant second_party } ∷ [];
  calls = record { packet = 1; moment = 3; phase = Answered } ∷ [];
  durable = enrolment 1 ∷ [];
  server = enrolment 1 ∷ [];
  origins = record { place = 0; call = 0 } ∷ [];
  acknowledged = record { entry = enrolment 1; place = 0 } ∷ [];
  moment = 3;
}

-- ---- two entries in doubt

-- packet 0 asks to enrol 1, and packet 1 to enrol 2
abbrev pub two_asked : World ℕ ℕ
two_asked = record small_world { packets = enrolling ∷ record { kind = ENROL_REQUEST; body = 2 ∷ []; maker = by.Network; to = to.Server } ∷ [] }

-- the packet by which a request of these two is asked
abbrev pub packet_of : Request → ℕ
packet_of request = if slice_index_or request.body 0 0 == 1 then 0 else 1

-- both are kept: each is written, and a stop leaves it
abbrev pub both_kept : List Event
both_kept =
    on.Clock 0 ∷ on.Deliver 0 ∷ on.Turn 0 ∷ on.Write 0 ∷ on.Stop true ∷ on.Clock 0 ∷ on.Deliver 1 ∷ on.Turn 1 ∷ on.Write 1 ∷ on.Stop true ∷ []

-- both are dropped: the first is written, and a stop does not leave it
abbrev pub both_dropped : List Event
both_dropped = on.Clock 0 ∷ on.Deliver 0 ∷ on.Turn 0 ∷ on.Write 0 ∷ on.Stop false ∷ []

-- these are the events of it, and what they lead to
abbrev pub DoubtOfTwo : Type 0
DoubtOfTwo = (events_of small_house packet_of 0 [] (all_play (Stops true) (enrol_one ∷ enrol_two ∷ [])) ≡ both_kept)
    × ((run small_world_rules two_asked both_kept).durable ≡ enrolment 1 ∷ enrolment 2 ∷ [])
    × (events_of small_house packet_of 0 [] (all_play (Stops false) (take 1 (enrol_one ∷ enrol_two ∷ []))) ≡ both_dropped)
    × ((run small_world_rules two_asked both_dropped).durable ≡ [])
