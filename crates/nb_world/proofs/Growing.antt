-- Nothing is lost from a world to a later one, and what was true of it stays true.
use Rattle.std.proofs.Common.{◌≡◌, ℕ, ◌<◌, ◌≤◌, List, length, take, Option, None, Some, sym, ap, subst, ◌∙◌, arith, length-append}
use Rattle.std.proofs.lemmas.List.{take-append-le}
use Rattle.std.proofs.lemmas.Option.{slice_get_within}
use Rattle.std.specs.List.{slice_get, AllByRecursion}
use Rattle.nb_entry.specs.declared.entry.Entry.{Entry}
use Rattle.nb_book.specs.Legal.{Legal}
use Rattle.nb_turns.specs.Turns.{Request}
use Rattle.nb_world.specs.declared.call.Call.{Call}
use Rattle.nb_world.specs.declared.packet.Maker.{Maker}
use Rattle.nb_world.specs.declared.packet.Maker.TheVariants as by
use Rattle.nb_world.specs.declared.packet.Packet.{Packet}
use Rattle.nb_world.specs.declared.turning.Acknowledged.{Acknowledged}
use Rattle.nb_world.specs.declared.turning.Origin.{Origin}
use Rattle.nb_world.specs.declared.turning.Stage.{Stage}
use Rattle.nb_world.specs.declared.turning.Stage.TheVariants as stage
use Rattle.nb_world.specs.declared.turning.Turning.{Turning}
use Rattle.nb_world.specs.declared.turning.Verdict.{Verdict}
use Rattle.nb_world.specs.World.{World, request_of}
use Rattle.nb_world.specs.Laws.{Asks, CallsHouse, CameBy, StandsDurable, IsReply, RepliesSo, IsLawfulWorld, Begins, GrowsInto}
use Rattle.nb_world.proofs.Lists.{get_append, begins_same, begins_then, all_weaker, all_append}

-- what stands at a place of a list stands there of each that begins with it
pub get_begins : {A : Type 0} (xs ys : List A) → Begins ys xs → (k : ℕ) (x : A) → slice_get xs k ≡ Some x → slice_get ys k ≡ Some x
get_begins xs ys begins k x is = ap (λ all. slice_get all k) begins.1 ∙ get_append xs begins.0 k x is

pub take_begins : {A : Type 0} (xs ys : List A) → Begins ys xs → (n : ℕ) → n ≤ length xs → take n ys ≡ take n xs
take_begins xs ys begins n within = ap (take n) begins.1 ∙ take-append-le n xs begins.0 within

pub longer : {A : Type 0} (xs ys : List A) → Begins ys xs → length xs ≤ length ys
longer xs ys begins = omega (arith, ap length begins.1, length-append xs begins.0)

-- ---- the turn

-- the verdict of the turn was taken over the first entries, as many as its place says, on what its call asks; and how far it has
-- come: these are all entries, or its own is the next one there
abbrev pub StageSo : {C M : Type 0} → World C M → Turning → Stage → Type 0
StageSo w t stage.Decided = t.at ≡ length w.durable
StageSo w t stage.Written = t.at ≡ length w.durable
StageSo w t stage.Opened = (entry : Entry) × (t.verdict.entry ≡ Some entry) × (slice_get w.durable t.at ≡ Some entry)

pub record TurnSo {C M : Type 0} (verdict : List Entry → Request → Verdict) (w : World C M) (t : Turning) : Type 0 where
  pub packet : Packet
  pub moment : ℕ
  pub asks : Asks w t.call packet moment
  pub within : t.at ≤ length w.durable
  pub decided : t.verdict ≡ verdict (take t.at w.durable) (request_of packet moment)
  pub stage : StageSo w t t.stage

abbrev pub TurnIs : {C M : Type 0} → (List Entry → Request → Verdict) → World C M → Option Turning → Type 0
TurnIs verdict w None = Unit {0}
TurnIs verdict w (Some t) = TurnSo verdict w t

-- a world is lawful, and so is its turn
pub record Sound {C M : Type 0} (verdict : List Entry → Request → Verdict) (w : World C M) : Type 0 where
  pub lawful : IsLawfulWorld verdict w
  pub turn : TurnIs verdict w w.turn

-- ---- later

pub grows_same : {C M : Type 0} (w : World C M) → GrowsInto w w
grows_same w = record {
  durable = begins_same w.durable;
  packets = begins_same w.packets;
  origins = begins_same w.origins;
  acknowledged = begins_same w.acknowledged;
  calls = λ c packet moment asks. asks;
}

pub grows_then : {C M : Type 0} (u v w : World C M) → GrowsInto u v → GrowsInto v w → GrowsInto u w
grows_then u v w first second = record {
  durable = begins_then u.durable v.durable w.durable first.durable second.durable;
  packets = begins_then u.packets v.packets w.packets first.packets second.packets;
  origins = begins_then u.origins v.origins w.origins first.origins second.origins;
  acknowledged = begins_then u.acknowledged v.acknowledged w.acknowledged first.acknowledged second.acknowledged;
  calls = λ c packet moment asks. second.calls c packet moment (first.calls c packet moment asks);
}

module _ {C M : Type 0} (verdict : List Entry → Request → Verdict) (v w : World C M) (grows : GrowsInto v w) where
  front : (n : ℕ) → n ≤ length v.durable → take n w.durable ≡ take n v.durable
  front n within = take_begins v.durable w.durable grows.durable n within

  calls_later : (call : Call) → CallsHouse v call → CallsHouse w call
  calls_later call is = record { packet = is.packet; of = get_begins v.packets w.packets grows.packets call.packet is.packet is.of; for_house = is.for_house }

  came_later : (origin : Origin) → CameBy verdict v origin → CameBy verdict w origin
  came_later origin came =
      let within : origin.place < length v.durable = slice_get_within v.durable origin.place came.entry came.stands in
      let same : take origin.place w.durable ≡ take origin.place v.durable = front origin.place (omega arith) in
      record {
        packet = came.packet;
        moment = came.moment;
        entry = came.entry;
        asks = grows.calls origin.call came.packet came.moment came.asks;
        stands = get_begins v.durable w.durable grows.durable origin.place came.entry came.stands;
        ruled = ap (λ entries. (verdict entries (request_of came.packet came.moment)).entry) same ∙ came.ruled;
      }

  stands_later : (a : Acknowledged) → StandsDurable v a → StandsDurable w a
  stands_later a is = get_begins v.durable w.durable grows.durable a.place a.entry is

  reply_later : (made : Packet) (c at : ℕ) → IsReply verdict v made c at → IsReply verdict w made c at
  reply_later made c at is =
      let same : take at w.durable ≡ take at v.durable = front at is.within in
      let more : length v.durable ≤ length w.durable = longer v.durable w.durable grows.durable in
      record {
        packet = is.packet;
        moment = is.moment;
        asks = grows.calls c is.packet is.moment is.asks;
        within = omega (arith, is.within, more);
        kind = is.kind ∙ ap (λ entries. (verdict entries (request_of is.packet is.moment)).kind) (sym same);
        body = is.body ∙ ap (λ entries. (verdict entries (request_of is.packet is.moment)).body) (sym same);
        recorded = λ entry records. get_begins v.durable w.durable grows.durable at entry
            (is.recorded entry (ap (λ entries. (verdict entries (request_of is.packet is.moment)).entry) (sym same) ∙ records));
        for_asker = is.for_asker;
      }

  replies_later : (made : Packet) (maker : Maker) → RepliesSo verdict v made maker → RepliesSo verdict w made maker
  replies_later made (by.Consumer id) is = tt
  replies_later made (by.Merchant id) is = tt
  replies_later made (by.Server c at) is = reply_later made c at is
  replies_later made by.Network is = tt

  -- a turn stays so, where the entries are the same
  turn_later : w.durable ≡ v.durable → (t : Turning) → TurnSo verdict v t → TurnSo verdict w t
  turn_later same t is = record {
    packet = is.packet;
    moment = is.moment;
    asks = grows.calls t.call is.packet is.moment is.asks;
    within = subst (λ (entries : List Entry). t.at ≤ length entries) (sym same) is.within;
    decided = is.decided ∙ ap (λ entries. verdict (take t.at entries) (request_of is.packet is.moment)) (sym same);
    stage = stage_later t.stage is.stage;
  }
    where
      stage_later : (s : Stage) → StageSo v t s → StageSo w t s
      stage_later stage.Decided is = is ∙ ap length (sym same)
      stage_later stage.Written is = is ∙ ap length (sym same)
      stage_later stage.Opened is = (is.0, is.1, ap (λ entries. slice_get entries t.at) same ∙ is.2)

  pub turn_is_later : w.durable ≡ v.durable → (t : Option Turning) → TurnIs verdict v t → TurnIs verdict w t
  turn_is_later same None is = tt
  turn_is_later same (Some t) is = turn_later same t is

  -- a later world is lawful, where what is new in it is so
  pub lawful_later : IsLawfulWorld verdict v → Legal w.durable → w.server ≡ w.durable → AllByRecursion (CallsHouse w) w.calls
      → AllByRecursion (CameBy verdict w) grows.origins.0 → AllByRecursion (StandsDurable w) grows.acknowledged.0
      → AllByRecursion (λ (made : Packet). RepliesSo verdict w made made.maker) grows.packets.0
      → IsLawfulWorld verdict w
  lawful_later old legal same called came stands replies = record {
    legal = legal;
    same = same;
    called = called;
    came = subst (AllByRecursion (CameBy verdict w)) (sym grows.origins.1)
        (all_append (CameBy verdict w) v.origins grows.origins.0 (all_weaker (CameBy verdict v) (CameBy verdict w) v.origins came_later old.came) came);
    stands = subst (AllByRecursion (StandsDurable w)) (sym grows.acknowledged.1)
        (all_append (StandsDurable w) v.acknowledged grows.acknowledged.0 (all_weaker (StandsDurable v) (StandsDurable w) v.acknowledged stands_later old.stands) stands);
    replies = subst (AllByRecursion (λ (made : Packet). RepliesSo verdict w made made.maker)) (sym grows.packets.1)
        (all_append (λ (made : Packet). RepliesSo verdict w made made.maker) v.packets grows.packets.0
        (all_weaker (λ (made : Packet). RepliesSo verdict v made made.maker) (λ (made : Packet). RepliesSo verdict w made made.maker) v.packets (λ (made : Packet). replies_later made made.maker) old.replies)
        replies);
  }

  pub called_later : AllByRecursion (CallsHouse v) v.calls → AllByRecursion (CallsHouse w) v.calls
  called_later all = all_weaker (CallsHouse v) (CallsHouse w) v.calls calls_later all
