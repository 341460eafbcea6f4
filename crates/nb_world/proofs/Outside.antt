-- What nodes and the network do touches nothing of the house.
use Rattle.std.proofs.Common.{◌≡◌, ◌≢◌, ℕ, Bool, true, false, List, [], ◌∷◌, ◌++◌, length, Option, None, Some, refl, sym, ap, subst, ◌∙◌}
use Rattle.std.proofs.lemmas.List.{append-nil}
use Rattle.std.specs.Prelude.{◌&&◌, nat_le, if◌then◌else◌}
use Rattle.std.specs.List.{slice_get, AllByRecursion}
use Rattle.nb_units.specs.declared.frames.TheConstants.{LAST_KIND, MAX_BODY}
use Rattle.nb_units.specs.declared.limits.TheConstants.{MAX_MEMO}
use Rattle.nb_body.specs.declared.limits.TheConstants.{MAX_REQUEST}
use Rattle.nb_units.specs.declared.ids.PartyId.{PartyId}
use Rattle.nb_entry.specs.declared.entry.Entry.{Entry}
use Rattle.nb_book.specs.Legal.{Legal}
use Rattle.nb_turns.specs.Turns.{Request}
use Rattle.nb_world.specs.declared.call.Call.{Call}
use Rattle.nb_world.specs.declared.call.CallPhase.TheVariants.{Waiting}
use Rattle.nb_world.specs.declared.packet.Maker.{Maker}
use Rattle.nb_world.specs.declared.packet.Maker.TheVariants as by
use Rattle.nb_world.specs.declared.packet.Packet.{Packet}
use Rattle.nb_world.specs.declared.packet.Sending.{Sending}
use Rattle.nb_msgs.specs.declared.node.To.{To}
use Rattle.nb_msgs.specs.declared.node.To.TheVariants as to
use Rattle.nb_wallet.specs.declared.wallet.Start.{Start}
use Rattle.nb_world.specs.declared.turning.Verdict.{Verdict}
use Rattle.nb_world.specs.World.{Going, Stays, Goes, Rules, World}
use Rattle.nb_world.specs.Steps.{where_so, packets_of, consumer_goes, merchant_goes, consumer_at, merchant_at, is_known, started, server_gets, delivered_to, buy_of, quiet_consumer_of, quiet_merchant_of, restart_consumer_of, restart_merchant_of, deliver_of, inject_of}
use Rattle.nb_world.specs.Laws.{CallsHouse, RepliesSo, GrowsInto}
use Rattle.nb_world.proofs.Chains.{inside, same_some}
use Rattle.nb_world.proofs.Lists.{get_append, all_append, all_weaker}
use Rattle.nb_world.proofs.Growing.{Sound, TurnIs, lawful_later, called_later, turn_is_later, get_begins}

-- the packet is not the house's
abbrev pub NotByHouse : Packet → Type 0
NotByHouse made = (c at : ℕ) → made.maker ≢ by.Server c at

-- the house is as it was; these packets and these calls are new
pub record Outside {C M : Type 0} (v w : World C M) : Type 0 where
  pub made : List Packet
  pub asked : List Call
  pub durable : w.durable ≡ v.durable
  pub server : w.server ≡ v.server
  pub origins : w.origins ≡ v.origins
  pub acknowledged : w.acknowledged ≡ v.acknowledged
  pub turn : w.turn ≡ v.turn
  pub packets : w.packets ≡ v.packets ++ made
  pub calls : w.calls ≡ v.calls ++ asked
  pub not_by_house : AllByRecursion NotByHouse made
  pub of_house : AllByRecursion (CallsHouse v) asked
  pub waiting : AllByRecursion (λ (call : Call). call.phase ≡ Waiting) asked

-- a world is sound, and an earlier one grows into it
pub record Kept {C M : Type 0} (verdict : List Entry → Request → Verdict) (v w : World C M) : Type 0 where
  pub sound : Sound verdict w
  pub grows : GrowsInto v w

abbrev pub outside_grows : {C M : Type 0} (v w : World C M) → Outside v w → GrowsInto v w
outside_grows v w out = record {
  durable = ([], out.durable ∙ sym (append-nil v.durable));
  packets = (out.made, out.packets);
  origins = ([], out.origins ∙ sym (append-nil v.origins));
  acknowledged = ([], out.acknowledged ∙ sym (append-nil v.acknowledged));
  calls = λ c packet moment asks. record {
    call = asks.call;
    is = ap (λ calls. slice_get calls c) out.calls ∙ get_append v.calls out.asked c asks.call asks.is;
    of = ap (λ packets. slice_get packets asks.call.packet) out.packets ∙ get_append v.packets out.made asks.call.packet packet asks.of;
    at = asks.at;
  };
}

module _ {C M : Type 0} (verdict : List Entry → Request → Verdict) (v : World C M) (sound : Sound verdict v) where
  replies_so : (w : World C M) (made : Packet) (maker : Maker) → made.maker ≡ maker → NotByHouse made → RepliesSo verdict w made maker
  replies_so w made (by.Consumer id) is not = tt
  replies_so w made (by.Merchant id) is not = tt
  replies_so w made (by.Server c at) is not = absurd (not c at is)
  replies_so w made by.Network is not = tt

  pub outside_kept : (w : World C M) → Outside v w → Kept verdict v w
  outside_kept w out =
      let grows : GrowsInto v w = outside_grows v w out in
      let calls_later : (call : Call) → CallsHouse v call → CallsHouse w call =
      λ (call : Call) (is : CallsHouse v call). record { packet = is.packet; of = get_begins v.packets w.packets grows.packets call.packet is.packet is.of; for_house = is.for_house } in
      record {
        sound = record {
          lawful = lawful_later verdict v w grows sound.lawful
              (subst Legal (sym out.durable) sound.lawful.legal)
              (out.server ∙ sound.lawful.same ∙ sym out.durable)
              (subst (AllByRecursion (CallsHouse w)) (sym out.calls)
              (all_append (CallsHouse w) v.calls out.asked (called_later verdict v w grows sound.lawful.called) (all_weaker (CallsHouse v) (CallsHouse w) out.asked calls_later out.of_house)))
              tt
              tt
              (all_weaker NotByHouse (λ (made : Packet). RepliesSo verdict w made made.maker) out.made (λ (made : Packet) (not : NotByHouse made). replies_so w made made.maker refl not) out.not_by_house);
          turn = subst (TurnIs verdict w) (sym out.turn) (turn_is_later verdict v w grows out.durable v.turn sound.turn);
        };
        grows = grows;
      }

-- ---- each event that touches nothing of the house

consumer_sends : (id : PartyId) (sent : Option Sending) → AllByRecursion NotByHouse (packets_of (by.Consumer id) sent)
consumer_sends id None = tt
consumer_sends id (Some s) = ((λ c at is. cc), tt)

merchant_sends : (id : PartyId) (sent : Option Sending) → AllByRecursion NotByHouse (packets_of (by.Merchant id) sent)
merchant_sends id None = tt
merchant_sends id (Some s) = ((λ c at is. cc), tt)

module _ {C M : Type 0} where
  -- consumers, merchants or the clock change
  nodes_outside : (v : World C M) (consumers : List C) (merchants : List M) (moment : ℕ)
      → Outside v (record v { consumers = consumers; merchants = merchants; moment = moment })
  nodes_outside v consumers merchants moment = record {
    made = [];
    asked = [];
    durable = refl;
    server = refl;
    origins = refl;
    acknowledged = refl;
    turn = refl;
    packets = sym (append-nil v.packets);
    calls = sym (append-nil v.calls);
    not_by_house = tt;
    of_house = tt;
    waiting = tt;
  }

  same_outside : (v : World C M) → Outside v v
  same_outside v = nodes_outside v v.consumers v.merchants v.moment

  -- and these packets are new
  sends_outside : (v : World C M) (consumers : List C) (merchants : List M) (made : List Packet) → AllByRecursion NotByHouse made
      → Outside v (record v { consumers = consumers; merchants = merchants; packets = v.packets ++ made })
  sends_outside v consumers merchants made not = record {
    made = made;
    asked = [];
    durable = refl;
    server = refl;
    origins = refl;
    acknowledged = refl;
    turn = refl;
    packets = refl;
    calls = sym (append-nil v.calls);
    not_by_house = not;
    of_house = tt;
    waiting = tt;
  }

  consumer_outside : (v : World C M) (i : ℕ) (id : PartyId) (g : Going C) → Outside v (consumer_goes v i id g)
  consumer_outside v i id Stays = same_outside v
  consumer_outside v i id (Goes c sent) = sends_outside v _ v.merchants (packets_of (by.Consumer id) sent) (consumer_sends id sent)

  merchant_outside : (v : World C M) (i : ℕ) (id : PartyId) (g : Going M) → Outside v (merchant_goes v i id g)
  merchant_outside v i id Stays = same_outside v
  merchant_outside v i id (Goes m sent) = sends_outside v v.consumers _ (packets_of (by.Merchant id) sent) (merchant_sends id sent)

  either_outside : (v w : World C M) (b : Bool) → Outside v w → Outside v (if b then w else v)
  either_outside v w true out = out
  either_outside v w false out = same_outside v

  started_outside : (v w : World C M) (i : ℕ) (id : PartyId) (g : Going C) → started v i id g ≡ Some w → Outside v w
  started_outside v w i id Stays is = absurd cc
  started_outside v w i id (Goes c sent) is = subst (Outside v) (same_some _ w is) (consumer_outside v i id (Goes c sent))

  server_outside : (v : World C M) (k : ℕ) (packet : Packet) → slice_get v.packets k ≡ Some packet → packet.to ≡ to.Server → Outside v (server_gets v k)
  server_outside v k packet there for_house = record {
    made = [];
    asked = record { packet = k; moment = v.moment; phase = Waiting } ∷ [];
    durable = refl;
    server = refl;
    origins = refl;
    acknowledged = refl;
    turn = refl;
    packets = sym (append-nil v.packets);
    calls = refl;
    not_by_house = tt;
    of_house = (record { packet = packet; of = there; for_house = for_house }, tt);
    waiting = (refl, tt);
  }

module _ {C M : Type 0} (p : Rules C M) (v w : World C M) where
  pub buy_outside : (id : PartyId) (start : Start) → buy_of p v id start ≡ Some w → Outside v w
  unfolding buy_of
  buy_outside id start is =
      let i = inside (consumer_at p v id) _ w is in
      let c = inside (slice_get v.consumers i.0) _ w i.2 in
      let request = inside (where_so (nat_le (length start.request) MAX_REQUEST)) _ w c.2 in
      let memo = inside (where_so (nat_le (length start.memo) MAX_MEMO)) _ w request.2 in
      started_outside v w i.0 id (p.consumer_starts c.0 start) memo.2

  pub quiet_consumer_outside : (id : PartyId) (tid : ℕ) → quiet_consumer_of p v id tid ≡ Some w → Outside v w
  unfolding quiet_consumer_of
  quiet_consumer_outside id tid is =
      let i = inside (consumer_at p v id) _ w is in
      let c = inside (slice_get v.consumers i.0) _ w i.2 in
      let known = inside (where_so (p.has_purchase tid c.0)) _ w c.2 in
      subst (Outside v) (same_some _ w known.2) (consumer_outside v i.0 id (p.consumer_waited c.0 tid))

  pub quiet_merchant_outside : (id consumer : PartyId) (tid : ℕ) → quiet_merchant_of p v id consumer tid ≡ Some w → Outside v w
  unfolding quiet_merchant_of
  quiet_merchant_outside id consumer tid is =
      let i = inside (merchant_at p v id) _ w is in
      let m = inside (slice_get v.merchants i.0) _ w i.2 in
      let known = inside (where_so (p.has_sale consumer tid m.0)) _ w m.2 in
      subst (Outside v) (same_some _ w known.2) (merchant_outside v i.0 id (p.merchant_waited m.0 consumer tid))

  pub restart_consumer_outside : (id : PartyId) → restart_consumer_of p v id ≡ Some w → Outside v w
  unfolding restart_consumer_of
  restart_consumer_outside id is =
      let i = inside (consumer_at p v id) _ w is in
      let c = inside (slice_get v.consumers i.0) _ w i.2 in
      subst (Outside v) (same_some _ w c.2) (nodes_outside v _ v.merchants v.moment)

  pub restart_merchant_outside : (id : PartyId) → restart_merchant_of p v id ≡ Some w → Outside v w
  unfolding restart_merchant_of
  restart_merchant_outside id is =
      let i = inside (merchant_at p v id) _ w is in
      let m = inside (slice_get v.merchants i.0) _ w i.2 in
      subst (Outside v) (same_some _ w m.2) (nodes_outside v v.consumers _ v.moment)

  pub clock_outside : (moment : ℕ) → Some (record v { moment = moment }) ≡ Some w → Outside v w
  clock_outside moment is = subst (Outside v) (same_some _ w is) (nodes_outside v v.consumers v.merchants moment)

  pub inject_outside : (addressee : To) (kind : ℕ) (body : List ℕ) → inject_of p v addressee kind body ≡ Some w → Outside v w
  unfolding inject_of
  inject_outside addressee kind body is =
      let served = inside (where_so (nat_le 1 kind && nat_le kind LAST_KIND)) _ w is in
      let short = inside (where_so (nat_le (length body) MAX_BODY)) _ w served.2 in
      let known = inside (where_so (is_known p v addressee)) _ w short.2 in
      subst (Outside v) (same_some _ w known.2) (sends_outside v v.consumers v.merchants _ ((λ c at is. cc), tt))

  delivered_outside : (k : ℕ) (packet : Packet) (addressee : To) → slice_get v.packets k ≡ Some packet → packet.to ≡ addressee → delivered_to p v k packet addressee ≡ Some w → Outside v w
  delivered_outside k packet to.Server there for is = subst (Outside v) (same_some _ w is) (server_outside v k packet there for)
  delivered_outside k packet (to.Merchant id) there for is =
      let i = inside (merchant_at p v id) _ w is in
      let m = inside (slice_get v.merchants i.0) _ w i.2 in
      subst (Outside v) (same_some _ w m.2) (either_outside v _ (p.is_body packet.kind packet.body) (merchant_outside v i.0 id (p.merchant_hears m.0 packet.kind packet.body v.moment)))
  delivered_outside k packet (to.Consumer id) there for is =
      let i = inside (consumer_at p v id) _ w is in
      let c = inside (slice_get v.consumers i.0) _ w i.2 in
      subst (Outside v) (same_some _ w c.2) (either_outside v _ (p.is_body packet.kind packet.body) (consumer_outside v i.0 id (p.consumer_hears c.0 packet.kind packet.body)))

  pub deliver_outside : (k : ℕ) → deliver_of p v k ≡ Some w → Outside v w
  unfolding deliver_of
  deliver_outside k is =
      let packet = inside (slice_get v.packets k) _ w is in
      delivered_outside k packet.0 packet.0.to packet.1 refl packet.2
