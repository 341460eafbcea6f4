-- No event takes a consumer out of a world.
use Rattle.std.proofs.Common.{◌≡◌, ℕ, ◌<◌, Bool, true, false, List, [], ◌∷◌, length, Option, None, Some, refl, subst, ◌∙◌, arith, get_or}
use Rattle.std.proofs.lemmas.List.{length-set}
use Rattle.std.proofs.lemmas.Option.{slice_get_within, slice_get-get_or}
use Rattle.std.specs.Prelude.{◌==◌, ◌&&◌, nat_le, if◌then◌else◌}
use Rattle.std.specs.List.{slice_get}
use Rattle.std.specs.Option.{is_none}
use Rattle.nb_units.specs.declared.frames.TheConstants.{LAST_KIND, MAX_BODY}
use Rattle.nb_units.specs.declared.ids.PartyId.{PartyId}
use Rattle.nb_units.specs.declared.limits.TheConstants.{MAX_MEMO}
use Rattle.nb_body.specs.declared.limits.TheConstants.{MAX_REQUEST}
use Rattle.nb_msgs.specs.declared.node.To.{To}
use Rattle.nb_msgs.specs.declared.node.To.TheVariants as to
use Rattle.nb_wallet.specs.declared.wallet.Start.{Start}
use Rattle.nb_world.specs.declared.event.Event.{Event}
use Rattle.nb_world.specs.declared.event.Event.TheVariants as on
use Rattle.nb_world.specs.declared.packet.Packet.{Packet}
use Rattle.nb_world.specs.World.{Going, Stays, Goes, Rules, World, is_decided, is_written}
use Rattle.nb_world.specs.Steps.{where_so, consumer_goes, merchant_goes, consumer_at, merchant_at, is_known, is_waiting, started, delivered_to, buy_of, quiet_consumer_of, quiet_merchant_of, restart_consumer_of, restart_merchant_of, deliver_of, inject_of, turn_of, write_of, open_of, answer_of, stop_of, may_answer, step, next, or_same, run}
use Rattle.nb_world.proofs.Chains.{inside, same_some}

module _ {C M : Type 0} (p : Rules C M) where
  -- as many consumers as before
  abbrev AsMany : World C M → World C M → Type 0
  AsMany v w = length w.consumers ≡ length v.consumers

  consumer_stays : (v : World C M) (i : ℕ) (id : PartyId) (g : Going C) → AsMany v (consumer_goes v i id g)
  consumer_stays v i id Stays = refl
  consumer_stays v i id (Goes c sent) = length-set v.consumers i c

  merchant_leaves : (v : World C M) (i : ℕ) (id : PartyId) (g : Going M) → AsMany v (merchant_goes v i id g)
  merchant_leaves v i id Stays = refl
  merchant_leaves v i id (Goes m sent) = refl

  either_stays : (v w : World C M) (b : Bool) → AsMany v w → AsMany v (if b then w else v)
  either_stays v w true so = so
  either_stays v w false so = refl

  started_stays : (v w : World C M) (i : ℕ) (id : PartyId) (g : Going C) → started v i id g ≡ Some w → AsMany v w
  started_stays v w i id Stays is = absurd cc
  started_stays v w i id (Goes c sent) is = subst (AsMany v) (same_some _ w is) (consumer_stays v i id (Goes c sent))

  module _ (v w : World C M) where
    buy_stays : (id : PartyId) (start : Start) → buy_of p v id start ≡ Some w → AsMany v w
    unfolding buy_of
    buy_stays id start is =
        let i = inside (consumer_at p v id) _ w is in
        let c = inside (slice_get v.consumers i.0) _ w i.2 in
        let request = inside (where_so (nat_le (length start.request) MAX_REQUEST)) _ w c.2 in
        let memo = inside (where_so (nat_le (length start.memo) MAX_MEMO)) _ w request.2 in
        started_stays v w i.0 id (p.consumer_starts c.0 start) memo.2

    quiet_consumer_stays : (id : PartyId) (tid : ℕ) → quiet_consumer_of p v id tid ≡ Some w → AsMany v w
    unfolding quiet_consumer_of
    quiet_consumer_stays id tid is =
        let i = inside (consumer_at p v id) _ w is in
        let c = inside (slice_get v.consumers i.0) _ w i.2 in
        let known = inside (where_so (p.has_purchase tid c.0)) _ w c.2 in
        subst (AsMany v) (same_some _ w known.2) (consumer_stays v i.0 id (p.consumer_waited c.0 tid))

    quiet_merchant_stays : (id consumer : PartyId) (tid : ℕ) → quiet_merchant_of p v id consumer tid ≡ Some w → AsMany v w
    unfolding quiet_merchant_of
    quiet_merchant_stays id consumer tid is =
        let i = inside (merchant_at p v id) _ w is in
        let m = inside (slice_get v.merchants i.0) _ w i.2 in
        let known = inside (where_so (p.has_sale consumer tid m.0)) _ w m.2 in
        subst (AsMany v) (same_some _ w known.2) (merchant_leaves v i.0 id (p.merchant_waited m.0 consumer tid))

    restart_consumer_stays : (id : PartyId) → restart_consumer_of p v id ≡ Some w → AsMany v w
    unfolding restart_consumer_of
    restart_consumer_stays id is =
        let i = inside (consumer_at p v id) _ w is in
        let c = inside (slice_get v.consumers i.0) _ w i.2 in
        subst (AsMany v) (same_some _ w c.2) (length-set v.consumers i.0 (p.consumer_again c.0))

    restart_merchant_stays : (id : PartyId) → restart_merchant_of p v id ≡ Some w → AsMany v w
    unfolding restart_merchant_of
    restart_merchant_stays id is =
        let i = inside (merchant_at p v id) _ w is in
        let m = inside (slice_get v.merchants i.0) _ w i.2 in
        subst (AsMany v) (same_some _ w m.2) refl

    inject_stays : (addressee : To) (kind : ℕ) (body : List ℕ) → inject_of p v addressee kind body ≡ Some w → AsMany v w
    unfolding inject_of
    inject_stays addressee kind body is =
        let served = inside (where_so (nat_le 1 kind && nat_le kind LAST_KIND)) _ w is in
        let short = inside (where_so (nat_le (length body) MAX_BODY)) _ w served.2 in
        let known = inside (where_so (is_known p v addressee)) _ w short.2 in
        subst (AsMany v) (same_some _ w known.2) refl

    delivered_stays : (k : ℕ) (packet : Packet) (addressee : To) → delivered_to p v k packet addressee ≡ Some w → AsMany v w
    delivered_stays k packet to.Server is = subst (AsMany v) (same_some _ w is) refl
    delivered_stays k packet (to.Merchant id) is =
        let i = inside (merchant_at p v id) _ w is in
        let m = inside (slice_get v.merchants i.0) _ w i.2 in
        subst (AsMany v) (same_some _ w m.2) (either_stays v _ (p.is_body packet.kind packet.body) (merchant_leaves v i.0 id (p.merchant_hears m.0 packet.kind packet.body v.moment)))
    delivered_stays k packet (to.Consumer id) is =
        let i = inside (consumer_at p v id) _ w is in
        let c = inside (slice_get v.consumers i.0) _ w i.2 in
        subst (AsMany v) (same_some _ w c.2) (either_stays v _ (p.is_body packet.kind packet.body) (consumer_stays v i.0 id (p.consumer_hears c.0 packet.kind packet.body)))

    deliver_stays : (k : ℕ) → deliver_of p v k ≡ Some w → AsMany v w
    unfolding deliver_of
    deliver_stays k is =
        let packet = inside (slice_get v.packets k) _ w is in
        delivered_stays k packet.0 packet.0.to packet.2

    turn_stays : (c : ℕ) → turn_of p v c ≡ Some w → AsMany v w
    unfolding turn_of
    turn_stays c is =
        let free = inside (where_so (is_none v.turn)) _ w is in
        let call = inside (slice_get v.calls c) _ w free.2 in
        let waits = inside (where_so (is_waiting call.0.phase)) _ w call.2 in
        let packet = inside (slice_get v.packets call.0.packet) _ w waits.2 in
        subst (AsMany v) (same_some _ w packet.2) refl

    write_stays : (c : ℕ) → write_of v c ≡ Some w → AsMany v w
    unfolding write_of
    write_stays c is =
        let t = inside v.turn _ w is in
        let its = inside (where_so (t.0.call == c)) _ w t.2 in
        let decided = inside (where_so (is_decided t.0.stage)) _ w its.2 in
        let entry = inside t.0.verdict.entry _ w decided.2 in
        subst (AsMany v) (same_some _ w entry.2) refl

    open_stays : (c : ℕ) → open_of v c ≡ Some w → AsMany v w
    unfolding open_of
    open_stays c is =
        let t = inside v.turn _ w is in
        let its = inside (where_so (t.0.call == c)) _ w t.2 in
        let written = inside (where_so (is_written t.0.stage)) _ w its.2 in
        let entry = inside t.0.verdict.entry _ w written.2 in
        subst (AsMany v) (same_some _ w entry.2) refl

    answer_stays : (c : ℕ) → answer_of v c ≡ Some w → AsMany v w
    unfolding answer_of
    answer_stays c is =
        let t = inside v.turn _ w is in
        let its = inside (where_so (t.0.call == c)) _ w t.2 in
        let ready = inside (where_so (may_answer t.0.stage t.0.verdict.entry)) _ w its.2 in
        subst (AsMany v) (same_some _ w ready.2) refl

    stop_stays : (keep : Bool) → Some (stop_of v keep) ≡ Some w → AsMany v w
    unfolding stop_of
    stop_stays keep is = subst (AsMany v) (same_some _ w is) refl

    clock_stays : (moment : ℕ) → Some (record v { moment = moment }) ≡ Some w → AsMany v w
    clock_stays moment is = subst (AsMany v) (same_some _ w is) refl

    step_stays : (e : Event) → step p v e ≡ Some w → AsMany v w
    step_stays (on.Buy id start) is = buy_stays id start is
    step_stays (on.Deliver k) is = deliver_stays k is
    step_stays (on.Turn c) is = turn_stays c is
    step_stays (on.Write c) is = write_stays c is
    step_stays (on.Open c) is = open_stays c is
    step_stays (on.Answer c) is = answer_stays c is
    step_stays (on.QuietConsumer id tid) is = quiet_consumer_stays id tid is
    step_stays (on.QuietMerchant id consumer tid) is = quiet_merchant_stays id consumer tid is
    step_stays (on.Stop keep) is = stop_stays keep is
    step_stays (on.RestartConsumer id) is = restart_consumer_stays id is
    step_stays (on.RestartMerchant id) is = restart_merchant_stays id is
    step_stays (on.Clock moment) is = clock_stays moment is
    step_stays (on.Inject addressee kind body) is = inject_stays addressee kind body is

  next_stays : (v : World C M) (e : Event) → AsMany v (next p v e)
  next_stays v e = by (step p v e) refl
    where
      by : (o : Option (World C M)) → step p v e ≡ o → AsMany v (or_same v o)
      by None is = refl
      by (Some w) is = step_stays v w e is

  run_stays : (es : List Event) (v : World C M) → AsMany v (run p v es)
  run_stays [] v = refl
  run_stays (e ∷ es) v = run_stays es (next p v e) ∙ next_stays v e

  -- who is at a place is followed by somebody there
  pub still_there : (es : List Event) (v : World C M) (i : ℕ) (c : C) → slice_get v.consumers i ≡ Some c → (d : C) × (slice_get (run p v es).consumers i ≡ Some d)
  still_there es v i c there =
      let before : i < length v.consumers = slice_get_within v.consumers i c there in
      let within : i < length (run p v es).consumers = omega (arith, before, run_stays es v) in
      (get_or (run p v es).consumers i c, slice_get-get_or (run p v es).consumers i c within)
