-- An event leads to a world exactly where it fits.
use Rattle.std.proofs.Common.{◌≡◌, ◌≢◌, ◌⊎◌, inl, inr, ℕ, Bool, true, false, List, length, Option, None, Some, refl, ap, ◌∙◌}
use Rattle.std.specs.Prelude.{◌==◌, ◌&&◌, nat_le}
use Rattle.std.specs.List.{slice_get}
use Rattle.std.specs.Option.{is_some, is_none}
use Rattle.std.proofs.lemmas.Bool.{eqb-true, eq-eqb, leb-true, le-leb}
use Rattle.nb_units.specs.declared.frames.TheConstants.{LAST_KIND, MAX_BODY}
use Rattle.nb_units.specs.declared.limits.TheConstants.{MAX_MEMO}
use Rattle.nb_body.specs.declared.limits.TheConstants.{MAX_REQUEST}
use Rattle.nb_units.specs.declared.ids.PartyId.{PartyId}
use Rattle.nb_entry.specs.declared.entry.Entry.{Entry}
use Rattle.nb_world.specs.declared.call.CallPhase.{CallPhase}
use Rattle.nb_world.specs.declared.call.CallPhase.TheVariants.{Waiting, InTurn, Answered, Gone}
use Rattle.nb_world.specs.declared.event.Event.{Event}
use Rattle.nb_world.specs.declared.event.Event.TheVariants as on
use Rattle.nb_world.specs.declared.packet.Packet.{Packet}
use Rattle.nb_world.specs.declared.packet.Sending.{Sending}
use Rattle.nb_msgs.specs.declared.node.To.{To}
use Rattle.nb_msgs.specs.declared.node.To.TheVariants as to
use Rattle.nb_wallet.specs.declared.wallet.Start.{Start}
use Rattle.nb_world.specs.declared.turning.Stage.{Stage}
use Rattle.nb_world.specs.declared.turning.Stage.TheVariants as stage
use Rattle.nb_world.specs.World.{Going, Stays, Goes, Rules, World, is_decided, is_written}
use Rattle.nb_world.specs.Steps.{where_so, started, consumer_at, merchant_at, is_known, is_waiting, may_answer, delivered_to, buy_of, quiet_consumer_of, quiet_merchant_of, restart_consumer_of, restart_merchant_of, deliver_of, inject_of, turn_of, write_of, open_of, answer_of, step, or_same}
use Rattle.nb_world.specs.Fits.{IsConsumer, IsMerchant, IsKnown, Fits}
use Rattle.nb_world.specs.Laws.{FitsExactlyWhere, UnfitChangesNothing}
use Rattle.nb_world.proofs.Chains.{some_inside, holds, so, value, no_value, stands_there}

-- tests and what they say
waiting_is : (phase : CallPhase) → is_waiting phase ≡ true → phase ≡ Waiting
waiting_is Waiting is = refl
waiting_is InTurn is = absurd cc
waiting_is Answered is = absurd cc
waiting_is Gone is = absurd cc

decided_is : (s : Stage) → is_decided s ≡ true → s ≡ stage.Decided
decided_is stage.Decided is = refl
decided_is stage.Written is = absurd cc
decided_is stage.Opened is = absurd cc

written_is : (s : Stage) → is_written s ≡ true → s ≡ stage.Written
written_is stage.Decided is = absurd cc
written_is stage.Written is = refl
written_is stage.Opened is = absurd cc

abbrev Ready : Stage → Option Entry → Type 0
Ready s entry = (s ≡ stage.Opened) ⊎ ((s ≡ stage.Decided) × (entry ≡ None))

ready_is : (s : Stage) (entry : Option Entry) → may_answer s entry ≡ true → Ready s entry
ready_is stage.Decided None is = inr (refl, refl)
ready_is stage.Decided (Some e) is = absurd cc
ready_is stage.Written None is = absurd cc
ready_is stage.Written (Some e) is = absurd cc
ready_is stage.Opened None is = inl refl
ready_is stage.Opened (Some e) is = inl refl

may_so : (s : Stage) (entry : Option Entry) → Ready s entry → may_answer s entry ≡ true
may_so s entry (inl opened) = ap (λ (x : Stage). may_answer x entry) opened ∙ always entry
  where
    always : (o : Option Entry) → may_answer stage.Opened o ≡ true
    always None = refl
    always (Some e) = refl
may_so s entry (inr none) = ap (λ (x : Stage). may_answer x entry) none.0 ∙ ap (λ (o : Option Entry). may_answer stage.Decided o) none.1

and_both : (a b : Bool) → (a && b) ≡ true → (a ≡ true) × (b ≡ true)
and_both true true is = (refl, refl)
and_both true false is = absurd cc
and_both false b is = absurd cc

module _ {C M : Type 0} (p : Rules C M) (w : World C M) where
  found_consumer : (id : PartyId) (i : ℕ) → consumer_at p w id ≡ Some i → (c : C) × IsConsumer p w id c
  found_consumer id i is =
      let there = stands_there (p.is_consumer id) w.consumers i is in
      (there.0, record { place = i; first = is; stands = there.1 })

  found_merchant : (id : PartyId) (i : ℕ) → merchant_at p w id ≡ Some i → (m : M) × IsMerchant p w id m
  found_merchant id i is =
      let there = stands_there (p.is_merchant id) w.merchants i is in
      (there.0, record { place = i; first = is; stands = there.1 })

  known_so : (addressee : To) → is_known p w addressee ≡ true → IsKnown p w addressee
  known_so to.Server is = tt
  known_so (to.Merchant id) is = let i = value (merchant_at p w id) is in found_merchant id i.0 i.1
  known_so (to.Consumer id) is = let i = value (consumer_at p w id) is in found_consumer id i.0 i.1

  known_is : (addressee : To) → IsKnown p w addressee → is_known p w addressee ≡ true
  known_is to.Server known = refl
  known_is (to.Merchant id) known = ap is_some known.1.first
  known_is (to.Consumer id) known = ap is_some known.1.first

  -- ---- nodes

  started_is : (i : ℕ) (id : PartyId) (g : Going C) → is_some (started w i id g) ≡ true → g ≢ Stays
  started_is i id Stays is same = absurd cc
  started_is i id (Goes c sent) is same = goes_differs c sent same
    where
      goes_differs : (c : C) (sent : Option Sending) → ◌≡◌ {A = Going C} (Goes c sent) Stays → ⊥
      goes_differs c sent same = cc

  started_so : (i : ℕ) (id : PartyId) (g : Going C) → g ≢ Stays → is_some (started w i id g) ≡ true
  started_so i id Stays differs = absurd (differs refl)
  started_so i id (Goes c sent) differs = refl

  buy_fits : (id : PartyId) (start : Start) → is_some (buy_of p w id start) ≡ true → Fits p w (on.Buy id start)
  unfolding buy_of
  buy_fits id start is =
      let i = some_inside (consumer_at p w id) _ is in
      let c = some_inside (slice_get w.consumers i.0) _ i.2 in
      let request = some_inside (where_so (nat_le (length start.request) MAX_REQUEST)) _ c.2 in
      let memo = some_inside (where_so (nat_le (length start.memo) MAX_MEMO)) _ request.2 in
      (c.0, record { place = i.0; first = i.1; stands = c.1 }, leb-true _ _ (holds _ request.0 request.1), leb-true _ _ (holds _ memo.0 memo.1), started_is i.0 id (p.consumer_starts c.0 start) memo.2)

  fits_buy : (id : PartyId) (start : Start) → Fits p w (on.Buy id start) → is_some (buy_of p w id start) ≡ true
  unfolding buy_of
  fits_buy id start f =
      rw (f.1.first, f.1.stands, so _ (le-leb _ _ f.2), so _ (le-leb _ _ f.3)) (started_so f.1.place id (p.consumer_starts f.0 start) f.4)

  quiet_consumer_fits : (id : PartyId) (tid : ℕ) → is_some (quiet_consumer_of p w id tid) ≡ true → Fits p w (on.QuietConsumer id tid)
  unfolding quiet_consumer_of
  quiet_consumer_fits id tid is =
      let i = some_inside (consumer_at p w id) _ is in
      let c = some_inside (slice_get w.consumers i.0) _ i.2 in
      let known = some_inside (where_so (p.has_purchase tid c.0)) _ c.2 in
      (c.0, record { place = i.0; first = i.1; stands = c.1 }, holds _ known.0 known.1)

  fits_quiet_consumer : (id : PartyId) (tid : ℕ) → Fits p w (on.QuietConsumer id tid) → is_some (quiet_consumer_of p w id tid) ≡ true
  unfolding quiet_consumer_of
  fits_quiet_consumer id tid f = rw (f.1.first, f.1.stands, so _ f.2) refl

  quiet_merchant_fits : (id consumer : PartyId) (tid : ℕ) → is_some (quiet_merchant_of p w id consumer tid) ≡ true → Fits p w (on.QuietMerchant id consumer tid)
  unfolding quiet_merchant_of
  quiet_merchant_fits id consumer tid is =
      let i = some_inside (merchant_at p w id) _ is in
      let m = some_inside (slice_get w.merchants i.0) _ i.2 in
      let known = some_inside (where_so (p.has_sale consumer tid m.0)) _ m.2 in
      (m.0, record { place = i.0; first = i.1; stands = m.1 }, holds _ known.0 known.1)

  fits_quiet_merchant : (id consumer : PartyId) (tid : ℕ) → Fits p w (on.QuietMerchant id consumer tid) → is_some (quiet_merchant_of p w id consumer tid) ≡ true
  unfolding quiet_merchant_of
  fits_quiet_merchant id consumer tid f = rw (f.1.first, f.1.stands, so _ f.2) refl

  restart_consumer_fits : (id : PartyId) → is_some (restart_consumer_of p w id) ≡ true → Fits p w (on.RestartConsumer id)
  unfolding restart_consumer_of
  restart_consumer_fits id is =
      let i = some_inside (consumer_at p w id) _ is in
      let c = some_inside (slice_get w.consumers i.0) _ i.2 in
      (c.0, record { place = i.0; first = i.1; stands = c.1 })

  fits_restart_consumer : (id : PartyId) → Fits p w (on.RestartConsumer id) → is_some (restart_consumer_of p w id) ≡ true
  unfolding restart_consumer_of
  fits_restart_consumer id f = rw (f.1.first, f.1.stands) refl

  restart_merchant_fits : (id : PartyId) → is_some (restart_merchant_of p w id) ≡ true → Fits p w (on.RestartMerchant id)
  unfolding restart_merchant_of
  restart_merchant_fits id is =
      let i = some_inside (merchant_at p w id) _ is in
      let m = some_inside (slice_get w.merchants i.0) _ i.2 in
      (m.0, record { place = i.0; first = i.1; stands = m.1 })

  fits_restart_merchant : (id : PartyId) → Fits p w (on.RestartMerchant id) → is_some (restart_merchant_of p w id) ≡ true
  unfolding restart_merchant_of
  fits_restart_merchant id f = rw (f.1.first, f.1.stands) refl

  -- ---- the network

  delivered_fits : (k : ℕ) (packet : Packet) (addressee : To) → is_some (delivered_to p w k packet addressee) ≡ true → IsKnown p w addressee
  delivered_fits k packet to.Server is = tt
  delivered_fits k packet (to.Merchant id) is =
      let i = some_inside (merchant_at p w id) _ is in
      found_merchant id i.0 i.1
  delivered_fits k packet (to.Consumer id) is =
      let i = some_inside (consumer_at p w id) _ is in
      found_consumer id i.0 i.1

  fits_delivered : (k : ℕ) (packet : Packet) (addressee : To) → IsKnown p w addressee → is_some (delivered_to p w k packet addressee) ≡ true
  fits_delivered k packet to.Server known = refl
  fits_delivered k packet (to.Merchant id) known = rw (known.1.first, known.1.stands) refl
  fits_delivered k packet (to.Consumer id) known = rw (known.1.first, known.1.stands) refl

  deliver_fits : (k : ℕ) → is_some (deliver_of p w k) ≡ true → Fits p w (on.Deliver k)
  unfolding deliver_of
  deliver_fits k is =
      let packet = some_inside (slice_get w.packets k) _ is in
      (packet.0, packet.1, delivered_fits k packet.0 packet.0.to packet.2)

  fits_deliver : (k : ℕ) → Fits p w (on.Deliver k) → is_some (deliver_of p w k) ≡ true
  unfolding deliver_of
  fits_deliver k f = rw f.1 (fits_delivered k f.0 f.0.to f.2)

  inject_fits : (addressee : To) (kind : ℕ) (body : List ℕ) → is_some (inject_of p w addressee kind body) ≡ true → Fits p w (on.Inject addressee kind body)
  unfolding inject_of
  inject_fits addressee kind body is =
      let served = some_inside (where_so (nat_le 1 kind && nat_le kind LAST_KIND)) _ is in
      let short = some_inside (where_so (nat_le (length body) MAX_BODY)) _ served.2 in
      let known = some_inside (where_so (is_known p w addressee)) _ short.2 in
      let both = and_both (nat_le 1 kind) (nat_le kind LAST_KIND) (holds _ served.0 served.1) in
      ((leb-true _ _ both.0, leb-true _ _ both.1, leb-true _ _ (holds _ short.0 short.1)), known_so addressee (holds _ known.0 known.1))

  fits_inject : (addressee : To) (kind : ℕ) (body : List ℕ) → Fits p w (on.Inject addressee kind body) → is_some (inject_of p w addressee kind body) ≡ true
  unfolding inject_of
  fits_inject addressee kind body f =
      rw (le-leb 1 kind f.0.0, le-leb kind LAST_KIND f.0.1, le-leb (length body) MAX_BODY f.0.2, known_is addressee f.1) refl

  -- ---- the house

  turn_fits : (c : ℕ) → is_some (turn_of p w c) ≡ true → Fits p w (on.Turn c)
  unfolding turn_of
  turn_fits c is =
      let free = some_inside (where_so (is_none w.turn)) _ is in
      let call = some_inside (slice_get w.calls c) _ free.2 in
      let waits = some_inside (where_so (is_waiting call.0.phase)) _ call.2 in
      let packet = some_inside (slice_get w.packets call.0.packet) _ waits.2 in
      (no_value w.turn (holds _ free.0 free.1), record { call = call.0; packet = packet.0; stands = call.1; waits = waiting_is call.0.phase (holds _ waits.0 waits.1); asks = packet.1 })

  fits_turn : (c : ℕ) → Fits p w (on.Turn c) → is_some (turn_of p w c) ≡ true
  unfolding turn_of
  fits_turn c f =
      let waits : is_waiting f.1.call.phase ≡ true = ap is_waiting f.1.waits in
      rw (f.0, f.1.stands, waits, f.1.asks) refl

  write_fits : (c : ℕ) → is_some (write_of w c) ≡ true → Fits p w (on.Write c)
  unfolding write_of
  write_fits c is =
      let t = some_inside w.turn _ is in
      let its = some_inside (where_so (t.0.call == c)) _ t.2 in
      let decided = some_inside (where_so (is_decided t.0.stage)) _ its.2 in
      let entry = some_inside t.0.verdict.entry _ decided.2 in
      (record { turn = t.0; is = t.1; its = eqb-true _ _ (holds _ its.0 its.1) }, decided_is t.0.stage (holds _ decided.0 decided.1), ap is_some entry.1)

  fits_write : (c : ℕ) → Fits p w (on.Write c) → is_some (write_of w c) ≡ true
  unfolding write_of
  fits_write c f =
      let entry = value f.0.turn.verdict.entry f.2 in
      let stage_is : is_decided f.0.turn.stage ≡ true = ap is_decided f.1 in
      rw (f.0.is, eq-eqb f.0.turn.call c f.0.its, stage_is, entry.1) refl

  open_fits : (c : ℕ) → is_some (open_of w c) ≡ true → Fits p w (on.Open c)
  unfolding open_of
  open_fits c is =
      let t = some_inside w.turn _ is in
      let its = some_inside (where_so (t.0.call == c)) _ t.2 in
      let written = some_inside (where_so (is_written t.0.stage)) _ its.2 in
      let entry = some_inside t.0.verdict.entry _ written.2 in
      (record { turn = t.0; is = t.1; its = eqb-true _ _ (holds _ its.0 its.1) }, written_is t.0.stage (holds _ written.0 written.1), ap is_some entry.1)

  fits_open : (c : ℕ) → Fits p w (on.Open c) → is_some (open_of w c) ≡ true
  unfolding open_of
  fits_open c f =
      let entry = value f.0.turn.verdict.entry f.2 in
      let stage_is : is_written f.0.turn.stage ≡ true = ap is_written f.1 in
      rw (f.0.is, eq-eqb f.0.turn.call c f.0.its, stage_is, entry.1) refl

  answer_fits : (c : ℕ) → is_some (answer_of w c) ≡ true → Fits p w (on.Answer c)
  unfolding answer_of
  answer_fits c is =
      let t = some_inside w.turn _ is in
      let its = some_inside (where_so (t.0.call == c)) _ t.2 in
      let ready = some_inside (where_so (may_answer t.0.stage t.0.verdict.entry)) _ its.2 in
      (record { turn = t.0; is = t.1; its = eqb-true _ _ (holds _ its.0 its.1) }, ready_is t.0.stage t.0.verdict.entry (holds _ ready.0 ready.1))

  fits_answer : (c : ℕ) → Fits p w (on.Answer c) → is_some (answer_of w c) ≡ true
  unfolding answer_of
  fits_answer c f = rw (f.0.is, eq-eqb f.0.turn.call c f.0.its, may_so f.0.turn.stage f.0.turn.verdict.entry f.1) refl

  -- ---- all of them

  pub step_fits : (e : Event) → is_some (step p w e) ≡ true → Fits p w e
  step_fits (on.Buy id start) is = buy_fits id start is
  step_fits (on.Deliver k) is = deliver_fits k is
  step_fits (on.Turn c) is = turn_fits c is
  step_fits (on.Write c) is = write_fits c is
  step_fits (on.Open c) is = open_fits c is
  step_fits (on.Answer c) is = answer_fits c is
  step_fits (on.QuietConsumer id tid) is = quiet_consumer_fits id tid is
  step_fits (on.QuietMerchant id consumer tid) is = quiet_merchant_fits id consumer tid is
  step_fits (on.Stop keep) is = tt
  step_fits (on.RestartConsumer id) is = restart_consumer_fits id is
  step_fits (on.RestartMerchant id) is = restart_merchant_fits id is
  step_fits (on.Clock moment) is = tt
  step_fits (on.Inject addressee kind body) is = inject_fits addressee kind body is

  pub fits_step : (e : Event) → Fits p w e → is_some (step p w e) ≡ true
  fits_step (on.Buy id start) f = fits_buy id start f
  fits_step (on.Deliver k) f = fits_deliver k f
  fits_step (on.Turn c) f = fits_turn c f
  fits_step (on.Write c) f = fits_write c f
  fits_step (on.Open c) f = fits_open c f
  fits_step (on.Answer c) f = fits_answer c f
  fits_step (on.QuietConsumer id tid) f = fits_quiet_consumer id tid f
  fits_step (on.QuietMerchant id consumer tid) f = fits_quiet_merchant id consumer tid f
  fits_step (on.Stop keep) f = refl
  fits_step (on.RestartConsumer id) f = fits_restart_consumer id f
  fits_step (on.RestartMerchant id) f = fits_restart_merchant id f
  fits_step (on.Clock moment) f = refl
  fits_step (on.Inject addressee kind body) f = fits_inject addressee kind body f

pub fits_exactly_where : {C M : Type 0} → FitsExactlyWhere C M
fits_exactly_where p w e = (step_fits p w e, fits_step p w e)

pub unfit_changes_nothing : {C M : Type 0} → UnfitChangesNothing C M
unfit_changes_nothing {C} {M} p w e unfit = cases (step p w e) refl
  where
    cases : (o : Option (World C M)) → step p w e ≡ o → or_same w o ≡ w
    cases None is = refl
    cases (Some v) is = absurd (unfit (step_fits p w e (ap is_some is)))
