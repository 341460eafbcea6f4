-- What each node has at its place, and each packet, in every world behind a list of events: one induction over all events, whatever it is that
-- they have. It speaks of predicates, so that no clause can say it: laws of real nodes take it with theirs.
use Rattle.std.proofs.Common.{◌≡◌, ℕ, zero, suc, Bool, true, false, List, [], ◌∷◌, ◌++◌, length, Option, None, Some, refl, sym, ap, subst, ◌∙◌, get_or}
use Rattle.std.proofs.lemmas.List.Quantifiers.{position-Some}
use Rattle.std.proofs.lemmas.Option.{slice_get-get_or}
use Rattle.std.specs.Prelude.{◌==◌, ◌&&◌, nat_le, set, if◌then◌else◌}
use Rattle.std.specs.List.{position, slice_get, AllByRecursion}
use Rattle.std.specs.Option.{option_to_list, option_map, is_none}
use Rattle.nb_units.specs.declared.frames.TheConstants.{LAST_KIND, MAX_BODY}
use Rattle.nb_units.specs.declared.limits.TheConstants.{MAX_MEMO}
use Rattle.nb_body.specs.declared.limits.TheConstants.{MAX_REQUEST}
use Rattle.nb_units.specs.declared.ids.PartyId.{PartyId}
use Rattle.nb_msgs.specs.declared.node.To.{To}
use Rattle.nb_msgs.specs.declared.node.To.TheVariants as to
use Rattle.nb_wallet.specs.declared.wallet.Start.{Start}
use Rattle.nb_world.specs.declared.event.Event.{Event}
use Rattle.nb_world.specs.declared.event.Event.TheVariants as on
use Rattle.nb_world.specs.declared.packet.Maker.{Maker}
use Rattle.nb_world.specs.declared.packet.Maker.TheVariants as by
use Rattle.nb_world.specs.declared.packet.Packet.{Packet}
use Rattle.nb_world.specs.declared.packet.Sending.{Sending}
use Rattle.nb_world.specs.declared.turning.Turning.{Turning}
use Rattle.nb_world.specs.World.{Going, Stays, Goes, Rules, World, is_decided, is_written}
use Rattle.nb_world.specs.Steps.{where_so, packets_of, consumer_goes, merchant_goes, consumer_at, merchant_at, is_known, is_waiting, started, delivered_to, buy_of, quiet_consumer_of, quiet_merchant_of, restart_consumer_of, restart_merchant_of, deliver_of, inject_of, turn_of, write_of, open_of, answer_of, stop_of, may_answer, asker_of, reply_to, step, next, or_same, run}
use Rattle.nb_world.proofs.Chains.{inside, same_some}
use Rattle.nb_world.proofs.Lists.{all_append, all_at}

-- ---- what is had

-- each element has this, by its place
abbrev pub AtEach : {A : Type 0} → (ℕ → A → Type 0) → List A → Type 0
AtEach {A} P xs = (i : ℕ) (x : A) → slice_get xs i ≡ Some x → P i x

-- where a node goes on, it does to what has this, and what it sends has that
abbrev pub GoesSo : {S : Type 0} → (S → Type 0) → (Packet → Type 0) → Maker → Going S → Type 0
GoesSo In Sent maker Stays = Unit {0}
GoesSo In Sent maker (Goes s sent) = In s × AllByRecursion Sent (packets_of maker sent)

-- no node made it: the house or the network did
abbrev pub IsNoNodes : Maker → Type 0
IsNoNodes (by.Consumer id) = ⊥
IsNoNodes (by.Merchant id) = ⊥
IsNoNodes (by.Server call at) = Unit {0}
IsNoNodes by.Network = Unit {0}

-- each step of a node leads from what has this to what has this and sends what has that, and what no node made has that
pub record StepsKeep {C M : Type 0} (p : Rules C M) (IsC : ℕ → C → Type 0) (IsM : ℕ → M → Type 0) (Sent : Packet → Type 0) : Type 0 where
  pub starts : (i : ℕ) (id : PartyId) (c : C) (start : Start) → p.is_consumer id c ≡ true → IsC i c → GoesSo (IsC i) Sent (by.Consumer id) (p.consumer_starts c start)
  pub hears : (i : ℕ) (id : PartyId) (c : C) (kind : ℕ) (body : List ℕ) → p.is_consumer id c ≡ true → IsC i c → GoesSo (IsC i) Sent (by.Consumer id) (p.consumer_hears c kind body)
  pub waited : (i : ℕ) (id : PartyId) (c : C) (tid : ℕ) → p.is_consumer id c ≡ true → IsC i c → GoesSo (IsC i) Sent (by.Consumer id) (p.consumer_waited c tid)
  pub again : (i : ℕ) (c : C) → IsC i c → IsC i (p.consumer_again c)
  pub merchant_hears : (i : ℕ) (id : PartyId) (m : M) (kind : ℕ) (body : List ℕ) (moment : ℕ) → p.is_merchant id m ≡ true → IsM i m
      → GoesSo (IsM i) Sent (by.Merchant id) (p.merchant_hears m kind body moment)
  pub merchant_waited : (i : ℕ) (id : PartyId) (m : M) (consumer : PartyId) (tid : ℕ) → p.is_merchant id m ≡ true → IsM i m
      → GoesSo (IsM i) Sent (by.Merchant id) (p.merchant_waited m consumer tid)
  pub merchant_again : (i : ℕ) (m : M) → IsM i m → IsM i (p.merchant_again m)
  pub others : (made : Packet) → IsNoNodes made.maker → Sent made

-- all nodes and all packets of a world have it
pub record HoldsIn {C M : Type 0} (IsC : ℕ → C → Type 0) (IsM : ℕ → M → Type 0) (Sent : Packet → Type 0) (w : World C M) : Type 0 where
  pub consumers : AtEach IsC w.consumers
  pub merchants : AtEach IsM w.merchants
  pub packets : AllByRecursion Sent w.packets

-- ---- lists

-- one of them becomes another that has it
at_set : {A : Type 0} (P : ℕ → A → Type 0) (xs : List A) (i : ℕ) (y : A) → AtEach P xs → P i y → AtEach P (set xs i y)
at_set P [] i y all is k x at = all k x at
at_set P (z ∷ xs) zero y all is zero x at = subst (P zero) (same_some y x at) is
at_set P (z ∷ xs) zero y all is (suc k) x at = all (suc k) x at
at_set P (z ∷ xs) (suc i) y all is zero x at = all zero x at
at_set P (z ∷ xs) (suc i) y all is (suc k) x at = at_set (λ n. P (suc n)) xs i y (λ n v e. all (suc n) v e) is k x at

-- what stands at the first place that passes a test passes it
passes_there : {A : Type 0} (test : A → Bool) (xs : List A) (i : ℕ) (x : A) → position test xs ≡ Some i → slice_get xs i ≡ Some x → test x ≡ true
passes_there test xs i x found there =
    let at = position-Some test xs i x found in
    let same : get_or xs i x ≡ x = same_some (get_or xs i x) x (sym (slice_get-get_or xs i x at.0) ∙ there) in
    ap test (sym same) ∙ at.1

-- ---- each event

module _ {C M : Type 0} (p : Rules C M) (IsC : ℕ → C → Type 0) (IsM : ℕ → M → Type 0) (Sent : Packet → Type 0) (keeps : StepsKeep p IsC IsM Sent) where
  consumer_holds : (v : World C M) (i : ℕ) (id : PartyId) (g : Going C) → GoesSo (IsC i) Sent (by.Consumer id) g → HoldsIn IsC IsM Sent v → HoldsIn IsC IsM Sent (consumer_goes v i id g)
  consumer_holds v i id Stays so held = held
  consumer_holds v i id (Goes c sent) so held = record {
    consumers = at_set IsC v.consumers i c held.consumers so.0;
    merchants = held.merchants;
    packets = all_append Sent v.packets (packets_of (by.Consumer id) sent) held.packets so.1;
  }

  merchant_holds : (v : World C M) (i : ℕ) (id : PartyId) (g : Going M) → GoesSo (IsM i) Sent (by.Merchant id) g → HoldsIn IsC IsM Sent v → HoldsIn IsC IsM Sent (merchant_goes v i id g)
  merchant_holds v i id Stays so held = held
  merchant_holds v i id (Goes m sent) so held = record {
    consumers = held.consumers;
    merchants = at_set IsM v.merchants i m held.merchants so.0;
    packets = all_append Sent v.packets (packets_of (by.Merchant id) sent) held.packets so.1;
  }

  either_holds : (v w : World C M) (b : Bool) → HoldsIn IsC IsM Sent w → HoldsIn IsC IsM Sent v → HoldsIn IsC IsM Sent (if b then w else v)
  either_holds v w true behind held = behind
  either_holds v w false behind held = held

  started_holds : (v w : World C M) (i : ℕ) (id : PartyId) (g : Going C) → GoesSo (IsC i) Sent (by.Consumer id) g → HoldsIn IsC IsM Sent v → started v i id g ≡ Some w → HoldsIn IsC IsM Sent w
  started_holds v w i id Stays so held is = absurd cc
  started_holds v w i id (Goes c sent) so held is = subst (HoldsIn IsC IsM Sent) (same_some _ w is) (consumer_holds v i id (Goes c sent) so held)

  -- nodes and packets that no event of these touches
  same_nodes : (v w : World C M) → w.consumers ≡ v.consumers → w.merchants ≡ v.merchants → w.packets ≡ v.packets → HoldsIn IsC IsM Sent v → HoldsIn IsC IsM Sent w
  same_nodes v w consumers merchants packets held = record {
    consumers = subst (AtEach IsC) (sym consumers) held.consumers;
    merchants = subst (AtEach IsM) (sym merchants) held.merchants;
    packets = subst (AllByRecursion Sent) (sym packets) held.packets;
  }

  -- a packet more, that no node made
  one_more_holds : (v w : World C M) (made : List Packet) → w.consumers ≡ v.consumers → w.merchants ≡ v.merchants → w.packets ≡ v.packets ++ made → AllByRecursion Sent made
      → HoldsIn IsC IsM Sent v → HoldsIn IsC IsM Sent w
  one_more_holds v w made consumers merchants packets sent held = record {
    consumers = subst (AtEach IsC) (sym consumers) held.consumers;
    merchants = subst (AtEach IsM) (sym merchants) held.merchants;
    packets = subst (AllByRecursion Sent) (sym packets) (all_append Sent v.packets made held.packets sent);
  }

  replies_hold : (t : Turning) (whom : Option To) → AllByRecursion Sent (option_to_list (option_map (reply_to t) whom))
  replies_hold t None = tt
  replies_hold t (Some whom) = (keeps.others (reply_to t whom) tt, tt)

  module _ (v w : World C M) (held : HoldsIn IsC IsM Sent v) where
    buy_holds : (id : PartyId) (start : Start) → buy_of p v id start ≡ Some w → HoldsIn IsC IsM Sent w
    unfolding buy_of
    buy_holds id start is =
        let i = inside (consumer_at p v id) _ w is in
        let c = inside (slice_get v.consumers i.0) _ w i.2 in
        let request = inside (where_so (nat_le (length start.request) MAX_REQUEST)) _ w c.2 in
        let memo = inside (where_so (nat_le (length start.memo) MAX_MEMO)) _ w request.2 in
        started_holds v w i.0 id (p.consumer_starts c.0 start)
        (keeps.starts i.0 id c.0 start (passes_there (p.is_consumer id) v.consumers i.0 c.0 i.1 c.1) (held.consumers i.0 c.0 c.1)) held memo.2

    quiet_consumer_holds : (id : PartyId) (tid : ℕ) → quiet_consumer_of p v id tid ≡ Some w → HoldsIn IsC IsM Sent w
    unfolding quiet_consumer_of
    quiet_consumer_holds id tid is =
        let i = inside (consumer_at p v id) _ w is in
        let c = inside (slice_get v.consumers i.0) _ w i.2 in
        let known = inside (where_so (p.has_purchase tid c.0)) _ w c.2 in
        subst (HoldsIn IsC IsM Sent) (same_some _ w known.2)
        (consumer_holds v i.0 id (p.consumer_waited c.0 tid) (keeps.waited i.0 id c.0 tid (passes_there (p.is_consumer id) v.consumers i.0 c.0 i.1 c.1) (held.consumers i.0 c.0 c.1)) held)

    quiet_merchant_holds : (id consumer : PartyId) (tid : ℕ) → quiet_merchant_of p v id consumer tid ≡ Some w → HoldsIn IsC IsM Sent w
    unfolding quiet_merchant_of
    quiet_merchant_holds id consumer tid is =
        let i = inside (merchant_at p v id) _ w is in
        let m = inside (slice_get v.merchants i.0) _ w i.2 in
        let known = inside (where_so (p.has_sale consumer tid m.0)) _ w m.2 in
        subst (HoldsIn IsC IsM Sent) (same_some _ w known.2)
        (merchant_holds v i.0 id (p.merchant_waited m.0 consumer tid) (keeps.merchant_waited i.0 id m.0 consumer tid (passes_there (p.is_merchant id) v.merchants i.0 m.0 i.1 m.1) (held.merchants i.0 m.0 m.1)) held)

    restart_consumer_holds : (id : PartyId) → restart_consumer_of p v id ≡ Some w → HoldsIn IsC IsM Sent w
    unfolding restart_consumer_of
    restart_consumer_holds id is =
        let i = inside (consumer_at p v id) _ w is in
        let c = inside (slice_get v.consumers i.0) _ w i.2 in
        subst (HoldsIn IsC IsM Sent) (same_some _ w c.2)
        (record {
          consumers = at_set IsC v.consumers i.0 (p.consumer_again c.0) held.consumers (keeps.again i.0 c.0 (held.consumers i.0 c.0 c.1));
          merchants = held.merchants;
          packets = held.packets;
        })

    restart_merchant_holds : (id : PartyId) → restart_merchant_of p v id ≡ Some w → HoldsIn IsC IsM Sent w
    unfolding restart_merchant_of
    restart_merchant_holds id is =
        let i = inside (merchant_at p v id) _ w is in
        let m = inside (slice_get v.merchants i.0) _ w i.2 in
        subst (HoldsIn IsC IsM Sent) (same_some _ w m.2)
        (record {
          consumers = held.consumers;
          merchants = at_set IsM v.merchants i.0 (p.merchant_again m.0) held.merchants (keeps.merchant_again i.0 m.0 (held.merchants i.0 m.0 m.1));
          packets = held.packets;
        })

    inject_holds : (addressee : To) (kind : ℕ) (body : List ℕ) → inject_of p v addressee kind body ≡ Some w → HoldsIn IsC IsM Sent w
    unfolding inject_of
    inject_holds addressee kind body is =
        let served = inside (where_so (nat_le 1 kind && nat_le kind LAST_KIND)) _ w is in
        let short = inside (where_so (nat_le (length body) MAX_BODY)) _ w served.2 in
        let known = inside (where_so (is_known p v addressee)) _ w short.2 in
        let made : Packet = record { kind = kind; body = body; maker = by.Network; to = addressee } in
        subst (HoldsIn IsC IsM Sent) (same_some _ w known.2) (one_more_holds v _ (made ∷ []) refl refl refl (keeps.others made tt, tt) held)

    delivered_holds : (k : ℕ) (packet : Packet) (addressee : To) → delivered_to p v k packet addressee ≡ Some w → HoldsIn IsC IsM Sent w
    delivered_holds k packet to.Server is = subst (HoldsIn IsC IsM Sent) (same_some _ w is) (same_nodes v _ refl refl refl held)
    delivered_holds k packet (to.Merchant id) is =
        let i = inside (merchant_at p v id) _ w is in
        let m = inside (slice_get v.merchants i.0) _ w i.2 in
        subst (HoldsIn IsC IsM Sent) (same_some _ w m.2)
        (either_holds v _ (p.is_body packet.kind packet.body)
        (merchant_holds v i.0 id (p.merchant_hears m.0 packet.kind packet.body v.moment)
        (keeps.merchant_hears i.0 id m.0 packet.kind packet.body v.moment (passes_there (p.is_merchant id) v.merchants i.0 m.0 i.1 m.1) (held.merchants i.0 m.0 m.1)) held) held)
    delivered_holds k packet (to.Consumer id) is =
        let i = inside (consumer_at p v id) _ w is in
        let c = inside (slice_get v.consumers i.0) _ w i.2 in
        subst (HoldsIn IsC IsM Sent) (same_some _ w c.2)
        (either_holds v _ (p.is_body packet.kind packet.body)
        (consumer_holds v i.0 id (p.consumer_hears c.0 packet.kind packet.body)
        (keeps.hears i.0 id c.0 packet.kind packet.body (passes_there (p.is_consumer id) v.consumers i.0 c.0 i.1 c.1) (held.consumers i.0 c.0 c.1)) held) held)

    deliver_holds : (k : ℕ) → deliver_of p v k ≡ Some w → HoldsIn IsC IsM Sent w
    unfolding deliver_of
    deliver_holds k is =
        let packet = inside (slice_get v.packets k) _ w is in
        delivered_holds k packet.0 packet.0.to packet.2

    turn_holds : (c : ℕ) → turn_of p v c ≡ Some w → HoldsIn IsC IsM Sent w
    unfolding turn_of
    turn_holds c is =
        let free = inside (where_so (is_none v.turn)) _ w is in
        let call = inside (slice_get v.calls c) _ w free.2 in
        let waits = inside (where_so (is_waiting call.0.phase)) _ w call.2 in
        let packet = inside (slice_get v.packets call.0.packet) _ w waits.2 in
        subst (HoldsIn IsC IsM Sent) (same_some _ w packet.2) (same_nodes v _ refl refl refl held)

    write_holds : (c : ℕ) → write_of v c ≡ Some w → HoldsIn IsC IsM Sent w
    unfolding write_of
    write_holds c is =
        let t = inside v.turn _ w is in
        let its = inside (where_so (t.0.call == c)) _ w t.2 in
        let decided = inside (where_so (is_decided t.0.stage)) _ w its.2 in
        let entry = inside t.0.verdict.entry _ w decided.2 in
        subst (HoldsIn IsC IsM Sent) (same_some _ w entry.2) (same_nodes v _ refl refl refl held)

    open_holds : (c : ℕ) → open_of v c ≡ Some w → HoldsIn IsC IsM Sent w
    unfolding open_of
    open_holds c is =
        let t = inside v.turn _ w is in
        let its = inside (where_so (t.0.call == c)) _ w t.2 in
        let written = inside (where_so (is_written t.0.stage)) _ w its.2 in
        let entry = inside t.0.verdict.entry _ w written.2 in
        subst (HoldsIn IsC IsM Sent) (same_some _ w entry.2) (same_nodes v _ refl refl refl held)

    answer_holds : (c : ℕ) → answer_of v c ≡ Some w → HoldsIn IsC IsM Sent w
    unfolding answer_of
    answer_holds c is =
        let t = inside v.turn _ w is in
        let its = inside (where_so (t.0.call == c)) _ w t.2 in
        let ready = inside (where_so (may_answer t.0.stage t.0.verdict.entry)) _ w its.2 in
        subst (HoldsIn IsC IsM Sent) (same_some _ w ready.2)
        (one_more_holds v _ (option_to_list (option_map (reply_to t.0) (asker_of v c))) refl refl refl (replies_hold t.0 (asker_of v c)) held)

    stop_holds : (keep : Bool) → Some (stop_of v keep) ≡ Some w → HoldsIn IsC IsM Sent w
    unfolding stop_of
    stop_holds keep is = subst (HoldsIn IsC IsM Sent) (same_some _ w is) (same_nodes v _ refl refl refl held)

    clock_holds : (moment : ℕ) → Some (record v { moment = moment }) ≡ Some w → HoldsIn IsC IsM Sent w
    clock_holds moment is = subst (HoldsIn IsC IsM Sent) (same_some _ w is) (same_nodes v _ refl refl refl held)

    pub step_holds : (e : Event) → step p v e ≡ Some w → HoldsIn IsC IsM Sent w
    step_holds (on.Buy id start) is = buy_holds id start is
    step_holds (on.Deliver k) is = deliver_holds k is
    step_holds (on.Turn c) is = turn_holds c is
    step_holds (on.Write c) is = write_holds c is
    step_holds (on.Open c) is = open_holds c is
    step_holds (on.Answer c) is = answer_holds c is
    step_holds (on.QuietConsumer id tid) is = quiet_consumer_holds id tid is
    step_holds (on.QuietMerchant id consumer tid) is = quiet_merchant_holds id consumer tid is
    step_holds (on.Stop keep) is = stop_holds keep is
    step_holds (on.RestartConsumer id) is = restart_consumer_holds id is
    step_holds (on.RestartMerchant id) is = restart_merchant_holds id is
    step_holds (on.Clock moment) is = clock_holds moment is
    step_holds (on.Inject addressee kind body) is = inject_holds addressee kind body is

  -- an event that does not fit changes nothing
  next_holds : (v : World C M) (e : Event) → HoldsIn IsC IsM Sent v → HoldsIn IsC IsM Sent (next p v e)
  next_holds v e held = by_step (step p v e) refl
    where
      by_step : (o : Option (World C M)) → step p v e ≡ o → HoldsIn IsC IsM Sent (or_same v o)
      by_step None is = held
      by_step (Some w) is = step_holds v w held e is

  -- what all nodes and packets have they have behind every list of events
  pub run_holds : (es : List Event) (v : World C M) → HoldsIn IsC IsM Sent v → HoldsIn IsC IsM Sent (run p v es)
  run_holds [] v held = held
  run_holds (e ∷ es) v held = run_holds es (next p v e) (next_holds v e held)
