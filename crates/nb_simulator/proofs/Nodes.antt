-- What a node did is what the world's step says of it.
use Rattle.std.proofs.Common.{◌≡◌, ℕ, ◌≤◌, ◌<◌, Bool, true, false, List, ◌++◌, length, set, Option, Some, None, refl, sym, ap, ◌∙◌, arith}
use Rattle.std.specs.Prelude.{if◌then◌else◌, nat_le, option_map}
use Rattle.std.specs.List.{slice_get}
use Rattle.std.proofs.lemmas.List.{append-nil}
use Rattle.std.proofs.lemmas.Bool.{le-leb, leb-true, false≢true}
use Rattle.nb_units.specs.declared.limits.TheConstants.{MAX_MEMO}
use Rattle.nb_body.specs.declared.limits.TheConstants.{MAX_REQUEST}
use Rattle.nb_units.specs.declared.ids.PartyId.{PartyId}
use Rattle.nb_msgs.specs.declared.node.To.{To}
use Rattle.nb_msgs.specs.declared.node.To.TheVariants as to
use Rattle.nb_wallet.specs.declared.wallet.Start.{Start}
use Rattle.nb_world.specs.declared.packet.Maker.TheVariants as by
use Rattle.nb_world.specs.declared.packet.Packet.{Packet}
use Rattle.nb_world.specs.World.{Going, Stays, Goes, Rules, World}
use Rattle.nb_world.specs.Steps.{where_so, consumer_goes, merchant_goes, consumer_at, merchant_at, started, buy_of, quiet_consumer_of, quiet_merchant_of, restart_consumer_of, restart_merchant_of, server_gets, deliver_of}
use Rattle.nb_world.proofs.Chains.{so, same_some, stands_there}
use Rattle.nb_packets.specs.declared.did.Did.{Did}
use Rattle.nb_packets.specs.declared.did.Did.TheVariants.{Stayed, Went, Sent}
use Rattle.nb_packets.specs.Doing.{is_nothing, packets_did, Follows, WentAt, BecameAt, TestsAt}
use Rattle.nb_packets.proofs.Places.{set_same}

not_so : (b : Bool) → b ≡ false → where_so b ≡ None
not_so b is = ap where_so is

no_packet : (x : To) → ◌≡◌ {A = Option To} None (Some x) → ⊥
no_packet x e = absurd cc

module _ {C M : Type 0} (p : Rules C M) (w : World C M) where
  -- the world behind what a consumer, a merchant, did
  abbrev pub consumers_are : PartyId → List C → Did → World C M
  consumers_are id new did = record w { consumers = new; packets = w.packets ++ packets_did (by.Consumer id) did }

  abbrev pub merchants_are : PartyId → List M → Did → World C M
  merchants_are id new did = record w { merchants = new; packets = w.packets ++ packets_did (by.Merchant id) did }

  consumer_went : (i : ℕ) (id : PartyId) (g : Going C) (did : Did) (was now : C) → slice_get w.consumers i ≡ Some was → Follows g was now did
      → consumer_goes w i id g ≡ consumers_are id (set w.consumers i now) did
  consumer_went i id Stays Stayed was now there same =
      rw (ap (set w.consumers i) same ∙ set_same w.consumers i was there, append-nil w.packets) refl
  consumer_went i id Stays Went was now there f = absurd f
  consumer_went i id Stays (Sent whom x) was now there f = absurd f
  consumer_went i id (Goes c None) Stayed was now there f = absurd f
  consumer_went i id (Goes c None) (Sent whom x) was now there f = absurd f
  consumer_went i id (Goes c (Some sent)) Stayed was now there f = absurd f
  consumer_went i id (Goes c (Some sent)) Went was now there f = absurd f
  consumer_went i id (Goes c None) Went was now there same = rw same refl
  consumer_went i id (Goes c (Some sent)) (Sent to m) was now there (same, is) = rw (same, is) refl

  merchant_went : (i : ℕ) (id : PartyId) (g : Going M) (did : Did) (was now : M) → slice_get w.merchants i ≡ Some was → Follows g was now did
      → merchant_goes w i id g ≡ merchants_are id (set w.merchants i now) did
  merchant_went i id Stays Stayed was now there same =
      rw (ap (set w.merchants i) same ∙ set_same w.merchants i was there, append-nil w.packets) refl
  merchant_went i id Stays Went was now there f = absurd f
  merchant_went i id Stays (Sent whom x) was now there f = absurd f
  merchant_went i id (Goes m None) Stayed was now there f = absurd f
  merchant_went i id (Goes m None) (Sent whom x) was now there f = absurd f
  merchant_went i id (Goes m (Some sent)) Stayed was now there f = absurd f
  merchant_went i id (Goes m (Some sent)) Went was now there f = absurd f
  merchant_went i id (Goes m None) Went was now there same = rw same refl
  merchant_went i id (Goes m (Some sent)) (Sent to x) was now there (same, is) = rw (same, is) refl

  consumer_is : (i : ℕ) (id : PartyId) (goes : C → Going C) (new : List C) (did : Did) → (went : WentAt goes w.consumers new i did)
      → consumer_goes w i id (goes went.was) ≡ consumers_are id new did
  consumer_is i id goes new did went = rw went.behind (consumer_went i id (goes went.was) did went.was went.now went.there went.follows)

  merchant_is : (i : ℕ) (id : PartyId) (goes : M → Going M) (new : List M) (did : Did) → (went : WentAt goes w.merchants new i did)
      → merchant_goes w i id (goes went.was) ≡ merchants_are id new did
  merchant_is i id goes new did went = rw went.behind (merchant_went i id (goes went.was) did went.was went.now went.there went.follows)

  -- ---- nothing was heard for long

  pub quiet_consumer_is : (id : PartyId) (tid i : ℕ) (new : List C) (did : Did) → consumer_at p w id ≡ Some i → TestsAt (p.has_purchase tid) w.consumers i true
      → WentAt (λ c. p.consumer_waited c tid) w.consumers new i did → quiet_consumer_of p w id tid ≡ Some (consumers_are id new did)
  unfolding quiet_consumer_of
  quiet_consumer_is id tid i new did at tests went =
      let same : tests.node ≡ went.was = same_some _ _ (sym tests.there ∙ went.there) in
      rw (at, went.there, so _ (ap (p.has_purchase tid) (sym same) ∙ sym tests.is)) (ap Some (consumer_is i id (λ c. p.consumer_waited c tid) new did went))

  pub quiet_consumer_not : (id : PartyId) (tid i : ℕ) → consumer_at p w id ≡ Some i → TestsAt (p.has_purchase tid) w.consumers i false → quiet_consumer_of p w id tid ≡ None
  unfolding quiet_consumer_of
  quiet_consumer_not id tid i at tests = rw (at, tests.there, not_so _ (sym tests.is)) refl

  pub quiet_merchant_is : (id consumer : PartyId) (tid i : ℕ) (new : List M) (did : Did) → merchant_at p w id ≡ Some i → TestsAt (p.has_sale consumer tid) w.merchants i true
      → WentAt (λ m. p.merchant_waited m consumer tid) w.merchants new i did → quiet_merchant_of p w id consumer tid ≡ Some (merchants_are id new did)
  unfolding quiet_merchant_of
  quiet_merchant_is id consumer tid i new did at tests went =
      let same : tests.node ≡ went.was = same_some _ _ (sym tests.there ∙ went.there) in
      rw (at, went.there, so _ (ap (p.has_sale consumer tid) (sym same) ∙ sym tests.is)) (ap Some (merchant_is i id (λ m. p.merchant_waited m consumer tid) new did went))

  pub quiet_merchant_not : (id consumer : PartyId) (tid i : ℕ) → merchant_at p w id ≡ Some i → TestsAt (p.has_sale consumer tid) w.merchants i false → quiet_merchant_of p w id consumer tid ≡ None
  unfolding quiet_merchant_of
  quiet_merchant_not id consumer tid i at tests = rw (at, tests.there, not_so _ (sym tests.is)) refl

  -- ---- a restart

  pub restart_consumer_is : (id : PartyId) (i : ℕ) (new : List C) → consumer_at p w id ≡ Some i → BecameAt p.consumer_again w.consumers new i
      → restart_consumer_of p w id ≡ Some (record w { consumers = new })
  unfolding restart_consumer_of
  restart_consumer_is id i new at became = rw (at, became.there, became.behind) refl

  pub restart_merchant_is : ((m : M) → p.merchant_again m ≡ m) → (id : PartyId) (i : ℕ) → merchant_at p w id ≡ Some i → restart_merchant_of p w id ≡ Some w
  unfolding restart_merchant_of
  restart_merchant_is same id i at =
      let there = stands_there (p.is_merchant id) w.merchants i at in
      rw (at, there.1, same there.0) (ap (λ ms. Some (record w { merchants = ms })) (set_same w.merchants i there.0 there.1))

  -- ---- a start

  pub buy_is : (id : PartyId) (start : Start) (i : ℕ) (new : List C) (did : Did) → consumer_at p w id ≡ Some i → length start.request ≤ MAX_REQUEST → length start.memo ≤ MAX_MEMO
      → WentAt (λ c. p.consumer_starts c start) w.consumers new i did → is_nothing did ≡ false → buy_of p w id start ≡ Some (consumers_are id new did)
  unfolding buy_of
  buy_is id start i new did at request memo went does =
      rw (at, went.there, so _ (le-leb _ _ request), so _ (le-leb _ _ memo)) (by (p.consumer_starts went.was start) did went.follows does ∙ ap Some (consumer_is i id (λ c. p.consumer_starts c start) new did went))
    where
      by : (g : Going C) (d : Did) → Follows g went.was went.now d → is_nothing d ≡ false → started w i id g ≡ Some (consumer_goes w i id g)
      by Stays Stayed f e = absurd (false≢true (sym e))
      by Stays Went f e = absurd f
      by Stays (Sent whom m) f e = absurd f
      by (Goes c sent) d f e = refl

  pub buy_ignored : (id : PartyId) (start : Start) (i : ℕ) (new : List C) (did : Did) → consumer_at p w id ≡ Some i → length start.request ≤ MAX_REQUEST → length start.memo ≤ MAX_MEMO
      → WentAt (λ c. p.consumer_starts c start) w.consumers new i did → is_nothing did ≡ true → (buy_of p w id start ≡ None) × (new ≡ w.consumers)
  unfolding buy_of
  buy_ignored id start i new did at request memo went not =
      let is = by (p.consumer_starts went.was start) did went.follows not in
      (rw (at, went.there, so _ (le-leb _ _ request), so _ (le-leb _ _ memo)) is.0, went.behind ∙ ap (set w.consumers i) is.1 ∙ set_same w.consumers i went.was went.there)
    where
      by : (g : Going C) (d : Did) → Follows g went.was went.now d → is_nothing d ≡ true → (started w i id g ≡ None) × (went.now ≡ went.was)
      by Stays Stayed f e = (refl, f)
      by Stays Went f e = absurd f
      by Stays (Sent whom m) f e = absurd f
      by (Goes c None) Stayed f e = absurd f
      by (Goes c None) (Sent whom m) f e = absurd f
      by (Goes c (Some sent)) Stayed f e = absurd f
      by (Goes c None) Went f e = absurd (false≢true e)
      by (Goes c (Some sent)) Went f e = absurd f
      by (Goes c (Some sent)) (Sent whom m) f e = absurd (false≢true e)

  -- ---- a packet

  pub consumer_hears_is : (k : ℕ) (packet : Packet) (id : PartyId) (i : ℕ) (new : List C) (did : Did) → slice_get w.packets k ≡ Some packet → packet.to ≡ to.Consumer id
      → consumer_at p w id ≡ Some i → ((c : C) → p.is_body packet.kind packet.body ≡ false → p.consumer_hears c packet.kind packet.body ≡ Stays)
      → WentAt (λ c. p.consumer_hears c packet.kind packet.body) w.consumers new i did → deliver_of p w k ≡ Some (consumers_are id new did)
  unfolding deliver_of
  consumer_hears_is k packet id i new did there to at unread went =
      rw (there, to, at, went.there) (by (p.is_body packet.kind packet.body) refl ∙ ap Some (consumer_is i id (λ c. p.consumer_hears c packet.kind packet.body) new did went))
    where
      by : (b : Bool) → p.is_body packet.kind packet.body ≡ b
          → Some (if p.is_body packet.kind packet.body then consumer_goes w i id (p.consumer_hears went.was packet.kind packet.body) else w)
          ≡ Some (consumer_goes w i id (p.consumer_hears went.was packet.kind packet.body))
      by true e = rw e refl
      by false e = rw (e, unread went.was e) refl

  pub merchant_hears_is : (k : ℕ) (packet : Packet) (id : PartyId) (i : ℕ) (new : List M) (did : Did) → slice_get w.packets k ≡ Some packet → packet.to ≡ to.Merchant id
      → merchant_at p w id ≡ Some i → ((m : M) → p.is_body packet.kind packet.body ≡ false → p.merchant_hears m packet.kind packet.body w.moment ≡ Stays)
      → WentAt (λ m. p.merchant_hears m packet.kind packet.body w.moment) w.merchants new i did → deliver_of p w k ≡ Some (merchants_are id new did)
  unfolding deliver_of
  merchant_hears_is k packet id i new did there to at unread went =
      rw (there, to, at, went.there) (by (p.is_body packet.kind packet.body) refl ∙ ap Some (merchant_is i id (λ m. p.merchant_hears m packet.kind packet.body w.moment) new did went))
    where
      by : (b : Bool) → p.is_body packet.kind packet.body ≡ b
          → Some (if p.is_body packet.kind packet.body then merchant_goes w i id (p.merchant_hears went.was packet.kind packet.body w.moment) else w)
          ≡ Some (merchant_goes w i id (p.merchant_hears went.was packet.kind packet.body w.moment))
      by true e = rw e refl
      by false e = rw (e, unread went.was e) refl

  pub house_hears_is : (k : ℕ) (packet : Packet) → slice_get w.packets k ≡ Some packet → packet.to ≡ to.Server → deliver_of p w k ≡ Some (server_gets w k)
  unfolding deliver_of
  house_hears_is k packet there to = rw (there, to) refl

  -- ---- nobody, and nothing

  pub quiet_consumer_unknown : (id : PartyId) (tid : ℕ) → consumer_at p w id ≡ None → quiet_consumer_of p w id tid ≡ None
  unfolding quiet_consumer_of
  quiet_consumer_unknown id tid at = rw at refl

  pub quiet_merchant_unknown : (id consumer : PartyId) (tid : ℕ) → merchant_at p w id ≡ None → quiet_merchant_of p w id consumer tid ≡ None
  unfolding quiet_merchant_of
  quiet_merchant_unknown id consumer tid at = rw at refl

  pub restart_consumer_unknown : (id : PartyId) → consumer_at p w id ≡ None → restart_consumer_of p w id ≡ None
  unfolding restart_consumer_of
  restart_consumer_unknown id at = rw at refl

  pub restart_merchant_unknown : (id : PartyId) → merchant_at p w id ≡ None → restart_merchant_of p w id ≡ None
  unfolding restart_merchant_of
  restart_merchant_unknown id at = rw at refl

  pub buy_unknown : (id : PartyId) (start : Start) → consumer_at p w id ≡ None → buy_of p w id start ≡ None
  unfolding buy_of
  buy_unknown id start at = rw at refl

  long_is : (n most : ℕ) → most < n → nat_le n most ≡ false
  long_is n most long = by (nat_le n most) refl
    where
      by : (b : Bool) → nat_le n most ≡ b → nat_le n most ≡ false
      by true e = absurd (omega (arith, long, leb-true n most e))
      by false e = e

  pub buy_long_request : (id : PartyId) (start : Start) (i : ℕ) → consumer_at p w id ≡ Some i → MAX_REQUEST < length start.request → buy_of p w id start ≡ None
  unfolding buy_of
  buy_long_request id start i at long =
      let there = stands_there (p.is_consumer id) w.consumers i at in
      rw (at, there.1, not_so _ (long_is (length start.request) MAX_REQUEST long)) refl

  pub buy_long_memo : (id : PartyId) (start : Start) (i : ℕ) → consumer_at p w id ≡ Some i → length start.request ≤ MAX_REQUEST → MAX_MEMO < length start.memo → buy_of p w id start ≡ None
  unfolding buy_of
  buy_long_memo id start i at short long =
      let there = stands_there (p.is_consumer id) w.consumers i at in
      rw (at, there.1, so _ (le-leb _ _ short), not_so _ (long_is (length start.memo) MAX_MEMO long)) refl

  pub deliver_unknown : (k : ℕ) → slice_get w.packets k ≡ None → deliver_of p w k ≡ None
  unfolding deliver_of
  deliver_unknown k none = rw none refl

  pub consumer_unknown : (k : ℕ) (packet : Packet) (id : PartyId) → slice_get w.packets k ≡ Some packet → packet.to ≡ to.Consumer id → consumer_at p w id ≡ None → deliver_of p w k ≡ None
  unfolding deliver_of
  consumer_unknown k packet id there to at = rw (there, to, at) refl

  pub merchant_unknown : (k : ℕ) (packet : Packet) (id : PartyId) → slice_get w.packets k ≡ Some packet → packet.to ≡ to.Merchant id → merchant_at p w id ≡ None → deliver_of p w k ≡ None
  unfolding deliver_of
  merchant_unknown k packet id there to at = rw (there, to, at) refl

  -- with the packets as they are then
  pub consumers_sent : (o : Option (World C M)) (id : PartyId) (new : List C) (did : Did) (packets : List Packet) → o ≡ Some (consumers_are id new did)
      → packets ≡ w.packets ++ packets_did (by.Consumer id) did → o ≡ Some (record w { consumers = new; packets = packets })
  consumers_sent o id new did packets is sent = is ∙ ap (λ (ps : List Packet). Some (record w { consumers = new; packets = ps })) (sym sent)

  pub merchants_sent : (o : Option (World C M)) (id : PartyId) (new : List M) (did : Did) (packets : List Packet) → o ≡ Some (merchants_are id new did)
      → packets ≡ w.packets ++ packets_did (by.Merchant id) did → o ≡ Some (record w { merchants = new; packets = packets })
  merchants_sent o id new did packets is sent = is ∙ ap (λ (ps : List Packet). Some (record w { merchants = new; packets = ps })) (sym sent)

  pub quiet_consumer_went : (id : PartyId) (tid i : ℕ) (new : List C) (did : Did) (packets : List Packet) → consumer_at p w id ≡ Some i → TestsAt (p.has_purchase tid) w.consumers i true
      → WentAt (λ c. p.consumer_waited c tid) w.consumers new i did → packets ≡ w.packets ++ packets_did (by.Consumer id) did
      → quiet_consumer_of p w id tid ≡ Some (record w { consumers = new; packets = packets })
  quiet_consumer_went id tid i new did packets at tests went sent = consumers_sent (quiet_consumer_of p w id tid) id new did packets (quiet_consumer_is id tid i new did at tests went) sent

  pub quiet_merchant_went : (id consumer : PartyId) (tid i : ℕ) (new : List M) (did : Did) (packets : List Packet) → merchant_at p w id ≡ Some i → TestsAt (p.has_sale consumer tid) w.merchants i true
      → WentAt (λ m. p.merchant_waited m consumer tid) w.merchants new i did → packets ≡ w.packets ++ packets_did (by.Merchant id) did
      → quiet_merchant_of p w id consumer tid ≡ Some (record w { merchants = new; packets = packets })
  quiet_merchant_went id consumer tid i new did packets at tests went sent =
      merchants_sent (quiet_merchant_of p w id consumer tid) id new did packets (quiet_merchant_is id consumer tid i new did at tests went) sent

  pub buy_went : (id : PartyId) (start : Start) (i : ℕ) (new : List C) (did : Did) (packets : List Packet) → consumer_at p w id ≡ Some i → length start.request ≤ MAX_REQUEST → length start.memo ≤ MAX_MEMO
      → WentAt (λ c. p.consumer_starts c start) w.consumers new i did → is_nothing did ≡ false → packets ≡ w.packets ++ packets_did (by.Consumer id) did
      → buy_of p w id start ≡ Some (record w { consumers = new; packets = packets })
  buy_went id start i new did packets at request memo went does sent = consumers_sent (buy_of p w id start) id new did packets (buy_is id start i new did at request memo went does) sent

  pub consumer_heard : (k : ℕ) (packet : Packet) (id : PartyId) (i : ℕ) (new : List C) (did : Did) (packets : List Packet) → slice_get w.packets k ≡ Some packet
      → option_map (λ (x : Packet). x.to) (slice_get w.packets k) ≡ Some (to.Consumer id) → consumer_at p w id ≡ Some i
      → ((c : C) → p.is_body packet.kind packet.body ≡ false → p.consumer_hears c packet.kind packet.body ≡ Stays)
      → WentAt (λ c. p.consumer_hears c packet.kind packet.body) w.consumers new i did → packets ≡ w.packets ++ packets_did (by.Consumer id) did
      → deliver_of p w k ≡ Some (record w { consumers = new; packets = packets })
  consumer_heard k packet id i new did packets there whom at unread went sent =
      let is : packet.to ≡ to.Consumer id = same_some _ _ (sym (ap (option_map (λ (x : Packet). x.to)) there) ∙ whom) in
      consumers_sent (deliver_of p w k) id new did packets (consumer_hears_is k packet id i new did there is at unread went) sent

  pub merchant_heard : (k : ℕ) (packet : Packet) (id : PartyId) (i : ℕ) (new : List M) (did : Did) (packets : List Packet) → slice_get w.packets k ≡ Some packet
      → option_map (λ (x : Packet). x.to) (slice_get w.packets k) ≡ Some (to.Merchant id) → merchant_at p w id ≡ Some i
      → ((m : M) → p.is_body packet.kind packet.body ≡ false → p.merchant_hears m packet.kind packet.body w.moment ≡ Stays)
      → WentAt (λ m. p.merchant_hears m packet.kind packet.body w.moment) w.merchants new i did → packets ≡ w.packets ++ packets_did (by.Merchant id) did
      → deliver_of p w k ≡ Some (record w { merchants = new; packets = packets })
  merchant_heard k packet id i new did packets there whom at unread went sent =
      let is : packet.to ≡ to.Merchant id = same_some _ _ (sym (ap (option_map (λ (x : Packet). x.to)) there) ∙ whom) in
      merchants_sent (deliver_of p w k) id new did packets (merchant_hears_is k packet id i new did there is at unread went) sent

  -- whom a packet is for is known where it is there
  pub consumer_absent : (k : ℕ) (id : PartyId) → option_map (λ (x : Packet). x.to) (slice_get w.packets k) ≡ Some (to.Consumer id) → consumer_at p w id ≡ None → deliver_of p w k ≡ None
  consumer_absent k id whom at = by (slice_get w.packets k) refl
    where
      by : (o : Option Packet) → slice_get w.packets k ≡ o → deliver_of p w k ≡ None
      by None e = deliver_unknown k e
      by (Some packet) e = consumer_unknown k packet id e (same_some _ _ (sym (ap (option_map (λ (x : Packet). x.to)) e) ∙ whom)) at

  pub merchant_absent : (k : ℕ) (id : PartyId) → option_map (λ (x : Packet). x.to) (slice_get w.packets k) ≡ Some (to.Merchant id) → merchant_at p w id ≡ None → deliver_of p w k ≡ None
  merchant_absent k id whom at = by (slice_get w.packets k) refl
    where
      by : (o : Option Packet) → slice_get w.packets k ≡ o → deliver_of p w k ≡ None
      by None e = deliver_unknown k e
      by (Some packet) e = merchant_unknown k packet id e (same_some _ _ (sym (ap (option_map (λ (x : Packet). x.to)) e) ∙ whom)) at

  pub deliver_to_none : (k : ℕ) → option_map (λ (x : Packet). x.to) (slice_get w.packets k) ≡ None → deliver_of p w k ≡ None
  deliver_to_none k none = by (slice_get w.packets k) refl
    where
      by : (o : Option Packet) → slice_get w.packets k ≡ o → deliver_of p w k ≡ None
      by None e = deliver_unknown k e
      by (Some packet) e = absurd (no_packet packet.to (sym none ∙ ap (option_map (λ (x : Packet). x.to)) e))

  pub buy_ignored_is : (id : PartyId) (start : Start) (i : ℕ) (new : List C) (did : Did) (packets : List Packet) → consumer_at p w id ≡ Some i → length start.request ≤ MAX_REQUEST → length start.memo ≤ MAX_MEMO
      → WentAt (λ c. p.consumer_starts c start) w.consumers new i did → is_nothing did ≡ true → packets ≡ w.packets
      → (buy_of p w id start ≡ None) × (record w { consumers = new; packets = packets } ≡ w)
  buy_ignored_is id start i new did packets at request memo went not same =
      let ignored = buy_ignored id start i new did at request memo went not in
      (ignored.0, ap (λ (cs : List C). record w { consumers = cs; packets = packets }) ignored.1 ∙ ap (λ (ps : List Packet). record w { packets = ps }) same)
