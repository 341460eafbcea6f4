-- What the steps of nodes do to a world.
use Rattle.std.proofs.Common.{◌≡◌, ◌≢◌, ℕ, zero, suc, List, [], ◌∷◌, ◌++◌, length, ◌≤◌, Option, None, Some, refl, sym, ap, subst, ◌∙◌}
use Rattle.std.proofs.lemmas.List.{append-nil, length-set}
use Rattle.std.proofs.lemmas.Bool.{le-leb}
use Rattle.std.specs.Prelude.{set, IsTrue}
use Rattle.std.specs.List.{slice_get}
use Rattle.nb_units.specs.declared.limits.TheConstants.{MAX_MEMO}
use Rattle.nb_body.specs.declared.limits.TheConstants.{MAX_REQUEST}
use Rattle.nb_units.specs.declared.ids.PartyId.{PartyId}
use Rattle.nb_world.specs.declared.event.Event.TheVariants as on
use Rattle.nb_world.specs.declared.packet.Maker.{Maker}
use Rattle.nb_world.specs.declared.packet.Maker.TheVariants as by
use Rattle.nb_world.specs.declared.packet.Packet.{Packet}
use Rattle.nb_world.specs.declared.packet.Sending.{Sending}
use Rattle.nb_msgs.specs.declared.node.To.TheVariants as to
use Rattle.nb_wallet.specs.declared.wallet.Start.{Start}
use Rattle.nb_world.specs.World.{Going, Stays, Goes, Rules, World}
use Rattle.nb_world.specs.Steps.{packets_of, consumer_goes, merchant_goes, started, buy_of, quiet_consumer_of, quiet_merchant_of, restart_consumer_of, restart_merchant_of, deliver_of, next, or_same}
use Rattle.nb_world.specs.Fits.{IsConsumer, IsMerchant}
use Rattle.nb_world.specs.Nodes.{Became, IsSameHouse, HasSent, ConsumerWent, MerchantWent, ConsumerGoes, MerchantGoes, ConsumerSteps, MerchantSteps}
use Rattle.nb_world.proofs.Chains.{so}

-- ---- one of a list becomes another

set_stands : {S : Type 0} (xs : List S) (i : ℕ) (x y : S) → slice_get xs i ≡ Some x → slice_get (set xs i y) i ≡ Some y
set_stands [] i x y is = absurd cc
set_stands (z ∷ xs) zero x y is = refl
set_stands (z ∷ xs) (suc i) x y is = set_stands xs i x y is

set_others : {S : Type 0} (xs : List S) (i : ℕ) (y : S) (k : ℕ) → k ≢ i → slice_get (set xs i y) k ≡ slice_get xs k
set_others [] i y k other = refl
set_others (z ∷ xs) zero y zero other = absurd (other refl)
set_others (z ∷ xs) zero y (suc k) other = refl
set_others (z ∷ xs) (suc i) y zero other = refl
set_others (z ∷ xs) (suc i) y (suc k) other = set_others xs i y k (λ same. other (ap suc same))

became : {S : Type 0} (xs : List S) (i : ℕ) (x y : S) → slice_get xs i ≡ Some x → Became xs i y (set xs i y)
became xs i x y is = record { as_many = length-set xs i y; stands = set_stands xs i x y is; others = set_others xs i y }

module _ {C M : Type 0} (w : World C M) where
  same_house : (behind : World C M) → behind.calls ≡ w.calls → behind.turn ≡ w.turn → behind.durable ≡ w.durable → behind.server ≡ w.server
      → behind.origins ≡ w.origins → behind.acknowledged ≡ w.acknowledged → behind.moment ≡ w.moment → IsSameHouse w behind
  same_house behind calls turn durable server origins acknowledged moment =
      record { calls = calls; turn = turn; durable = durable; server = server; origins = origins; acknowledged = acknowledged; moment = moment }

  sent_so : (maker : Maker) (sent : Option Sending) (behind : World C M) → behind.packets ≡ w.packets ++ packets_of maker sent → HasSent w maker sent behind
  sent_so maker None behind is = is ∙ append-nil w.packets
  sent_so maker (Some s) behind is = is

  consumer_went : (i : ℕ) (id : PartyId) (c : C) → slice_get w.consumers i ≡ Some c → (g : Going C) → ConsumerGoes w i id g (consumer_goes w i id g)
  consumer_went i id c is Stays = refl
  consumer_went i id c is (Goes d sent) = record {
    became = became w.consumers i c d is;
    merchants = refl;
    has_sent = sent_so (by.Consumer id) sent (consumer_goes w i id (Goes d sent)) refl;
    house = same_house (consumer_goes w i id (Goes d sent)) refl refl refl refl refl refl refl;
  }

  merchant_went : (i : ℕ) (id : PartyId) (m : M) → slice_get w.merchants i ≡ Some m → (g : Going M) → MerchantGoes w i id g (merchant_goes w i id g)
  merchant_went i id m is Stays = refl
  merchant_went i id m is (Goes n sent) = record {
    became = became w.merchants i m n is;
    consumers = refl;
    has_sent = sent_so (by.Merchant id) sent (merchant_goes w i id (Goes n sent)) refl;
    house = same_house (merchant_goes w i id (Goes n sent)) refl refl refl refl refl refl refl;
  }

  started_is : (i : ℕ) (id : PartyId) (g : Going C) → or_same w (started w i id g) ≡ consumer_goes w i id g
  started_is i id Stays = refl
  started_is i id (Goes c sent) = refl

-- ---- each event of a node

module _ {C M : Type 0} (p : Rules C M) (w : World C M) (id : PartyId) where
  buy_is : (c : C) (is : IsConsumer p w id c) (start : Start) → length start.request ≤ MAX_REQUEST → length start.memo ≤ MAX_MEMO
      → next p w (on.Buy id start) ≡ consumer_goes w is.place id (p.consumer_starts c start)
  unfolding buy_of
  buy_is c is start request memo = rw (is.first, is.stands, so _ (le-leb _ _ request), so _ (le-leb _ _ memo)) (started_is w is.place id (p.consumer_starts c start))

  consumer_hears_is : (c : C) (is : IsConsumer p w id c) (k : ℕ) (packet : Packet) → slice_get w.packets k ≡ Some packet → packet.to ≡ to.Consumer id → IsTrue (p.is_body packet.kind packet.body)
      → next p w (on.Deliver k) ≡ consumer_goes w is.place id (p.consumer_hears c packet.kind packet.body)
  unfolding deliver_of
  consumer_hears_is c is k packet there for_it spelled = rw (there, for_it, is.first, is.stands, spelled) refl

  consumer_waited_is : (c : C) (is : IsConsumer p w id c) (tid : ℕ) → IsTrue (p.has_purchase tid c)
      → next p w (on.QuietConsumer id tid) ≡ consumer_goes w is.place id (p.consumer_waited c tid)
  unfolding quiet_consumer_of
  consumer_waited_is c is tid known = rw (is.first, is.stands, so _ known) refl

  consumer_again_is : (c : C) (is : IsConsumer p w id c) → ConsumerWent w is.place id (p.consumer_again c) None (next p w (on.RestartConsumer id))
  unfolding restart_consumer_of
  consumer_again_is c is =
      let behind : World C M = record w { consumers = set w.consumers is.place (p.consumer_again c) } in
      let there : next p w (on.RestartConsumer id) ≡ behind = rw (is.first, is.stands) refl in
      rw there (record { became = became w.consumers is.place c (p.consumer_again c) is.stands; merchants = refl; has_sent = refl; house = same_house w behind refl refl refl refl refl refl refl })

  merchant_hears_is : (m : M) (is : IsMerchant p w id m) (k : ℕ) (packet : Packet) → slice_get w.packets k ≡ Some packet → packet.to ≡ to.Merchant id → IsTrue (p.is_body packet.kind packet.body)
      → next p w (on.Deliver k) ≡ merchant_goes w is.place id (p.merchant_hears m packet.kind packet.body w.moment)
  unfolding deliver_of
  merchant_hears_is m is k packet there for_it spelled = rw (there, for_it, is.first, is.stands, spelled) refl

  merchant_waited_is : (m : M) (is : IsMerchant p w id m) (consumer : PartyId) (tid : ℕ) → IsTrue (p.has_sale consumer tid m)
      → next p w (on.QuietMerchant id consumer tid) ≡ merchant_goes w is.place id (p.merchant_waited m consumer tid)
  unfolding quiet_merchant_of
  merchant_waited_is m is consumer tid known = rw (is.first, is.stands, so _ known) refl

  merchant_again_is : (m : M) (is : IsMerchant p w id m) → MerchantWent w is.place id (p.merchant_again m) None (next p w (on.RestartMerchant id))
  unfolding restart_merchant_of
  merchant_again_is m is =
      let behind : World C M = record w { merchants = set w.merchants is.place (p.merchant_again m) } in
      let there : next p w (on.RestartMerchant id) ≡ behind = rw (is.first, is.stands) refl in
      rw there (record { became = became w.merchants is.place m (p.merchant_again m) is.stands; consumers = refl; has_sent = refl; house = same_house w behind refl refl refl refl refl refl refl })

pub consumer_steps : {C M : Type 0} → ConsumerSteps C M
consumer_steps {C} {M} p w id c is =
    let goes : (g : Going C) (behind : World C M) → behind ≡ consumer_goes w is.place id g → ConsumerGoes w is.place id g behind =
    λ (g : Going C) (behind : World C M) (there : behind ≡ consumer_goes w is.place id g). subst (ConsumerGoes w is.place id g) (sym there) (consumer_went w is.place id c is.stands g) in
    record {
      starts = λ start request memo. goes (p.consumer_starts c start) (next p w (on.Buy id start)) (buy_is p w id c is start request memo);
      hears = λ k packet there for_it spelled. goes (p.consumer_hears c packet.kind packet.body) (next p w (on.Deliver k)) (consumer_hears_is p w id c is k packet there for_it spelled);
      waited = λ tid known. goes (p.consumer_waited c tid) (next p w (on.QuietConsumer id tid)) (consumer_waited_is p w id c is tid known);
      again = consumer_again_is p w id c is;
    }

pub merchant_steps : {C M : Type 0} → MerchantSteps C M
merchant_steps {C} {M} p w id m is =
    let goes : (g : Going M) (behind : World C M) → behind ≡ merchant_goes w is.place id g → MerchantGoes w is.place id g behind =
    λ (g : Going M) (behind : World C M) (there : behind ≡ merchant_goes w is.place id g). subst (MerchantGoes w is.place id g) (sym there) (merchant_went w is.place id m is.stands g) in
    record {
      hears = λ k packet there for_it spelled. goes (p.merchant_hears m packet.kind packet.body w.moment) (next p w (on.Deliver k)) (merchant_hears_is p w id m is k packet there for_it spelled);
      waited = λ consumer tid known. goes (p.merchant_waited m consumer tid) (next p w (on.QuietMerchant id consumer tid)) (merchant_waited_is p w id m is consumer tid known);
      again = merchant_again_is p w id m is;
    }
