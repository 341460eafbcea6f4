-- The key of a payment is that of the endorsement that a merchant's step made.
use Rattle.std.proofs.Common.{◌≡◌, ◌⊎◌, inl, inr, ℕ, ◌+◌, ◌-◌, ◌<◌, ◌≤◌, ◌^◌, List, ◌++◌, length, take, Option, None, Some, Result, Ok, refl, sym, ap, subst, ◌∙◌, arith, length-append}
use Rattle.std.proofs.lemmas.Option.{slice_get_within, slice_get_cases}
use Rattle.std.proofs.Math.Seq.{take-append-add}
use Rattle.std.specs.Prelude.{codes, get_or}
use Rattle.std.specs.List.{slice_get, AllByRecursion}
use Rattle.nb_units.specs.Fields.{be4, sized}
use Rattle.nb_units.specs.declared.frames.TheConstants.{ORDER_REQUEST}
use Rattle.nb_units.specs.declared.ids.PartyId.{PartyId}
use Rattle.nb_units.specs.declared.limits.TheConstants.{MAX_MEMO, MAX_ORDER}
use Rattle.nb_seal.specs.Seal.{OpensAs, seal_of}
use Rattle.nb_seal.proofs.Opening.{opens_once, length-seal_of}
use Rattle.nb_body.specs.Reading.{endorsed_of}
use Rattle.nb_body.specs.declared.endorsed.EndorsedOrder.{EndorsedOrder}
use Rattle.nb_body.specs.declared.limits.TheConstants.{MAX_ENDORSED}
use Rattle.nb_body.proofs.Layouts.{endorsed_reads_back}
use Rattle.nb_book.specs.Laws.{StaysLegal}
use Rattle.nb_book.specs.Searches.{party_in}
use Rattle.nb_entry.specs.declared.entry.Entry.{Entry}
use Rattle.nb_entry.specs.declared.entry.Entry.TheVariants.{Enrol, Fund, Paid, Charged, Refused}
use Rattle.nb_book.specs.declared.party.Party.{Party}
use Rattle.nb_endorse.specs.Reading.{endorsement_of}
use Rattle.nb_endorse.specs.Spelling.{endorsement_bytes, IsEndorsement}
use Rattle.nb_endorse.specs.declared.endorsement.Endorsement.{Endorsement}
use Rattle.nb_endorse.proofs.Layouts.{endorsement_reads_back}
use Rattle.nb_msgs.specs.Bodies.{kind_of, body_bytes}
use Rattle.nb_msgs.specs.declared.message.Message.{Message}
use Rattle.nb_msgs.specs.declared.message.Message.TheVariants as message
use Rattle.nb_msgs.specs.declared.node.To.{To}
use Rattle.nb_escrow.specs.Head.{IsRuling, charge}
use Rattle.nb_escrow.specs.Laws as escrow
use Rattle.nb_escrow.specs.Payable.{IsAuthenticOrder, payment_with}
use Rattle.nb_escrow.specs.declared.head.Head.{Head}
use Rattle.nb_escrow.specs.declared.order.Presented.{Presented}
use Rattle.nb_escrow.proofs.Exactly.{paid_exactly_where}
use Rattle.nb_escrow.proofs.Lasts.{party_stays}
use Rattle.nb_consumer.specs.State.{Buyer}
use Rattle.nb_merchant.specs.Sending.{Endorses, OpensOrCollides, MessageIs}
use Rattle.nb_merchant.specs.Shop.{Shop}
use Rattle.nb_world.specs.declared.event.Event.{Event}
use Rattle.nb_world.specs.declared.packet.Maker.TheVariants as by
use Rattle.nb_world.specs.declared.packet.Packet.{Packet}
use Rattle.nb_world.specs.declared.turning.Origin.{Origin}
use Rattle.nb_world.specs.World.{World}
use Rattle.nb_world.specs.Steps.{run}
use Rattle.nb_world.specs.Laws.{Begins, CameBy, HasOrigins, IsLawfulWorld, IsSetUp, RecordsLegal}
use Rattle.nb_world.proofs.Chains.{same_some}
use Rattle.nb_world.proofs.Growing.{get_begins}
use Rattle.nb_world.proofs.Lists.{all_at}
use Rattle.nb_world.proofs.Moving.{only_grows}
use Rattle.nb_world.proofs.Serving.{world_law}
use Rattle.nb_world.proofs.Settling.{house_records_legal}
use Rattle.nb_world.proofs.Stopping.{entries_have_origins}
use Rattle.nb_parties.specs.Rules.{shown, house_verdict, real_rules}
use Rattle.nb_parties.specs.Goods.{IsEnrolled, MerchantsAreEnrolled, IsOpening, PaysUnder, KeepsOrder, IsKeyOfGoods, IsOfGoods, GoodsLaw, GoodsOfEachPayment}
use Rattle.nb_parties.proofs.Endorsing.{SentFrom, SentBy, all_sent, order_names}

ok_same : {A E : Type 0} (x y : A) → ◌≡◌ {A = Result A E} (Ok x) (Ok y) → x ≡ y
ok_same x y e = cc

-- ---- the entries of the set-up

-- a party of the first entries is found among as many or more of the first ones of a list that begins with them
party_there : (first all : List Entry) → Begins all first → (n : ℕ) → length first ≤ n → (id : PartyId) (party : Party) → party_in first id ≡ Some party → party_in (take n all) id ≡ Some party
party_there first all begins n long id party found =
    let same : length first + (n - length first) ≡ n = omega (arith, long) in
    let front : take n all ≡ first ++ take (n - length first) begins.0 =
    ap (take n) begins.1 ∙ ap (λ (k : ℕ). take k (first ++ begins.0)) (sym same) ∙ take-append-add first begins.0 (n - length first) in
    ap (λ es. party_in es id) front ∙ party_stays first (take (n - length first) begins.0) id party found

-- ---- an endorsement

endorsement_long : (e : Endorsement) → length (endorsement_bytes e) ≡ 12 + length e.order + length e.memo + length e.key
unfolding endorsement_bytes
endorsement_long e = omega (arith, length-append ((e.order ++ be4 e.macct.0) ++ sized e.memo) e.key, length-append (e.order ++ be4 e.macct.0) (sized e.memo), length-append e.order (be4 e.macct.0))

within_limit : (order memo key plain sealed : ℕ) → order ≤ MAX_ORDER → memo ≤ MAX_MEMO → key ≡ 32 → plain ≡ 12 + order + memo + key → sealed ≡ 32 + plain → sealed ≤ MAX_ENDORSED
within_limit order memo key plain sealed short few long all is = omega arith

pub sealed_short : (key : List ℕ) (e : Endorsement) → IsEndorsement e → length (seal_of key (codes "endo") (endorsement_bytes e)) ≤ MAX_ENDORSED
sealed_short key e is =
    let sealed : length (seal_of key (codes "endo") (endorsement_bytes e)) ≡ 32 + length (endorsement_bytes e) = omega (arith, length-seal_of key (codes "endo") (endorsement_bytes e)) in
    within_limit (length e.order) (length e.memo) (length e.key) (length (endorsement_bytes e)) (length (seal_of key (codes "endo") (endorsement_bytes e))) is.order is.memo is.key (endorsement_long e) sealed

-- what is read of an endorsement under the key that it was sealed under is it
read_of_seal : (key : List ℕ) (made read : Endorsement) → IsEndorsement made → OpensAs endorsement_of key (codes "endo") (seal_of key (codes "endo") (endorsement_bytes made)) (Ok read) → read ≡ made
read_of_seal key made read within opens =
    let plain : opens.0 ≡ endorsement_bytes made = opens_once key (codes "endo") (seal_of key (codes "endo") (endorsement_bytes made)) opens.0 (endorsement_bytes made) opens.1 refl in
    ok_same {E = ℕ} read made (sym opens.2 ∙ ap endorsement_of plain ∙ endorsement_reads_back made within)

-- the endorsement that is presented is the one that the merchant made
presented_is : (entries : List Entry) (body : List ℕ) (p : Presented) (shop : Shop) (whom : To) (m : Message) (e : Endorses shop whom m) → IsAuthenticOrder entries body p → body ≡ body_bytes m
    → (party : Party) → party_in entries shop.stall.id ≡ Some party → party.key ≡ shop.stall.key → shop.stall.id.0 < 2 ^ 32 → shop.stall.acct.0 < 2 ^ 32 → p.endorsement ≡ e.endorsement
presented_is entries body p shop whom m e authentic body_is party found its id acct =
    let within : IsEndorsement e.endorsement = e.within acct in
    let sealed : List ℕ = seal_of shop.stall.key (codes "endo") (endorsement_bytes e.endorsement) in
    let request : EndorsedOrder = record { merchant = shop.stall.id; sealed = sealed } in
    let read : endorsed_of body ≡ Ok request =
    ap endorsed_of (body_is ∙ ap body_bytes e.sealed) ∙ endorsed_reads_back request (record { merchant = id; sealed = sealed_short shop.stall.key e.endorsement within }) in
    let asked = authentic.signed.ordered.endorsed.asked in
    let same : authentic.request ≡ request = ok_same {E = ℕ} authentic.request request (sym asked.spelled ∙ read) in
    let merchant : p.merchant ≡ party = same_some p.merchant party (sym asked.enrolled ∙ ap (λ (r : EndorsedOrder). party_in entries r.merchant) same ∙ found) in
    let key : p.merchant.key ≡ shop.stall.key = ap (λ (x : Party). x.key) merchant ∙ its in
    read_of_seal shop.stall.key e.endorsement p.endorsement within
    (subst (λ (bytes : List ℕ). OpensAs endorsement_of shop.stall.key (codes "endo") bytes (Ok p.endorsement)) (ap (λ (r : EndorsedOrder). r.sealed) same)
    (subst (λ (k : List ℕ). OpensAs endorsement_of k (codes "endo") authentic.request.sealed (Ok p.endorsement)) key authentic.signed.ordered.endorsed.opens))

-- ---- a payment

is_payment : (key : List ℕ) (entry : Entry) → PaysUnder key entry → escrow.IsPayment entry
is_payment key (Paid digest epoid consumer merchant product price cacct macct moment k) pays = tt
is_payment key (Charged digest epoid consumer merchant product price fee cacct macct moment k) pays = tt
is_payment key (Enrol id role acct nonce k) pays = absurd pays
is_payment key (Fund acct amount reference) pays = absurd pays
is_payment key (Refused digest epoid consumer merchant product price code a b moment) pays = absurd pays

paid_key : (key : List ℕ) (fee : Option ℕ) (p : Presented) (moment : ℕ) → PaysUnder key (payment_with fee p moment) → p.endorsement.key ≡ key
paid_key key None p moment pays = pays
paid_key key (Some fee) p moment pays = pays

-- a merchant's message to the house is an endorsement
pub is_endorsement : (shop : Shop) (whom : To) (m : Message) → MessageIs shop whom m → kind_of m ≡ ORDER_REQUEST → Endorses shop whom m
is_endorsement shop whom (message.Endorsed merchant sealed) so kind = so
is_endorsement shop whom (message.Quote transaction sealed) so kind = absurd (omega (arith, kind))
is_endorsement shop whom (message.Goods transaction head part) so kind = absurd (omega (arith, kind))
is_endorsement shop whom (message.Passed transaction part) so kind = absurd (omega (arith, kind))
is_endorsement shop whom other so kind = absurd so

-- the key of an endorsement is that of the goods of whoever kept its order
module _ (first : World Buyer Shop) (id : PartyId) (packet : Packet) (from : SentFrom first id packet) (endorses : Endorses from.shop from.whom from.message) (key : List ℕ) (same : key ≡ endorses.endorsement.key) where
  pub goods_open : (b : Buyer) (heard_now : Message) (held : List ℕ) → KeepsOrder b heard_now endorses.sent.order held → OpensOrCollides key endorses.product.goods held
  goods_open b heard_now held keeps =
      subst (λ (k : List ℕ). OpensOrCollides k endorses.product.goods held) (sym same) (endorses.goods held (order_names b heard_now endorses.sent.order held keeps))

  unfoldable pub key_of_goods : IsKeyOfGoods first id packet key
  key_of_goods = record {
    endorsed = record {
      place = from.place;
      merchant = from.merchant;
      of = from.of;
      its = from.its;
      shop = from.shop;
      stall = from.stall;
      products = from.products;
      whom = from.whom;
      message = from.message;
      kind = from.kind;
      body = from.body;
      endorses = endorses;
    };
    same = same;
    opens = goods_open;
  }

-- ---- the law

module _ (stays : StaysLegal) (legal : escrow.RecordsLegal) (head : Head) (cap : ℕ) (ruling : IsRuling head) (w : World Buyer Shop) (setup : IsSetUp w) (enrolled : MerchantsAreEnrolled w) (es : List Event) where
  lawful : IsLawfulWorld (house_verdict head cap) (run (real_rules head cap) w es)
  lawful =
      let p = real_rules head cap in
      let records : RecordsLegal p.verdict = house_records_legal legal p shown head cap (λ entries request. refl) ruling in
      world_law stays p w records setup es

  begins : Begins (run (real_rules head cap) w es).durable w.durable
  begins = (only_grows (real_rules head cap) w es).durable

  -- a payment that came by a merchant's packet
  by_merchant : (origin : Origin) (came : CameBy (house_verdict head cap) (run (real_rules head cap) w es) origin) (key : List ℕ) → length w.durable ≤ origin.place → PaysUnder key came.entry
      → (id : PartyId) → came.packet.maker ≡ by.Merchant id → IsKeyOfGoods w id came.packet key
  by_merchant origin came key behind pays id maker =
      let later = run (real_rules head cap) w es in
      let entries : List Entry = take origin.place later.durable in
      let sent : SentBy w came.packet came.packet.maker = all_at (λ (made : Packet). SentBy w made made.maker) later.packets came.asks.call.packet came.packet came.asks.of (all_sent head cap w setup enrolled es) in
      let from : SentFrom w id came.packet = subst (SentBy w came.packet) maker sent in
      let paid = (paid_exactly_where entries head cap came.packet.kind came.packet.body came.moment came.entry).0 (came.ruled, is_payment key came.entry pays) in
      let p : Presented = paid.1.0 in
      let endorses : Endorses from.shop from.whom from.message = is_endorsement from.shop from.whom from.message from.so (sym from.kind ∙ paid.0) in
      let its : IsEnrolled w.durable from.merchant.stall = (enrolled from.place from.merchant from.of).0 in
      let there : party_in entries from.merchant.stall.id ≡ Some its.party = party_there w.durable later.durable begins origin.place behind from.merchant.stall.id its.party its.found in
      let presented : p.endorsement ≡ endorses.endorsement =
      presented_is entries came.packet.body p from.shop from.whom from.message endorses paid.1.1.settles.authentic from.body its.party
      (ap (λ stall. party_in entries stall.id) from.stall ∙ there) (its.key ∙ sym (ap (λ stall. stall.key) from.stall))
      (subst (λ stall. stall.id.0 < 2 ^ 32) (sym from.stall) its.id) (subst (λ stall. stall.acct.0 < 2 ^ 32) (sym from.stall) its.acct) in
      let of_payment : p.endorsement.key ≡ key = paid_key key (charge head p.order.price) p came.moment (subst (PaysUnder key) paid.1.2 pays) in
      key_of_goods w id came.packet from endorses key (sym of_payment ∙ ap (λ (e : Endorsement). e.key) presented)

  -- the origin of an entry behind the set-up's
  origin_at : (at : ℕ) → length w.durable ≤ at → at < length (run (real_rules head cap) w es).durable
      → (k : ℕ) × (origin : Origin) × (slice_get (run (real_rules head cap) w es).origins k ≡ Some origin) × (origin.place ≡ at)
  origin_at at behind within =
      let later = run (real_rules head cap) w es in
      let has : HasOrigins w later = entries_have_origins (real_rules head cap) w setup.no_origins es in
      let k : ℕ = at - length w.durable in
      let few : k < length later.origins = omega (arith, behind, within, has.as_many) in
      let sum : length w.durable + k ≡ at = omega (arith, behind) in
      by k sum few (has.in_order k) (slice_get_cases later.origins k).1
    where
      by : (k : ℕ) → length w.durable + k ≡ at → k < length (run (real_rules head cap) w es).origins
          → ((origin : Origin) → slice_get (run (real_rules head cap) w es).origins k ≡ Some origin → origin.place ≡ length w.durable + k)
          → (((x : Origin) × (k < length (run (real_rules head cap) w es).origins) × (slice_get (run (real_rules head cap) w es).origins k ≡ Some x) × (get_or (run (real_rules head cap) w es).origins k x ≡ x))
          ⊎ ((length (run (real_rules head cap) w es).origins ≤ k) × (slice_get (run (real_rules head cap) w es).origins k ≡ None)))
          → (k : ℕ) × (origin : Origin) × (slice_get (run (real_rules head cap) w es).origins k ≡ Some origin) × (origin.place ≡ at)
      by k sum few places (inl there) = (k, there.0, there.2, places there.0 there.2 ∙ sum)
      by k sum few places (inr past) = absurd (omega (arith, few, past.0))

  payment_at : (at : ℕ) (entry : Entry) (key : List ℕ) → slice_get (run (real_rules head cap) w es).durable at ≡ Some entry → PaysUnder key entry → length w.durable ≤ at
      → IsOfGoods head cap w (run (real_rules head cap) w es) at entry key
  payment_at at entry key there pays behind =
      let later = run (real_rules head cap) w es in
      let found = origin_at at behind (slice_get_within later.durable at entry there) in
      let came : CameBy (house_verdict head cap) later found.1 = all_at (CameBy (house_verdict head cap) later) later.origins found.0 found.1 found.2 lawful.came in
      let same : came.entry ≡ entry = same_some came.entry entry (sym came.stands ∙ ap (slice_get later.durable) found.3 ∙ there) in
      record {
        origin = found.1;
        came = came;
        place = found.3;
        is = same;
        goods = by_merchant found.1 came key (subst (λ (n : ℕ). length w.durable ≤ n) (sym found.3) behind) (subst (PaysUnder key) (sym same) pays);
      }

pub goods_law : StaysLegal → escrow.RecordsLegal → GoodsLaw
goods_law stays legal head cap ruling w setup enrolled es at entry key there pays behind = payment_at stays legal head cap ruling w setup enrolled es at entry key there pays behind

-- ---- from enrolments and funds alone

none_pays : (key : List ℕ) (e : Entry) → IsOpening e → PaysUnder key e → ⊥
none_pays key (Paid digest epoid consumer merchant product price cacct macct moment k) (inl none) pays = none
none_pays key (Paid digest epoid consumer merchant product price cacct macct moment k) (inr none) pays = none
none_pays key (Charged digest epoid consumer merchant product price fee cacct macct moment k) (inl none) pays = none
none_pays key (Charged digest epoid consumer merchant product price fee cacct macct moment k) (inr none) pays = none
none_pays key (Enrol id role acct nonce k) is pays = pays
none_pays key (Fund acct amount reference) is pays = pays
none_pays key (Refused digest epoid consumer merchant product price code a b moment) is pays = pays

behind_setup : (first all : List Entry) → Begins all first → AllByRecursion IsOpening first → (key : List ℕ) (at : ℕ) (entry : Entry) → slice_get all at ≡ Some entry → PaysUnder key entry → length first ≤ at
behind_setup first all begins opening key at entry there pays = by (slice_get_cases first at).1
  where
    by : (((x : Entry) × (at < length first) × (slice_get first at ≡ Some x) × (get_or first at x ≡ x)) ⊎ ((length first ≤ at) × (slice_get first at ≡ None))) → length first ≤ at
    by (inr past) = past.0
    by (inl here) =
        let same : here.0 ≡ entry = same_some here.0 entry (sym (get_begins first all begins at here.0 here.2) ∙ there) in
        absurd (none_pays key entry (subst IsOpening same (all_at IsOpening first at here.0 here.2 opening)) pays)

pub goods_of_each_payment : StaysLegal → escrow.RecordsLegal → GoodsOfEachPayment
goods_of_each_payment stays legal head cap ruling w setup enrolled opening es at entry key there pays =
    goods_law stays legal head cap ruling w setup enrolled es at entry key there pays
    (behind_setup w.durable (run (real_rules head cap) w es).durable (only_grows (real_rules head cap) w es).durable opening key at entry there pays)
