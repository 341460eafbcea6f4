-- The world of a lawful set-up is as laws over real parties premise, and so they hold of it.
use Rattle.std.proofs.Common.{◌≡◌, ℕ, zero, suc, Bool, true, false, List, [], ◌∷◌, ◌++◌, map, Option, Some, None, refl, subst}
use Rattle.std.specs.Prelude.{◌==◌, ◌&&◌, position, is_none}
use Rattle.std.specs.List.{slice_get}
use Rattle.std.specs.Str.{bytes_eq}
use Rattle.std.proofs.lemmas.Bool.{false≢true}
use Rattle.std.proofs.lemmas.Slice.Eq.{bytes_eq-Decides}
use Rattle.nb_units.specs.declared.ids.AcctId.{AcctId}
use Rattle.nb_entry.specs.declared.entry.Entry.{Entry}
use Rattle.nb_entry.specs.declared.entry.TheConstants.{MERCHANT}
use Rattle.nb_book.specs.declared.party.Party.{Party}
use Rattle.nb_book.specs.Laws.{StaysLegal}
use Rattle.nb_book.specs.Searches.{party_in}
use Rattle.nb_price.specs.Products.{Product}
use Rattle.nb_stall.specs.declared.stall.Stall.{Stall}
use Rattle.nb_wallet.specs.declared.wallet.Wallet.{Wallet}
use Rattle.nb_consumer.specs.Known.{AllSo}
use Rattle.nb_consumer.specs.State.{Buyer, new_buyer}
use Rattle.nb_merchant.specs.Keeping.{AllFollow}
use Rattle.nb_merchant.specs.Shop.{Shop}
use Rattle.nb_escrow.specs.Laws as escrow
use Rattle.nb_world.specs.Laws.{IsSetUp}
use Rattle.nb_world.proofs.Serving.{world_law}
use Rattle.nb_world.proofs.Settling.{house_records_legal}
use Rattle.nb_parties.specs.Rules.{shown}
use Rattle.nb_parties.specs.Goods.{IsEnrolled}
use Rattle.nb_parties.proofs.Buying.{buyers_hold_goods}
use Rattle.nb_parties.proofs.Ending.{ends_law}
use Rattle.nb_parties.proofs.Paying.{goods_law}
use Rattle.nb_simulator.specs.declared.setup.Setup.{Setup}
use Rattle.nb_simulator.specs.Setups.{IsLawful, SellersFit, is_enrolled, is_nonce, shop_of, stalls_may, world_of}
use Rattle.nb_simulator.specs.Worlds.{rules_of}
use Rattle.nb_simulator.specs.Laws.{head_in, SetUpsMeet, WorldsAreLawful, PaymentsOpenGoods, PaidHoldsGoods, PurchasesEndAsEntriesSay}

-- ---- merchants

three : (a b c : Bool) → (a && b && c) ≡ true → (a ≡ true) × (c ≡ true)
three true true c e = (refl, e)
three true false c e = absurd (false≢true e)
three false b c e = absurd (false≢true e)

last_of_four : (a b c d : Bool) → (a && b && c && d) ≡ true → d ≡ true
last_of_four true true true d e = e
last_of_four true true false d e = absurd (false≢true e)
last_of_four true false c d e = absurd (false≢true e)
last_of_four false b c d e = absurd (false≢true e)

party_is : (o : Option Party) (acct : AcctId) (key : List ℕ) → is_enrolled o MERCHANT acct None key ≡ true → (p : Party) × (o ≡ Some p) × (p.key ≡ key)
party_is None acct key e = absurd (false≢true e)
party_is (Some p) acct key e = (p, refl, (bytes_eq-Decides p.key key).0 (last_of_four (p.role == MERCHANT) (p.acct.0 == acct.0) (is_nonce None p.nonce) (bytes_eq p.key key) e))

the_same : (x y : Shop) → ◌≡◌ {A = Option Shop} (Some x) (Some y) → x ≡ y
the_same x y e = cc

none_there : (x : Shop) {B : Type 0} → ◌≡◌ {A = Option Shop} None (Some x) → B
none_there x e = absurd cc

sellers_enrolled : (H : List Entry) (before : List Shop) (sellers : List (Stall × List Product)) → stalls_may H before sellers ≡ true → SellersFit sellers
    → (i : ℕ) (shop : Shop) → slice_get (map shop_of sellers) i ≡ Some shop → IsEnrolled H shop.stall × AllFollow shop
sellers_enrolled H before [] may fit i shop there = none_there shop there
sellers_enrolled H before (seller ∷ sellers) may fit zero shop there =
    let parts = three (is_enrolled (party_in H seller.0.id) MERCHANT seller.0.acct None seller.0.key) (is_none (position (λ (s : Shop). s.stall.id.0 == seller.0.id.0) before)) (stalls_may H (before ++ shop_of seller ∷ []) sellers) may in
    let party = party_is (party_in H seller.0.id) seller.0.acct seller.0.key parts.0 in
    subst (λ (s : Shop). IsEnrolled H s.stall × AllFollow s) (the_same (shop_of seller) shop there)
    (record { party = party.0; found = party.1; key = party.2; id = fit.0.0; acct = fit.0.1 }, refl)
sellers_enrolled H before (seller ∷ sellers) may fit (suc i) shop there =
    let parts = three (is_enrolled (party_in H seller.0.id) MERCHANT seller.0.acct None seller.0.key) (is_none (position (λ (s : Shop). s.stall.id.0 == seller.0.id.0) before)) (stalls_may H (before ++ shop_of seller ∷ []) sellers) may in
    sellers_enrolled H (before ++ shop_of seller ∷ []) sellers parts.1 fit.1 i shop there

-- ---- consumers

no_buyer : (x : Buyer) {B : Type 0} → ◌≡◌ {A = Option Buyer} None (Some x) → B
no_buyer x e = absurd cc

same_buyer : (x y : Buyer) → ◌≡◌ {A = Option Buyer} (Some x) (Some y) → x ≡ y
same_buyer x y e = cc

buyers_new : (ws : List Wallet) (i : ℕ) (b : Buyer) → slice_get (map new_buyer ws) i ≡ Some b → AllSo b
buyers_new [] i b there = no_buyer b there
buyers_new (w ∷ ws) zero b there = subst AllSo (same_buyer (new_buyer w) b there) tt
buyers_new (w ∷ ws) (suc i) b there = buyers_new ws i b there

-- ---- all of it

pub begins : (s : Setup) → IsLawful s → IsSetUp (world_of s).world
begins s is = record { legal = is.legal.legal; same = refl; no_packets = refl; no_calls = refl; no_turn = refl; no_origins = refl; none_acknowledged = refl }

pub set_ups_meet : SetUpsMeet
set_ups_meet s is fit = record {
  ruling = is.ruling;
  begins = begins s is;
  merchants = sellers_enrolled s.entries.items [] s.merchants.items is.merchants fit;
  consumers = buyers_new s.consumers.items;
}

pub worlds_are_lawful : StaysLegal → escrow.RecordsLegal → WorldsAreLawful
worlds_are_lawful stays records s is es =
    let p = rules_of (world_of s) in
    world_law stays p (world_of s).world (house_records_legal records p shown (world_of s).head s.cap (λ entries request. refl) is.ruling) (begins s is) es

pub goods_open : StaysLegal → escrow.RecordsLegal → PaymentsOpenGoods
goods_open stays records s is fit es = goods_law stays records (world_of s).head s.cap is.ruling (world_of s).world (begins s is) (set_ups_meet s is fit).merchants es

pub ends_told : StaysLegal → escrow.RecordsLegal → PurchasesEndAsEntriesSay
ends_told stays records s is es more id k transaction signed =
    ends_law {M = Shop} stays records (rules_of (world_of s)) (world_of s).head s.cap is.ruling (world_of s).world (begins s is) es more id k transaction signed

pub goods_held : PaidHoldsGoods
goods_held s = buyers_hold_goods (head_in s) s.cap (world_of s).world (buyers_new s.consumers.items)
