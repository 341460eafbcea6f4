-- How long what is sent is, and what is kept.
use Rattle.std.proofs.Common.{◌≡◌, ℕ, ◌+◌, ◌≤◌, List, [], ◌∷◌, ◌++◌, length, length-append, drop, codes, refl, arith}
use Rattle.std.proofs.lemmas.List.{length-take}
use Rattle.sha2.proofs.Facts256.{length-sha256}
use Rattle.sha2.specs.Sha256.{sha256}
use Rattle.nb_units.specs.declared.epoid.Epoid.{Epoid}
use Rattle.nb_units.specs.Fields.{be4, be8, sized}
use Rattle.nb_units.specs.Epoid.{epoid_bytes}
use Rattle.nb_units.specs.declared.limits.TheConstants.{MAX_ORDER}
use Rattle.nb_seal.specs.Seal.{seal_of}
use Rattle.nb_seal.proofs.Opening.{length-seal_of, length-hmac_of}
use Rattle.nb_body.specs.declared.quote.Quote.{Quote}
use Rattle.nb_body.specs.declared.limits.TheConstants.{MAX_ENDORSED}
use Rattle.nb_body.specs.Spelling.{quote_bytes, goods_head_bytes}
use Rattle.nb_endorse.specs.Spelling.{endorsement_bytes}
use Rattle.nb_goods.specs.Goods.{part_at}
use Rattle.nb_goods.specs.declared.limits.TheConstants.{PART_BYTES}
use Rattle.nb_msgs.specs.declared.lengths.TheConstants.{MAX_SEALED_QUOTE, MAX_SEALED_HEAD}
use Rattle.nb_units.specs.declared.ids.Price.{Price}
use Rattle.nb_stall.specs.declared.limits.TheConstants.{QUOTED_ITEM, DELIVERED_ITEM, ENDORSED_ITEM, SETTLED_ITEM}
use Rattle.nb_stall.specs.declared.purchase.Purchase.{Purchase}
use Rattle.nb_stall.specs.declared.stall.Stall.{Stall}
use Rattle.nb_stall.specs.declared.item.Item.TheVariants.{Quoted, Delivered, Endorsed, Settled}
use Rattle.nb_stall.specs.Spelling.{item_bytes}
use Rattle.nb_stall.specs.Laws.{ItemIsShort}
use Rattle.nb_stall.specs.Messages.{key_of, head_of, endorsement_for}

quote_long : (q : Quote) → length (quote_bytes q) ≡ 20
unfolding quote_bytes
quote_long q = refl

pub quote_short : (session : List ℕ) (q : Quote) → length (seal_of session (codes "m002") (quote_bytes q)) ≤ MAX_SEALED_QUOTE
quote_short session q = omega (arith, length-seal_of session (codes "m002") (quote_bytes q), quote_long q)

head_long : (transaction : ℕ) (epoid : Epoid) (sealed : List ℕ) (place : ℕ) → length (goods_head_bytes (head_of transaction epoid sealed place)) ≡ 72
unfolding goods_head_bytes epoid_bytes
head_long transaction epoid sealed place =
    let front = be8 transaction ++ epoid_bytes epoid ++ be8 (length sealed) ++ be8 place in
    let long : length front ≡ 40 = refl in
    omega (arith, length-append front (sha256 sealed), length-sha256 sealed, long)

pub goods_short : (session : List ℕ) (transaction : ℕ) (epoid : Epoid) (sealed : List ℕ) (place : ℕ)
    → (length (seal_of session (codes "m004") (goods_head_bytes (head_of transaction epoid sealed place))) ≤ MAX_SEALED_HEAD) × (length (part_at sealed place) ≤ PART_BYTES)
goods_short session transaction epoid sealed place = (
  omega (arith, length-seal_of session (codes "m004") (goods_head_bytes (head_of transaction epoid sealed place)), head_long transaction epoid sealed place),
  omega (arith, length-take PART_BYTES (drop place sealed)),
)

endorsement_long : (stall : Stall) (epoid : Epoid) (order : List ℕ) → length (endorsement_bytes (endorsement_for stall epoid order)) ≡ 44 + length order
unfolding endorsement_bytes
endorsement_long stall epoid order =
    let behind = be4 stall.acct.0 in
    omega (arith, length-append (sized order ++ behind ++ sized []) (key_of stall epoid.serial), length-append (sized order ++ behind) (sized []), length-append (sized order) behind, length-append (be4 (length order)) order, length-hmac_of stall.master (codes "goods" ++ (be4 stall.id.0 ++ be4 epoid.serial)))

pub endorsement_short : (stall : Stall) (epoid : Epoid) (order : List ℕ) → length order ≤ MAX_ORDER
    → length (seal_of stall.key (codes "endo") (endorsement_bytes (endorsement_for stall epoid order))) ≤ MAX_ENDORSED
endorsement_short stall epoid order short =
    omega (arith, short, length-seal_of stall.key (codes "endo") (endorsement_bytes (endorsement_for stall epoid order)), endorsement_long stall epoid order)

-- ---- what is kept

-- the kind of an item and its purchase
abbrev front_of : ℕ → Purchase → List ℕ
front_of kind p = (kind ∷ []) ++ be4 p.consumer.0 ++ be8 p.transaction

-- a text behind them
text_long : (kind : ℕ) (p : Purchase) (text : List ℕ) → length (front_of kind p ++ sized text) ≡ 17 + length text
text_long kind p text =
    let front : length (front_of kind p) ≡ 13 = refl in
    let number : length (be4 (length text)) ≡ 4 = refl in
    omega (arith, length-append (front_of kind p) (sized text), length-append (be4 (length text)) text, front, number)

quoted_long : (p : Purchase) (product : ℕ) (price : Price) (request : List ℕ) → length (front_of QUOTED_ITEM p ++ be4 product ++ be8 price.0 ++ request) ≡ 25 + length request
quoted_long p product price request =
    let front = front_of QUOTED_ITEM p ++ be4 product ++ be8 price.0 in
    let long : length front ≡ 25 = refl in
    omega (arith, length-append front request, long)

delivered_long : (p : Purchase) (epoid : Epoid) (checksum : List ℕ) → length (front_of DELIVERED_ITEM p ++ epoid_bytes epoid ++ checksum) ≡ 29 + length checksum
unfolding epoid_bytes
delivered_long p epoid checksum =
    let front = front_of DELIVERED_ITEM p ++ epoid_bytes epoid in
    let long : length front ≡ 29 = refl in
    omega (arith, length-append front checksum, long)

pub item_is_short : ItemIsShort
unfolding item_bytes
item_is_short (Quoted p product price request) is = omega (arith, is.3, quoted_long p product price request)
item_is_short (Delivered p epoid checksum) is = omega (arith, is.2, delivered_long p epoid checksum)
item_is_short (Endorsed p order) is = omega (arith, is.1, text_long ENDORSED_ITEM p order)
item_is_short (Settled p part) is = omega (arith, is.1, text_long SETTLED_ITEM p part)
