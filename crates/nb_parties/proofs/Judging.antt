-- What a judge rules on evidence that real parties made.
use Rattle.std.proofs.Common.{◌≡◌, ◌⊎◌, inl, inr, ℕ, List, [], ◌∷◌, ◌++◌, Bool, true, false, ◌+◌, ◌==◌, Result, Ok, Err, Option, Some, None, codes, length, refl, sym, ap, subst, ◌∙◌}
use Rattle.std.specs.Option.{option_or}
use Rattle.std.specs.Prelude.{IsNone, IsSome, option_to_list}
use Rattle.std.proofs.lemmas.Bool.{eq-eqb}
use Rattle.sha2.specs.Sha256.{sha256}
use Rattle.nb_seal.specs.Seal.{OpensAs}
use Rattle.nb_seal.proofs.Opening.{opens_once, length-hmac_of}
use Rattle.nb_units.specs.declared.frames.TheConstants.{ORDER_REQUEST}
use Rattle.nb_units.specs.declared.epoid.Epoid.{Epoid}
use Rattle.nb_body.specs.declared.endorsed.EndorsedOrder.{EndorsedOrder}
use Rattle.nb_book.specs.Searches.{first_from, order_at, order_in, party_in, settles}
use Rattle.nb_book.specs.declared.party.Party.{Party}
use Rattle.nb_entry.specs.declared.entry.Entry.{Entry}
use Rattle.nb_entry.specs.declared.entry.Entry.TheVariants.{Paid, Charged, Refused}
use Rattle.nb_book.specs.declared.kept.Kept.{Kept}
use Rattle.nb_epo.specs.Tags.{order_tag}
use Rattle.nb_epo.specs.declared.order.Order.{Order}
use Rattle.nb_endorse.specs.Differing.{first_difference}
use Rattle.nb_msgs.specs.ReplyBytes.{sealed_receipt}
use Rattle.nb_endorse.specs.Spelling.{IsReceipt, IsSigned}
use Rattle.nb_endorse.specs.Reading.{endorsement_of}
use Rattle.nb_endorse.specs.declared.endorsement.Endorsement.{Endorsement}
use Rattle.nb_endorse.specs.Tags.{signed_receipt, endorsement_digest}
use Rattle.nb_epo.specs.Reading.{order_of, hidden_of}
use Rattle.nb_endorse.specs.declared.receipt.Receipt.{Receipt}
use Rattle.nb_endorse.specs.declared.reply.Reply.TheVariants.{Result as Receipts}
use Rattle.nb_endorse.specs.declared.reply.ReplyKeys.{ReplyKeys}
use Rattle.nb_goods.specs.Collision.{Collision}
use Rattle.nb_goods.specs.Goods.{sealed_goods}
use Rattle.nb_judge.specs.declared.case.Case.{Case}
use Rattle.nb_judge.specs.declared.ruling.Ruling.{Ruling}
use Rattle.nb_judge.specs.declared.ruling.Ruling.TheVariants.{NotPaid, KeyOpens}
use Rattle.nb_judge.specs.Ruling.{Rules, RulesByCode, RulesByGoods, RulesByKey, Shows, differs}
use Rattle.nb_judge.proofs.Once.{shown_receipt_rules}
use Rattle.nb_escrow.specs.Payable.{IsAuthenticOrder}
use Rattle.nb_escrow.specs.Replies.{TellsOrder, NamesOrder, consumer_receipt}
use Rattle.nb_escrow.specs.Orders.{result}
use Rattle.nb_escrow.specs.Verdict.{steps, told, verdict}
use Rattle.nb_escrow.specs.declared.decision.Decision.{Decision}
use Rattle.nb_escrow.specs.declared.head.Head.{Head}
use Rattle.nb_escrow.specs.declared.order.Presented.{Presented}
use Rattle.nb_escrow.proofs.Judging.{Answer, Comes, comes}
use Rattle.nb_escrow.proofs.Replying.{receipts_name_the_order}
use Rattle.nb_merchant.specs.Sending.{OpensOrCollides}
use Rattle.nb_parties.specs.Judged.{IsEvidence, RulesAsEntry, IsJudged, OrdersAreJudged, EndorsedGoodsAreJudged}
use Rattle.nb_parties.proofs.Endorsing.{endorsed_goods_open}

some_is : {A : Type 0} (a b : A) → (let first : Option A = Some a in first ≡ Some b) → a ≡ b
some_is a b e = cc

-- a receipt differs in nothing from what it says itself
names_itself : (r : Receipt) → first_difference r r.epoid r.consumer r.merchant r.product r.price ≡ None
names_itself r = rw (same r.epoid.merchant.0, same r.epoid.moment, same r.epoid.serial, same r.consumer.0, same r.merchant.0, same r.product, same r.price.0) refl
  where
    same : (n : ℕ) → (n == n) ≡ true
    same n = eq-eqb n n refl

-- a receipt that names an order differs from it in nothing
names_is_of : (p : Presented) (at moment : ℕ) (r : Receipt) (c : Case) → c.order ≡ p.order → NamesOrder p.order at moment r → differs c r ≡ None
names_is_of p at moment r c is names =
    ap (λ (o : Order). first_difference r o.epoid o.consumer o.merchant o.product o.price) is
    ∙ sym (λ i. first_difference r (names.4 i) (names.0 i) (names.1 i) (names.2 i) (names.3 i)) ∙ names_itself r

-- by the entry of which the consumer has the receipt
as_entry : (c : Case) (kept : Kept) (r : Receipt) (ruling : Ruling) → consumer_receipt kept ≡ Some r → RulesByCode c r ruling → RulesAsEntry c kept.entry ruling
as_entry c kept r ruling told rules = by_entry kept.entry told rules
  where
    by_entry : (e : Entry) → consumer_receipt (record kept { entry = e }) ≡ Some r → RulesByCode c r ruling → RulesAsEntry c e ruling
    by_entry (Paid digest epoid consumer merchant product price cacct macct moment key) told (inl (refused, is)) = absurd (refused (sym (ap (λ (x : Receipt). x.code) (some_is _ r told))))
    by_entry (Paid digest epoid consumer merchant product price cacct macct moment key) told (inr (k, paid, has, more)) =
        subst (λ (x : List ℕ). RulesByGoods c x ruling) (sym (some_is key k (ap (λ (x : Receipt). x.key) (some_is _ r told) ∙ has))) more
    by_entry (Charged digest epoid consumer merchant product price fee cacct macct moment key) told (inl (refused, is)) = absurd (refused (sym (ap (λ (x : Receipt). x.code) (some_is _ r told))))
    by_entry (Charged digest epoid consumer merchant product price fee cacct macct moment key) told (inr (k, paid, has, more)) =
        subst (λ (x : List ℕ). RulesByGoods c x ruling) (sym (some_is key k (ap (λ (x : Receipt). x.key) (some_is _ r told) ∙ has))) more
    by_entry (Refused digest epoid consumer merchant product price code a b moment) told (inl (refused, is)) = is ∙ ap NotPaid (sym (ap (λ (x : Receipt). x.code) (some_is _ r told)))
    by_entry (Refused digest epoid consumer merchant product price code a b moment) told (inr (k, paid, has, more)) = let none = ap (λ (x : Receipt). x.key) (some_is _ r told) ∙ has in absurd cc
    by_entry other told rules = absurd cc

-- what an entry settles that is found behind entries of which none does
found_last : (id : Epoid) (e : Entry) (k : Kept) (at : ℕ) (H : List Entry) → first_from (order_at id) at H ≡ None
    → first_from (order_at id) at (H ++ e ∷ []) ≡ Some k → (k.entry ≡ e) × (settles id e ≡ true)
found_last id e k at [] none is = by_settles (settles id e) refl
  where
    by_settles : (b : Bool) → settles id e ≡ b → (k.entry ≡ e) × (settles id e ≡ true)
    by_settles true so = (cc, so)
    by_settles false so = absurd cc
found_last id e k at (x ∷ H) none is = by_first (order_at id at x) refl (found_last id e k (at + 1) H)
  where
    by_first : (o : Option Kept) → order_at id at x ≡ o
        → (first_from (order_at id) (at + 1) H ≡ None → first_from (order_at id) (at + 1) (H ++ e ∷ []) ≡ Some k → (k.entry ≡ e) × (settles id e ≡ true))
        → (k.entry ≡ e) × (settles id e ≡ true)
    by_first (Some other) so rest = absurd cc
    by_first None so rest = rest (sym (ap (λ (o : Option Kept). option_or o (first_from (order_at id) (at + 1) H)) so) ∙ none)
        (sym (ap (λ (o : Option Kept). option_or o (first_from (order_at id) (at + 1) (H ++ e ∷ []))) so) ∙ is)

ok_is : {A E : Type 0} (a b : A) → (let first : Result A E = Ok a in first ≡ Ok b) → a ≡ b
ok_is a b e = cc

-- what is read of a seal is one
read_once : {A E : Type 0} (reading : List ℕ → Result A E) (key label bytes : List ℕ) (a b : A) → OpensAs reading key label bytes (Ok a) → OpensAs reading key label bytes (Ok b) → a ≡ b
read_once reading key label bytes a b first second =
    ok_is a b (sym first.2 ∙ ap reading (opens_once key label bytes first.0 second.0 first.1 second.1) ∙ second.2)

-- a body presents one order
presented_once : (H : List Entry) (body : List ℕ) (p q : Presented) → IsAuthenticOrder H body p → IsAuthenticOrder H body q → p ≡ q
presented_once H body p q a b =
    let request : a.request ≡ b.request = ok_is a.request b.request (sym a.signed.ordered.endorsed.asked.spelled ∙ b.signed.ordered.endorsed.asked.spelled) in
    let merchant : p.merchant ≡ q.merchant = some_is p.merchant q.merchant
    (sym a.signed.ordered.endorsed.asked.enrolled ∙ ap (λ (r : EndorsedOrder). party_in H r.merchant) request ∙ b.signed.ordered.endorsed.asked.enrolled) in
    let endorsement : p.endorsement ≡ q.endorsement =
    read_once endorsement_of q.merchant.key (codes "endo") b.request.sealed p.endorsement q.endorsement
    (subst (λ (r : EndorsedOrder). OpensAs endorsement_of q.merchant.key (codes "endo") r.sealed (Ok p.endorsement)) request
    (subst (λ (m : Party). OpensAs endorsement_of m.key (codes "endo") a.request.sealed (Ok p.endorsement)) merchant a.signed.ordered.endorsed.opens))
    b.signed.ordered.endorsed.opens in
    let order : p.order ≡ q.order = ok_is p.order q.order (sym a.signed.ordered.spelled ∙ ap (λ (e : Endorsement). order_of e.order) endorsement ∙ b.signed.ordered.spelled) in
    let consumer : p.consumer ≡ q.consumer = some_is p.consumer q.consumer
    (sym a.signed.enrolled ∙ ap (λ (o : Order). party_in H o.consumer) order ∙ b.signed.enrolled) in
    let hidden : p.hidden ≡ q.hidden =
    read_once hidden_of q.consumer.key (codes "hide") q.order.hidden p.hidden q.hidden
    (subst (λ (o : Order). OpensAs hidden_of q.consumer.key (codes "hide") o.hidden (Ok p.hidden)) order
    (subst (λ (m : Party). OpensAs hidden_of m.key (codes "hide") p.order.hidden (Ok p.hidden)) consumer a.opens))
    b.opens in
    let digest : p.digest ≡ q.digest = a.hashed ∙ ap endorsement_digest endorsement ∙ sym b.hashed in
    λ i. record { merchant = merchant i; consumer = consumer i; endorsement = endorsement i; digest = digest i; order = order i; hidden = hidden i }

-- the order for which a verdict records an entry is new, and the reply has its parties' keys
abbrev IsNewFor : List Entry → Head → List ℕ → Decision → Type 0
IsNewFor H head body d =
    (p : Presented) × IsAuthenticOrder H body p × IsNone (order_in H p.order.epoid) × (d.keys.house ≡ head.house) × (d.keys.second ≡ p.consumer.key)

new_for : (H : List Entry) (head : Head) (most : ℕ) (body : List ℕ) (moment : ℕ) (r : Answer) (entry : Entry)
    → Comes H head most ORDER_REQUEST body moment r → (told r).entry ≡ Some entry → IsNewFor H head body (told r)
new_for H head most body moment (Err why) entry untrue some = absurd cc
new_for H head most body moment (Ok d) entry (inl (is, (p, authentic, inl (s, held, same, d_is)))) some =
    absurd (nothing d (result head p s None) d_is refl)
  where
    nothing : (x y : Decision) → x ≡ y → y.entry ≡ None → ⊥
    nothing x y same none = absurd cc
new_for H head most body moment (Ok d) entry (inl (is, (p, authentic, inr (new, room, d_is)))) some =
    (p, authentic, new, ap (λ (x : Decision). x.keys.house) d_is, ap (λ (x : Decision). x.keys.second) d_is)
new_for H head most body moment (Ok d) entry (inr (inl (is, more))) some = absurd cc
new_for H head most body moment (Ok d) entry (inr (inr (inl (is, more)))) some = absurd cc
new_for H head most body moment (Ok d) entry (inr (inr (inr (inl (is, more))))) some = absurd cc
new_for H head most body moment (Ok d) entry (inr (inr (inr (inr (is, more))))) some = absurd cc

none_is : {A : Type 0} (o : Option A) → IsNone o → o ≡ None
none_is None none = refl
none_is (Some a) none = absurd cc

pub orders_are_judged : OrdersAreJudged
orders_are_judged H head most body moment merchant consumer keys entry is within =
    let tells : TellsOrder H body moment (Some entry) (Receipts merchant consumer) =
    subst (λ (d : Decision). TellsOrder H body moment d.entry d.reply) is (receipts_name_the_order H head most ORDER_REQUEST body moment) in
    let now : IsNewFor H head body (record { reply = Receipts merchant consumer; keys = keys; entry = Some entry }) =
    subst (IsNewFor H head body) is
    (new_for H head most body moment (steps H head most ORDER_REQUEST body moment) entry (comes H head most ORDER_REQUEST body moment) (ap (λ (d : Decision). d.entry) is)) in
    let p : Presented = tells.0 in
    let same : now.0 ≡ p = presented_once H body now.0 p now.1 tells.2 in
    let new : IsNone (order_in H p.order.epoid) = subst (λ (x : Presented). IsNone (order_in H x.order.epoid)) same now.2 in
    let last : (tells.1.entry ≡ entry) × (settles p.order.epoid entry ≡ true) =
    found_last p.order.epoid entry tells.1 0 H (none_is (order_in H p.order.epoid) new) tells.3 in
    let second : keys.second ≡ p.consumer.key = now.4 ∙ ap (λ (x : Presented). x.consumer.key) same in
    record {
      order = p;
      authentic = tells.2;
      new = new;
      settles = last.1;
      keyed = (now.3, second);
      ruled = λ c ruling evidence rules.
          subst (λ (e : Entry). RulesAsEntry c e ruling) last.0
          (as_entry c tells.1 consumer ruling tells.6
          (shown_receipt_rules c consumer ruling (ap (λ (o : Order). o.tag) evidence.order ∙ tells.2.signed.signed ∙ sym (λ i. order_tag ((evidence.key ∙ second) i) (evidence.order i)))
          (record {
            lawful = record { receipt = within; tag = length-hmac_of c.house _ };
            opens = evidence.receipt ∙ sym (λ i. sealed_receipt (evidence.house i) (evidence.key i) consumer);
          })
          (names_is_of p (length H) moment consumer c evidence.order (tells.7 refl).1) rules));
    }

pub endorsed_goods_are_judged : EndorsedGoodsAreJudged
endorsed_goods_are_judged shop w a merchant sealed follow done is =
    let kept = endorsed_goods_open shop w a merchant sealed follow done is in
    (kept.0, λ c ruling same right rules. by_goods kept.0.endorsement.key kept.0.product.goods c ruling (kept.1 c.sealed (right ∙ same)) right rules)
  where
    by_goods : (key goods : List ℕ) (c : Case) (ruling : Ruling) → OpensOrCollides key goods c.sealed → sha256 c.sealed ≡ c.order.checksum → RulesByGoods c key ruling → (ruling ≡ KeyOpens (length goods)) ⊎ Collision c.sealed (sealed_goods key goods)
    by_goods key goods c ruling (inr collides) right rules = inr collides
    by_goods key goods c ruling (inl opens) right (inl (other, is)) = absurd (other right)
    by_goods key goods c ruling (inl opens) right (inr (same, inl (shut, is))) = absurd (shut goods opens)
    by_goods key goods c ruling (inl opens) right (inr (same, inr (text, opened, is))) =
        inl (is ∙ ap (λ (x : List ℕ). KeyOpens (length x)) (opens_once key (codes "good") c.sealed text goods opened opens))
