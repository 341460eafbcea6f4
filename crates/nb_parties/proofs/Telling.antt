-- What a reply of the house tells of a receipt: it is the one that a settlement among the durable entries gives the party that was told.
use Rattle.std.proofs.Common.{◌≡◌, ◌≢◌, inl, inr, ℕ, zero, suc, Bool, true, false, cond, List, [], ◌∷◌, ◌++◌, take, drop, Option, None, Some, Result, Ok, refl, sym, ap, subst, ◌∙◌, append-nil, take-append-drop}
use Rattle.std.proofs.lemmas.Bool.{eqb-true, eq-eqb, false_from_ne_true}
use Rattle.std.specs.Prelude.{◌==◌, codes}
use Rattle.std.specs.List.{slice_get}
use Rattle.std.specs.Option.{option_to_list, option_and_then}
use Rattle.nb_units.specs.declared.epoid.Epoid.{Epoid}
use Rattle.nb_units.specs.declared.ids.PartyId.{PartyId}
use Rattle.nb_body.specs.declared.query.StatusQuery.{StatusQuery}
use Rattle.nb_entry.specs.declared.entry.Entry.{Entry}
use Rattle.nb_entry.specs.declared.entry.Entry.TheVariants as entries
use Rattle.nb_entry.specs.declared.entry.TheConstants.{CONSUMER, MERCHANT}
use Rattle.nb_book.specs.declared.kept.Kept.{Kept}
use Rattle.nb_book.specs.Searches.{settles, order_in}
use Rattle.nb_book.proofs.Counting.{same_epoid-true}
use Rattle.nb_endorse.specs.Reading.{signed_of}
use Rattle.nb_endorse.specs.Spelling.{signed_bytes}
use Rattle.nb_endorse.specs.Tags.{signed_receipt}
use Rattle.nb_endorse.specs.declared.receipt.Receipt.{Receipt}
use Rattle.nb_endorse.specs.declared.receipt.Signed.{Signed}
use Rattle.nb_endorse.specs.declared.reply.Reply.{Reply}
use Rattle.nb_endorse.specs.declared.reply.Reply.TheVariants.{Result as Receipts, Grant, Done, Status, Refused as Told}
use Rattle.nb_endorse.specs.declared.reply.ReplyKeys.{ReplyKeys}
use Rattle.nb_msgs.specs.ReplyBytes.{sealed_receipt, status_frame, told_status}
use Rattle.nb_msgs.specs.StatusText.{text_bytes, text_of}
use Rattle.nb_msgs.specs.Tests.{opened}
use Rattle.nb_escrow.specs.declared.decision.Decision.{Decision}
use Rattle.nb_escrow.specs.declared.head.Head.{Head}
use Rattle.nb_escrow.specs.declared.settlement.Settlement.{Settlement}
use Rattle.nb_escrow.specs.Replies.{HasKeysOfParties, TellsOrder, TellsStatus, IsReceiptFor}
use Rattle.nb_escrow.specs.Settlements.{settlement_at, settlement_of, settlement_in, receipt_in_role, receipt_of_party}
use Rattle.nb_escrow.specs.Verdict.{verdict}
use Rattle.nb_escrow.proofs.Lasts.{order_stays}
use Rattle.nb_escrow.proofs.Replying.{keys_are_the_parties, receipts_name_the_order, status_tells_the_order}
use Rattle.nb_escrow.proofs.Settling.{settles_found}
use Rattle.nb_world.proofs.Chains.{same_some}
use Rattle.nb_world.proofs.Receipting.{receipts_of_settlements}
use Rattle.nb_parties.specs.Ends.{TellsReceipt}
use Rattle.nb_parties.proofs.Spelled.{opened_is, status_receipt}

-- the receipt is read of the bytes of what a settlement gives the party in a role, and that is what it gives this party
pub record GivenTo (house : List ℕ) (entries : List Entry) (whom : PartyId) (s : Signed) : Type 0 where
  pub name : Epoid
  pub role : ℕ
  pub settlement : Settlement
  pub settled : settlement_in entries name ≡ Some settlement
  pub its : settlement.epoid ≡ name
  pub given : receipt_of_party whom (Some settlement) ≡ Some (receipt_in_role role settlement)
  pub bytes : signed_of (signed_bytes (signed_receipt house (receipt_in_role role settlement))) ≡ Ok s

-- ---- the entries that the decision was taken over, and its own

-- the list begins with those before a place and what stands there
front_with : (all : List Entry) (at : ℕ) (e : Entry) → slice_get all at ≡ Some e → (more : List Entry) × (all ≡ (take at all ++ e ∷ []) ++ more)
front_with [] at e there = absurd cc
front_with (x ∷ all) zero e there = let same : x ≡ e = same_some x e there in (all, ap (λ (y : Entry). y ∷ all) same)
front_with (x ∷ all) (suc at) e there = let rest = front_with all at e there in (rest.0, ap (λ ys. x ∷ ys) rest.1)

front_is : (all : List Entry) (at : ℕ) (o : Option Entry) → ((e : Entry) → o ≡ Some e → slice_get all at ≡ Some e) → (more : List Entry) × (all ≡ (take at all ++ option_to_list o) ++ more)
front_is all at None there = (drop at all, sym (ap (λ xs. xs ++ drop at all) (append-nil (take at all)) ∙ take-append-drop at all))
front_is all at (Some e) there = front_with all at e (there e refl)

-- ---- a settlement

settled_name : (at : ℕ) (e : Entry) (name : Epoid) (s : Settlement) → settles name e ≡ true → settlement_at at e ≡ Some s → s.epoid ≡ name
settled_name at (entries.Enrol id role acct nonce key) name s settles_it is = absurd cc
settled_name at (entries.Fund acct amount reference) name s settles_it is = absurd cc
settled_name at (entries.Paid digest epoid consumer merchant product price cacct macct moment key) name s settles_it is = sym (ap (λ (x : Settlement). x.epoid) (same_some _ s is)) ∙ same_epoid-true epoid name settles_it
settled_name at (entries.Charged digest epoid consumer merchant product price fee cacct macct moment key) name s settles_it is = sym (ap (λ (x : Settlement). x.epoid) (same_some _ s is)) ∙ same_epoid-true epoid name settles_it
settled_name at (entries.Refused digest epoid consumer merchant product price code a b moment) name s settles_it is = sym (ap (λ (x : Settlement). x.epoid) (same_some _ s is)) ∙ same_epoid-true epoid name settles_it

-- a settlement that is found is of the identifier that it was looked for by
name_is : (all : List Entry) (name : Epoid) (kept : Kept) (s : Settlement) → order_in all name ≡ Some kept → settlement_in all name ≡ Some s → s.epoid ≡ name
unfolding settlement_in
name_is all name kept s found is =
    let at : settlement_at kept.at kept.entry ≡ Some s = sym (ap (λ (o : Option Kept). option_and_then settlement_of o) found) ∙ is in
    settled_name kept.at kept.entry name s (settles_found name 0 all kept found) at

to_consumer : (s : Settlement) (whom : PartyId) → (receipt_in_role CONSUMER s).consumer ≡ whom → receipt_of_party whom (Some s) ≡ Some (receipt_in_role CONSUMER s)
unfolding receipt_in_role
to_consumer s whom is =
    ap (λ (b : Bool). cond b (Some (receipt_in_role CONSUMER s)) (cond (s.merchant.0 == whom.0) (Some (receipt_in_role MERCHANT s)) None)) (eq-eqb s.consumer.0 whom.0 (ap (λ (x : PartyId). x.0) is))

number_is : (a b : PartyId) → a.0 ≡ b.0 → a ≡ b
number_is a b is = ap (λ (n : ℕ). let id : PartyId = record { 0 = n } in id) is

to_merchant : (s : Settlement) (whom : PartyId) → (receipt_in_role MERCHANT s).consumer ≢ whom → (receipt_in_role MERCHANT s).merchant ≡ whom
    → receipt_of_party whom (Some s) ≡ Some (receipt_in_role MERCHANT s)
unfolding receipt_in_role
to_merchant s whom other is =
    let first : (s.consumer.0 == whom.0) ≡ false = false_from_ne_true (s.consumer.0 == whom.0) (λ same. other (number_is s.consumer whom (eqb-true s.consumer.0 whom.0 same))) in
    ap (λ (b : Bool). cond b (Some (receipt_in_role CONSUMER s)) (cond (s.merchant.0 == whom.0) (Some (receipt_in_role MERCHANT s)) None)) first
    ∙ ap (λ (b : Bool). cond b (Some (receipt_in_role MERCHANT s)) None) (eq-eqb s.merchant.0 whom.0 (ap (λ (x : PartyId). x.0) is))

-- ---- replies

-- the consumer's part of a result
result_given : (all : List Entry) (head : Head) (body : List ℕ) (moment at : ℕ) (entry : Option Entry) (keys : ReplyKeys) (merchant consumer : Receipt) (key : List ℕ) (whom : PartyId) (s : Signed)
    → ((e : Entry) → entry ≡ Some e → slice_get all at ≡ Some e)
    → TellsOrder (take at all) body moment entry (Receipts merchant consumer) → HasKeysOfParties (take at all) head body (Receipts merchant consumer) keys
    → TellsReceipt key whom body keys (Receipts merchant consumer) s → GivenTo head.house all whom s
result_given all head body moment at entry keys merchant consumer key whom s recorded names parties tells =
    let front = front_is all at entry recorded in
    let name : Epoid = names.0.order.epoid in
    let found : order_in all name ≡ Some names.1 =
    subst (λ es. order_in es name ≡ Some names.1) (sym front.1) (order_stays (take at all ++ option_to_list entry) front.0 name names.1 names.3) in
    let of = (receipts_of_settlements all name names.1 consumer found).0 names.6 in
    let house : keys.house ≡ head.house = ap (λ (k : ReplyKeys). k.house) parties.2 in
    let plain : signed_of (signed_bytes (signed_receipt keys.house consumer)) ≡ Ok s =
    opened_is signed_of key (codes "rcpt") (signed_bytes (signed_receipt keys.house consumer)) s
    (subst (λ (k : List ℕ). opened signed_of key (codes "rcpt") (sealed_receipt keys.house k consumer) ≡ Ok s) tells.1 tells.2) in
    record {
      name = name;
      role = CONSUMER;
      settlement = of.0;
      settled = of.1;
      its = name_is all name names.1 of.0 found of.1;
      given = to_consumer of.0 whom (sym (ap (λ (r : Receipt). r.consumer) of.2) ∙ tells.0);
      bytes = subst (λ (h : List ℕ). signed_of (signed_bytes (signed_receipt h (receipt_in_role CONSUMER of.0))) ≡ Ok s) house
          (subst (λ (r : Receipt). signed_of (signed_bytes (signed_receipt keys.house r)) ≡ Ok s) of.2 plain);
    }

-- a receipt that a settlement gives in a role, to this party
record IsGiven (all : List Entry) (name : Epoid) (whom : PartyId) (r : Receipt) : Type 0 where
  role : ℕ
  settlement : Settlement
  settled : settlement_in all name ≡ Some settlement
  its : settlement.epoid ≡ name
  given : receipt_of_party whom (Some settlement) ≡ Some (receipt_in_role role settlement)
  is : r ≡ receipt_in_role role settlement

role_given : (all : List Entry) (name : Epoid) (whom : PartyId) (kept : Kept) (r : Receipt) → order_in all name ≡ Some kept → IsReceiptFor whom kept r → IsGiven all name whom r
role_given all name whom kept r found (inl own) =
    let of = (receipts_of_settlements all name kept r found).0 own.0 in
    record {
      role = CONSUMER;
      settlement = of.0;
      settled = of.1;
      its = name_is all name kept of.0 found of.1;
      given = to_consumer of.0 whom (sym (ap (λ (x : Receipt). x.consumer) of.2) ∙ own.1);
      is = of.2;
    }
role_given all name whom kept r found (inr seller) =
    let of = (receipts_of_settlements all name kept r found).1 seller.0 in
    record {
      role = MERCHANT;
      settlement = of.0;
      settled = of.1;
      its = name_is all name kept of.0 found of.1;
      given = to_merchant of.0 whom (λ same. seller.1 (ap (λ (x : Receipt). x.consumer) of.2 ∙ same)) (sym (ap (λ (x : Receipt). x.merchant) of.2) ∙ seller.2);
      is = of.2;
    }

query_same : (r : Result StatusQuery ℕ) (a b : StatusQuery) → r ≡ Ok a → r ≡ Ok b → a ≡ b
query_same r a b first second = cc

-- the receipt of a status
status_given : (all : List Entry) (head : Head) (body : List ℕ) (at : ℕ) (keys : ReplyKeys) (place : ℕ) (order : Epoid) (receipt : Option Receipt) (key : List ℕ) (whom : PartyId) (s : Signed)
    → TellsStatus (take at all) body (Status place order receipt) → HasKeysOfParties (take at all) head body (Status place order receipt) keys
    → TellsReceipt key whom body keys (Status place order receipt) s → GivenTo head.house all whom s
status_given all head body at keys place order receipt key whom s names parties tells = by receipt refl
  where
    house : keys.house ≡ head.house
    house = ap (λ (k : ReplyKeys). k.house) parties.2

    -- what the house told
    text : text_of (text_bytes (told_status keys.house place order receipt)) ≡ Ok tells.2.0
    text = opened_is text_of key (codes "stat") (text_bytes (told_status keys.house place order receipt)) tells.2.0
        (subst (λ (k : List ℕ). opened text_of key (codes "stat") (status_frame (record { house = keys.house; first = k; second = keys.second }) place order receipt).body ≡ Ok tells.2.0) tells.1 tells.2.1)

    in_it : (told : Signed) × ((told_status keys.house place order receipt).receipt ≡ Some told) × (signed_of (signed_bytes told) ≡ Ok s)
    in_it = status_receipt (told_status keys.house place order receipt) tells.2.0 s text tells.2.2

    asker : names.0.asker ≡ whom
    asker = ap (λ (q : StatusQuery). q.asker) (query_same _ names.0 tells.0.0 names.1.read tells.0.1) ∙ tells.0.2

    given_as : (r : Receipt) → receipt ≡ Some r → IsGiven all names.0.epoid whom r
    given_as r has =
        let found = (names.4 r).0 has in
        let stays : order_in all names.0.epoid ≡ Some found.0 =
        subst (λ es. order_in es names.0.epoid ≡ Some found.0) (take-append-drop at all) (order_stays (take at all) (drop at all) names.0.epoid found.0 found.1) in
        role_given all names.0.epoid whom found.0 r stays (subst (λ (who : PartyId). IsReceiptFor who found.0 r) asker found.2)

    by : (o : Option Receipt) → receipt ≡ o → GivenTo head.house all whom s
    by None is = absurd (no_receipt (sym (ap (λ (o : Option Receipt). (told_status keys.house place order o).receipt) is) ∙ in_it.1))
      where
        no_receipt : ◌≡◌ {A = Option Signed} None (Some in_it.0) → ⊥
        no_receipt e = cc
    by (Some r) is =
        let given = given_as r is in
        let told : signed_receipt keys.house r ≡ in_it.0 = same_some _ in_it.0 (sym (ap (λ (o : Option Receipt). (told_status keys.house place order o).receipt) is) ∙ in_it.1) in
        let plain : signed_of (signed_bytes (signed_receipt keys.house r)) ≡ Ok s = subst (λ (x : Signed). signed_of (signed_bytes x) ≡ Ok s) (sym told) in_it.2 in
        record {
          name = names.0.epoid;
          role = given.role;
          settlement = given.settlement;
          settled = given.settled;
          its = given.its;
          given = given.given;
          bytes = subst (λ (h : List ℕ). signed_of (signed_bytes (signed_receipt h (receipt_in_role given.role given.settlement))) ≡ Ok s) house
              (subst (λ (x : Receipt). signed_of (signed_bytes (signed_receipt keys.house x)) ≡ Ok s) given.is plain);
        }

-- whichever reply it is
pub reply_given : (all : List Entry) (head : Head) (cap kind : ℕ) (body : List ℕ) (moment at : ℕ) (key : List ℕ) (whom : PartyId) (s : Signed)
    → ((e : Entry) → (verdict (take at all) head cap kind body moment).entry ≡ Some e → slice_get all at ≡ Some e)
    → TellsReceipt key whom body (verdict (take at all) head cap kind body moment).keys (verdict (take at all) head cap kind body moment).reply s → GivenTo head.house all whom s
reply_given all head cap kind body moment at key whom s recorded tells =
    by (verdict (take at all) head cap kind body moment) recorded (receipts_name_the_order (take at all) head cap kind body moment) (status_tells_the_order (take at all) head cap kind body moment)
    (keys_are_the_parties (take at all) head cap kind body moment) tells
  where
    of : (reply : Reply) (keys : ReplyKeys) (entry : Option Entry) → ((e : Entry) → entry ≡ Some e → slice_get all at ≡ Some e) → TellsOrder (take at all) body moment entry reply → TellsStatus (take at all) body reply
        → HasKeysOfParties (take at all) head body reply keys → TellsReceipt key whom body keys reply s → GivenTo head.house all whom s
    of (Receipts merchant consumer) keys entry stands order status parties tells = result_given all head body moment at entry keys merchant consumer key whom s stands order parties tells
    of (Status place name receipt) keys entry stands order status parties tells = status_given all head body at keys place name receipt key whom s status parties tells
    of (Grant consumer merchant nonce until session) keys entry stands order status parties tells = absurd tells
    of (Done acct place amount) keys entry stands order status parties tells = absurd tells
    of (Told why) keys entry stands order status parties tells = absurd tells

    by : (d : Decision) → ((e : Entry) → d.entry ≡ Some e → slice_get all at ≡ Some e) → TellsOrder (take at all) body moment d.entry d.reply → TellsStatus (take at all) body d.reply
        → HasKeysOfParties (take at all) head body d.reply d.keys → TellsReceipt key whom body d.keys d.reply s → GivenTo head.house all whom s
    by d stands order status parties tells = of d.reply d.keys d.entry stands order status parties tells
