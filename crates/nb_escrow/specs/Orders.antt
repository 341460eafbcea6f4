-- The verdict on an endorsed order: its tests in order, each a line.
use Rattle.std.specs.Prelude.{◌≡◌, ℕ, ◌==◌, List, codes, length, Option, Some, None, Result, Ok}
use Rattle.std.specs.Str.{bytes_eq}
use Rattle.nb_units.specs.declared.ids.PartyId.{PartyId}
use Rattle.nb_units.specs.Fields.{◌>>=◌}
use Rattle.nb_entry.specs.declared.entry.Entry.{Entry}
use Rattle.nb_entry.specs.declared.entry.TheConstants.{CONSUMER, MERCHANT}
use Rattle.nb_book.specs.declared.party.Party.{Party}
use Rattle.nb_book.specs.Searches.{party_in}
use Rattle.nb_epo.specs.declared.order.Order.{Order}
use Rattle.nb_epo.specs.declared.hidden.Hidden.{Hidden}
use Rattle.nb_epo.specs.declared.hidden.RevealFault.{RevealFault}
use Rattle.nb_epo.specs.declared.hidden.RevealFault.TheVariants as reveal
use Rattle.nb_epo.specs.Reading.{order_of, hidden_of}
use Rattle.nb_epo.specs.Tags.{order_tag}
use Rattle.nb_endorse.specs.declared.endorsement.Endorsement.{Endorsement}
use Rattle.nb_endorse.specs.declared.refusal.TheConstants.{MALFORMED, IN_BODY, IN_ENDORSEMENT, IN_ORDER, IN_HIDDEN, NOT_SEALED, OTHER_MERCHANT, IDENTIFIER_USED}
use Rattle.nb_endorse.specs.declared.refusal.Refusal.{Refusal}
use Rattle.nb_endorse.specs.declared.reply.Reply.TheVariants.{Result as Receipts}
use Rattle.nb_endorse.specs.declared.sealed.SealedFault.{SealedFault}
use Rattle.nb_endorse.specs.declared.sealed.SealedFault.TheVariants as sealed
use Rattle.nb_endorse.specs.Reading.{endorsement_of}
use Rattle.nb_endorse.specs.Refusals.{refusal, refusal_with}
use Rattle.nb_endorse.specs.Tags.{endorsement_digest}
use Rattle.nb_escrow.specs.declared.head.Head.{Head}
use Rattle.nb_escrow.specs.declared.decision.Decision.{Decision}
use Rattle.nb_escrow.specs.declared.order.Presented.{Presented}
use Rattle.nb_escrow.specs.declared.settlement.Settlement.{Settlement}
use Rattle.nb_body.specs.Reading.{endorsed_of}
use Rattle.nb_escrow.specs.Checks.{unless, well_formed, enrolled_as, unsealed, right_tag, room_left}
use Rattle.nb_escrow.specs.Settlements.{settlement_in, settlement_entry, receipt_in_role}
use Rattle.nb_escrow.specs.Payments.{payment_steps, outcome_of}

-- the endorsement is a seal under the merchant's key, and what it seals is in its grammar
unfoldable pub endorsement_in : List ℕ → List ℕ → Result Endorsement Refusal
endorsement_in key sealed = do
  plain ← unsealed key (codes "endo") sealed
  well_formed IN_ENDORSEMENT (endorsement_of plain)

-- the hidden part is a seal under the consumer's key, and what it seals is in its grammar
unfoldable pub hidden_in : List ℕ → List ℕ → Result Hidden Refusal
hidden_in key sealed = do
  plain ← unsealed key (codes "hide") sealed
  well_formed IN_HIDDEN (hidden_of plain)

-- for the contracts of private functions alone: what a fault of a reader of sealed bytes is told as
abbrev pub unread_endorsement : SealedFault → Refusal
unread_endorsement (sealed.BadSeal iv) = refusal_with NOT_SEALED iv
unread_endorsement (sealed.Malformed place) = refusal MALFORMED place IN_ENDORSEMENT

-- what an order that is not in its grammar is told as: the place of the first field that fails
abbrev pub unread_order : ℕ → Refusal
unread_order place = refusal MALFORMED place IN_ORDER

-- what a fault of a hidden part is told as
abbrev pub unread_hidden : RevealFault → Refusal
unread_hidden (reveal.BadSeal iv) = refusal_with NOT_SEALED iv
unread_hidden (reveal.Malformed place) = refusal MALFORMED place IN_HIDDEN

-- a merchant that is named is the one that endorses the order
abbrev pub names_endorser : PartyId → PartyId → Result (Unit {0}) Refusal
names_endorser endorser named = unless (named.0 == endorser.0) (refusal OTHER_MERCHANT endorser.0 named.0)

-- the order's merchant, and then its identifier's, is the one that endorses it
unfoldable pub same_merchant : PartyId → Order → Result (Unit {0}) Refusal
same_merchant endorser order = do
  named ← names_endorser endorser order.merchant
  names_endorser endorser order.epoid.merchant

-- the endorsement is the one that used up the identifier
unfoldable pub same_digest : List ℕ → List ℕ → Result (Unit {0}) Refusal
same_digest kept digest = unless (bytes_eq kept digest) (refusal_with IDENTIFIER_USED kept)

-- for the contracts of private functions alone: what is known of an order that is presented
pub record IsPresented (H : List Entry) (p : Presented) : Type 0 where
  pub consumer : party_in H p.order.consumer ≡ Some p.consumer
  pub buys : p.consumer.role ≡ CONSUMER
  pub merchant : party_in H p.order.merchant ≡ Some p.merchant
  pub sells : p.merchant.role ≡ MERCHANT
  pub named : p.order.epoid.merchant ≡ p.order.merchant
  pub digested : p.digest ≡ endorsement_digest p.endorsement

-- an order whose parties, seals, grammar and tag were tested
abbrev pub presented_of : Party → Party → Endorsement → Order → Hidden → Presented
presented_of merchant consumer endorsement order hidden = record {
  merchant = merchant;
  consumer = consumer;
  endorsement = endorsement;
  digest = endorsement_digest endorsement;
  order = order;
  hidden = hidden;
}

-- how an order that is new is settled
abbrev pub settled : List Entry → Head → Presented → ℕ → Settlement
settled H head p moment = record {
  at = length H;
  digest = p.digest;
  epoid = p.order.epoid;
  consumer = p.order.consumer;
  merchant = p.order.merchant;
  product = p.order.product;
  price = p.order.price;
  moment = moment;
  outcome = outcome_of head p (payment_steps H p moment);
}

-- each party is given its receipt, signed by the house and sealed under the party's key. The keys are those of the parties of
-- the order that is presented: a settlement that is told again has its digest, and so its parties unless the hash has a collision
abbrev pub result : Head → Presented → Settlement → Option Entry → Decision
result head p s entry = record {
  reply = Receipts (receipt_in_role MERCHANT s) (receipt_in_role CONSUMER s);
  keys = record { house = head.house; first = p.merchant.key; second = p.consumer.key };
  entry = entry;
}

-- an order that is settled already is told again; a new one is settled and recorded
abbrev pub again_or_settle : List Entry → Head → ℕ → Presented → ℕ → Option Settlement → Result Decision Refusal
again_or_settle H head cap p moment (Some kept) = do
  same ← same_digest kept.digest p.digest
  Ok (result head p kept None)
again_or_settle H head cap p moment None = do
  room ← room_left H cap
  Ok (result head p (settled H head p moment) (Some (settlement_entry (settled H head p moment))))

-- the tests of an endorsed order, and what its parties are told and what is recorded. The refusals of its lines, in order: 10;
-- 11; 12, 10; 10; 11; 13; 14; 12, 10; and then 15 where it was settled before, 20 where it was not
unfoldable pub order_steps : List Entry → Head → ℕ → List ℕ → ℕ → Result Decision Refusal
order_steps H head cap body moment = do
  asked ← well_formed IN_BODY (endorsed_of body)
  merchant ← enrolled_as H MERCHANT asked.merchant
  endorsement ← endorsement_in merchant.key asked.sealed
  order ← well_formed IN_ORDER (order_of endorsement.order)
  consumer ← enrolled_as H CONSUMER order.consumer
  named ← same_merchant asked.merchant order
  signed ← right_tag order.tag (order_tag consumer.key order)
  hidden ← hidden_in consumer.key order.hidden
  again_or_settle H head cap (presented_of merchant consumer endorsement order hidden) moment (settlement_in H order.epoid)
