-- How an order that is new is settled: its entry is legal next, and its reason is one that a receipt may have.
use Rattle.std.proofs.Common.{◌≡◌, ◌⊎◌, ℕ, ◌+◌, ◌<◌, ◌≤◌, ◌&&◌, Bool, true, false, nat_le, List, Some, None, Result, Ok, Err, IsNone, arith, refl, sym, ap, subst, inl, inr}
use Rattle.std.proofs.lemmas.Bool.{eqb-true, eqb-false, leb-true, leb-false}
use Rattle.std.specs.Prelude.{◌==◌, if◌then◌else◌}
use Rattle.std.specs.Option.{option_map}
use Rattle.std.proofs.lemmas.Bool.Decides.{leb_tells}
use Rattle.nb_units.specs.Fields.{◌>>=◌}
use Rattle.nb_units.specs.declared.ids.PartyId.{PartyId}
use Rattle.nb_units.specs.declared.ids.Price.{Price}
use Rattle.nb_units.specs.declared.epoid.Epoid.{Epoid}
use Rattle.nb_entry.specs.declared.entry.Entry.{Entry}
use Rattle.nb_book.specs.declared.limits.TheConstants.{MAX_PRICE, MAX_AGE, MAX_AHEAD}
use Rattle.nb_book.specs.declared.party.Party.{Party}
use Rattle.nb_book.specs.Searches.{party_in, order_in}
use Rattle.nb_book.specs.Money.{balance, fee_at}
use Rattle.nb_book.specs.Legal.{PriceIsLegal, IsInTime, PaidIsLegal, ReasonIsTrue, NextUnder}
use Rattle.nb_units.specs.declared.limits.TheConstants.{FEE_VERSION}
use Rattle.nb_escrow.specs.declared.head.Head.{Head}
use Rattle.nb_escrow.specs.declared.order.Presented.{Presented}
use Rattle.nb_units.specs.Reasons.{IsReason}
use Rattle.nb_escrow.specs.declared.settlement.RefusalReason.{RefusalReason}
use Rattle.nb_escrow.specs.declared.settlement.PaymentOutcome.{PaymentOutcome}
use Rattle.nb_escrow.specs.declared.settlement.PaymentOutcome.TheVariants.{Paid}
use Rattle.nb_escrow.specs.declared.settlement.Settlement.{Settlement}
use Rattle.nb_escrow.specs.Checks.{unless}
use Rattle.nb_escrow.specs.Head.{IsRuling, charge}
use Rattle.nb_escrow.specs.Orders.{IsPresented, presented_of}
use Rattle.nb_escrow.specs.Payments.{payment_steps, outcome_of}
use Rattle.nb_escrow.specs.Settlements.{IsPaymentOutcome, settlement_entry}

abbrev Tested : Type 0
Tested = Result (Unit {0}) RefusalReason

-- a test that fails gives its reason, and one that holds goes on
pub either : (P : Tested → Type 0) (b : Bool) (why : RefusalReason) (next : Tested) → (b ≡ false → P (Err why)) → (b ≡ true → P next) → P (unless b why >>= (λ u. next))
either P true why next fails holds = holds refl
either P false why next fails holds = fails refl

pub last : (P : Tested → Type 0) (b : Bool) (why : RefusalReason) → (b ≡ false → P (Err why)) → (b ≡ true → P (Ok tt)) → P (unless b why)
last P true why fails holds = holds refl
last P false why fails holds = fails refl

-- ---- what the tests say

-- a reason that is true has one of the codes of refused orders
pub reason_code : (H : List Entry) (epoid : Epoid) (consumer merchant : PartyId) (price : Price) (code a b moment : ℕ) → ReasonIsTrue H epoid consumer merchant price code a b moment
    → IsReason code
reason_code H epoid consumer merchant price code a b moment (inl is) = grind (arith, is)
reason_code H epoid consumer merchant price code a b moment (inr (inl is)) = grind (arith, is)
reason_code H epoid consumer merchant price code a b moment (inr (inr (inl is))) = grind (arith, is)
reason_code H epoid consumer merchant price code a b moment (inr (inr (inr (inl is)))) = grind (arith, is)
reason_code H epoid consumer merchant price code a b moment (inr (inr (inr (inr (inl is))))) = grind (arith, is)
reason_code H epoid consumer merchant price code a b moment (inr (inr (inr (inr (inr (inl is)))))) = grind (arith, is)
reason_code H epoid consumer merchant price code a b moment (inr (inr (inr (inr (inr (inr is)))))) = grind (arith, is)

module _ (H : List Entry) (p : Presented) (moment : ℕ) where
  -- what is known where a payment's tests all hold
  record Passed : Type 0 where
    priced : PriceIsLegal p.order.price
    begun : IsInTime p.order.epoid moment
    covered : p.order.price.0 ≤ balance H p.consumer.acct

  -- what the tests of a payment come to: each passed, or the reason is true of the list
  abbrev Comes : Tested → Type 0
  Comes (Ok u) = Passed
  Comes (Err why) = ReasonIsTrue H p.order.epoid p.order.consumer p.order.merchant p.order.price why.code why.a why.b moment

  out_of_range : (price : ℕ) → (nat_le 1 price && nat_le price MAX_PRICE) ≡ false → (price ≡ 0) ⊎ (MAX_PRICE < price)
  out_of_range price out = grind (arith, leb_tells)

  in_range : (price : ℕ) → (nat_le 1 price && nat_le price MAX_PRICE) ≡ true → (1 ≤ price) × (price ≤ MAX_PRICE)
  in_range price within = grind (arith, leb-true)

  account_found : (id : PartyId) (party : Party) → party_in H id ≡ Some party → option_map (λ (x : Party). x.acct) (party_in H id) ≡ Some party.acct
  account_found id party is = rw is refl

  comes : IsPresented H p → Comes (payment_steps H p moment)
  unfolding payment_steps
  comes is =
      either Comes (p.hidden.acct.0 == p.consumer.acct.0) _ _ (λ fails. inl (refl, (rw is.consumer refl, eqb-false _ _ fails))) (λ pays.
      either Comes (p.hidden.nonce == p.consumer.nonce) _ _ (λ fails. inr (inr (inr (inr (inr (inr (refl, (rw is.consumer refl, eqb-false _ _ fails)))))))) (λ knows.
      either Comes (p.endorsement.macct.0 == p.merchant.acct.0) _ _ (λ fails. inr (inl (refl, (rw is.merchant refl, eqb-false _ _ fails)))) (λ credited.
      either Comes (nat_le 1 p.order.price.0 && nat_le p.order.price.0 MAX_PRICE) _ _ (λ fails. inr (inr (inl (refl, (refl, out_of_range p.order.price.0 fails, refl))))) (λ priced.
      either Comes (nat_le moment (p.order.epoid.moment + MAX_AGE)) _ _ (λ fails. inr (inr (inr (inl (refl, (refl, refl, leb-false _ _ fails)))))) (λ alive.
      either Comes (nat_le p.order.epoid.moment (moment + MAX_AHEAD)) _ _ (λ fails. inr (inr (inr (inr (inl (refl, (refl, refl, leb-false _ _ fails))))))) (λ begun.
      last Comes (nat_le p.order.price.0 (balance H p.consumer.acct)) _ (λ fails. inr (inr (inr (inr (inr (inl (refl, (rw is.consumer refl, refl, leb-false _ _ fails)))))))) (λ covered.
      record { priced = in_range p.order.price.0 priced; begun = (leb-true _ _ alive, leb-true _ _ begun); covered = leb-true _ _ covered })))))))

-- ---- the entry

module _ (H : List Entry) (head : Head) (p : Presented) (moment : ℕ) where
  -- the settlement, whatever its place and its outcome are
  abbrev shape : ℕ → PaymentOutcome → Settlement
  shape at outcome =
      record { at = at; digest = p.digest; epoid = p.order.epoid; consumer = p.order.consumer; merchant = p.order.merchant; product = p.order.product; price = p.order.price; moment = moment; outcome = outcome }

  abbrev Next : Entry → Type 0
  Next e = NextUnder head.version head.rate H e

  -- a payment of which the house keeps what its head says
  paid_next : IsRuling head → PaidIsLegal H p.order.epoid p.order.consumer p.order.merchant p.order.price p.consumer.acct p.merchant.acct moment → (at : ℕ)
      → Next (settlement_entry (shape at (Paid p.consumer.acct p.merchant.acct p.endorsement.key (charge head p.order.price))))
  paid_next ruling paid at = part (head.version == FEE_VERSION) refl
    where
      part : (b : Bool) → (head.version == FEE_VERSION) ≡ b
          → Next (settlement_entry (shape at (Paid p.consumer.acct p.merchant.acct p.endorsement.key (if b then Some (fee_at head.rate p.order.price) else None))))
      part true is = ((paid, (head.rate, ruling.1, refl)), (eqb-true head.version FEE_VERSION is, refl))
      part false other = (paid, tt)

  legal_with : IsRuling head → IsPresented H p → IsNone (order_in H p.order.epoid) → (at : ℕ) (tested : Tested) → Comes H p moment tested → Next (settlement_entry (shape at (outcome_of head p tested)))
  legal_with ruling is new at (Ok u) comes =
      paid_next ruling ((new, is.named), (rw is.consumer (ap Some is.buys), rw is.merchant (ap Some is.sells)), (rw is.consumer refl, rw is.merchant refl), comes.priced, comes.covered, comes.begun) at
  legal_with ruling is new at (Err why) comes = (((new, is.named), (rw is.consumer (ap Some is.buys), rw is.merchant (ap Some is.sells)), comes), tt)

  pub settled_legal : IsRuling head → IsPresented H p → IsNone (order_in H p.order.epoid) → (at : ℕ) (outcome : PaymentOutcome) → outcome ≡ outcome_of head p (payment_steps H p moment)
      → Next (settlement_entry (shape at outcome))
  settled_legal ruling is new at outcome same =
      subst (λ (o : PaymentOutcome). Next (settlement_entry (shape at o))) (sym same) (legal_with ruling is new at (payment_steps H p moment) (comes H p moment is))

  outcome_with : (tested : Tested) → Comes H p moment tested → IsPaymentOutcome (outcome_of head p tested)
  outcome_with (Ok u) comes = tt
  outcome_with (Err why) comes = reason_code H p.order.epoid p.order.consumer p.order.merchant p.order.price why.code why.a why.b moment comes

  pub outcome_lawful : IsPresented H p → IsPaymentOutcome (outcome_of head p (payment_steps H p moment))
  outcome_lawful is = outcome_with (payment_steps H p moment) (comes H p moment is)

-- an order that is presented has the digest of its endorsement
pub as_presented : (H : List Entry) (p : Presented) → IsPresented H p → p ≡ presented_of p.merchant p.consumer p.endorsement p.order p.hidden
as_presented H p is =
    ap (λ (digest : List ℕ). let q : Presented = record { merchant = p.merchant; consumer = p.consumer; endorsement = p.endorsement; digest = digest; order = p.order; hidden = p.hidden } in q) is.digested
