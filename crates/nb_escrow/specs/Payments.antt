-- The tests that an order has to pass to be paid, each a line with the reason that it gives. Where one fails, the order is
-- recorded as refused.
use Rattle.std.specs.Prelude.{ℕ, ◌+◌, ◌==◌, ◌&&◌, List, Result, Ok, Err, nat_le}
use Rattle.nb_units.specs.Fields.{◌>>=◌}
use Rattle.nb_entry.specs.declared.entry.Entry.{Entry}
use Rattle.nb_book.specs.declared.limits.TheConstants.{MAX_PRICE, MAX_AGE, MAX_AHEAD}
use Rattle.nb_book.specs.declared.reason.TheConstants.{CONSUMER_ACCOUNT, MERCHANT_ACCOUNT, PRICE_RANGE, TOO_OLD, TOO_EARLY, BALANCE_LOW, CONSUMER_NONCE}
use Rattle.nb_book.specs.Money.{balance}
use Rattle.nb_escrow.specs.declared.head.Head.{Head}
use Rattle.nb_escrow.specs.declared.order.Presented.{Presented}
use Rattle.nb_escrow.specs.declared.settlement.RefusalReason.{RefusalReason}
use Rattle.nb_escrow.specs.declared.settlement.PaymentOutcome.{PaymentOutcome}
use Rattle.nb_escrow.specs.declared.settlement.PaymentOutcome.TheVariants.{Paid, Refused}
use Rattle.nb_escrow.specs.Checks.{unless}
use Rattle.nb_escrow.specs.Head.{charge}

-- a code and the two numbers that it shows
abbrev pub because : ℕ → ℕ → ℕ → RefusalReason
because code a b = record { code = code; a = a; b = b }

-- the account that pays, the consumer's nonce, the account that is credited, the price, the two moments, the balance. The codes
-- of its lines, in order: 31; 37; 32; 33; 34; 35; 36
unfoldable pub payment_steps : List Entry → Presented → ℕ → Result (Unit {0}) RefusalReason
payment_steps H p moment = do
  pays ← unless (p.hidden.acct.0 == p.consumer.acct.0) (because CONSUMER_ACCOUNT p.hidden.acct.0 p.consumer.acct.0)
  knows ← unless (p.hidden.nonce == p.consumer.nonce) (because CONSUMER_NONCE p.hidden.nonce p.consumer.nonce)
  credited ← unless (p.endorsement.macct.0 == p.merchant.acct.0) (because MERCHANT_ACCOUNT p.endorsement.macct.0 p.merchant.acct.0)
  priced ← unless (nat_le 1 p.order.price.0 && nat_le p.order.price.0 MAX_PRICE) (because PRICE_RANGE p.order.price.0 MAX_PRICE)
  alive ← unless (nat_le moment (p.order.epoid.moment + MAX_AGE)) (because TOO_OLD moment p.order.epoid.moment)
  begun ← unless (nat_le p.order.epoid.moment (moment + MAX_AHEAD)) (because TOO_EARLY p.order.epoid.moment moment)
  unless (nat_le p.order.price.0 (balance H p.consumer.acct)) (because BALANCE_LOW (balance H p.consumer.acct) p.order.price.0)

-- where all hold the price moves from the consumer's account to the merchant's, and what the house keeps of it to the house's
abbrev pub outcome_of : Head → Presented → Result (Unit {0}) RefusalReason → PaymentOutcome
outcome_of head p (Ok u) = Paid p.consumer.acct p.merchant.acct p.endorsement.key (charge head p.order.price)
outcome_of head p (Err reason) = Refused reason
