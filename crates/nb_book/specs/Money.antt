-- Sums over a list of entries, in the house's smallest unit of money.
use Rattle.std.specs.Prelude.{ℕ, ◌-◌, ◌*◌, ◌/◌, ◌==◌, List, Option, Some, None, if◌then◌else◌}
use Rattle.std.specs.List.{sum_by, filter_map}
use Rattle.std.specs.Option.{option_map}
use Rattle.nb_units.specs.declared.ids.PartyId.{PartyId}
use Rattle.nb_units.specs.declared.ids.AcctId.{AcctId}
use Rattle.nb_units.specs.declared.ids.Price.{Price}
use Rattle.nb_entry.specs.declared.entry.Entry.{Entry}
use Rattle.nb_entry.specs.declared.entry.Entry.TheVariants.{Enrol, Fund, Paid, Charged}
use Rattle.nb_book.specs.declared.account.Account.{Account}
use Rattle.nb_book.specs.Searches.{holder_in, account_of}

-- the fee of a price at a rate in thousandths of the price, rounded down
abbrev pub fee_at : ℕ → Price → ℕ
fee_at rate price = price.0 * rate / 1000

-- what an entry leaves with the house: a payment with a fee its fee, any other nothing
abbrev pub fee_in : Entry → ℕ
fee_in (Charged digest epoid consumer merchant product price fee cacct macct moment key) = fee
fee_in other = 0

-- what an entry brings to a party that holds this account: a fund its amount, a payment its price less its fee to the merchant's account
abbrev pub brought : AcctId → Entry → ℕ
brought a (Fund acct amount reference) = if acct.0 == a.0 then amount else 0
brought a (Paid digest epoid consumer merchant product price cacct macct moment key) = if macct.0 == a.0 then price.0 else 0
brought a (Charged digest epoid consumer merchant product price fee cacct macct moment key) = if macct.0 == a.0 then price.0 - fee else 0
brought a other = 0

-- what an entry takes from a party that holds this account: a payment its price from the consumer's account
abbrev pub taken : AcctId → Entry → ℕ
taken a (Paid digest epoid consumer merchant product price cacct macct moment key) = if cacct.0 == a.0 then price.0 else 0
taken a (Charged digest epoid consumer merchant product price fee cacct macct moment key) = if cacct.0 == a.0 then price.0 else 0
taken a other = 0

-- the house's own account, which is number 0: fees alone come into it, and nothing is taken from it
abbrev pub house_account : AcctId
house_account = record { 0 = 0 }

-- what an entry brings into this account
abbrev pub credit : AcctId → Entry → ℕ
credit a e = if a.0 == 0 then fee_in e else brought a e

-- what an entry takes from this account
abbrev pub debit : AcctId → Entry → ℕ
debit a e = if a.0 == 0 then 0 else taken a e

-- what an entry brings into the house: a fund alone brings something
abbrev pub fund : Entry → ℕ
fund (Fund acct amount reference) = amount
fund other = 0

-- all that came into this account
abbrev pub credits : List Entry → AcctId → ℕ
credits H a = sum_by (credit a) H

-- all that was taken from this account
abbrev pub debits : List Entry → AcctId → ℕ
debits H a = sum_by (debit a) H

-- what is in this account. In a Legal list no more was taken than came in, so the difference is never cut off at 0
abbrev pub balance : List Entry → AcctId → ℕ
balance H a = credits H a - debits H a

-- what is in the account of this party, if it is enrolled
abbrev pub balance_of : List Entry → PartyId → Option ℕ
balance_of H id = option_map (balance H) (account_of H id)

-- all that came into the house
abbrev pub total : List Entry → ℕ
total H = sum_by fund H

-- all that the house kept of payments
abbrev pub fees : List Entry → ℕ
fees H = sum_by fee_in H

-- this account with its balance, if a party holds it
abbrev pub account_in : List Entry → AcctId → Option Account
account_in H a = option_map (λ who. record { party = who; balance = balance H a }) (holder_in H a)

-- the account that an entry opens
abbrev pub opened : Entry → Option AcctId
opened (Enrol who role acct nonce key) = Some acct
opened other = None

-- the accounts that the entries open
abbrev pub accounts : List Entry → List AcctId
accounts H = filter_map opened H
