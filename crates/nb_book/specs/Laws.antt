-- What holds of every Legal list.
use Rattle.std.specs.Prelude.{◌≡◌, ◌≢◌, ◌↔◌, ℕ, ◌==◌, ◌+◌, ◌-◌, ◌≤◌, Bool, false, List, [], ◌∷◌, ◌++◌, take, EachIndex, IsNone, if◌then◌else◌}
use Rattle.std.specs.List.{HoldsAt, sum_by, count_by}
use Rattle.std.specs.Str.{bytes_eq}
use Rattle.nb_units.specs.declared.ids.PartyId.{PartyId}
use Rattle.nb_units.specs.declared.ids.AcctId.{AcctId}
use Rattle.nb_units.specs.declared.ids.Price.{Price}
use Rattle.nb_units.specs.declared.epoid.Epoid.{Epoid}
use Rattle.nb_entry.specs.declared.entry.Entry.{Entry}
use Rattle.nb_entry.specs.declared.entry.Entry.TheVariants.{Enrol, Fund, Paid, Charged}
use Rattle.nb_entry.specs.declared.entry.TheConstants.{CONSUMER, MERCHANT}
use Rattle.nb_units.specs.Charter.{MayRule}
use Rattle.nb_units.specs.declared.limits.TheConstants.{MAX_CAP, MAX_RATE, FIRST_VERSION, FEE_VERSION}
use Rattle.nb_book.specs.declared.limits.TheConstants.{MAX_TOTAL, MAX_PRICE, MAX_AGE, MAX_AHEAD}
use Rattle.nb_book.specs.declared.reason.TheConstants.{CONSUMER_ACCOUNT, MERCHANT_ACCOUNT, PRICE_RANGE, TOO_OLD, TOO_EARLY, BALANCE_LOW, CONSUMER_NONCE}
use Rattle.nb_units.specs.declared.reason.TheConstants.{FIRST_REASON, LAST_REASON}
use Rattle.nb_book.specs.Searches.{holder_in, settles}
use Rattle.nb_book.specs.Money.{fee_at, house_account, credit, debit, credits, debits, balance, total, fees, accounts}
use Rattle.nb_book.specs.Legal.{LegalAfter, Legal, NextUnder, LegalUnder}
use Rattle.nb_entry.specs.Spelling.{EntryKeepsRules}

-- the limits and roles in numbers
abbrev pub BookLimitsAre : Type 0
BookLimitsAre =
    (MAX_CAP ≡ 1000000) × (MAX_TOTAL ≡ 1000000000000000000) × (MAX_PRICE ≡ 1000000000) × (MAX_RATE ≡ 1000) × (MAX_AGE ≡ 900) × (MAX_AHEAD ≡ 300)
    × (CONSUMER ≡ 1) × (MERCHANT ≡ 2)

-- the codes of refused orders in numbers, and which are the first and the last of them
abbrev pub ReasonCodesAre : Type 0
ReasonCodesAre =
    (CONSUMER_ACCOUNT ≡ 31) × (MERCHANT_ACCOUNT ≡ 32) × (PRICE_RANGE ≡ 33) × (TOO_OLD ≡ 34) × (TOO_EARLY ≡ 35) × (BALANCE_LOW ≡ 36)
    × (CONSUMER_NONCE ≡ 37) × (FIRST_REASON ≡ CONSUMER_ACCOUNT) × (LAST_REASON ≡ CONSUMER_NONCE)

-- what was taken from an account is at most what came into it
abbrev pub NoneOverdrawn : Type 0
NoneOverdrawn = (H : List Entry) → Legal H → (a : AcctId) → debits H a ≤ credits H a

-- the balances of all accounts that were opened, and the fees, sum to the total
abbrev pub BalancesMakeTotal : Type 0
BalancesMakeTotal = (H : List Entry) → Legal H → sum_by (balance H) (accounts H) + fees H ≡ total H

-- no account has more than the house took in
abbrev pub BalancesFit : Type 0
BalancesFit = (H : List Entry) → Legal H → (a : AcctId) → balance H a ≤ total H

-- the total is at most 10^18
abbrev pub TotalFits : Type 0
TotalFits = (H : List Entry) → Legal H → total H ≤ MAX_TOTAL

-- an account that nobody holds has nothing, unless it is the house's
abbrev pub UnheldIsEmpty : Type 0
UnheldIsEmpty = (H : List Entry) → Legal H → (a : AcctId) → a.0 ≢ 0 → IsNone (holder_in H a) → balance H a ≡ 0

-- of every list, Legal or not: in the house's account are the fees
abbrev pub HouseHasFees : Type 0
HouseHasFees = (H : List Entry) → balance H house_account ≡ fees H

-- and nobody holds that account
abbrev pub HouseHeldByNobody : Type 0
HouseHeldByNobody = (H : List Entry) → Legal H → IsNone (holder_in H house_account)

-- a fee is at most its price
abbrev pub FeeWithinPrice : Type 0
FeeWithinPrice = (rate : ℕ) (price : Price) → rate ≤ MAX_RATE → fee_at rate price ≤ price.0

-- what a payment leaves of its price, and the fee, are the price
abbrev pub RestAndFeeArePrice : Type 0
RestAndFeeArePrice = (rate : ℕ) (price : Price) → rate ≤ MAX_RATE → (price.0 - fee_at rate price) + fee_at rate price ≡ price.0

-- one more entry adds to each account what it brings, and takes what it takes
abbrev pub BalanceAfter : Type 0
BalanceAfter = (H : List Entry) (e : Entry) → Legal H → LegalAfter H e → (a : AcctId)
    → balance (H ++ e ∷ []) a + debit a e ≡ balance H a + credit a e

-- a payment takes its price from the consumer's account, brings it into the merchant's, and leaves all others
abbrev pub PaymentMoves : Type 0
PaymentMoves = (H : List Entry) (digest : List ℕ) (epoid : Epoid) (consumer merchant : PartyId) (product : ℕ) (price : Price) (cacct macct : AcctId) (moment : ℕ) (key : List ℕ)
    → Legal H → LegalAfter H (Paid digest epoid consumer merchant product price cacct macct moment key) → (a : AcctId)
    → balance (H ++ Paid digest epoid consumer merchant product price cacct macct moment key ∷ []) a + (if cacct.0 == a.0 then price.0 else 0)
    ≡ balance H a + (if macct.0 == a.0 then price.0 else 0)

-- with a fee it takes its price from the consumer's account, brings the price less the fee into the merchant's and the fee into the house's,
-- and leaves all others
abbrev pub ChargeMoves : Type 0
ChargeMoves = (H : List Entry) (digest : List ℕ) (epoid : Epoid) (consumer merchant : PartyId) (product : ℕ) (price : Price) (fee : ℕ) (cacct macct : AcctId) (moment : ℕ) (key : List ℕ)
    → Legal H → LegalAfter H (Charged digest epoid consumer merchant product price fee cacct macct moment key) → (a : AcctId)
    → balance (H ++ Charged digest epoid consumer merchant product price fee cacct macct moment key ∷ []) a + (if cacct.0 == a.0 then price.0 else 0)
    ≡ balance H a + (if macct.0 == a.0 then price.0 - fee else 0) + (if a.0 == 0 then fee else 0)

-- an entry that is legal next makes a Legal list
abbrev pub StaysLegal : Type 0
StaysLegal = (H : List Entry) (e : Entry) → Legal H → LegalAfter H e → Legal (H ++ e ∷ [])

-- an entry that may come next may do so in a journal of some version and rate, and one that may do so there may come next
abbrev pub LegalUnderSome : Type 0
LegalUnderSome = (H : List Entry) (e : Entry) → LegalAfter H e ↔ ((version : ℕ) × (rate : ℕ) × MayRule version rate × NextUnder version rate H e)

-- a list is Legal under a version and a rate exactly where each entry may come after those before it in a journal of this version and rate
abbrev pub LegalUnderIsNext : Type 0
LegalUnderIsNext = (version rate : ℕ) (H : List Entry) → LegalUnder version rate H ↔ EachIndex H (λ k. HoldsAt (NextUnder version rate (take k H)) H k)

-- and with one entry more that may come next there, it still is
abbrev pub StaysLegalUnder : Type 0
StaysLegalUnder = (version rate : ℕ) (H : List Entry) (e : Entry) → LegalUnder version rate H → NextUnder version rate H e → LegalUnder version rate (H ++ e ∷ [])

-- a list that is Legal in the first version is so in the second one, at any rate
abbrev pub FirstStaysLegal : Type 0
FirstStaysLegal = (rate new_rate : ℕ) (H : List Entry) → LegalUnder FIRST_VERSION rate H → LegalUnder FEE_VERSION new_rate H

-- the entry enrols this party
abbrev pub enrols : PartyId → Entry → Bool
enrols id (Enrol who role acct nonce key) = who.0 == id.0
enrols id other = false

-- the entry opens this account
abbrev pub opens : AcctId → Entry → Bool
opens a (Enrol who role acct nonce key) = acct.0 == a.0
opens a other = false

-- the entry is a fund under this reference
abbrev pub cites : List ℕ → Entry → Bool
cites r (Fund acct amount reference) = bytes_eq reference r
cites r other = false

-- at most one entry enrols a party
abbrev pub EnrolledOnce : Type 0
EnrolledOnce = (H : List Entry) → Legal H → (id : PartyId) → count_by (enrols id) H ≤ 1

-- at most one entry opens an account
abbrev pub OpenedOnce : Type 0
OpenedOnce = (H : List Entry) → Legal H → (a : AcctId) → count_by (opens a) H ≤ 1

-- at most one fund has a reference
abbrev pub FundedOnce : Type 0
FundedOnce = (H : List Entry) → Legal H → (r : List ℕ) → count_by (cites r) H ≤ 1

-- at most one entry pays or refuses the order of an identifier
abbrev pub SettledOnce : Type 0
SettledOnce = (H : List Entry) → Legal H → (p : Epoid) → count_by (settles p) H ≤ 1

-- an entry that may come next keeps the rules of entries, so that it can be written
abbrev pub LegalKeepsRules : Type 0
LegalKeepsRules = (H : List Entry) (e : Entry) → LegalAfter H e → EntryKeepsRules e
