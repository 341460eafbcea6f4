-- Which entry may come next, and which lists are made of such entries alone.
use Rattle.std.specs.Prelude.{◌≡◌, ◌≢◌, ℕ, ◌+◌, ◌<◌, ◌≤◌, ◌⊎◌, List, Some, take, EachIndex, IsNone, IsSome}
use Rattle.std.specs.List.{AllByRecursion, HoldsAt}
use Rattle.nb_units.specs.declared.ids.PartyId.{PartyId}
use Rattle.nb_units.specs.declared.ids.AcctId.{AcctId}
use Rattle.nb_units.specs.declared.ids.Price.{Price}
use Rattle.nb_units.specs.declared.epoid.Epoid.{Epoid}
use Rattle.nb_units.specs.declared.limits.TheConstants.{FEE_VERSION, MAX_RATE}
use Rattle.nb_entry.specs.declared.entry.Entry.{Entry}
use Rattle.nb_entry.specs.declared.entry.Entry.TheVariants.{Enrol, Fund, Paid, Charged, Refused}
use Rattle.nb_entry.specs.declared.entry.TheConstants.{CONSUMER, MERCHANT}
use Rattle.nb_book.specs.declared.limits.TheConstants.{MAX_TOTAL, MAX_PRICE, MAX_AGE, MAX_AHEAD}
use Rattle.nb_book.specs.declared.reason.TheConstants.{CONSUMER_ACCOUNT, MERCHANT_ACCOUNT, PRICE_RANGE, TOO_OLD, TOO_EARLY, BALANCE_LOW, CONSUMER_NONCE}
use Rattle.nb_book.specs.Searches.{party_in, holder_in, funded_in, order_in, role_of, account_of, nonce_of}
use Rattle.nb_book.specs.Money.{balance, balance_of, total, fee_at}

-- neither number is 0, the role is one of the two, and no enrolment names the party or the account
abbrev pub EnrolIsLegal : List Entry → PartyId → ℕ → AcctId → Type 0
EnrolIsLegal H id role acct =
    (id.0 ≢ 0) × (acct.0 ≢ 0) × ((role ≡ CONSUMER) ⊎ (role ≡ MERCHANT)) × IsNone (party_in H id) × IsNone (holder_in H acct)

-- a party holds the account, the amount is from 1 to 10^18, the reference is new, and the total stays at most 10^18
abbrev pub FundIsLegal : List Entry → AcctId → ℕ → List ℕ → Type 0
FundIsLegal H acct amount reference =
    IsSome (holder_in H acct) × (1 ≤ amount) × (amount ≤ MAX_TOTAL) × IsNone (funded_in H reference) × (total H + amount ≤ MAX_TOTAL)

-- no entry settles the order, and its identifier names the merchant
abbrev pub OrderIsNew : List Entry → Epoid → PartyId → Type 0
OrderIsNew H epoid merchant = IsNone (order_in H epoid) × (epoid.merchant ≡ merchant)

-- the one is enrolled as a consumer, the other as a merchant
abbrev pub RolesAre : List Entry → PartyId → PartyId → Type 0
RolesAre H consumer merchant = (role_of H consumer ≡ Some CONSUMER) × (role_of H merchant ≡ Some MERCHANT)

-- these are the accounts of the two
abbrev pub AccountsAre : List Entry → PartyId → PartyId → AcctId → AcctId → Type 0
AccountsAre H consumer merchant cacct macct = (account_of H consumer ≡ Some cacct) × (account_of H merchant ≡ Some macct)

-- the price is from 1 to 10^9
abbrev pub PriceIsLegal : Price → Type 0
PriceIsLegal price = (1 ≤ price.0) × (price.0 ≤ MAX_PRICE)

-- the moment is at most 900 seconds after the identifier's, and the identifier's at most 300 seconds after the moment. The sums are exact
abbrev pub IsInTime : Epoid → ℕ → Type 0
IsInTime epoid moment = (moment ≤ epoid.moment + MAX_AGE) × (epoid.moment ≤ moment + MAX_AHEAD)

-- the order is new, the two parties are enrolled in their roles with the accounts named, the price is from 1 to 10^9,
-- it is in the consumer's account, and the order is paid in time
abbrev pub PaidIsLegal : List Entry → Epoid → PartyId → PartyId → Price → AcctId → AcctId → ℕ → Type 0
PaidIsLegal H epoid consumer merchant price cacct macct moment =
    OrderIsNew H epoid merchant
    × RolesAre H consumer merchant
    × AccountsAre H consumer merchant cacct macct
    × PriceIsLegal price
    × (price.0 ≤ balance H cacct)
    × IsInTime epoid moment

-- the fee is that of the price at some rate of at most 1,000 thousandths
abbrev pub IsSomeFee : Price → ℕ → Type 0
IsSomeFee price fee = (rate : ℕ) × (rate ≤ MAX_RATE) × (fee ≡ fee_at rate price)

-- b is the account of the party, and a differs
abbrev pub AccountDiffers : List Entry → PartyId → ℕ → ℕ → Type 0
AccountDiffers H id a b = (account_of H id ≡ Some (record { 0 = b })) × (a ≢ b)

-- b is the nonce of the party, and a differs
abbrev pub NonceDiffers : List Entry → PartyId → ℕ → ℕ → Type 0
NonceDiffers H id a b = (nonce_of H id ≡ Some b) × (a ≢ b)

-- a is the price, which is 0 or above 10^9, and b is 10^9
abbrev pub PriceIsOut : Price → ℕ → ℕ → Type 0
PriceIsOut price a b = (a ≡ price.0) × ((a ≡ 0) ⊎ (MAX_PRICE < a)) × (b ≡ MAX_PRICE)

-- a is the moment, b the identifier's, and a is more than 900 seconds after b
abbrev pub IsTooOld : Epoid → ℕ → ℕ → ℕ → Type 0
IsTooOld epoid moment a b = (a ≡ moment) × (b ≡ epoid.moment) × (b + MAX_AGE < a)

-- a is the identifier's moment, b the moment, and a is more than 300 seconds after b
abbrev pub IsTooEarly : Epoid → ℕ → ℕ → ℕ → Type 0
IsTooEarly epoid moment a b = (a ≡ epoid.moment) × (b ≡ moment) × (b + MAX_AHEAD < a)

-- a is what is in the account of the party, b the price, and a is below b
abbrev pub BalanceIsLow : List Entry → PartyId → Price → ℕ → ℕ → Type 0
BalanceIsLow H id price a b = (balance_of H id ≡ Some a) × (b ≡ price.0) × (a < b)

-- the code is one of seven, and what it says of a and b is true of the list
abbrev pub ReasonIsTrue : List Entry → Epoid → PartyId → PartyId → Price → ℕ → ℕ → ℕ → ℕ → Type 0
ReasonIsTrue H epoid consumer merchant price code a b moment =
    ((code ≡ CONSUMER_ACCOUNT) × AccountDiffers H consumer a b)
    ⊎ ((code ≡ MERCHANT_ACCOUNT) × AccountDiffers H merchant a b)
    ⊎ ((code ≡ PRICE_RANGE) × PriceIsOut price a b)
    ⊎ ((code ≡ TOO_OLD) × IsTooOld epoid moment a b)
    ⊎ ((code ≡ TOO_EARLY) × IsTooEarly epoid moment a b)
    ⊎ ((code ≡ BALANCE_LOW) × BalanceIsLow H consumer price a b)
    ⊎ ((code ≡ CONSUMER_NONCE) × NonceDiffers H consumer a b)

-- the order is new, the two parties are enrolled in their roles, and the reason is true. Nothing else is asked: the tests that came before the code are
-- not run again
abbrev pub RefusedIsLegal : List Entry → Epoid → PartyId → PartyId → Price → ℕ → ℕ → ℕ → ℕ → Type 0
RefusedIsLegal H epoid consumer merchant price code a b moment =
    OrderIsNew H epoid merchant × RolesAre H consumer merchant × ReasonIsTrue H epoid consumer merchant price code a b moment

-- the entry may come after these
abbrev pub LegalAfter : List Entry → Entry → Type 0
LegalAfter H (Enrol id role acct nonce key) = EnrolIsLegal H id role acct
LegalAfter H (Fund acct amount reference) = FundIsLegal H acct amount reference
LegalAfter H (Paid digest epoid consumer merchant product price cacct macct moment key) = PaidIsLegal H epoid consumer merchant price cacct macct moment
LegalAfter H (Charged digest epoid consumer merchant product price fee cacct macct moment key) =
    PaidIsLegal H epoid consumer merchant price cacct macct moment × IsSomeFee price fee
LegalAfter H (Refused digest epoid consumer merchant product price code a b moment) = RefusedIsLegal H epoid consumer merchant price code a b moment

-- each entry is legal after those before it
pub record Legal (H : List Entry) : Type 0 where
  pub each : EachIndex H (λ k. HoldsAt (LegalAfter (take k H)) H k)

-- ---- a journal of a version, with a rate

-- a journal of this version and this rate may have the entry: a payment with a fee in the second version alone, and with the fee of the rate
abbrev pub IsOfRate : ℕ → ℕ → Entry → Type 0
IsOfRate version rate (Charged digest epoid consumer merchant product price fee cacct macct moment key) = (version ≡ FEE_VERSION) × (fee ≡ fee_at rate price)
IsOfRate version rate other = Unit {0}

-- the entry may come after these in such a journal
abbrev pub NextUnder : ℕ → ℕ → List Entry → Entry → Type 0
NextUnder version rate H e = LegalAfter H e × IsOfRate version rate e

-- the list is Legal, and such a journal may have each of its entries
pub record LegalUnder (version rate : ℕ) (H : List Entry) : Type 0 where
  pub legal : Legal H
  pub each : AllByRecursion (IsOfRate version rate) H
