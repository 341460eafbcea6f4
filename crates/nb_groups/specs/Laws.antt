-- What holds of every credential, of every list of offers and of every quote.
use Rattle.std.specs.Prelude.{◌≡◌, ◌≢◌, ◌↔◌, ℕ, ◌<◌, ◌≤◌, List, codes, Contains, None, Some, Result, Ok, Err}
use Rattle.std.specs.Borrow.{Bor}
use Rattle.nb_units.specs.Frames.{AreBytes}
use Rattle.nb_units.specs.declared.ids.PartyId.{PartyId}
use Rattle.nb_price.specs.Products.{Product, product_in}
use Rattle.nb_groups.specs.declared.limits.TheConstants.{MAX_GROUPS, CREDENTIAL_BYTES, CREDENTIAL_LABEL, OFFERS_BYTES, COMMA, KEEPER}
use Rattle.nb_groups.specs.declared.found.Offer.{Offer}
use Rattle.nb_groups.specs.declared.membership.Membership.{Membership}
use Rattle.nb_groups.specs.declared.quoting.Denial.{Denial}
use Rattle.nb_groups.specs.declared.quoting.Denial.TheVariants.{NoOffer}
use Rattle.nb_groups.specs.declared.quoting.Quoted.{Quoted}
use Rattle.nb_groups.specs.declared.fault.OffersFault.{OffersFault}
use Rattle.nb_groups.specs.declared.fault.OffersFault.TheVariants.{NoMemory}
use Rattle.nb_groups.specs.Groups.{AreGroups, groups_text}
use Rattle.nb_groups.specs.Spelling.{IsMembership, membership_bytes, credential_of}
use Rattle.nb_groups.specs.Reading.{membership_of, membership_in}
use Rattle.nb_groups.specs.Offers.{Tariff, AreApart, BeginsWith}
use Rattle.nb_groups.specs.Reads.{ReadsOffers, ReadsFront, front_shown}
use Rattle.nb_groups.specs.Quote.{admitted, Carries, quote_of}

-- what was spelled of a membership is read as that membership
abbrev pub MembershipReadsBack : Type 0
MembershipReadsBack = (m : Membership) → IsMembership m → membership_of (membership_bytes m) ≡ Ok m

-- what was read as a membership is spelled as those bytes, and is within its limits
abbrev pub MembershipSpellsBack : Type 0
MembershipSpellsBack = (bytes : List ℕ) (m : Membership) → AreBytes bytes → membership_of bytes ≡ Ok m → IsMembership m × (bytes ≡ membership_bytes m)

-- two memberships with one spelling are one
abbrev pub OneMembership : Type 0
OneMembership = (a b : Membership) → IsMembership a → IsMembership b → membership_bytes a ≡ membership_bytes b → a ≡ b

-- a credential is opened under its keeper's key as what it says
abbrev pub CredentialOpens : Type 0
CredentialOpens = (key : List ℕ) (m : Membership) → IsMembership m → membership_in key (credential_of key m) ≡ Ok m

-- bytes are opened exactly where they are the credential, sealed under the key, of what they say
abbrev pub OpenedExactly : Type 0
OpenedExactly = (key bytes : List ℕ) (m : Membership) → AreBytes bytes → (membership_in key bytes ≡ Ok m) ↔ (IsMembership m × (bytes ≡ credential_of key m))

-- what a credential says is admitted exactly for its consumer, and up to its last second
abbrev pub HoldsUntil : Type 0
HoldsUntil = (m : Membership) (asked : PartyId) (now : ℕ) → (admitted m asked now ≡ Ok m) ↔ ((m.consumer.0 ≡ asked.0) × (now ≤ m.until))

-- two lists of groups with one word are one
abbrev pub OneNaming : Type 0
OneNaming = (a b : List ℕ) → AreGroups a → AreGroups b → groups_text a ≡ groups_text b → a ≡ b

-- what stands at the front of bytes is one offer's line and one rest
abbrev pub OneOffer : Type 0
OneOffer = (bytes : List ℕ) (a b : Offer) (r s : List ℕ) → BeginsWith bytes a r → BeginsWith bytes b s → (a ≡ b) × (r ≡ s)

-- bytes have one reading: two that each have memory are one
abbrev pub OneReading : Type 0
OneReading = (bytes : List ℕ) (a b : Result Tariff OffersFault) → a ≢ Err NoMemory → b ≢ Err NoMemory → ReadsOffers bytes a → ReadsOffers bytes b → a ≡ b

-- and one up to an empty line
abbrev pub OneFront : Type 0
OneFront = (bytes : List ℕ) (a b : Result (Tariff × Bor (List ℕ)) OffersFault) → front_shown a ≢ Err NoMemory → front_shown b ≢ Err NoMemory
    → ReadsFront bytes a → ReadsFront bytes b → front_shown a ≡ front_shown b

-- an offer of the product for one of the groups
abbrev pub IsFor : List Offer → ℕ → List ℕ → Offer → Type 0
IsFor offers product groups o = Contains offers o × (o.product ≡ product) × Contains groups o.group

-- the price is the least of the shelf's and of those of the offers for the groups; no group is told where it is the shelf's, and else the smallest
-- that has it
pub record IsLeast (shelf : ℕ) (offers : List Offer) (product : ℕ) (groups : List ℕ) (q : Quoted) : Type 0 where
  pub below : q.price.0 ≤ shelf
  pub least : (o : Offer) → IsFor offers product groups o → q.price.0 ≤ o.price
  pub shelf_first : q.group ≡ None → q.price.0 ≡ shelf
  pub group : (g : ℕ) → q.group ≡ Some g → (q.price.0 < shelf) × IsFor offers product groups (record { product = product; group = g; price = q.price.0 })
  pub smallest : (g : ℕ) (o : Offer) → q.group ≡ Some g → IsFor offers product groups o → o.price ≡ q.price.0 → g ≤ o.group

-- there is such a product, the request is a credential of the one who asks, and the price is the least of the product's and of those of the offers for
-- the groups of that credential
pub record IsCarried (products : List Product) (tariff : Tariff) (product : ℕ) (asked : PartyId) (request : List ℕ) (now : ℕ) (q : Quoted) : Type 0 where
  pub shelf : Product
  pub found : product_in products product ≡ Some shelf
  pub carries : Carries tariff.keeper asked request now
  pub least : IsLeast shelf.price tariff.offers product carries.says.groups q

-- what is quoted without a denial is that
abbrev pub QuoteIsLeast : Type 0
QuoteIsLeast = (products : List Product) (tariff : Tariff) (product : ℕ) (asked : PartyId) (request : List ℕ) (now : ℕ) (q : Quoted) → AreBytes request → AreApart tariff.offers
    → quote_of products tariff product asked request now ≡ Ok q → q.denied ≡ None → IsCarried products tariff product asked request now q

-- what is quoted with a denial is the shelf's price, of no group
abbrev pub DeniedIsShelf : Type 0
DeniedIsShelf = (products : List Product) (tariff : Tariff) (product : ℕ) (asked : PartyId) (request : List ℕ) (now : ℕ) (q : Quoted) (d : Denial)
    → quote_of products tariff product asked request now ≡ Ok q → q.denied ≡ Some d → (p : Product) × (product_in products product ≡ Some p) × (q.price.0 ≡ p.price) × (q.group ≡ None)

-- who sent a credential that holds is told that there is no offer exactly where there is none of the product for one of its groups
abbrev pub NoOfferExactly : Type 0
NoOfferExactly = (products : List Product) (tariff : Tariff) (product : ℕ) (asked : PartyId) (request : List ℕ) (now : ℕ) (q : Quoted) (m : Membership) → AreApart tariff.offers
    → membership_in tariff.keeper request ≡ Ok m → admitted m asked now ≡ Ok m → quote_of products tariff product asked request now ≡ Ok q
    → (q.denied ≡ Some (NoOffer product)) ↔ ((o : Offer) → ¬ IsFor tariff.offers product m.groups o)

-- the limits in numbers
abbrev pub GroupLimitsAre : Type 0
GroupLimitsAre = (MAX_GROUPS ≡ 4) × (CREDENTIAL_BYTES ≡ 64) × (OFFERS_BYTES ≡ 268435456) × (COMMA ≡ 44)

-- the label and the word of the keeper's line in texts
abbrev pub WordsAre : Type 0
WordsAre = (CREDENTIAL_LABEL ≡ codes "cred") × (KEEPER ≡ codes "keeper ")
