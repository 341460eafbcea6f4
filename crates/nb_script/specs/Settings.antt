-- What lines set up, which line may stand behind those before it, and what is set up then.
use Rattle.std.specs.Prelude.{◌≡◌, ℕ, ◌+◌, ◌<◌, ◌≤◌, ◌==◌, ◌&&◌, Bool, true, false, List, [], ◌∷◌, ◌++◌, length, Option, Some, None, ⊤}
use Rattle.std.specs.Int.{w128, to_be_bytes}
use Rattle.std.specs.List.{list_any, sum_by}
use Rattle.nb_units.specs.declared.ids.AcctId.{AcctId}
use Rattle.nb_units.specs.declared.ids.PartyId.{PartyId}
use Rattle.nb_units.specs.declared.limits.TheConstants.{FIRST_VERSION}
use Rattle.nb_entry.specs.declared.entry.Entry.{Entry}
use Rattle.nb_entry.specs.declared.entry.Entry.TheVariants.{Enrol, Fund}
use Rattle.nb_entry.specs.declared.entry.TheConstants.{CONSUMER, MERCHANT}
use Rattle.nb_book.specs.declared.limits.TheConstants.{MAX_PRICE}
use Rattle.nb_book.specs.declared.party.Party.{Party}
use Rattle.nb_book.specs.Legal.{NextUnder}
use Rattle.nb_book.specs.Searches.{party_in}
use Rattle.nb_script.specs.declared.act.Act.{Act}
use Rattle.nb_script.specs.declared.act.Act.TheVariants as on
use Rattle.nb_script.specs.declared.act.Addressee.{Addressee}
use Rattle.nb_script.specs.declared.act.Addressee.TheVariants as to
use Rattle.nb_script.specs.declared.limits.TheConstants.{MAX_ALL_GOODS, MAX_LENGTH}
use Rattle.nb_script.specs.declared.line.Consumer.{Consumer}
use Rattle.nb_script.specs.declared.line.Merchant.{Merchant}
use Rattle.nb_script.specs.declared.line.Line.{Line}
use Rattle.nb_script.specs.declared.line.Line.TheVariants as line
use Rattle.nb_script.specs.declared.line.Shelf.{Shelf}
use Rattle.nb_script.specs.declared.script.Script.{Script}

-- the house's head and its cap, the entries of its list, who buys and who sells, what is sold, and what happens, in order
pub record Setting : Type 0 where
  pub head : List ℕ
  pub cap : ℕ
  pub entries : List Entry
  pub consumers : List Consumer
  pub merchants : List Merchant
  pub shelves : List Shelf
  pub acts : List Act

-- that of a script
abbrev pub setting_of : Script → Setting
setting_of s = record {
  head = s.head;
  cap = s.cap;
  entries = s.entries.items;
  consumers = s.consumers.items;
  merchants = s.merchants.items;
  shelves = s.shelves.items;
  acts = s.acts.items;
}

-- the one of a house's head and cap alone
abbrev pub bare : List ℕ → ℕ → Setting
bare head cap = record { head = head; cap = cap; entries = []; consumers = []; merchants = []; shelves = []; acts = [] }

-- ---- entries

-- the entry that enrols a consumer
abbrev pub consumer_entry : Consumer → Entry
consumer_entry w = Enrol w.id CONSUMER w.acct w.nonce w.key

-- the one that enrols a merchant: its nonce is 0
abbrev pub merchant_entry : Merchant → Entry
merchant_entry s = Enrol s.id MERCHANT s.acct 0 s.key

-- the one that funds an account: its reference is the number of its line in 16 bytes
abbrev pub fund_entry : ℕ → AcctId → ℕ → Entry
fund_entry number acct amount = Fund acct amount (to_be_bytes w128 number)

-- the entry may come next in the house's list, by what the house itself tests, and there is room for it
abbrev pub MayEnter : Setting → Entry → Type 0
MayEnter s e = NextUnder FIRST_VERSION 0 s.entries e × (length s.entries < s.cap)

-- ---- parties

-- a party that was found is enrolled in this role
abbrev pub is_role : ℕ → Option Party → Bool
is_role role None = false
is_role role (Some p) = p.role == role

-- the party of this number is enrolled in this role
abbrev pub has_role : List Entry → ℕ → PartyId → Bool
has_role entries role id = is_role role (party_in entries id)

-- so is whom a packet is for, where it is not for the house
abbrev pub is_addressee : List Entry → Addressee → Bool
is_addressee entries to.Server = true
is_addressee entries (to.Consumer id) = has_role entries CONSUMER id
is_addressee entries (to.Merchant id) = has_role entries MERCHANT id

-- each party that is named is enrolled in the role in which it is named
abbrev pub names_parties : List Entry → Act → Bool
names_parties entries (on.Buy consumer tid merchant product limit) = has_role entries CONSUMER consumer && has_role entries MERCHANT merchant
names_parties entries (on.QuietConsumer consumer tid) = has_role entries CONSUMER consumer
names_parties entries (on.QuietMerchant merchant consumer tid) = has_role entries CONSUMER consumer && has_role entries MERCHANT merchant
names_parties entries (on.RestartConsumer consumer) = has_role entries CONSUMER consumer
names_parties entries (on.RestartMerchant merchant) = has_role entries MERCHANT merchant
names_parties entries (on.Inject whom kind body) = is_addressee entries whom
names_parties entries other = true

-- ---- what is sold

-- it is the merchant's product of this number
abbrev pub is_of : PartyId → ℕ → Shelf → Bool
is_of merchant product x = x.merchant.0 == merchant.0 && product == x.product

-- the bytes of all goods
abbrev pub all_goods : List Shelf → ℕ
all_goods shelves = sum_by (λ (x : Shelf). x.length) shelves

-- its price and the length of its goods are within their limits
abbrev pub IsShelf : Shelf → Type 0
IsShelf x = (1 ≤ x.price.0) × (x.price.0 ≤ MAX_PRICE) × (x.length ≤ MAX_LENGTH)

-- each shelf is within its limits, and is of another merchant or another product than those before it
abbrev pub AreShelvesBehind : List Shelf → List Shelf → Type 0
AreShelvesBehind before [] = ⊤
AreShelvesBehind before (x ∷ shelves) = IsShelf x × (list_any (is_of x.merchant x.product) before ≡ false) × AreShelvesBehind (before ++ x ∷ []) shelves

-- so is each of all
abbrev pub AreShelves : List Shelf → Type 0
AreShelves shelves = AreShelvesBehind [] shelves

-- and all goods together stay within their limit
abbrev pub AreSold : List Shelf → Type 0
AreSold shelves = AreShelves shelves × (all_goods shelves ≤ MAX_ALL_GOODS)

-- it is within its limits; the merchant is there and sells no product of this number yet; and all goods together stay within their limit
abbrev pub MaySell : Setting → Shelf → Type 0
MaySell s x = IsShelf x × (has_role s.entries MERCHANT x.merchant ≡ true) × (list_any (is_of x.merchant x.product) s.shelves ≡ false) × (all_goods s.shelves + x.length ≤ MAX_ALL_GOODS)

-- ---- a line

-- it lets something happen, and does not set the clock alone
abbrev pub begins : Act → Bool
begins (on.Clock moment) = false
begins other = true

-- some line did so: what is set up stands before it
abbrev pub has_begun : List Act → Bool
has_begun acts = list_any begins acts

-- the line may stand as the one of this number
abbrev pub MayFollow : Setting → ℕ → Line → Type 0
MayFollow s number (line.Consumer w) = (has_begun s.acts ≡ false) × MayEnter s (consumer_entry w)
MayFollow s number (line.Merchant m) = (has_begun s.acts ≡ false) × MayEnter s (merchant_entry m)
MayFollow s number (line.Fund acct amount) = (has_begun s.acts ≡ false) × MayEnter s (fund_entry number acct amount)
MayFollow s number (line.Shelf x) = (has_begun s.acts ≡ false) × MaySell s x
MayFollow s number (line.Does a) = names_parties s.entries a ≡ true

-- what is set up behind it
abbrev pub behind : Setting → ℕ → Line → Setting
behind s number (line.Consumer w) = record s { entries = s.entries ++ consumer_entry w ∷ []; consumers = s.consumers ++ w ∷ [] }
behind s number (line.Merchant m) = record s { entries = s.entries ++ merchant_entry m ∷ []; merchants = s.merchants ++ m ∷ [] }
behind s number (line.Fund acct amount) = record s { entries = s.entries ++ fund_entry number acct amount ∷ [] }
behind s number (line.Shelf x) = record s { shelves = s.shelves ++ x ∷ [] }
behind s number (line.Does a) = record s { acts = s.acts ++ a ∷ [] }

-- ---- for the contract of a private function alone

-- a line was taken exactly where it may stand
abbrev pub Takes : Setting → ℕ → Line → Setting → Bool → Type 0
Takes s number l t true = MayFollow s number l × (t ≡ behind s number l)
Takes s number l t false = ¬ MayFollow s number l
