-- What a world is made of, when it may be, and the world that it makes.
use Rattle.std.specs.Prelude.{◌≡◌, ℕ, ◌<◌, ◌≤◌, ◌^◌, ◌==◌, ◌&&◌, Bool, true, false, List, [], ◌∷◌, ◌++◌, length, map, is_none, Option, Some, None, Result, Ok, Err, ⊤}
use Rattle.std.specs.List.{position, AllByRecursion}
use Rattle.std.specs.Str.{bytes_eq}
use Rattle.nb_units.specs.Charter.{MayRule}
use Rattle.nb_units.specs.declared.ids.AcctId.{AcctId}
use Rattle.nb_units.specs.declared.limits.TheConstants.{MAX_CAP}
use Rattle.nb_entry.specs.declared.entry.Entry.{Entry}
use Rattle.nb_entry.specs.declared.entry.TheConstants.{CONSUMER, MERCHANT}
use Rattle.nb_book.specs.declared.party.Party.{Party}
use Rattle.nb_book.specs.Ledger.{Ledger}
use Rattle.nb_book.specs.Legal.{LegalUnder}
use Rattle.nb_book.specs.Searches.{party_in}
use Rattle.nb_price.specs.Products.{Product}
use Rattle.nb_escrow.specs.declared.head.Head.{Head}
use Rattle.nb_escrow.specs.Head.{head_of}
use Rattle.nb_wallet.specs.declared.wallet.Wallet.{Wallet}
use Rattle.nb_consumer.specs.State.{Buyer, new_buyer}
use Rattle.nb_stall.specs.declared.stall.Stall.{Stall}
use Rattle.nb_merchant.specs.Shop.{Shop, new_shop}
use Rattle.nb_simulator.specs.declared.setup.Setup.{Setup}
use Rattle.nb_simulator.specs.declared.setup.SetupFault.{SetupFault}
use Rattle.nb_simulator.specs.declared.setup.SetupFault.TheVariants as fault
use Rattle.nb_simulator.specs.Worlds.{Simulated}

-- ---- who is enrolled

-- it is the nonce that is said, where one is
abbrev pub is_nonce : Option ℕ → ℕ → Bool
is_nonce None nonce = true
is_nonce (Some n) nonce = nonce == n

-- a party is enrolled in this role, with this account, this nonce where one is said, and this key
abbrev pub is_enrolled : Option Party → ℕ → AcctId → Option ℕ → List ℕ → Bool
is_enrolled None role acct expected key = false
is_enrolled (Some p) role acct expected key = p.role == role && p.acct.0 == acct.0 && is_nonce expected p.nonce && bytes_eq p.key key

-- each consumer is enrolled as it is listed, and its number is none of those listed before it
abbrev pub wallets_may : List Entry → List Buyer → List Wallet → Bool
wallets_may H before [] = true
wallets_may H before (w ∷ ws) = is_enrolled (party_in H w.id) CONSUMER w.acct (Some w.nonce) w.key && is_none (position (λ (b : Buyer). b.wallet.id.0 == w.id.0) before)
    && wallets_may H (before ++ new_buyer w ∷ []) ws

-- the merchant of a stall and its catalogue, without offers for groups
abbrev pub shop_of : Stall × List Product → Shop
shop_of seller = new_shop seller.0 seller.1 None

-- so is each merchant
abbrev pub stalls_may : List Entry → List Shop → List (Stall × List Product) → Bool
stalls_may H before [] = true
stalls_may H before (seller ∷ sellers) = is_enrolled (party_in H seller.0.id) MERCHANT seller.0.acct None seller.0.key && is_none (position (λ (s : Shop). s.stall.id.0 == seller.0.id.0) before)
    && stalls_may H (before ++ shop_of seller ∷ []) sellers

-- ---- a set-up

-- the numbers of a stall have their widths
abbrev pub StallFits : Stall → Type 0
StallFits s = (s.id.0 < 2 ^ 32) × (s.acct.0 < 2 ^ 32)

-- so have those of each merchant's stall
abbrev pub SellersFit : List (Stall × List Product) → Type 0
SellersFit sellers = AllByRecursion (λ (seller : Stall × List Product). StallFits seller.0) sellers

-- it is as it must be: a house may decide under its version and rate, its cap is within its limits, its entries are Legal under these and at most as many
-- as the cap, and each who buys or sells is listed once, and enrolled as it is there
pub record IsLawful (s : Setup) : Type 0 where
  pub ruling : MayRule s.version s.rate
  pub some : 1 ≤ s.cap
  pub most : s.cap ≤ MAX_CAP
  pub within : length s.entries.items ≤ s.cap
  pub legal : LegalUnder s.version s.rate s.entries.items
  pub consumers : wallets_may s.entries.items [] s.consumers.items ≡ true
  pub merchants : stalls_may s.entries.items [] s.merchants.items ≡ true

-- the world before anything happened in it
abbrev pub world_of : Setup → Simulated
world_of s = record {
  head = head_of (record { head = s.head; version = s.version; rate = s.rate });
  cap = s.cap;
  world = record {
    consumers = map new_buyer s.consumers.items;
    merchants = map shop_of s.merchants.items;
    packets = [];
    calls = [];
    turn = None;
    durable = s.entries.items;
    server = s.entries.items;
    origins = [];
    acknowledged = [];
    moment = 0;
  };
}

-- a lawful set-up made its world; one that is not lawful was refused; of want of memory nothing is said
abbrev pub Sets : Setup → Result Simulated SetupFault → Type 0
Sets s (Ok made) = IsLawful s × (made ≡ world_of s)
Sets s (Err fault.Unlawful) = IsLawful s → ⊥
Sets s (Err fault.NoMemory) = ⊤

-- ---- for the contracts of private functions alone

-- something was made exactly where it may be
abbrev pub Makes : {A : Type 0} → Bool → A → Option A → Type 0
Makes may value (Some made) = (may ≡ true) × (made ≡ value)
Makes may value None = may ≡ false

-- a book was filled exactly where the entries are Legal under the version and the rate, and at most as many as the cap
abbrev pub Fills : Head → ℕ → List Entry → Option Ledger → Type 0
Fills head cap entries (Some book) = (book.entries ≡ entries) × (book.cap ≡ cap) × LegalUnder head.version head.rate entries × (length entries ≤ cap)
Fills head cap entries None = LegalUnder head.version head.rate entries → length entries ≤ cap → ⊥
