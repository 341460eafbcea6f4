-- The words that the program takes.
use Rattle.std.specs.Prelude.{◌≡◌, ◌≢◌, ℕ, ◌*◌, ◌≤◌, ◌<◌, ◌^◌, List, [], ◌∷◌, length, codes, slice_index, slice_index_or, Option, Some, None}
use Rattle.std.specs.List.{AllByRecursion}
use Rattle.std.specs.Fmt.{decimal}
use Rattle.nb_units.specs.declared.limits.TheConstants.{MAX_RATE}
use Rattle.nb_groups.specs.Groups.{AreGroups, groups_text}
use Rattle.nb_play.specs.declared.frames.TheConstants.{MAX_ORDERS}
use Rattle.nb_words.specs.declared.words.TheConstants.{MAX_WORKERS, MAX_LINKS}
use Rattle.nb_words.specs.declared.words.Command.{Command}
use Rattle.nb_words.specs.declared.words.Command.TheVariants.{Init, Batch, Drill, Serve, Migrate, Statement, Judge, Buy, BuyWith, Sell, SellOffers, Credential, Play, Ship, Follow, Promote}

-- the byte of a minus
abbrev pub minus : ℕ
minus = slice_index (codes "-") 0

-- a name is not empty and does not begin with a minus
abbrev pub IsName : List ℕ → Type 0
IsName word = (0 < length word) × (slice_index word 0 ≢ minus)

-- init JOURNAL CAP, or init JOURNAL CAP PERMILLE: the cap is below 2^32, and the rate, if one is named, at most 1,000, both in decimal
abbrev pub IsInit : List (List ℕ) → ℕ → Option ℕ → Type 0
IsInit words cap None = (journal : List ℕ) × (words ≡ codes "init" ∷ journal ∷ decimal cap ∷ []) × IsName journal × (cap < 2 ^ 32)
IsInit words cap (Some rate) =
    (journal : List ℕ) × (words ≡ codes "init" ∷ journal ∷ decimal cap ∷ decimal rate ∷ []) × IsName journal × (cap < 2 ^ 32) × (rate ≤ MAX_RATE)

-- batch JOURNAL
abbrev pub IsBatch : List (List ℕ) → Type 0
IsBatch words = (journal : List ℕ) × (words ≡ codes "batch" ∷ journal ∷ []) × IsName journal

-- drill SEED ORDERS: the seed is below 2^64, and there are at most so many orders, both in decimal
abbrev pub IsDrill : List (List ℕ) → ℕ → ℕ → Type 0
IsDrill words seed orders = (words ≡ codes "drill" ∷ decimal seed ∷ decimal orders ∷ []) × (seed < 2 ^ 64) × (orders ≤ MAX_ORDERS)

-- a server may have so many workers, of so many links each
abbrev pub AreServed : ℕ → ℕ → Type 0
AreServed workers sessions = (1 ≤ workers) × (workers ≤ MAX_WORKERS) × (1 ≤ sessions) × (workers * sessions ≤ MAX_LINKS)

-- serve JOURNAL ADDRESS WORKERS SESSIONS
abbrev pub IsServe : List (List ℕ) → ℕ → ℕ → Type 0
IsServe words workers sessions =
    (journal address : List ℕ) × (words ≡ codes "serve" ∷ journal ∷ address ∷ decimal workers ∷ decimal sessions ∷ [])
    × IsName journal × IsName address × AreServed workers sessions

-- migrate JOURNAL PERMILLE: the rate is at most 1,000, in decimal
abbrev pub IsMigrate : List (List ℕ) → ℕ → Type 0
IsMigrate words rate = (journal : List ℕ) × (words ≡ codes "migrate" ∷ journal ∷ decimal rate ∷ []) × IsName journal × (rate ≤ MAX_RATE)

-- statement JOURNAL ACCT: the account's number is below 2^32, in decimal
abbrev pub IsStatement : List (List ℕ) → ℕ → Type 0
IsStatement words acct = (journal : List ℕ) × (words ≡ codes "statement" ∷ journal ∷ decimal acct ∷ []) × IsName journal × (acct < 2 ^ 32)

-- judge
abbrev pub IsJudge : List (List ℕ) → Type 0
IsJudge words = words ≡ codes "judge" ∷ []

-- NAME WALLET SERVER SELLER MERCHANT PRODUCT LIMIT TID: the merchant's number and the product's are below 2^32, the most that it may cost and the number
-- of the purchase below 2^64, all in decimal
abbrev pub IsPurchase : List ℕ → List (List ℕ) → ℕ → ℕ → ℕ → ℕ → Type 0
IsPurchase name words merchant product limit transaction =
    (wallet server seller : List ℕ) × (words ≡ name ∷ wallet ∷ server ∷ seller ∷ decimal merchant ∷ decimal product ∷ decimal limit ∷ decimal transaction ∷ [])
    × IsName wallet × IsName server × IsName seller × (merchant < 2 ^ 32) × (product < 2 ^ 32) × (limit < 2 ^ 64) × (transaction < 2 ^ 64)

-- a purchase of which nothing is said to the seller
abbrev pub IsBuy : List (List ℕ) → ℕ → ℕ → ℕ → ℕ → Type 0
IsBuy = IsPurchase (codes "buy")

-- a purchase with a request to the seller, which is the input
abbrev pub IsBuyWith : List (List ℕ) → ℕ → ℕ → ℕ → ℕ → Type 0
IsBuyWith = IsPurchase (codes "buywith")

-- NAME STALL ADDRESS SERVER LINKS: the number of the links is below 2^32, in decimal
abbrev pub IsSale : List ℕ → List (List ℕ) → ℕ → Type 0
IsSale name words links =
    (stall address server : List ℕ) × (words ≡ name ∷ stall ∷ address ∷ server ∷ decimal links ∷ [])
    × IsName stall × IsName address × IsName server × (links < 2 ^ 32)

-- a sale of what a shelf has, which is the input
abbrev pub IsSell : List (List ℕ) → ℕ → Type 0
IsSell = IsSale (codes "sell")

-- a sale with offers: the input is offers and a shelf
abbrev pub IsSellOffers : List (List ℕ) → ℕ → Type 0
IsSellOffers = IsSale (codes "selloffers")

-- credential CONSUMER UNTIL GROUPS: the consumer's number is below 2^32 and the last second below 2^64, in decimal; the groups are 1 to 4, each below 2^32 and
-- greater than the one before it, in decimal with commas between them
abbrev pub IsCredential : List (List ℕ) → ℕ → ℕ → List ℕ → Type 0
IsCredential words consumer until groups =
    (words ≡ codes "credential" ∷ decimal consumer ∷ decimal until ∷ groups_text groups ∷ []) × (consumer < 2 ^ 32) × (until < 2 ^ 64) × AreGroups groups

-- play
abbrev pub IsPlay : List (List ℕ) → Type 0
IsPlay words = words ≡ codes "play" ∷ []

-- ship JOURNAL FROM: the place is below 2^64, in decimal
abbrev pub IsShip : List (List ℕ) → ℕ → Type 0
IsShip words from = (journal : List ℕ) × (words ≡ codes "ship" ∷ journal ∷ decimal from ∷ []) × IsName journal × (from < 2 ^ 64)

-- follow JOURNAL
abbrev pub IsFollow : List (List ℕ) → Type 0
IsFollow words = (journal : List ℕ) × (words ≡ codes "follow" ∷ journal ∷ []) × IsName journal

-- promote JOURNAL
abbrev pub IsPromote : List (List ℕ) → Type 0
IsPromote words = (journal : List ℕ) × (words ≡ codes "promote" ∷ journal ∷ []) × IsName journal

-- the words are this command
abbrev pub Are : List (List ℕ) → Command → Type 0
Are words (Init cap rate) = IsInit words cap rate
Are words Batch = IsBatch words
Are words (Drill seed orders) = IsDrill words seed orders
Are words (Serve workers sessions) = IsServe words workers sessions
Are words (Migrate rate) = IsMigrate words rate
Are words (Statement acct) = IsStatement words acct.0
Are words Judge = IsJudge words
Are words (Buy merchant product limit transaction) = IsBuy words merchant.0 product limit.0 transaction
Are words (BuyWith merchant product limit transaction) = IsBuyWith words merchant.0 product limit.0 transaction
Are words (Sell links) = IsSell words links
Are words (SellOffers links) = IsSellOffers words links
Are words (Credential consumer until groups) = IsCredential words consumer.0 until groups
Are words Play = IsPlay words
Are words (Ship from) = IsShip words from
Are words Follow = IsFollow words
Are words Promote = IsPromote words

-- they are some command
abbrev pub IsCommand : List (List ℕ) → Type 0
IsCommand words = (command : Command) × Are words command

-- they are this command, or none
abbrev pub CommandIs : List (List ℕ) → Option Command → Type 0
CommandIs words (Some command) = Are words command
CommandIs words None = IsCommand words → ⊥

-- words at which want of memory may be told: there are some, each is a name, and the first does not ask for help
abbrev pub MayBeRead : List (List ℕ) → Type 0
MayBeRead words = (0 < length words) × AllByRecursion IsName words × (slice_index_or words 0 [] ≢ codes "help")
