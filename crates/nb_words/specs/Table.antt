-- The table of the commands as clap has it, and what clap tells of words.
use Rattle.std.specs.Prelude.{◌≡◌, ℕ, Bool, true, false, ◌++◌, ◌≤◌, ◌<◌, ◌^◌, List, [], ◌∷◌, map, codes, Option, Some, None}
use Rattle.std.specs.Fmt.{decimal}
use Rattle.clap.specs.Walk.{Row, Rule, Text, first_of}
use Rattle.clap.specs.Simple.{App, Shape, new_rule, new_shape, on_top, with_subcommand}
use Rattle.nb_units.specs.declared.limits.TheConstants.{MAX_RATE}
use Rattle.nb_groups.specs.Groups.{AreGroups, groups_text}
use Rattle.nb_play.specs.declared.frames.TheConstants.{MAX_ORDERS}
use Rattle.nb_words.specs.declared.words.Command.{Command}
use Rattle.nb_words.specs.declared.words.Command.TheVariants.{Init, Batch, Drill, Serve, Migrate, Statement, Judge, Buy, BuyWith, Sell, SellOffers, Credential, Play, Ship, Follow, Promote}
use Rattle.nb_words.specs.Words.{AreServed}

-- ---- for the contracts of private functions alone

-- a position that has to be there or may be missing, read as a text
abbrev pub position : Bool → Text → Rule
position required id = record (new_rule id) { required = required }

-- a command with this name, the positions that have to be there, and behind them those that may be missing
abbrev pub shape : Text → List Text → List Text → Shape
shape name needed optional = record (new_shape name) { rules = map (position true) needed ++ map (position false) optional }

-- a command with these positions behind its own
abbrev pub with_positions : App → List Text → Bool → App
with_positions command ids required = on_top (λ s. record s { rules = s.rules ++ map (position required) ids }) command

-- the program without commands: nothing but a command is asked for, and clap adds none
abbrev pub bare : App
bare = record {
  top = record (new_shape (codes "netbill")) { no_binary_name = true; disable_help_flag = true; disable_help_subcommand = true; subcommand_required = true };
  subs = [];
}

-- with the first three commands
abbrev pub first_commands : App
first_commands =
    with_subcommand
    (with_subcommand
    (with_subcommand bare
    (shape (codes "init") (codes "JOURNAL" ∷ codes "CAP" ∷ []) (codes "PERMILLE" ∷ [])))
    (shape (codes "batch") (codes "JOURNAL" ∷ []) []))
    (shape (codes "drill") (codes "SEED" ∷ codes "ORDERS" ∷ []) [])

-- with four more behind these
abbrev pub with_house_commands : App → App
with_house_commands commands =
    with_subcommand
    (with_subcommand
    (with_subcommand
    (with_subcommand commands
    (shape (codes "serve") (codes "JOURNAL" ∷ codes "ADDRESS" ∷ codes "WORKERS" ∷ codes "SESSIONS" ∷ []) []))
    (shape (codes "migrate") (codes "JOURNAL" ∷ codes "PERMILLE" ∷ []) []))
    (shape (codes "statement") (codes "JOURNAL" ∷ codes "ACCT" ∷ []) []))
    (shape (codes "judge") [] [])

-- the positions of the commands of a purchase
abbrev pub buy_positions : List Text
buy_positions = codes "WALLET" ∷ codes "SERVER" ∷ codes "SELLER" ∷ codes "MERCHANT" ∷ codes "PRODUCT" ∷ codes "LIMIT" ∷ codes "TID" ∷ []

-- the positions of the commands of a sale
abbrev pub sell_positions : List Text
sell_positions = codes "STALL" ∷ codes "ADDRESS" ∷ codes "SERVER" ∷ codes "LINKS" ∷ []

-- with these
abbrev pub with_party_commands : App → App
with_party_commands commands =
    with_subcommand
    (with_subcommand
    (with_subcommand
    (with_subcommand
    (with_subcommand commands
    (shape (codes "buy") buy_positions []))
    (shape (codes "sell") sell_positions []))
    (shape (codes "credential") (codes "CONSUMER" ∷ codes "UNTIL" ∷ codes "GROUPS" ∷ []) []))
    (shape (codes "buywith") buy_positions []))
    (shape (codes "selloffers") sell_positions [])

-- the position of a command of a journal alone
abbrev pub journal_position : List Text
journal_position = codes "JOURNAL" ∷ []

-- with these
abbrev pub with_standby_commands : App → App
with_standby_commands commands =
    with_subcommand
    (with_subcommand
    (with_subcommand commands
    (shape (codes "ship") (codes "JOURNAL" ∷ codes "FROM" ∷ []) []))
    (shape (codes "follow") journal_position []))
    (shape (codes "promote") journal_position [])

-- with all of them
abbrev pub program : App
program = with_standby_commands (with_subcommand (with_party_commands (with_house_commands first_commands)) (shape (codes "play") [] []))

-- a number that is at most this was read at a position
abbrev pub IsSmallAt : Text → List Row → ℕ → ℕ → Type 0
IsSmallAt position rows most n = (first_of position rows ≡ Some (decimal n)) × (n ≤ most)

-- a number for a cap was read
abbrev pub InitIn : List Row → ℕ → Type 0
InitIn rows cap = (first_of (codes "CAP") rows ≡ Some (decimal cap)) × (cap < 2 ^ 32)

-- numbers for a drill were read
abbrev pub DrillIn : List Row → ℕ → ℕ → Type 0
DrillIn rows seed orders =
    (first_of (codes "SEED") rows ≡ Some (decimal seed)) × (first_of (codes "ORDERS") rows ≡ Some (decimal orders)) × (seed < 2 ^ 64) × (orders ≤ MAX_ORDERS)

-- numbers for a server were read
abbrev pub ServeIn : List Row → ℕ → ℕ → Type 0
ServeIn rows workers sessions =
    (first_of (codes "WORKERS") rows ≡ Some (decimal workers)) × (first_of (codes "SESSIONS") rows ≡ Some (decimal sessions)) × AreServed workers sessions

-- a number for an account was read
abbrev pub StatementIn : List Row → ℕ → Type 0
StatementIn rows acct = (first_of (codes "ACCT") rows ≡ Some (decimal acct)) × (acct < 2 ^ 32)

-- a place was read
abbrev pub ShipIn : List Row → ℕ → Type 0
ShipIn rows from = (first_of (codes "FROM") rows ≡ Some (decimal from)) × (from < 2 ^ 64)

-- numbers for a purchase were read
abbrev pub BuyIn : List Row → ℕ → ℕ → ℕ → ℕ → Type 0
BuyIn rows merchant product limit transaction =
    (first_of (codes "MERCHANT") rows ≡ Some (decimal merchant)) × (first_of (codes "PRODUCT") rows ≡ Some (decimal product))
    × (first_of (codes "LIMIT") rows ≡ Some (decimal limit)) × (first_of (codes "TID") rows ≡ Some (decimal transaction))
    × (merchant < 2 ^ 32) × (product < 2 ^ 32) × (limit < 2 ^ 64) × (transaction < 2 ^ 64)

-- a number of links was read
abbrev pub SellIn : List Row → ℕ → Type 0
SellIn rows links = (first_of (codes "LINKS") rows ≡ Some (decimal links)) × (links < 2 ^ 32)

-- a consumer, a last second and groups were read
abbrev pub CredentialIn : List Row → ℕ → ℕ → List ℕ → Type 0
CredentialIn rows consumer until groups =
    (first_of (codes "CONSUMER") rows ≡ Some (decimal consumer)) × (first_of (codes "UNTIL") rows ≡ Some (decimal until)) × (first_of (codes "GROUPS") rows ≡ Some (groups_text groups))
    × (consumer < 2 ^ 32) × (until < 2 ^ 64) × AreGroups groups

-- no rate was read, or one of at most 1,000
abbrev pub RateIn : List Row → Option ℕ → Type 0
RateIn rows None = first_of (codes "PERMILLE") rows ≡ None
RateIn rows (Some rate) = IsSmallAt (codes "PERMILLE") rows MAX_RATE rate

-- the command is a server whose numbers were read
abbrev pub IsServerIn : List Row → Command → Type 0
IsServerIn rows (Serve workers sessions) = ServeIn rows workers sessions
IsServerIn rows other = ⊥

-- the command is a credential whose numbers were read
abbrev pub IsCredentialIn : List Row → Command → Type 0
IsCredentialIn rows (Credential consumer until groups) = CredentialIn rows consumer.0 until groups
IsCredentialIn rows other = ⊥

-- the command in what was read: its name, and what stands at its positions
abbrev pub CommandIn : Option (Text × List Row) → Option Command → Type 0
CommandIn told (Some (Init cap rate)) = (rows : List Row) × (told ≡ Some (codes "init", rows)) × InitIn rows cap × RateIn rows rate
CommandIn told (Some Batch) = (rows : List Row) × (told ≡ Some (codes "batch", rows))
CommandIn told (Some (Drill seed orders)) = (rows : List Row) × (told ≡ Some (codes "drill", rows)) × DrillIn rows seed orders
CommandIn told (Some (Serve workers sessions)) = (rows : List Row) × (told ≡ Some (codes "serve", rows)) × ServeIn rows workers sessions
CommandIn told (Some (Migrate rate)) = (rows : List Row) × (told ≡ Some (codes "migrate", rows)) × IsSmallAt (codes "PERMILLE") rows MAX_RATE rate
CommandIn told (Some (Statement acct)) = (rows : List Row) × (told ≡ Some (codes "statement", rows)) × StatementIn rows acct.0
CommandIn told (Some Judge) = (rows : List Row) × (told ≡ Some (codes "judge", rows))
CommandIn told (Some (Buy merchant product limit transaction)) = (rows : List Row) × (told ≡ Some (codes "buy", rows)) × BuyIn rows merchant.0 product limit.0 transaction
CommandIn told (Some (Sell links)) = (rows : List Row) × (told ≡ Some (codes "sell", rows)) × SellIn rows links
CommandIn told (Some (Credential consumer until groups)) = (rows : List Row) × (told ≡ Some (codes "credential", rows)) × CredentialIn rows consumer.0 until groups
CommandIn told (Some (BuyWith merchant product limit transaction)) = (rows : List Row) × (told ≡ Some (codes "buywith", rows)) × BuyIn rows merchant.0 product limit.0 transaction
CommandIn told (Some (SellOffers links)) = (rows : List Row) × (told ≡ Some (codes "selloffers", rows)) × SellIn rows links
CommandIn told (Some Play) = (rows : List Row) × (told ≡ Some (codes "play", rows))
CommandIn told (Some (Ship from)) = (rows : List Row) × (told ≡ Some (codes "ship", rows)) × ShipIn rows from
CommandIn told (Some Follow) = (rows : List Row) × (told ≡ Some (codes "follow", rows))
CommandIn told (Some Promote) = (rows : List Row) × (told ≡ Some (codes "promote", rows))
CommandIn told None =
    ((rows : List Row) (cap : ℕ) (rate : Option ℕ) → told ≡ Some (codes "init", rows) → InitIn rows cap → RateIn rows rate → ⊥)
    × ((rows : List Row) → told ≡ Some (codes "batch", rows) → ⊥)
    × ((rows : List Row) (seed orders : ℕ) → told ≡ Some (codes "drill", rows) → DrillIn rows seed orders → ⊥)
    × ((rows : List Row) (workers sessions : ℕ) → told ≡ Some (codes "serve", rows) → ServeIn rows workers sessions → ⊥)
    × ((rows : List Row) (rate : ℕ) → told ≡ Some (codes "migrate", rows) → IsSmallAt (codes "PERMILLE") rows MAX_RATE rate → ⊥)
    × ((rows : List Row) (acct : ℕ) → told ≡ Some (codes "statement", rows) → StatementIn rows acct → ⊥)
    × ((rows : List Row) → told ≡ Some (codes "judge", rows) → ⊥)
    × ((rows : List Row) (merchant product limit transaction : ℕ) → told ≡ Some (codes "buy", rows) → BuyIn rows merchant product limit transaction → ⊥)
    × ((rows : List Row) (links : ℕ) → told ≡ Some (codes "sell", rows) → SellIn rows links → ⊥)
    × ((rows : List Row) (consumer until : ℕ) (groups : List ℕ) → told ≡ Some (codes "credential", rows) → CredentialIn rows consumer until groups → ⊥)
    × ((rows : List Row) (merchant product limit transaction : ℕ) → told ≡ Some (codes "buywith", rows) → BuyIn rows merchant product limit transaction → ⊥)
    × ((rows : List Row) (links : ℕ) → told ≡ Some (codes "selloffers", rows) → SellIn rows links → ⊥)
    × ((rows : List Row) → told ≡ Some (codes "play", rows) → ⊥)
    × ((rows : List Row) (from : ℕ) → told ≡ Some (codes "ship", rows) → ShipIn rows from → ⊥)
    × ((rows : List Row) → told ≡ Some (codes "follow", rows) → ⊥)
    × ((rows : List Row) → told ≡ Some (codes "promote", rows) → ⊥)
