-- The words of the program, all of them: what clap takes and reads is a command, and each command is taken.
use Rattle.std.proofs.Common.{◌≡◌, ℕ, ◌<◌, ◌≤◌, ◌*◌, ◌^◌, ◌⊎◌, Bool, List, [], ◌∷◌, ◌++◌, true, false, true≢false, refl, ap, sym, ◌∙◌, subst, codes, length, map, Option, Some, None, is_some, arith, inl, inr}
use Rattle.std.specs.Prelude.{Result, Ok, Err, IfOk, IsErr, find, option_map}
use Rattle.std.specs.List.{AllByRecursion}
use Rattle.std.specs.Str.{bytes_eq}
use Rattle.std.specs.Fmt.{decimal}
use Rattle.std.proofs.lemmas.Bool.{false≢true}
use Rattle.std.proofs.lemmas.Option.{same_Some}
use Rattle.std.proofs.lemmas.Slice.Eq.{bytes_eq-Decides}
use Rattle.clap.specs.Walk.{Names, Row, Text, answers_to, idle, walk, walked, walk_from, nothing_held, first_of, subcommand_met, settled, finished}
use Rattle.clap.specs.Simple.{built, entered}
use Rattle.clap.specs.Kinds.{Kinds, HasKind, or_else}
use Rattle.clap.specs.declared.error.Error.{Error}
use Rattle.clap.specs.Faults.{fault_of, walk_fault, entered_fault, settle_fault, defaults_fault, check_fault}
use Rattle.clap.specs.Words.{subcommand_of, kind_of}
use Rattle.clap.specs.declared.error.kind.ErrorKind.TheVariants.{UnknownArgument, InvalidSubcommand, OutOfMemory}
use Rattle.clap.proofs.OnLiterals.{clap_on_literals}
use Rattle.nb_words.specs.declared.words.Command.{Command}
use Rattle.nb_words.specs.declared.words.Command.TheVariants.{Init, Batch, Drill, Serve, Migrate, Statement, Judge, Buy, BuyWith, Sell, SellOffers, Credential, Play, Ship, Follow, Promote}
use Rattle.nb_groups.specs.Groups.{AreGroups, groups_text}
use Rattle.nb_words.specs.Words.{IsName, IsInit, IsPurchase, IsSale, IsCredential, Are, IsCommand, CommandIs}
use Rattle.nb_words.specs.Table.{program, buy_positions, sell_positions, InitIn, RateIn, BuyIn, SellIn, CredentialIn, CommandIn}
use Rattle.nb_words.proofs.Reading.{IsNamed, names, turned, entered_as}
use Rattle.nb_words.proofs.Commands.{begins, not_nothing, faulty, number_named, init_named, AreInit, init_fits, init_read, init_all_read, batch_named, follow_named, promote_named, journal_fits, journal_read, drill_named, drill_fits, drill_read, serve_named, serve_fits, serve_read, migrate_named, migrate_fits, migrate_read, statement_named, statement_fits, statement_read, judge_named, judge_fits, judge_read, play_named, play_fits, play_read, ship_named, ship_fits, ship_read}
use Rattle.nb_words.proofs.Buying.{buy_named, buywith_named, buy_fits, buy_read}
use Rattle.nb_words.proofs.Selling.{sell_named, selloffers_named, sell_fits, sell_read}
use Rattle.nb_words.proofs.Granting.{credential_named, credential_fits, credential_read}

-- ---- a first word that is no command's

-- the names of the commands, in the order of the table
abbrev commands : List Text
commands =
    codes "init" ∷ codes "batch" ∷ codes "drill" ∷ codes "serve" ∷ codes "migrate" ∷ codes "statement" ∷ codes "judge" ∷ codes "buy" ∷ codes "sell" ∷ codes "credential" ∷ codes "buywith" ∷ codes "selloffers" ∷ codes "play" ∷ codes "ship" ∷ codes "follow" ∷ codes "promote" ∷ []

-- a command has no other names
abbrev labels : List Text → Names
labels cs = map (λ (c : Text). let label : Text × List Text = (c, []) in label) cs

names_are : names ≡ labels commands
unfolding clap_on_literals
names_are = refl

-- a word is one of these, of each of which this holds, or it is none of their names
one_of : (P : Text → Type 0) (cs : List Text) (w : Text) → AllByRecursion P cs → P w ⊎ (find (answers_to w) (labels cs) ≡ None)
one_of P [] w all = inr refl
one_of P (c ∷ cs) w all = by (bytes_eq c w) refl (one_of P cs w all.1)
  where
    by : (same : Bool) → bytes_eq c w ≡ same → P w ⊎ (find (answers_to w) (labels cs) ≡ None) → P w ⊎ (find (answers_to w) (labels (c ∷ cs)) ≡ None)
    by true e rest = inl (subst P ((bytes_eq-Decides c w).0 e) all.0)
    by false e (inl is) = inl is
    by false e (inr none) = inr (rw e none)

refused : (x : ℕ) (xs : Text) (words : List Text) → IsName (x ∷ xs) → subcommand_met names idle (x ∷ xs) ≡ None → fault_of program ((x ∷ xs) ∷ words) ≡ [] → ⊥
unfolding walk_fault
refused x xs words is met none =
    let s = (built program).top in
    let end = walk s.rules names nothing_held ((x ∷ xs) ∷ words) in
    faulty UnknownArgument (InvalidSubcommand ∷ []) (fault_of program ((x ∷ xs) ∷ words))
    (ap (λ (k : Kinds). or_else (or_else k (walk_fault s names (walked s.rules names (walk_from nothing_held) (x ∷ xs)) words))
    (or_else (entered_fault (built program) end.stopped) (or_else (settle_fault s.rules s.args_override_self end.held)
    (or_else (defaults_fault (settled s.rules end.held).rows s.rules) (check_fault s (finished s.rules end.held) (is_some (entered (built program) end.stopped)))))))
    (turned names x xs (begins x xs is) met s 1 nothing_held)) none

-- a command of this name was met behind which these words stand
abbrev IsEntered : List Text → Text → Type 0
IsEntered words name = (rows : List Row) × (subcommand_of program (name ∷ words) ≡ Some (name, rows))

entered_each : (words : List Text) → AllByRecursion (IsEntered words) commands
entered_each words =
    ((_, entered_as (codes "init") _ _ init_named words), ((_, entered_as (codes "batch") _ _ batch_named words), ((_, entered_as (codes "drill") _ _ drill_named words), ((_, entered_as (codes "serve") _ _ serve_named words), ((_, entered_as (codes "migrate") _ _ migrate_named words), ((_, entered_as (codes "statement") _ _ statement_named words), ((_, entered_as (codes "judge") _ _ judge_named words), ((_, entered_as (codes "buy") _ _ buy_named words), ((_, entered_as (codes "sell") _ _ sell_named words), ((_, entered_as (codes "credential") _ _ credential_named words), ((_, entered_as (codes "buywith") _ _ buywith_named words), ((_, entered_as (codes "selloffers") _ _ selloffers_named words), ((_, entered_as (codes "play") _ _ play_named words), ((_, entered_as (codes "ship") _ _ ship_named words), ((_, entered_as (codes "follow") _ _ follow_named words), ((_, entered_as (codes "promote") _ _ promote_named words), tt))))))))))))))))

-- what was told names the first word
named_by : (words : List Text) → AllByRecursion IsName words → 0 < length words → fault_of program words ≡ [] → (name : Text) (rows : List Row) → subcommand_of program words ≡ Some (name, rows)
    → (behind : List Text) × (words ≡ name ∷ behind) × AllByRecursion IsName behind
named_by [] all some none name rows told = absurd (omega (arith, some))
named_by ([] ∷ words) all some none name rows told = absurd (not_nothing all.0)
named_by ((x ∷ xs) ∷ words) all some none name rows told = by (one_of (IsEntered words) commands (x ∷ xs) (entered_each words))
  where
    by : IsEntered words (x ∷ xs) ⊎ (find (answers_to (x ∷ xs)) (labels commands) ≡ None) → (behind : List Text) × ((x ∷ xs) ∷ words ≡ name ∷ behind) × AllByRecursion IsName behind
    by (inl entered) = (words, ap (λ (p : Text × List Row). p.0 ∷ words) (same_Some _ _ (sym entered.1 ∙ told)), all.1)
    by (inr stranger) =
        absurd
        (refused x xs words all.0
        (ap (λ (ns : Names). option_map (λ (s : Text × List Text). s.0) (find (answers_to (x ∷ xs)) ns)) names_are ∙ ap (option_map (λ (s : Text × List Text). s.0)) stranger) none)

-- ---- each command is taken

-- as many links as a server takes at most are few
pub sessions_small : (workers sessions : ℕ) → 1 ≤ workers → workers * sessions ≤ 10000 → sessions < 2 ^ 64
sessions_small workers sessions some few = omega (arith, mul_least workers sessions some, few)
  where
    mul_least : (w s : ℕ) → 1 ≤ w → s ≤ w * s
    mul_least w s some = search (arith, some)

abbrev IsTaken : List Text → Type 0
IsTaken words = AllByRecursion IsName words × (fault_of program words ≡ []) × (0 < length words)

init_name : IsName (codes "init")
init_name = (omega arith, λ e. omega (arith, e))

batch_name : IsName (codes "batch")
batch_name = (omega arith, λ e. omega (arith, e))

drill_name : IsName (codes "drill")
drill_name = (omega arith, λ e. omega (arith, e))

serve_name : IsName (codes "serve")
serve_name = (omega arith, λ e. omega (arith, e))

migrate_name : IsName (codes "migrate")
migrate_name = (omega arith, λ e. omega (arith, e))

statement_name : IsName (codes "statement")
statement_name = (omega arith, λ e. omega (arith, e))

judge_name : IsName (codes "judge")
judge_name = (omega arith, λ e. omega (arith, e))

play_name : IsName (codes "play")
play_name = (omega arith, λ e. omega (arith, e))

ship_name : IsName (codes "ship")
ship_name = (omega arith, λ e. omega (arith, e))

follow_name : IsName (codes "follow")
follow_name = (omega arith, λ e. omega (arith, e))

promote_name : IsName (codes "promote")
promote_name = (omega arith, λ e. omega (arith, e))

buy_name : IsName (codes "buy")
buy_name = (omega arith, λ e. omega (arith, e))

sell_name : IsName (codes "sell")
sell_name = (omega arith, λ e. omega (arith, e))

credential_name : IsName (codes "credential")
credential_name = (omega arith, λ e. omega (arith, e))

buywith_name : IsName (codes "buywith")
buywith_name = (omega arith, λ e. omega (arith, e))

selloffers_name : IsName (codes "selloffers")
selloffers_name = (omega arith, λ e. omega (arith, e))

-- and so are the groups of a credential
groups_named : (groups : List ℕ) → AreGroups groups → IsName (groups_text groups)
groups_named [] are = absurd (false≢true are.0)
groups_named (g ∷ groups) are = longer (decimal g) _ (number_named g (omega (arith, are.1.0)))
  where
    longer : (front back : List ℕ) → IsName front → IsName (front ++ back)
    longer [] back is = absurd (not_nothing is)
    longer (x ∷ front) back is = (omega arith, is.1)

init_taken : (words : List Text) (cap : ℕ) (rate : Option ℕ) → IsInit words cap rate → IsTaken words
init_taken words cap None is =
    let number = number_named cap (omega (arith, is.3)) in
    subst IsTaken (sym is.1) ((init_name, (is.2, (number, tt))), (init_read is.0 (decimal cap) is.2 number).0, omega arith)
init_taken words cap (Some rate) is =
    let number = number_named cap (omega (arith, is.3)) in
    let permille = number_named rate (omega (arith, is.4)) in
    subst IsTaken (sym is.1) ((init_name, (is.2, (number, (permille, tt)))), (init_all_read is.0 (decimal cap) (decimal rate) is.2 number permille).0, omega arith)

buy_taken : (name : Text) → IsNamed name buy_positions [] → IsName name → (words : List Text) (merchant product limit transaction : ℕ) → IsPurchase name words merchant product limit transaction → IsTaken words
buy_taken name named is_name words merchant product limit transaction is =
    let m = number_named merchant (omega (arith, is.7)) in
    let p = number_named product (omega (arith, is.8)) in
    let l = number_named limit is.9 in
    let t = number_named transaction is.10 in
    subst IsTaken (sym is.3) (
      (is_name, (is.4, (is.5, (is.6, (m, (p, (l, (t, tt)))))))),
      (buy_read name named is.0 is.1 is.2 (decimal merchant) (decimal product) (decimal limit) (decimal transaction) is.4 is.5 is.6 m p l t).0,
      omega arith,
    )

sell_taken : (name : Text) → IsNamed name sell_positions [] → IsName name → (words : List Text) (links : ℕ) → IsSale name words links → IsTaken words
sell_taken name named is_name words links is =
    let number = number_named links (omega (arith, is.7)) in
    subst IsTaken (sym is.3) ((is_name, (is.4, (is.5, (is.6, (number, tt))))), (sell_read name named is.0 is.1 is.2 (decimal links) is.4 is.5 is.6 number).0, omega arith)

command_taken : (words : List Text) (command : Command) → Are words command → IsTaken words
command_taken words Batch b = subst IsTaken (sym b.1) ((batch_name, (b.2, tt)), (journal_read (codes "batch") batch_named b.0 b.2).0, omega arith)
command_taken words (Init cap rate) is = init_taken words cap rate is
command_taken words (Drill seed orders) is =
    let s = number_named seed is.1 in
    let o = number_named orders (omega (arith, is.2)) in
    subst IsTaken (sym is.0) ((drill_name, (s, (o, tt))), (drill_read (decimal seed) (decimal orders) s o).0, omega arith)
command_taken words (Serve workers sessions) is =
    let w = number_named workers (omega (arith, is.5.1)) in
    let s = number_named sessions (sessions_small workers sessions is.5.0 is.5.3) in
    subst IsTaken (sym is.2) ((serve_name, (is.3, (is.4, (w, (s, tt))))), (serve_read is.0 is.1 (decimal workers) (decimal sessions) is.3 is.4 w s).0, omega arith)
command_taken words (Migrate rate) is =
    let permille = number_named rate (omega (arith, is.3)) in
    subst IsTaken (sym is.1) ((migrate_name, (is.2, (permille, tt))), (migrate_read is.0 (decimal rate) is.2 permille).0, omega arith)
command_taken words (Statement acct) is =
    let number = number_named acct.0 (omega (arith, is.3)) in
    subst IsTaken (sym is.1) ((statement_name, (is.2, (number, tt))), (statement_read is.0 (decimal acct.0) is.2 number).0, omega arith)
command_taken words Judge is = subst IsTaken (sym is) ((judge_name, tt), judge_read.0, omega arith)
command_taken words Play is = subst IsTaken (sym is) ((play_name, tt), play_read.0, omega arith)
command_taken words (Ship from) is =
    let number = number_named from is.3 in
    subst IsTaken (sym is.1) ((ship_name, (is.2, (number, tt))), (ship_read is.0 (decimal from) is.2 number).0, omega arith)
command_taken words Follow is = subst IsTaken (sym is.1) ((follow_name, (is.2, tt)), (journal_read (codes "follow") follow_named is.0 is.2).0, omega arith)
command_taken words Promote is = subst IsTaken (sym is.1) ((promote_name, (is.2, tt)), (journal_read (codes "promote") promote_named is.0 is.2).0, omega arith)
command_taken words (Buy merchant product limit transaction) is = buy_taken (codes "buy") buy_named buy_name words merchant.0 product limit.0 transaction is
command_taken words (BuyWith merchant product limit transaction) is = buy_taken (codes "buywith") buywith_named buywith_name words merchant.0 product limit.0 transaction is
command_taken words (Sell links) is = sell_taken (codes "sell") sell_named sell_name words links is
command_taken words (SellOffers links) is = sell_taken (codes "selloffers") selloffers_named selloffers_name words links is
command_taken words (Credential consumer until groups) is =
    let c = number_named consumer.0 (omega (arith, is.1)) in
    let u = number_named until is.2 in
    let g = groups_named groups is.3 in
    subst IsTaken (sym is.0) ((credential_name, (c, (u, (g, tt)))), (credential_read (decimal consumer.0) (decimal until) (groups_text groups) c u g).0, omega arith)

pub taken : (words : List Text) → IsCommand words → IsTaken words
taken words is = command_taken words is.0 is.1

-- ---- what was told is the command

-- two rows that were told are the same
same_rows : (told : Option (Text × List Row)) (name : Text) (rows other : List Row) → told ≡ Some (name, rows) → told ≡ Some (name, other) → rows ≡ other
same_rows told name rows other first second = ap (λ (p : Text × List Row). p.1) (same_Some _ _ (sym first ∙ second))

-- the words behind init, and what was read of them
abbrev InitTold : List Text → List Row → Type 0
InitTold words rows =
    ((journal : Text) × (number : Text) × (words ≡ journal ∷ number ∷ []) × IsName journal × (first_of (codes "CAP") rows ≡ Some number) × (first_of (codes "PERMILLE") rows ≡ None))
    ⊎ ((journal : Text) × (number : Text) × (permille : Text) × (words ≡ journal ∷ number ∷ permille ∷ []) × IsName journal × (first_of (codes "CAP") rows ≡ Some number)
    × (first_of (codes "PERMILLE") rows ≡ Some permille))

told_init : (words : List Text) → AllByRecursion IsName words → fault_of program (codes "init" ∷ words) ≡ [] → (rows : List Row) → subcommand_of program (codes "init" ∷ words) ≡ Some (codes "init", rows) → InitTold words rows
told_init words all none rows told = go (init_fits words all none)
  where
    go : AreInit words → InitTold words rows
    go (inl fits) =
        let P : List Text → Type 0 = λ ws. AllByRecursion IsName ws in
        let each = subst P fits.2 all in
        let read = (init_read fits.0 fits.1 each.0 each.1.0).1 in
        let same = same_rows (subcommand_of program (codes "init" ∷ words)) (codes "init") read.0 rows (ap (λ (ws : List Text). subcommand_of program (codes "init" ∷ ws)) fits.2 ∙ read.1) told in
        inl (
          fits.0,
          fits.1,
          fits.2,
          fits.3,
          subst (λ (rs : List Row). first_of (codes "CAP") rs ≡ Some fits.1) same read.2,
          subst (λ (rs : List Row). first_of (codes "PERMILLE") rs ≡ None) same read.3,
        )
    go (inr fits) =
        let P : List Text → Type 0 = λ ws. AllByRecursion IsName ws in
        let each = subst P fits.3 all in
        let read = (init_all_read fits.0 fits.1 fits.2 each.0 each.1.0 each.1.1.0).1 in
        let same = same_rows (subcommand_of program (codes "init" ∷ words)) (codes "init") read.0 rows (ap (λ (ws : List Text). subcommand_of program (codes "init" ∷ ws)) fits.3 ∙ read.1) told in
        inr (
          fits.0,
          fits.1,
          fits.2,
          fits.3,
          fits.4,
          subst (λ (rs : List Row). first_of (codes "CAP") rs ≡ Some fits.1) same read.2,
          subst (λ (rs : List Row). first_of (codes "PERMILLE") rs ≡ Some fits.2) same read.3,
        )

told_drill : (words : List Text) → AllByRecursion IsName words → fault_of program (codes "drill" ∷ words) ≡ [] → (rows : List Row) → subcommand_of program (codes "drill" ∷ words) ≡ Some (codes "drill", rows)
    → (seed orders : Text) × (words ≡ seed ∷ orders ∷ []) × (first_of (codes "SEED") rows ≡ Some seed) × (first_of (codes "ORDERS") rows ≡ Some orders)
told_drill words all none rows told =
    let fits = drill_fits words all none in
    let P : List Text → Type 0 = λ ws. AllByRecursion IsName ws in
    let each = subst P fits.2 all in
    let read = (drill_read fits.0 fits.1 each.0 each.1.0).1 in
    let same = same_rows (subcommand_of program (codes "drill" ∷ words)) (codes "drill") read.0 rows (ap (λ (ws : List Text). subcommand_of program (codes "drill" ∷ ws)) fits.2 ∙ read.1) told in (
      fits.0,
      fits.1,
      fits.2,
      subst (λ (rs : List Row). first_of (codes "SEED") rs ≡ Some fits.0) same read.2,
      subst (λ (rs : List Row). first_of (codes "ORDERS") rs ≡ Some fits.1) same read.3,
    )

told_serve : (words : List Text) → AllByRecursion IsName words → fault_of program (codes "serve" ∷ words) ≡ [] → (rows : List Row) → subcommand_of program (codes "serve" ∷ words) ≡ Some (codes "serve", rows)
    → (journal address workers sessions : Text) × (words ≡ journal ∷ address ∷ workers ∷ sessions ∷ []) × IsName journal × IsName address
    × (first_of (codes "WORKERS") rows ≡ Some workers) × (first_of (codes "SESSIONS") rows ≡ Some sessions)
told_serve words all none rows told =
    let fits = serve_fits words all none in
    let P : List Text → Type 0 = λ ws. AllByRecursion IsName ws in
    let each = subst P fits.4 all in
    let read = (serve_read fits.0 fits.1 fits.2 fits.3 each.0 each.1.0 each.1.1.0 each.1.1.1.0).1 in
    let same = same_rows (subcommand_of program (codes "serve" ∷ words)) (codes "serve") read.0 rows (ap (λ (ws : List Text). subcommand_of program (codes "serve" ∷ ws)) fits.4 ∙ read.1) told in (
      fits.0,
      fits.1,
      fits.2,
      fits.3,
      fits.4,
      fits.5,
      fits.6,
      subst (λ (rs : List Row). first_of (codes "WORKERS") rs ≡ Some fits.2) same read.2,
      subst (λ (rs : List Row). first_of (codes "SESSIONS") rs ≡ Some fits.3) same read.3,
    )

told_migrate : (words : List Text) → AllByRecursion IsName words → fault_of program (codes "migrate" ∷ words) ≡ [] → (rows : List Row) → subcommand_of program (codes "migrate" ∷ words) ≡ Some (codes "migrate", rows)
    → (journal permille : Text) × (words ≡ journal ∷ permille ∷ []) × IsName journal × (first_of (codes "PERMILLE") rows ≡ Some permille)
told_migrate words all none rows told =
    let fits = migrate_fits words all none in
    let P : List Text → Type 0 = λ ws. AllByRecursion IsName ws in
    let each = subst P fits.2 all in
    let read = (migrate_read fits.0 fits.1 each.0 each.1.0).1 in
    let same = same_rows (subcommand_of program (codes "migrate" ∷ words)) (codes "migrate") read.0 rows (ap (λ (ws : List Text). subcommand_of program (codes "migrate" ∷ ws)) fits.2 ∙ read.1) told in
    (fits.0, fits.1, fits.2, fits.3, subst (λ (rs : List Row). first_of (codes "PERMILLE") rs ≡ Some fits.1) same read.2)

told_statement : (words : List Text) → AllByRecursion IsName words → fault_of program (codes "statement" ∷ words) ≡ [] → (rows : List Row) → subcommand_of program (codes "statement" ∷ words) ≡ Some (codes "statement", rows)
    → (journal number : Text) × (words ≡ journal ∷ number ∷ []) × IsName journal × (first_of (codes "ACCT") rows ≡ Some number)
told_statement words all none rows told =
    let fits = statement_fits words all none in
    let P : List Text → Type 0 = λ ws. AllByRecursion IsName ws in
    let each = subst P fits.2 all in
    let read = (statement_read fits.0 fits.1 each.0 each.1.0).1 in
    let same = same_rows (subcommand_of program (codes "statement" ∷ words)) (codes "statement") read.0 rows (ap (λ (ws : List Text). subcommand_of program (codes "statement" ∷ ws)) fits.2 ∙ read.1) told in
    (fits.0, fits.1, fits.2, fits.3, subst (λ (rs : List Row). first_of (codes "ACCT") rs ≡ Some fits.1) same read.2)

told_ship : (words : List Text) → AllByRecursion IsName words → fault_of program (codes "ship" ∷ words) ≡ [] → (rows : List Row) → subcommand_of program (codes "ship" ∷ words) ≡ Some (codes "ship", rows)
    → (journal number : Text) × (words ≡ journal ∷ number ∷ []) × IsName journal × (first_of (codes "FROM") rows ≡ Some number)
told_ship words all none rows told =
    let fits = ship_fits words all none in
    let P : List Text → Type 0 = λ ws. AllByRecursion IsName ws in
    let each = subst P fits.2 all in
    let read = (ship_read fits.0 fits.1 each.0 each.1.0).1 in
    let same = same_rows (subcommand_of program (codes "ship" ∷ words)) (codes "ship") read.0 rows (ap (λ (ws : List Text). subcommand_of program (codes "ship" ∷ ws)) fits.2 ∙ read.1) told in
    (fits.0, fits.1, fits.2, fits.3, subst (λ (rs : List Row). first_of (codes "FROM") rs ≡ Some fits.1) same read.2)

told_buy : (name : Text) → IsNamed name buy_positions [] → (words : List Text) → AllByRecursion IsName words → fault_of program (name ∷ words) ≡ [] → (rows : List Row) → subcommand_of program (name ∷ words) ≡ Some (name, rows)
    → (wallet server seller merchant product limit transaction : Text) × (words ≡ wallet ∷ server ∷ seller ∷ merchant ∷ product ∷ limit ∷ transaction ∷ []) × IsName wallet × IsName server × IsName seller
    × (first_of (codes "MERCHANT") rows ≡ Some merchant) × (first_of (codes "PRODUCT") rows ≡ Some product) × (first_of (codes "LIMIT") rows ≡ Some limit) × (first_of (codes "TID") rows ≡ Some transaction)
told_buy name named words all none rows told =
    let fits = buy_fits name named words all none in
    let P : List Text → Type 0 = λ ws. AllByRecursion IsName ws in
    let each = subst P fits.7 all in
    let read = (buy_read name named fits.0 fits.1 fits.2 fits.3 fits.4 fits.5 fits.6 each.0 each.1.0 each.1.1.0 each.1.1.1.0 each.1.1.1.1.0 each.1.1.1.1.1.0 each.1.1.1.1.1.1.0).1 in
    let same = same_rows (subcommand_of program (name ∷ words)) name read.0 rows (ap (λ (ws : List Text). subcommand_of program (name ∷ ws)) fits.7 ∙ read.1) told in (
      fits.0,
      fits.1,
      fits.2,
      fits.3,
      fits.4,
      fits.5,
      fits.6,
      fits.7,
      fits.8,
      fits.9,
      fits.10,
      subst (λ (rs : List Row). first_of (codes "MERCHANT") rs ≡ Some fits.3) same read.2,
      subst (λ (rs : List Row). first_of (codes "PRODUCT") rs ≡ Some fits.4) same read.3,
      subst (λ (rs : List Row). first_of (codes "LIMIT") rs ≡ Some fits.5) same read.4,
      subst (λ (rs : List Row). first_of (codes "TID") rs ≡ Some fits.6) same read.5,
    )

told_sell : (name : Text) → IsNamed name sell_positions [] → (words : List Text) → AllByRecursion IsName words → fault_of program (name ∷ words) ≡ [] → (rows : List Row) → subcommand_of program (name ∷ words) ≡ Some (name, rows)
    → (stall address server links : Text) × (words ≡ stall ∷ address ∷ server ∷ links ∷ []) × IsName stall × IsName address × IsName server
    × (first_of (codes "LINKS") rows ≡ Some links)
told_sell name named words all none rows told =
    let fits = sell_fits name named words all none in
    let P : List Text → Type 0 = λ ws. AllByRecursion IsName ws in
    let each = subst P fits.4 all in
    let read = (sell_read name named fits.0 fits.1 fits.2 fits.3 each.0 each.1.0 each.1.1.0 each.1.1.1.0).1 in
    let same = same_rows (subcommand_of program (name ∷ words)) name read.0 rows (ap (λ (ws : List Text). subcommand_of program (name ∷ ws)) fits.4 ∙ read.1) told in (
      fits.0,
      fits.1,
      fits.2,
      fits.3,
      fits.4,
      fits.5,
      fits.6,
      fits.7,
      subst (λ (rs : List Row). first_of (codes "LINKS") rs ≡ Some fits.3) same read.2,
    )

told_credential : (words : List Text) → AllByRecursion IsName words → fault_of program (codes "credential" ∷ words) ≡ [] → (rows : List Row) → subcommand_of program (codes "credential" ∷ words) ≡ Some (codes "credential", rows)
    → (consumer until groups : Text) × (words ≡ consumer ∷ until ∷ groups ∷ [])
    × (first_of (codes "CONSUMER") rows ≡ Some consumer) × (first_of (codes "UNTIL") rows ≡ Some until) × (first_of (codes "GROUPS") rows ≡ Some groups)
told_credential words all none rows told =
    let fits = credential_fits words all none in
    let P : List Text → Type 0 = λ ws. AllByRecursion IsName ws in
    let each = subst P fits.3 all in
    let read = (credential_read fits.0 fits.1 fits.2 each.0 each.1.0 each.1.1.0).1 in
    let same = same_rows (subcommand_of program (codes "credential" ∷ words)) (codes "credential") read.0 rows (ap (λ (ws : List Text). subcommand_of program (codes "credential" ∷ ws)) fits.3 ∙ read.1) told in (
      fits.0,
      fits.1,
      fits.2,
      fits.3,
      subst (λ (rs : List Row). first_of (codes "CONSUMER") rs ≡ Some fits.0) same read.2,
      subst (λ (rs : List Row). first_of (codes "UNTIL") rs ≡ Some fits.1) same read.3,
      subst (λ (rs : List Row). first_of (codes "GROUPS") rs ≡ Some fits.2) same read.4,
    )

-- what is read of the words of init
init_rows : (words : List Text) (cap : ℕ) (rate : Option ℕ) → IsInit words cap rate → (rows : List Row) × (subcommand_of program words ≡ Some (codes "init", rows)) × InitIn rows cap × RateIn rows rate
init_rows words cap None is =
    let read = (init_read is.0 (decimal cap) is.2 (number_named cap (omega (arith, is.3)))).1 in
    (read.0, ap (subcommand_of program) is.1 ∙ read.1, (read.2, is.3), read.3)
init_rows words cap (Some rate) is =
    let read = (init_all_read is.0 (decimal cap) (decimal rate) is.2 (number_named cap (omega (arith, is.3))) (number_named rate (omega (arith, is.4)))).1 in
    (read.0, ap (subcommand_of program) is.1 ∙ read.1, (read.2, is.3), (read.3, is.4))

-- what is read of the words of a purchase
buy_rows : (name : Text) → IsNamed name buy_positions [] → (words : List Text) (merchant product limit transaction : ℕ) → IsPurchase name words merchant product limit transaction
    → (rows : List Row) × (subcommand_of program words ≡ Some (name, rows)) × BuyIn rows merchant product limit transaction
buy_rows name named words merchant product limit transaction is =
    let read = (buy_read name named is.0 is.1 is.2 (decimal merchant) (decimal product) (decimal limit) (decimal transaction) is.4 is.5 is.6
    (number_named merchant (omega (arith, is.7))) (number_named product (omega (arith, is.8))) (number_named limit is.9) (number_named transaction is.10)).1 in
    (read.0, ap (subcommand_of program) is.3 ∙ read.1, (read.2, read.3, read.4, read.5, is.7, is.8, is.9, is.10))

-- and of a sale
sell_rows : (name : Text) → IsNamed name sell_positions [] → (words : List Text) (links : ℕ) → IsSale name words links → (rows : List Row) × (subcommand_of program words ≡ Some (name, rows)) × SellIn rows links
sell_rows name named words links is =
    let read = (sell_read name named is.0 is.1 is.2 (decimal links) is.4 is.5 is.6 (number_named links (omega (arith, is.7)))).1 in
    (read.0, ap (subcommand_of program) is.3 ∙ read.1, (read.2, is.7))

-- and of a credential
credential_rows : (words : List Text) (consumer until : ℕ) (groups : List ℕ) → IsCredential words consumer until groups → (rows : List Row) × (subcommand_of program words ≡ Some (codes "credential", rows)) × CredentialIn rows consumer until groups
credential_rows words consumer until groups is =
    let read = (credential_read (decimal consumer) (decimal until) (groups_text groups) (number_named consumer (omega (arith, is.1))) (number_named until is.2) (groups_named groups is.3)).1 in
    (read.0, ap (subcommand_of program) is.0 ∙ read.1, (read.2, read.3, read.4, is.1, is.2, is.3))

-- none was told, so that the words are none
untold : (words : List Text) → CommandIn (subcommand_of program words) None → (command : Command) → Are words command → ⊥
untold words none (Init cap rate) is = let rows = init_rows words cap rate is in none.0 rows.0 cap rate rows.1 rows.2 rows.3
untold words none Batch is =
    let read = (journal_read (codes "batch") batch_named is.0 is.2).1 in
    none.1 read.0 (ap (subcommand_of program) is.1 ∙ read.1)
untold words none (Drill seed orders) is =
    let read = (drill_read (decimal seed) (decimal orders) (number_named seed is.1) (number_named orders (omega (arith, is.2)))).1 in
    none.2 read.0 seed orders (ap (subcommand_of program) is.0 ∙ read.1) (read.2, read.3, is.1, is.2)
untold words none (Serve workers sessions) is =
    let read = (serve_read is.0 is.1 (decimal workers) (decimal sessions) is.3 is.4 (number_named workers (omega (arith, is.5.1))) (number_named sessions (sessions_small workers sessions is.5.0 is.5.3))).1 in
    none.3 read.0 workers sessions (ap (subcommand_of program) is.2 ∙ read.1) (read.2, read.3, is.5)
untold words none (Migrate rate) is =
    let read = (migrate_read is.0 (decimal rate) is.2 (number_named rate (omega (arith, is.3)))).1 in
    none.4 read.0 rate (ap (subcommand_of program) is.1 ∙ read.1) (read.2, is.3)
untold words none (Statement acct) is =
    let read = (statement_read is.0 (decimal acct.0) is.2 (number_named acct.0 (omega (arith, is.3)))).1 in
    none.5 read.0 acct.0 (ap (subcommand_of program) is.1 ∙ read.1) (read.2, is.3)
untold words none Judge is = none.6 judge_read.1.0 (ap (subcommand_of program) is ∙ judge_read.1.1)
untold words none (Buy merchant product limit transaction) is =
    let rows = buy_rows (codes "buy") buy_named words merchant.0 product limit.0 transaction is in
    none.7 rows.0 merchant.0 product limit.0 transaction rows.1 rows.2
untold words none (Sell links) is = let rows = sell_rows (codes "sell") sell_named words links is in none.8 rows.0 links rows.1 rows.2
untold words none (Credential consumer until groups) is = let rows = credential_rows words consumer.0 until groups is in none.9 rows.0 consumer.0 until groups rows.1 rows.2
untold words none (BuyWith merchant product limit transaction) is =
    let rows = buy_rows (codes "buywith") buywith_named words merchant.0 product limit.0 transaction is in
    none.10 rows.0 merchant.0 product limit.0 transaction rows.1 rows.2
untold words none (SellOffers links) is = let rows = sell_rows (codes "selloffers") selloffers_named words links is in none.11 rows.0 links rows.1 rows.2
untold words none Play is = none.12 play_read.1.0 (ap (subcommand_of program) is ∙ play_read.1.1)
untold words none (Ship from) is =
    let read = (ship_read is.0 (decimal from) is.2 (number_named from is.3)).1 in
    none.13 read.0 from (ap (subcommand_of program) is.1 ∙ read.1) (read.2, is.3)
untold words none Follow is =
    let read = (journal_read (codes "follow") follow_named is.0 is.2).1 in
    none.14 read.0 (ap (subcommand_of program) is.1 ∙ read.1)
untold words none Promote is =
    let read = (journal_read (codes "promote") promote_named is.0 is.2).1 in
    none.15 read.0 (ap (subcommand_of program) is.1 ∙ read.1)

init_is : (words behind : List Text) (cap : ℕ) (rate : Option ℕ) (rows : List Row) → words ≡ codes "init" ∷ behind → InitTold behind rows → InitIn rows cap → RateIn rows rate → IsInit words cap rate
init_is words behind cap None rows is (inl told) number missing =
    let same = same_Some _ _ (sym told.4 ∙ number.0) in
    (told.0, is ∙ ap (λ (ws : List Text). codes "init" ∷ ws) told.2 ∙ ap (λ (w : Text). codes "init" ∷ told.0 ∷ w ∷ []) same, told.3, number.1)
init_is words behind cap None rows is (inr told) number missing = absurd cc
init_is words behind cap (Some rate) rows is (inl told) number permille = absurd cc
init_is words behind cap (Some rate) rows is (inr told) number permille =
    let same = same_Some _ _ (sym told.5 ∙ number.0) in
    let as_well = same_Some _ _ (sym told.6 ∙ permille.0) in (
      told.0,
      is ∙ ap (λ (ws : List Text). codes "init" ∷ ws) told.3 ∙ ap (λ (w : Text). codes "init" ∷ told.0 ∷ w ∷ told.2 ∷ []) same
          ∙ ap (λ (w : Text). codes "init" ∷ told.0 ∷ decimal cap ∷ w ∷ []) as_well,
      told.4,
      number.1,
      permille.1,
    )

-- the words behind the name of a purchase are those that were read
buy_is : (name : Text) → IsNamed name buy_positions [] → (words behind : List Text) → words ≡ name ∷ behind → AllByRecursion IsName behind → fault_of program (name ∷ behind) ≡ []
    → (rows : List Row) → subcommand_of program (name ∷ behind) ≡ Some (name, rows) → (merchant product limit transaction : ℕ) → BuyIn rows merchant product limit transaction → IsPurchase name words merchant product limit transaction
buy_is name named words behind is all none rows entered merchant product limit transaction numbers =
    let told = told_buy name named behind all none rows entered in
    let first = same_Some _ _ (sym told.11 ∙ numbers.0) in
    let second = same_Some _ _ (sym told.12 ∙ numbers.1) in
    let third = same_Some _ _ (sym told.13 ∙ numbers.2) in
    let fourth = same_Some _ _ (sym told.14 ∙ numbers.3) in (
      told.0,
      told.1,
      told.2,
      is ∙ ap (λ (ws : List Text). name ∷ ws) told.7 ∙ ap (λ (w : Text). name ∷ told.0 ∷ told.1 ∷ told.2 ∷ w ∷ told.4 ∷ told.5 ∷ told.6 ∷ []) first
          ∙ ap (λ (w : Text). name ∷ told.0 ∷ told.1 ∷ told.2 ∷ decimal merchant ∷ w ∷ told.5 ∷ told.6 ∷ []) second
          ∙ ap (λ (w : Text). name ∷ told.0 ∷ told.1 ∷ told.2 ∷ decimal merchant ∷ decimal product ∷ w ∷ told.6 ∷ []) third
          ∙ ap (λ (w : Text). name ∷ told.0 ∷ told.1 ∷ told.2 ∷ decimal merchant ∷ decimal product ∷ decimal limit ∷ w ∷ []) fourth,
      told.8,
      told.9,
      told.10,
      numbers.4,
      numbers.5,
      numbers.6,
      numbers.7,
    )

-- and those behind the name of a sale
sell_is : (name : Text) → IsNamed name sell_positions [] → (words behind : List Text) → words ≡ name ∷ behind → AllByRecursion IsName behind → fault_of program (name ∷ behind) ≡ []
    → (rows : List Row) → subcommand_of program (name ∷ behind) ≡ Some (name, rows) → (links : ℕ) → SellIn rows links → IsSale name words links
sell_is name named words behind is all none rows entered links number =
    let told = told_sell name named behind all none rows entered in
    let same = same_Some _ _ (sym told.8 ∙ number.0) in (
      told.0,
      told.1,
      told.2,
      is ∙ ap (λ (ws : List Text). name ∷ ws) told.4 ∙ ap (λ (w : Text). name ∷ told.0 ∷ told.1 ∷ told.2 ∷ w ∷ []) same,
      told.5,
      told.6,
      told.7,
      number.1,
    )

pub command_is : (words : List Text) → AllByRecursion IsName words → 0 < length words → fault_of program words ≡ [] → (c : Option Command) → CommandIn (subcommand_of program words) c → CommandIs words c
command_is words all some none None is = λ command. untold words is command.0 command.1
command_is words all some none (Some Batch) is =
    let n = named_by words all some none (codes "batch") is.0 is.1 in
    let fits = journal_fits (codes "batch") batch_named n.0 n.2 (ap (fault_of program) (sym n.1) ∙ none) in
    (fits.0, n.1 ∙ ap (λ (ws : List Text). codes "batch" ∷ ws) fits.1, fits.2)
command_is words all some none (Some (Init cap rate)) is =
    let n = named_by words all some none (codes "init") is.0 is.1 in
    init_is words n.0 cap rate is.0 n.1 (told_init n.0 n.2 (ap (fault_of program) (sym n.1) ∙ none) is.0 (ap (subcommand_of program) (sym n.1) ∙ is.1)) is.2 is.3
command_is words all some none (Some (Drill seed orders)) is =
    let n = named_by words all some none (codes "drill") is.0 is.1 in
    let told = told_drill n.0 n.2 (ap (fault_of program) (sym n.1) ∙ none) is.0 (ap (subcommand_of program) (sym n.1) ∙ is.1) in
    let first = same_Some _ _ (sym told.3 ∙ is.2.0) in
    let second = same_Some _ _ (sym told.4 ∙ is.2.1) in (
      n.1 ∙ ap (λ (ws : List Text). codes "drill" ∷ ws) told.2 ∙ ap (λ (w : Text). codes "drill" ∷ w ∷ told.1 ∷ []) first
          ∙ ap (λ (w : Text). codes "drill" ∷ decimal seed ∷ w ∷ []) second,
      is.2.2,
      is.2.3,
    )
command_is words all some none (Some (Serve workers sessions)) is =
    let n = named_by words all some none (codes "serve") is.0 is.1 in
    let told = told_serve n.0 n.2 (ap (fault_of program) (sym n.1) ∙ none) is.0 (ap (subcommand_of program) (sym n.1) ∙ is.1) in
    let first = same_Some _ _ (sym told.7 ∙ is.2.0) in
    let second = same_Some _ _ (sym told.8 ∙ is.2.1) in (
      told.0,
      told.1,
      n.1 ∙ ap (λ (ws : List Text). codes "serve" ∷ ws) told.4 ∙ ap (λ (w : Text). codes "serve" ∷ told.0 ∷ told.1 ∷ w ∷ told.3 ∷ []) first
          ∙ ap (λ (w : Text). codes "serve" ∷ told.0 ∷ told.1 ∷ decimal workers ∷ w ∷ []) second,
      told.5,
      told.6,
      is.2.2,
    )
command_is words all some none (Some (Migrate rate)) is =
    let n = named_by words all some none (codes "migrate") is.0 is.1 in
    let told = told_migrate n.0 n.2 (ap (fault_of program) (sym n.1) ∙ none) is.0 (ap (subcommand_of program) (sym n.1) ∙ is.1) in
    let same = same_Some _ _ (sym told.4 ∙ is.2.0) in
    (told.0, n.1 ∙ ap (λ (ws : List Text). codes "migrate" ∷ ws) told.2 ∙ ap (λ (w : Text). codes "migrate" ∷ told.0 ∷ w ∷ []) same, told.3, is.2.1)
command_is words all some none (Some (Statement acct)) is =
    let n = named_by words all some none (codes "statement") is.0 is.1 in
    let told = told_statement n.0 n.2 (ap (fault_of program) (sym n.1) ∙ none) is.0 (ap (subcommand_of program) (sym n.1) ∙ is.1) in
    let same = same_Some _ _ (sym told.4 ∙ is.2.0) in
    (told.0, n.1 ∙ ap (λ (ws : List Text). codes "statement" ∷ ws) told.2 ∙ ap (λ (w : Text). codes "statement" ∷ told.0 ∷ w ∷ []) same, told.3, is.2.1)
command_is words all some none (Some Judge) is =
    let n = named_by words all some none (codes "judge") is.0 is.1 in
    n.1 ∙ ap (λ (ws : List Text). codes "judge" ∷ ws) (judge_fits n.0 n.2 (ap (fault_of program) (sym n.1) ∙ none))
command_is words all some none (Some Play) is =
    let n = named_by words all some none (codes "play") is.0 is.1 in
    n.1 ∙ ap (λ (ws : List Text). codes "play" ∷ ws) (play_fits n.0 n.2 (ap (fault_of program) (sym n.1) ∙ none))
command_is words all some none (Some (Ship from)) is =
    let n = named_by words all some none (codes "ship") is.0 is.1 in
    let told = told_ship n.0 n.2 (ap (fault_of program) (sym n.1) ∙ none) is.0 (ap (subcommand_of program) (sym n.1) ∙ is.1) in
    let same = same_Some _ _ (sym told.4 ∙ is.2.0) in
    (told.0, n.1 ∙ ap (λ (ws : List Text). codes "ship" ∷ ws) told.2 ∙ ap (λ (w : Text). codes "ship" ∷ told.0 ∷ w ∷ []) same, told.3, is.2.1)
command_is words all some none (Some Follow) is =
    let n = named_by words all some none (codes "follow") is.0 is.1 in
    let fits = journal_fits (codes "follow") follow_named n.0 n.2 (ap (fault_of program) (sym n.1) ∙ none) in
    (fits.0, n.1 ∙ ap (λ (ws : List Text). codes "follow" ∷ ws) fits.1, fits.2)
command_is words all some none (Some Promote) is =
    let n = named_by words all some none (codes "promote") is.0 is.1 in
    let fits = journal_fits (codes "promote") promote_named n.0 n.2 (ap (fault_of program) (sym n.1) ∙ none) in
    (fits.0, n.1 ∙ ap (λ (ws : List Text). codes "promote" ∷ ws) fits.1, fits.2)
command_is words all some none (Some (Buy merchant product limit transaction)) is =
    let n = named_by words all some none (codes "buy") is.0 is.1 in
    buy_is (codes "buy") buy_named words n.0 n.1 n.2 (ap (fault_of program) (sym n.1) ∙ none) is.0 (ap (subcommand_of program) (sym n.1) ∙ is.1) merchant.0 product limit.0 transaction is.2
command_is words all some none (Some (BuyWith merchant product limit transaction)) is =
    let n = named_by words all some none (codes "buywith") is.0 is.1 in
    buy_is (codes "buywith") buywith_named words n.0 n.1 n.2 (ap (fault_of program) (sym n.1) ∙ none) is.0 (ap (subcommand_of program) (sym n.1) ∙ is.1) merchant.0 product limit.0 transaction is.2
command_is words all some none (Some (Sell links)) is =
    let n = named_by words all some none (codes "sell") is.0 is.1 in
    sell_is (codes "sell") sell_named words n.0 n.1 n.2 (ap (fault_of program) (sym n.1) ∙ none) is.0 (ap (subcommand_of program) (sym n.1) ∙ is.1) links is.2
command_is words all some none (Some (SellOffers links)) is =
    let n = named_by words all some none (codes "selloffers") is.0 is.1 in
    sell_is (codes "selloffers") selloffers_named words n.0 n.1 n.2 (ap (fault_of program) (sym n.1) ∙ none) is.0 (ap (subcommand_of program) (sym n.1) ∙ is.1) links is.2
command_is words all some none (Some (Credential consumer until groups)) is =
    let n = named_by words all some none (codes "credential") is.0 is.1 in
    let told = told_credential n.0 n.2 (ap (fault_of program) (sym n.1) ∙ none) is.0 (ap (subcommand_of program) (sym n.1) ∙ is.1) in
    let first = same_Some _ _ (sym told.4 ∙ is.2.0) in
    let second = same_Some _ _ (sym told.5 ∙ is.2.1) in
    let third = same_Some _ _ (sym told.6 ∙ is.2.2) in (
      n.1 ∙ ap (λ (ws : List Text). codes "credential" ∷ ws) told.3 ∙ ap (λ (w : Text). codes "credential" ∷ w ∷ told.1 ∷ told.2 ∷ []) first
          ∙ ap (λ (w : Text). codes "credential" ∷ decimal consumer.0 ∷ w ∷ told.2 ∷ []) second
          ∙ ap (λ (w : Text). codes "credential" ∷ decimal consumer.0 ∷ decimal until ∷ w ∷ []) third,
      is.2.3,
      is.2.4,
      is.2.5,
    )

-- clap refused the words, and so they are no command, unless there was no memory
pub refused_are : {E : Type 0} (words : List Text) (r : Result (Option Command) E) → IfOk r (λ command. command ≡ None) → (IsCommand words → IsErr r) → IfOk r (CommandIs words)
refused_are words (Ok command) none why = subst (CommandIs words) (sym none) (λ is. true≢false (sym (why is)))
refused_are words (Err error) none why = tt

-- an error that has none of the kinds of a fault came of no memory
pub only_memory : (kinds : Kinds) (e : Error) → kinds ≡ [] → HasKind kinds e → kind_of e ≡ OutOfMemory
only_memory kinds e none has = elim (subst (λ (ks : Kinds). HasKind ks e) none has) [ inl is ↦ is | inr never ↦ absurd never ]
