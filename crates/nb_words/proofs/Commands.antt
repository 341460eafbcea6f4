-- The commands, one by one: clap takes as many words as a command has positions, and no others.
use Rattle.std.proofs.Common.{◌≡◌, ◌⊎◌, inl, inr, ℕ, ◌+◌, ◌%◌, ◌<◌, ◌^◌, List, [], ◌∷◌, ◌++◌, false, refl, ap, sym, ◌∙◌, codes, Some, None, arith, ne_eqb}
use Rattle.std.specs.Prelude.{fold}
use Rattle.std.specs.List.{AllByRecursion}
use Rattle.std.specs.Fmt.{decimal}
use Rattle.std.proofs.lemmas.Fmt.{decimal_by_steps}
use Rattle.clap.specs.Walk.{Row, Text, Walk, walked, nothing_held, first_of, rows_after, finished}
use Rattle.clap.specs.Simple.{Shape}
use Rattle.clap.specs.Kinds.{Kinds}
use Rattle.clap.specs.Faults.{fault_of, level_fault}
use Rattle.clap.specs.Words.{subcommand_of}
use Rattle.clap.specs.declared.error.kind.ErrorKind.{ErrorKind}
use Rattle.clap.specs.declared.error.kind.ErrorKind.TheVariants.{UnknownArgument, MissingRequiredArgument}
use Rattle.clap.proofs.OnLiterals.{clap_on_literals}
use Rattle.nb_words.specs.Table.{program}
use Rattle.nb_words.specs.Words.{IsName}
use Rattle.nb_words.proofs.Reading.{IsBegin, IsNamed, leaf, at, level, next_faults, next_walk, called, entered_as}

-- the first byte of a name
pub begins : (x : ℕ) (xs : Text) → IsName (x ∷ xs) → IsBegin x
begins x xs is = ne_eqb x 45 is.1

-- no word is not one
pub not_nothing : IsName [] → ⊥
not_nothing is = omega (arith, is.0)

pub faulty : (k : ErrorKind) (ks faults : Kinds) → faults ≡ k ∷ ks → faults ≡ [] → ⊥
faulty k ks faults is none = cc

-- a number is read as a name
pub number_named : (n : ℕ) → n < 2 ^ 64 → IsName (decimal n)
number_named = decimal_by_steps (λ n ds. IsName ds) (λ n small. (omega arith, λ e. omega (arith, e))) (λ n ds large is. more ds (48 + n % 10) is)
  where
    more : (ds : List ℕ) (d : ℕ) → IsName ds → IsName (ds ++ (d ∷ []))
    more [] d is = absurd (not_nothing is)
    more (x ∷ ds) d is = (omega arith, is.1)

-- ---- init JOURNAL CAP, and PERMILLE

pub init_named : IsNamed (codes "init") (codes "JOURNAL" ∷ codes "CAP" ∷ []) (codes "PERMILLE" ∷ [])
unfolding clap_on_literals
init_named = record { met = refl; silent = refl; found = refl }

abbrev init : Shape
init = leaf (codes "init") (codes "JOURNAL" ∷ codes "CAP" ∷ []) (codes "PERMILLE" ∷ [])

init_none : level_fault init [] nothing_held [] false [] ≡ MissingRequiredArgument ∷ []
unfolding clap_on_literals
init_none = refl

init_one : (x : ℕ) (xs : Text) → IsBegin x → level_fault init [] nothing_held ((x ∷ xs) ∷ []) false [] ≡ MissingRequiredArgument ∷ []
unfolding clap_on_literals
init_one x xs p =
    ap (λ (k : Kinds). level init k (fold (walked init.rules []) (at 1 nothing_held) ((x ∷ xs) ∷ [])))
    (next_faults init 1 nothing_held x xs p [])
    ∙ ap (λ (w : Walk). level init [] w) (next_walk init 1 nothing_held x xs p [])

init_taken : (x : ℕ) (xs : Text) (y : ℕ) (ys : Text) → IsBegin x → IsBegin y → level_fault init [] nothing_held ((x ∷ xs) ∷ (y ∷ ys) ∷ []) false [] ≡ []
unfolding clap_on_literals
init_taken x xs y ys p q =
    ap (λ (k : Kinds). level init k (fold (walked init.rules []) (at 1 nothing_held) ((x ∷ xs) ∷ (y ∷ ys) ∷ [])))
    (next_faults init 1 nothing_held x xs p ((y ∷ ys) ∷ []) ∙ next_faults init 2 _ y ys q [])
    ∙ ap (λ (w : Walk). level init [] w) (next_walk init 1 nothing_held x xs p ((y ∷ ys) ∷ []) ∙ next_walk init 2 _ y ys q [])

init_all_taken : (x : ℕ) (xs : Text) (y : ℕ) (ys : Text) (z : ℕ) (zs : Text) → IsBegin x → IsBegin y → IsBegin z → level_fault init [] nothing_held ((x ∷ xs) ∷ (y ∷ ys) ∷ (z ∷ zs) ∷ []) false [] ≡ []
unfolding clap_on_literals
init_all_taken x xs y ys z zs p q r =
    ap (λ (k : Kinds). level init k (fold (walked init.rules []) (at 1 nothing_held) ((x ∷ xs) ∷ (y ∷ ys) ∷ (z ∷ zs) ∷ [])))
    (next_faults init 1 nothing_held x xs p ((y ∷ ys) ∷ (z ∷ zs) ∷ []) ∙ next_faults init 2 _ y ys q ((z ∷ zs) ∷ []) ∙ next_faults init 3 _ z zs r [])
    ∙ ap (λ (w : Walk). level init [] w) (next_walk init 1 nothing_held x xs p ((y ∷ ys) ∷ (z ∷ zs) ∷ []) ∙ next_walk init 2 _ y ys q ((z ∷ zs) ∷ []) ∙ next_walk init 3 _ z zs r [])

init_more : (x : ℕ) (xs : Text) (y : ℕ) (ys : Text) (z : ℕ) (zs : Text) (u : ℕ) (us : Text) (rest : List Text) → IsBegin x → IsBegin y → IsBegin z → IsBegin u → level_fault init [] nothing_held ((x ∷ xs) ∷ (y ∷ ys) ∷ (z ∷ zs) ∷ (u ∷ us) ∷ rest) false [] ≡ UnknownArgument ∷ []
unfolding clap_on_literals
init_more x xs y ys z zs u us rest p q r s =
    ap (λ (k : Kinds). level init k (fold (walked init.rules []) (at 1 nothing_held) ((x ∷ xs) ∷ (y ∷ ys) ∷ (z ∷ zs) ∷ (u ∷ us) ∷ rest)))
    (next_faults init 1 nothing_held x xs p ((y ∷ ys) ∷ (z ∷ zs) ∷ (u ∷ us) ∷ rest) ∙ next_faults init 2 _ y ys q ((z ∷ zs) ∷ (u ∷ us) ∷ rest) ∙ next_faults init 3 _ z zs r ((u ∷ us) ∷ rest) ∙ next_faults init 4 _ u us s rest)

init_cap : (x : ℕ) (xs : Text) (y : ℕ) (ys : Text) → IsBegin x → IsBegin y → first_of (codes "CAP") (rows_after init.rules [] ((x ∷ xs) ∷ (y ∷ ys) ∷ [])) ≡ Some (y ∷ ys)
unfolding clap_on_literals
init_cap x xs y ys p q = ap (λ (w : Walk). first_of (codes "CAP") (finished init.rules w.held)) (next_walk init 1 nothing_held x xs p ((y ∷ ys) ∷ []) ∙ next_walk init 2 _ y ys q [])

init_no_rate : (x : ℕ) (xs : Text) (y : ℕ) (ys : Text) → IsBegin x → IsBegin y → first_of (codes "PERMILLE") (rows_after init.rules [] ((x ∷ xs) ∷ (y ∷ ys) ∷ [])) ≡ None
unfolding clap_on_literals
init_no_rate x xs y ys p q = ap (λ (w : Walk). first_of (codes "PERMILLE") (finished init.rules w.held)) (next_walk init 1 nothing_held x xs p ((y ∷ ys) ∷ []) ∙ next_walk init 2 _ y ys q [])

init_all_cap : (x : ℕ) (xs : Text) (y : ℕ) (ys : Text) (z : ℕ) (zs : Text) → IsBegin x → IsBegin y → IsBegin z → first_of (codes "CAP") (rows_after init.rules [] ((x ∷ xs) ∷ (y ∷ ys) ∷ (z ∷ zs) ∷ [])) ≡ Some (y ∷ ys)
unfolding clap_on_literals
init_all_cap x xs y ys z zs p q r = ap (λ (w : Walk). first_of (codes "CAP") (finished init.rules w.held)) (next_walk init 1 nothing_held x xs p ((y ∷ ys) ∷ (z ∷ zs) ∷ []) ∙ next_walk init 2 _ y ys q ((z ∷ zs) ∷ []) ∙ next_walk init 3 _ z zs r [])

init_all_rate : (x : ℕ) (xs : Text) (y : ℕ) (ys : Text) (z : ℕ) (zs : Text) → IsBegin x → IsBegin y → IsBegin z → first_of (codes "PERMILLE") (rows_after init.rules [] ((x ∷ xs) ∷ (y ∷ ys) ∷ (z ∷ zs) ∷ [])) ≡ Some (z ∷ zs)
unfolding clap_on_literals
init_all_rate x xs y ys z zs p q r = ap (λ (w : Walk). first_of (codes "PERMILLE") (finished init.rules w.held)) (next_walk init 1 nothing_held x xs p ((y ∷ ys) ∷ (z ∷ zs) ∷ []) ∙ next_walk init 2 _ y ys q ((z ∷ zs) ∷ []) ∙ next_walk init 3 _ z zs r [])

-- a journal and a cap, and a rate behind them or none
abbrev pub AreInit : List Text → Type 0
AreInit words =
    ((journal : Text) × (number : Text) × (words ≡ journal ∷ number ∷ []) × IsName journal)
    ⊎ ((journal : Text) × (number : Text) × (permille : Text) × (words ≡ journal ∷ number ∷ permille ∷ []) × IsName journal)

-- clap takes no other number of words
pub init_fits : (words : List Text) → AllByRecursion IsName words → fault_of program (codes "init" ∷ words) ≡ [] → AreInit words
init_fits words all none = go words all (sym (called (codes "init") (codes "JOURNAL" ∷ codes "CAP" ∷ []) (codes "PERMILLE" ∷ []) init_named words) ∙ none)
  where
    go : (words : List Text) → AllByRecursion IsName words → level_fault init [] nothing_held words false [] ≡ [] → AreInit words
    go [] all none = absurd (faulty _ _ _ init_none none)
    go ([] ∷ words) all none = absurd (not_nothing all.0)
    go ((x ∷ xs) ∷ []) all none = absurd (faulty _ _ _ (init_one x xs (begins x xs all.0)) none)
    go ((x ∷ xs) ∷ [] ∷ words) all none = absurd (not_nothing all.1.0)
    go ((x ∷ xs) ∷ (y ∷ ys) ∷ []) all none = inl (x ∷ xs, y ∷ ys, refl, all.0)
    go ((x ∷ xs) ∷ (y ∷ ys) ∷ [] ∷ words) all none = absurd (not_nothing all.1.1.0)
    go ((x ∷ xs) ∷ (y ∷ ys) ∷ (z ∷ zs) ∷ []) all none = inr (x ∷ xs, y ∷ ys, z ∷ zs, refl, all.0)
    go ((x ∷ xs) ∷ (y ∷ ys) ∷ (z ∷ zs) ∷ [] ∷ words) all none = absurd (not_nothing all.1.1.1.0)
    go ((x ∷ xs) ∷ (y ∷ ys) ∷ (z ∷ zs) ∷ (u ∷ us) ∷ words) all none = absurd (faulty _ _ _ (init_more x xs y ys z zs u us words (begins x xs all.0) (begins y ys all.1.0) (begins z zs all.1.1.0) (begins u us all.1.1.1.0)) none)

-- the words without a rate are taken, and read as they stand
pub init_read : (journal number : Text) → IsName journal → IsName number
    → (fault_of program (codes "init" ∷ journal ∷ number ∷ []) ≡ []) × ((rows : List Row) × (subcommand_of program (codes "init" ∷ journal ∷ number ∷ []) ≡ Some (codes "init", rows)) × (first_of (codes "CAP") rows ≡ Some number) × (first_of (codes "PERMILLE") rows ≡ None))
init_read [] number p q = absurd (not_nothing p)
init_read (x ∷ xs) [] p q = absurd (not_nothing q)
init_read (x ∷ xs) (y ∷ ys) p q = (
  called (codes "init") (codes "JOURNAL" ∷ codes "CAP" ∷ []) (codes "PERMILLE" ∷ []) init_named ((x ∷ xs) ∷ (y ∷ ys) ∷ []) ∙ init_taken x xs y ys (begins x xs p) (begins y ys q),
  (
    rows_after init.rules [] ((x ∷ xs) ∷ (y ∷ ys) ∷ []),
    entered_as (codes "init") (codes "JOURNAL" ∷ codes "CAP" ∷ []) (codes "PERMILLE" ∷ []) init_named ((x ∷ xs) ∷ (y ∷ ys) ∷ []),
    init_cap x xs y ys (begins x xs p) (begins y ys q),
    init_no_rate x xs y ys (begins x xs p) (begins y ys q),
  ),
)

-- and so are those with one
pub init_all_read : (journal number permille : Text) → IsName journal → IsName number → IsName permille
    → (fault_of program (codes "init" ∷ journal ∷ number ∷ permille ∷ []) ≡ []) × ((rows : List Row) × (subcommand_of program (codes "init" ∷ journal ∷ number ∷ permille ∷ []) ≡ Some (codes "init", rows)) × (first_of (codes "CAP") rows ≡ Some number) × (first_of (codes "PERMILLE") rows ≡ Some permille))
init_all_read [] number permille p q r = absurd (not_nothing p)
init_all_read (x ∷ xs) [] permille p q r = absurd (not_nothing q)
init_all_read (x ∷ xs) (y ∷ ys) [] p q r = absurd (not_nothing r)
init_all_read (x ∷ xs) (y ∷ ys) (z ∷ zs) p q r = (
  called (codes "init") (codes "JOURNAL" ∷ codes "CAP" ∷ []) (codes "PERMILLE" ∷ []) init_named ((x ∷ xs) ∷ (y ∷ ys) ∷ (z ∷ zs) ∷ []) ∙ init_all_taken x xs y ys z zs (begins x xs p) (begins y ys q) (begins z zs r),
  (
    rows_after init.rules [] ((x ∷ xs) ∷ (y ∷ ys) ∷ (z ∷ zs) ∷ []),
    entered_as (codes "init") (codes "JOURNAL" ∷ codes "CAP" ∷ []) (codes "PERMILLE" ∷ []) init_named ((x ∷ xs) ∷ (y ∷ ys) ∷ (z ∷ zs) ∷ []),
    init_all_cap x xs y ys z zs (begins x xs p) (begins y ys q) (begins z zs r),
    init_all_rate x xs y ys z zs (begins x xs p) (begins y ys q) (begins z zs r),
  ),
)

-- ---- batch JOURNAL, and the other commands of a journal alone

pub batch_named : IsNamed (codes "batch") (codes "JOURNAL" ∷ []) []
unfolding clap_on_literals
batch_named = record { met = refl; silent = refl; found = refl }

pub follow_named : IsNamed (codes "follow") (codes "JOURNAL" ∷ []) []
unfolding clap_on_literals
follow_named = record { met = refl; silent = refl; found = refl }

pub promote_named : IsNamed (codes "promote") (codes "JOURNAL" ∷ []) []
unfolding clap_on_literals
promote_named = record { met = refl; silent = refl; found = refl }

module _ (name : Text) (named : IsNamed name (codes "JOURNAL" ∷ []) []) where
  abbrev alone : Shape
  alone = leaf name (codes "JOURNAL" ∷ []) []

  journal_none : level_fault alone [] nothing_held [] false [] ≡ MissingRequiredArgument ∷ []
  unfolding clap_on_literals
  journal_none = refl

  journal_taken : (x : ℕ) (xs : Text) → IsBegin x → level_fault alone [] nothing_held ((x ∷ xs) ∷ []) false [] ≡ []
  unfolding clap_on_literals
  journal_taken x xs p =
      ap (λ (k : Kinds). level alone k (fold (walked alone.rules []) (at 1 nothing_held) ((x ∷ xs) ∷ [])))
      (next_faults alone 1 nothing_held x xs p [])
      ∙ ap (λ (w : Walk). level alone [] w) (next_walk alone 1 nothing_held x xs p [])

  journal_more : (x : ℕ) (xs : Text) (y : ℕ) (ys : Text) (rest : List Text) → IsBegin x → IsBegin y → level_fault alone [] nothing_held ((x ∷ xs) ∷ (y ∷ ys) ∷ rest) false [] ≡ UnknownArgument ∷ []
  unfolding clap_on_literals
  journal_more x xs y ys rest p q =
      ap (λ (k : Kinds). level alone k (fold (walked alone.rules []) (at 1 nothing_held) ((x ∷ xs) ∷ (y ∷ ys) ∷ rest)))
      (next_faults alone 1 nothing_held x xs p ((y ∷ ys) ∷ rest) ∙ next_faults alone 2 _ y ys q rest)

  -- clap takes no other number of words
  pub journal_fits : (words : List Text) → AllByRecursion IsName words → fault_of program (name ∷ words) ≡ [] → (journal : Text) × (words ≡ journal ∷ []) × IsName journal
  journal_fits words all none = go words all (sym (called name (codes "JOURNAL" ∷ []) [] named words) ∙ none)
    where
      go : (words : List Text) → AllByRecursion IsName words → level_fault alone [] nothing_held words false [] ≡ [] → (journal : Text) × (words ≡ journal ∷ []) × IsName journal
      go [] all none = absurd (faulty _ _ _ journal_none none)
      go ([] ∷ words) all none = absurd (not_nothing all.0)
      go ((x ∷ xs) ∷ []) all none = (x ∷ xs, refl, all.0)
      go ((x ∷ xs) ∷ [] ∷ words) all none = absurd (not_nothing all.1.0)
      go ((x ∷ xs) ∷ (y ∷ ys) ∷ words) all none = absurd (faulty _ _ _ (journal_more x xs y ys words (begins x xs all.0) (begins y ys all.1.0)) none)

  -- as many words as it has positions are taken, and read as they stand
  pub journal_read : (journal : Text) → IsName journal
      → (fault_of program (name ∷ journal ∷ []) ≡ []) × ((rows : List Row) × (subcommand_of program (name ∷ journal ∷ []) ≡ Some (name, rows)))
  journal_read [] p = absurd (not_nothing p)
  journal_read (x ∷ xs) p = (
    called name (codes "JOURNAL" ∷ []) [] named ((x ∷ xs) ∷ []) ∙ journal_taken x xs (begins x xs p),
    (
      rows_after alone.rules [] ((x ∷ xs) ∷ []),
      entered_as name (codes "JOURNAL" ∷ []) [] named ((x ∷ xs) ∷ []),
    ),
  )

-- ---- drill SEED ORDERS

pub drill_named : IsNamed (codes "drill") (codes "SEED" ∷ codes "ORDERS" ∷ []) []
unfolding clap_on_literals
drill_named = record { met = refl; silent = refl; found = refl }

abbrev drill : Shape
drill = leaf (codes "drill") (codes "SEED" ∷ codes "ORDERS" ∷ []) []

drill_none : level_fault drill [] nothing_held [] false [] ≡ MissingRequiredArgument ∷ []
unfolding clap_on_literals
drill_none = refl

drill_one : (x : ℕ) (xs : Text) → IsBegin x → level_fault drill [] nothing_held ((x ∷ xs) ∷ []) false [] ≡ MissingRequiredArgument ∷ []
unfolding clap_on_literals
drill_one x xs p =
    ap (λ (k : Kinds). level drill k (fold (walked drill.rules []) (at 1 nothing_held) ((x ∷ xs) ∷ [])))
    (next_faults drill 1 nothing_held x xs p [])
    ∙ ap (λ (w : Walk). level drill [] w) (next_walk drill 1 nothing_held x xs p [])

drill_taken : (x : ℕ) (xs : Text) (y : ℕ) (ys : Text) → IsBegin x → IsBegin y → level_fault drill [] nothing_held ((x ∷ xs) ∷ (y ∷ ys) ∷ []) false [] ≡ []
unfolding clap_on_literals
drill_taken x xs y ys p q =
    ap (λ (k : Kinds). level drill k (fold (walked drill.rules []) (at 1 nothing_held) ((x ∷ xs) ∷ (y ∷ ys) ∷ [])))
    (next_faults drill 1 nothing_held x xs p ((y ∷ ys) ∷ []) ∙ next_faults drill 2 _ y ys q [])
    ∙ ap (λ (w : Walk). level drill [] w) (next_walk drill 1 nothing_held x xs p ((y ∷ ys) ∷ []) ∙ next_walk drill 2 _ y ys q [])

drill_more : (x : ℕ) (xs : Text) (y : ℕ) (ys : Text) (z : ℕ) (zs : Text) (rest : List Text) → IsBegin x → IsBegin y → IsBegin z → level_fault drill [] nothing_held ((x ∷ xs) ∷ (y ∷ ys) ∷ (z ∷ zs) ∷ rest) false [] ≡ UnknownArgument ∷ []
unfolding clap_on_literals
drill_more x xs y ys z zs rest p q r =
    ap (λ (k : Kinds). level drill k (fold (walked drill.rules []) (at 1 nothing_held) ((x ∷ xs) ∷ (y ∷ ys) ∷ (z ∷ zs) ∷ rest)))
    (next_faults drill 1 nothing_held x xs p ((y ∷ ys) ∷ (z ∷ zs) ∷ rest) ∙ next_faults drill 2 _ y ys q ((z ∷ zs) ∷ rest) ∙ next_faults drill 3 _ z zs r rest)

drill_seed : (x : ℕ) (xs : Text) (y : ℕ) (ys : Text) → IsBegin x → IsBegin y → first_of (codes "SEED") (rows_after drill.rules [] ((x ∷ xs) ∷ (y ∷ ys) ∷ [])) ≡ Some (x ∷ xs)
unfolding clap_on_literals
drill_seed x xs y ys p q = ap (λ (w : Walk). first_of (codes "SEED") (finished drill.rules w.held)) (next_walk drill 1 nothing_held x xs p ((y ∷ ys) ∷ []) ∙ next_walk drill 2 _ y ys q [])

drill_orders : (x : ℕ) (xs : Text) (y : ℕ) (ys : Text) → IsBegin x → IsBegin y → first_of (codes "ORDERS") (rows_after drill.rules [] ((x ∷ xs) ∷ (y ∷ ys) ∷ [])) ≡ Some (y ∷ ys)
unfolding clap_on_literals
drill_orders x xs y ys p q = ap (λ (w : Walk). first_of (codes "ORDERS") (finished drill.rules w.held)) (next_walk drill 1 nothing_held x xs p ((y ∷ ys) ∷ []) ∙ next_walk drill 2 _ y ys q [])

-- clap takes no other number of words
pub drill_fits : (words : List Text) → AllByRecursion IsName words → fault_of program (codes "drill" ∷ words) ≡ [] → (seed : Text) × (orders : Text) × (words ≡ seed ∷ orders ∷ [])
drill_fits words all none = go words all (sym (called (codes "drill") (codes "SEED" ∷ codes "ORDERS" ∷ []) [] drill_named words) ∙ none)
  where
    go : (words : List Text) → AllByRecursion IsName words → level_fault drill [] nothing_held words false [] ≡ [] → (seed : Text) × (orders : Text) × (words ≡ seed ∷ orders ∷ [])
    go [] all none = absurd (faulty _ _ _ drill_none none)
    go ([] ∷ words) all none = absurd (not_nothing all.0)
    go ((x ∷ xs) ∷ []) all none = absurd (faulty _ _ _ (drill_one x xs (begins x xs all.0)) none)
    go ((x ∷ xs) ∷ [] ∷ words) all none = absurd (not_nothing all.1.0)
    go ((x ∷ xs) ∷ (y ∷ ys) ∷ []) all none = (x ∷ xs, y ∷ ys, refl)
    go ((x ∷ xs) ∷ (y ∷ ys) ∷ [] ∷ words) all none = absurd (not_nothing all.1.1.0)
    go ((x ∷ xs) ∷ (y ∷ ys) ∷ (z ∷ zs) ∷ words) all none = absurd (faulty _ _ _ (drill_more x xs y ys z zs words (begins x xs all.0) (begins y ys all.1.0) (begins z zs all.1.1.0)) none)

-- as many words as it has positions are taken, and read as they stand
pub drill_read : (seed orders : Text) → IsName seed → IsName orders
    → (fault_of program (codes "drill" ∷ seed ∷ orders ∷ []) ≡ []) × ((rows : List Row) × (subcommand_of program (codes "drill" ∷ seed ∷ orders ∷ []) ≡ Some (codes "drill", rows)) × (first_of (codes "SEED") rows ≡ Some seed) × (first_of (codes "ORDERS") rows ≡ Some orders))
drill_read [] orders p q = absurd (not_nothing p)
drill_read (x ∷ xs) [] p q = absurd (not_nothing q)
drill_read (x ∷ xs) (y ∷ ys) p q = (
  called (codes "drill") (codes "SEED" ∷ codes "ORDERS" ∷ []) [] drill_named ((x ∷ xs) ∷ (y ∷ ys) ∷ []) ∙ drill_taken x xs y ys (begins x xs p) (begins y ys q),
  (
    rows_after drill.rules [] ((x ∷ xs) ∷ (y ∷ ys) ∷ []),
    entered_as (codes "drill") (codes "SEED" ∷ codes "ORDERS" ∷ []) [] drill_named ((x ∷ xs) ∷ (y ∷ ys) ∷ []),
    drill_seed x xs y ys (begins x xs p) (begins y ys q),
    drill_orders x xs y ys (begins x xs p) (begins y ys q),
  ),
)

-- ---- serve JOURNAL ADDRESS WORKERS SESSIONS

pub serve_named : IsNamed (codes "serve") (codes "JOURNAL" ∷ codes "ADDRESS" ∷ codes "WORKERS" ∷ codes "SESSIONS" ∷ []) []
unfolding clap_on_literals
serve_named = record { met = refl; silent = refl; found = refl }

abbrev serve : Shape
serve = leaf (codes "serve") (codes "JOURNAL" ∷ codes "ADDRESS" ∷ codes "WORKERS" ∷ codes "SESSIONS" ∷ []) []

serve_none : level_fault serve [] nothing_held [] false [] ≡ MissingRequiredArgument ∷ []
unfolding clap_on_literals
serve_none = refl

serve_one : (x : ℕ) (xs : Text) → IsBegin x → level_fault serve [] nothing_held ((x ∷ xs) ∷ []) false [] ≡ MissingRequiredArgument ∷ []
unfolding clap_on_literals
serve_one x xs p =
    ap (λ (k : Kinds). level serve k (fold (walked serve.rules []) (at 1 nothing_held) ((x ∷ xs) ∷ [])))
    (next_faults serve 1 nothing_held x xs p [])
    ∙ ap (λ (w : Walk). level serve [] w) (next_walk serve 1 nothing_held x xs p [])

serve_two : (x : ℕ) (xs : Text) (y : ℕ) (ys : Text) → IsBegin x → IsBegin y → level_fault serve [] nothing_held ((x ∷ xs) ∷ (y ∷ ys) ∷ []) false [] ≡ MissingRequiredArgument ∷ []
unfolding clap_on_literals
serve_two x xs y ys p q =
    ap (λ (k : Kinds). level serve k (fold (walked serve.rules []) (at 1 nothing_held) ((x ∷ xs) ∷ (y ∷ ys) ∷ [])))
    (next_faults serve 1 nothing_held x xs p ((y ∷ ys) ∷ []) ∙ next_faults serve 2 _ y ys q [])
    ∙ ap (λ (w : Walk). level serve [] w) (next_walk serve 1 nothing_held x xs p ((y ∷ ys) ∷ []) ∙ next_walk serve 2 _ y ys q [])

serve_three : (x : ℕ) (xs : Text) (y : ℕ) (ys : Text) (z : ℕ) (zs : Text) → IsBegin x → IsBegin y → IsBegin z → level_fault serve [] nothing_held ((x ∷ xs) ∷ (y ∷ ys) ∷ (z ∷ zs) ∷ []) false [] ≡ MissingRequiredArgument ∷ []
unfolding clap_on_literals
serve_three x xs y ys z zs p q r =
    ap (λ (k : Kinds). level serve k (fold (walked serve.rules []) (at 1 nothing_held) ((x ∷ xs) ∷ (y ∷ ys) ∷ (z ∷ zs) ∷ [])))
    (next_faults serve 1 nothing_held x xs p ((y ∷ ys) ∷ (z ∷ zs) ∷ []) ∙ next_faults serve 2 _ y ys q ((z ∷ zs) ∷ []) ∙ next_faults serve 3 _ z zs r [])
    ∙ ap (λ (w : Walk). level serve [] w) (next_walk serve 1 nothing_held x xs p ((y ∷ ys) ∷ (z ∷ zs) ∷ []) ∙ next_walk serve 2 _ y ys q ((z ∷ zs) ∷ []) ∙ next_walk serve 3 _ z zs r [])

serve_taken : (x : ℕ) (xs : Text) (y : ℕ) (ys : Text) (z : ℕ) (zs : Text) (u : ℕ) (us : Text) → IsBegin x → IsBegin y → IsBegin z → IsBegin u → level_fault serve [] nothing_held ((x ∷ xs) ∷ (y ∷ ys) ∷ (z ∷ zs) ∷ (u ∷ us) ∷ []) false [] ≡ []
unfolding clap_on_literals
serve_taken x xs y ys z zs u us p q r s =
    ap (λ (k : Kinds). level serve k (fold (walked serve.rules []) (at 1 nothing_held) ((x ∷ xs) ∷ (y ∷ ys) ∷ (z ∷ zs) ∷ (u ∷ us) ∷ [])))
    (next_faults serve 1 nothing_held x xs p ((y ∷ ys) ∷ (z ∷ zs) ∷ (u ∷ us) ∷ []) ∙ next_faults serve 2 _ y ys q ((z ∷ zs) ∷ (u ∷ us) ∷ []) ∙ next_faults serve 3 _ z zs r ((u ∷ us) ∷ []) ∙ next_faults serve 4 _ u us s [])
    ∙ ap (λ (w : Walk). level serve [] w) (next_walk serve 1 nothing_held x xs p ((y ∷ ys) ∷ (z ∷ zs) ∷ (u ∷ us) ∷ []) ∙ next_walk serve 2 _ y ys q ((z ∷ zs) ∷ (u ∷ us) ∷ []) ∙ next_walk serve 3 _ z zs r ((u ∷ us) ∷ []) ∙ next_walk serve 4 _ u us s [])

serve_more : (x : ℕ) (xs : Text) (y : ℕ) (ys : Text) (z : ℕ) (zs : Text) (u : ℕ) (us : Text) (v : ℕ) (vs : Text) (rest : List Text) → IsBegin x → IsBegin y → IsBegin z → IsBegin u → IsBegin v → level_fault serve [] nothing_held ((x ∷ xs) ∷ (y ∷ ys) ∷ (z ∷ zs) ∷ (u ∷ us) ∷ (v ∷ vs) ∷ rest) false [] ≡ UnknownArgument ∷ []
unfolding clap_on_literals
serve_more x xs y ys z zs u us v vs rest p q r s t =
    ap (λ (k : Kinds). level serve k (fold (walked serve.rules []) (at 1 nothing_held) ((x ∷ xs) ∷ (y ∷ ys) ∷ (z ∷ zs) ∷ (u ∷ us) ∷ (v ∷ vs) ∷ rest)))
    (next_faults serve 1 nothing_held x xs p ((y ∷ ys) ∷ (z ∷ zs) ∷ (u ∷ us) ∷ (v ∷ vs) ∷ rest) ∙ next_faults serve 2 _ y ys q ((z ∷ zs) ∷ (u ∷ us) ∷ (v ∷ vs) ∷ rest) ∙ next_faults serve 3 _ z zs r ((u ∷ us) ∷ (v ∷ vs) ∷ rest) ∙ next_faults serve 4 _ u us s ((v ∷ vs) ∷ rest) ∙ next_faults serve 5 _ v vs t rest)

serve_workers : (x : ℕ) (xs : Text) (y : ℕ) (ys : Text) (z : ℕ) (zs : Text) (u : ℕ) (us : Text) → IsBegin x → IsBegin y → IsBegin z → IsBegin u → first_of (codes "WORKERS") (rows_after serve.rules [] ((x ∷ xs) ∷ (y ∷ ys) ∷ (z ∷ zs) ∷ (u ∷ us) ∷ [])) ≡ Some (z ∷ zs)
unfolding clap_on_literals
serve_workers x xs y ys z zs u us p q r s = ap (λ (w : Walk). first_of (codes "WORKERS") (finished serve.rules w.held)) (next_walk serve 1 nothing_held x xs p ((y ∷ ys) ∷ (z ∷ zs) ∷ (u ∷ us) ∷ []) ∙ next_walk serve 2 _ y ys q ((z ∷ zs) ∷ (u ∷ us) ∷ []) ∙ next_walk serve 3 _ z zs r ((u ∷ us) ∷ []) ∙ next_walk serve 4 _ u us s [])

serve_sessions : (x : ℕ) (xs : Text) (y : ℕ) (ys : Text) (z : ℕ) (zs : Text) (u : ℕ) (us : Text) → IsBegin x → IsBegin y → IsBegin z → IsBegin u → first_of (codes "SESSIONS") (rows_after serve.rules [] ((x ∷ xs) ∷ (y ∷ ys) ∷ (z ∷ zs) ∷ (u ∷ us) ∷ [])) ≡ Some (u ∷ us)
unfolding clap_on_literals
serve_sessions x xs y ys z zs u us p q r s = ap (λ (w : Walk). first_of (codes "SESSIONS") (finished serve.rules w.held)) (next_walk serve 1 nothing_held x xs p ((y ∷ ys) ∷ (z ∷ zs) ∷ (u ∷ us) ∷ []) ∙ next_walk serve 2 _ y ys q ((z ∷ zs) ∷ (u ∷ us) ∷ []) ∙ next_walk serve 3 _ z zs r ((u ∷ us) ∷ []) ∙ next_walk serve 4 _ u us s [])

-- clap takes no other number of words
pub serve_fits : (words : List Text) → AllByRecursion IsName words → fault_of program (codes "serve" ∷ words) ≡ [] → (journal : Text) × (address : Text) × (workers : Text) × (sessions : Text) × (words ≡ journal ∷ address ∷ workers ∷ sessions ∷ []) × IsName journal × IsName address
serve_fits words all none = go words all (sym (called (codes "serve") (codes "JOURNAL" ∷ codes "ADDRESS" ∷ codes "WORKERS" ∷ codes "SESSIONS" ∷ []) [] serve_named words) ∙ none)
  where
    go : (words : List Text) → AllByRecursion IsName words → level_fault serve [] nothing_held words false [] ≡ [] → (journal : Text) × (address : Text) × (workers : Text) × (sessions : Text) × (words ≡ journal ∷ address ∷ workers ∷ sessions ∷ []) × IsName journal × IsName address
    go [] all none = absurd (faulty _ _ _ serve_none none)
    go ([] ∷ words) all none = absurd (not_nothing all.0)
    go ((x ∷ xs) ∷ []) all none = absurd (faulty _ _ _ (serve_one x xs (begins x xs all.0)) none)
    go ((x ∷ xs) ∷ [] ∷ words) all none = absurd (not_nothing all.1.0)
    go ((x ∷ xs) ∷ (y ∷ ys) ∷ []) all none = absurd (faulty _ _ _ (serve_two x xs y ys (begins x xs all.0) (begins y ys all.1.0)) none)
    go ((x ∷ xs) ∷ (y ∷ ys) ∷ [] ∷ words) all none = absurd (not_nothing all.1.1.0)
    go ((x ∷ xs) ∷ (y ∷ ys) ∷ (z ∷ zs) ∷ []) all none = absurd (faulty _ _ _ (serve_three x xs y ys z zs (begins x xs all.0) (begins y ys all.1.0) (begins z zs all.1.1.0)) none)
    go ((x ∷ xs) ∷ (y ∷ ys) ∷ (z ∷ zs) ∷ [] ∷ words) all none = absurd (not_nothing all.1.1.1.0)
    go ((x ∷ xs) ∷ (y ∷ ys) ∷ (z ∷ zs) ∷ (u ∷ us) ∷ []) all none = (x ∷ xs, y ∷ ys, z ∷ zs, u ∷ us, refl, all.0, all.1.0)
    go ((x ∷ xs) ∷ (y ∷ ys) ∷ (z ∷ zs) ∷ (u ∷ us) ∷ [] ∷ words) all none = absurd (not_nothing all.1.1.1.1.0)
    go ((x ∷ xs) ∷ (y ∷ ys) ∷ (z ∷ zs) ∷ (u ∷ us) ∷ (v ∷ vs) ∷ words) all none = absurd (faulty _ _ _ (serve_more x xs y ys z zs u us v vs words (begins x xs all.0) (begins y ys all.1.0) (begins z zs all.1.1.0) (begins u us all.1.1.1.0) (begins v vs all.1.1.1.1.0)) none)

-- as many words as it has positions are taken, and read as they stand
pub serve_read : (journal address workers sessions : Text) → IsName journal → IsName address → IsName workers → IsName sessions
    → (fault_of program (codes "serve" ∷ journal ∷ address ∷ workers ∷ sessions ∷ []) ≡ []) × ((rows : List Row) × (subcommand_of program (codes "serve" ∷ journal ∷ address ∷ workers ∷ sessions ∷ []) ≡ Some (codes "serve", rows)) × (first_of (codes "WORKERS") rows ≡ Some workers) × (first_of (codes "SESSIONS") rows ≡ Some sessions))
serve_read [] address workers sessions p q r s = absurd (not_nothing p)
serve_read (x ∷ xs) [] workers sessions p q r s = absurd (not_nothing q)
serve_read (x ∷ xs) (y ∷ ys) [] sessions p q r s = absurd (not_nothing r)
serve_read (x ∷ xs) (y ∷ ys) (z ∷ zs) [] p q r s = absurd (not_nothing s)
serve_read (x ∷ xs) (y ∷ ys) (z ∷ zs) (u ∷ us) p q r s = (
  called (codes "serve") (codes "JOURNAL" ∷ codes "ADDRESS" ∷ codes "WORKERS" ∷ codes "SESSIONS" ∷ []) [] serve_named ((x ∷ xs) ∷ (y ∷ ys) ∷ (z ∷ zs) ∷ (u ∷ us) ∷ []) ∙ serve_taken x xs y ys z zs u us (begins x xs p) (begins y ys q) (begins z zs r) (begins u us s),
  (
    rows_after serve.rules [] ((x ∷ xs) ∷ (y ∷ ys) ∷ (z ∷ zs) ∷ (u ∷ us) ∷ []),
    entered_as (codes "serve") (codes "JOURNAL" ∷ codes "ADDRESS" ∷ codes "WORKERS" ∷ codes "SESSIONS" ∷ []) [] serve_named ((x ∷ xs) ∷ (y ∷ ys) ∷ (z ∷ zs) ∷ (u ∷ us) ∷ []),
    serve_workers x xs y ys z zs u us (begins x xs p) (begins y ys q) (begins z zs r) (begins u us s),
    serve_sessions x xs y ys z zs u us (begins x xs p) (begins y ys q) (begins z zs r) (begins u us s),
  ),
)

-- ---- migrate JOURNAL PERMILLE

pub migrate_named : IsNamed (codes "migrate") (codes "JOURNAL" ∷ codes "PERMILLE" ∷ []) []
unfolding clap_on_literals
migrate_named = record { met = refl; silent = refl; found = refl }

abbrev migrate : Shape
migrate = leaf (codes "migrate") (codes "JOURNAL" ∷ codes "PERMILLE" ∷ []) []

migrate_none : level_fault migrate [] nothing_held [] false [] ≡ MissingRequiredArgument ∷ []
unfolding clap_on_literals
migrate_none = refl

migrate_one : (x : ℕ) (xs : Text) → IsBegin x → level_fault migrate [] nothing_held ((x ∷ xs) ∷ []) false [] ≡ MissingRequiredArgument ∷ []
unfolding clap_on_literals
migrate_one x xs p =
    ap (λ (k : Kinds). level migrate k (fold (walked migrate.rules []) (at 1 nothing_held) ((x ∷ xs) ∷ [])))
    (next_faults migrate 1 nothing_held x xs p [])
    ∙ ap (λ (w : Walk). level migrate [] w) (next_walk migrate 1 nothing_held x xs p [])

migrate_taken : (x : ℕ) (xs : Text) (y : ℕ) (ys : Text) → IsBegin x → IsBegin y → level_fault migrate [] nothing_held ((x ∷ xs) ∷ (y ∷ ys) ∷ []) false [] ≡ []
unfolding clap_on_literals
migrate_taken x xs y ys p q =
    ap (λ (k : Kinds). level migrate k (fold (walked migrate.rules []) (at 1 nothing_held) ((x ∷ xs) ∷ (y ∷ ys) ∷ [])))
    (next_faults migrate 1 nothing_held x xs p ((y ∷ ys) ∷ []) ∙ next_faults migrate 2 _ y ys q [])
    ∙ ap (λ (w : Walk). level migrate [] w) (next_walk migrate 1 nothing_held x xs p ((y ∷ ys) ∷ []) ∙ next_walk migrate 2 _ y ys q [])

migrate_more : (x : ℕ) (xs : Text) (y : ℕ) (ys : Text) (z : ℕ) (zs : Text) (rest : List Text) → IsBegin x → IsBegin y → IsBegin z → level_fault migrate [] nothing_held ((x ∷ xs) ∷ (y ∷ ys) ∷ (z ∷ zs) ∷ rest) false [] ≡ UnknownArgument ∷ []
unfolding clap_on_literals
migrate_more x xs y ys z zs rest p q r =
    ap (λ (k : Kinds). level migrate k (fold (walked migrate.rules []) (at 1 nothing_held) ((x ∷ xs) ∷ (y ∷ ys) ∷ (z ∷ zs) ∷ rest)))
    (next_faults migrate 1 nothing_held x xs p ((y ∷ ys) ∷ (z ∷ zs) ∷ rest) ∙ next_faults migrate 2 _ y ys q ((z ∷ zs) ∷ rest) ∙ next_faults migrate 3 _ z zs r rest)

migrate_rate : (x : ℕ) (xs : Text) (y : ℕ) (ys : Text) → IsBegin x → IsBegin y → first_of (codes "PERMILLE") (rows_after migrate.rules [] ((x ∷ xs) ∷ (y ∷ ys) ∷ [])) ≡ Some (y ∷ ys)
unfolding clap_on_literals
migrate_rate x xs y ys p q = ap (λ (w : Walk). first_of (codes "PERMILLE") (finished migrate.rules w.held)) (next_walk migrate 1 nothing_held x xs p ((y ∷ ys) ∷ []) ∙ next_walk migrate 2 _ y ys q [])

-- clap takes no other number of words
pub migrate_fits : (words : List Text) → AllByRecursion IsName words → fault_of program (codes "migrate" ∷ words) ≡ [] → (journal : Text) × (permille : Text) × (words ≡ journal ∷ permille ∷ []) × IsName journal
migrate_fits words all none = go words all (sym (called (codes "migrate") (codes "JOURNAL" ∷ codes "PERMILLE" ∷ []) [] migrate_named words) ∙ none)
  where
    go : (words : List Text) → AllByRecursion IsName words → level_fault migrate [] nothing_held words false [] ≡ [] → (journal : Text) × (permille : Text) × (words ≡ journal ∷ permille ∷ []) × IsName journal
    go [] all none = absurd (faulty _ _ _ migrate_none none)
    go ([] ∷ words) all none = absurd (not_nothing all.0)
    go ((x ∷ xs) ∷ []) all none = absurd (faulty _ _ _ (migrate_one x xs (begins x xs all.0)) none)
    go ((x ∷ xs) ∷ [] ∷ words) all none = absurd (not_nothing all.1.0)
    go ((x ∷ xs) ∷ (y ∷ ys) ∷ []) all none = (x ∷ xs, y ∷ ys, refl, all.0)
    go ((x ∷ xs) ∷ (y ∷ ys) ∷ [] ∷ words) all none = absurd (not_nothing all.1.1.0)
    go ((x ∷ xs) ∷ (y ∷ ys) ∷ (z ∷ zs) ∷ words) all none = absurd (faulty _ _ _ (migrate_more x xs y ys z zs words (begins x xs all.0) (begins y ys all.1.0) (begins z zs all.1.1.0)) none)

-- as many words as it has positions are taken, and read as they stand
pub migrate_read : (journal permille : Text) → IsName journal → IsName permille
    → (fault_of program (codes "migrate" ∷ journal ∷ permille ∷ []) ≡ []) × ((rows : List Row) × (subcommand_of program (codes "migrate" ∷ journal ∷ permille ∷ []) ≡ Some (codes "migrate", rows)) × (first_of (codes "PERMILLE") rows ≡ Some permille))
migrate_read [] permille p q = absurd (not_nothing p)
migrate_read (x ∷ xs) [] p q = absurd (not_nothing q)
migrate_read (x ∷ xs) (y ∷ ys) p q = (
  called (codes "migrate") (codes "JOURNAL" ∷ codes "PERMILLE" ∷ []) [] migrate_named ((x ∷ xs) ∷ (y ∷ ys) ∷ []) ∙ migrate_taken x xs y ys (begins x xs p) (begins y ys q),
  (
    rows_after migrate.rules [] ((x ∷ xs) ∷ (y ∷ ys) ∷ []),
    entered_as (codes "migrate") (codes "JOURNAL" ∷ codes "PERMILLE" ∷ []) [] migrate_named ((x ∷ xs) ∷ (y ∷ ys) ∷ []),
    migrate_rate x xs y ys (begins x xs p) (begins y ys q),
  ),
)

-- ---- statement JOURNAL ACCT

pub statement_named : IsNamed (codes "statement") (codes "JOURNAL" ∷ codes "ACCT" ∷ []) []
unfolding clap_on_literals
statement_named = record { met = refl; silent = refl; found = refl }

abbrev statement : Shape
statement = leaf (codes "statement") (codes "JOURNAL" ∷ codes "ACCT" ∷ []) []

statement_none : level_fault statement [] nothing_held [] false [] ≡ MissingRequiredArgument ∷ []
unfolding clap_on_literals
statement_none = refl

statement_one : (x : ℕ) (xs : Text) → IsBegin x → level_fault statement [] nothing_held ((x ∷ xs) ∷ []) false [] ≡ MissingRequiredArgument ∷ []
unfolding clap_on_literals
statement_one x xs p =
    ap (λ (k : Kinds). level statement k (fold (walked statement.rules []) (at 1 nothing_held) ((x ∷ xs) ∷ [])))
    (next_faults statement 1 nothing_held x xs p [])
    ∙ ap (λ (w : Walk). level statement [] w) (next_walk statement 1 nothing_held x xs p [])

statement_taken : (x : ℕ) (xs : Text) (y : ℕ) (ys : Text) → IsBegin x → IsBegin y → level_fault statement [] nothing_held ((x ∷ xs) ∷ (y ∷ ys) ∷ []) false [] ≡ []
unfolding clap_on_literals
statement_taken x xs y ys p q =
    ap (λ (k : Kinds). level statement k (fold (walked statement.rules []) (at 1 nothing_held) ((x ∷ xs) ∷ (y ∷ ys) ∷ [])))
    (next_faults statement 1 nothing_held x xs p ((y ∷ ys) ∷ []) ∙ next_faults statement 2 _ y ys q [])
    ∙ ap (λ (w : Walk). level statement [] w) (next_walk statement 1 nothing_held x xs p ((y ∷ ys) ∷ []) ∙ next_walk statement 2 _ y ys q [])

statement_more : (x : ℕ) (xs : Text) (y : ℕ) (ys : Text) (z : ℕ) (zs : Text) (rest : List Text) → IsBegin x → IsBegin y → IsBegin z → level_fault statement [] nothing_held ((x ∷ xs) ∷ (y ∷ ys) ∷ (z ∷ zs) ∷ rest) false [] ≡ UnknownArgument ∷ []
unfolding clap_on_literals
statement_more x xs y ys z zs rest p q r =
    ap (λ (k : Kinds). level statement k (fold (walked statement.rules []) (at 1 nothing_held) ((x ∷ xs) ∷ (y ∷ ys) ∷ (z ∷ zs) ∷ rest)))
    (next_faults statement 1 nothing_held x xs p ((y ∷ ys) ∷ (z ∷ zs) ∷ rest) ∙ next_faults statement 2 _ y ys q ((z ∷ zs) ∷ rest) ∙ next_faults statement 3 _ z zs r rest)

statement_acct : (x : ℕ) (xs : Text) (y : ℕ) (ys : Text) → IsBegin x → IsBegin y → first_of (codes "ACCT") (rows_after statement.rules [] ((x ∷ xs) ∷ (y ∷ ys) ∷ [])) ≡ Some (y ∷ ys)
unfolding clap_on_literals
statement_acct x xs y ys p q = ap (λ (w : Walk). first_of (codes "ACCT") (finished statement.rules w.held)) (next_walk statement 1 nothing_held x xs p ((y ∷ ys) ∷ []) ∙ next_walk statement 2 _ y ys q [])

-- clap takes no other number of words
pub statement_fits : (words : List Text) → AllByRecursion IsName words → fault_of program (codes "statement" ∷ words) ≡ [] → (journal : Text) × (number : Text) × (words ≡ journal ∷ number ∷ []) × IsName journal
statement_fits words all none = go words all (sym (called (codes "statement") (codes "JOURNAL" ∷ codes "ACCT" ∷ []) [] statement_named words) ∙ none)
  where
    go : (words : List Text) → AllByRecursion IsName words → level_fault statement [] nothing_held words false [] ≡ [] → (journal : Text) × (number : Text) × (words ≡ journal ∷ number ∷ []) × IsName journal
    go [] all none = absurd (faulty _ _ _ statement_none none)
    go ([] ∷ words) all none = absurd (not_nothing all.0)
    go ((x ∷ xs) ∷ []) all none = absurd (faulty _ _ _ (statement_one x xs (begins x xs all.0)) none)
    go ((x ∷ xs) ∷ [] ∷ words) all none = absurd (not_nothing all.1.0)
    go ((x ∷ xs) ∷ (y ∷ ys) ∷ []) all none = (x ∷ xs, y ∷ ys, refl, all.0)
    go ((x ∷ xs) ∷ (y ∷ ys) ∷ [] ∷ words) all none = absurd (not_nothing all.1.1.0)
    go ((x ∷ xs) ∷ (y ∷ ys) ∷ (z ∷ zs) ∷ words) all none = absurd (faulty _ _ _ (statement_more x xs y ys z zs words (begins x xs all.0) (begins y ys all.1.0) (begins z zs all.1.1.0)) none)

-- as many words as it has positions are taken, and read as they stand
pub statement_read : (journal number : Text) → IsName journal → IsName number
    → (fault_of program (codes "statement" ∷ journal ∷ number ∷ []) ≡ []) × ((rows : List Row) × (subcommand_of program (codes "statement" ∷ journal ∷ number ∷ []) ≡ Some (codes "statement", rows)) × (first_of (codes "ACCT") rows ≡ Some number))
statement_read [] number p q = absurd (not_nothing p)
statement_read (x ∷ xs) [] p q = absurd (not_nothing q)
statement_read (x ∷ xs) (y ∷ ys) p q = (
  called (codes "statement") (codes "JOURNAL" ∷ codes "ACCT" ∷ []) [] statement_named ((x ∷ xs) ∷ (y ∷ ys) ∷ []) ∙ statement_taken x xs y ys (begins x xs p) (begins y ys q),
  (
    rows_after statement.rules [] ((x ∷ xs) ∷ (y ∷ ys) ∷ []),
    entered_as (codes "statement") (codes "JOURNAL" ∷ codes "ACCT" ∷ []) [] statement_named ((x ∷ xs) ∷ (y ∷ ys) ∷ []),
    statement_acct x xs y ys (begins x xs p) (begins y ys q),
  ),
)

-- ---- judge

pub judge_named : IsNamed (codes "judge") [] []
unfolding clap_on_literals
judge_named = record { met = refl; silent = refl; found = refl }

abbrev judge : Shape
judge = leaf (codes "judge") [] []

judge_none : level_fault judge [] nothing_held [] false [] ≡ []
unfolding clap_on_literals
judge_none = refl

judge_more : (x : ℕ) (xs : Text) (rest : List Text) → IsBegin x → level_fault judge [] nothing_held ((x ∷ xs) ∷ rest) false [] ≡ UnknownArgument ∷ []
unfolding clap_on_literals
judge_more x xs rest p =
    ap (λ (k : Kinds). level judge k (fold (walked judge.rules []) (at 1 nothing_held) ((x ∷ xs) ∷ rest)))
    (next_faults judge 1 nothing_held x xs p rest)

-- clap takes no word behind it
pub judge_fits : (words : List Text) → AllByRecursion IsName words → fault_of program (codes "judge" ∷ words) ≡ [] → words ≡ []
judge_fits words all none = go words all (sym (called (codes "judge") [] [] judge_named words) ∙ none)
  where
    go : (words : List Text) → AllByRecursion IsName words → level_fault judge [] nothing_held words false [] ≡ [] → words ≡ []
    go [] all none = refl
    go ([] ∷ words) all none = absurd (not_nothing all.0)
    go ((x ∷ xs) ∷ words) all none = absurd (faulty _ _ _ (judge_more x xs words (begins x xs all.0)) none)

-- the word alone is taken
pub judge_read : (fault_of program (codes "judge" ∷ []) ≡ []) × ((rows : List Row) × (subcommand_of program (codes "judge" ∷ []) ≡ Some (codes "judge", rows)))
judge_read = (
  called (codes "judge") [] [] judge_named [] ∙ judge_none,
  (rows_after judge.rules [] [], entered_as (codes "judge") [] [] judge_named []),
)

-- ---- play

pub play_named : IsNamed (codes "play") [] []
unfolding clap_on_literals
play_named = record { met = refl; silent = refl; found = refl }

abbrev play : Shape
play = leaf (codes "play") [] []

play_none : level_fault play [] nothing_held [] false [] ≡ []
unfolding clap_on_literals
play_none = refl

play_more : (x : ℕ) (xs : Text) (rest : List Text) → IsBegin x → level_fault play [] nothing_held ((x ∷ xs) ∷ rest) false [] ≡ UnknownArgument ∷ []
unfolding clap_on_literals
play_more x xs rest p =
    ap (λ (k : Kinds). level play k (fold (walked play.rules []) (at 1 nothing_held) ((x ∷ xs) ∷ rest)))
    (next_faults play 1 nothing_held x xs p rest)

-- clap takes no word behind it
pub play_fits : (words : List Text) → AllByRecursion IsName words → fault_of program (codes "play" ∷ words) ≡ [] → words ≡ []
play_fits words all none = go words all (sym (called (codes "play") [] [] play_named words) ∙ none)
  where
    go : (words : List Text) → AllByRecursion IsName words → level_fault play [] nothing_held words false [] ≡ [] → words ≡ []
    go [] all none = refl
    go ([] ∷ words) all none = absurd (not_nothing all.0)
    go ((x ∷ xs) ∷ words) all none = absurd (faulty _ _ _ (play_more x xs words (begins x xs all.0)) none)

-- the word alone is taken
pub play_read : (fault_of program (codes "play" ∷ []) ≡ []) × ((rows : List Row) × (subcommand_of program (codes "play" ∷ []) ≡ Some (codes "play", rows)))
play_read = (
  called (codes "play") [] [] play_named [] ∙ play_none,
  (rows_after play.rules [] [], entered_as (codes "play") [] [] play_named []),
)

-- ---- ship JOURNAL FROM

pub ship_named : IsNamed (codes "ship") (codes "JOURNAL" ∷ codes "FROM" ∷ []) []
unfolding clap_on_literals
ship_named = record { met = refl; silent = refl; found = refl }

abbrev ship : Shape
ship = leaf (codes "ship") (codes "JOURNAL" ∷ codes "FROM" ∷ []) []

ship_none : level_fault ship [] nothing_held [] false [] ≡ MissingRequiredArgument ∷ []
unfolding clap_on_literals
ship_none = refl

ship_one : (x : ℕ) (xs : Text) → IsBegin x → level_fault ship [] nothing_held ((x ∷ xs) ∷ []) false [] ≡ MissingRequiredArgument ∷ []
unfolding clap_on_literals
ship_one x xs p =
    ap (λ (k : Kinds). level ship k (fold (walked ship.rules []) (at 1 nothing_held) ((x ∷ xs) ∷ [])))
    (next_faults ship 1 nothing_held x xs p [])
    ∙ ap (λ (w : Walk). level ship [] w) (next_walk ship 1 nothing_held x xs p [])

ship_taken : (x : ℕ) (xs : Text) (y : ℕ) (ys : Text) → IsBegin x → IsBegin y → level_fault ship [] nothing_held ((x ∷ xs) ∷ (y ∷ ys) ∷ []) false [] ≡ []
unfolding clap_on_literals
ship_taken x xs y ys p q =
    ap (λ (k : Kinds). level ship k (fold (walked ship.rules []) (at 1 nothing_held) ((x ∷ xs) ∷ (y ∷ ys) ∷ [])))
    (next_faults ship 1 nothing_held x xs p ((y ∷ ys) ∷ []) ∙ next_faults ship 2 _ y ys q [])
    ∙ ap (λ (w : Walk). level ship [] w) (next_walk ship 1 nothing_held x xs p ((y ∷ ys) ∷ []) ∙ next_walk ship 2 _ y ys q [])

ship_more : (x : ℕ) (xs : Text) (y : ℕ) (ys : Text) (z : ℕ) (zs : Text) (rest : List Text) → IsBegin x → IsBegin y → IsBegin z → level_fault ship [] nothing_held ((x ∷ xs) ∷ (y ∷ ys) ∷ (z ∷ zs) ∷ rest) false [] ≡ UnknownArgument ∷ []
unfolding clap_on_literals
ship_more x xs y ys z zs rest p q r =
    ap (λ (k : Kinds). level ship k (fold (walked ship.rules []) (at 1 nothing_held) ((x ∷ xs) ∷ (y ∷ ys) ∷ (z ∷ zs) ∷ rest)))
    (next_faults ship 1 nothing_held x xs p ((y ∷ ys) ∷ (z ∷ zs) ∷ rest) ∙ next_faults ship 2 _ y ys q ((z ∷ zs) ∷ rest) ∙ next_faults ship 3 _ z zs r rest)

ship_from : (x : ℕ) (xs : Text) (y : ℕ) (ys : Text) → IsBegin x → IsBegin y → first_of (codes "FROM") (rows_after ship.rules [] ((x ∷ xs) ∷ (y ∷ ys) ∷ [])) ≡ Some (y ∷ ys)
unfolding clap_on_literals
ship_from x xs y ys p q = ap (λ (w : Walk). first_of (codes "FROM") (finished ship.rules w.held)) (next_walk ship 1 nothing_held x xs p ((y ∷ ys) ∷ []) ∙ next_walk ship 2 _ y ys q [])

-- clap takes no other number of words
pub ship_fits : (words : List Text) → AllByRecursion IsName words → fault_of program (codes "ship" ∷ words) ≡ [] → (journal : Text) × (number : Text) × (words ≡ journal ∷ number ∷ []) × IsName journal
ship_fits words all none = go words all (sym (called (codes "ship") (codes "JOURNAL" ∷ codes "FROM" ∷ []) [] ship_named words) ∙ none)
  where
    go : (words : List Text) → AllByRecursion IsName words → level_fault ship [] nothing_held words false [] ≡ [] → (journal : Text) × (number : Text) × (words ≡ journal ∷ number ∷ []) × IsName journal
    go [] all none = absurd (faulty _ _ _ ship_none none)
    go ([] ∷ words) all none = absurd (not_nothing all.0)
    go ((x ∷ xs) ∷ []) all none = absurd (faulty _ _ _ (ship_one x xs (begins x xs all.0)) none)
    go ((x ∷ xs) ∷ [] ∷ words) all none = absurd (not_nothing all.1.0)
    go ((x ∷ xs) ∷ (y ∷ ys) ∷ []) all none = (x ∷ xs, y ∷ ys, refl, all.0)
    go ((x ∷ xs) ∷ (y ∷ ys) ∷ [] ∷ words) all none = absurd (not_nothing all.1.1.0)
    go ((x ∷ xs) ∷ (y ∷ ys) ∷ (z ∷ zs) ∷ words) all none = absurd (faulty _ _ _ (ship_more x xs y ys z zs words (begins x xs all.0) (begins y ys all.1.0) (begins z zs all.1.1.0)) none)

-- as many words as it has positions are taken, and read as they stand
pub ship_read : (journal number : Text) → IsName journal → IsName number
    → (fault_of program (codes "ship" ∷ journal ∷ number ∷ []) ≡ []) × ((rows : List Row) × (subcommand_of program (codes "ship" ∷ journal ∷ number ∷ []) ≡ Some (codes "ship", rows)) × (first_of (codes "FROM") rows ≡ Some number))
ship_read [] number p q = absurd (not_nothing p)
ship_read (x ∷ xs) [] p q = absurd (not_nothing q)
ship_read (x ∷ xs) (y ∷ ys) p q = (
  called (codes "ship") (codes "JOURNAL" ∷ codes "FROM" ∷ []) [] ship_named ((x ∷ xs) ∷ (y ∷ ys) ∷ []) ∙ ship_taken x xs y ys (begins x xs p) (begins y ys q),
  (
    rows_after ship.rules [] ((x ∷ xs) ∷ (y ∷ ys) ∷ []),
    entered_as (codes "ship") (codes "JOURNAL" ∷ codes "FROM" ∷ []) [] ship_named ((x ∷ xs) ∷ (y ∷ ys) ∷ []),
    ship_from x xs y ys (begins x xs p) (begins y ys q),
  ),
)
