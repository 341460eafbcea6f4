-- The command of a keeper of groups: clap takes as many words as it has positions, and no others.
use Rattle.std.proofs.Common.{◌≡◌, ℕ, List, [], ◌∷◌, false, refl, ap, sym, ◌∙◌, codes, Some}
use Rattle.std.specs.Prelude.{fold}
use Rattle.std.specs.List.{AllByRecursion}
use Rattle.clap.specs.Walk.{Row, Text, Walk, walked, nothing_held, first_of, rows_after, finished}
use Rattle.clap.specs.Simple.{Shape}
use Rattle.clap.specs.Kinds.{Kinds}
use Rattle.clap.specs.Faults.{fault_of, level_fault}
use Rattle.clap.specs.Words.{subcommand_of}
use Rattle.clap.specs.declared.error.kind.ErrorKind.TheVariants.{UnknownArgument, MissingRequiredArgument}
use Rattle.clap.proofs.OnLiterals.{clap_on_literals}
use Rattle.nb_words.specs.Table.{program}
use Rattle.nb_words.specs.Words.{IsName}
use Rattle.nb_words.proofs.Reading.{IsBegin, IsNamed, leaf, at, level, next_faults, next_walk, called, entered_as}
use Rattle.nb_words.proofs.Commands.{begins, not_nothing, faulty}

-- ---- credential CONSUMER UNTIL GROUPS

pub credential_named : IsNamed (codes "credential") (codes "CONSUMER" ∷ codes "UNTIL" ∷ codes "GROUPS" ∷ []) []
unfolding clap_on_literals
credential_named = record { met = refl; silent = refl; found = refl }

abbrev credential : Shape
credential = leaf (codes "credential") (codes "CONSUMER" ∷ codes "UNTIL" ∷ codes "GROUPS" ∷ []) []

credential_none : level_fault credential [] nothing_held [] false [] ≡ MissingRequiredArgument ∷ []
unfolding clap_on_literals
credential_none = refl

credential_one : (x : ℕ) (xs : Text) → IsBegin x → level_fault credential [] nothing_held ((x ∷ xs) ∷ []) false [] ≡ MissingRequiredArgument ∷ []
unfolding clap_on_literals
credential_one x xs p =
    ap (λ (k : Kinds). level credential k (fold (walked credential.rules []) (at 1 nothing_held) ((x ∷ xs) ∷ [])))
    (next_faults credential 1 nothing_held x xs p [])
    ∙ ap (λ (w : Walk). level credential [] w) (next_walk credential 1 nothing_held x xs p [])

credential_two : (x : ℕ) (xs : Text) (y : ℕ) (ys : Text) → IsBegin x → IsBegin y → level_fault credential [] nothing_held ((x ∷ xs) ∷ (y ∷ ys) ∷ []) false [] ≡ MissingRequiredArgument ∷ []
unfolding clap_on_literals
credential_two x xs y ys p q =
    ap (λ (k : Kinds). level credential k (fold (walked credential.rules []) (at 1 nothing_held) ((x ∷ xs) ∷ (y ∷ ys) ∷ [])))
    (next_faults credential 1 nothing_held x xs p ((y ∷ ys) ∷ []) ∙ next_faults credential 2 _ y ys q [])
    ∙ ap (λ (w : Walk). level credential [] w) (next_walk credential 1 nothing_held x xs p ((y ∷ ys) ∷ []) ∙ next_walk credential 2 _ y ys q [])

credential_taken : (x : ℕ) (xs : Text) (y : ℕ) (ys : Text) (z : ℕ) (zs : Text) → IsBegin x → IsBegin y → IsBegin z → level_fault credential [] nothing_held ((x ∷ xs) ∷ (y ∷ ys) ∷ (z ∷ zs) ∷ []) false [] ≡ []
unfolding clap_on_literals
credential_taken x xs y ys z zs p q r =
    ap (λ (k : Kinds). level credential k (fold (walked credential.rules []) (at 1 nothing_held) ((x ∷ xs) ∷ (y ∷ ys) ∷ (z ∷ zs) ∷ [])))
    (next_faults credential 1 nothing_held x xs p ((y ∷ ys) ∷ (z ∷ zs) ∷ []) ∙ next_faults credential 2 _ y ys q ((z ∷ zs) ∷ []) ∙ next_faults credential 3 _ z zs r [])
    ∙ ap (λ (w : Walk). level credential [] w) (next_walk credential 1 nothing_held x xs p ((y ∷ ys) ∷ (z ∷ zs) ∷ []) ∙ next_walk credential 2 _ y ys q ((z ∷ zs) ∷ []) ∙ next_walk credential 3 _ z zs r [])

credential_more : (x : ℕ) (xs : Text) (y : ℕ) (ys : Text) (z : ℕ) (zs : Text) (u : ℕ) (us : Text) (rest : List Text) → IsBegin x → IsBegin y → IsBegin z → IsBegin u → level_fault credential [] nothing_held ((x ∷ xs) ∷ (y ∷ ys) ∷ (z ∷ zs) ∷ (u ∷ us) ∷ rest) false [] ≡ UnknownArgument ∷ []
unfolding clap_on_literals
credential_more x xs y ys z zs u us rest p q r s =
    ap (λ (k : Kinds). level credential k (fold (walked credential.rules []) (at 1 nothing_held) ((x ∷ xs) ∷ (y ∷ ys) ∷ (z ∷ zs) ∷ (u ∷ us) ∷ rest)))
    (next_faults credential 1 nothing_held x xs p ((y ∷ ys) ∷ (z ∷ zs) ∷ (u ∷ us) ∷ rest) ∙ next_faults credential 2 _ y ys q ((z ∷ zs) ∷ (u ∷ us) ∷ rest) ∙ next_faults credential 3 _ z zs r ((u ∷ us) ∷ rest) ∙ next_faults credential 4 _ u us s rest)

credential_consumer : (x : ℕ) (xs : Text) (y : ℕ) (ys : Text) (z : ℕ) (zs : Text) → IsBegin x → IsBegin y → IsBegin z → first_of (codes "CONSUMER") (rows_after credential.rules [] ((x ∷ xs) ∷ (y ∷ ys) ∷ (z ∷ zs) ∷ [])) ≡ Some (x ∷ xs)
unfolding clap_on_literals
credential_consumer x xs y ys z zs p q r = ap (λ (w : Walk). first_of (codes "CONSUMER") (finished credential.rules w.held)) (next_walk credential 1 nothing_held x xs p ((y ∷ ys) ∷ (z ∷ zs) ∷ []) ∙ next_walk credential 2 _ y ys q ((z ∷ zs) ∷ []) ∙ next_walk credential 3 _ z zs r [])

credential_until : (x : ℕ) (xs : Text) (y : ℕ) (ys : Text) (z : ℕ) (zs : Text) → IsBegin x → IsBegin y → IsBegin z → first_of (codes "UNTIL") (rows_after credential.rules [] ((x ∷ xs) ∷ (y ∷ ys) ∷ (z ∷ zs) ∷ [])) ≡ Some (y ∷ ys)
unfolding clap_on_literals
credential_until x xs y ys z zs p q r = ap (λ (w : Walk). first_of (codes "UNTIL") (finished credential.rules w.held)) (next_walk credential 1 nothing_held x xs p ((y ∷ ys) ∷ (z ∷ zs) ∷ []) ∙ next_walk credential 2 _ y ys q ((z ∷ zs) ∷ []) ∙ next_walk credential 3 _ z zs r [])

credential_groups : (x : ℕ) (xs : Text) (y : ℕ) (ys : Text) (z : ℕ) (zs : Text) → IsBegin x → IsBegin y → IsBegin z → first_of (codes "GROUPS") (rows_after credential.rules [] ((x ∷ xs) ∷ (y ∷ ys) ∷ (z ∷ zs) ∷ [])) ≡ Some (z ∷ zs)
unfolding clap_on_literals
credential_groups x xs y ys z zs p q r = ap (λ (w : Walk). first_of (codes "GROUPS") (finished credential.rules w.held)) (next_walk credential 1 nothing_held x xs p ((y ∷ ys) ∷ (z ∷ zs) ∷ []) ∙ next_walk credential 2 _ y ys q ((z ∷ zs) ∷ []) ∙ next_walk credential 3 _ z zs r [])

-- clap takes no other number of words
pub credential_fits : (words : List Text) → AllByRecursion IsName words → fault_of program (codes "credential" ∷ words) ≡ [] → (consumer : Text) × (until : Text) × (groups : Text) × (words ≡ consumer ∷ until ∷ groups ∷ [])
credential_fits words all none = go words all (sym (called (codes "credential") (codes "CONSUMER" ∷ codes "UNTIL" ∷ codes "GROUPS" ∷ []) [] credential_named words) ∙ none)
  where
    go : (words : List Text) → AllByRecursion IsName words → level_fault credential [] nothing_held words false [] ≡ [] → (consumer : Text) × (until : Text) × (groups : Text) × (words ≡ consumer ∷ until ∷ groups ∷ [])
    go [] all none = absurd (faulty _ _ _ credential_none none)
    go ([] ∷ words) all none = absurd (not_nothing all.0)
    go ((x ∷ xs) ∷ []) all none = absurd (faulty _ _ _ (credential_one x xs (begins x xs all.0)) none)
    go ((x ∷ xs) ∷ [] ∷ words) all none = absurd (not_nothing all.1.0)
    go ((x ∷ xs) ∷ (y ∷ ys) ∷ []) all none = absurd (faulty _ _ _ (credential_two x xs y ys (begins x xs all.0) (begins y ys all.1.0)) none)
    go ((x ∷ xs) ∷ (y ∷ ys) ∷ [] ∷ words) all none = absurd (not_nothing all.1.1.0)
    go ((x ∷ xs) ∷ (y ∷ ys) ∷ (z ∷ zs) ∷ []) all none = (x ∷ xs, y ∷ ys, z ∷ zs, refl)
    go ((x ∷ xs) ∷ (y ∷ ys) ∷ (z ∷ zs) ∷ [] ∷ words) all none = absurd (not_nothing all.1.1.1.0)
    go ((x ∷ xs) ∷ (y ∷ ys) ∷ (z ∷ zs) ∷ (u ∷ us) ∷ words) all none = absurd (faulty _ _ _ (credential_more x xs y ys z zs u us words (begins x xs all.0) (begins y ys all.1.0) (begins z zs all.1.1.0) (begins u us all.1.1.1.0)) none)

-- as many words as it has positions are taken, and read as they stand
pub credential_read : (consumer until groups : Text) → IsName consumer → IsName until → IsName groups
    → (fault_of program (codes "credential" ∷ consumer ∷ until ∷ groups ∷ []) ≡ []) × ((rows : List Row) × (subcommand_of program (codes "credential" ∷ consumer ∷ until ∷ groups ∷ []) ≡ Some (codes "credential", rows)) × (first_of (codes "CONSUMER") rows ≡ Some consumer) × (first_of (codes "UNTIL") rows ≡ Some until) × (first_of (codes "GROUPS") rows ≡ Some groups))
credential_read [] until groups p q r = absurd (not_nothing p)
credential_read (x ∷ xs) [] groups p q r = absurd (not_nothing q)
credential_read (x ∷ xs) (y ∷ ys) [] p q r = absurd (not_nothing r)
credential_read (x ∷ xs) (y ∷ ys) (z ∷ zs) p q r = (
  called (codes "credential") (codes "CONSUMER" ∷ codes "UNTIL" ∷ codes "GROUPS" ∷ []) [] credential_named ((x ∷ xs) ∷ (y ∷ ys) ∷ (z ∷ zs) ∷ []) ∙ credential_taken x xs y ys z zs (begins x xs p) (begins y ys q) (begins z zs r),
  (
    rows_after credential.rules [] ((x ∷ xs) ∷ (y ∷ ys) ∷ (z ∷ zs) ∷ []),
    entered_as (codes "credential") (codes "CONSUMER" ∷ codes "UNTIL" ∷ codes "GROUPS" ∷ []) [] credential_named ((x ∷ xs) ∷ (y ∷ ys) ∷ (z ∷ zs) ∷ []),
    credential_consumer x xs y ys z zs (begins x xs p) (begins y ys q) (begins z zs r),
    credential_until x xs y ys z zs (begins x xs p) (begins y ys q) (begins z zs r),
    credential_groups x xs y ys z zs (begins x xs p) (begins y ys q) (begins z zs r),
  ),
)
