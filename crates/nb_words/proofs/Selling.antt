-- The commands of who sells: clap takes as many words as they have positions, and no others.
use Rattle.std.proofs.Common.{◌≡◌, ℕ, List, [], ◌∷◌, false, refl, ap, sym, ◌∙◌, codes, Some}
use Rattle.std.specs.Prelude.{fold}
use Rattle.std.specs.List.{AllByRecursion}
use Rattle.clap.specs.Walk.{Row, Text, Walk, walked, nothing_held, first_of, rows_after, finished}
use Rattle.clap.specs.Simple.{Shape}
use Rattle.clap.specs.Kinds.{Kinds}
use Rattle.clap.specs.Faults.{fault_of, level_fault}
use Rattle.clap.specs.Words.{subcommand_of}
use Rattle.clap.specs.declared.error.kind.ErrorKind.TheVariants.{UnknownArgument, MissingRequiredArgument}
use Rattle.clap.proofs.OnLiterals.{clap_on_literals}
use Rattle.nb_words.specs.Table.{program, sell_positions}
use Rattle.nb_words.specs.Words.{IsName}
use Rattle.nb_words.proofs.Reading.{IsBegin, IsNamed, leaf, at, level, next_faults, next_walk, called, entered_as}
use Rattle.nb_words.proofs.Commands.{begins, not_nothing, faulty}

pub sell_named : IsNamed (codes "sell") sell_positions []
unfolding clap_on_literals
sell_named = record { met = refl; silent = refl; found = refl }

pub selloffers_named : IsNamed (codes "selloffers") sell_positions []
unfolding clap_on_literals
selloffers_named = record { met = refl; silent = refl; found = refl }

-- ---- STALL ADDRESS SERVER LINKS, behind the name of either command

module _ (name : Text) (named : IsNamed name sell_positions []) where
  abbrev sell : Shape
  sell = leaf name sell_positions []

  sell_none : level_fault sell [] nothing_held [] false [] ≡ MissingRequiredArgument ∷ []
  unfolding clap_on_literals
  sell_none = refl

  sell_one : (x : ℕ) (xs : Text) → IsBegin x → level_fault sell [] nothing_held ((x ∷ xs) ∷ []) false [] ≡ MissingRequiredArgument ∷ []
  unfolding clap_on_literals
  sell_one x xs p =
      ap (λ (k : Kinds). level sell k (fold (walked sell.rules []) (at 1 nothing_held) ((x ∷ xs) ∷ [])))
      (next_faults sell 1 nothing_held x xs p [])
      ∙ ap (λ (w : Walk). level sell [] w) (next_walk sell 1 nothing_held x xs p [])

  sell_two : (x : ℕ) (xs : Text) (y : ℕ) (ys : Text) → IsBegin x → IsBegin y → level_fault sell [] nothing_held ((x ∷ xs) ∷ (y ∷ ys) ∷ []) false [] ≡ MissingRequiredArgument ∷ []
  unfolding clap_on_literals
  sell_two x xs y ys p q =
      ap (λ (k : Kinds). level sell k (fold (walked sell.rules []) (at 1 nothing_held) ((x ∷ xs) ∷ (y ∷ ys) ∷ [])))
      (next_faults sell 1 nothing_held x xs p ((y ∷ ys) ∷ []) ∙ next_faults sell 2 _ y ys q [])
      ∙ ap (λ (w : Walk). level sell [] w) (next_walk sell 1 nothing_held x xs p ((y ∷ ys) ∷ []) ∙ next_walk sell 2 _ y ys q [])

  sell_three : (x : ℕ) (xs : Text) (y : ℕ) (ys : Text) (z : ℕ) (zs : Text) → IsBegin x → IsBegin y → IsBegin z → level_fault sell [] nothing_held ((x ∷ xs) ∷ (y ∷ ys) ∷ (z ∷ zs) ∷ []) false [] ≡ MissingRequiredArgument ∷ []
  unfolding clap_on_literals
  sell_three x xs y ys z zs p q r =
      ap (λ (k : Kinds). level sell k (fold (walked sell.rules []) (at 1 nothing_held) ((x ∷ xs) ∷ (y ∷ ys) ∷ (z ∷ zs) ∷ [])))
      (next_faults sell 1 nothing_held x xs p ((y ∷ ys) ∷ (z ∷ zs) ∷ []) ∙ next_faults sell 2 _ y ys q ((z ∷ zs) ∷ []) ∙ next_faults sell 3 _ z zs r [])
      ∙ ap (λ (w : Walk). level sell [] w) (next_walk sell 1 nothing_held x xs p ((y ∷ ys) ∷ (z ∷ zs) ∷ []) ∙ next_walk sell 2 _ y ys q ((z ∷ zs) ∷ []) ∙ next_walk sell 3 _ z zs r [])

  sell_taken : (x : ℕ) (xs : Text) (y : ℕ) (ys : Text) (z : ℕ) (zs : Text) (u : ℕ) (us : Text) → IsBegin x → IsBegin y → IsBegin z → IsBegin u → level_fault sell [] nothing_held ((x ∷ xs) ∷ (y ∷ ys) ∷ (z ∷ zs) ∷ (u ∷ us) ∷ []) false [] ≡ []
  unfolding clap_on_literals
  sell_taken x xs y ys z zs u us p q r s =
      ap (λ (k : Kinds). level sell k (fold (walked sell.rules []) (at 1 nothing_held) ((x ∷ xs) ∷ (y ∷ ys) ∷ (z ∷ zs) ∷ (u ∷ us) ∷ [])))
      (next_faults sell 1 nothing_held x xs p ((y ∷ ys) ∷ (z ∷ zs) ∷ (u ∷ us) ∷ []) ∙ next_faults sell 2 _ y ys q ((z ∷ zs) ∷ (u ∷ us) ∷ []) ∙ next_faults sell 3 _ z zs r ((u ∷ us) ∷ []) ∙ next_faults sell 4 _ u us s [])
      ∙ ap (λ (w : Walk). level sell [] w) (next_walk sell 1 nothing_held x xs p ((y ∷ ys) ∷ (z ∷ zs) ∷ (u ∷ us) ∷ []) ∙ next_walk sell 2 _ y ys q ((z ∷ zs) ∷ (u ∷ us) ∷ []) ∙ next_walk sell 3 _ z zs r ((u ∷ us) ∷ []) ∙ next_walk sell 4 _ u us s [])

  sell_more : (x : ℕ) (xs : Text) (y : ℕ) (ys : Text) (z : ℕ) (zs : Text) (u : ℕ) (us : Text) (v : ℕ) (vs : Text) (rest : List Text) → IsBegin x → IsBegin y → IsBegin z → IsBegin u → IsBegin v → level_fault sell [] nothing_held ((x ∷ xs) ∷ (y ∷ ys) ∷ (z ∷ zs) ∷ (u ∷ us) ∷ (v ∷ vs) ∷ rest) false [] ≡ UnknownArgument ∷ []
  unfolding clap_on_literals
  sell_more x xs y ys z zs u us v vs rest p q r s t =
      ap (λ (k : Kinds). level sell k (fold (walked sell.rules []) (at 1 nothing_held) ((x ∷ xs) ∷ (y ∷ ys) ∷ (z ∷ zs) ∷ (u ∷ us) ∷ (v ∷ vs) ∷ rest)))
      (next_faults sell 1 nothing_held x xs p ((y ∷ ys) ∷ (z ∷ zs) ∷ (u ∷ us) ∷ (v ∷ vs) ∷ rest) ∙ next_faults sell 2 _ y ys q ((z ∷ zs) ∷ (u ∷ us) ∷ (v ∷ vs) ∷ rest) ∙ next_faults sell 3 _ z zs r ((u ∷ us) ∷ (v ∷ vs) ∷ rest) ∙ next_faults sell 4 _ u us s ((v ∷ vs) ∷ rest) ∙ next_faults sell 5 _ v vs t rest)

  sell_links : (x : ℕ) (xs : Text) (y : ℕ) (ys : Text) (z : ℕ) (zs : Text) (u : ℕ) (us : Text) → IsBegin x → IsBegin y → IsBegin z → IsBegin u → first_of (codes "LINKS") (rows_after sell.rules [] ((x ∷ xs) ∷ (y ∷ ys) ∷ (z ∷ zs) ∷ (u ∷ us) ∷ [])) ≡ Some (u ∷ us)
  unfolding clap_on_literals
  sell_links x xs y ys z zs u us p q r s = ap (λ (w : Walk). first_of (codes "LINKS") (finished sell.rules w.held)) (next_walk sell 1 nothing_held x xs p ((y ∷ ys) ∷ (z ∷ zs) ∷ (u ∷ us) ∷ []) ∙ next_walk sell 2 _ y ys q ((z ∷ zs) ∷ (u ∷ us) ∷ []) ∙ next_walk sell 3 _ z zs r ((u ∷ us) ∷ []) ∙ next_walk sell 4 _ u us s [])

  -- clap takes no other number of words
  pub sell_fits : (words : List Text) → AllByRecursion IsName words → fault_of program (name ∷ words) ≡ [] → (stall : Text) × (address : Text) × (server : Text) × (links : Text) × (words ≡ stall ∷ address ∷ server ∷ links ∷ []) × IsName stall × IsName address × IsName server
  sell_fits words all none = go words all (sym (called name sell_positions [] named words) ∙ none)
    where
      go : (words : List Text) → AllByRecursion IsName words → level_fault sell [] nothing_held words false [] ≡ [] → (stall : Text) × (address : Text) × (server : Text) × (links : Text) × (words ≡ stall ∷ address ∷ server ∷ links ∷ []) × IsName stall × IsName address × IsName server
      go [] all none = absurd (faulty _ _ _ sell_none none)
      go ([] ∷ words) all none = absurd (not_nothing all.0)
      go ((x ∷ xs) ∷ []) all none = absurd (faulty _ _ _ (sell_one x xs (begins x xs all.0)) none)
      go ((x ∷ xs) ∷ [] ∷ words) all none = absurd (not_nothing all.1.0)
      go ((x ∷ xs) ∷ (y ∷ ys) ∷ []) all none = absurd (faulty _ _ _ (sell_two x xs y ys (begins x xs all.0) (begins y ys all.1.0)) none)
      go ((x ∷ xs) ∷ (y ∷ ys) ∷ [] ∷ words) all none = absurd (not_nothing all.1.1.0)
      go ((x ∷ xs) ∷ (y ∷ ys) ∷ (z ∷ zs) ∷ []) all none = absurd (faulty _ _ _ (sell_three x xs y ys z zs (begins x xs all.0) (begins y ys all.1.0) (begins z zs all.1.1.0)) none)
      go ((x ∷ xs) ∷ (y ∷ ys) ∷ (z ∷ zs) ∷ [] ∷ words) all none = absurd (not_nothing all.1.1.1.0)
      go ((x ∷ xs) ∷ (y ∷ ys) ∷ (z ∷ zs) ∷ (u ∷ us) ∷ []) all none = (x ∷ xs, y ∷ ys, z ∷ zs, u ∷ us, refl, all.0, all.1.0, all.1.1.0)
      go ((x ∷ xs) ∷ (y ∷ ys) ∷ (z ∷ zs) ∷ (u ∷ us) ∷ [] ∷ words) all none = absurd (not_nothing all.1.1.1.1.0)
      go ((x ∷ xs) ∷ (y ∷ ys) ∷ (z ∷ zs) ∷ (u ∷ us) ∷ (v ∷ vs) ∷ words) all none = absurd (faulty _ _ _ (sell_more x xs y ys z zs u us v vs words (begins x xs all.0) (begins y ys all.1.0) (begins z zs all.1.1.0) (begins u us all.1.1.1.0) (begins v vs all.1.1.1.1.0)) none)

  -- as many words as it has positions are taken, and read as they stand
  pub sell_read : (stall address server links : Text) → IsName stall → IsName address → IsName server → IsName links
      → (fault_of program (name ∷ stall ∷ address ∷ server ∷ links ∷ []) ≡ []) × ((rows : List Row) × (subcommand_of program (name ∷ stall ∷ address ∷ server ∷ links ∷ []) ≡ Some (name, rows)) × (first_of (codes "LINKS") rows ≡ Some links))
  sell_read [] address server links p q r s = absurd (not_nothing p)
  sell_read (x ∷ xs) [] server links p q r s = absurd (not_nothing q)
  sell_read (x ∷ xs) (y ∷ ys) [] links p q r s = absurd (not_nothing r)
  sell_read (x ∷ xs) (y ∷ ys) (z ∷ zs) [] p q r s = absurd (not_nothing s)
  sell_read (x ∷ xs) (y ∷ ys) (z ∷ zs) (u ∷ us) p q r s = (
    called name sell_positions [] named ((x ∷ xs) ∷ (y ∷ ys) ∷ (z ∷ zs) ∷ (u ∷ us) ∷ []) ∙ sell_taken x xs y ys z zs u us (begins x xs p) (begins y ys q) (begins z zs r) (begins u us s),
    (
      rows_after sell.rules [] ((x ∷ xs) ∷ (y ∷ ys) ∷ (z ∷ zs) ∷ (u ∷ us) ∷ []),
      entered_as name sell_positions [] named ((x ∷ xs) ∷ (y ∷ ys) ∷ (z ∷ zs) ∷ (u ∷ us) ∷ []),
      sell_links x xs y ys z zs u us (begins x xs p) (begins y ys q) (begins z zs r) (begins u us s),
    ),
  )
