-- The commands of a purchase: clap takes as many words as they have positions, and no others.
use Rattle.std.proofs.Common.{◌≡◌, ℕ, List, [], ◌∷◌, false, refl, ap, sym, ◌∙◌, codes, Some}
use Rattle.std.specs.Prelude.{fold}
use Rattle.std.specs.List.{AllByRecursion}
use Rattle.clap.specs.Walk.{Row, Text, Walk, walked, nothing_held, first_of, rows_after, finished}
use Rattle.clap.specs.Simple.{Shape}
use Rattle.clap.specs.Kinds.{Kinds}
use Rattle.clap.specs.Faults.{fault_of, level_fault}
use Rattle.clap.specs.Words.{subcommand_of}
use Rattle.clap.specs.declared.error.kind.ErrorKind.TheVariants.{UnknownArgument, MissingRequiredArgument}
use Rattle.clap.proofs.OnLiterals.{clap_on_literals}
use Rattle.nb_words.specs.Table.{program, buy_positions}
use Rattle.nb_words.specs.Words.{IsName}
use Rattle.nb_words.proofs.Reading.{IsBegin, IsNamed, leaf, at, level, next_faults, next_walk, called, entered_as}
use Rattle.nb_words.proofs.Commands.{begins, not_nothing, faulty}

pub buy_named : IsNamed (codes "buy") buy_positions []
unfolding clap_on_literals
buy_named = record { met = refl; silent = refl; found = refl }

pub buywith_named : IsNamed (codes "buywith") buy_positions []
unfolding clap_on_literals
buywith_named = record { met = refl; silent = refl; found = refl }

-- ---- WALLET SERVER SELLER MERCHANT PRODUCT LIMIT TID, behind the name of either command

module _ (name : Text) (named : IsNamed name buy_positions []) where
  abbrev buy : Shape
  buy = leaf name buy_positions []

  buy_none : level_fault buy [] nothing_held [] false [] ≡ MissingRequiredArgument ∷ []
  unfolding clap_on_literals
  buy_none = refl

  buy_one : (x : ℕ) (xs : Text) → IsBegin x → level_fault buy [] nothing_held ((x ∷ xs) ∷ []) false [] ≡ MissingRequiredArgument ∷ []
  unfolding clap_on_literals
  buy_one x xs p1 =
      ap (λ (k : Kinds). level buy k (fold (walked buy.rules []) (at 1 nothing_held) ((x ∷ xs) ∷ [])))
      (next_faults buy 1 nothing_held x xs p1 [])
      ∙ ap (λ (w : Walk). level buy [] w) (next_walk buy 1 nothing_held x xs p1 [])

  buy_two : (x : ℕ) (xs : Text) (y : ℕ) (ys : Text) → IsBegin x → IsBegin y → level_fault buy [] nothing_held ((x ∷ xs) ∷ (y ∷ ys) ∷ []) false [] ≡ MissingRequiredArgument ∷ []
  unfolding clap_on_literals
  buy_two x xs y ys p1 p2 =
      ap (λ (k : Kinds). level buy k (fold (walked buy.rules []) (at 1 nothing_held) ((x ∷ xs) ∷ (y ∷ ys) ∷ [])))
      (next_faults buy 1 nothing_held x xs p1 ((y ∷ ys) ∷ []) ∙ next_faults buy 2 _ y ys p2 [])
      ∙ ap (λ (w : Walk). level buy [] w) (next_walk buy 1 nothing_held x xs p1 ((y ∷ ys) ∷ []) ∙ next_walk buy 2 _ y ys p2 [])

  buy_three : (x : ℕ) (xs : Text) (y : ℕ) (ys : Text) (z : ℕ) (zs : Text) → IsBegin x → IsBegin y → IsBegin z → level_fault buy [] nothing_held ((x ∷ xs) ∷ (y ∷ ys) ∷ (z ∷ zs) ∷ []) false [] ≡ MissingRequiredArgument ∷ []
  unfolding clap_on_literals
  buy_three x xs y ys z zs p1 p2 p3 =
      ap (λ (k : Kinds). level buy k (fold (walked buy.rules []) (at 1 nothing_held) ((x ∷ xs) ∷ (y ∷ ys) ∷ (z ∷ zs) ∷ [])))
      (next_faults buy 1 nothing_held x xs p1 ((y ∷ ys) ∷ (z ∷ zs) ∷ []) ∙ next_faults buy 2 _ y ys p2 ((z ∷ zs) ∷ []) ∙ next_faults buy 3 _ z zs p3 [])
      ∙ ap (λ (w : Walk). level buy [] w) (next_walk buy 1 nothing_held x xs p1 ((y ∷ ys) ∷ (z ∷ zs) ∷ []) ∙ next_walk buy 2 _ y ys p2 ((z ∷ zs) ∷ []) ∙ next_walk buy 3 _ z zs p3 [])

  buy_four : (x : ℕ) (xs : Text) (y : ℕ) (ys : Text) (z : ℕ) (zs : Text) (u : ℕ) (us : Text) → IsBegin x → IsBegin y → IsBegin z → IsBegin u → level_fault buy [] nothing_held ((x ∷ xs) ∷ (y ∷ ys) ∷ (z ∷ zs) ∷ (u ∷ us) ∷ []) false [] ≡ MissingRequiredArgument ∷ []
  unfolding clap_on_literals
  buy_four x xs y ys z zs u us p1 p2 p3 p4 =
      ap (λ (k : Kinds). level buy k (fold (walked buy.rules []) (at 1 nothing_held) ((x ∷ xs) ∷ (y ∷ ys) ∷ (z ∷ zs) ∷ (u ∷ us) ∷ [])))
      (next_faults buy 1 nothing_held x xs p1 ((y ∷ ys) ∷ (z ∷ zs) ∷ (u ∷ us) ∷ []) ∙ next_faults buy 2 _ y ys p2 ((z ∷ zs) ∷ (u ∷ us) ∷ []) ∙ next_faults buy 3 _ z zs p3 ((u ∷ us) ∷ []) ∙ next_faults buy 4 _ u us p4 [])
      ∙ ap (λ (w : Walk). level buy [] w) (next_walk buy 1 nothing_held x xs p1 ((y ∷ ys) ∷ (z ∷ zs) ∷ (u ∷ us) ∷ []) ∙ next_walk buy 2 _ y ys p2 ((z ∷ zs) ∷ (u ∷ us) ∷ []) ∙ next_walk buy 3 _ z zs p3 ((u ∷ us) ∷ []) ∙ next_walk buy 4 _ u us p4 [])

  buy_five : (x : ℕ) (xs : Text) (y : ℕ) (ys : Text) (z : ℕ) (zs : Text) (u : ℕ) (us : Text) (v : ℕ) (vs : Text) → IsBegin x → IsBegin y → IsBegin z → IsBegin u → IsBegin v → level_fault buy [] nothing_held ((x ∷ xs) ∷ (y ∷ ys) ∷ (z ∷ zs) ∷ (u ∷ us) ∷ (v ∷ vs) ∷ []) false [] ≡ MissingRequiredArgument ∷ []
  unfolding clap_on_literals
  buy_five x xs y ys z zs u us v vs p1 p2 p3 p4 p5 =
      ap (λ (k : Kinds). level buy k (fold (walked buy.rules []) (at 1 nothing_held) ((x ∷ xs) ∷ (y ∷ ys) ∷ (z ∷ zs) ∷ (u ∷ us) ∷ (v ∷ vs) ∷ [])))
      (next_faults buy 1 nothing_held x xs p1 ((y ∷ ys) ∷ (z ∷ zs) ∷ (u ∷ us) ∷ (v ∷ vs) ∷ []) ∙ next_faults buy 2 _ y ys p2 ((z ∷ zs) ∷ (u ∷ us) ∷ (v ∷ vs) ∷ []) ∙ next_faults buy 3 _ z zs p3 ((u ∷ us) ∷ (v ∷ vs) ∷ []) ∙ next_faults buy 4 _ u us p4 ((v ∷ vs) ∷ []) ∙ next_faults buy 5 _ v vs p5 [])
      ∙ ap (λ (w : Walk). level buy [] w) (next_walk buy 1 nothing_held x xs p1 ((y ∷ ys) ∷ (z ∷ zs) ∷ (u ∷ us) ∷ (v ∷ vs) ∷ []) ∙ next_walk buy 2 _ y ys p2 ((z ∷ zs) ∷ (u ∷ us) ∷ (v ∷ vs) ∷ []) ∙ next_walk buy 3 _ z zs p3 ((u ∷ us) ∷ (v ∷ vs) ∷ []) ∙ next_walk buy 4 _ u us p4 ((v ∷ vs) ∷ []) ∙ next_walk buy 5 _ v vs p5 [])

  buy_six : (x : ℕ) (xs : Text) (y : ℕ) (ys : Text) (z : ℕ) (zs : Text) (u : ℕ) (us : Text) (v : ℕ) (vs : Text) (w : ℕ) (ws : Text) → IsBegin x → IsBegin y → IsBegin z → IsBegin u → IsBegin v → IsBegin w → level_fault buy [] nothing_held ((x ∷ xs) ∷ (y ∷ ys) ∷ (z ∷ zs) ∷ (u ∷ us) ∷ (v ∷ vs) ∷ (w ∷ ws) ∷ []) false [] ≡ MissingRequiredArgument ∷ []
  unfolding clap_on_literals
  buy_six x xs y ys z zs u us v vs w ws p1 p2 p3 p4 p5 p6 =
      ap (λ (k : Kinds). level buy k (fold (walked buy.rules []) (at 1 nothing_held) ((x ∷ xs) ∷ (y ∷ ys) ∷ (z ∷ zs) ∷ (u ∷ us) ∷ (v ∷ vs) ∷ (w ∷ ws) ∷ [])))
      (next_faults buy 1 nothing_held x xs p1 ((y ∷ ys) ∷ (z ∷ zs) ∷ (u ∷ us) ∷ (v ∷ vs) ∷ (w ∷ ws) ∷ []) ∙ next_faults buy 2 _ y ys p2 ((z ∷ zs) ∷ (u ∷ us) ∷ (v ∷ vs) ∷ (w ∷ ws) ∷ []) ∙ next_faults buy 3 _ z zs p3 ((u ∷ us) ∷ (v ∷ vs) ∷ (w ∷ ws) ∷ []) ∙ next_faults buy 4 _ u us p4 ((v ∷ vs) ∷ (w ∷ ws) ∷ []) ∙ next_faults buy 5 _ v vs p5 ((w ∷ ws) ∷ []) ∙ next_faults buy 6 _ w ws p6 [])
      ∙ ap (λ (w : Walk). level buy [] w) (next_walk buy 1 nothing_held x xs p1 ((y ∷ ys) ∷ (z ∷ zs) ∷ (u ∷ us) ∷ (v ∷ vs) ∷ (w ∷ ws) ∷ []) ∙ next_walk buy 2 _ y ys p2 ((z ∷ zs) ∷ (u ∷ us) ∷ (v ∷ vs) ∷ (w ∷ ws) ∷ []) ∙ next_walk buy 3 _ z zs p3 ((u ∷ us) ∷ (v ∷ vs) ∷ (w ∷ ws) ∷ []) ∙ next_walk buy 4 _ u us p4 ((v ∷ vs) ∷ (w ∷ ws) ∷ []) ∙ next_walk buy 5 _ v vs p5 ((w ∷ ws) ∷ []) ∙ next_walk buy 6 _ w ws p6 [])

  buy_taken : (x : ℕ) (xs : Text) (y : ℕ) (ys : Text) (z : ℕ) (zs : Text) (u : ℕ) (us : Text) (v : ℕ) (vs : Text) (w : ℕ) (ws : Text) (t : ℕ) (ts : Text) → IsBegin x → IsBegin y → IsBegin z → IsBegin u → IsBegin v → IsBegin w → IsBegin t → level_fault buy [] nothing_held ((x ∷ xs) ∷ (y ∷ ys) ∷ (z ∷ zs) ∷ (u ∷ us) ∷ (v ∷ vs) ∷ (w ∷ ws) ∷ (t ∷ ts) ∷ []) false [] ≡ []
  unfolding clap_on_literals
  buy_taken x xs y ys z zs u us v vs w ws t ts p1 p2 p3 p4 p5 p6 p7 =
      ap (λ (k : Kinds). level buy k (fold (walked buy.rules []) (at 1 nothing_held) ((x ∷ xs) ∷ (y ∷ ys) ∷ (z ∷ zs) ∷ (u ∷ us) ∷ (v ∷ vs) ∷ (w ∷ ws) ∷ (t ∷ ts) ∷ [])))
      (next_faults buy 1 nothing_held x xs p1 ((y ∷ ys) ∷ (z ∷ zs) ∷ (u ∷ us) ∷ (v ∷ vs) ∷ (w ∷ ws) ∷ (t ∷ ts) ∷ []) ∙ next_faults buy 2 _ y ys p2 ((z ∷ zs) ∷ (u ∷ us) ∷ (v ∷ vs) ∷ (w ∷ ws) ∷ (t ∷ ts) ∷ []) ∙ next_faults buy 3 _ z zs p3 ((u ∷ us) ∷ (v ∷ vs) ∷ (w ∷ ws) ∷ (t ∷ ts) ∷ []) ∙ next_faults buy 4 _ u us p4 ((v ∷ vs) ∷ (w ∷ ws) ∷ (t ∷ ts) ∷ []) ∙ next_faults buy 5 _ v vs p5 ((w ∷ ws) ∷ (t ∷ ts) ∷ []) ∙ next_faults buy 6 _ w ws p6 ((t ∷ ts) ∷ []) ∙ next_faults buy 7 _ t ts p7 [])
      ∙ ap (λ (w : Walk). level buy [] w) (next_walk buy 1 nothing_held x xs p1 ((y ∷ ys) ∷ (z ∷ zs) ∷ (u ∷ us) ∷ (v ∷ vs) ∷ (w ∷ ws) ∷ (t ∷ ts) ∷ []) ∙ next_walk buy 2 _ y ys p2 ((z ∷ zs) ∷ (u ∷ us) ∷ (v ∷ vs) ∷ (w ∷ ws) ∷ (t ∷ ts) ∷ []) ∙ next_walk buy 3 _ z zs p3 ((u ∷ us) ∷ (v ∷ vs) ∷ (w ∷ ws) ∷ (t ∷ ts) ∷ []) ∙ next_walk buy 4 _ u us p4 ((v ∷ vs) ∷ (w ∷ ws) ∷ (t ∷ ts) ∷ []) ∙ next_walk buy 5 _ v vs p5 ((w ∷ ws) ∷ (t ∷ ts) ∷ []) ∙ next_walk buy 6 _ w ws p6 ((t ∷ ts) ∷ []) ∙ next_walk buy 7 _ t ts p7 [])

  buy_more : (x : ℕ) (xs : Text) (y : ℕ) (ys : Text) (z : ℕ) (zs : Text) (u : ℕ) (us : Text) (v : ℕ) (vs : Text) (w : ℕ) (ws : Text) (t : ℕ) (ts : Text) (r : ℕ) (rs : Text) (rest : List Text) → IsBegin x → IsBegin y → IsBegin z → IsBegin u → IsBegin v → IsBegin w → IsBegin t → IsBegin r → level_fault buy [] nothing_held ((x ∷ xs) ∷ (y ∷ ys) ∷ (z ∷ zs) ∷ (u ∷ us) ∷ (v ∷ vs) ∷ (w ∷ ws) ∷ (t ∷ ts) ∷ (r ∷ rs) ∷ rest) false [] ≡ UnknownArgument ∷ []
  unfolding clap_on_literals
  buy_more x xs y ys z zs u us v vs w ws t ts r rs rest p1 p2 p3 p4 p5 p6 p7 p8 =
      ap (λ (k : Kinds). level buy k (fold (walked buy.rules []) (at 1 nothing_held) ((x ∷ xs) ∷ (y ∷ ys) ∷ (z ∷ zs) ∷ (u ∷ us) ∷ (v ∷ vs) ∷ (w ∷ ws) ∷ (t ∷ ts) ∷ (r ∷ rs) ∷ rest)))
      (next_faults buy 1 nothing_held x xs p1 ((y ∷ ys) ∷ (z ∷ zs) ∷ (u ∷ us) ∷ (v ∷ vs) ∷ (w ∷ ws) ∷ (t ∷ ts) ∷ (r ∷ rs) ∷ rest) ∙ next_faults buy 2 _ y ys p2 ((z ∷ zs) ∷ (u ∷ us) ∷ (v ∷ vs) ∷ (w ∷ ws) ∷ (t ∷ ts) ∷ (r ∷ rs) ∷ rest) ∙ next_faults buy 3 _ z zs p3 ((u ∷ us) ∷ (v ∷ vs) ∷ (w ∷ ws) ∷ (t ∷ ts) ∷ (r ∷ rs) ∷ rest) ∙ next_faults buy 4 _ u us p4 ((v ∷ vs) ∷ (w ∷ ws) ∷ (t ∷ ts) ∷ (r ∷ rs) ∷ rest) ∙ next_faults buy 5 _ v vs p5 ((w ∷ ws) ∷ (t ∷ ts) ∷ (r ∷ rs) ∷ rest) ∙ next_faults buy 6 _ w ws p6 ((t ∷ ts) ∷ (r ∷ rs) ∷ rest) ∙ next_faults buy 7 _ t ts p7 ((r ∷ rs) ∷ rest) ∙ next_faults buy 8 _ r rs p8 rest)

  buy_merchant : (x : ℕ) (xs : Text) (y : ℕ) (ys : Text) (z : ℕ) (zs : Text) (u : ℕ) (us : Text) (v : ℕ) (vs : Text) (w : ℕ) (ws : Text) (t : ℕ) (ts : Text) → IsBegin x → IsBegin y → IsBegin z → IsBegin u → IsBegin v → IsBegin w → IsBegin t → first_of (codes "MERCHANT") (rows_after buy.rules [] ((x ∷ xs) ∷ (y ∷ ys) ∷ (z ∷ zs) ∷ (u ∷ us) ∷ (v ∷ vs) ∷ (w ∷ ws) ∷ (t ∷ ts) ∷ [])) ≡ Some (u ∷ us)
  unfolding clap_on_literals
  buy_merchant x xs y ys z zs u us v vs w ws t ts p1 p2 p3 p4 p5 p6 p7 = ap (λ (w : Walk). first_of (codes "MERCHANT") (finished buy.rules w.held)) (next_walk buy 1 nothing_held x xs p1 ((y ∷ ys) ∷ (z ∷ zs) ∷ (u ∷ us) ∷ (v ∷ vs) ∷ (w ∷ ws) ∷ (t ∷ ts) ∷ []) ∙ next_walk buy 2 _ y ys p2 ((z ∷ zs) ∷ (u ∷ us) ∷ (v ∷ vs) ∷ (w ∷ ws) ∷ (t ∷ ts) ∷ []) ∙ next_walk buy 3 _ z zs p3 ((u ∷ us) ∷ (v ∷ vs) ∷ (w ∷ ws) ∷ (t ∷ ts) ∷ []) ∙ next_walk buy 4 _ u us p4 ((v ∷ vs) ∷ (w ∷ ws) ∷ (t ∷ ts) ∷ []) ∙ next_walk buy 5 _ v vs p5 ((w ∷ ws) ∷ (t ∷ ts) ∷ []) ∙ next_walk buy 6 _ w ws p6 ((t ∷ ts) ∷ []) ∙ next_walk buy 7 _ t ts p7 [])

  buy_product : (x : ℕ) (xs : Text) (y : ℕ) (ys : Text) (z : ℕ) (zs : Text) (u : ℕ) (us : Text) (v : ℕ) (vs : Text) (w : ℕ) (ws : Text) (t : ℕ) (ts : Text) → IsBegin x → IsBegin y → IsBegin z → IsBegin u → IsBegin v → IsBegin w → IsBegin t → first_of (codes "PRODUCT") (rows_after buy.rules [] ((x ∷ xs) ∷ (y ∷ ys) ∷ (z ∷ zs) ∷ (u ∷ us) ∷ (v ∷ vs) ∷ (w ∷ ws) ∷ (t ∷ ts) ∷ [])) ≡ Some (v ∷ vs)
  unfolding clap_on_literals
  buy_product x xs y ys z zs u us v vs w ws t ts p1 p2 p3 p4 p5 p6 p7 = ap (λ (w : Walk). first_of (codes "PRODUCT") (finished buy.rules w.held)) (next_walk buy 1 nothing_held x xs p1 ((y ∷ ys) ∷ (z ∷ zs) ∷ (u ∷ us) ∷ (v ∷ vs) ∷ (w ∷ ws) ∷ (t ∷ ts) ∷ []) ∙ next_walk buy 2 _ y ys p2 ((z ∷ zs) ∷ (u ∷ us) ∷ (v ∷ vs) ∷ (w ∷ ws) ∷ (t ∷ ts) ∷ []) ∙ next_walk buy 3 _ z zs p3 ((u ∷ us) ∷ (v ∷ vs) ∷ (w ∷ ws) ∷ (t ∷ ts) ∷ []) ∙ next_walk buy 4 _ u us p4 ((v ∷ vs) ∷ (w ∷ ws) ∷ (t ∷ ts) ∷ []) ∙ next_walk buy 5 _ v vs p5 ((w ∷ ws) ∷ (t ∷ ts) ∷ []) ∙ next_walk buy 6 _ w ws p6 ((t ∷ ts) ∷ []) ∙ next_walk buy 7 _ t ts p7 [])

  buy_limit : (x : ℕ) (xs : Text) (y : ℕ) (ys : Text) (z : ℕ) (zs : Text) (u : ℕ) (us : Text) (v : ℕ) (vs : Text) (w : ℕ) (ws : Text) (t : ℕ) (ts : Text) → IsBegin x → IsBegin y → IsBegin z → IsBegin u → IsBegin v → IsBegin w → IsBegin t → first_of (codes "LIMIT") (rows_after buy.rules [] ((x ∷ xs) ∷ (y ∷ ys) ∷ (z ∷ zs) ∷ (u ∷ us) ∷ (v ∷ vs) ∷ (w ∷ ws) ∷ (t ∷ ts) ∷ [])) ≡ Some (w ∷ ws)
  unfolding clap_on_literals
  buy_limit x xs y ys z zs u us v vs w ws t ts p1 p2 p3 p4 p5 p6 p7 = ap (λ (w : Walk). first_of (codes "LIMIT") (finished buy.rules w.held)) (next_walk buy 1 nothing_held x xs p1 ((y ∷ ys) ∷ (z ∷ zs) ∷ (u ∷ us) ∷ (v ∷ vs) ∷ (w ∷ ws) ∷ (t ∷ ts) ∷ []) ∙ next_walk buy 2 _ y ys p2 ((z ∷ zs) ∷ (u ∷ us) ∷ (v ∷ vs) ∷ (w ∷ ws) ∷ (t ∷ ts) ∷ []) ∙ next_walk buy 3 _ z zs p3 ((u ∷ us) ∷ (v ∷ vs) ∷ (w ∷ ws) ∷ (t ∷ ts) ∷ []) ∙ next_walk buy 4 _ u us p4 ((v ∷ vs) ∷ (w ∷ ws) ∷ (t ∷ ts) ∷ []) ∙ next_walk buy 5 _ v vs p5 ((w ∷ ws) ∷ (t ∷ ts) ∷ []) ∙ next_walk buy 6 _ w ws p6 ((t ∷ ts) ∷ []) ∙ next_walk buy 7 _ t ts p7 [])

  buy_transaction : (x : ℕ) (xs : Text) (y : ℕ) (ys : Text) (z : ℕ) (zs : Text) (u : ℕ) (us : Text) (v : ℕ) (vs : Text) (w : ℕ) (ws : Text) (t : ℕ) (ts : Text) → IsBegin x → IsBegin y → IsBegin z → IsBegin u → IsBegin v → IsBegin w → IsBegin t → first_of (codes "TID") (rows_after buy.rules [] ((x ∷ xs) ∷ (y ∷ ys) ∷ (z ∷ zs) ∷ (u ∷ us) ∷ (v ∷ vs) ∷ (w ∷ ws) ∷ (t ∷ ts) ∷ [])) ≡ Some (t ∷ ts)
  unfolding clap_on_literals
  buy_transaction x xs y ys z zs u us v vs w ws t ts p1 p2 p3 p4 p5 p6 p7 = ap (λ (w : Walk). first_of (codes "TID") (finished buy.rules w.held)) (next_walk buy 1 nothing_held x xs p1 ((y ∷ ys) ∷ (z ∷ zs) ∷ (u ∷ us) ∷ (v ∷ vs) ∷ (w ∷ ws) ∷ (t ∷ ts) ∷ []) ∙ next_walk buy 2 _ y ys p2 ((z ∷ zs) ∷ (u ∷ us) ∷ (v ∷ vs) ∷ (w ∷ ws) ∷ (t ∷ ts) ∷ []) ∙ next_walk buy 3 _ z zs p3 ((u ∷ us) ∷ (v ∷ vs) ∷ (w ∷ ws) ∷ (t ∷ ts) ∷ []) ∙ next_walk buy 4 _ u us p4 ((v ∷ vs) ∷ (w ∷ ws) ∷ (t ∷ ts) ∷ []) ∙ next_walk buy 5 _ v vs p5 ((w ∷ ws) ∷ (t ∷ ts) ∷ []) ∙ next_walk buy 6 _ w ws p6 ((t ∷ ts) ∷ []) ∙ next_walk buy 7 _ t ts p7 [])

  -- clap takes no other number of words
  pub buy_fits : (words : List Text) → AllByRecursion IsName words → fault_of program (name ∷ words) ≡ [] → (wallet : Text) × (server : Text) × (seller : Text) × (merchant : Text) × (product : Text) × (limit : Text) × (transaction : Text) × (words ≡ wallet ∷ server ∷ seller ∷ merchant ∷ product ∷ limit ∷ transaction ∷ []) × IsName wallet × IsName server × IsName seller
  buy_fits words all none = go words all (sym (called name buy_positions [] named words) ∙ none)
    where
      go : (words : List Text) → AllByRecursion IsName words → level_fault buy [] nothing_held words false [] ≡ [] → (wallet : Text) × (server : Text) × (seller : Text) × (merchant : Text) × (product : Text) × (limit : Text) × (transaction : Text) × (words ≡ wallet ∷ server ∷ seller ∷ merchant ∷ product ∷ limit ∷ transaction ∷ []) × IsName wallet × IsName server × IsName seller
      go [] all none = absurd (faulty _ _ _ buy_none none)
      go ([] ∷ words) all none = absurd (not_nothing all.0)
      go ((x ∷ xs) ∷ []) all none = absurd (faulty _ _ _ (buy_one x xs (begins x xs all.0)) none)
      go ((x ∷ xs) ∷ [] ∷ words) all none = absurd (not_nothing all.1.0)
      go ((x ∷ xs) ∷ (y ∷ ys) ∷ []) all none = absurd (faulty _ _ _ (buy_two x xs y ys (begins x xs all.0) (begins y ys all.1.0)) none)
      go ((x ∷ xs) ∷ (y ∷ ys) ∷ [] ∷ words) all none = absurd (not_nothing all.1.1.0)
      go ((x ∷ xs) ∷ (y ∷ ys) ∷ (z ∷ zs) ∷ []) all none = absurd (faulty _ _ _ (buy_three x xs y ys z zs (begins x xs all.0) (begins y ys all.1.0) (begins z zs all.1.1.0)) none)
      go ((x ∷ xs) ∷ (y ∷ ys) ∷ (z ∷ zs) ∷ [] ∷ words) all none = absurd (not_nothing all.1.1.1.0)
      go ((x ∷ xs) ∷ (y ∷ ys) ∷ (z ∷ zs) ∷ (u ∷ us) ∷ []) all none = absurd (faulty _ _ _ (buy_four x xs y ys z zs u us (begins x xs all.0) (begins y ys all.1.0) (begins z zs all.1.1.0) (begins u us all.1.1.1.0)) none)
      go ((x ∷ xs) ∷ (y ∷ ys) ∷ (z ∷ zs) ∷ (u ∷ us) ∷ [] ∷ words) all none = absurd (not_nothing all.1.1.1.1.0)
      go ((x ∷ xs) ∷ (y ∷ ys) ∷ (z ∷ zs) ∷ (u ∷ us) ∷ (v ∷ vs) ∷ []) all none = absurd (faulty _ _ _ (buy_five x xs y ys z zs u us v vs (begins x xs all.0) (begins y ys all.1.0) (begins z zs all.1.1.0) (begins u us all.1.1.1.0) (begins v vs all.1.1.1.1.0)) none)
      go ((x ∷ xs) ∷ (y ∷ ys) ∷ (z ∷ zs) ∷ (u ∷ us) ∷ (v ∷ vs) ∷ [] ∷ words) all none = absurd (not_nothing all.1.1.1.1.1.0)
      go ((x ∷ xs) ∷ (y ∷ ys) ∷ (z ∷ zs) ∷ (u ∷ us) ∷ (v ∷ vs) ∷ (w ∷ ws) ∷ []) all none = absurd (faulty _ _ _ (buy_six x xs y ys z zs u us v vs w ws (begins x xs all.0) (begins y ys all.1.0) (begins z zs all.1.1.0) (begins u us all.1.1.1.0) (begins v vs all.1.1.1.1.0) (begins w ws all.1.1.1.1.1.0)) none)
      go ((x ∷ xs) ∷ (y ∷ ys) ∷ (z ∷ zs) ∷ (u ∷ us) ∷ (v ∷ vs) ∷ (w ∷ ws) ∷ [] ∷ words) all none = absurd (not_nothing all.1.1.1.1.1.1.0)
      go ((x ∷ xs) ∷ (y ∷ ys) ∷ (z ∷ zs) ∷ (u ∷ us) ∷ (v ∷ vs) ∷ (w ∷ ws) ∷ (t ∷ ts) ∷ []) all none = (x ∷ xs, y ∷ ys, z ∷ zs, u ∷ us, v ∷ vs, w ∷ ws, t ∷ ts, refl, all.0, all.1.0, all.1.1.0)
      go ((x ∷ xs) ∷ (y ∷ ys) ∷ (z ∷ zs) ∷ (u ∷ us) ∷ (v ∷ vs) ∷ (w ∷ ws) ∷ (t ∷ ts) ∷ [] ∷ words) all none = absurd (not_nothing all.1.1.1.1.1.1.1.0)
      go ((x ∷ xs) ∷ (y ∷ ys) ∷ (z ∷ zs) ∷ (u ∷ us) ∷ (v ∷ vs) ∷ (w ∷ ws) ∷ (t ∷ ts) ∷ (r ∷ rs) ∷ words) all none = absurd (faulty _ _ _ (buy_more x xs y ys z zs u us v vs w ws t ts r rs words (begins x xs all.0) (begins y ys all.1.0) (begins z zs all.1.1.0) (begins u us all.1.1.1.0) (begins v vs all.1.1.1.1.0) (begins w ws all.1.1.1.1.1.0) (begins t ts all.1.1.1.1.1.1.0) (begins r rs all.1.1.1.1.1.1.1.0)) none)

  -- as many words as it has positions are taken, and read as they stand
  pub buy_read : (wallet server seller merchant product limit transaction : Text) → IsName wallet → IsName server → IsName seller → IsName merchant → IsName product → IsName limit → IsName transaction
      → (fault_of program (name ∷ wallet ∷ server ∷ seller ∷ merchant ∷ product ∷ limit ∷ transaction ∷ []) ≡ []) × ((rows : List Row) × (subcommand_of program (name ∷ wallet ∷ server ∷ seller ∷ merchant ∷ product ∷ limit ∷ transaction ∷ []) ≡ Some (name, rows)) × (first_of (codes "MERCHANT") rows ≡ Some merchant) × (first_of (codes "PRODUCT") rows ≡ Some product) × (first_of (codes "LIMIT") rows ≡ Some limit) × (first_of (codes "TID") rows ≡ Some transaction))
  buy_read [] server seller merchant product limit transaction p1 p2 p3 p4 p5 p6 p7 = absurd (not_nothing p1)
  buy_read (x ∷ xs) [] seller merchant product limit transaction p1 p2 p3 p4 p5 p6 p7 = absurd (not_nothing p2)
  buy_read (x ∷ xs) (y ∷ ys) [] merchant product limit transaction p1 p2 p3 p4 p5 p6 p7 = absurd (not_nothing p3)
  buy_read (x ∷ xs) (y ∷ ys) (z ∷ zs) [] product limit transaction p1 p2 p3 p4 p5 p6 p7 = absurd (not_nothing p4)
  buy_read (x ∷ xs) (y ∷ ys) (z ∷ zs) (u ∷ us) [] limit transaction p1 p2 p3 p4 p5 p6 p7 = absurd (not_nothing p5)
  buy_read (x ∷ xs) (y ∷ ys) (z ∷ zs) (u ∷ us) (v ∷ vs) [] transaction p1 p2 p3 p4 p5 p6 p7 = absurd (not_nothing p6)
  buy_read (x ∷ xs) (y ∷ ys) (z ∷ zs) (u ∷ us) (v ∷ vs) (w ∷ ws) [] p1 p2 p3 p4 p5 p6 p7 = absurd (not_nothing p7)
  buy_read (x ∷ xs) (y ∷ ys) (z ∷ zs) (u ∷ us) (v ∷ vs) (w ∷ ws) (t ∷ ts) p1 p2 p3 p4 p5 p6 p7 = (
    called name buy_positions [] named ((x ∷ xs) ∷ (y ∷ ys) ∷ (z ∷ zs) ∷ (u ∷ us) ∷ (v ∷ vs) ∷ (w ∷ ws) ∷ (t ∷ ts) ∷ []) ∙ buy_taken x xs y ys z zs u us v vs w ws t ts (begins x xs p1) (begins y ys p2) (begins z zs p3) (begins u us p4) (begins v vs p5) (begins w ws p6) (begins t ts p7),
    (
      rows_after buy.rules [] ((x ∷ xs) ∷ (y ∷ ys) ∷ (z ∷ zs) ∷ (u ∷ us) ∷ (v ∷ vs) ∷ (w ∷ ws) ∷ (t ∷ ts) ∷ []),
      entered_as name buy_positions [] named ((x ∷ xs) ∷ (y ∷ ys) ∷ (z ∷ zs) ∷ (u ∷ us) ∷ (v ∷ vs) ∷ (w ∷ ws) ∷ (t ∷ ts) ∷ []),
      buy_merchant x xs y ys z zs u us v vs w ws t ts (begins x xs p1) (begins y ys p2) (begins z zs p3) (begins u us p4) (begins v vs p5) (begins w ws p6) (begins t ts p7),
      buy_product x xs y ys z zs u us v vs w ws t ts (begins x xs p1) (begins y ys p2) (begins z zs p3) (begins u us p4) (begins v vs p5) (begins w ws p6) (begins t ts p7),
      buy_limit x xs y ys z zs u us v vs w ws t ts (begins x xs p1) (begins y ys p2) (begins z zs p3) (begins u us p4) (begins v vs p5) (begins w ws p6) (begins t ts p7),
      buy_transaction x xs y ys z zs u us v vs w ws t ts (begins x xs p1) (begins y ys p2) (begins z zs p3) (begins u us p4) (begins v vs p5) (begins w ws p6) (begins t ts p7),
    ),
  )
