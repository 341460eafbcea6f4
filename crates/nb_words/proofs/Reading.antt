-- How clap reads words of which none is empty or begins with a minus.
use Rattle.std.proofs.Common.{◌≡◌, ℕ, Bool, List, [], ◌∷◌, ◌++◌, ◌==◌, true, false, refl, ap, sym, ◌∙◌, Option, Some, None, is_some, append_assoc, append-nil}
use Rattle.std.specs.Prelude.{if◌then◌else◌, fold, find, option_map}
use Rattle.std.specs.Option.{option_map_or}
use Rattle.std.specs.Str.{bytes_eq}
use Rattle.clap.specs.Lexer.{long_of, short_of}
use Rattle.clap.specs.Walk.{Held, Names, Rule, Step, Text, Walk, idle, value, trailing, word_met, subcommand_met, subcommand_or_other, after_step, long_or_other, short_or_plain, walked, walk_from, walk, answers_to, settled, finished, nothing_held, to_positional, arg_by_index, rows_after}
use Rattle.clap.specs.Simple.{Shape, built, built_leaf, inherited, names_of, label_of, entered, rows_at, is_simple}
use Rattle.clap.specs.Kinds.{Kinds, or_else}
use Rattle.clap.specs.Faults.{entered_fault, settle_fault, defaults_fault, check_fault, fault_of, is_simple_and_free, turn_fault, walk_fault, word_fault, other_fault, flag_word_fault, bundle_fault, step_fault, positional_fault, stray_fault, level_fault}
use Rattle.clap.specs.Words.{subcommand_of}
use Rattle.clap.proofs.OnLiterals.{clap_on_literals}
use Rattle.nb_words.specs.Table.{program, shape}

pub simple : is_simple program ≡ true
unfolding clap_on_literals
simple = refl

pub simple_and_free : is_simple_and_free program ≡ true
unfolding clap_on_literals
simple_and_free = refl

-- a word that begins with this is read as it stands
abbrev pub IsBegin : ℕ → Type 0
IsBegin x = (x == 45) ≡ false

no_dashes : (x : ℕ) (xs : Text) → IsBegin x → bytes_eq (x ∷ xs) (45 ∷ 45 ∷ []) ≡ false
no_dashes x xs plain = rw plain refl

no_long : (x : ℕ) (xs : Text) → IsBegin x → long_of (x ∷ xs) ≡ None
no_long x xs plain = rw plain refl

no_short : (x : ℕ) (xs : Text) → IsBegin x → short_of (x ∷ xs) ≡ None
no_short x xs plain = rw plain refl

-- where nothing waits
abbrev pub at : ℕ → Held → Walk
at p h = record { held = h; waiting = idle; position = p; is_trailing = false; stopped = None }

module _ (names : Names) (x : ℕ) (xs : Text) (plain : IsBegin x) (stranger : subcommand_met names idle (x ∷ xs) ≡ None) where
  -- it is no command's name, no flag, and goes to the position at which the walk stands
  met : (c : List Rule) (p : ℕ) (h : Held) → word_met c names false idle p (x ∷ xs) h ≡ (h, value)
  met c p h =
      ap (λ (name : Option Text). subcommand_or_other c name idle p (x ∷ xs) h) stranger
      ∙ ap (λ (b : Bool). if b then (h, trailing p) else long_or_other c idle (x ∷ xs) (long_of (x ∷ xs)) h) (no_dashes x xs plain)
      ∙ ap (λ (o : Option (Text × Option Text)). long_or_other c idle (x ∷ xs) o h) (no_long x xs plain)
      ∙ ap (λ (o : Option Text). short_or_plain c idle (x ∷ xs) o h) (no_short x xs plain)

  no_fault : (s : Shape) (h : Held) → word_fault s names false idle (x ∷ xs) h ≡ []
  no_fault s h =
      ap (λ (name : Option Text). other_fault s name (x ∷ xs) h) stranger
      ∙ ap (λ (b : Bool). if b then [] else flag_word_fault s.rules s.args_override_self (long_of (x ∷ xs)) (x ∷ xs) h) (no_dashes x xs plain)
      ∙ ap (λ (o : Option (Text × Option Text)). flag_word_fault s.rules s.args_override_self o (x ∷ xs) h) (no_long x xs plain)
      ∙ ap (λ (o : Option Text). option_map_or (λ flags. bundle_fault s.rules s.args_override_self flags h) o []) (no_short x xs plain)

  pub turned : (s : Shape) (p : ℕ) (h : Held)
      → turn_fault s names (at p h) (x ∷ xs) ≡ option_map_or (λ a. positional_fault s.rules s.args_override_self a h) (arg_by_index s.rules p) (stray_fault s)
  turned s p h =
      ap (λ (k : Kinds). or_else k (step_fault s p (word_met s.rules names false idle p (x ∷ xs) h).0 (word_met s.rules names false idle p (x ∷ xs) h).1)) (no_fault s h)
      ∙ ap (λ (m : Held × Step). step_fault s p m.0 m.1) (met s.rules p h)

  pub placed : (c : List Rule) (p : ℕ) (h : Held) → walked c names (at p h) (x ∷ xs) ≡ to_positional c (arg_by_index c p) (x ∷ xs) (at p h) h
  unfolding walked
  placed c p h = ap (λ (m : Held × Step). after_step c (x ∷ xs) (at p h) m.0 m.1) (met c p h)

-- once a command's name was met the words are its own
abbrev pub inside : Held → Text → List Text → Walk
inside h name before = record { held = h; waiting = idle; position = 1; is_trailing = false; stopped = Some (name, before) }

stays : (c : List Rule) (names : Names) (h : Held) (name : Text) (before words : List Text) → fold (walked c names) (inside h name before) words ≡ inside h name (before ++ words)
unfolding walked
stays c names h name before [] = ap (inside h name) (sym (append-nil before))
stays c names h name before (word ∷ words) = stays c names h name (before ++ word ∷ []) words ∙ ap (inside h name) (append_assoc before (word ∷ []) words)

no_more_faults : (s : Shape) (names : Names) (h : Held) (name : Text) (before words : List Text) → walk_fault s names (inside h name before) words ≡ []
unfolding walk_fault walked
no_more_faults s names h name before [] = refl
no_more_faults s names h name before (word ∷ words) = no_more_faults s names h name (before ++ word ∷ []) words

-- a command as it stands in the whole that is built
abbrev pub leaf : Text → List Text → List Text → Shape
leaf name needed optional = built_leaf (inherited (built program).top (shape name needed optional))

abbrev pub names : Names
names = names_of (built program)

or_else_nothing : (k : Kinds) → or_else k [] ≡ k
or_else_nothing [] = refl
or_else_nothing (x ∷ k) = refl

-- the name of a command, by what the table computes to
pub record IsNamed (name : Text) (needed optional : List Text) : Type 0 where
  pub met : walked [] names (walk_from nothing_held) name ≡ inside nothing_held name []
  pub silent : turn_fault (built program).top names (walk_from nothing_held) name ≡ []
  pub found : find (λ s. answers_to name (label_of s)) (built program).subs ≡ Some (leaf name needed optional)

module _ (name : Text) (needed optional : List Text) (is : IsNamed name needed optional) (words : List Text) where
  walk_is : walk [] names nothing_held (name ∷ words) ≡ inside nothing_held name words
  walk_is = ap (λ (w : Walk). fold (walked [] names) w words) is.met ∙ stays [] names nothing_held name [] words

  faults_are : walk_fault (built program).top names (walk_from nothing_held) (name ∷ words) ≡ []
  unfolding walk_fault
  faults_are =
      ap (λ (k : Kinds). or_else k (walk_fault (built program).top names (walked [] names (walk_from nothing_held) name) words)) is.silent
      ∙ ap (λ (w : Walk). walk_fault (built program).top names w words) is.met
      ∙ no_more_faults (built program).top names nothing_held name [] words

  -- what the whole makes of words behind a command's name
  abbrev whole : Walk → Kinds → Kinds
  whole w k =
      let s = (built program).top in
      or_else k (or_else (entered_fault (built program) w.stopped) (or_else (settle_fault s.rules s.args_override_self w.held)
      (or_else (defaults_fault (settled s.rules w.held).rows s.rules) (check_fault s (finished s.rules w.held) (is_some (entered (built program) w.stopped))))))

  abbrev of_leaf : Option Shape → Kinds
  of_leaf o = option_map_or (λ s. level_fault s [] nothing_held words false []) o []

  pub called : fault_of program (name ∷ words) ≡ level_fault (leaf name needed optional) [] nothing_held words false []
  unfolding defaults_fault
  called =
      ap (whole (walk [] names nothing_held (name ∷ words))) faults_are
      ∙ ap (λ (w : Walk). whole w []) walk_is
      ∙ ap (λ (o : Option Shape). or_else (of_leaf o) (check_fault (built program).top [] (is_some (option_map (λ s. rows_at s words) o)))) is.found
      ∙ or_else_nothing (level_fault (leaf name needed optional) [] nothing_held words false [])

  pub entered_as : subcommand_of program (name ∷ words) ≡ Some (name, rows_after (leaf name needed optional).rules [] words)
  entered_as =
      ap (λ (w : Walk). entered (built program) w.stopped) walk_is
      ∙ ap (λ (o : Option Shape). option_map (λ s. rows_at s words) o) is.found

-- ---- the words behind a command's name

module _ (s : Shape) (p : ℕ) (h : Held) (x : ℕ) (xs : Text) (plain : IsBegin x) (rest : List Text) where
  pub next_faults : walk_fault s [] (at p h) ((x ∷ xs) ∷ rest)
      ≡ or_else (option_map_or (λ a. positional_fault s.rules s.args_override_self a h) (arg_by_index s.rules p) (stray_fault s)) (walk_fault s [] (to_positional s.rules (arg_by_index s.rules p) (x ∷ xs) (at p h) h) rest)
  unfolding walk_fault
  next_faults =
      ap (λ (k : Kinds). or_else k (walk_fault s [] (walked s.rules [] (at p h) (x ∷ xs)) rest)) (turned [] x xs plain refl s p h)
      ∙ ap (λ (w : Walk). or_else (option_map_or (λ a. positional_fault s.rules s.args_override_self a h) (arg_by_index s.rules p) (stray_fault s)) (walk_fault s [] w rest)) (placed [] x xs plain refl s.rules p h)

  pub next_walk : fold (walked s.rules []) (at p h) ((x ∷ xs) ∷ rest) ≡ fold (walked s.rules []) (to_positional s.rules (arg_by_index s.rules p) (x ∷ xs) (at p h) h) rest
  next_walk = ap (λ (w : Walk). fold (walked s.rules []) w rest) (placed [] x xs plain refl s.rules p h)

-- what a command makes of its words, by the faults of these and by where they lead
abbrev pub level : Shape → Kinds → Walk → Kinds
level s k w = or_else k (or_else [] (or_else (settle_fault s.rules s.args_override_self w.held)
    (or_else (defaults_fault (settled s.rules w.held).rows s.rules) (check_fault s (finished s.rules w.held) false))))
