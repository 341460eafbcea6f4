-- What an index of places finds: the first entry of a key, as a search of the list does.
use Rattle.std.proofs.Common.{◌≡◌, ℕ, suc, ◌+◌, ◌*◌, ◌<◌, ◌≤◌, Bool, true, false, cond, List, [], ◌∷◌, ◌++◌, Option, Some, None, length, get_or, arith, refl, sym, ap, subst, ◌∙◌, append_assoc, append-nil}
use Rattle.std.proofs.lemmas.Option.{same_Some}
use Rattle.std.specs.List.{AllByRecursion}
use Rattle.std.specs.Option.{option_or, is_some, IsNone, IfSome}
use Rattle.std.specs.Str.{bytes_eq}
use Rattle.nb_index.specs.declared.put.Put.{Put}
use Rattle.nb_index.specs.Puts.{Indexed, Shape, value_in}
use Rattle.nb_entry.specs.declared.entry.Entry.{Entry}
use Rattle.nb_entry.specs.declared.entry.Entry.TheVariants.{Fund}
use Rattle.nb_book.specs.Searches.{first_from}
use Rattle.nb_book.specs.Indexes.{KeysFit, puts_at, puts_from, place_if, first_place, Indexes}
use Rattle.nb_book.proofs.Counting.{Tests, tested, found-count}

-- the key of an entry is this key
abbrev pub matches : Option (List ℕ) → List ℕ → Bool
matches None k = false
matches (Some q) k = bytes_eq q k

-- an entry has this key exactly where it passes the test
abbrev pub StandsFor : (Entry → Option (List ℕ)) → List ℕ → (Entry → Bool) → Type 0
StandsFor key k test = (e : Entry) → KeysFit e → matches (key e) k ≡ test e

-- an index of places finds the place of the first entry that passes
pub index_searches : (key : Entry → Option (List ℕ)) (k : List ℕ) (test : Entry → Bool) → StandsFor key k test → (at : ℕ) (H : List Entry)
    → AllByRecursion KeysFit H → value_in (puts_from key at H) k ≡ first_from (place_if test) at H
index_searches key k test stands at [] fit = refl
index_searches key k test stands at (e ∷ es) fit = part (key e) (test e) (stands e fit.0) (index_searches key k test stands (at + 1) es fit.1) where
  part : (o : Option (List ℕ)) (t : Bool) → matches o k ≡ t → value_in (puts_from key (at + 1) es) k ≡ first_from (place_if test) (at + 1) es
      → value_in (puts_at o at ++ puts_from key (at + 1) es) k ≡ option_or (cond t (Some at) None) (first_from (place_if test) (at + 1) es)
  part None t same rest = rw (sym same) rest
  part (Some q) t same rest = rw (sym same) (either (bytes_eq q k)) where
    either : (b : Bool) → cond b (Some at) (value_in (puts_from key (at + 1) es) k) ≡ option_or (cond b (Some at) None) (first_from (place_if test) (at + 1) es)
    either true = refl
    either false = rest

-- one more entry answers where those before it do not
pub first_push : {A : Type 0} (answer : ℕ → Entry → Option A) (at : ℕ) (H : List Entry) (e : Entry)
    → first_from answer at (H ++ e ∷ []) ≡ option_or (first_from answer at H) (answer (at + length H) e)
first_push answer at [] e = rw (arith_zero at) (alone (answer at e)) where
  arith_zero : (n : ℕ) → n + 0 ≡ n
  arith_zero n = omega arith

  alone : {A : Type 0} (x : Option A) → option_or x None ≡ x
  alone None = refl
  alone (Some x) = refl
first_push answer at (d ∷ H) e = rw (first_push answer (at + 1) H e, next at (length H)) (part (answer at d)) where
  next : (m n : ℕ) → m + suc n ≡ m + 1 + n
  next m n = omega arith

  part : (x : Option _) → option_or x (option_or (first_from answer (at + 1) H) (answer (at + 1 + length H) e)) ≡ option_or (option_or x (first_from answer (at + 1) H)) (answer (at + 1 + length H) e)
  part None = refl
  part (Some x) = refl

-- one more entry is put behind the others, with its place
pub puts_push : (key : Entry → Option (List ℕ)) (at : ℕ) (H : List Entry) (e : Entry)
    → puts_from key at (H ++ e ∷ []) ≡ puts_from key at H ++ puts_at (key e) (at + length H)
puts_push key at [] e = rw (zero_more at) (append-nil (puts_at (key e) at)) where
  zero_more : (n : ℕ) → n + 0 ≡ n
  zero_more n = omega arith
puts_push key at (d ∷ H) e =
    rw (puts_push key (at + 1) H e, next at (length H)) (sym (append_assoc (puts_at (key d) at) (puts_from key (at + 1) H) (puts_at (key e) (at + 1 + length H))))
  where
    next : (m n : ℕ) → m + suc n ≡ m + 1 + n
    next m n = omega arith

-- the place of an entry is searched as the entry is
pub tests_place : (test : Entry → Bool) → Tests test (place_if test)
tests_place test at e = tested (test e) at

-- a place is found exactly where an answer is
pub both_found : {A : Type 0} (test : Entry → Bool) (answer : ℕ → Entry → Option A) → Tests test answer → (H : List Entry)
    → is_some (first_place test H) ≡ is_some (first_from answer 0 H)
both_found test answer tests H = found-count test (place_if test) (tests_place test) 0 H ∙ sym (found-count test answer tests 0 H)

pub none_of : {A : Type 0} (x : Option A) → is_some x ≡ false → x ≡ None
none_of None none = refl
none_of (Some x) none = absurd cc

first_some : {A : Type 0} (x y : Option A) → is_some x ≡ true → option_or x y ≡ x
first_some None y some = absurd cc
first_some (Some x) y some = refl

first_none : {A : Type 0} (x y : Option A) → is_some x ≡ false → option_or x y ≡ y
first_none None y none = refl
first_none (Some x) y none = absurd cc

-- where no place is found there is no answer
pub missed : {A : Type 0} (test : Entry → Bool) (answer : ℕ → Entry → Option A) → Tests test answer → (H : List Entry)
    → first_place test H ≡ None → first_from answer 0 H ≡ None
missed test answer tests H none =
    none_of (first_from answer 0 H) (sym (both_found test answer tests H) ∙ ap (λ (x : Option ℕ). is_some x) none)

-- the entry found, with how far behind the first place it stands
abbrev FoundFrom : {A : Type 0} → (Entry → Bool) → (ℕ → Entry → Option A) → ℕ → List Entry → ℕ → Entry → Type 0
FoundFrom test answer at H i d =
    (j : ℕ) × (i ≡ at + j) × (j < length H) × (test (get_or H j d) ≡ true) × (first_from answer at H ≡ answer i (get_or H j d))

found_from : {A : Type 0} (test : Entry → Bool) (answer : ℕ → Entry → Option A) → Tests test answer
    → (at : ℕ) (H : List Entry) (i : ℕ) (d : Entry) → first_from (place_if test) at H ≡ Some i → FoundFrom test answer at H i d
found_from test answer tests at [] i d is = absurd cc
found_from test answer tests at (e ∷ es) i d is = part (test e) refl (found_from test answer tests (at + 1) es i d) is where
  part : (b : Bool) → test e ≡ b → (first_from (place_if test) (at + 1) es ≡ Some i → FoundFrom test answer (at + 1) es i d)
      → option_or (cond b (Some at) None) (first_from (place_if test) (at + 1) es) ≡ Some i → FoundFrom test answer at (e ∷ es) i d
  part true passes rest is =
      let here : at ≡ i = same_Some at i is in
      let first : option_or (answer at e) (first_from answer (at + 1) es) ≡ answer at e = first_some (answer at e) (first_from answer (at + 1) es) (tests at e ∙ passes) in
      (0, omega (arith, here), omega arith, passes, first ∙ ap (λ (n : ℕ). answer n e) here)
  part false fails rest is =
      let behind : FoundFrom test answer (at + 1) es i d = rest is in
      let first : option_or (answer at e) (first_from answer (at + 1) es) ≡ first_from answer (at + 1) es = first_none (answer at e) (first_from answer (at + 1) es) (tests at e ∙ fails) in
      (suc behind.0, omega (arith, behind.1), omega (arith, behind.2), behind.3, first ∙ behind.4)

-- the entry at the place found passes the test, and gives the answer of the list
pub record Here {A : Type 0} (test : Entry → Bool) (answer : ℕ → Entry → Option A) (H : List Entry) (i : ℕ) (d : Entry) : Type 0 where
  pub within : i < length H
  pub passes : test (get_or H i d) ≡ true
  pub answers : first_from answer 0 H ≡ answer i (get_or H i d)

pub found : {A : Type 0} (test : Entry → Bool) (answer : ℕ → Entry → Option A) → Tests test answer → (H : List Entry) (i : ℕ) (d : Entry)
    → first_place test H ≡ Some i → Here test answer H i d
found test answer tests H i d is =
    let it : FoundFrom test answer 0 H i d = found_from test answer tests 0 H i d is in
    let same : it.0 ≡ i = omega (arith, it.1) in
    record {
      within = omega (arith, it.1, it.2);
      passes = subst (λ (j : ℕ). test (get_or H j d) ≡ true) same it.3;
      answers = subst (λ (j : ℕ). first_from answer 0 H ≡ answer i (get_or H j d)) same it.4;
    }

-- a place that is found is one of the list
pub within_some : {A : Type 0} (test : Entry → Bool) (answer : ℕ → Entry → Option A) → Tests test answer → (H : List Entry) (r : Option ℕ)
    → r ≡ first_place test H → IfSome r (λ at. at < length H)
within_some test answer tests H None is = tt
within_some test answer tests H (Some at) is = (found test answer tests H at (Fund (record { 0 = 0 }) 0 []) (sym is)).within

-- ---- an index over a list

-- what the index finds under a key is the place of the first entry that passes
pub finds_place : (key : Entry → Option (List ℕ)) (cap : ℕ) (index : Indexed) (H : List Entry) (k : List ℕ) (test : Entry → Bool)
    → Indexes key cap index H → AllByRecursion KeysFit H → StandsFor key k test → value_in index.puts k ≡ first_place test H
finds_place key cap index H k test indexes fit stands = ap (λ (ps : List Put). value_in ps k) indexes.puts ∙ index_searches key k test stands 0 H fit

-- what the index answers with a place is the entry there
pub looked_up : {A : Type 0} (key : Entry → Option (List ℕ)) (cap : ℕ) (index : Indexed) (H : List Entry) (k : List ℕ) (test : Entry → Bool)
    (answer : ℕ → Entry → Option A) → Tests test answer → Indexes key cap index H → AllByRecursion KeysFit H → StandsFor key k test
    → (r : Option ℕ) (i : ℕ) (d : Entry) → r ≡ value_in index.puts k → r ≡ Some i → Here test answer H i d
looked_up key cap index H k test answer tests indexes fit stands r i d is some =
    found test answer tests H i d (sym (finds_place key cap index H k test indexes fit stands) ∙ sym is ∙ some)

-- where it answers with none there is no such entry
pub looked_nowhere : {A : Type 0} (key : Entry → Option (List ℕ)) (cap : ℕ) (index : Indexed) (H : List Entry) (k : List ℕ) (test : Entry → Bool)
    (answer : ℕ → Entry → Option A) → Tests test answer → Indexes key cap index H → AllByRecursion KeysFit H → StandsFor key k test
    → (r : Option ℕ) → r ≡ value_in index.puts k → r ≡ None → first_from answer 0 H ≡ None
looked_nowhere key cap index H k test answer tests indexes fit stands r is none =
    missed test answer tests H (sym (finds_place key cap index H k test indexes fit stands) ∙ sym is ∙ none)

-- a key whose entry is not there was not put
pub absent : {A : Type 0} (key : Entry → Option (List ℕ)) (cap : ℕ) (index : Indexed) (H : List Entry) (k : List ℕ) (test : Entry → Bool)
    (answer : ℕ → Entry → Option A) → Indexes key cap index H → AllByRecursion KeysFit H → StandsFor key k test → Tests test answer
    → IsNone (first_from answer 0 H) → IsNone (value_in index.puts k)
absent key cap index H k test answer indexes fit stands tests none =
    ap (λ (x : Option ℕ). is_some x) (finds_place key cap index H k test indexes fit stands) ∙ both_found test answer tests H ∙ none

puts_le : (key : Entry → Option (List ℕ)) (at : ℕ) (H : List Entry) → length (puts_from key at H) ≤ length H
puts_le key at [] = omega arith
puts_le key at (e ∷ es) = part (key e) (puts_le key (at + 1) es) where
  part : (o : Option (List ℕ)) → length (puts_from key (at + 1) es) ≤ length es → length (puts_at o at ++ puts_from key (at + 1) es) ≤ suc (length es)
  part None rest = omega (arith, rest)
  part (Some k) rest = omega (arith, rest)

-- there is room for one entry more
pub has_room : (key : Entry → Option (List ℕ)) (cap : ℕ) (index : Indexed) (H : List Entry) → Indexes key cap index H → length H < cap
    → 2 * length index.puts < index.shape.slots
has_room key cap index H indexes within = rw (indexes.puts, indexes.slots) (omega (arith, puts_le key 0 H, within))

-- an index behind one entry more, whose place is put under its key, if it has one
pub index_put : (key : Entry → Option (List ℕ)) (cap : ℕ) (old new : Indexed) (H : List Entry) (e : Entry) (k : Option (List ℕ)) (at : ℕ)
    → Indexes key cap old H → k ≡ key e → at ≡ length H → new.puts ≡ old.puts ++ puts_at k at → new.shape ≡ old.shape
    → Indexes key cap new (H ++ e ∷ [])
index_put key cap old new H e k at indexes has here puts shape =
    let place : at ≡ 0 + length H = omega (arith, here) in
    let grown : old.puts ++ puts_at k at ≡ puts_from key 0 (H ++ e ∷ []) = rw (indexes.puts, has, place, puts_push key 0 H e) refl in
    record {
      puts = puts ∙ grown;
      slots = ap (λ (s : Shape). s.slots) shape ∙ indexes.slots;
    }

-- the last put of an index is that of the last entry, if it has a key
last_put : (key : Entry → Option (List ℕ)) (cap : ℕ) (index : Indexed) (H front : List Entry) (e : Entry) (k : Option (List ℕ))
    → Indexes key cap index H → H ≡ front ++ e ∷ [] → k ≡ key e → index.puts ≡ puts_from key 0 front ++ puts_at k (0 + length front)
last_put key cap index H front e k indexes whole has =
    let grown : puts_from key 0 (front ++ e ∷ []) ≡ puts_from key 0 front ++ puts_at k (0 + length front) = rw (puts_push key 0 front e, has) refl in
    indexes.puts ∙ ap (λ (xs : List Entry). puts_from key 0 xs) whole ∙ grown

-- so the puts end with it
pub index_ends : (key : Entry → Option (List ℕ)) (cap : ℕ) (index : Indexed) (H front : List Entry) (e : Entry) (k : Option (List ℕ))
    → Indexes key cap index H → H ≡ front ++ e ∷ [] → k ≡ key e → (before : List Put) × (at : ℕ) × (index.puts ≡ before ++ puts_at k at)
index_ends key cap index H front e k indexes whole has = (puts_from key 0 front, 0 + length front, last_put key cap index H front e k indexes whole has)

-- an index without its last entry
pub index_off : (key : Entry → Option (List ℕ)) (cap : ℕ) (old new : Indexed) (H front : List Entry) (e : Entry) (k : Option (List ℕ))
    → Indexes key cap old H → H ≡ front ++ e ∷ [] → k ≡ key e
    → ((before : List Put) (at : ℕ) → old.puts ≡ before ++ puts_at k at → new.puts ≡ before) → new.shape ≡ old.shape
    → Indexes key cap new front
index_off key cap old new H front e k indexes whole has puts shape = record {
  puts = puts (puts_from key 0 front) (0 + length front) (last_put key cap old H front e k indexes whole has);
  slots = ap (λ (s : Shape). s.slots) shape ∙ indexes.slots;
}

-- what holds of each entry of a list, with one entry more and one less
pub each_push : (P : Entry → Type 0) (H : List Entry) (e : Entry) → AllByRecursion P H → P e → AllByRecursion P (H ++ e ∷ [])
each_push P [] e each one = (one, tt)
each_push P (x ∷ H) e each one = (each.0, each_push P H e each.1 one)

pub fit_pop : (H : List Entry) (e : Entry) → AllByRecursion KeysFit (H ++ e ∷ []) → AllByRecursion KeysFit H × KeysFit e
fit_pop [] e fit = (tt, fit.0)
fit_pop (x ∷ H) e fit =
    let rest : AllByRecursion KeysFit H × KeysFit e = fit_pop H e fit.1 in
    ((fit.0, rest.0), rest.1)
