-- What is read of an image that stands for items, and what an image stands for that was read.
use Rattle.std.proofs.Common.{◌≡◌, ◌≢◌, ◌⊎◌, inl, inr, ℕ, zero, suc, ◌+◌, ◌-◌, ◌<◌, ◌≤◌, Bool, true, false, nat_lt, List, [], ◌∷◌, ◌++◌, length, take, drop, get_or, arith, refl, sym, ap, subst, ◌∙◌, length-append}
use Rattle.std.specs.Prelude.{replicate, ◌==◌, if◌then◌else◌}
use Rattle.std.specs.Int.{w16, w32, from_be_bytes}
use Rattle.std.specs.List.{flat_map, AllByRecursion}
use Rattle.std.proofs.lemmas.List.{append_assoc, append-nil, take_at, drop_at, take-take, length-take, length-take-le, take-append-drop, get_or-append-add, get_or-take}
use Rattle.std.proofs.Math.ListN.{get_or-eq_default}
use Rattle.std.proofs.lemmas.Nat.{from_be_bytes-to_be_bytes_2, from_be_bytes-to_be_bytes_4, be_bytes_4}
use Rattle.std.proofs.Math.Seq.{take-append_seam, drop-append_seam}
use Rattle.std.proofs.lemmas.Bool.{eqb-true}
use Rattle.nb_units.specs.Fields.{be2, be4, sized}
use Rattle.nb_units.specs.declared.charter.Charter.{Charter}
use Rattle.nb_units.specs.Frames.{AreBytes}
use Rattle.nb_journal.specs.Layout.{magic, IsMagic, front_bytes, AreTerms, open_gate, IsItem, item_bytes, up_to_gate}
use Rattle.nb_journal.specs.Stands.{Stands}
use Rattle.nb_journal.specs.Reading.{Seen, Shut, Item, Broken, first_of, behind_gate, item_of, Found, Whole, Fault, items_from, found_in, Holds, NoFront, ItemFault, IsDamaged, IsUnborn}
use Rattle.nb_journal.specs.Laws.{IsRead}
use Rattle.nb_journal.proofs.Fronts.{rate_fits, magic_known}
use Rattle.nb_journal.proofs.Records.{unless, when, shut_there, sized_reads, item_reads, short_reads}
use Rattle.nb_journal.proofs.ReadingOn.{items_step, items_shut, items_broken, items_full}
use Rattle.nb_journal.proofs.Opens.{front_length, shut_gate}
use Rattle.nb_journal.proofs.Tearing.{order}

-- ---- what stands is read

-- a gate that is not open is seen
shut_seen : (gate : ℕ) (rest : List ℕ) → gate ≢ open_gate → first_of (gate ∷ rest) ≡ Shut
shut_seen gate rest shut = shut_there (take 5 (gate ∷ rest)) (gate ∷ rest) (omega arith) shut refl

-- an item is seen, whatever follows it
item_seen : (item tail : List ℕ) → IsItem item → first_of (item_bytes item ++ tail) ≡ Item item tail
unfolding item_bytes
item_seen item tail fits =
    let n = length item in
    ap (λ (xs : List ℕ). first_of (open_gate ∷ xs)) (append_assoc (be4 n) item tail)
    ∙ sized_reads n (item ++ tail) (omega arith)
    ∙ item_reads n (item ++ tail) fits (omega (arith, length-append item tail))
    ∙ ap (λ (xs : List ℕ). Item xs (drop n (item ++ tail))) (take-append_seam item tail)
    ∙ ap (λ (xs : List ℕ). Item item xs) (drop-append_seam item tail)

-- items behind others, and then a gate that is not open, are read
reads_all : (left : ℕ) (items more : List (List ℕ)) (place gate : ℕ) (rest : List ℕ) → gate ≢ open_gate → AllByRecursion IsItem more → length more ≤ left
    → items_from left items place (flat_map item_bytes more ++ gate ∷ rest) ≡ Whole (items ++ more)
reads_all left items [] place gate rest shut fit few = items_shut left items place (gate ∷ rest) (shut_seen gate rest shut) ∙ ap Whole (sym (append-nil items))
reads_all zero items (item ∷ more) place gate rest shut fit few = absurd (omega arith)
reads_all (suc left) items (item ∷ more) place gate rest shut fit few =
    let tail = flat_map item_bytes more ++ gate ∷ rest in
    let bytes : flat_map item_bytes (item ∷ more) ++ gate ∷ rest ≡ item_bytes item ++ tail = append_assoc (item_bytes item) (flat_map item_bytes more) (gate ∷ rest) in
    ap (items_from (suc left) items place) bytes
    ∙ items_step left items place (item_bytes item ++ tail) item tail (item_seen item tail fit.0)
    ∙ reads_all left (items ++ item ∷ []) more (place + (length item + 5)) gate rest shut fit.1 (omega arith)
    ∙ ap Whole (append_assoc items (item ∷ []) more)

-- an image that stands for items is read as these
pub stands_read : (image : List ℕ) (charter : Charter) (cap : ℕ) (items : List (List ℕ)) → AreTerms cap charter → AllByRecursion IsItem items → length items ≤ cap → Stands (front_bytes cap charter) items image → Holds image cap charter items
stands_read image charter cap items are fit few stands =
    let front = front_bytes cap charter in
    let behind = flat_map item_bytes items ++ stands.gate ∷ stands.rest in
    let split : image ≡ front ++ behind = stands.bytes ∙ append_assoc front (flat_map item_bytes items) (stands.gate ∷ stands.rest) in
    record {
      terms = are;
      front = ap (take 96) split ∙ take_at front behind 96 (front_length cap charter are);
      found = ap (λ (xs : List ℕ). items_from cap [] 96 xs) (ap (drop 96) split ∙ drop_at front behind 96 (front_length cap charter are)) ∙ reads_all cap [] items 96 stands.gate stands.rest stands.shut fit few;
    }

-- ---- one reading

-- two fronts of one image have one cap
same_cap : (cap cap' : ℕ) (charter charter' : Charter) → AreTerms cap charter → AreTerms cap' charter' → front_bytes cap charter ≡ front_bytes cap' charter' → cap ≡ cap'
same_cap cap cap' charter charter' are are' same =
    let word : be4 cap ≡ be4 cap' = ap (λ (xs : List ℕ). take 4 (drop 8 xs)) same in
    sym (from_be_bytes-to_be_bytes_4 cap (omega (arith, are.most))) ∙ ap (from_be_bytes w32) word ∙ from_be_bytes-to_be_bytes_4 cap' (omega (arith, are'.most))

-- behind the cap stand the head, the rate and zeros
abbrev behind_cap : Charter → List ℕ
behind_cap charter = charter.head ++ (be2 charter.rate ++ 0 ∷ 0 ∷ [])

-- charters of one version, one head and one rate are one
same_parts : (charter charter' : Charter) → charter.head ≡ charter'.head → charter.version ≡ charter'.version → charter.rate ≡ charter'.rate → charter ≡ charter'
same_parts charter charter' head version rate = λ i. record { head = head i; version = version i; rate = rate i }

-- and one charter
same_charter : (cap cap' : ℕ) (charter charter' : Charter) → AreTerms cap charter → AreTerms cap' charter' → front_bytes cap charter ≡ front_bytes cap' charter' → charter ≡ charter'
same_charter cap cap' charter charter' are are' same =
    let last : 48 + charter.version ≡ 48 + charter'.version = ap (λ (xs : List ℕ). get_or xs 7 0) same in
    let behind : behind_cap charter ≡ behind_cap charter' = ap (drop 12) same in
    let zeros = be2 charter.rate ++ 0 ∷ 0 ∷ [] in
    let zeros' = be2 charter'.rate ++ 0 ∷ 0 ∷ [] in
    let head : charter.head ≡ charter'.head = sym (take_at charter.head zeros 80 are.whole) ∙ ap (take 80) behind ∙ take_at charter'.head zeros' 80 are'.whole in
    let rest : zeros ≡ zeros' = sym (drop_at charter.head zeros 80 are.whole) ∙ ap (drop 80) behind ∙ drop_at charter'.head zeros' 80 are'.whole in
    let word : be2 charter.rate ≡ be2 charter'.rate = ap (take 2) rest in
    let rate : charter.rate ≡ charter'.rate =
    sym (from_be_bytes-to_be_bytes_2 charter.rate (rate_fits charter.version charter.rate are.ruled))
    ∙ ap (from_be_bytes w16) word
    ∙ from_be_bytes-to_be_bytes_2 charter'.rate (rate_fits charter'.version charter'.rate are'.ruled) in
    same_parts charter charter' head (omega (arith, last)) rate

-- with one cap the same is found
same_found : (cap cap' : ℕ) (bytes : List ℕ) (x y : Found) → cap ≡ cap' → items_from cap [] 96 bytes ≡ x → items_from cap' [] 96 bytes ≡ y → x ≡ y
same_found cap cap' bytes x y same first second = sym first ∙ ap (λ (n : ℕ). items_from n [] 96 bytes) same ∙ second

-- an image is read as one journal
pub one_journal : (image : List ℕ) (charter charter' : Charter) (cap cap' : ℕ) (items items' : List (List ℕ)) → Holds image cap charter items → Holds image cap' charter' items' → (cap ≡ cap') × (charter ≡ charter') × (items ≡ items')
one_journal image charter charter' cap cap' items items' first second =
    let same : front_bytes cap charter ≡ front_bytes cap' charter' = sym first.front ∙ second.front in
    let caps = same_cap cap cap' charter charter' first.terms second.terms same in
    let found = same_found cap cap' (drop 96 image) (Whole items) (Whole items') caps first.found second.found in
    (caps, same_charter cap cap' charter charter' first.terms second.terms same, cc)

-- and is then not damaged
pub whole_not_damaged : (image : List ℕ) (charter : Charter) (cap item place : ℕ) (items : List (List ℕ)) → Holds image cap charter items → IsDamaged image item place → ⊥
whole_not_damaged image charter cap item place items holds damaged = elim damaged.fault [
  | inl none ↦ none.2 cap charter holds.terms holds.front
  | inr fault ↦ (
      let caps = same_cap cap fault.cap charter fault.charter holds.terms fault.terms (sym holds.front ∙ fault.front) in
      let found = same_found cap fault.cap (drop 96 image) (Whole items) (Fault item place) caps holds.found fault.found in
      cc
      )
]

-- by the grounds of two faults
faults : (image : List ℕ) (item item' place place' : ℕ) → ((item ≡ 0) × (place ≡ 8) × NoFront image) ⊎ ItemFault image item place → ((item' ≡ 0) × (place' ≡ 8) × NoFront image) ⊎ ItemFault image item' place' → (item ≡ item') × (place ≡ place')
faults image item item' place place' (inl first) (inl second) = (first.0 ∙ sym second.0, first.1 ∙ sym second.1)
faults image item item' place place' (inl first) (inr second) = absurd (first.2 second.cap second.charter second.terms second.front)
faults image item item' place place' (inr first) (inl second) = absurd (second.2 first.cap first.charter first.terms first.front)
faults image item item' place place' (inr first) (inr second) =
    let caps = same_cap first.cap second.cap first.charter second.charter first.terms second.terms (sym first.front ∙ second.front) in
    let found = same_found first.cap second.cap (drop 96 image) (Fault item place) (Fault item' place') caps first.found second.found in
    (cc, cc)

-- there is one first fault
pub one_fault : (image : List ℕ) (item item' place place' : ℕ) → IsDamaged image item place → IsDamaged image item' place' → (item ≡ item') × (place ≡ place')
one_fault image item item' place place' first second = faults image item item' place place' first.fault second.fault

-- a journal begins with the magic of its version
begins : (image : List ℕ) (charter : Charter) (cap : ℕ) → AreTerms cap charter → take 96 image ≡ front_bytes cap charter → IsMagic (found_in image)
begins image charter cap are front =
    let first : take 8 image ≡ magic charter.version = sym (take-take 8 96 image (omega arith)) ∙ ap (take 8) front in
    let none : 8 - length image ≡ 0 = omega (arith, ap length front, front_length cap charter are, length-take 96 image) in
    let found : found_in image ≡ magic charter.version = ap (λ (xs : List ℕ). xs ++ replicate (8 - length image) 0) first ∙ ap (λ (n : ℕ). magic charter.version ++ replicate n 0) none in
    subst IsMagic (sym found) (magic_known charter.version charter.rate are.ruled)

-- what begins otherwise is neither a journal nor damaged
pub unborn_is_neither : (image found : List ℕ) (charter : Charter) (cap item place : ℕ) (items : List (List ℕ)) → IsUnborn image found → (Holds image cap charter items → ⊥) × (IsDamaged image item place → ⊥)
unborn_is_neither image found charter cap item place items unborn = (
  λ holds. unborn.1 (subst IsMagic (sym unborn.0) (begins image charter cap holds.terms holds.front)),
  λ damaged. unborn.1 (subst IsMagic (sym unborn.0) damaged.begins),
)

-- ---- what was read stands

-- an item behind its length
record HasItem (n : ℕ) (bytes item rest : List ℕ) : Type 0 where
  pub most : n ≤ 2097152
  pub there : n ≤ length bytes
  pub item_is : item ≡ take n bytes
  pub rest_is : rest ≡ drop n bytes

-- where an item is seen behind a length, it has that length
item_back : (n : ℕ) (bytes item rest : List ℕ) → item_of n bytes ≡ Item item rest → HasItem n bytes item rest
unfolding item_of
item_back n bytes item rest seen = elim (order 2097152 n) [
  | inl great ↦ (let broken = when 2097152 n Broken (if nat_lt (length bytes) n then Broken else Item (take n bytes) (drop n bytes)) great in cc)
  | inr most ↦ elim (order (length bytes) n) [
    | inl short ↦ (let broken = short_reads n bytes most short in cc)
    | inr there ↦ (let is = item_reads n bytes most there in record { most = most; there = there; item_is = cc; rest_is = cc })
  ]
]

-- the four bytes of a length, and an item
record HasSized (bytes item rest : List ℕ) : Type 0 where
  pub long : 4 ≤ length bytes
  pub has : HasItem (from_be_bytes w32 (take 4 bytes)) (drop 4 bytes) item rest

-- where an item is seen behind an open gate, a length stands there
sized_back : (bytes item rest : List ℕ) → behind_gate bytes ≡ Item item rest → HasSized bytes item rest
unfolding behind_gate
sized_back bytes item rest seen = elim (order (length bytes) 4) [
  | inl short ↦ (let broken = when (length bytes) 4 Broken (item_of (from_be_bytes w32 (take 4 bytes)) (drop 4 bytes)) short in cc)
  | inr long ↦ record {
    long = long;
    has = item_back (from_be_bytes w32 (take 4 bytes)) (drop 4 bytes) item rest (sym (unless (length bytes) 4 Broken (item_of (from_be_bytes w32 (take 4 bytes)) (drop 4 bytes)) long) ∙ seen);
  }
]

-- a gate that is not open is no item
shut_item : (item rest : List ℕ) → Shut ≡ Item item rest → ⊥
shut_item item rest e = cc

-- what is broken is no item
broken_item : (item rest : List ℕ) → Broken ≡ Item item rest → ⊥
broken_item item rest e = cc

-- bytes behind others
bytes_behind : (bytes front rest : List ℕ) → AreBytes bytes → bytes ≡ front ++ rest → AreBytes rest
bytes_behind bytes front rest are is = λ i. subst (λ (n : ℕ). n < 256) (ap (λ (xs : List ℕ). get_or xs (length front + i) 0) is ∙ get_or-append-add front rest i 0) (are (length front + i))

-- bytes at the front of others
bytes_taken : (n : ℕ) (bytes : List ℕ) → AreBytes bytes → AreBytes (take n bytes)
bytes_taken n bytes are = λ i. elim (order i n) [
  | inl below ↦ subst (λ (b : ℕ). b < 256) (sym (get_or-take n bytes i 0 below)) (are i)
  | inr above ↦ (let none = get_or-eq_default (take n bytes) 0 {n = i} (omega (arith, length-take n bytes)) in omega (arith, none))
]

-- what was read as an item is spelled so
record IsSpelled (bytes item rest : List ℕ) : Type 0 where
  pub fits : IsItem item
  pub spelled : bytes ≡ item_bytes item ++ rest

-- the length and the item are spelled so
sized_spelled : (bytes item rest : List ℕ) → AreBytes bytes → HasSized bytes item rest → IsSpelled (open_gate ∷ bytes) item rest
unfolding item_bytes
sized_spelled bytes item rest are sized =
    let n = from_be_bytes w32 (take 4 bytes) in
    let behind = drop 4 bytes in
    let long : length item ≡ n = ap length sized.has.item_is ∙ length-take-le n behind sized.has.there in
    let word : be4 n ≡ take 4 bytes = be_bytes_4 (take 4 bytes) n (length-take-le 4 bytes sized.long) (bytes_taken 4 bytes are) refl in
    record {
      fits = omega (arith, long, sized.has.most);
      spelled = ap (λ (xs : List ℕ). open_gate ∷ xs)
          (sym (take-append-drop 4 bytes)
          ∙ ap (λ (xs : List ℕ). xs ++ behind) (sym word)
          ∙ ap (λ (xs : List ℕ). be4 n ++ xs) (sym (take-append-drop n behind) ∙ ap (λ (xs : List ℕ). xs ++ drop n behind) (sym sized.has.item_is) ∙ ap (λ (xs : List ℕ). item ++ xs) (sym sized.has.rest_is))
          ∙ ap (λ (m : ℕ). be4 m ++ (item ++ rest)) (sym long)
          ∙ sym (append_assoc (be4 (length item)) item rest));
    }

-- from the gate on
spelled_back : (bytes item rest : List ℕ) → AreBytes bytes → first_of bytes ≡ Item item rest → IsSpelled bytes item rest
unfolding first_of
spelled_back [] item rest are seen = absurd (broken_item item rest seen)
spelled_back (gate ∷ bytes) item rest are seen = tested (gate == open_gate) refl
  where
    tested : (b : Bool) → (gate == open_gate) ≡ b → IsSpelled (gate ∷ bytes) item rest
    tested false test = absurd (shut_item item rest (sym (ap (λ (c : Bool). if c then behind_gate bytes else Shut) test) ∙ seen))
    tested true test =
        let has = sized_back bytes item rest (sym (ap (λ (c : Bool). if c then behind_gate bytes else Shut) test) ∙ seen) in
        subst (λ (g : ℕ). IsSpelled (g ∷ bytes) item rest) (sym (eqb-true gate open_gate test)) (sized_spelled bytes item rest (λ i. are (suc i)) has)

-- the items that were read, and the gate behind them
record ReadBack (left : ℕ) (items : List (List ℕ)) (bytes : List ℕ) (found : List (List ℕ)) : Type 0 where
  pub more : List (List ℕ)
  pub gate : ℕ
  pub rest : List ℕ
  pub shut : gate ≢ open_gate
  pub are : found ≡ items ++ more
  pub fit : AllByRecursion IsItem more
  pub few : length more ≤ left
  pub spelled : bytes ≡ flat_map item_bytes more ++ gate ∷ rest

-- where a gate that is not open is seen
no_more : (left : ℕ) (items : List (List ℕ)) (place : ℕ) (bytes : List ℕ) (found : List (List ℕ)) → first_of bytes ≡ Shut → items_from left items place bytes ≡ Whole found → ReadBack left items bytes found
no_more left items place bytes found shut read =
    let whole = items_shut left items place bytes shut in
    let behind = shut_gate bytes shut in
    let same : found ≡ items = cc in
    record {
      more = [];
      gate = behind.0;
      rest = behind.1;
      shut = behind.2;
      are = same ∙ sym (append-nil items);
      fit = tt;
      few = omega arith;
      spelled = behind.3;
    }

-- by what is seen first
reads_back : (left : ℕ) (items : List (List ℕ)) (place : ℕ) (bytes : List ℕ) (found : List (List ℕ)) (seen : Seen) → AreBytes bytes → first_of bytes ≡ seen → items_from left items place bytes ≡ Whole found
    → ReadBack left items bytes found
reads_back left items place bytes found Shut are is read = no_more left items place bytes found is read
reads_back left items place bytes found Broken are is read = (let fault = items_broken left items place bytes is in cc)
reads_back zero items place bytes found (Item item rest) are is read = (let fault = items_full items place bytes item rest is in cc)
reads_back (suc left) items place bytes found (Item item rest) are is read =
    let spelled = spelled_back bytes item rest are is in
    let next = sym (items_step left items place bytes item rest is) ∙ read in
    let back = reads_back left (items ++ item ∷ []) (place + (length item + 5)) rest found (first_of rest) (bytes_behind bytes (item_bytes item) rest are spelled.spelled) refl next in
    record {
      more = item ∷ back.more;
      gate = back.gate;
      rest = back.rest;
      shut = back.shut;
      are = back.are ∙ append_assoc items (item ∷ []) back.more;
      fit = (spelled.fits, back.fit);
      few = omega (arith, back.few);
      spelled = spelled.spelled ∙ ap (λ (xs : List ℕ). item_bytes item ++ xs) back.spelled ∙ sym (append_assoc (item_bytes item) (flat_map item_bytes back.more) (back.gate ∷ back.rest));
    }

-- what was read as a journal stands for its items
pub read_stands : (image : List ℕ) (charter : Charter) (cap : ℕ) (items : List (List ℕ)) → AreBytes image → Holds image cap charter items → IsRead image cap charter items
read_stands image charter cap items are holds =
    let front = front_bytes cap charter in
    let whole : image ≡ take 96 image ++ drop 96 image = sym (take-append-drop 96 image) in
    let back = reads_back cap [] 96 (drop 96 image) items (first_of (drop 96 image)) (bytes_behind image (take 96 image) (drop 96 image) are whole) refl holds.found in
    record {
      stands = record {
        gate = back.gate;
        rest = back.rest;
        shut = back.shut;
        bytes =
            whole
            ∙ ap (λ (xs : List ℕ). xs ++ drop 96 image) holds.front
            ∙ ap (λ (xs : List ℕ). front ++ xs) back.spelled
            ∙ sym (append_assoc front (flat_map item_bytes back.more) (back.gate ∷ back.rest))
            ∙ ap (λ (xs : List (List ℕ)). up_to_gate front xs ++ back.gate ∷ back.rest) (sym back.are);
      };
      fit = subst (λ (xs : List (List ℕ)). AllByRecursion IsItem xs) (sym back.are) back.fit;
      count = subst (λ (xs : List (List ℕ)). length xs ≤ cap) (sym back.are) back.few;
    }
