-- One record, from its first bytes on.
use Rattle.std.proofs.Common.{◌≡◌, ◌≢◌, inl, inr, ℕ, ◌+◌, ◌<◌, ◌≤◌, ◌^◌, min, Bool, true, false, nat_lt, List, [], ◌∷◌, ◌++◌, length, take, drop, get_or, Option, Some, None, IfSome, arith, refl, sym, ap, ◌∙◌}
use Rattle.std.specs.Prelude.{◌==◌, if◌then◌else◌}
use Rattle.std.specs.Int.{w32, from_be_bytes}
use Rattle.std.proofs.lemmas.Bool.{eqb-true}
use Rattle.std.proofs.lemmas.Bool.Decides.{nat_tests}
use Rattle.std.proofs.lemmas.List.{append_assoc, take-append-drop, take_all, drop-drop, length-drop, length-take}
use Rattle.std.proofs.lemmas.Nat.{from_be_bytes-to_be_bytes_4}
use Rattle.nb_port.specs.Disk.{ReadsContent}
use Rattle.nb_units.specs.Fields.{be4}
use Rattle.nb_journal.specs.Layout.{open_gate, item_bytes}
use Rattle.nb_journal.specs.Reading.{Shut, Item, Broken, first_of, behind_gate, item_of}
use Rattle.nb_journal.specs.Scanning.{ItemAt, LeadIs, LeadGives, BodyFrom, BodyGives}
use Rattle.nb_journal.specs.declared.opening.record.LeadRead.{LeadRead}
use Rattle.nb_journal.specs.declared.opening.record.LeadRead.TheVariants as leads
use Rattle.nb_journal.specs.declared.opening.record.BodyRead.{BodyRead}
use Rattle.nb_journal.specs.declared.opening.record.BodyRead.TheVariants as bodies
use Rattle.nb_journal.proofs.Tearing.{order}

-- ---- a read

-- as many as there are, or so many
take_min : (m : ℕ) (xs : List ℕ) → take (min m (length xs)) xs ≡ take m xs
take_min m xs = elim (order (length xs) m) [
  | inl shorter ↦ take_all (min m (length xs)) xs (omega arith) ∙ sym (take_all m xs (omega arith))
  | inr within ↦ (let e : min m (length xs) ≡ m = omega arith in ap (λ (n : ℕ). take n xs) e)
]

-- what was read is the front of what stands at the place
pub read_is : (told : Option (List ℕ)) (place room n : ℕ) (buf bytes : List ℕ) → ReadsContent told place room buf n → bytes ≡ take n buf → IfSome told (λ image. bytes ≡ take room (drop place image))
read_is None place room n buf bytes reads is = tt
read_is (Some image) place room n buf bytes reads is =
    let count : n ≡ min room (length (drop place image)) = reads.0 ∙ ap (λ (m : ℕ). min room m) (sym (length-drop place image)) in
    is ∙ reads.1 ∙ ap (λ (m : ℕ). take m (drop place image)) count ∙ take_min room (drop place image)

-- ---- a gate and a length

-- a test that fails
pub unless : {A : Type 0} (a b : ℕ) (x y : A) → b ≤ a → (if nat_lt a b then x else y) ≡ y
unless a b x y h = grind (arith, nat_tests)

-- one that holds
pub when : {A : Type 0} (a b : ℕ) (x y : A) → a < b → (if nat_lt a b then x else y) ≡ x
when a b x y h = grind (arith, nat_tests)

-- no bytes at all
pub none_there : (bytes xs : List ℕ) → length bytes ≡ 0 → bytes ≡ take 5 xs → first_of xs ≡ Broken
unfolding first_of
none_there bytes [] none is = refl
none_there bytes (x ∷ xs) none is = absurd (omega (arith, none, ap length is))

-- a gate that is not open
pub shut_there : (bytes xs : List ℕ) → 0 < length bytes → get_or bytes 0 0 ≢ open_gate → bytes ≡ take 5 xs → first_of xs ≡ Shut
unfolding first_of
shut_there bytes [] some shut is = absurd (omega (arith, some, ap length is))
shut_there bytes (x ∷ xs) some shut is =
    let same : get_or bytes 0 0 ≡ x = ap (λ (ys : List ℕ). get_or ys 0 0) is in
    tested (x == open_gate) refl (λ e. shut (same ∙ e))
  where
    tested : (b : Bool) → (x == open_gate) ≡ b → x ≢ open_gate → (if x == open_gate then behind_gate xs else Shut) ≡ Shut
    tested true test other = absurd (other (eqb-true x open_gate test))
    tested false test other = ap (λ (c : Bool). if c then behind_gate xs else Shut) test

-- behind an open gate
open_there : (bytes word xs : List ℕ) → 0 < length bytes → get_or bytes 0 0 ≡ open_gate → word ≡ drop 1 bytes → bytes ≡ take 5 xs → (ys : List ℕ) × (xs ≡ open_gate ∷ ys) × (word ≡ take 4 ys)
open_there bytes word [] some opens back is = absurd (omega (arith, some, ap length is))
open_there bytes word (x ∷ xs) some opens back is = (
  xs,
  ap (λ (g : ℕ). g ∷ xs) (sym (ap (λ (ys : List ℕ). get_or ys 0 0) is) ∙ opens),
  back ∙ ap (λ (ys : List ℕ). drop 1 ys) is,
)

-- fewer than the four bytes of a length
pub short_there : (bytes word xs : List ℕ) → 0 < length bytes → get_or bytes 0 0 ≡ open_gate → word ≡ drop 1 bytes → length word < 4 → bytes ≡ take 5 xs → first_of xs ≡ Broken
unfolding first_of behind_gate
short_there bytes word xs some opens back short is =
    let there = open_there bytes word xs some opens back is in
    let few : length there.0 < 4 = omega (arith, short, ap length there.2, length-take 4 there.0) in
    ap first_of there.1 ∙ when (length there.0) 4 Broken (item_of (from_be_bytes w32 (take 4 there.0)) (drop 4 there.0)) few

-- a length that is too great
pub long_there : (bytes word xs : List ℕ) (n : ℕ) → 0 < length bytes → get_or bytes 0 0 ≡ open_gate → word ≡ drop 1 bytes → 4 ≤ length word → n ≡ from_be_bytes w32 word → 2097152 < n → bytes ≡ take 5 xs → first_of xs ≡ Broken
unfolding first_of behind_gate item_of
long_there bytes word xs n some opens back long number great is =
    let there = open_there bytes word xs some opens back is in
    let four : 4 ≤ length there.0 = omega (arith, long, ap length there.2, length-take 4 there.0) in
    let same : n ≡ from_be_bytes w32 (take 4 there.0) = number ∙ ap (λ (ys : List ℕ). from_be_bytes w32 ys) there.2 in
    ap first_of there.1
    ∙ unless (length there.0) 4 Broken (item_of (from_be_bytes w32 (take 4 there.0)) (drop 4 there.0)) four
    ∙ ap (λ (m : ℕ). item_of m (drop 4 there.0)) (sym same)
    ∙ when 2097152 n Broken (if nat_lt (length (drop 4 there.0)) n then Broken else Item (take n (drop 4 there.0)) (drop n (drop 4 there.0))) great

-- the gate and the length are the five bytes
pub sized_there : (bytes word : List ℕ) (n : ℕ) → 0 < length bytes → get_or bytes 0 0 ≡ open_gate → word ≡ drop 1 bytes → be4 n ≡ word → bytes ≡ open_gate ∷ be4 n
sized_there [] word n some opens back spelled = absurd (omega arith)
sized_there (b ∷ bytes) word n some opens back spelled = ap (λ (g : ℕ). g ∷ bytes) opens ∙ ap (λ (ys : List ℕ). open_gate ∷ ys) (sym (spelled ∙ back))

-- what the five bytes say is so of the content
pub lead_gives : (before after : ℕ) (told : Option (List ℕ)) (place : ℕ) (bytes : List ℕ) (lead : LeadRead) → LeadIs bytes lead → IfSome told (λ image. bytes ≡ take 5 (drop place image)) → LeadGives before after told place lead
lead_gives before after None place bytes leads.Shut says reads = tt
lead_gives before after None place bytes leads.Broken says reads = tt
lead_gives before after None place bytes (leads.Sized n) says reads = (says.0, tt)
lead_gives before after None place bytes leads.Failed says reads = absurd says
lead_gives before after (Some image) place bytes leads.Shut says reads = says (drop place image) reads
lead_gives before after (Some image) place bytes leads.Broken says reads = says (drop place image) reads
lead_gives before after (Some image) place bytes (leads.Sized n) says reads = (says.0, sym reads ∙ says.1)
lead_gives before after (Some image) place bytes leads.Failed says reads = absurd says

-- ---- an item

-- an open gate and a length, and what follows them
opened_reads : (zs : List ℕ) → 4 ≤ length zs → first_of (open_gate ∷ zs) ≡ item_of (from_be_bytes w32 (take 4 zs)) (drop 4 zs)
unfolding first_of behind_gate
opened_reads zs long = unless (length zs) 4 Broken (item_of (from_be_bytes w32 (take 4 zs)) (drop 4 zs)) long

-- an open gate and a length, as they are spelled
pub sized_reads : (n : ℕ) (ys : List ℕ) → n < 2 ^ 32 → first_of (open_gate ∷ (be4 n ++ ys)) ≡ item_of n ys
sized_reads n ys fits = opened_reads (be4 n ++ ys) (omega arith) ∙ ap (λ (m : ℕ). item_of m ys) (from_be_bytes-to_be_bytes_4 n fits)

-- a length with all its bytes
pub item_reads : (n : ℕ) (ys : List ℕ) → n ≤ 2097152 → n ≤ length ys → item_of n ys ≡ Item (take n ys) (drop n ys)
unfolding item_of
item_reads n ys most there =
    unless 2097152 n Broken (if nat_lt (length ys) n then Broken else Item (take n ys) (drop n ys)) most
    ∙ unless (length ys) n Broken (Item (take n ys) (drop n ys)) there

-- a length with too few
pub short_reads : (n : ℕ) (ys : List ℕ) → n ≤ 2097152 → length ys < n → item_of n ys ≡ Broken
unfolding item_of
short_reads n ys most short =
    unless 2097152 n Broken (if nat_lt (length ys) n then Broken else Item (take n ys) (drop n ys)) most
    ∙ when (length ys) n Broken (Item (take n ys) (drop n ys)) short

-- the five bytes, and what follows them
lead_split : (image : List ℕ) (place n : ℕ) → take 5 (drop place image) ≡ open_gate ∷ be4 n → drop place image ≡ open_gate ∷ (be4 n ++ drop (place + 5) image)
lead_split image place n lead =
    sym (take-append-drop 5 (drop place image)) ∙ ap (λ (xs : List ℕ). xs ++ drop 5 (drop place image)) lead ∙ ap (λ (xs : List ℕ). open_gate ∷ (be4 n ++ xs)) (drop-drop 5 place image)

-- what is seen there hangs on the length alone
pub lead_seen : (image : List ℕ) (place n : ℕ) → take 5 (drop place image) ≡ open_gate ∷ be4 n → n ≤ 2097152 → first_of (drop place image) ≡ item_of n (drop (place + 5) image)
lead_seen image place n lead most = ap first_of (lead_split image place n lead) ∙ sized_reads n (drop (place + 5) image) (omega arith)

-- with all the bytes it is an item
pub item_there : (told : Option (List ℕ)) (place n : ℕ) (item : List ℕ) → n ≤ 2097152 → length item ≡ n → IfSome told (λ image. take 5 (drop place image) ≡ open_gate ∷ be4 n)
    → IfSome told (λ image. take n (drop (place + 5) image) ≡ item) → IfSome told (λ image. ItemAt image place item)
unfolding item_bytes
item_there None place n item most long lead body = tt
item_there (Some image) place n item most long lead body =
    let ys = drop (place + 5) image in
    let there : n ≤ length ys = omega (arith, long, ap length body, length-take n ys) in
    let rest : drop n ys ≡ drop (place + (length item + 5)) image = drop-drop n (place + 5) image ∙ (let e : place + 5 + n ≡ place + (length item + 5) = omega arith in ap (λ (m : ℕ). drop m image) e) in
    let seen : first_of (drop place image) ≡ Item item (drop n ys) = lead_seen image place n lead most ∙ item_reads n ys most there ∙ ap (λ (xs : List ℕ). Item xs (drop n ys)) body in
    let split : ys ≡ item ++ drop n ys = sym (take-append-drop n ys) ∙ ap (λ (xs : List ℕ). xs ++ drop n ys) body in
    record {
      seen = seen ∙ ap (λ (xs : List ℕ). Item item xs) rest;
      bytes = lead_split image place n lead ∙ ap (λ (xs : List ℕ). open_gate ∷ (be4 n ++ xs)) (split ∙ ap (λ (xs : List ℕ). item ++ xs) rest) ∙ ap (λ (m : ℕ). open_gate ∷ (be4 m ++ (item ++ drop (place + (length item + 5)) image))) (sym long)
          ∙ ap (λ (xs : List ℕ). open_gate ∷ xs) (sym (append_assoc (be4 (length item)) item (drop (place + (length item + 5)) image)));
    }

-- with fewer it is broken
pub item_short : (told : Option (List ℕ)) (place n : ℕ) → n ≤ 2097152 → IfSome told (λ image. take 5 (drop place image) ≡ open_gate ∷ be4 n)
    → IfSome told (λ image. length (drop (place + 5) image) < n) → IfSome told (λ image. first_of (drop place image) ≡ Broken)
item_short None place n most lead short = tt
item_short (Some image) place n most lead short = lead_seen image place n lead most ∙ short_reads n (drop (place + 5) image) most short

-- what the bytes of an item are, where they are its own or all there are
pub body_gives : (before after : ℕ) (told : Option (List ℕ)) (place n : ℕ) (bytes : List ℕ) (body : BodyRead) → BodyFrom bytes n body → IfSome told (λ image. bytes ≡ take n (drop place image)) → BodyGives before after told place n body
body_gives before after None place n bytes (bodies.Got item) says reads = (ap length says.1 ∙ says.0, tt)
body_gives before after None place n bytes bodies.Short says reads = tt
body_gives before after None place n bytes bodies.Failed says reads = absurd says
body_gives before after None place n bytes bodies.NoMemory says reads = tt
body_gives before after (Some image) place n bytes (bodies.Got item) says reads = (ap length says.1 ∙ says.0, sym (says.1 ∙ reads))
body_gives before after (Some image) place n bytes bodies.Short says reads = omega (arith, says, ap length reads, length-take n (drop place image))
body_gives before after (Some image) place n bytes bodies.Failed says reads = absurd says
body_gives before after (Some image) place n bytes bodies.NoMemory says reads = tt
