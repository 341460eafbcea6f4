-- Reads and writes of a file in parts.
use Rattle.std.specs.Prelude.{⊤}
use Rattle.std.proofs.Common.{◌≡◌, ◌⊎◌, inl, inr, ℕ, ◌+◌, ◌-◌, ◌<◌, ◌≤◌, List, [], Option, Some, None, ◌++◌, length, take, drop, get_or, max, refl, sym, ap, subst, ◌∙◌, arith, rules}
use Rattle.std.proofs.lemmas.Bool.{cases_lt}
use Rattle.std.proofs.lemmas.List.{places, ext_get_or, take_at}
use Rattle.nb_port.specs.Disk.{put_at, wrote_at, MayTear}
use Rattle.nb_port.specs.DiskLaws.{torn_same}
use Rattle.nb_system.specs.File.{Within, ReadsPart}
use Rattle.nb_port.proofs.Tears.{torn_from, torn_at}

-- ---- reading

-- so many bytes, which stand at a place of the content
abbrev pub ReadSo : Option (List ℕ) → ℕ → List ℕ → ℕ → Type 0
ReadSo None place buf n = ⊤
ReadSo (Some content) place buf n = (n ≤ length content - place) × (take n buf ≡ take n (drop place content))

-- so do those that were read behind them, in the rest of the buffer
same_behind : (content front part : List ℕ) (place done n i : ℕ) → length front ≡ done → n ≤ length part
    → front ≡ take done (drop place content) → take n part ≡ take n (drop (place + done) content)
    → i < done + n → (i < done) ⊎ (done ≤ i) → get_or (front ++ part) i 0 ≡ get_or content (place + i) 0
same_behind content front part place done n i h k f g l (inl low) =
    let first = ap (λ (xs : List ℕ). get_or xs i 0) f in
    grind (arith, places)
same_behind content front part place done n i h k f g l (inr high) =
    let second = ap (λ (xs : List ℕ). get_or xs (i - done) 0) g in
    grind (arith, places)

pub read_more : (content : Option (List ℕ)) (place at done n room : ℕ) (buf front back part : List ℕ) → at ≡ place + done
    → length front ≡ done → buf ≡ front ++ back → n ≤ length part
    → ReadSo content place buf done → ReadsPart content at room part n → ReadSo content place (front ++ part) (done + n)
read_more None place at done n room buf front back part a h is k so part_so = tt
read_more (Some content) place at done n room buf front back part a h is k (within, so) (fits, same, some) = (
  omega (arith, a),
  ext_get_or 0 _ _ (grind (arith, places)) (λ i j.
      let e = same_behind content front part place done n i h k first behind (grind (arith, places)) (cases_lt i done) in
      grind (arith, places)),
)
  where
    first : front ≡ take done (drop place content)
    first = sym (take_at front back done h) ∙ ap (take done) (sym is) ∙ so

    behind : take n part ≡ take n (drop (place + done) content)
    behind = subst (λ (at : ℕ). take n part ≡ take n (drop at content)) a same

-- ---- writing

-- no bytes change nothing
put_nothing : (old : List ℕ) (place : ℕ) → old ≡ put_at old place []
unfolding put_at
put_nothing old place = search (rules, places)

pub wrote_nothing : (content : Option (List ℕ)) (place : ℕ) → content ≡ wrote_at content place []
wrote_nothing None place = refl
wrote_nothing (Some old) place = ap Some (put_nothing old place)

-- what stands where bytes were put: before them, in them, behind them
put_before : (old : List ℕ) (place i : ℕ) (bytes : List ℕ) → place ≤ length old → i < place
    → get_or (put_at old place bytes) i 0 ≡ get_or old i 0
unfolding put_at
put_before old place i bytes h low = grind (arith, places)

put_within : (old : List ℕ) (place i : ℕ) (bytes : List ℕ) → place ≤ length old → place ≤ i → i < place + length bytes
    → get_or (put_at old place bytes) i 0 ≡ get_or bytes (i - place) 0
unfolding put_at
put_within old place i bytes h high low = grind (arith, places)

put_behind : (old : List ℕ) (place i : ℕ) (bytes : List ℕ) → place ≤ length old → place + length bytes ≤ i
    → get_or (put_at old place bytes) i 0 ≡ get_or old i 0
unfolding put_at
put_behind old place i bytes h high = grind (arith, places)

put_length : (old : List ℕ) (place : ℕ) (bytes : List ℕ) → place ≤ length old
    → length (put_at old place bytes) ≡ max (length old) (place + length bytes)
unfolding put_at
put_length old place bytes h = grind (arith, places)

-- what is put at the end of what was put
put_two : (old : List ℕ) (place : ℕ) (xs ys : List ℕ) → place ≤ length old
    → put_at (put_at old place xs) (place + length xs) ys ≡ put_at old place (xs ++ ys)
put_two old place xs ys h = ext_get_or 0 _ _ long (λ i j. low i (cases_lt i place))
  where
    mid : List ℕ
    mid = put_at old place xs

    mid_long : place + length xs ≤ length mid
    mid_long = omega (arith, put_length old place xs h)

    both : length (xs ++ ys) ≡ length xs + length ys
    both = grind (arith, places)

    long : length (put_at mid (place + length xs) ys) ≡ length (put_at old place (xs ++ ys))
    long = omega (arith, both, put_length old place xs h, put_length mid (place + length xs) ys mid_long, put_length old place (xs ++ ys) h)

    left_of : (i : ℕ) → ℕ
    left_of i = get_or (put_at mid (place + length xs) ys) i 0

    right_of : (i : ℕ) → ℕ
    right_of i = get_or (put_at old place (xs ++ ys)) i 0

    high : (i : ℕ) → place + length xs ≤ i → (i < place + length xs + length ys) ⊎ (place + length xs + length ys ≤ i) → left_of i ≡ right_of i
    high i h1 (inl below) =
        let e = put_within mid (place + length xs) i ys mid_long h1 below in
        let f = put_within old place i (xs ++ ys) h (omega arith) (omega (arith, both)) in
        grind (arith, places)
    high i h1 (inr above) =
        put_behind mid (place + length xs) i ys mid_long above ∙ put_behind old place i xs h h1
        ∙ sym (put_behind old place i (xs ++ ys) h (omega (arith, both)))

    mid_of : (i : ℕ) → place ≤ i → (i < place + length xs) ⊎ (place + length xs ≤ i) → left_of i ≡ right_of i
    mid_of i h1 (inl below) =
        let e = put_before mid (place + length xs) i ys mid_long below in
        let f = put_within old place i xs h h1 below in
        let g = put_within old place i (xs ++ ys) h h1 (omega (arith, both)) in
        grind (arith, places)
    mid_of i h1 (inr above) = high i above (cases_lt i (place + length xs + length ys))

    low : (i : ℕ) → (i < place) ⊎ (place ≤ i) → left_of i ≡ right_of i
    low i (inl below) =
        put_before mid (place + length xs) i ys mid_long (omega arith) ∙ put_before old place i xs h below
        ∙ sym (put_before old place i (xs ++ ys) h below)
    low i (inr above) = mid_of i above (cases_lt i (place + length xs))

take_two : (piece : List ℕ) (done n : ℕ) → done ≤ length piece → take done piece ++ take n (drop done piece) ≡ take (done + n) piece
take_two piece done n h = ext_get_or 0 _ _ (grind (arith, places)) (λ i j. grind (arith, places))

put_more : (old : List ℕ) (place done n : ℕ) (piece : List ℕ) → done ≤ length piece → place ≤ length old
    → put_at (put_at old place (take done piece)) (place + done) (take n (drop done piece)) ≡ put_at old place (take (done + n) piece)
put_more old place done n piece h within =
    let long : length (take done piece) ≡ done = grind (arith, places) in
    ap (λ (k : ℕ). put_at (put_at old place (take done piece)) (place + k) (take n (drop done piece))) (sym long)
    ∙ put_two old place (take done piece) (take n (drop done piece)) within
    ∙ ap (put_at old place) (take_two piece done n h)

inside : (old : List ℕ) (place done : ℕ) (piece : List ℕ) → done ≤ length piece → place ≤ length old
    → place + done ≤ length (put_at old place (take done piece))
inside old place done piece h within =
    let long : length (take done piece) ≡ done = grind (arith, places) in
    omega (arith, long, put_length old place (take done piece) within)

-- so are the next bytes of a piece
wrote_behind : (a c : Option (List ℕ)) (place done n : ℕ) (piece : List ℕ) → done ≤ length piece → Within a place
    → (Within (wrote_at a place (take done piece)) (place + done)
    → c ≡ wrote_at (wrote_at a place (take done piece)) (place + done) (take n (drop done piece)))
    → c ≡ wrote_at a place (take (done + n) piece)
wrote_behind None c place done n piece h within next = next tt
wrote_behind (Some old) c place done n piece h within next =
    next (inside old place done piece h within) ∙ ap Some (put_more old place done n piece h within)

pub wrote_more : (a b c : Option (List ℕ)) (place done n : ℕ) (piece rest : List ℕ) → done ≤ length piece → rest ≡ drop done piece
    → (Within a place → b ≡ wrote_at a place (take done piece))
    → (Within b (place + done) → c ≡ wrote_at b (place + done) (take n rest))
    → Within a place → c ≡ wrote_at a place (take (done + n) piece)
wrote_more a b c place done n piece rest h is so_far next within =
    wrote_behind a c place done n piece h within
    (subst (λ (b : Option (List ℕ)). Within b (place + done) → c ≡ wrote_at b (place + done) (take n (drop done piece))) (so_far within)
    (subst (λ (rest : List ℕ). Within b (place + done) → c ≡ wrote_at b (place + done) (take n rest)) is next))

-- ---- writes that fail

pub tear_same : (old : Option (List ℕ)) (place n : ℕ) → MayTear old old place n
tear_same None place n = tt
tear_same (Some old) place n = (torn_same place n old, omega arith)

tear_if_nothing : (old new : Option (List ℕ)) (place n : ℕ) → new ≡ wrote_at old place [] → MayTear old new place n
tear_if_nothing old new place n e =
    subst (λ (new : Option (List ℕ)). MayTear old new place n) (wrote_nothing old place ∙ sym e) (tear_same old place n)

pub tear_nothing : (old mid new : Option (List ℕ)) (place n k : ℕ) (piece : List ℕ) → k ≡ 0 → mid ≡ old
    → (Within mid place → new ≡ wrote_at mid place (take k piece)) → Within old place → MayTear old new place n
tear_nothing old mid new place n k piece none e next within =
    tear_if_nothing old new place n
    (subst (λ (k : ℕ). new ≡ wrote_at old place (take k piece)) none
    (subst (λ (mid : Option (List ℕ)). Within mid place → new ≡ wrote_at mid place (take k piece)) e next within))

-- a front part was written, and then the rest is torn
tear_rest : (old new : List ℕ) (place done : ℕ) (piece : List ℕ) → done ≤ length piece → place ≤ length old
    → MayTear (Some (put_at old place (take done piece))) (Some new) (place + done) (length (drop done piece))
    → MayTear (Some old) (Some new) place (length piece)
tear_rest old new place done piece h within (torn, short) = (
  torn_from place (length piece) old new (omega (arith, torn.no_shorter, longer)) same,
  omega (arith, short, longer, rest),
)
  where
    mid : List ℕ
    mid = put_at old place (take done piece)

    taken : length (take done piece) ≡ done
    taken = grind (arith, places)

    rest : length (drop done piece) ≡ length piece - done
    rest = grind (arith, places)

    longer : length mid ≡ max (length old) (place + done)
    longer = ap (λ (k : ℕ). length mid) taken ∙ put_length old place (take done piece) within ∙ ap (λ (k : ℕ). max (length old) (place + k)) taken

    same : (i : ℕ) → i < length old → (i < place) ⊎ (place + length piece ≤ i) → get_or new i 0 ≡ get_or old i 0
    same i j (inl low) =
        torn_at (place + done) (length (drop done piece)) mid new torn i (omega (arith, longer)) (inl (omega arith))
        ∙ put_before old place i (take done piece) within low
    same i j (inr high) =
        torn_at (place + done) (length (drop done piece)) mid new torn i (omega (arith, longer)) (inr (omega (arith, rest)))
        ∙ put_behind old place i (take done piece) within (omega (arith, taken))

tear_behind : (a c : Option (List ℕ)) (place done : ℕ) (piece : List ℕ) → done ≤ length piece → Within a place
    → (Within (wrote_at a place (take done piece)) (place + done)
    → MayTear (wrote_at a place (take done piece)) c (place + done) (length (drop done piece)))
    → MayTear a c place (length piece)
tear_behind None None place done piece h within next = tt
tear_behind None (Some new) place done piece h within next = next tt
tear_behind (Some old) None place done piece h within next = next (inside old place done piece h within)
tear_behind (Some old) (Some new) place done piece h within next =
    tear_rest old new place done piece h within (next (inside old place done piece h within))

pub tear_more : (a b c : Option (List ℕ)) (place done : ℕ) (piece rest : List ℕ) → done ≤ length piece → rest ≡ drop done piece
    → (Within a place → b ≡ wrote_at a place (take done piece))
    → (Within b (place + done) → MayTear b c (place + done) (length rest))
    → Within a place → MayTear a c place (length piece)
tear_more a b c place done piece rest h is so_far next within =
    tear_behind a c place done piece h within
    (subst (λ (b : Option (List ℕ)). Within b (place + done) → MayTear b c (place + done) (length (drop done piece))) (so_far within)
    (subst (λ (rest : List ℕ). Within b (place + done) → MayTear b c (place + done) (length rest)) is next))
