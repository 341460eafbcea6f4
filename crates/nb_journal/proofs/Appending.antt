-- The two steps of an append: the body is put behind the closed gate, and then the gate is opened.
use Rattle.std.proofs.Common.{◌≡◌, refl, inl, ℕ, ◌+◌, ◌<◌, ◌≤◌, false, true, List, [], ◌∷◌, ◌++◌, length, replicate, Option, Some, None, IfSome, arith, sym, ap, subst, ◌∙◌, length-append}
use Rattle.std.proofs.lemmas.List.{length-replicate, length-take}
use Rattle.nb_units.specs.Fields.{sized}
use Rattle.nb_port.specs.Tells.{DiskTells}
use Rattle.nb_port.specs.Disk.{Torn, MayTear, Only, Follows, put_at, wrote_at}
use Rattle.nb_journal.specs.Layout.{open_gate, item_bytes, body_bytes, up_to_gate}
use Rattle.nb_journal.specs.Stands.{Stands, BeforeOrAfter}
use Rattle.nb_journal.specs.States.{AtRest, InDoubt, HasGate}
use Rattle.nb_journal.specs.Time.{Since, TornOf, LeavesOnly}
use Rattle.nb_journal.specs.declared.journal.Journal.{Journal}
use Rattle.nb_journal.proofs.Bytes.{both_put}
use Rattle.nb_journal.proofs.Images.{stands_torn, Staged, stands_put, staged_open, staged_torn}
use Rattle.nb_journal.proofs.Layouts.{item_length, up_to_next}
use Rattle.nb_journal.proofs.Moments.{started, goes_on}
use Rattle.nb_journal.proofs.Tearing.{wrote_tears, tears_wider, tears_twice}
use Rattle.nb_journal.proofs.Telling.{some_of, some_each, some_wrote, some_torn}

-- the gate behind one item more
pub next_gate : (front : List ℕ) (items : List (List ℕ)) (item : List ℕ) (gate : ℕ) → gate ≡ length (up_to_gate front items)
    → gate + (length item + 5) ≡ length (up_to_gate front (items ++ item ∷ []))
next_gate front items item gate place =
    omega (arith, ap length (up_to_next front items item), length-append (up_to_gate front items) (item_bytes item), item_length item)

-- ---- images

-- a torn write behind the gate
pub behind_gate : (front : List ℕ) (items : List (List ℕ)) (gate n : ℕ) (d c : List ℕ) → gate ≡ length (up_to_gate front items) → Stands front items d → Torn (gate + 1) n d c → Stands front items c
behind_gate front items gate n d c place stands torn = stands_torn front items d c n stands (subst (λ (g : ℕ). Torn (g + 1) n d c) place torn)

-- the body put behind the gate, with more behind it
pub body_put : (front : List ℕ) (items : List (List ℕ)) (item more : List ℕ) (gate : ℕ) (d : List ℕ) → gate ≡ length (up_to_gate front items) → Stands front items d → Staged front items item (put_at d (gate + 1) (body_bytes item ++ more))
body_put front items item more gate d place stands =
    subst (λ (g : ℕ). Staged front items item (put_at d (g + 1) (body_bytes item ++ more))) (sym place) (stands_put front items item more d stands)

-- the gate torn, with the body behind it
pub at_gate : (front : List ℕ) (items : List (List ℕ)) (item : List ℕ) (gate : ℕ) (d c : List ℕ) → gate ≡ length (up_to_gate front items) → Staged front items item d → Torn gate 1 d c → BeforeOrAfter front items item c
at_gate front items item gate d c place staged torn = staged_torn front items item d c staged (subst (λ (g : ℕ). Torn g 1 d c) place torn)

-- the gate opened, with the body behind it
pub gate_opened : (front : List ℕ) (items : List (List ℕ)) (item : List ℕ) (gate : ℕ) (d : List ℕ) → gate ≡ length (up_to_gate front items) → Staged front items item d → Stands front (items ++ item ∷ []) (put_at d gate (open_gate ∷ []))
gate_opened front items item gate d place staged =
    subst (λ (g : ℕ). Stands front (items ++ item ∷ []) (put_at d g (open_gate ∷ []))) (sym place) (staged_open front items item d staged)

-- a gate that is within the content is so behind a write
longer : (d : List ℕ) (gate : ℕ) (bytes : List ℕ) → gate < length d → gate ≤ length (put_at d (gate + 1) bytes)
unfolding put_at
longer d gate bytes inside = simp (length-append, length-take) (omega arith)

-- the place of the gate is within the content behind a write of the body
pub gate_within : (old new : Option (List ℕ)) (gate : ℕ) (bytes : List ℕ) → new ≡ wrote_at old (gate + 1) bytes → IfSome old (λ d. gate < length d) → IfSome new (λ d. gate ≤ length d)
gate_within old new gate bytes wrote within = some_wrote old new (gate + 1) bytes (λ d. gate < length d) (λ d. gate ≤ length d) wrote (λ d inside. longer d gate bytes inside) within

-- the body put behind the gate and then the gate: one write of both, where the disk tells
pub both_wrote : (old mid new : Option (List ℕ)) (gate byte : ℕ) (bytes : List ℕ) → mid ≡ wrote_at old (gate + 1) bytes → new ≡ wrote_at mid gate (byte ∷ []) → IfSome old (λ d. gate < length d)
    → new ≡ wrote_at old gate (byte ∷ bytes)
both_wrote old mid new gate byte bytes first second inside = second ∙ ap (λ (told : Option (List ℕ)). wrote_at told gate (byte ∷ [])) first ∙ both old inside
  where
    both : (told : Option (List ℕ)) → IfSome told (λ d. gate < length d) → wrote_at (wrote_at told (gate + 1) bytes) gate (byte ∷ []) ≡ wrote_at told gate (byte ∷ bytes)
    both None inside = refl
    both (Some d) inside = ap Some (both_put d gate byte bytes inside)

-- ---- what a write that failed leaves

-- the body takes five bytes more than the item, and the zeros behind it
body_length : (item : List ℕ) (zeros : ℕ) → length (body_bytes item ++ replicate zeros 0) ≡ length item + 5 + zeros
unfolding body_bytes
body_length item zeros =
    omega (arith, length-append (sized item ++ 0 ∷ []) (replicate zeros 0), length-append (sized item) (0 ∷ []), length-replicate {A = ℕ} zeros 0)

-- the body failed
pub body_tears : (old new : Option (List ℕ)) (gate : ℕ) (item : List ℕ) (zeros : ℕ) → MayTear old new (gate + 1) (length (body_bytes item ++ replicate zeros 0)) → MayTear old new gate (length item + 6 + zeros)
body_tears old new gate item zeros torn =
    tears_wider (gate + 1) (length (body_bytes item ++ replicate zeros 0)) gate (length item + 6 + zeros) old new (omega arith) (omega (arith, body_length item zeros)) torn

-- the body was put, and the gate failed
pub gate_tears : (old mid new : Option (List ℕ)) (gate : ℕ) (item : List ℕ) (zeros : ℕ) → mid ≡ wrote_at old (gate + 1) (body_bytes item ++ replicate zeros 0) → IfSome old (λ d. gate < length d)
    → MayTear mid new gate 1 → MayTear old new gate (length item + 6 + zeros)
gate_tears old mid new gate item zeros wrote inside torn =
    let piece = body_bytes item ++ replicate zeros 0 in
    let body : MayTear old mid (gate + 1) (length piece) =
    wrote_tears old mid mid (gate + 1) piece wrote refl (some_each old (λ d. gate < length d) (λ d. gate + 1 ≤ length d) (λ d within. omega arith) inside) in
    tears_twice (gate + 1) (length piece) gate 1 gate (length item + 6 + zeros) old mid new (omega arith) (omega (arith, body_length item zeros)) (omega arith) (omega arith) body torn

-- ---- journals

-- at rest the gate is there
pub rest_gate : {D : Type 0} (tells : DiskTells D) (front : List ℕ) (items : List (List ℕ)) (j : Journal D) → AtRest tells front items j → HasGate tells j
rest_gate tells front items j rest = told (tells.content j.disk) rest.bytes
  where
    told : (o : Option (List ℕ)) → IfSome o (Stands front items) → IfSome o (λ bytes. j.gate < length bytes)
    told None stands = tt
    told (Some bytes) stands = omega (arith, rest.place, ap length stands.bytes, length-append (up_to_gate front items) (stands.gate ∷ stands.rest))

-- each image that a stop leaves at rest
pub stands_now : {D : Type 0} (tells : DiskTells D) (front : List ℕ) (items : List (List ℕ)) (j : Journal D) → AtRest tells front items j → (c : List ℕ) → tells.allowed j.disk c → Stands front items c
stands_now tells front items j rest c is = some_of (tells.content j.disk) (Stands front items) c (rest.only c is) rest.bytes

module _ {D : Type 0} (tells : DiskTells D) (front : List ℕ) (items : List (List ℕ)) (item : List ℕ) where
  -- the body was put and synced, with more behind it
  pub record HasBody (old : Journal D) (mid : D) : Type 0 where
    pub more : List ℕ
    pub wrote : tells.content mid ≡ wrote_at (tells.content old.disk) (old.gate + 1) (body_bytes item ++ more)
    pub only : Only (tells.content mid) (tells.allowed mid)

  -- the content then
  staged_content : (old : Journal D) (mid : D) → AtRest tells front items old → HasBody old mid → IfSome (tells.content mid) (Staged front items item)
  staged_content old mid rest body =
      some_wrote (tells.content old.disk) (tells.content mid) (old.gate + 1) (body_bytes item ++ body.more) (Stands front items) (Staged front items item) body.wrote (λ d stands. body_put front items item body.more old.gate d rest.place stands) rest.bytes

  -- each image then
  staged_now : (old : Journal D) (mid : D) → AtRest tells front items old → HasBody old mid → (c : List ℕ) → tells.allowed mid c → Staged front items item c
  staged_now old mid rest body c is = some_of (tells.content mid) (Staged front items item) c (body.only c is) (staged_content old mid rest body)

  -- what a torn body leaves
  first_leaves : (old : Journal D) (n : ℕ) → AtRest tells front items old → (c : List ℕ) → TornOf (tells.allowed old.disk) (old.gate + 1) n c → BeforeOrAfter front items item c
  first_leaves old n rest c of = inl (behind_gate front items old.gate n of.0 c rest.place (stands_now tells front items old rest of.0 of.1) of.2)

  -- what a torn gate leaves
  second_leaves : (old : Journal D) (mid : D) → AtRest tells front items old → HasBody old mid → (c : List ℕ) → TornOf (tells.allowed mid) old.gate 1 c → BeforeOrAfter front items item c
  second_leaves old mid rest body c of = at_gate front items item old.gate of.0 c rest.place (staged_now old mid rest body of.0 of.1) of.2

  -- the body failed
  pub doubt_first : (old new : Journal D) (n : ℕ) → AtRest tells front items old → MayTear (tells.content old.disk) (tells.content new.disk) (old.gate + 1) n
      → Follows (Torn (old.gate + 1) n) (tells.allowed old.disk) (tells.allowed new.disk) → new.stale ≡ true → new.gate ≡ old.gate → new.next ≡ old.gate + (length item + 5) → new.len ≡ old.len → InDoubt tells front items item new
  doubt_first old new n rest torn follows stale gate next count = record {
    stale = stale;
    place = gate ∙ rest.place;
    next = next ∙ next_gate front items item old.gate rest.place;
    count = count ∙ rest.count;
    bytes = some_torn (tells.content old.disk) (tells.content new.disk) (old.gate + 1) n (Stands front items) (BeforeOrAfter front items item) torn (λ d c stands tears. inl (behind_gate front items old.gate n d c rest.place stands tears)) rest.bytes;
    images = λ c is. first_leaves old n rest c (follows c is);
  }

  -- the gate failed
  pub doubt_second : (old new : Journal D) (mid : D) → AtRest tells front items old → HasBody old mid → MayTear (tells.content mid) (tells.content new.disk) old.gate 1
      → Follows (Torn old.gate 1) (tells.allowed mid) (tells.allowed new.disk) → new.stale ≡ true → new.gate ≡ old.gate → new.next ≡ old.gate + (length item + 5) → new.len ≡ old.len → InDoubt tells front items item new
  doubt_second old new mid rest body torn follows stale gate next count = record {
    stale = stale;
    place = gate ∙ rest.place;
    next = next ∙ next_gate front items item old.gate rest.place;
    count = count ∙ rest.count;
    bytes = some_torn (tells.content mid) (tells.content new.disk) old.gate 1 (Staged front items item) (BeforeOrAfter front items item) torn (λ d c staged tears. at_gate front items item old.gate d c rest.place staged tears) (staged_content old mid rest body);
    images = λ c is. second_leaves old mid rest body c (follows c is);
  }

  -- the gate was opened and synced
  pub added : (old new : Journal D) (mid : D) → AtRest tells front items old → HasBody old mid → tells.content new.disk ≡ wrote_at (tells.content mid) old.gate (open_gate ∷ [])
      → Only (tells.content new.disk) (tells.allowed new.disk) → new.stale ≡ false → new.gate ≡ old.gate + (length item + 5) → new.len ≡ old.len + 1 → AtRest tells front (items ++ item ∷ []) new
  added old new mid rest body wrote only fresh gate count = record {
    fresh = fresh;
    place = gate ∙ next_gate front items item old.gate rest.place;
    count = omega (arith, count, rest.count, length-append items (item ∷ []));
    bytes = some_wrote (tells.content mid) (tells.content new.disk) old.gate (open_gate ∷ []) (Staged front items item) (Stands front (items ++ item ∷ [])) wrote (λ d staged. gate_opened front items item old.gate d rest.place staged) (staged_content old mid rest body);
    only = only;
  }

  -- a stop within the first step or behind it
  pub run_first : (old : Journal D) (mid : D) (n : ℕ) → AtRest tells front items old → ((c : List ℕ) → tells.left old.disk (tells.moment old.disk) c → tells.allowed old.disk c)
      → Since (TornOf (tells.allowed old.disk) (old.gate + 1) n) (tells.moment old.disk) (tells.moment mid) (tells.left old.disk) (tells.left mid) → LeavesOnly tells old.disk mid (BeforeOrAfter front items item)
  run_first old mid n rest only_now time =
      let before = started tells old.disk (BeforeOrAfter front items item) (λ c is. inl (stands_now tells front items old rest c (only_now c is))) in
      goes_on tells old.disk old.disk mid (BeforeOrAfter front items item) (TornOf (tells.allowed old.disk) (old.gate + 1) n) before time (λ c of. first_leaves old n rest c of)

  -- a stop within the second step or behind it
  pub run_second : (old : Journal D) (mid new : D) (n : ℕ) → AtRest tells front items old → ((c : List ℕ) → tells.left old.disk (tells.moment old.disk) c → tells.allowed old.disk c)
      → Since (TornOf (tells.allowed old.disk) (old.gate + 1) n) (tells.moment old.disk) (tells.moment mid) (tells.left old.disk) (tells.left mid) → HasBody old mid
      → Since (TornOf (tells.allowed mid) old.gate 1) (tells.moment mid) (tells.moment new) (tells.left mid) (tells.left new) → LeavesOnly tells old.disk new (BeforeOrAfter front items item)
  run_second old mid new n rest only_now first body second =
      goes_on tells old.disk mid new (BeforeOrAfter front items item) (TornOf (tells.allowed mid) old.gate 1) (run_first old mid n rest only_now first) second (λ c of. second_leaves old mid rest body c of)
