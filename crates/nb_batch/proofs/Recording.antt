-- One record after another: its frame is sent, behind those before it.
use Rattle.std.proofs.Common.{◌≡◌, ℕ, zero, suc, ◌+◌, ◌<◌, ◌≤◌, List, [], ◌∷◌, ◌++◌, Option, None, Some, length, take, drop, refl, sym, ap, subst, ◌∙◌, arith, append_assoc, append-nil}
use Rattle.std.specs.List.{slice_get}
use Rattle.std.specs.Io.KnownBytes.{Appends}
use Rattle.std.proofs.KnownBytes.{Appends-trans, Appends-nil}
use Rattle.std.proofs.Math.Seq.{take-append-add}
use Rattle.std.proofs.lemmas.List.{drop-append-le, length-append, length-drop, length-take-le, take-append-drop, take-append-le, take_at, take_all, take_more}
use Rattle.std.proofs.lemmas.Option.{slice_get_within, get_or_from_slice_get}
use Rattle.nb_port.specs.Faults.{Rose}
use Rattle.nb_entry.specs.declared.entry.Entry.{Entry}
use Rattle.nb_book.specs.Legal.{Legal, LegalAfter}
use Rattle.nb_entry.specs.Spelling.{EntryKeepsRules}
use Rattle.nb_book.proofs.Growing.{front_legal}
use Rattle.nb_book.proofs.Roles.{legal_keeps_rules}
use Rattle.nb_batch.specs.Send.{SentPart}
use Rattle.nb_batch.specs.Shipping.{SentBut, record_frame, record_frames, shipped_from}

-- the frames of two lists, one behind the other
frames_append : (key : List ℕ) (place : ℕ) (xs ys : List Entry) → record_frames key place (xs ++ ys) ≡ record_frames key place xs ++ record_frames key (place + length xs) ys
frames_append key place [] ys = ap (λ (n : ℕ). record_frames key n ys) none
  where
    none : place ≡ place + 0
    none = omega arith
frames_append key place (x ∷ xs) ys =
    ap (λ (bytes : List ℕ). record_frame key place x ++ bytes)
    (frames_append key (place + 1) xs ys ∙ ap (λ (n : ℕ). record_frames key (place + 1) xs ++ record_frames key n ys) (one (length xs)))
    ∙ sym (append_assoc (record_frame key place x) (record_frames key (place + 1) xs) (record_frames key (place + length (x ∷ xs)) ys))
  where
    one : (n : ℕ) → place + 1 + n ≡ place + suc n
    one n = omega arith

-- the frames from a place up to another
abbrev pub frames_up_to : List ℕ → ℕ → List Entry → ℕ → List ℕ
frames_up_to key from H at = record_frames key from (drop from (take at H))

module _ (key : List ℕ) (from at : ℕ) (H : List Entry) (low : from ≤ at) (high : at ≤ length H) where
  up_to : from ≤ length (take at H)
  up_to = omega (arith, low, length-take-le at H high)

  place_is : from + length (drop from (take at H)) ≡ at
  place_is = omega (arith, low, length-drop from (take at H), length-take-le at H high)

  -- those from the place on are those up to here, and those behind
  pub frames_parted : shipped_from key from H ≡ frames_up_to key from H at ++ record_frames key at (drop at H)
  frames_parted =
      ap (λ (es : List Entry). record_frames key from (drop from es)) (sym (take-append-drop at H))
      ∙ ap (record_frames key from) (drop-append-le from (take at H) (drop at H) up_to)
      ∙ frames_append key from (drop from (take at H)) (drop at H)
      ∙ ap (λ (n : ℕ). frames_up_to key from H at ++ record_frames key n (drop at H)) place_is

  module _ (e : Entry) (there : slice_get H at ≡ Some e) where
    next : take (at + 1) H ≡ take at H ++ e ∷ []
    next = take_more H at e (slice_get_within H at e there) ∙ ap (λ (x : Entry). take at H ++ x ∷ []) (get_or_from_slice_get H at e e there)

    -- those up to the next entry are those up to here, and its own
    pub frames_next : frames_up_to key from H (at + 1) ≡ frames_up_to key from H at ++ record_frame key at e
    frames_next =
        ap (λ (es : List Entry). record_frames key from (drop from es)) next
        ∙ ap (record_frames key from) (drop-append-le from (take at H) (e ∷ []) up_to)
        ∙ frames_append key from (drop from (take at H)) (e ∷ [])
        ∙ ap (λ (n : ℕ). frames_up_to key from H at ++ (record_frame key n e ++ [])) place_is
        ∙ ap (λ (bytes : List ℕ). frames_up_to key from H at ++ bytes) (append-nil (record_frame key at e))

    -- the entry is one that can be spelled
    pub keeps_rules : Legal H → EntryKeepsRules e
    keeps_rules legal =
        legal_keeps_rules (take at H) e
        (subst (λ (x : Entry). LegalAfter (take at H) x) (get_or_from_slice_get H at e e there) (legal.each at (slice_get_within H at e there) e))

-- the first part of a Legal list is Legal
pub first_part : (H D : List Entry) → Legal (H ++ D) → Legal H
first_part H D legal = subst Legal (take_at H D (length H) refl) (front_legal (H ++ D) (length H) legal)

-- nothing is sent up to the place
pub none_sent : (key : List ℕ) (from : ℕ) (H : List Entry) (sent : Option (List ℕ)) (waits : List ℕ) → from ≤ length H → waits ≡ [] → SentBut sent sent waits (frames_up_to key from H from)
none_sent key from H sent waits within none = record { done = []; appends = Appends-nil sent; all = none ∙ sym nothing }
  where
    nothing : frames_up_to key from H from ≡ []
    nothing = ap (λ (es : List Entry). record_frames key from es) (empty (drop from (take from H)) (omega (arith, length-drop from (take from H), length-take-le from H within)))
      where
        empty : (es : List Entry) → length es ≡ 0 → es ≡ []
        empty [] e = refl
        empty (x ∷ es) e = absurd (omega (arith, e))

-- where room was made for a record it waits behind the others
pub one_more : (key : List ℕ) (from at : ℕ) (H : List Entry) (e : Entry) (a b c : Option (List ℕ)) (waited left waits : List ℕ) → from ≤ at → at < length H → slice_get H at ≡ Some e
    → SentBut a b waited (frames_up_to key from H at) → SentBut b c left waited → waits ≡ left ++ record_frame key at e → SentBut a c waits (frames_up_to key from H (at + 1))
one_more key from at H e a b c waited left waits low within there first second put = record {
  done = first.done ++ second.done;
  appends = Appends-trans a b c first.done second.done first.appends second.appends;
  all = ap (λ (bytes : List ℕ). (first.done ++ second.done) ++ bytes) put
      ∙ append_assoc first.done second.done (left ++ record_frame key at e)
      ∙ ap (λ (bytes : List ℕ). first.done ++ bytes) (sym (append_assoc second.done left (record_frame key at e)) ∙ ap (λ (bytes : List ℕ). bytes ++ record_frame key at e) second.all)
      ∙ sym (append_assoc first.done waited (record_frame key at e))
      ∙ ap (λ (bytes : List ℕ). bytes ++ record_frame key at e) first.all
      ∙ sym (frames_next key from at H low (omega (arith, within)) e there);
}

-- or a part of what waited was sent, and that is a part of all
pub part_sent : (key : List ℕ) (from at : ℕ) (H : List Entry) (a b c : Option (List ℕ)) (waits : List ℕ) → from ≤ at → at ≤ length H
    → SentBut a b waits (frames_up_to key from H at) → SentPart b c waits → SentPart a c (shipped_from key from H)
part_sent key from at H a b c waits low high first part =
    let front = first.done in
    let behind = record_frames key at (drop at H) in
    let whole : shipped_from key from H ≡ front ++ (waits ++ behind) =
    frames_parted key from at H low high ∙ ap (λ (bytes : List ℕ). bytes ++ behind) (sym first.all) ∙ append_assoc front waits behind
    in
    let cut : take (length front + part.count) (shipped_from key from H) ≡ front ++ take part.count waits =
    ap (take (length front + part.count)) whole ∙ take-append-add front (waits ++ behind) part.count
    ∙ ap (λ (bytes : List ℕ). front ++ bytes) (take-append-le part.count waits behind (omega (arith, part.less)))
    in
    record {
      count = length front + part.count;
      less = omega (arith, part.less, ap length whole, length-append front (waits ++ behind), length-append waits behind);
      appends = subst (λ (bytes : List ℕ). Appends a c bytes) (sym cut) (Appends-trans a b c front (take part.count waits) first.appends part.appends);
    }

-- all are sent behind the last entry
pub all_sent : (key : List ℕ) (from at : ℕ) (H : List Entry) (a b c : Option (List ℕ)) (waits : List ℕ) → at ≡ length H
    → SentBut a b waits (frames_up_to key from H at) → Appends b c waits → Appends a c (shipped_from key from H)
all_sent key from at H a b c waits is first last =
    subst (λ (bytes : List ℕ). Appends a c bytes) (first.all ∙ ap (λ (es : List Entry). record_frames key from (drop from es)) (take_all at H (omega (arith, is))))
    (Appends-trans a b c first.done waits first.appends last)

-- what is put behind the bytes that wait is the record's frame
pub put_is : (key house : List ℕ) (place at : ℕ) (e : Entry) (left waits : List ℕ) → waits ≡ left ++ record_frame house place e → house ≡ key → place ≡ at
    → waits ≡ left ++ record_frame key at e
put_is key house place at e left waits put key_is place_is =
    put ∙ ap (λ (k : List ℕ). left ++ record_frame k place e) key_is ∙ ap (λ (n : ℕ). left ++ record_frame key n e) place_is

pub rose_behind : (a b c : ℕ) → a ≤ b → Rose b c → Rose a c
rose_behind a b c first rose = omega (arith, first, rose)

-- an entry stands at each place
pub stands_there : (H : List Entry) (i : ℕ) → i < length H → slice_get H i ≡ None → ⊥
stands_there [] i within none = absurd (omega (arith, within))
stands_there (x ∷ H) zero within none = absurd cc
stands_there (x ∷ H) (suc i) within none = stands_there H i (omega (arith, within)) none
