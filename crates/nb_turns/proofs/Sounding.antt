-- Lines that adopt are sound behind each turn.
use Rattle.std.proofs.Common.{◌≡◌, ◌⊎◌, inl, inr, ℕ, Bool, true, false, List, [], ◌∷◌, ◌++◌, refl, sym, ap, subst, ◌∙◌, append_assoc}
use Rattle.std.specs.Prelude.{reverse}
use Rattle.std.specs.List.{filter_map, AllByRecursion}
use Rattle.std.proofs.lemmas.List.{reverse-append, reverse-reverse, append-nil}
use Rattle.nb_entry.specs.declared.entry.Entry.{Entry}
use Rattle.nb_turns.specs.declared.line.Line.{Line}
use Rattle.nb_turns.specs.declared.line.Line.TheVariants.{Commit, Adopted, Doubt, Fault}
use Rattle.nb_turns.specs.Turns.{Decides, Fails, Refuses, recorded}
use Rattle.nb_turns.specs.Lines.{adopted, is_adopted, open_doubt, FirstFails, IsRun, Sound, adopts, commits, doubts, DoubtedLines, UnsettledLines}
use Rattle.nb_turns.specs.Laws.{LinesStaySound}
use Rattle.nb_turns.proofs.Lists.{all_append, all_map, all_parts}
use Rattle.nb_turns.proofs.Lining.{all_reverse, nothing_open}

-- ---- one list split twice

-- the one split is behind the other, or before it
record PartedBehind {A : Type 0} (xs ys us vs : List A) : Type 0 where
  mid : List A
  front : us ≡ xs ++ mid
  back : ys ≡ mid ++ vs

parted : {A : Type 0} (xs ys us vs : List A) → xs ++ ys ≡ us ++ vs → PartedBehind xs ys us vs ⊎ PartedBehind us vs xs ys
parted [] ys us vs same = inl (record { mid = us; front = refl; back = same })
parted (x ∷ xs) ys [] vs same = inr (record { mid = x ∷ xs; front = refl; back = sym same })
parted (x ∷ xs) ys (u ∷ us) vs same = more (parted xs ys us vs rest)
  where
    rest : xs ++ ys ≡ us ++ vs
    rest = cc

    head : x ≡ u
    head = cc

    more : PartedBehind xs ys us vs ⊎ PartedBehind us vs xs ys → PartedBehind (x ∷ xs) ys (u ∷ us) vs ⊎ PartedBehind (u ∷ us) vs (x ∷ xs) ys
    more (inl p) = inl (record { mid = p.mid; front = ap (λ y. y ∷ us) (sym head) ∙ ap (λ ys. x ∷ ys) p.front; back = p.back })
    more (inr p) = inr (record { mid = p.mid; front = ap (λ y. y ∷ xs) head ∙ ap (λ ys. u ∷ ys) p.front; back = p.back })

-- ---- neighbours that adopt

no_both : (b : Bool) → b ≡ false → b ≡ true → ⊥
no_both true e f = cc
no_both false e f = cc

abbrev AllAdopt : List Line → Type 0
AllAdopt lines = AllByRecursion (λ (line : Line). is_adopted line ≡ true) lines

-- lines that adopt and of which none stands first are none
none_first : (lines : List Line) → AllAdopt lines → FirstFails is_adopted lines → lines ≡ []
none_first [] all first = refl
none_first (l ∷ ls) all first = absurd (no_both (is_adopted l) first all.0)

-- nor are there any where none stands last
none_last : (front lines : List Line) → AllAdopt lines → FirstFails is_adopted (reverse (front ++ lines)) → lines ≡ []
none_last front lines all last =
    let turned : reverse lines ≡ [] = at_front (reverse lines) (all_reverse (λ (line : Line). is_adopted line ≡ true) lines all) (subst (FirstFails is_adopted) (reverse-append front lines) last) in
    sym (reverse-reverse lines) ∙ ap reverse turned
  where
    at_front : (ls : List Line) → AllAdopt ls → FirstFails is_adopted (ls ++ reverse front) → ls ≡ []
    at_front [] all first = refl
    at_front (l ∷ ls) all first = absurd (no_both (is_adopted l) first all.0)

front_fails : (front back : List Line) → FirstFails is_adopted (front ++ back) → FirstFails is_adopted front
front_fails [] back fails = tt
front_fails (l ∷ ls) back fails = fails

adopted_again : (by turn : ℕ) (es : List Entry) → filter_map adopted (adopts by turn es) ≡ es
adopted_again by turn [] = refl
adopted_again by turn (e ∷ es) = ap (λ (xs : List Entry). e ∷ xs) (adopted_again by turn es)

adopt_all : (by turn : ℕ) (es : List Entry) → AllAdopt (adopts by turn es)
adopt_all by turn es = all_map (λ (line : Line). is_adopted line ≡ true) (λ (e : Entry). Adopted by turn e) es (λ (e : Entry). refl)

-- ---- what was in doubt is adopted

module _ (lines : List Line) (by turn : ℕ) (es : List Entry) (sound : Sound lines) (fresh : FirstFails is_adopted (reverse lines)) (told : open_doubt lines ≡ es) where
  at_end : (before run behind : List Line) → before ≡ lines → adopts by turn es ≡ run ++ behind → IsRun is_adopted before run behind → filter_map adopted run ≡ open_doubt before
  at_end before run behind front back is =
      let all : AllAdopt run × AllAdopt behind = all_parts (λ (line : Line). is_adopted line ≡ true) run behind (subst AllAdopt back (adopt_all by turn es)) in
      let none : behind ≡ [] = none_first behind all.1 is.last in
      let whole : run ≡ adopts by turn es = sym (append-nil run) ∙ ap (λ (ls : List Line). run ++ ls) (sym none) ∙ sym back in
      ap (filter_map adopted) whole ∙ adopted_again by turn es ∙ sym told ∙ ap open_doubt (sym front)

  before_end : (before run behind mid : List Line) → lines ≡ before ++ mid → run ++ behind ≡ mid ++ adopts by turn es → IsRun is_adopted before run behind
      → PartedBehind run behind mid (adopts by turn es) ⊎ PartedBehind mid (adopts by turn es) run behind → filter_map adopted run ≡ open_doubt before
  before_end before run behind mid front same is (inl p) =
      sound before run p.mid (front ∙ ap (λ (ls : List Line). before ++ ls) p.front)
      (record { some = is.some; all = is.all; first = is.first; last = front_fails p.mid (adopts by turn es) (subst (FirstFails is_adopted) p.back is.last) })
  before_end before run behind mid front same is (inr p) =
      let all : AllAdopt mid × AllAdopt p.mid = all_parts (λ (line : Line). is_adopted line ≡ true) mid p.mid (subst AllAdopt p.front is.all) in
      let none : mid ≡ [] = none_last before mid all.0 (subst (λ (ls : List Line). FirstFails is_adopted (reverse ls)) front fresh) in
      at_end before run behind (sym (front ∙ ap (λ (ls : List Line). before ++ ls) none ∙ append-nil before)) (sym (same ∙ ap (λ (ls : List Line). ls ++ adopts by turn es) none)) is

  sound_adopts : Sound (lines ++ adopts by turn es)
  sound_adopts before run behind split is = by_parts (parted lines (adopts by turn es) before (run ++ behind) split)
    where
      by_parts : PartedBehind lines (adopts by turn es) before (run ++ behind) ⊎ PartedBehind before (run ++ behind) lines (adopts by turn es) → filter_map adopted run ≡ open_doubt before
      by_parts (inl p) =
          let all : AllAdopt p.mid × AllAdopt (run ++ behind) = all_parts (λ (line : Line). is_adopted line ≡ true) p.mid (run ++ behind) (subst AllAdopt p.back (adopt_all by turn es)) in
          let none : p.mid ≡ [] = none_last lines p.mid all.0 (subst (λ (ls : List Line). FirstFails is_adopted (reverse ls)) p.front is.first) in
          at_end before run behind (p.front ∙ ap (λ (ls : List Line). lines ++ ls) none ∙ append-nil lines) (p.back ∙ ap (λ (ls : List Line). ls ++ (run ++ behind)) none) is
      by_parts (inr p) = before_end before run behind p.mid p.front p.back is (parted run behind p.mid (adopts by turn es) p.back)

-- ---- lines that do not adopt

abbrev NoneAdopts : List Line → Type 0
NoneAdopts lines = AllByRecursion (λ (line : Line). is_adopted line ≡ false) lines

none_of_both : (lines : List Line) → AllAdopt lines → NoneAdopts lines → lines ≡ []
none_of_both [] all none = refl
none_of_both (l ∷ ls) all none = absurd (no_both (is_adopted l) none.0 all.0)

module _ (lines more : List Line) (sound : Sound lines) (none : NoneAdopts more) where
  within_lines : (before run behind mid : List Line) → lines ≡ before ++ mid → IsRun is_adopted before run behind
      → PartedBehind run behind mid more ⊎ PartedBehind mid more run behind → filter_map adopted run ≡ open_doubt before
  within_lines before run behind mid front is (inl p) =
      sound before run p.mid (front ∙ ap (λ (ls : List Line). before ++ ls) p.front)
      (record { some = is.some; all = is.all; first = is.first; last = front_fails p.mid more (subst (FirstFails is_adopted) p.back is.last) })
  within_lines before run behind mid front is (inr p) =
      let all : AllAdopt mid × AllAdopt p.mid = all_parts (λ (line : Line). is_adopted line ≡ true) mid p.mid (subst AllAdopt p.front is.all) in
      let others : NoneAdopts p.mid × NoneAdopts behind = all_parts (λ (line : Line). is_adopted line ≡ false) p.mid behind (subst NoneAdopts p.back none) in
      let empty : p.mid ≡ [] = none_of_both p.mid all.1 others.0 in
      let same : mid ≡ run ++ [] = sym (append-nil mid) ∙ ap (λ (ls : List Line). mid ++ ls) (sym empty) ∙ sym p.front ∙ sym (append-nil run) in
      sound before run [] (front ∙ ap (λ (ls : List Line). before ++ ls) same) (record { some = is.some; all = is.all; first = is.first; last = tt })

  sound_behind : Sound (lines ++ more)
  sound_behind before run behind split is = by_parts (parted lines more before (run ++ behind) split)
    where
      by_parts : PartedBehind lines more before (run ++ behind) ⊎ PartedBehind before (run ++ behind) lines more → filter_map adopted run ≡ open_doubt before
      by_parts (inl p) =
          let others : NoneAdopts p.mid × NoneAdopts (run ++ behind) = all_parts (λ (line : Line). is_adopted line ≡ false) p.mid (run ++ behind) (subst NoneAdopts p.back none) in
          let apart : NoneAdopts run × NoneAdopts behind = all_parts (λ (line : Line). is_adopted line ≡ false) run behind others.1 in
          absurd (is.some (none_of_both run is.all apart.0))
      by_parts (inr p) = within_lines before run behind p.mid p.front is (parted run behind p.mid more p.back)

-- ---- a turn

some_entry : (e : Entry) (es : List Entry) → e ∷ es ≡ [] → ⊥
some_entry e es none = cc

sound_kept : (lines : List Line) (by turn : ℕ) (kept : List Entry) → Sound lines → (kept ≡ []) ⊎ (kept ≡ open_doubt lines) → Sound (lines ++ adopts by turn kept)
sound_kept lines by turn [] sound of = subst Sound (sym (append-nil lines)) sound
sound_kept lines by turn (e ∷ es) sound (inl none) = absurd (some_entry e es none)
sound_kept lines by turn (e ∷ es) sound (inr all) =
    sound_adopts lines by turn (e ∷ es) sound (nothing_open lines (λ (none : open_doubt lines ≡ []). some_entry e es (all ∙ none))) (sym all)

recorded_behind : (lines : List Line) (by turn : ℕ) (kept more : List Entry) → Sound (lines ++ adopts by turn kept) → Sound (lines ++ (adopts by turn kept ++ commits by turn more))
recorded_behind lines by turn kept more sound =
    subst Sound (append_assoc lines (adopts by turn kept) (commits by turn more))
    (sound_behind (lines ++ adopts by turn kept) (commits by turn more) sound
    (all_map (λ (line : Line). is_adopted line ≡ false) (λ (e : Entry). Commit by turn e) more (λ (e : Entry). refl)))

doubted_behind : (lines : List Line) (by turn from to : ℕ) (kept more : List Entry) → Sound (lines ++ adopts by turn kept) → Sound (lines ++ (adopts by turn kept ++ (doubts by turn more ++ Fault by turn from to ∷ [])))
doubted_behind lines by turn from to kept more sound =
    subst Sound (append_assoc lines (adopts by turn kept) (doubts by turn more ++ Fault by turn from to ∷ []))
    (sound_behind (lines ++ adopts by turn kept) (doubts by turn more ++ Fault by turn from to ∷ []) sound
    (all_append (λ (line : Line). is_adopted line ≡ false) (doubts by turn more) (Fault by turn from to ∷ [])
    (all_map (λ (line : Line). is_adopted line ≡ false) (λ (e : Entry). Doubt by turn e) more (λ (e : Entry). refl)) (refl, tt)))

pub lines_stay_sound : LinesStaySound
lines_stay_sound house opening by turn before requests (Decides over) added sound d =
    subst (λ (ls : List Line). Sound (before ++ ls)) (sym d.lines)
    (recorded_behind before by turn d.kept (recorded house over requests) (sound_kept before by turn d.kept sound d.settled.of_doubt))
lines_stay_sound house opening by turn before requests (Fails from to) added sound f = failed f.1
  where
    failed : UnsettledLines by turn before from to added ⊎ DoubtedLines house opening by turn before requests from to added → Sound (before ++ added)
    failed (inl u) = subst (λ (ls : List Line). Sound (before ++ ls)) (sym u.lines) (sound_behind before (Fault by turn from to ∷ []) sound (refl, tt))
    failed (inr d) =
        subst (λ (ls : List Line). Sound (before ++ ls)) (sym d.lines)
        (doubted_behind before by turn from to d.kept (recorded house d.over requests) (sound_kept before by turn d.kept sound d.settled.of_doubt))
lines_stay_sound house opening by turn before requests Refuses added sound r =
    subst (λ (ls : List Line). Sound (before ++ ls)) (sym r.1) (subst Sound (sym (append-nil before)) sound)
