-- What more steps make of the images and of the content.
use Rattle.std.proofs.Common.{◌≡◌, ◌⊎◌, inl, inr, ℕ, ◌+◌, ◌<◌, ◌≤◌, List, [], ◌∷◌, ◌++◌, length, take, refl, sym, ap, subst, ◌∙◌, arith, length-append}
use Rattle.std.specs.Prelude.{if◌then◌else◌, ◌↔◌, Bool, true, false, is_ok, OnOk, IfOk, Result, Ok, Err}
use Rattle.std.proofs.Math.Nat.{le_refl}
use Rattle.std.proofs.lemmas.Bool.{cases_lt}
use Rattle.std.proofs.lemmas.List.{take-append-le, take_all}
use Rattle.std.proofs.Math.Seq.{take-append-add}
use Rattle.nb_port.specs.Disk.{put_at}
use Rattle.nb_port.specs.Images.{Told, fresh, step, after, Allowed, Images, LeftFrom, Passes, Quiet, Syncs, Writes, Lands, Settles, image_from, image_at, filled}
use Rattle.nb_port.specs.declared.memory.step.DiskStep.{DiskStep}
use Rattle.nb_port.specs.declared.memory.step.DiskStep.TheVariants.{Pause, Wrote, Tore, Synced}
use Rattle.nb_port.specs.Laws.{NoneTore}
use Rattle.nb_port.specs.declared.memory.fill.Fill.{Fill}
use Rattle.nb_port.specs.declared.memory.fill.Fill.TheVariants.{Old, New}
use Rattle.nb_port.specs.DiskLaws.{torn_same, content_left}
use Rattle.nb_port.proofs.Tears.{torn_filled}

pub after-append : (s : Told) (xs ys : List DiskStep) → after s (xs ++ ys) ≡ after (after s xs) ys
after-append s [] ys = refl
after-append s (x ∷ xs) ys = after-append (step s x) xs ys

-- one step more, either way
pub behind : (start : List ℕ) (old more : List DiskStep) (c : List ℕ) → Allowed (after (after (fresh start) old) more) c
    → Images start (old ++ more) c
behind start old more c is = subst (λ (s : Told). Allowed s c) (sym (after-append (fresh start) old more)) is

pub ahead : (start : List ℕ) (old more : List DiskStep) (c : List ℕ) → Images start (old ++ more) c
    → Allowed (after (after (fresh start) old) more) c
ahead start old more c is = subst (λ (s : Told). Allowed s c) (after-append (fresh start) old more) is

-- ---- time

-- Two steps more, where a stop between them leaves what it left before them or leaves after them
elapses : (old : List DiskStep) (first second : DiskStep)
    → ((start c : List ℕ) → Images start (old ++ first ∷ []) c → Images start old c ⊎ Images start (old ++ first ∷ second ∷ []) c)
    → Passes old (old ++ first ∷ second ∷ [])
elapses old first second between start = record {
  later = omega (arith, length-append old (first ∷ second ∷ []));
  nothing_else = λ t c h since. at t c h since.0 since.1 since.2 since.3 (cases_lt (length old) since.0);
  keeps = λ t c h past. (
    past.0,
    past.1,
    omega (arith, past.2, length-append old (first ∷ second ∷ [])),
    rw (take-append-le past.0 old (first ∷ second ∷ []) past.2) past.3,
  );
}
  where
    new : List DiskStep
    new = old ++ first ∷ second ∷ []

    last : (t : ℕ) (c : List ℕ) → t ≤ length old → (m : ℕ) → m ≤ length new → Images start (take m new) c
        → (length old + 1 < m) ⊎ (m ≤ length old + 1) → length old < m
        → LeftFrom start old t c ⊎ Images start new c
    last t c h m within is (inl beyond) p = inr (rw (take_all m new (omega (arith, beyond, length-append old (first ∷ second ∷ [])))) at is)
    last t c h m within is (inr up_to) p = case (between start c (rw (same, take-append-add old (first ∷ second ∷ []) 1) at is))
      where
        same : m ≡ length old + 1
        same = omega arith

        case : Images start old c ⊎ Images start new c → LeftFrom start old t c ⊎ Images start new c
        case (inl before) = inl (length old, h, le_refl (length old), rw (take_all (length old) old (le_refl (length old))) before)
        case (inr now) = inr now

    at : (t : ℕ) (c : List ℕ) → t ≤ length old → (m : ℕ) → t ≤ m → m ≤ length new → Images start (take m new) c
        → (length old < m) ⊎ (m ≤ length old)
        → LeftFrom start old t c ⊎ Images start new c
    at t c h m from within is (inl past) = last t c h m within is (cases_lt (length old + 1) m) past
    at t c h m from within is (inr up_to) = inl (m, from, up_to, rw (take-append-le m old (first ∷ second ∷ []) up_to) at is)

-- no step more
pub stands : (steps : List DiskStep) → Passes steps steps
stands steps start = record {
  later = le_refl (length steps);
  nothing_else = λ t c h since. inl since;
  keeps = λ t c h past. past;
}

-- ---- the calls

pub quiet_none : (steps : List DiskStep) → Quiet steps steps
quiet_none steps = record {
  images = λ start c. (λ is. is, λ is. is);
  time = stands steps;
  content = λ start. refl;
}

pub quiet_pause : (old : List DiskStep) → Quiet old (old ++ Pause ∷ Pause ∷ [])
quiet_pause old = record {
  images = λ start c. (ahead start old (Pause ∷ Pause ∷ []) c, behind start old (Pause ∷ Pause ∷ []) c);
  time = elapses old Pause Pause (λ start c is. inl (ahead start old (Pause ∷ []) c is));
  content = λ start. ap (λ (s : Told). s.content) (after-append (fresh start) old (Pause ∷ Pause ∷ []));
}

pub syncs_none : (steps : List DiskStep) → Syncs steps steps
syncs_none steps = record {
  images = λ start c is. is;
  time = stands steps;
  content = λ start. refl;
}

pub syncs_done : (old : List DiskStep) → Syncs old (old ++ Pause ∷ Synced ∷ [])
syncs_done old = record {
  images = λ start c is. subst (Images start old) (sym (ahead start old (Pause ∷ Synced ∷ []) c is)) (content_left start old);
  time = elapses old Pause Synced (λ start c is. inl (ahead start old (Pause ∷ []) c is));
  content = λ start. ap (λ (s : Told). s.content) (after-append (fresh start) old (Pause ∷ Synced ∷ []));
}

pub settles : (old : List DiskStep) → Settles (old ++ Pause ∷ Synced ∷ [])
settles old start c is =
    ahead start old (Pause ∷ Synced ∷ []) c is ∙ sym (ap (λ (s : Told). s.content) (after-append (fresh start) old (Pause ∷ Synced ∷ [])))

pub writes_none : (place n : ℕ) (steps : List DiskStep) → Writes place n steps steps
writes_none place n steps = record {
  images = λ start c is. (c, is, torn_same place n c);
  kept = λ start c is. is;
  time = stands steps;
}

pub writes_done : (place : ℕ) (bytes : List ℕ) (old : List DiskStep) → Writes place (length bytes) old (old ++ Wrote place bytes ∷ Pause ∷ [])
writes_done place bytes old = record {
  images = λ start c is. ahead start old (Wrote place bytes ∷ Pause ∷ []) c is;
  kept = λ start c is. behind start old (Wrote place bytes ∷ Pause ∷ []) c (c, is, torn_same place (length bytes) c);
  time = elapses old (Wrote place bytes) Pause (λ start c is.
      inr (behind start old (Wrote place bytes ∷ Pause ∷ []) c (ahead start old (Wrote place bytes ∷ []) c is)));
}

pub writes_torn : (place : ℕ) (bytes : List ℕ) (old : List DiskStep) → Writes place (length bytes) old (old ++ Tore place bytes ∷ Pause ∷ [])
writes_torn place bytes old = record {
  images = λ start c is. ahead start old (Tore place bytes ∷ Pause ∷ []) c is;
  kept = λ start c is. behind start old (Tore place bytes ∷ Pause ∷ []) c (c, is, torn_same place (length bytes) c);
  time = elapses old (Tore place bytes) Pause (λ start c is.
      inr (behind start old (Tore place bytes ∷ Pause ∷ []) c (ahead start old (Tore place bytes ∷ []) c is)));
}

pub lands_put : (place : ℕ) (bytes : List ℕ) (old : List DiskStep)
    → Lands (λ (c : List ℕ). put_at c place bytes) old (old ++ Wrote place bytes ∷ Pause ∷ [])
lands_put place bytes old start = ap (λ (s : Told). s.content) (after-append (fresh start) old (Wrote place bytes ∷ Pause ∷ []))

pub lands_same : (place : ℕ) (bytes : List ℕ) (old : List DiskStep) → Lands (λ (c : List ℕ). c) old (old ++ Tore place bytes ∷ Pause ∷ [])
lands_same place bytes old start = ap (λ (s : Told). s.content) (after-append (fresh start) old (Tore place bytes ∷ Pause ∷ []))

-- ---- a call that is recorded, or not

-- what holds of the steps where they are more and where they stay
pub either_way : (P : List DiskStep → Type 0) (old more new : List DiskStep) (ok : Bool) → new ≡ (if ok then old ++ more else old)
    → P (old ++ more) → P old → P new
either_way P old more new true e longer same = rw e longer
either_way P old more new false e longer same = rw e same

-- and where the call is recorded
pub when_ok : {T E : Type 0} (P : List DiskStep → Type 0) (old more new : List DiskStep) (r : Result T E)
    → new ≡ (if is_ok r then old ++ more else old) → P (old ++ more) → OnOk r (P new)
when_ok P old more new (Ok x) e longer = rw e longer
when_ok P old more new (Err x) e longer = tt

-- ---- pauses

-- a pause, and two of them, leave what was left before
pub pauses : (start : List ℕ) (steps : List DiskStep) (c : List ℕ)
    → (Images start (steps ++ Pause ∷ []) c ↔ Images start steps c) × (Images start (steps ++ Pause ∷ Pause ∷ []) c ↔ Images start steps c)
pauses start steps c = (
  (ahead start steps (Pause ∷ []) c, behind start steps (Pause ∷ []) c),
  (ahead start steps (Pause ∷ Pause ∷ []) c, behind start steps (Pause ∷ Pause ∷ []) c),
)

-- ---- an image that is computed

-- what a fill gives is one of the images
filled_from : (fill : Fill) (s : Told) (c : List ℕ) (steps : List DiskStep) → Allowed s c
    → Allowed (after s steps) (image_from fill s.content c steps)
filled_from fill s c [] is = is
filled_from fill s c (Pause ∷ xs) is = filled_from fill s c xs is
filled_from fill s c (Wrote place bytes ∷ xs) is =
    filled_from fill (step s (Wrote place bytes)) (filled fill c place bytes) xs (c, is, torn_filled fill place c bytes)
filled_from fill s c (Tore place bytes ∷ xs) is =
    filled_from fill (step s (Tore place bytes)) (filled fill c place bytes) xs (c, is, torn_filled fill place c bytes)
filled_from fill s c (Synced ∷ xs) is = filled_from fill (step s Synced) s.content xs refl

pub image_left : (fill : Fill) (start : List ℕ) (steps : List DiskStep) → Images start steps (image_from fill start start steps)
image_left fill start steps = filled_from fill (fresh start) start steps refl

-- so it is allowed at its moment, and is among those left since
pub image_at_left : {E : Type 0} (start : List ℕ) (steps : List DiskStep) (moment : ℕ) (fill : Fill) (bytes : List ℕ) (r : Result (List ℕ) E)
    → bytes ≡ image_at start steps moment fill → IfOk r (λ b. b ≡ bytes) → IfOk r (Images start (take moment steps))
image_at_left start steps moment fill bytes (Ok b) e is = rw (is, e) (image_left fill start (take moment steps))
image_at_left start steps moment fill bytes (Err x) e is = tt

pub image_at_since : {E : Type 0} (start : List ℕ) (steps : List DiskStep) (moment : ℕ) (fill : Fill) (bytes : List ℕ) (r : Result (List ℕ) E)
    → moment ≤ length steps → bytes ≡ image_at start steps moment fill → IfOk r (λ b. b ≡ bytes) → IfOk r (LeftFrom start steps moment)
image_at_since start steps moment fill bytes (Ok b) within e is =
    (moment, le_refl moment, within, rw (is, e) (image_left fill start (take moment steps)))
image_at_since start steps moment fill bytes (Err x) within e is = tt

pub old_kept : (s : Told) (c : List ℕ) (steps : List DiskStep) → c ≡ s.kept → image_from Old s.content c steps ≡ (after s steps).kept
old_kept s c [] e = e
old_kept s c (Pause ∷ xs) e = old_kept s c xs e
old_kept s c (Wrote place bytes ∷ xs) e = old_kept (step s (Wrote place bytes)) c xs e
old_kept s c (Tore place bytes ∷ xs) e = old_kept (step s (Tore place bytes)) c xs e
old_kept s c (Synced ∷ xs) e = old_kept (step s Synced) s.content xs refl

pub new_content : (s : Told) (c : List ℕ) (steps : List DiskStep) → NoneTore steps → c ≡ s.content
    → image_from New s.content c steps ≡ (after s steps).content
new_content s c [] none e = e
new_content s c (Pause ∷ xs) none e = new_content s c xs none e
new_content s c (Wrote place bytes ∷ xs) none e =
    new_content (step s (Wrote place bytes)) (put_at c place bytes) xs none (ap (λ (old : List ℕ). put_at old place bytes) e)
new_content s c (Tore place bytes ∷ xs) none e = absurd none
new_content s c (Synced ∷ xs) none e = new_content (step s Synced) s.content xs none refl
