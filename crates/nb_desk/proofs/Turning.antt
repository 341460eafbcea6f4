-- One turn of a vault, as a pass sees it.
use Rattle.std.proofs.Common.{◌≡◌, ◌⊎◌, inl, inr, ℕ, ◌≤◌, Bool, true, false, true≢false, List, [], ◌∷◌, ◌++◌, length, drop, Some, is_some, cond, sym, refl, ap, ◌∙◌, subst, append-nil, eq-eqb, arith}
use Rattle.std.proofs.lemmas.Option.{same_Some}
use Rattle.std.specs.List.{AllByRecursion}
use Rattle.std.proofs.lemmas.List.{length-map}
use Rattle.nb_port.specs.Tells.{DiskTells}
use Rattle.nb_turns.specs.declared.limits.TheConstants.{MAX_REQUESTS}
use Rattle.nb_turns.specs.declared.line.Line.{Line}
use Rattle.nb_turns.specs.Turns.{Request, Outcome, Decides, Fails, Refuses, FitTurn}
use Rattle.nb_turns.specs.Lines.{AddsLines, AreBelow, StateOver, lines_by, maker_of, next_turn, open_doubt}
use Rattle.nb_turns.proofs.Lining.{lines_are_of}
use Rattle.nb_turns.proofs.Lists.{all_weaker}
use Rattle.nb_turns.proofs.Numbering.{next_is_above}
use Rattle.nb_turn.specs.declared.chronicle.View.{View}
use Rattle.nb_turn.specs.Lines.{NoneBy}
use Rattle.nb_turn.specs.Told.{TakenOnce, TakenAtLast}
use Rattle.nb_turn.specs.Views.{number_of, found_more, gave, reseen, took}
use Rattle.nb_turn.proofs.Lists.{by-append, first_again, rest_is}
use Rattle.nb_vault.specs.declared.answer.Answer.{Answer}
use Rattle.nb_vault.specs.declared.answer.Answer.TheVariants as one
use Rattle.nb_vault.specs.declared.answer.AnswerAll.{AnswerAll}
use Rattle.nb_vault.specs.declared.answer.AnswerAll.TheVariants as all
use Rattle.nb_vault.specs.declared.answer.AskAt.{AskAt}
use Rattle.nb_vault.specs.Asking.{requests_of}
use Rattle.nb_vault.specs.declared.origin.Origin.{Origin}
use Rattle.nb_vault.specs.Vaults.{Chronicled, Went, TurnOf, all_of, house_in, place_in, state_of}
use Rattle.nb_desk.specs.declared.asked.AskedAll.{AskedAll}
use Rattle.nb_desk.specs.declared.asked.AskedAll.TheVariants as asked
use Rattle.nb_desk.specs.Answers.{Answers, AnswersAs, AnswersHeld}
use Rattle.nb_desk.specs.Asking.{asked_of, asked_all_of}
use Rattle.nb_desk.specs.Asks.{Asks, Gives, GoesOn, GoesOnAtLast, Tries, all_asked, place_asked}
use Rattle.nb_desk.specs.Desks.{MeetsVault}

-- a pass took the turn of a vault
abbrev pub TakenOnceVault : {D : Type 0} → View Origin Line → View Origin Line → Chronicled D → Type 0
TakenOnceVault {D} v h vault = TakenOnce (λ (c : Chronicled D). c.origin) (λ (c : Chronicled D). c.lines) maker_of v h vault

abbrev pub TakenAtLastVault : {D : Type 0} → View Origin Line → View Origin Line → Chronicled D → Type 0
TakenAtLastVault {D} v h vault = TakenAtLast (λ (c : Chronicled D). c.origin) (λ (c : Chronicled D). c.lines) maker_of v h vault

-- ---- the lines of a turn

-- all lines of who asked are among those of who asked
pub all_own : (by : ℕ) (lines : List Line) → AllByRecursion (λ (l : Line). maker_of l ≡ by) lines → lines_by by lines ≡ lines
all_own by [] own = refl
all_own by (l ∷ ls) own = ap (λ (b : Bool). cond b (l ∷ lines_by by ls) (lines_by by ls)) (eq-eqb (maker_of l) by own.0) ∙ ap (λ (x : List Line). l ∷ x) (all_own by ls own.1)

-- there is none of the first number
pub none_of_first : {L : Type 0} (maker : L → ℕ) (by : ℕ) (others : List L) (parts : List (ℕ × List L)) → number_of parts ≡ Some by → AllByRecursion (NoneBy maker others) parts → NoneBy maker others (by, [])
none_of_first maker by others [] n none = absurd (true≢false (ap is_some (sym n)))
none_of_first maker by others (p ∷ ps) n none = subst (λ (k : ℕ). NoneBy maker others (k, [])) (same_Some p.0 by n) none.0

module _ {D : Type 0} (tells : DiskTells D) (old new : Chronicled D) (by : ℕ) (requests : List Request) where
  -- the lines of a turn are of who asked
  pub made : (outcome : Outcome) (found out out' : List ℕ) (t : Went tells old new by requests outcome found out out') → AllByRecursion (λ (l : Line). maker_of l ≡ by) t.added
  made outcome found out out' t = all_weaker _ _ t.added (λ l is. is.0) (lines_are_of (house_in old) old.origin.entries by (next_turn old.lines) old.lines requests outcome t.added t.lines)

  -- behind the lines at taking stand those of a turn, which are of who asked
  pub added_by : (found out out' : List ℕ) (answer : AnswerAll) → TurnOf tells old new by requests found out out' answer
      → (added : List Line) × (new.lines ≡ old.lines ++ added) × AllByRecursion (λ (l : Line). maker_of l ≡ by) added
  added_by found out out' all.Answered t = (t.1.added, t.1.behind, made (Decides t.0) found out out' t.1)
  added_by found out out' (all.DiskFault before after) t = (t.added, t.behind, made (Fails before after) found out out' t)
  added_by found out out' (all.Worn faults) t = (t.1.added, t.1.behind, made Refuses found out out' t.1)

  -- what a turn gives back: lines behind those at taking, each of who asked
  pub gives_back : (found out out' : List ℕ) (lines : List Line) (answer : AnswerAll) → old.lines ≡ lines → TurnOf tells old new by requests found out out' answer
      → ((more : List Line) × (new.lines ≡ lines ++ more)) × AllByRecursion (λ (l : Line). maker_of l ≡ by) (drop (length lines) new.lines)
  gives_back found out out' lines answer same t =
      let a = added_by found out out' answer t in
      let e : new.lines ≡ lines ++ a.0 = a.1 ∙ ap (λ (x : List Line). x ++ a.0) same in
      ((a.0, e), subst (AllByRecursion (λ (l : Line). maker_of l ≡ by)) (sym (rest_is new.lines lines a.0 e)) a.2)

-- as many requests are asked as a turn may have
pub asks_fit : (bytes : List ℕ) (asks : List AskAt) → 1 ≤ length asks → length asks ≤ MAX_REQUESTS → FitTurn (requests_of bytes asks)
asks_fit bytes asks least most = let same : length (requests_of bytes asks) ≡ length asks = length-map asks _ in (omega (arith, same, least), omega (arith, same, most))

-- ---- what is told of an answer

-- the answer to all requests of a turn, as the desk tells it
pub held_all : {D : Type 0} (tells : DiskTells D) (old : Chronicled D) (by : ℕ) (v w : View Origin Line) (requests : List Request) (found out out' : List ℕ) (answer : AnswerAll)
    → AnswersAs tells old by v w requests found out out' answer → AnswersHeld tells old by v w requests found out out' (asked_all_of answer)
held_all tells old by v w requests found out out' all.Answered a = a
held_all tells old by v w requests found out out' (all.DiskFault before after) a = a
held_all tells old by v w requests found out out' (all.Worn faults) a = a

-- and that to one
pub held_one : {D : Type 0} (tells : DiskTells D) (old : Chronicled D) (by : ℕ) (v w : View Origin Line) (requests : List Request) (out out' : List ℕ) (answer : Answer)
    → AnswersAs tells old by v w requests (place_in answer) out out' (all_of answer)
    → AnswersHeld tells old by v w requests (place_asked (asked_of answer)) out out' (all_asked (asked_of answer))
held_one tells old by v w requests out out' (one.Answered at) a = a
held_one tells old by v w requests out out' (one.DiskFault before after) a = a
held_one tells old by v w requests out out' (one.Worn faults) a = a

-- ---- what the pass knows then

-- the state of a vault is one over its lines
pub over_lines : {D : Type 0} (v : Chronicled D) → StateOver v.origin.entries v.lines (state_of v)
over_lines v = record { entries = refl; doubt = part v.stale; faults = refl } where
  part : (stale : Bool) → ((cond stale (open_doubt v.lines) []) ≡ []) ⊎ ((cond stale (open_doubt v.lines) []) ≡ open_doubt v.lines)
  part true = inr refl
  part false = inl refl

module _ {D : Type 0} (tells : DiskTells D) (by : ℕ) (v h w : View Origin Line) (requests : List Request) (found out out' : List ℕ) (old : Chronicled D)
    (fits : FitTurn requests) (number : number_of v.parts ≡ Some by) (meets : MeetsVault v old) where
  -- one turn, which went so
  pub asks : (new : Chronicled D) (outcome : Outcome) (answer : AnswerAll) → Answers tells old new by requests found out out' answer → Went tells old new by requests outcome found out out'
      → w ≡ gave (reseen new.lines h) → Asks tells by v w requests outcome found out out' answer
  asks new outcome told a t view =
      let none : lines_by by meets.others ≡ [] = none_of_first maker_of by meets.others v.parts number meets.alone in
      let seen_is : w.seen ≡ new.lines = ap (λ (x : View Origin Line). x.seen) view in
      let seen : w.seen ≡ (v.seen ++ meets.others) ++ t.added = seen_is ∙ t.behind ∙ ap (λ (x : List Line). x ++ t.added) meets.begins in
      let own : lines_by by t.added ≡ t.added = all_own by t.added (made tells old new by requests outcome found out out' t) in
      record {
        old = old;
        new = new;
        meets = meets;
        went = t;
        same_origin = a.origin;
        seen_is = seen_is;
        follows = record {
          fits = fits;
          alone = none;
          fresh = subst (λ (x : List Line). AreBelow (next_turn x) x) meets.begins (next_is_above old.lines a.kept.turns);
          lines = subst (λ (x : List Line). AddsLines (house_in old) old.origin.entries by (next_turn x) x requests outcome t.added) meets.begins t.lines;
        };
        seen = seen;
        own = ap (lines_by by) seen ∙ by-append maker_of by (v.seen ++ meets.others) t.added
            ∙ ap (λ (x : List Line). x ++ lines_by by t.added) (by-append maker_of by v.seen meets.others ∙ ap (λ (x : List Line). lines_by by v.seen ++ x) none ∙ append-nil (lines_by by v.seen))
            ∙ ap (λ (x : List Line). lines_by by v.seen ++ x) own;
        over_before = over_lines old;
        over_behind = subst (λ (x : Origin × List Line). StateOver x.0.entries x.1 (state_of new)) (λ i. (a.origin i, sym seen_is i)) (over_lines new);
        kept = a.kept;
        keeps = a.keeps;
        any_moment = a.any_moment;
        durable = a.durable;
        quiet = a.quiet;
        same = a.same;
        fault = a.fault;
        count = a.count;
      }

  -- by the answer
  pub gives : (answer : AskedAll) → AnswersHeld tells old by h w requests found out out' answer → Gives tells by v w requests found out out' answer
  gives asked.Served a = (a.1.turn.0, asks a.0 (Decides a.1.turn.0) all.Answered a.1 a.1.turn.1 a.2)
  gives (asked.DiskFault before after) a = asks a.0 (Fails before after) (all.DiskFault before after) a.1 a.1.turn a.2
  gives (asked.Worn faults) a = (a.1.turn.0, asks a.0 Refuses (all.Worn faults) a.1 a.1.turn.1 a.2)
  gives (asked.Busy word) a = absurd a

-- a pass that knew u when it tried, took the turn and gave it back
pub goes_on : (u w : View Origin Line) (before behind : List Line) → w ≡ gave (reseen behind (took before u)) → GoesOn u w
goes_on u w before behind view =
    let again : gave (reseen behind (took before u)) ≡ gave (took behind u) =
    ap (λ (ps : List (ℕ × List Line)). let x : View Origin Line = record { origin = u.origin; seen = behind; parts = ps; found = u.found ++ (0, 0) ∷ []; holds = false } in x) (first_again behind before u.parts) in
    let seen : w.seen ≡ behind = ap (λ (x : View Origin Line). x.seen) view in
    view ∙ again ∙ ap (λ (s : List Line). gave (took s u)) (sym seen)

-- what the pass knows behind an answer
held_view : {D : Type 0} (tells : DiskTells D) (old : Chronicled D) (by : ℕ) (h w : View Origin Line) (requests : List Request) (found out out' : List ℕ) (answer : AskedAll)
    → AnswersHeld tells old by h w requests found out out' answer → (lines : List Line) × (w ≡ gave (reseen lines h))
held_view tells old by h w requests found out out' asked.Served a = (a.0.lines, a.2)
held_view tells old by h w requests found out out' (asked.DiskFault before after) a = (a.0.lines, a.2)
held_view tells old by h w requests found out out' (asked.Worn faults) a = (a.0.lines, a.2)
held_view tells old by h w requests found out out' (asked.Busy word) a = absurd a

-- so it is where the turn was taken by one swap
goes_on_once : (v h w : View Origin Line) (before : List Line) → h ≡ took before v → (lines : List Line) × (w ≡ gave (reseen lines h)) → GoesOn v w
goes_on_once v h w before taken (lines, view) = goes_on v w before lines (view ∙ ap (λ (x : View Origin Line). gave (reseen lines x)) taken)

module _ {D : Type 0} (tells : DiskTells D) (by n : ℕ) (v h w : View Origin Line) (requests : List Request) (found out out' : List ℕ) (old : Chronicled D) (answer : AskedAll)
    (fits : FitTurn requests) (number : number_of v.parts ≡ Some by) (same : n ≡ by) (told : AnswersHeld tells old n h w requests found out out' answer) where
  -- what is given where the turn was taken
  pub given : MeetsVault v old → Gives tells by v w requests found out out' answer
  given meets = gives tells by v h w requests found out out' old fits number meets answer (subst (λ (k : ℕ). AnswersHeld tells old k h w requests found out out' answer) same told)

  -- by one swap
  pub tried : TakenOnceVault v h old → Tries tells by v w requests found out out' answer
  tried taken = part answer (goes_on_once v h w old.lines taken.0 (held_view tells old n h w requests found out out' answer told)) (given taken.1) where
    part : (a : AskedAll) → GoesOn v w → Gives tells by v w requests found out out' a → Tries tells by v w requests found out out' a
    part asked.Served goes g = (goes, g)
    part (asked.DiskFault before after) goes g = (goes, g)
    part (asked.Worn faults) goes g = (goes, g)
    part (asked.Busy word) goes g = absurd g

  -- or at last
  pub at_last : TakenAtLastVault v h old → GoesOnAtLast v w
  at_last taken = (taken.0.0, taken.0.1, goes_on_once (found_more taken.0.0 v) h w old.lines taken.0.2 (held_view tells old n h w requests found out out' answer told))
