-- Over every list of events a standby's list is a front of its primary's, and no event takes an entry away.
use Rattle.std.proofs.Common.{◌≡◌, ◌⊎◌, inl, inr, ℕ, zero, suc, ◌≤◌, Bool, true, false, List, [], ◌∷◌, ◌++◌, length, Option, None, Some, refl, sym, ap, subst, ◌∙◌, append_assoc, arith}
use Rattle.std.specs.List.{slice_get, AllByRecursion}
use Rattle.std.specs.Option.{option_to_list}
use Rattle.std.proofs.lemmas.List.{append-nil, length-append}
use Rattle.nb_units.specs.declared.charter.Charter.{Charter}
use Rattle.nb_entry.specs.declared.entry.Entry.{Entry}
use Rattle.nb_turns.specs.Turns.{House, State, Outcome, Decides, Fails, Refuses, SettlesInto, Turn, Unsettled, Doubts}
use Rattle.nb_turns.proofs.Lists.{all_append, all_weaker}
use Rattle.nb_turns.proofs.Growth.{turn_grows}
use Rattle.nb_vault.specs.declared.taking.TakeIn.{TakeIn}
use Rattle.nb_vault.specs.declared.taking.TakeIn.TheVariants as takes
use Rattle.nb_vault.specs.Taking.{house_told, nothing_asked}
use Rattle.nb_standby.specs.World.{TakesTo, restarted, Sent, World, Event, Commits, Ships, Delivers, Stops, Steps, Happens, BeginsWith, IsFront, Starts}
use Rattle.nb_standby.specs.Laws.{StaysFront, EntriesStay, TakenStays}

-- ---- lists

some_is : (a b : Entry) → (let first : Option Entry = Some a in first ≡ Some b) → a ≡ b
some_is a b e = cc

sent_is : (a b : Sent) → (let first : Option Sent = Some a in first ≡ Some b) → a ≡ b
sent_is a b e = cc

none_some : (b : Entry) → (let first : Option Entry = None in first ≡ Some b) → ⊥
none_some b e = cc

none_sent : (b : Sent) → (let first : Option Sent = None in first ≡ Some b) → ⊥
none_sent b e = cc

-- what stands at a place of a list stands there when it has grown
more_there : (xs ys : List Entry) (k : ℕ) (e : Entry) → slice_get xs k ≡ Some e → slice_get (xs ++ ys) k ≡ Some e
more_there [] ys k e is = absurd (none_some e is)
more_there (x ∷ xs) ys zero e is = is
more_there (x ∷ xs) ys (suc k) e is = more_there xs ys k e is

-- the entry behind a front of a list
behind_front : (over more : List Entry) (e : Entry) → slice_get (over ++ more) (length over) ≡ Some e → BeginsWith (over ++ more) (over ++ e ∷ [])
behind_front [] [] e is = absurd (none_some e is)
behind_front [] (x ∷ more) e is = (more, ap (λ (y : Entry). y ∷ more) (some_is x e is))
behind_front (x ∷ over) more e is =
    let rest : BeginsWith (over ++ more) (over ++ e ∷ []) = behind_front over more e is in
    (rest.0, ap (λ (es : List Entry). x ∷ es) rest.1)

next_front : (all over : List Entry) (place : ℕ) (e : Entry) → BeginsWith all over → slice_get all place ≡ Some e → place ≡ length over → BeginsWith all (over ++ e ∷ [])
next_front all over place e front is at =
    subst (λ (es : List Entry). BeginsWith es (over ++ e ∷ [])) (sym front.1)
    (behind_front over front.0 e (subst (λ (es : List Entry). slice_get es (length over) ≡ Some e) front.1 (subst (λ (n : ℕ). slice_get all n ≡ Some e) at is)))

pub begins_then : (all mid front : List Entry) → BeginsWith all mid → BeginsWith mid front → BeginsWith all front
begins_then all mid front first second =
    (second.0 ++ first.0, first.1 ∙ ap (λ (es : List Entry). es ++ first.0) second.1 ∙ append_assoc front second.0 first.0)

grown : (all front more : List Entry) → BeginsWith all front → BeginsWith (all ++ more) front
grown all front more begins = begins_then (all ++ more) all front (more, refl) begins

pub itself : (all : List Entry) → BeginsWith all all
itself all = ([], sym (append-nil all))

picked : (P : Sent → Type 0) (ss : List Sent) (k : ℕ) (s : Sent) → AllByRecursion P ss → slice_get ss k ≡ Some s → P s
picked P [] k s all is = absurd (none_sent s is)
picked P (x ∷ ss) zero s all is = subst P (sent_is x s is) all.0
picked P (x ∷ ss) (suc k) s all is = picked P ss k s all.1 is

-- ---- one record

-- the entries are a front of a list, and so they are with those in doubt
abbrev pub AreFront : List Entry → State → Type 0
AreFront all state = BeginsWith all state.entries × BeginsWith all (state.entries ++ state.doubt)

module _ (all : List Entry) (old new : State) (front : AreFront all old) where
  settled : (over : List Entry) → SettlesInto old over → BeginsWith all over
  settled over (inl same) = subst (BeginsWith all) (sym same) front.0
  settled over (inr same) = subst (BeginsWith all) (sym same) front.1

  decided : (told : Option Entry) (over : List Entry) → Turn (house_told told) old nothing_asked (Decides over) new → BeginsWith all (over ++ option_to_list told) → AreFront all new
  decided told over turn begins =
      let recorded : BeginsWith all (over ++ (option_to_list told ++ [])) = subst (λ (es : List Entry). BeginsWith all (over ++ es)) (sym (append-nil (option_to_list told))) begins in
      subst (AreFront all) (sym turn.2) (recorded, subst (BeginsWith all) (sym (append-nil (over ++ (option_to_list told ++ [])))) recorded)

  unsettled : Unsettled old new → AreFront all new
  unsettled u = subst (AreFront all) (sym u.1) front

  not_settled : Unsettled old new ⊎ Doubts (house_told None) old nothing_asked new → AreFront all new
  not_settled (inl u) = unsettled u
  not_settled (inr d) = absurd (d.some refl)

  doubted : (place : ℕ) (e : Entry) → slice_get all place ≡ Some e → place ≡ length new.entries → Unsettled old new ⊎ Doubts (house_told (Some e)) old nothing_asked new → AreFront all new
  doubted place e there at (inl u) = unsettled u
  doubted place e there at (inr d) =
      let over : BeginsWith all d.over = settled d.over d.settled in
      let place_is : place ≡ length d.over = at ∙ ap (λ (s : State). length s.entries) d.left in
      subst (AreFront all) (sym d.left) (over, next_front all d.over place e over there place_is)

module _ (charter : Charter) (cap : ℕ) (all : List Entry) (old new : State) (place : ℕ) (e : Entry) (there : slice_get all place ≡ Some e) (front : AreFront all old) where
  nothing_taken : (over : List Entry) → Turn (house_told None) old nothing_asked (Decides over) new → AreFront all new
  nothing_taken over turn = decided all old new front None over turn (subst (BeginsWith all) (sym (append-nil over)) (settled all old new front over turn.1))

  takes_front : (how : TakeIn) → TakesTo charter cap old place e how new → AreFront all new
  takes_front takes.Taken t = decided all old new front (Some e) t.0 t.1 (next_front all t.0 place e (settled all old new front t.0 t.1.1) there t.2.0)
  takes_front takes.Same t = nothing_taken t.0 t.1
  takes_front takes.Other t = nothing_taken t.0 t.1
  takes_front takes.Ahead t = nothing_taken t.0 t.1
  takes_front takes.Illegal t = nothing_taken t.0 t.1
  takes_front (takes.DiskFault before after) (inl turn) = not_settled all old new front turn.1
  takes_front (takes.DiskFault before after) (inr t) = doubted all old new front place e there t.1.0 t.0.1
  takes_front (takes.Worn faults) t = subst (AreFront all) (sym t.1.1) front

-- ---- any event

-- each record that was shipped is of the primary's list, and the standby's is a front of it
pub record Holds (w : World) : Type 0 where
  pub sent : AllByRecursion (λ (s : Sent). slice_get w.primary s.place ≡ Some s.entry) w.sent
  pub front : IsFront w

sent_stay : (primary : List Entry) (e : Entry) (ss : List Sent) → AllByRecursion (λ (s : Sent). slice_get primary s.place ≡ Some s.entry) ss
    → AllByRecursion (λ (s : Sent). slice_get (primary ++ e ∷ []) s.place ≡ Some s.entry) ss
sent_stay primary e ss all =
    all_weaker (λ (s : Sent). slice_get primary s.place ≡ Some s.entry) (λ (s : Sent). slice_get (primary ++ e ∷ []) s.place ≡ Some s.entry) ss (λ (s : Sent) is. more_there primary (e ∷ []) s.place s.entry is) all

stopped : (all : List Entry) (old : State) (kept : Bool) → AreFront all old → AreFront all (restarted old kept)
stopped all old true front = (front.1, subst (BeginsWith all) (sym (append-nil (old.entries ++ old.doubt))) front.1)
stopped all old false front = (front.0, subst (BeginsWith all) (sym (append-nil old.entries)) front.0)

module _ (charter : Charter) (cap : ℕ) where
  pub step_holds : (old new : World) (event : Event) → Holds old → Steps charter cap old event new → Holds new
  step_holds old new (Commits e) h step =
      subst Holds (sym step.1) (record {
        sent = sent_stay old.primary e old.sent h.sent;
        front = (grown old.primary old.standby.entries (e ∷ []) h.front.0, grown old.primary (old.standby.entries ++ old.standby.doubt) (e ∷ []) h.front.1);
      })
  step_holds old new (Ships i) h step =
      let one : Sent = record { place = i; entry = step.0 } in
      subst Holds (sym step.2) (record {
        sent = all_append (λ (s : Sent). slice_get old.primary s.place ≡ Some s.entry) old.sent (one ∷ []) h.sent (step.1, tt);
        front = h.front;
      })
  step_holds old new (Delivers k how) h step =
      let there : slice_get old.primary step.0.place ≡ Some step.0.entry = picked (λ (s : Sent). slice_get old.primary s.place ≡ Some s.entry) old.sent k step.0 h.sent step.1 in
      subst Holds (sym step.4) (record {
        sent = h.sent;
        front = takes_front charter cap old.primary old.standby step.2 step.0.place step.0.entry there h.front how step.3;
      })
  step_holds old new (Stops kept) h step = subst Holds (sym step) (record { sent = h.sent; front = stopped old.primary old.standby kept h.front })

  all_hold : (first : World) (events : List Event) (worlds : List World) → Holds first → Happens charter cap first events worlds → AllByRecursion IsFront (first ∷ worlds)
  all_hold first [] [] h happens = (h.front, tt)
  all_hold first (event ∷ more) (next ∷ worlds) h happens =
      (h.front, all_hold next more worlds (step_holds first next event h happens.0) happens.1)
  all_hold first [] (next ∷ worlds) h happens = absurd happens
  all_hold first (event ∷ more) [] h happens = absurd happens

pub holds_first : (first : World) → Starts first → Holds first
holds_first first starts =
    let with_doubt : first.standby.entries ++ first.standby.doubt ≡ first.standby.entries = ap (λ (es : List Entry). first.standby.entries ++ es) starts.none ∙ append-nil first.standby.entries in
    record { sent = starts.sent; front = (starts.front, subst (BeginsWith first.primary) (sym with_doubt) starts.front) }

pub stays_front : StaysFront
stays_front charter cap first events worlds starts happens = all_hold charter cap first events worlds (holds_first first starts) happens

-- ---- what stays

-- a turn takes no entry away
turn_stays : (house : House) (old new : State) (outcome : Outcome) → Turn house old nothing_asked outcome new → BeginsWith new.entries old.entries
turn_stays house old new outcome turn =
    let g = turn_grows house old new nothing_asked outcome turn in
    (g.kept ++ g.made, g.grows)

pub takes_stays : (charter : Charter) (cap : ℕ) (old new : State) (place : ℕ) (e : Entry) (how : TakeIn) → TakesTo charter cap old place e how new → BeginsWith new.entries old.entries
takes_stays charter cap old new place e takes.Taken t = turn_stays (house_told (Some e)) old new (Decides t.0) t.1
takes_stays charter cap old new place e takes.Same t = turn_stays (house_told None) old new (Decides t.0) t.1
takes_stays charter cap old new place e takes.Other t = turn_stays (house_told None) old new (Decides t.0) t.1
takes_stays charter cap old new place e takes.Ahead t = turn_stays (house_told None) old new (Decides t.0) t.1
takes_stays charter cap old new place e takes.Illegal t = turn_stays (house_told None) old new (Decides t.0) t.1
takes_stays charter cap old new place e (takes.DiskFault before after) (inl turn) = turn_stays (house_told None) old new (Fails before after) turn
takes_stays charter cap old new place e (takes.DiskFault before after) (inr t) = turn_stays (house_told (Some e)) old new (Fails before after) t.0
takes_stays charter cap old new place e (takes.Worn faults) t = turn_stays (house_told None) old new Refuses t.1

restart_stays : (old : State) (kept : Bool) → BeginsWith (restarted old kept).entries old.entries
restart_stays old true = (old.doubt, refl)
restart_stays old false = itself old.entries

step_stays : (charter : Charter) (cap : ℕ) (old new : World) (event : Event) → Steps charter cap old event new → BeginsWith new.standby.entries old.standby.entries
step_stays charter cap old new (Commits e) step = subst (λ (w : World). BeginsWith w.standby.entries old.standby.entries) (sym step.1) (itself old.standby.entries)
step_stays charter cap old new (Ships i) step = subst (λ (w : World). BeginsWith w.standby.entries old.standby.entries) (sym step.2) (itself old.standby.entries)
step_stays charter cap old new (Delivers k how) step =
    subst (λ (w : World). BeginsWith w.standby.entries old.standby.entries) (sym step.4) (takes_stays charter cap old.standby step.2 step.0.place step.0.entry how step.3)
step_stays charter cap old new (Stops kept) step = subst (λ (w : World). BeginsWith w.standby.entries old.standby.entries) (sym step) (restart_stays old.standby kept)

pub entries_stay : EntriesStay
entries_stay charter cap first [] [] happens = tt
entries_stay charter cap first (event ∷ more) (next ∷ worlds) happens =
    let here : BeginsWith next.standby.entries first.standby.entries = step_stays charter cap first next event happens.0 in (
      here,
      all_weaker (λ (w : World). BeginsWith w.standby.entries next.standby.entries) (λ (w : World). BeginsWith w.standby.entries first.standby.entries) worlds
          (λ (w : World) later. begins_then w.standby.entries next.standby.entries first.standby.entries later here) (entries_stay charter cap next more worlds happens.1),
    )
entries_stay charter cap first [] (next ∷ worlds) happens = absurd happens
entries_stay charter cap first (event ∷ more) [] happens = absurd happens

pub taken_stays : TakenStays
taken_stays charter cap before first k n events worlds step many happens = (
  ap (λ (w : World). w.standby.doubt) step.4 ∙ ap (λ (s : State). s.doubt) step.3.1.2,
  all_weaker (λ (w : World). BeginsWith w.standby.entries first.standby.entries) (λ (w : World). n ≤ length w.standby.entries) worlds
      (λ (w : World) later. omega (arith, many, ap length later.1, length-append first.standby.entries later.0)) (entries_stay charter cap first events worlds happens),
)
