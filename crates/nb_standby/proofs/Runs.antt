-- Whole runs of `follow`.
use Rattle.std.proofs.Common.{◌≡◌, ◌⊎◌, inl, inr, ⊎_elim, ℕ, ◌<◌, ◌≤◌, ◌+◌, List, [], ◌∷◌, ◌++◌, length, get_or, append_assoc, None, Some, Result, Ok, Err, refl, sym, ap, subst, ◌∙◌, arith}
use Rattle.std.specs.Prelude.{◌^◌, map, slice_index, take, drop}
use Rattle.std.specs.Int.{w64, from_be_bytes}
use Rattle.std.specs.List.{slice_get, AllByRecursion}
use Rattle.std.specs.Option.{option_to_list}
use Rattle.std.proofs.lemmas.List.{append-nil, length-append}
use Rattle.std.proofs.Math.Seq.{take-append_seam}
use Rattle.std.proofs.lemmas.Nat.{from_be_bytes-to_be_bytes_8}
use Rattle.std.proofs.lemmas.Option.{slice_get_within}
use Rattle.nb_units.specs.declared.charter.Charter.{Charter}
use Rattle.nb_units.specs.Frames.{Frame}
use Rattle.nb_escrow.specs.Head.{head_of}
use Rattle.nb_entry.specs.declared.entry.Entry.{Entry}
use Rattle.nb_entry.specs.Spelling.{IsEntry}
use Rattle.nb_book.specs.Legal.{LegalUnder, NextUnder}
use Rattle.nb_book.proofs.Rates.{legal_under_is_next}
use Rattle.nb_turns.specs.declared.limits.TheConstants.{MAX_FAULTS}
use Rattle.nb_turns.specs.declared.mark.Mark.{Mark}
use Rattle.nb_turns.specs.Turns.{Answered, Decides, Doubts, Request, SettlesInto, State, Turn, Unsettled, last_state}
use Rattle.nb_vault.specs.declared.taking.TakeIn.{TakeIn}
use Rattle.nb_vault.specs.declared.taking.TakeIn.TheVariants as takes
use Rattle.nb_vault.specs.Taking.{IsJudged, MayFollow, entry_taken, house_told, nothing_asked}
use Rattle.nb_standby.specs.declared.code.TheConstants.{TAKEN, SAME, WORN}
use Rattle.nb_standby.specs.declared.limits.TheConstants.{SHIPPED_FRAME}
use Rattle.nb_standby.specs.declared.shipped.Shipped.{Shipped}
use Rattle.nb_standby.specs.Answering.{Acknowledges, AcknowledgesAll, CameOf, acknowledgement, body_of, mark_of, record_in}
use Rattle.nb_standby.specs.Following.{code_of}
use Rattle.nb_standby.specs.Reading.{shipped_of}
use Rattle.nb_standby.specs.Spelling.{ship_tag, shipped_bytes, shipped_frames, signed, untold_bytes}
use Rattle.nb_standby.specs.World.{BeginsWith, Delivers, TakesTo, World}
use Rattle.nb_standby.specs.Laws.{AreTaken, FollowIsDeliveries, FollowedStaysFront, Hears, HearsAll, IsDelivered, IsNoFault, IsPassed, OneAcknowledging, TakesAll, frame_in, with_standby}
use Rattle.nb_seal.proofs.Opening.{length-hmac_of}
use Rattle.nb_standby.proofs.Layouts.{shipped_reads_back}
use Rattle.nb_standby.proofs.Fronts.{AreFront, Holds, holds_first, itself, step_holds, takes_stays}

-- ---- deliveries

-- what came of a frame is a delivery, or it is passed over
came_heard : (charter : Charter) (cap : ℕ) (world : World) (read : Result Shipped ℕ) (mark : Mark) (code : ℕ) (new : State)
    → ((r : Shipped) → read ≡ Ok r → r.tag ≡ ship_tag (head_of charter).house r.place r.entry → (k : ℕ) × (slice_get world.sent k ≡ Some (record { place = r.place; entry = r.entry })))
    → CameOf (head_of charter).house charter cap world.standby read mark code new
    → IsPassed (head_of charter).house world read code (with_standby world new) ⊎ IsDelivered charter cap world read code (with_standby world new)
came_heard charter cap world (Err place) mark code new shipped came = inl (came.1, ap (with_standby world) came.2)
came_heard charter cap world (Ok r) mark code new shipped (inl came) = inl (came.0, came.2, ap (with_standby world) came.3)
came_heard charter cap world (Ok r) mark code new shipped (inr came) =
    let there = shipped r refl came.0 in
    inr (record {
      shipped = r;
      spelled = refl;
      signed = came.0;
      number = there.0;
      sent = there.1;
      how = came.1.0;
      code_is = came.1.2;
      step = (record { place = r.place; entry = r.entry }, there.1, new, came.1.3, refl);
    })

pub follow_is_deliveries : FollowIsDeliveries
follow_is_deliveries charter cap world [] [] shipped run = tt
follow_is_deliveries charter cap world (a ∷ answered) (state ∷ states) shipped run =
    let here : Hears charter cap world a (with_standby world state) = record {
      code = run.0.code;
      reply_is = run.0.reply_is;
      came = came_heard charter cap world (record_in a.request) a.mark run.0.code state shipped.0 run.0.came;
    } in
    (here, follow_is_deliveries charter cap (with_standby world state) answered states shipped.1 run.1)
follow_is_deliveries charter cap world [] (state ∷ states) shipped run = absurd run
follow_is_deliveries charter cap world (a ∷ answered) [] shipped run = absurd run

-- ---- fronts

passed_holds : (key : List ℕ) (world : World) (read : Result Shipped ℕ) (code : ℕ) (next : World) → Holds world → IsPassed key world read code next → Holds next
passed_holds key world (Err place) code next holds passed = subst Holds (sym passed.1) holds
passed_holds key world (Ok r) code next holds passed = subst Holds (sym passed.2) holds

heard_holds : (charter : Charter) (cap : ℕ) (world : World) (a : Answered) (next : World) → Holds world → Hears charter cap world a next → Holds next
heard_holds charter cap world a next holds heard = ⊎_elim
    (passed_holds (head_of charter).house world (record_in a.request) heard.code next holds)
    (λ delivered. step_holds charter cap world next (Delivers delivered.number delivered.how) holds delivered.step)
    heard.came

fronts : (charter : Charter) (cap : ℕ) (world : World) (answered : List Answered) (states : List State) → Holds world → HearsAll charter cap world answered (map (with_standby world) states)
    → AllByRecursion (AreFront world.primary) states
fronts charter cap world [] [] holds heard = tt
fronts charter cap world (a ∷ answered) (state ∷ states) holds heard =
    let next = heard_holds charter cap world a (with_standby world state) holds heard.0 in
    (next.front, fronts charter cap (with_standby world state) answered states next heard.1)
fronts charter cap world [] (state ∷ states) holds heard = absurd heard
fronts charter cap world (a ∷ answered) [] holds heard = tt

pub followed_stays_front : FollowedStaysFront
followed_stays_front charter cap world answered states starts shipped run =
    fronts charter cap world answered states (holds_first world starts) (follow_is_deliveries charter cap world answered states shipped run)

-- ---- what stays

-- what came of a frame takes no entry away
came_stays : (charter : Charter) (cap : ℕ) (old : State) (read : Result Shipped ℕ) (mark : Mark) (code : ℕ) (new : State) → CameOf (head_of charter).house charter cap old read mark code new
    → BeginsWith new.entries old.entries
came_stays charter cap old (Err place) mark code new came = subst (λ (s : State). BeginsWith s.entries old.entries) (sym came.2) (itself old.entries)
came_stays charter cap old (Ok r) mark code new (inl came) = subst (λ (s : State). BeginsWith s.entries old.entries) (sym came.3) (itself old.entries)
came_stays charter cap old (Ok r) mark code new (inr came) = takes_stays charter cap old new r.place r.entry came.1.0 came.1.3

pub acknowledged_grows : (charter : Charter) (cap : ℕ) (old : State) (request : Request) (mark : Mark) (reply : List ℕ) (new : State) → Acknowledges charter cap old request mark reply new
    → BeginsWith new.entries old.entries
acknowledged_grows charter cap old request mark reply new a = came_stays charter cap old (record_in request) mark a.code new a.came

-- ---- the cap

-- the entries are within the cap, also with those in doubt
abbrev pub IsWithin : ℕ → State → Type 0
IsWithin cap state = length (state.entries ++ state.doubt) ≤ cap

module _ (charter : Charter) (cap : ℕ) (old new : State) (within : IsWithin cap old) where
  settled_within : (over : List Entry) → SettlesInto old over → length over ≤ cap
  settled_within over (inl is) = omega (arith, within, ap length is, length-append old.entries old.doubt)
  settled_within over (inr is) = omega (arith, within, ap length is)

  nothing_within : (over : List Entry) → Turn (house_told None) old nothing_asked (Decides over) new → IsWithin cap new
  nothing_within over turn = subst (IsWithin cap) (sym turn.2) (omega (arith, settled_within over turn.1, ap length (append-nil (over ++ [])), ap length (append-nil over)))

  unsettled_within : Unsettled old new → IsWithin cap new
  unsettled_within u = subst (IsWithin cap) (sym u.1) within

  failed_within : Unsettled old new ⊎ Doubts (house_told None) old nothing_asked new → IsWithin cap new
  failed_within (inl u) = unsettled_within u
  failed_within (inr d) = absurd (d.some refl)

  doubted_within : (e : Entry) → length new.entries < cap → Unsettled old new ⊎ Doubts (house_told (Some e)) old nothing_asked new → IsWithin cap new
  doubted_within e few (inl u) = unsettled_within u
  doubted_within e few (inr d) =
      omega (arith, few, length-append new.entries new.doubt, ap (λ (s : State). length s.doubt) d.left)

  takes_within : (place : ℕ) (e : Entry) (how : TakeIn) → TakesTo charter cap old place e how new → IsWithin cap new
  takes_within place e takes.Taken t =
      subst (IsWithin cap) (sym t.1.2) (omega (arith, t.2.1.1, length-append t.0 (e ∷ []), ap length (append-nil (t.0 ++ e ∷ []))))
  takes_within place e takes.Same t = nothing_within t.0 t.1
  takes_within place e takes.Other t = nothing_within t.0 t.1
  takes_within place e takes.Ahead t = nothing_within t.0 t.1
  takes_within place e takes.Illegal t = nothing_within t.0 t.1
  takes_within place e (takes.DiskFault before after) (inl turn) = failed_within turn.1
  takes_within place e (takes.DiskFault before after) (inr t) = doubted_within e t.1.1.1 t.0.1
  takes_within place e (takes.Worn faults) t = subst (IsWithin cap) (sym t.1.1) within

came_within : (charter : Charter) (cap : ℕ) (old : State) (read : Result Shipped ℕ) (mark : Mark) (code : ℕ) (new : State) → IsWithin cap old
    → CameOf (head_of charter).house charter cap old read mark code new → IsWithin cap new
came_within charter cap old (Err place) mark code new within came = subst (IsWithin cap) (sym came.2) within
came_within charter cap old (Ok r) mark code new within (inl came) = subst (IsWithin cap) (sym came.3) within
came_within charter cap old (Ok r) mark code new within (inr came) = takes_within charter cap old new within r.place r.entry came.1.0 came.1.3

pub all_within : (charter : Charter) (cap : ℕ) (first : State) (answered : List Answered) (states : List State) → IsWithin cap first → AcknowledgesAll charter cap first answered states
    → AllByRecursion (IsWithin cap) states
all_within charter cap first [] [] within run = tt
all_within charter cap first (a ∷ answered) (next ∷ states) within run =
    let here = came_within charter cap first (record_in a.request) a.mark run.0.code next within run.0.came in
    (here, all_within charter cap next answered states here run.1)
all_within charter cap first [] (next ∷ states) within run = absurd run
all_within charter cap first (a ∷ answered) [] within run = absurd run

-- ---- what is told to stand

there : (over : List Entry) (e : Entry) → slice_get (over ++ e ∷ []) (length over) ≡ Some e
there [] e = refl
there (x ∷ over) e = there over e

taken_there : (charter : Charter) (cap : ℕ) (old : State) (place : ℕ) (e : Entry) (how : TakeIn) (new : State) → TakesTo charter cap old place e how new → (code_of how ≡ TAKEN) ⊎ (code_of how ≡ SAME)
    → slice_get new.entries place ≡ Some e
taken_there charter cap old place e takes.Taken new t told =
    ap (λ (s : State). slice_get s.entries place) t.1.2 ∙ ap (slice_get (t.0 ++ e ∷ [])) t.2.0 ∙ there t.0 e
taken_there charter cap old place e takes.Same new t told =
    ap (λ (s : State). slice_get s.entries place) t.1.2 ∙ ap (λ (es : List Entry). slice_get es place) (append-nil t.0) ∙ t.2
taken_there charter cap old place e takes.Other new t (inl told) = absurd (omega (arith, told))
taken_there charter cap old place e takes.Other new t (inr told) = absurd (omega (arith, told))
taken_there charter cap old place e takes.Ahead new t (inl told) = absurd (omega (arith, told))
taken_there charter cap old place e takes.Ahead new t (inr told) = absurd (omega (arith, told))
taken_there charter cap old place e takes.Illegal new t (inl told) = absurd (omega (arith, told))
taken_there charter cap old place e takes.Illegal new t (inr told) = absurd (omega (arith, told))
taken_there charter cap old place e (takes.DiskFault before after) new t (inl told) = absurd (omega (arith, told))
taken_there charter cap old place e (takes.DiskFault before after) new t (inr told) = absurd (omega (arith, told))
taken_there charter cap old place e (takes.Worn faults) new t (inl told) = absurd (omega (arith, told))
taken_there charter cap old place e (takes.Worn faults) new t (inr told) = absurd (omega (arith, told))

-- a record of the house that stands at its place
pub record StandsThere (key : List ℕ) (read : Result Shipped ℕ) (state : State) : Type 0 where
  pub shipped : Shipped
  pub spelled : read ≡ Ok shipped
  pub signed : shipped.tag ≡ ship_tag key shipped.place shipped.entry
  pub stands : slice_get state.entries shipped.place ≡ Some shipped.entry

pub came_there : (charter : Charter) (cap : ℕ) (old : State) (read : Result Shipped ℕ) (mark : Mark) (code : ℕ) (new : State) → CameOf (head_of charter).house charter cap old read mark code new
    → (code ≡ TAKEN) ⊎ (code ≡ SAME) → StandsThere (head_of charter).house read new
came_there charter cap old (Err place) mark code new came (inl told) = absurd (omega (arith, came.1, told))
came_there charter cap old (Err place) mark code new came (inr told) = absurd (omega (arith, came.1, told))
came_there charter cap old (Ok r) mark code new (inl came) (inl told) = absurd (omega (arith, came.2, told))
came_there charter cap old (Ok r) mark code new (inl came) (inr told) = absurd (omega (arith, came.2, told))
came_there charter cap old (Ok r) mark code new (inr came) told = record {
  shipped = r;
  spelled = refl;
  signed = came.0;
  stands = taken_there charter cap old r.place r.entry came.1.0 new came.1.3 (subst (λ (n : ℕ). (n ≡ TAKEN) ⊎ (n ≡ SAME)) came.1.2 told);
}

-- what an acknowledgement tells stands in its bytes
pub told_once : (key : List ℕ) (code code' n n' : ℕ) → n < 2 ^ 64 → n' < 2 ^ 64 → acknowledgement key code n ≡ acknowledgement key code' n' → (code ≡ code') × (n ≡ n')
unfolding untold_bytes
told_once key code code' n n' fits fits' same = (
  ap (λ (bytes : List ℕ). slice_index bytes 8) same,
  sym (from_be_bytes-to_be_bytes_8 n fits) ∙ ap (λ (bytes : List ℕ). from_be_bytes w64 (take 8 (drop 9 bytes))) same ∙ from_be_bytes-to_be_bytes_8 n' fits',
)

-- ---- one answer

judged_once : (charter : Charter) (cap : ℕ) (over : List Entry) (place : ℕ) (e : Entry) (how how' : TakeIn) → IsJudged charter cap over place e how → IsJudged charter cap over place e how' → how ≡ how'
judged_once charter cap over place e takes.Same takes.Same one two = refl
judged_once charter cap over place e takes.Same takes.Other one two = absurd (two.1 one)
judged_once charter cap over place e takes.Same takes.Ahead one two = absurd (omega (arith, two, slice_get_within over place e one))
judged_once charter cap over place e takes.Same takes.Illegal one two = absurd (omega (arith, two.0, slice_get_within over place e one))
judged_once charter cap over place e takes.Same takes.Taken one two = absurd (omega (arith, two.0, slice_get_within over place e one))
judged_once charter cap over place e takes.Other takes.Same one two = absurd (one.1 two)
judged_once charter cap over place e takes.Other takes.Other one two = refl
judged_once charter cap over place e takes.Other takes.Ahead one two = absurd (omega (arith, one.0, two))
judged_once charter cap over place e takes.Other takes.Illegal one two = absurd (omega (arith, one.0, two.0))
judged_once charter cap over place e takes.Other takes.Taken one two = absurd (omega (arith, one.0, two.0))
judged_once charter cap over place e takes.Ahead takes.Same one two = absurd (omega (arith, one, slice_get_within over place e two))
judged_once charter cap over place e takes.Ahead takes.Other one two = absurd (omega (arith, one, two.0))
judged_once charter cap over place e takes.Ahead takes.Ahead one two = refl
judged_once charter cap over place e takes.Ahead takes.Illegal one two = absurd (omega (arith, one, two.0))
judged_once charter cap over place e takes.Ahead takes.Taken one two = absurd (omega (arith, one, two.0))
judged_once charter cap over place e takes.Illegal takes.Same one two = absurd (omega (arith, one.0, slice_get_within over place e two))
judged_once charter cap over place e takes.Illegal takes.Other one two = absurd (omega (arith, one.0, two.0))
judged_once charter cap over place e takes.Illegal takes.Ahead one two = absurd (omega (arith, one.0, two))
judged_once charter cap over place e takes.Illegal takes.Illegal one two = refl
judged_once charter cap over place e takes.Illegal takes.Taken one two = absurd (one.1 two.1)
judged_once charter cap over place e takes.Taken takes.Same one two = absurd (omega (arith, one.0, slice_get_within over place e two))
judged_once charter cap over place e takes.Taken takes.Other one two = absurd (omega (arith, one.0, two.0))
judged_once charter cap over place e takes.Taken takes.Ahead one two = absurd (omega (arith, one.0, two))
judged_once charter cap over place e takes.Taken takes.Illegal one two = absurd (two.1 one.1)
judged_once charter cap over place e takes.Taken takes.Taken one two = refl
judged_once charter cap over place e how (takes.DiskFault before after) one two = absurd two
judged_once charter cap over place e how (takes.Worn faults) one two = absurd two
judged_once charter cap over place e (takes.DiskFault before after) how' one two = absurd one
judged_once charter cap over place e (takes.Worn faults) how' one two = absurd one

abbrev at_rest_over : List Entry → ℕ → State
at_rest_over entries faults = record { entries = entries; doubt = []; faults = faults }

module _ (charter : Charter) (cap : ℕ) (old : State) (place : ℕ) (e : Entry) (none : old.doubt ≡ []) where
  -- what is left where an entry was taken in so over the entries
  abbrev left_by : TakeIn → State
  left_by how = at_rest_over (old.entries ++ (option_to_list (entry_taken e how) ++ [])) old.faults

  -- by the code and the state behind it: it was taken in so over the entries, or too many turns failed before
  abbrev Went : ℕ → State → Type 0
  Went code new =
      ((how : TakeIn) × (code ≡ code_of how) × (old.faults < MAX_FAULTS) × IsJudged charter cap old.entries place e how × (new ≡ left_by how))
      ⊎ ((old.faults ≡ MAX_FAULTS) × (code ≡ WORN) × (new ≡ old))

  settled_once : (over : List Entry) → SettlesInto old over → over ≡ old.entries
  settled_once over (inl same) = same
  settled_once over (inr same) = same ∙ ap (λ (es : List Entry). old.entries ++ es) none ∙ append-nil old.entries

  decided : (how : TakeIn) (code : ℕ) (new : State) (over : List Entry) → code ≡ code_of how → Turn (house_told (entry_taken e how)) old nothing_asked (Decides over) new
      → IsJudged charter cap over place e how → Went code new
  decided how code new over is turn judged =
      let same : over ≡ old.entries = settled_once over turn.1 in
      inl (
        how,
        is,
        turn.0,
        subst (λ (es : List Entry). IsJudged charter cap es place e how) same judged,
        turn.2 ∙ ap (λ (es : List Entry). at_rest_over (es ++ (option_to_list (entry_taken e how) ++ [])) old.faults) same,
      )

  went : (how : TakeIn) (code : ℕ) (new : State) → IsNoFault (mark_of place how) → code ≡ code_of how → TakesTo charter cap old place e how new → Went code new
  went takes.Taken code new fine is t = decided takes.Taken code new t.0 is t.1 t.2
  went takes.Same code new fine is t = decided takes.Same code new t.0 is t.1 t.2
  went takes.Other code new fine is t = decided takes.Other code new t.0 is t.1 t.2
  went takes.Ahead code new fine is t = decided takes.Ahead code new t.0 is t.1 t.2
  went takes.Illegal code new fine is t = decided takes.Illegal code new t.0 is t.1 t.2
  went (takes.DiskFault before after) code new fine is t = absurd fine
  went (takes.Worn faults) code new fine is t = inr (t.1.0, is, t.1.1)

  went_once : (code code' : ℕ) (new new' : State) → Went code new → Went code' new' → (code ≡ code') × (new ≡ new') × (new.doubt ≡ [])
  went_once code code' new new' (inl one) (inl two) =
      let same : one.0 ≡ two.0 = judged_once charter cap old.entries place e one.0 two.0 one.3 two.3 in
      (one.1 ∙ ap code_of same ∙ sym two.1, one.4 ∙ ap left_by same ∙ sym two.4, ap (λ (s : State). s.doubt) one.4)
  went_once code code' new new' (inl one) (inr two) = absurd (omega (arith, one.2, two.0))
  went_once code code' new new' (inr one) (inl two) = absurd (omega (arith, one.0, two.2))
  went_once code code' new new' (inr one) (inr two) = (one.1 ∙ sym two.1, one.2 ∙ sym two.2, ap (λ (s : State). s.doubt) one.2 ∙ none)

came_once : (charter : Charter) (cap : ℕ) (old : State) (read : Result Shipped ℕ) (mark mark' : Mark) (code code' : ℕ) (new new' : State) → old.doubt ≡ [] → IsNoFault mark → IsNoFault mark'
    → CameOf (head_of charter).house charter cap old read mark code new → CameOf (head_of charter).house charter cap old read mark' code' new' → (code ≡ code') × (new ≡ new') × (new.doubt ≡ [])
came_once charter cap old (Err place) mark mark' code code' new new' none fine fine' one two = (one.1 ∙ sym two.1, one.2 ∙ sym two.2, ap (λ (s : State). s.doubt) one.2 ∙ none)
came_once charter cap old (Ok r) mark mark' code code' new new' none fine fine' (inl one) (inl two) = (one.2 ∙ sym two.2, one.3 ∙ sym two.3, ap (λ (s : State). s.doubt) one.3 ∙ none)
came_once charter cap old (Ok r) mark mark' code code' new new' none fine fine' (inl one) (inr two) = absurd (one.0 two.0)
came_once charter cap old (Ok r) mark mark' code code' new new' none fine fine' (inr one) (inl two) = absurd (two.0 one.0)
came_once charter cap old (Ok r) mark mark' code code' new new' none fine fine' (inr one) (inr two) =
    went_once charter cap old r.place r.entry none code code' new new'
    (went charter cap old r.place r.entry none one.1.0 code new (subst IsNoFault one.1.1 fine) one.1.2 one.1.3)
    (went charter cap old r.place r.entry none two.1.0 code' new' (subst IsNoFault two.1.1 fine') two.1.2 two.1.3)

first_frame : (f g : Frame) (fs gs : List Frame) → f ∷ fs ≡ g ∷ gs → (f ≡ g) × (fs ≡ gs)
first_frame f g fs gs same = (cc, cc)

no_frame : (f : Frame) (fs : List Frame) → [] ≡ f ∷ fs → ⊥
no_frame f fs same = cc

cons_same : {A : Type 0} (x y : A) (xs ys : List A) → x ≡ y → xs ≡ ys → x ∷ xs ≡ y ∷ ys
cons_same x y xs ys first rest = cc

-- the record that a frame spells
abbrev read_of : Frame → Result Shipped ℕ
read_of f = shipped_of (body_of f.kind f.body)

pub one_acknowledging : OneAcknowledging
one_acknowledging charter cap first [] [] [] [] none same fine fine' run run' = (refl, refl)
one_acknowledging charter cap first (a ∷ answered) (b ∷ others) (s ∷ states) (t ∷ ends) none same fine fine' run run' =
    let frames = first_frame (frame_in a) (frame_in b) (map frame_in answered) (map frame_in others) same in
    let key = (head_of charter).house in
    let here = came_once charter cap first (record_in a.request) a.mark b.mark run.0.code run'.0.code s t none fine.0 fine'.0 run.0.came
    (subst (λ (read : Result Shipped ℕ). CameOf key charter cap first read b.mark run'.0.code t) (sym (ap read_of frames.0)) run'.0.came)
    in
    let rest = one_acknowledging charter cap s answered others states ends here.2 frames.1 fine.1 fine'.1 run.1
    (subst (λ (state : State). AcknowledgesAll charter cap state others ends) (sym here.1) run'.1)
    in
    let reply : a.reply ≡ b.reply =
    run.0.reply_is ∙ ap (λ (n : ℕ). acknowledgement key n (length s.entries)) here.0
    ∙ ap (λ (state : State). acknowledgement key run'.0.code (length state.entries)) here.1 ∙ sym run'.0.reply_is
    in
    (cons_same s t states ends here.1 rest.0, cons_same a.reply b.reply (map (λ (x : Answered). x.reply) answered) (map (λ (x : Answered). x.reply) others) reply rest.1)
one_acknowledging charter cap first [] [] (s ∷ states) ends none same fine fine' run run' = absurd run
one_acknowledging charter cap first [] [] [] (t ∷ ends) none same fine fine' run run' = absurd run'
one_acknowledging charter cap first [] (b ∷ others) states ends none same fine fine' run run' = absurd (no_frame (frame_in b) (map frame_in others) same)
one_acknowledging charter cap first (a ∷ answered) [] states ends none same fine fine' run run' = absurd (no_frame (frame_in a) (map frame_in answered) (sym same))
one_acknowledging charter cap first (a ∷ answered) (b ∷ others) [] ends none same fine fine' run run' = absurd run
one_acknowledging charter cap first (a ∷ answered) (b ∷ others) (s ∷ states) [] none same fine fine' run run' = absurd run'

-- ---- all are taken in

module _ (charter : Charter) (cap : ℕ) (first : State) (e : Entry) (more : List Entry) (none : first.doubt ≡ []) (few : first.faults < MAX_FAULTS)
    (legal : LegalUnder charter.version charter.rate (first.entries ++ e ∷ more)) (short : length (first.entries ++ e ∷ more) ≤ cap) where
  -- the next entry may come
  may_follow : MayFollow charter cap first.entries e
  may_follow =
      let inside : length first.entries < length (first.entries ++ e ∷ more) = omega (arith, length-append first.entries (e ∷ more)) in
      let at = (legal_under_is_next charter.version charter.rate (first.entries ++ e ∷ more)).0 legal (length first.entries) inside e in (
        subst (λ (H : List Entry). NextUnder charter.version charter.rate H e) (take-append_seam first.entries (e ∷ more))
            (subst (NextUnder charter.version charter.rate (take (length first.entries) (first.entries ++ e ∷ more))) (seam first.entries e more) at),
        omega (arith, inside, short),
      )
    where
      seam : (over : List Entry) (d : Entry) (rest : List Entry) → get_or (over ++ d ∷ rest) (length over) d ≡ d
      seam [] d rest = refl
      seam (x ∷ over) d rest = seam over d rest

  -- where a record of it was read it is taken in
  next_taken : (code : ℕ) (mark : Mark) (new : State) → IsNoFault mark → CameOf (head_of charter).house charter cap first (Ok (signed (head_of charter).house (length first.entries) e)) mark code new
      → (code ≡ TAKEN) × (new ≡ at_rest_over (first.entries ++ e ∷ []) first.faults)
  next_taken code mark new fine (inl other) = absurd (other.0 refl)
  next_taken code mark new fine (inr came) = ⊎_elim
      (λ w.
      let same : w.0 ≡ takes.Taken = judged_once charter cap first.entries (length first.entries) e w.0 takes.Taken w.3 (refl, may_follow) in
      let both : (code ≡ TAKEN) × (new ≡ at_rest_over (first.entries ++ e ∷ []) first.faults) =
      (w.1 ∙ ap code_of same, w.4 ∙ ap (left_by charter cap first (length first.entries) e none) same) in
      both)
      (λ w. absurd (omega (arith, few, w.0)))
      (went charter cap first (length first.entries) e none came.1.0 code new (subst IsNoFault came.1.1 fine) came.1.2 came.1.3)

-- the record that is read of its frame
own_record : (key : List ℕ) (place : ℕ) (e : Entry) → place < 2 ^ 64 → IsEntry e → shipped_of (shipped_bytes (signed key place e)) ≡ Ok (signed key place e)
own_record key place e small is = shipped_reads_back (signed key place e) (record { place = small; entry = is; tag = length-hmac_of key _ })

pub takes_all : TakesAll
takes_all charter cap first [] [] [] none few are legal short narrow spelled fine run = (tt, rest)
  where
    rest : first ≡ record { entries = first.entries ++ []; doubt = []; faults = first.faults }
    rest = rw (append-nil first.entries, ← none) refl
takes_all charter cap first (e ∷ entries) (a ∷ answered) (state ∷ states) none few are legal short narrow spelled fine run =
    let key = (head_of charter).house in
    let place = length first.entries in
    let frames = first_frame (frame_in a) (record { kind = SHIPPED_FRAME; body = shipped_bytes (signed key place e) }) (map frame_in answered) (shipped_frames key (place + 1) entries) spelled in
    let small : place < 2 ^ 64 = omega (arith, short, narrow, length-append first.entries (e ∷ entries)) in
    let read : record_in a.request ≡ Ok (signed key place e) = ap read_of frames.0 ∙ own_record key place e small are.0 in
    let here = next_taken charter cap first e entries none few legal short run.0.code a.mark state fine.0
    (subst (λ (r : Result Shipped ℕ). CameOf key charter cap first r a.mark run.0.code state) read run.0.came) in
    let next : State = at_rest_over (first.entries ++ e ∷ []) first.faults in
    let joined : (first.entries ++ e ∷ []) ++ entries ≡ first.entries ++ e ∷ entries = append_assoc first.entries (e ∷ []) entries in
    let long : length (first.entries ++ e ∷ []) ≡ place + 1 = length-append first.entries (e ∷ []) in
    let rest = takes_all charter cap next entries answered states refl few are.1
    (subst (LegalUnder charter.version charter.rate) (sym joined) legal)
    (subst (λ (es : List Entry). length es ≤ cap) (sym joined) short)
    narrow
    (frames.1 ∙ ap (λ (n : ℕ). shipped_frames key n entries) (sym long))
    fine.1
    (subst (λ (s : State). AcknowledgesAll charter cap s answered states) here.1 run.1)
    in
    let reply : a.reply ≡ acknowledgement key TAKEN (place + 1) =
    run.0.reply_is ∙ ap (λ (n : ℕ). acknowledgement key n (length state.entries)) here.0
    ∙ ap (λ (s : State). acknowledgement key TAKEN (length s.entries)) here.1 ∙ ap (acknowledgement key TAKEN) long
    in (
      (reply, subst (λ (n : ℕ). AreTaken key n answered) long rest.0),
      ap (λ (s : State). last_state s states) here.1 ∙ rest.1 ∙ ap (λ (es : List Entry). at_rest_over es first.faults) joined,
    )
takes_all charter cap first [] (a ∷ answered) states none few are legal short narrow spelled fine run = absurd (no_frame (frame_in a) (map frame_in answered) (sym spelled))
takes_all charter cap first (e ∷ entries) [] states none few are legal short narrow spelled fine run =
    absurd (no_frame (record { kind = SHIPPED_FRAME; body = shipped_bytes (signed (head_of charter).house (length first.entries) e) }) (shipped_frames (head_of charter).house (length first.entries + 1) entries) spelled)
takes_all charter cap first [] [] (state ∷ states) none few are legal short narrow spelled fine run = absurd run
takes_all charter cap first (e ∷ entries) (a ∷ answered) [] none few are legal short narrow spelled fine run = absurd run
