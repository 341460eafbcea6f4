-- A primary, its standby, and the commands over both.
use Rattle.std.proofs.Common.{◌≡◌, ◌⊎◌, inl, inr, ℕ, zero, suc, ◌+◌, ◌<◌, ◌≤◌, List, [], ◌∷◌, ◌++◌, length, map, drop, Option, Some, None, IfSome, Result, Ok, Err, refl, sym, ap, subst, ◌∙◌, append_assoc, arith}
use Rattle.std.specs.Prelude.{◌^◌}
use Rattle.std.specs.List.{slice_get, AllByRecursion}
use Rattle.std.specs.Io.KnownBytes.{Appends}
use Rattle.std.proofs.lemmas.List.{append-nil, length-append}
use Rattle.nb_units.specs.declared.charter.Charter.{Charter}
use Rattle.nb_units.specs.Frames.{Frame}
use Rattle.nb_port.specs.Tells.{DiskTells}
use Rattle.nb_seal.proofs.Opening.{length-hmac_of}
use Rattle.nb_entry.specs.declared.entry.Entry.{Entry}
use Rattle.nb_entry.specs.Spelling.{IsEntry}
use Rattle.nb_escrow.specs.Head.{head_of}
use Rattle.nb_turns.specs.declared.mark.Mark.{Mark}
use Rattle.nb_turns.specs.Turns.{Answered, Request, SettlesInto, State}
use Rattle.nb_vault.specs.declared.taking.TakeIn.{TakeIn}
use Rattle.nb_vault.specs.declared.taking.TakeIn.TheVariants as takes
use Rattle.nb_vault.specs.declared.vault.opening.VaultFault.{VaultFault}
use Rattle.nb_vault.specs.declared.vault.opening.VaultFault.TheVariants.{Unborn, Damaged, BadEntry, DiskFault, NoMemory}
use Rattle.nb_vault.specs.Holdings.{StandsFor}
use Rattle.nb_vault.proofs.HoldingLaws.{one_list}
use Rattle.nb_standby.specs.declared.code.TheConstants.{TAKEN, SAME, OTHER}
use Rattle.nb_standby.specs.declared.limits.TheConstants.{SHIPPED_FRAME}
use Rattle.nb_standby.specs.declared.shipped.Shipped.{Shipped}
use Rattle.nb_standby.specs.Answering.{Acknowledges, AcknowledgesAll, CameOf, acknowledgement, body_of, record_in}
use Rattle.nb_standby.specs.Following.{code_of}
use Rattle.nb_standby.specs.Laws.{AreShippedIn, IsShippedIn, frame_in}
use Rattle.nb_standby.specs.Reading.{shipped_of}
use Rattle.nb_standby.specs.Spelling.{ship_tag, shipped_bytes, shipped_frames, signed}
use Rattle.nb_standby.specs.World.{BeginsWith, Happens, Sent, Starts, TakesTo, World}
use Rattle.nb_standby.proofs.Layouts.{shipped_reads_back}
use Rattle.nb_standby.proofs.Runs.{IsWithin, all_within, followed_stays_front, told_once}
use Rattle.nb_batch.specs.Acknowledged.{StandsForMore}
use Rattle.nb_batch.proofs.Staying.{told}
use Rattle.nb_commands.specs.declared.ending.Ending.{Ending}
use Rattle.nb_commands.specs.declared.ending.TheConstants.{CLEAN}
use Rattle.nb_commands.specs.Opening.{unopened}
use Rattle.nb_commands.specs.Promote.{PromoteIs, Promoted, promoted_line}
use Rattle.nb_headline.specs.Standby.{OtherIsNeverTold, PromotedHasTold, ShipsAll, ShipsAreShipped, TellsOf, last_world, ships}

-- ---- lists

-- the element behind a front
behind : {A : Type 0} (front : List A) (x : A) (more : List A) → slice_get (front ++ x ∷ more) (length front) ≡ Some x
behind [] x more = refl
behind (y ∷ front) x more = behind front x more

-- a place within a front
within_front : {A : Type 0} (front more : List A) (k : ℕ) → k < length front → slice_get (front ++ more) k ≡ slice_get front k
within_front [] more k few = absurd (omega (arith, few))
within_front (x ∷ front) more zero few = refl
within_front (x ∷ front) more (suc k) few = within_front front more k (omega (arith, few))

-- what stands there stands in more
stays_there : {A : Type 0} (front more : List A) (k : ℕ) (x : A) → slice_get front k ≡ Some x → slice_get (front ++ more) k ≡ Some x
stays_there [] more k x is = absurd cc
stays_there (y ∷ front) more zero x is = is
stays_there (y ∷ front) more (suc k) x is = stays_there front more k x is

picked : {A : Type 0} (P : A → Type 0) (xs : List A) (k : ℕ) (x : A) → AllByRecursion P xs → slice_get xs k ≡ Some x → P x
picked P [] k x all is = absurd cc
picked P (y ∷ xs) zero x all is = subst P (same y x is) all.0
  where
    same : {A : Type 0} (y x : A) → Some y ≡ Some x → y ≡ x
    same y x e = cc
picked P (y ∷ xs) (suc k) x all is = picked P xs k x all.1 is

-- what is left behind a place begins with what stands there
first_left : {A : Type 0} (xs : List A) (k : ℕ) (x : A) (more : List A) → drop k xs ≡ x ∷ more → slice_get xs k ≡ Some x
first_left [] zero x more is = absurd cc
first_left [] (suc k) x more is = absurd cc
first_left (y ∷ xs) zero x more is = cc
first_left (y ∷ xs) (suc k) x more is = first_left xs k x more is

next_left : {A : Type 0} (xs : List A) (k : ℕ) (x : A) (more : List A) → drop k xs ≡ x ∷ more → drop (k + 1) xs ≡ more
next_left [] zero x more is = absurd cc
next_left [] (suc k) x more is = absurd cc
next_left (y ∷ xs) zero x more is = cc
next_left (y ∷ xs) (suc k) x more is = ap (λ (n : ℕ). drop n (y ∷ xs)) one ∙ next_left xs k x more is
  where
    one : suc k + 1 ≡ suc (k + 1)
    one = omega arith

all_left : {A : Type 0} (P : A → Type 0) (xs : List A) (k : ℕ) → AllByRecursion P xs → AllByRecursion P (drop k xs)
all_left P xs zero all = all
all_left P [] (suc k) all = tt
all_left P (x ∷ xs) (suc k) all = all_left P xs k all.1

first_frame : (f g : Frame) (fs gs : List Frame) → f ∷ fs ≡ g ∷ gs → (f ≡ g) × (fs ≡ gs)
first_frame f g fs gs same = (cc, cc)

-- ---- what a primary ships

-- the entries behind these places, as they are shipped
abbrev sent_of : ℕ → List Entry → List Sent
sent_of place [] = []
sent_of place (e ∷ entries) = record { place = place; entry = e } ∷ sent_of (place + 1) entries

-- the world where these were shipped, too
abbrev with_sent : World → List Sent → World
with_sent world more = record { primary = world.primary; sent = world.sent ++ more; standby = world.standby }

-- the events happen, and nothing else has changed
record Shipped_on (charter : Charter) (cap : ℕ) (world : World) (place : ℕ) (entries : List Entry) : Type 0 where
  worlds : List World
  happens : Happens charter cap world (ships place entries) worlds
  last : last_world world worlds ≡ with_sent world (sent_of place entries)

shipped_on : (charter : Charter) (cap : ℕ) (world : World) (place : ℕ) (entries : List Entry) → drop place world.primary ≡ entries → Shipped_on charter cap world place entries
shipped_on charter cap world place [] is = record {
  worlds = [];
  happens = tt;
  last = ap (λ (ss : List Sent). record { primary = world.primary; sent = ss; standby = world.standby }) (sym (append-nil world.sent));
}
shipped_on charter cap world place (e ∷ entries) is =
    let one : Sent = record { place = place; entry = e } in
    let next : World = with_sent world (one ∷ []) in
    let rest = shipped_on charter cap next (place + 1) entries (next_left world.primary place e entries is) in
    record {
      worlds = next ∷ rest.worlds;
      happens = ((e, first_left world.primary place e entries is, refl), rest.happens);
      last = rest.last ∙ ap (λ (ss : List Sent). record { primary = world.primary; sent = ss; standby = world.standby }) (append_assoc world.sent (one ∷ []) (sent_of (place + 1) entries));
    }

-- the record that is read of its frame
own_record : (key : List ℕ) (place : ℕ) (e : Entry) → place < 2 ^ 64 → IsEntry e → shipped_of (shipped_bytes (signed key place e)) ≡ Ok (signed key place e)
own_record key place e small is = shipped_reads_back (signed key place e) (record { place = small; entry = is; tag = length-hmac_of key _ })

-- the record that a frame spells
abbrev read_of : Frame → Result Shipped ℕ
read_of f = shipped_of (body_of f.kind f.body)

same_record : (a b : Shipped) → (let first : Result Shipped ℕ = Ok a in first ≡ Ok b) → a ≡ b
same_record a b e = cc

-- frames that spell the records of what was shipped
are_shipped : (charter : Charter) (world : World) (before : List Sent) (place : ℕ) (entries : List Entry) (answered : List Answered) → AllByRecursion IsEntry entries → place + length entries < 2 ^ 64
    → world.sent ≡ before ++ sent_of place entries → map frame_in answered ≡ shipped_frames (head_of charter).house place entries → AreShippedIn charter world answered
are_shipped charter world before place entries [] are few is frames = tt
are_shipped charter world before place [] (a ∷ answered) are few is frames = absurd cc
are_shipped charter world before place (e ∷ entries) (a ∷ answered) are few is frames =
    let key = (head_of charter).house in
    let one : Sent = record { place = place; entry = e } in
    let parts = first_frame (frame_in a) (record { kind = SHIPPED_FRAME; body = shipped_bytes (signed key place e) }) (map frame_in answered) (shipped_frames key (place + 1) entries) frames in
    let read : record_in a.request ≡ Ok (signed key place e) = ap read_of parts.0 ∙ own_record key place e (omega (arith, few)) are.0 in
    let there : slice_get world.sent (length before) ≡ Some one = ap (λ (ss : List Sent). slice_get ss (length before)) is ∙ behind before one (sent_of (place + 1) entries) in
    let here : IsShippedIn key world a.request = λ r reads tag.
    (length before, there ∙ ap (λ (s : Shipped). Some (record { place = s.place; entry = s.entry })) (same_record (signed key place e) r (sym read ∙ reads)))
    in
    (here, are_shipped charter world (before ++ one ∷ []) (place + 1) entries answered are.1 (omega (arith, few)) (is ∙ sym (append_assoc before (one ∷ []) (sent_of (place + 1) entries))) parts.1)

pub ships_are_shipped : ShipsAreShipped
ships_are_shipped charter cap world from are few within =
    let left = drop from world.primary in
    let s = shipped_on charter cap world from left refl in
    record {
      worlds = s.worlds;
      happens = s.happens;
      primary = ap (λ (w : World). w.primary) s.last;
      standby = ap (λ (w : World). w.standby) s.last;
      shipped = λ answered frames.
          are_shipped charter (last_world world s.worlds) world.sent from left answered (all_left IsEntry world.primary from are) (short world.primary from few within)
          (ap (λ (w : World). w.sent) s.last) frames;
    }
  where
    short : (xs : List Entry) (k : ℕ) → length xs < 2 ^ 64 → k ≤ length xs → k + length (drop k xs) < 2 ^ 64
    short xs zero few within = omega (arith, few)
    short [] (suc k) few within = absurd (omega (arith, within))
    short (x ∷ xs) (suc k) few within = by (length (drop k xs)) (shorter xs k (omega (arith, within)))
      where
        shorter : (ys : List Entry) (j : ℕ) → j ≤ length ys → j + length (drop j ys) ≡ length ys
        shorter ys zero le = omega arith
        shorter [] (suc j) le = absurd (omega (arith, le))
        shorter (y ∷ ys) (suc j) le = let rest = shorter ys j (omega (arith, le)) in omega (arith, rest)

        by : (n : ℕ) → k + n ≡ length xs → suc k + n < 2 ^ 64
        by n is = omega (arith, few, is)

-- ---- what an acknowledgement shows

abbrev AreFront : List Entry → State → Type 0
AreFront all state = BeginsWith all state.entries × BeginsWith all (state.entries ++ state.doubt)

module _ (key : List ℕ) (charter : Charter) (cap : ℕ) (all : List Entry) where
  settled : (old : State) (over : List Entry) → AreFront all old → SettlesInto old over → BeginsWith all over
  settled old over front (inl same) = subst (BeginsWith all) (sym same) front.0
  settled old over front (inr same) = subst (BeginsWith all) (sym same) front.1

  -- no other entry stands at the place of an entry of the primary's
  no_other : (old new : State) (place : ℕ) (e : Entry) (how : TakeIn) → AreFront all old → slice_get all place ≡ Some e → TakesTo charter cap old place e how new → code_of how ≡ OTHER → ⊥
  no_other old new place e takes.Other front there t is =
      let begins = settled old t.0 front t.1.1 in
      t.2.1 (sym (within_front t.0 begins.0 place t.2.0) ∙ ap (λ (es : List Entry). slice_get es place) (sym begins.1) ∙ there)
  no_other old new place e takes.Taken front there t is = omega (arith, is)
  no_other old new place e takes.Same front there t is = omega (arith, is)
  no_other old new place e takes.Ahead front there t is = omega (arith, is)
  no_other old new place e takes.Illegal front there t is = omega (arith, is)
  no_other old new place e (takes.DiskFault before after) front there t is = omega (arith, is)
  no_other old new place e (takes.Worn faults) front there t is = omega (arith, is)

  -- each frame that spells a record of the house spells one of the primary's
  abbrev IsOfPrimary : Request → Type 0
  IsOfPrimary request = (r : Shipped) → record_in request ≡ Ok r → r.tag ≡ ship_tag (head_of charter).house r.place r.entry → slice_get all r.place ≡ Some r.entry

  came_no_other : (old new : State) (read : Result Shipped ℕ) (mark : Mark) (code : ℕ) → AreFront all old
      → ((r : Shipped) → read ≡ Ok r → r.tag ≡ ship_tag (head_of charter).house r.place r.entry → slice_get all r.place ≡ Some r.entry)
      → CameOf (head_of charter).house charter cap old read mark code new → code ≡ OTHER → ⊥
  came_no_other old new (Err place) mark code front there came is = omega (arith, is, came.1)
  came_no_other old new (Ok r) mark code front there (inl came) is = omega (arith, is, came.2)
  came_no_other old new (Ok r) mark code front there (inr came) is =
      no_other old new r.place r.entry came.1.0 front (there r refl came.0) came.1.3 (sym came.1.2 ∙ is)

  never : (old : State) (answered : List Answered) (states : List State) → AreFront all old → AllByRecursion (AreFront all) states → AllByRecursion (IsWithin cap) states → cap < 2 ^ 64
      → AllByRecursion (λ (a : Answered). IsOfPrimary a.request) answered → AcknowledgesAll charter cap old answered states
      → (turn n : ℕ) (one : Answered) → slice_get answered turn ≡ Some one → n < 2 ^ 64 → one.reply ≡ acknowledgement (head_of charter).house OTHER n → ⊥
  never old (a ∷ answered) (state ∷ states) front fronts within narrow of run zero n one asked fits says =
      let same : a ≡ one = first_is a one asked in
      let reply : a.reply ≡ acknowledgement (head_of charter).house OTHER n = ap (λ (x : Answered). x.reply) same ∙ says in
      let long : length state.entries < 2 ^ 64 = omega (arith, narrow, within.0, length-append state.entries state.doubt) in
      let codes = told_once (head_of charter).house run.0.code OTHER (length state.entries) n long fits (sym run.0.reply_is ∙ reply) in
      came_no_other old state (record_in a.request) a.mark run.0.code front of.0 run.0.came codes.0
    where
      first_is : (x y : Answered) → (let first : Option Answered = Some x in first ≡ Some y) → x ≡ y
      first_is x y e = cc
  never old (a ∷ answered) (state ∷ states) front fronts within narrow of run (suc turn) n one asked fits says =
      never state answered states fronts.0 fronts.1 within.1 narrow of.1 run.1 turn n one asked fits says
  never old [] states front fronts within narrow of run turn n one asked fits says = absurd cc
  never old (a ∷ answered) [] front fronts within narrow of run turn n one asked fits says = absurd run

-- what was shipped is the primary's
of_primary : (charter : Charter) (world : World) (answered : List Answered) → Starts world → AreShippedIn charter world answered
    → AllByRecursion (λ (a : Answered). (r : Shipped) → record_in a.request ≡ Ok r → r.tag ≡ ship_tag (head_of charter).house r.place r.entry → slice_get world.primary r.place ≡ Some r.entry) answered
of_primary charter world [] starts shipped = tt
of_primary charter world (a ∷ answered) starts shipped = (
  λ r reads tag.
      let there = shipped.0 r reads tag in
      picked (λ (s : Sent). slice_get world.primary s.place ≡ Some s.entry) world.sent there.0 (record { place = r.place; entry = r.entry }) starts.sent there.1,
  of_primary charter world answered starts shipped.1,
)

pub other_is_never_told : OtherIsNeverTold
other_is_never_told charter cap world answered states narrow within starts shipped run turn n one asked fits says =
    let all_there : world.standby.entries ++ world.standby.doubt ≡ world.standby.entries = ap (λ (es : List Entry). world.standby.entries ++ es) starts.none ∙ append-nil world.standby.entries in
    let front : AreFront world.primary world.standby = (starts.front, subst (BeginsWith world.primary) (sym all_there) starts.front) in
    let first : IsWithin cap world.standby = subst (λ (es : List Entry). length es ≤ cap) (sym all_there) within in
    never (head_of charter).house charter cap world.primary world.standby answered states front (followed_stays_front charter cap world answered states starts shipped run)
    (all_within charter cap world.standby answered states first run) narrow (of_primary charter world answered starts shipped) run turn n one asked fits says

-- ---- what promoting tells

-- where nothing was opened the status is another one
not_clean : (fault : VaultFault) → (unopened fault).status ≡ CLEAN → ⊥
not_clean (Unborn found) e = omega (arith, e)
not_clean (Damaged item place) e = omega (arith, e)
not_clean (BadEntry item) e = omega (arith, e)
not_clean (DiskFault before after) e = omega (arith, e)
not_clean NoMemory e = omega (arith, e)

some_has : (P : List ℕ → Type 0) (o : Option (List ℕ)) (image : List ℕ) → o ≡ Some image → IfSome o P → P image
some_has P (Some other) image is has = subst P (same other image is) has
  where
    same : (x y : List ℕ) → (let first : Option (List ℕ) = Some x in first ≡ Some y) → x ≡ y
    same x y e = cc
some_has P None image is has = absurd cc

module _ {D : Type 0} (tells : DiskTells D) (only_now : (d : D) (c : List ℕ) → tells.left d (tells.moment d) c → tells.allowed d c) where
  pub promoted_has_told : PromotedHasTold tells
  promoted_has_told t image left old new sent sent' ending content (inl u) clean =
      absurd (not_clean u.fault (sym (ap (λ (e : Ending). e.status) u.ends) ∙ clean))
  promoted_has_told t image left old new sent sent' ending content (inr p) clean =
      let stays = told tells only_now t in
      let more : StandsForMore t.charter t.cap t.state.entries image = stays.images image left in
      let opens : StandsFor p.opened.charter p.opened.cap p.opened.entries image = some_has (StandsFor p.opened.charter p.opened.cap p.opened.entries) (tells.content old) image content p.opened.stands in
      let same = one_list image p.opened.charter t.charter p.opened.cap t.cap p.opened.entries (t.state.entries ++ more.later) opens more.stands in
      record {
        entries = p.opened.entries;
        line = p.whole clean;
        least = omega (arith, stays.counted, ap length same.2, length-append t.state.entries more.later);
        taken = λ stands.
            let r = stays.taken stands in
            (r.shipped, r.spelled, ap (λ (es : List Entry). slice_get es r.shipped.place) same.2 ∙ stays_there t.state.entries more.later r.shipped.place r.shipped.entry r.stands);
      }
