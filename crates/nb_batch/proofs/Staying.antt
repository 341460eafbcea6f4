-- What was recorded stays in all that a stop leaves behind it.
use Rattle.std.proofs.Common.{◌≡◌, ◌⊎◌, ⊎_elim, ℕ, ◌≤◌, zero, suc, List, [], ◌∷◌, ◌++◌, length, take, Some, refl, sym, ap, subst, ◌∙◌, append_assoc, append-nil, arith}
use Rattle.std.specs.List.{slice_get, AllByRecursion}
use Rattle.std.proofs.lemmas.List.{length-append}
use Rattle.std.specs.Option.{option_to_list}
use Rattle.std.proofs.Math.Seq.{take-append_seam}
use Rattle.nb_units.specs.declared.charter.Charter.{Charter}
use Rattle.nb_port.specs.Tells.{DiskTells}
use Rattle.nb_entry.specs.declared.entry.Entry.{Entry}
use Rattle.nb_escrow.specs.Head.{head_of}
use Rattle.nb_vault.specs.Holdings.{StandsFor, StandsForEither}
use Rattle.nb_vault.specs.Rules.{house_of}
use Rattle.nb_turns.specs.declared.mark.Mark.{Mark}
use Rattle.nb_turns.specs.declared.mark.Mark.TheVariants.{At, Fault, Worn}
use Rattle.nb_turns.specs.Turns.{Request, House, State, Answered}
use Rattle.nb_turns.specs.Laws.{DecidesOne, TurnOfOne}
use Rattle.nb_standby.specs.declared.code.TheConstants.{TAKEN, SAME}
use Rattle.nb_standby.specs.Answering.{Acknowledges, record_in}
use Rattle.nb_standby.proofs.Runs.{IsWithin, acknowledged_grows, all_within, came_there, told_once}
use Rattle.nb_batch.specs.declared.answering.Answerer.{Answerer}
use Rattle.nb_batch.specs.declared.answering.Answerer.TheVariants as answers
use Rattle.nb_batch.specs.Answering.{Goes, GoesTo}
use Rattle.nb_batch.specs.Batch.{HoldsState, GoesThrough, last_disk}
use Rattle.nb_batch.specs.Acknowledged.{AcknowledgedStays, OpeningStays, StandsForMore, ToldStays}

-- the entries of a state begin with these
abbrev Begins : List Entry → State → Type 0
Begins base state = (more : List Entry) × (state.entries ≡ base ++ more)

-- they do still where more was recorded
begins_more : (base over more : List Entry) (state : State) → (rest : List Entry) × (over ≡ base ++ rest) → state.entries ≡ over ++ more → Begins base state
begins_more base over more state begins is =
    (begins.0 ++ more, is ∙ ap (λ (xs : List Entry). xs ++ more) begins.1 ∙ append_assoc base begins.0 more)

-- with what was in doubt or without it
over_begins : (base over : List Entry) (state : State) → Begins base state → (over ≡ state.entries) ⊎ (over ≡ state.entries ++ state.doubt) → (rest : List Entry) × (over ≡ base ++ rest)
over_begins base over state begins settled = ⊎_elim
    (λ (is : over ≡ state.entries). let r : (rest : List Entry) × (over ≡ base ++ rest) = (begins.0, is ∙ begins.1) in r)
    (λ (is : over ≡ state.entries ++ state.doubt).
    let r : (rest : List Entry) × (over ≡ base ++ rest) = (begins.0 ++ state.doubt, is ∙ ap (λ (xs : List Entry). xs ++ state.doubt) begins.1 ∙ append_assoc base begins.0 state.doubt) in r)
    settled

-- behind a turn
turn_begins : (house : House) (base : List Entry) (old new : State) (request : Request) (mark : Mark) (reply : List ℕ) → Begins base old → TurnOfOne house old request mark reply new → Begins base new
turn_begins house base old new request (At place) reply begins turn =
    let d = turn.1 in
    begins_more base d.over (option_to_list (house.rules d.over request).entry) new (over_begins base d.over old begins d.settled) (ap (λ (s : State). s.entries) d.left)
turn_begins house base old new request Worn reply begins turn = subst (Begins base) (sym turn.2) begins
turn_begins house base old new request (Fault before after) reply begins turn = ⊎_elim
    (λ unsettled. begins_more base old.entries [] new begins (ap (λ (s : State). s.entries) unsettled.1 ∙ sym (append-nil old.entries)))
    (λ doubts. begins_more base doubts.over [] new (over_begins base doubts.over old begins doubts.settled) (ap (λ (s : State). s.entries) doubts.left ∙ sym (append-nil doubts.over)))
    turn.2

-- each of these states begins with the entries of the one before it
abbrev Grow : State → List State → Type 0
Grow first [] = Unit {0}
Grow first (next ∷ states) = Begins first.entries next × Grow next states

-- what begins with a list begins with its front
begins_on : (base : List Entry) (old new : State) → Begins base old → Begins old.entries new → Begins base new
begins_on base old new begins more = begins_more base old.entries more.0 new begins more.1

itself : (state : State) → Begins state.entries state
itself state = ([], sym (append-nil state.entries))

-- ---- who answers

goes_on : (by : Answerer) (charter : Charter) (cap : ℕ) (first : State) (a : Answered) (answered : List Answered) (next : State) (states : List State)
    → Goes by charter cap first (a ∷ answered) (next ∷ states) → GoesTo by charter cap first a.request a.mark a.reply next × Goes by charter cap next answered states
goes_on answers.House charter cap first a answered next states goes = (goes.0, goes.1)
goes_on answers.Standby charter cap first a answered next states goes = (goes.0, goes.1)

goes_short : (by : Answerer) (charter : Charter) (cap : ℕ) (first : State) (a : Answered) (answered : List Answered) → Goes by charter cap first (a ∷ answered) [] → ⊥
goes_short answers.House charter cap first a answered goes = goes
goes_short answers.Standby charter cap first a answered goes = goes

goes_long : (by : Answerer) (charter : Charter) (cap : ℕ) (first next : State) (states : List State) → Goes by charter cap first [] (next ∷ states) → ⊥
goes_long answers.House charter cap first next states goes = goes
goes_long answers.Standby charter cap first next states goes = goes

to_grows : (by : Answerer) (charter : Charter) (cap : ℕ) (old : State) (request : Request) (mark : Mark) (reply : List ℕ) (new : State) → GoesTo by charter cap old request mark reply new
    → Begins old.entries new
to_grows answers.House charter cap old request mark reply new goes = turn_begins (house_of (head_of charter) cap) old.entries old new request mark reply (itself old) goes
to_grows answers.Standby charter cap old request mark reply new goes = acknowledged_grows charter cap old request mark reply new goes

goes_grow : (by : Answerer) (charter : Charter) (cap : ℕ) (first : State) (answered : List Answered) (states : List State) → Goes by charter cap first answered states → Grow first states
goes_grow by charter cap first answered [] goes = tt
goes_grow by charter cap first [] (next ∷ states) goes = absurd (goes_long by charter cap first next states goes)
goes_grow by charter cap first (a ∷ answered) (next ∷ states) goes =
    let parts = goes_on by charter cap first a answered next states goes in
    (to_grows by charter cap first a.request a.mark a.reply next parts.0, goes_grow by charter cap next answered states parts.1)

-- an image that stands for a state which begins so
more_in : (charter : Charter) (cap : ℕ) (base : List Entry) (state : State) (image : List ℕ) → Begins base state → StandsForEither charter cap state.entries state.doubt image → StandsForMore charter cap base image
more_in charter cap base state image begins stands = ⊎_elim
    (λ alone. record { later = begins.0; stands = subst (λ (es : List Entry). StandsFor charter cap es image) begins.1 alone })
    (λ with_doubt. record {
      later = begins.0 ++ state.doubt;
      stands = subst (λ (es : List Entry). StandsFor charter cap es image) (ap (λ (xs : List Entry). xs ++ state.doubt) begins.1 ∙ append_assoc base begins.0 state.doubt) with_doubt;
    })
    stands

there_within : (cap : ℕ) (states : List State) (k : ℕ) (state : State) → AllByRecursion (IsWithin cap) states → slice_get states k ≡ Some state → IsWithin cap state
there_within cap [] k state all is = absurd cc
there_within cap (s ∷ states) zero state all is = subst (IsWithin cap) (same s state is) all.0
  where
    same : (x y : State) → Some x ≡ Some y → x ≡ y
    same x y is = cc
there_within cap (s ∷ states) (suc k) state all is = there_within cap states k state all.1 is

-- what there is at a turn: it was answered from some state, and these states and disks come behind it
record AtTurn {D : Type 0} (tells : DiskTells D) (by : Answerer) (charter : Charter) (cap : ℕ) (one : Answered) (state : State) (disk last : D) : Type 0 where
  old : State
  turn : GoesTo by charter cap old one.request one.mark one.reply state
  states : List State
  disks : List D
  grow : Grow state states
  through : GoesThrough tells charter cap state disk states disks
  last_is : last ≡ last_disk disk disks

module _ {D : Type 0} (tells : DiskTells D) (only_now : (d : D) (c : List ℕ) → tells.left d (tells.moment d) c → tells.allowed d c) (charter : Charter) (cap : ℕ) where
  -- all that comes later leaves it
  stays_on : (since : ℕ) (base : List Entry) (first : State) (disk : D) (states : List State) (disks : List D) → Grow first states → GoesThrough tells charter cap first disk states disks
      → Begins base first → since ≤ tells.moment disk → ((image : List ℕ) → tells.left disk since image → StandsForMore charter cap base image)
      → (image : List ℕ) → tells.left (last_disk disk disks) since image → StandsForMore charter cap base image
  stays_on since base first disk [] [] grow through begins le here image left = here image left
  stays_on since base first disk (s ∷ states) (d ∷ disks) grow through begins le here image left =
      let next = begins_on base first s begins grow.0 in
      stays_on since base s d states disks grow.1 through.2 next (omega (arith, le, through.1.later))
      (λ c is. ⊎_elim (here c) (λ either. ⊎_elim (more_in charter cap base first c begins) (more_in charter cap base s c next) either) (through.1.before since c le is))
      image left
  stays_on since base first disk [] (d ∷ disks) grow through begins le here image left = absurd through
  stays_on since base first disk (s ∷ states) [] grow through begins le here image left = absurd through

  -- the disk at the front holds the state
  holds_first : (first : State) (disk : D) (states : List State) (disks : List D) → GoesThrough tells charter cap first disk states disks → HoldsState tells charter cap first disk
  holds_first first disk [] [] through = through
  holds_first first disk (s ∷ states) (d ∷ disks) through = through.0
  holds_first first disk [] (d ∷ disks) through = absurd through
  holds_first first disk (s ∷ states) [] through = absurd through

  -- since a disk that holds a state, its entries stay
  stays_since : (first : State) (disk : D) (states : List State) (disks : List D) → Grow first states → GoesThrough tells charter cap first disk states disks
      → (image : List ℕ) → tells.left (last_disk disk disks) (tells.moment disk) image → StandsForMore charter cap first.entries image
  stays_since first disk states disks grow through image left =
      stays_on (tells.moment disk) first.entries first disk states disks grow through (itself first) (omega arith)
      (λ c now. more_in charter cap first.entries first c (itself first) (holds_first first disk states disks through c (only_now disk c now))) image left

  -- one turn of all
  at_turn : (by : Answerer) (first : State) (opened : D) (answered : List Answered) (states : List State) (disks : List D) → Goes by charter cap first answered states → GoesThrough tells charter cap first opened states disks
      → (turn : ℕ) (one : Answered) (state : State) (disk : D) → slice_get answered turn ≡ Some one → slice_get states turn ≡ Some state → slice_get disks turn ≡ Some disk
      → AtTurn tells by charter cap one state disk (last_disk opened disks)
  at_turn by first opened (a ∷ answered) (s ∷ states) (d ∷ disks) goes through zero one state disk asked is behind =
      let parts = goes_on by charter cap first a answered s states goes in
      let here : AtTurn tells by charter cap a s d (last_disk d disks) =
      record { old = first; turn = parts.0; states = states; disks = disks; grow = goes_grow by charter cap s answered states parts.1; through = through.2; last_is = refl }
      in
      subst (λ (e : D). AtTurn tells by charter cap one state e (last_disk d disks)) (some_same d disk behind)
      (subst (λ (t : State). AtTurn tells by charter cap one t d (last_disk d disks)) (some_same s state is)
      (subst (λ (b : Answered). AtTurn tells by charter cap b s d (last_disk d disks)) (some_same a one asked) here))
    where
      some_same : {A : Type 0} (x y : A) → Some x ≡ Some y → x ≡ y
      some_same x y is = cc
  at_turn by first opened (a ∷ answered) (s ∷ states) (d ∷ disks) goes through (suc turn) one state disk asked is behind =
      at_turn by s d answered states disks (goes_on by charter cap first a answered s states goes).1 through.2 turn one state disk asked is behind
  at_turn by first opened [] states disks goes through turn one state disk asked is behind = absurd cc
  at_turn by first opened (a ∷ answered) [] disks goes through turn one state disk asked is behind = absurd (goes_short by charter cap first a answered goes)
  at_turn by first opened (a ∷ answered) (s ∷ states) [] goes through turn one state disk asked is behind = absurd through

  -- what was there then stays
  turn_stays : (by : Answerer) (one : Answered) (state : State) (disk last : D) → AtTurn tells by charter cap one state disk last
      → (image : List ℕ) → tells.left last (tells.moment disk) image → StandsForMore charter cap state.entries image
  turn_stays by one state disk last t image left =
      stays_since state disk t.states t.disks t.grow t.through image (subst (λ (d : D). tells.left d (tells.moment disk) image) t.last_is left)

module _ {D : Type 0} (tells : DiskTells D) (only_now : (d : D) (c : List ℕ) → tells.left d (tells.moment d) c → tells.allowed d c) where
  -- what was there at the start
  pub opening_stays : OpeningStays tells
  opening_stays by charter cap first opened answered states disks goes through =
      stays_since tells only_now charter cap first opened states disks (goes_grow by charter cap first answered states goes) through

  -- a request that a house decided
  pub acknowledged : AcknowledgedStays tells
  acknowledged charter cap first opened answered states disks run through turn place request reply state disk one is behind =
      let house = house_of (head_of charter) cap in
      let asked : Answered = record { request = request; mark = At place; reply = reply } in
      let t = at_turn tells only_now charter cap answers.House first opened answered states disks run through turn asked state disk one is behind in
      let d : DecidesOne house t.old request place reply state = t.turn.1 in
      let entries : state.entries ≡ d.over ++ option_to_list (house.rules d.over request).entry = ap (λ (s : State). s.entries) d.left in
      let front : take place state.entries ≡ d.over = ap (take place) entries ∙ ap (λ (n : ℕ). take n (d.over ++ option_to_list (house.rules d.over request).entry)) d.at ∙ take-append_seam d.over (option_to_list (house.rules d.over request).entry) in
      record {
        told = d.told ∙ ap (λ (over : List Entry). (house.rules over request).reply) (sym front);
        recorded = entries ∙ ap (λ (over : List Entry). over ++ option_to_list (house.rules over request).entry) (sym front);
        images = turn_stays tells only_now charter cap answers.House asked state disk (last_disk opened disks) t;
      }

  -- what a standby told
  pub told : ToldStays tells
  told t =
      let at = at_turn tells only_now t.charter t.cap answers.Standby t.first t.opened t.answered t.states t.disks t.acknowledges t.through t.turn t.one t.state t.disk t.one_is t.state_is t.disk_is in
      let a : Acknowledges t.charter t.cap at.old t.one.request t.one.mark t.one.reply t.state = at.turn in
      let few : IsWithin t.cap t.state = there_within t.cap t.states t.turn t.state (all_within t.charter t.cap t.first t.answered t.states t.within t.acknowledges) t.state_is in
      let same = told_once (head_of t.charter).house t.code a.code t.n (length t.state.entries) t.fits (omega (arith, t.narrow, few, length-append t.state.entries t.state.doubt)) (sym t.reply_is ∙ a.reply_is) in
      record {
        counted = same.1;
        taken = λ stands.
            let r = came_there t.charter t.cap at.old (record_in t.one.request) t.one.mark a.code t.state a.came (subst (λ (c : ℕ). (c ≡ TAKEN) ⊎ (c ≡ SAME)) same.0 stands) in
            record { shipped = r.shipped; spelled = r.spelled; signed = r.signed; stands = r.stands };
        images = turn_stays tells only_now t.charter t.cap answers.Standby t.one t.state t.disk (last_disk t.opened t.disks) at;
      }
