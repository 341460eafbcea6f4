-- A session from its start: it goes on turn by turn and piece by piece, and ends.
use Rattle.std.proofs.Common.{◌≡◌, ◌⊎◌, inl, inr, ⊎_elim, ℕ, zero, suc, ◌+◌, ◌-◌, ◌*◌, ◌<◌, ◌≤◌, List, [], ◌∷◌, ◌++◌, length, take, true, is_some, Option, None, Some, refl, sym, ap, subst, ◌∙◌, append_assoc, append-nil, true≢false, arith}
use Rattle.std.specs.Prelude.{min, ◌≢◌}
use Rattle.std.specs.List.{flat_map, AllByRecursion}
use Rattle.std.specs.Io.KnownBytes.{Appends, IsAtEnd}
use Rattle.std.proofs.KnownBytes.{Appends-nil, Appends-trans}
use Rattle.std.proofs.lemmas.List.{map-append, length-append, length-map, nil_from_length, take-append-le, take_all}
use Rattle.std.proofs.lemmas.Option.{same_Some}
use Rattle.nb_port.specs.Tells.{DiskTells}
use Rattle.nb_port.specs.Faults.{Rose}
use Rattle.nb_link.specs.Link.{LinkSeen}
use Rattle.nb_units.specs.Frames.{Frame, frame, IsFrame, Front, Empty, Partial, Whole, Bad, front_of, IsWhole, AreBytes, Splits}
use Rattle.nb_units.proofs.ByteLists.{AreBytes-drop}
use Rattle.nb_units.proofs.FrameLaws.{empty_front, has_reading}
use Rattle.nb_frame.specs.State.{Collected, waiting, unfed, fed}
use Rattle.nb_frame.specs.Looks.{IsShort}
use Rattle.nb_frame.specs.Cuts.{EndsIn}
use Rattle.nb_frame.specs.declared.fault.FrameFault.{FrameFault}
use Rattle.nb_frame.specs.declared.stream.Next.TheVariants as next
use Rattle.nb_frame.specs.declared.stream.TheConstants.{MAX_PIECE}
use Rattle.nb_frame.proofs.Shortness.{short_not_whole, bad_not_whole, nothing_short}
use Rattle.nb_entry.specs.declared.entry.Entry.{Entry}
use Rattle.nb_turns.specs.declared.limits.TheConstants.{MAX_REQUESTS}
use Rattle.nb_turns.specs.declared.line.Line.{Line}
use Rattle.nb_turns.specs.Turns.{Request, House, Answered, Outcome, Decides, Fails, Refuses, answered, decided, with_entry}
use Rattle.nb_turns.specs.Callers.{Turned, Follows, AnsweredTurns, answers_in, behind}
use Rattle.nb_turn.specs.declared.chronicle.View.{View}
use Rattle.nb_vault.specs.declared.origin.Origin.{Origin}
use Rattle.nb_session.specs.declared.ended.TheConstants.{MOST_FRAMES}
use Rattle.nb_session.specs.declared.ended.SessionEnd.{SessionEnd}
use Rattle.nb_session.specs.declared.ended.SessionEnd.TheVariants as ends
use Rattle.nb_session.specs.declared.gathering.Gathered.{Gathered}
use Rattle.nb_session.specs.declared.gathering.Gathered.TheVariants as gathered
use Rattle.nb_wire.specs.declared.sending.Sent.TheVariants as sends
use Rattle.nb_session.specs.Session.{TurnsAt, AnswersAll, AreAnswered, AreLong, EndsAs, EndsRead, Gave, IsLong, IsPrompt, Session, Wrote, frame_of, frames_of, frames_in, house_at, marks_in, moments_in, replies_in, replies_of, requests_in}
use Rattle.nb_wire.specs.Reads.{joined}
use Rattle.nb_session.specs.Steps.{EndsAt, GathersTo, Point, TurnIs, Went, WroteAs, house_seen, point}
use Rattle.nb_wire.specs.Reads.{OnlyReads}
use Rattle.nb_session.proofs.Going.{all_both, frames_both, gave_none, one_turn, spelled_both, replies_both, went_both, went_none}
use Rattle.nb_wire.proofs.Incoming.{rose_from}

-- ---- lists

order : (m n : ℕ) → (m < n) ⊎ (n ≤ m)
order m zero = inr (omega arith)
order zero (suc n) = inl (omega arith)
order (suc m) (suc n) = elim (order m n) [ inl below ↦ inl (omega arith) | inr above ↦ inr (omega arith) ]

-- frames have at most so many bytes each
few_bytes : (fs : List Frame) → AllByRecursion IsFrame fs → length (flat_map frame fs) ≤ 1048584 * length fs
few_bytes [] lawful = omega arith
few_bytes (f ∷ fs) lawful = omega (arith, few_bytes fs lawful.1, lawful.0.2, length-append (frame f) (flat_map frame fs))

-- there are as many frames and moments as requests, and as many marks
pub frames_count : (turns : List Turned) → length (frames_in turns) ≡ length (requests_in turns)
frames_count turns = length-map (requests_in turns) frame_of

pub moments_count : (turns : List Turned) → length (moments_in turns) ≡ length (requests_in turns)
moments_count turns = length-map (requests_in turns) (λ (r : Request). r.moment)

decided_count : (house : House) (over : List Entry) (requests : List Request) → length (decided house over requests) ≡ length requests
decided_count house over [] = refl
decided_count house over (r ∷ rs) = omega (arith, decided_count house (with_entry house over r) rs)

answered_count : (house : House) (requests : List Request) (outcome : Outcome) → length (answered house requests outcome) ≡ length requests
answered_count house requests (Decides over) = decided_count house over requests
answered_count house requests (Fails before after) = length-map requests _
answered_count house requests Refuses = length-map requests _

answers_count : (house : House) (turns : List Turned) → length (answers_in house turns) ≡ length (requests_in turns)
answers_count house [] = refl
answers_count house (t ∷ turns) = omega (arith, answers_count house turns, answered_count house t.requests t.outcome, length-append (answered house t.requests t.outcome) (answers_in house turns), length-append t.requests (requests_in turns))

pub marks_count : (house : House) (turns : List Turned) → length (marks_in house turns) ≡ length (requests_in turns)
marks_count house turns = length-map (answers_in house turns) (λ (a : Answered). a.mark) ∙ answers_count house turns

-- ---- as long as may be

-- more pieces take nothing from that
long_later : (pieces later : List (List ℕ)) (done : List Frame) (turns : List Turned) → AreLong pieces done turns → AreLong (pieces ++ later) done turns
long_later pieces later done [] long = tt
long_later pieces later done (t ∷ turns) long = (one long.0, long_later pieces later (done ++ frames_of t.requests) turns long.1)
  where
    read : EndsRead pieces (done ++ frames_of t.requests) → EndsRead (pieces ++ later) (done ++ frames_of t.requests)
    read e = record { first = e.first; later = e.later ++ later; rest = e.rest; pieces_are = ap (λ (ps : List (List ℕ)). ps ++ later) e.pieces_are ∙ append_assoc e.first e.later later; splits = e.splits }

    one : IsLong pieces (length t.requests) (done ++ frames_of t.requests) → IsLong (pieces ++ later) (length t.requests) (done ++ frames_of t.requests)
    one (inl full) = inl full
    one (inr (inl last)) = inr (inl last)
    one (inr (inr e)) = inr (inr (read e))

-- turns, and then others
long_both : (pieces : List (List ℕ)) (done : List Frame) (turns more : List Turned) → AreLong pieces done turns → AreLong pieces (done ++ frames_in turns) more → AreLong pieces done (turns ++ more)
long_both pieces done [] more long then = subst (λ (fs : List Frame). AreLong pieces fs more) (append-nil done) then
long_both pieces done (t ∷ turns) more long then = (
  long.0,
  long_both pieces (done ++ frames_of t.requests) turns more long.1
      (subst (λ (fs : List Frame). AreLong pieces fs more) (ap (λ (fs : List Frame). done ++ fs) (map-append frame_of t.requests (requests_in turns)) ∙ sym (append_assoc done (frames_of t.requests) (frames_in turns))) then),
)

-- ---- before more is read

-- more turns take nothing from that
prompt_on : (pieces : List (List ℕ)) (turns more : List Turned) → IsPrompt pieces turns → IsPrompt (pieces ++ []) (turns ++ more)
prompt_on pieces turns more prompt n within =
    let a : AreAnswered (take n pieces) turns = prompt n (omega (arith, within, ap length (append-nil pieces))) in
    record {
      done = a.done;
      more = a.more ++ more;
      rest = a.rest;
      turns_are = ap (λ (ts : List Turned). ts ++ more) a.turns_are ∙ append_assoc a.done a.more more;
      splits = subst (λ (ps : List (List ℕ)). Splits (joined (take n ps)) (frames_in a.done) a.rest) (sym (append-nil pieces)) a.splits;
    }

-- nor does a piece behind those that were answered
prompt_fed : (pieces : List (List ℕ)) (turns : List Turned) (piece rest : List ℕ) → IsPrompt pieces turns → Splits (joined pieces) (frames_in turns) rest → IsPrompt (pieces ++ piece ∷ []) (turns ++ [])
prompt_fed pieces turns piece rest prompt splits n within = elim (order n (length pieces)) [ inl below ↦ before (prompt n below) below | inr above ↦ last above ]
  where
    before : AreAnswered (take n pieces) turns → n < length pieces → AreAnswered (take n (pieces ++ piece ∷ [])) (turns ++ [])
    before a below = record {
      done = a.done;
      more = a.more;
      rest = a.rest;
      turns_are = append-nil turns ∙ a.turns_are;
      splits = subst (λ (ps : List (List ℕ)). Splits (joined ps) (frames_in a.done) a.rest) (sym (take-append-le n pieces (piece ∷ []) (omega (arith, below)))) a.splits;
    }

    last : length pieces ≤ n → AreAnswered (take n (pieces ++ piece ∷ [])) (turns ++ [])
    last above = record {
      done = turns;
      more = [];
      rest = rest;
      turns_are = refl;
      splits = subst (λ (ps : List (List ℕ)). Splits (joined ps) (frames_in turns) rest)
          (sym (take-append-le n pieces (piece ∷ []) (omega (arith, within, length-append pieces (piece ∷ []))) ∙ take_all n pieces above)) splits;
    }

-- ---- the lines of the turns

some_origin : (o : Option Origin) → is_some o ≡ true → (origin : Origin) × (o ≡ Some origin)
some_origin (Some origin) is = (origin, refl)
some_origin None is = absurd (true≢false (sym is))

-- what was answered at the desk is what the lines tell
turns_answered : {D : Type 0} (tells : DiskTells D) (by : ℕ) (origin : Origin) (v w : View Origin Line) (turns : List Turned) → TurnsAt tells by v turns w → v.origin ≡ Some origin → AnsweredTurns (house_at origin) origin.entries by v.seen turns w.seen
turns_answered tells by origin v w [] at is = ap (λ (x : View Origin Line). x.seen) at
turns_answered tells by origin v w (t ∷ turns) at is =
    let a = at.1.asks in
    let same : a.old.origin ≡ origin = same_Some a.old.origin origin (sym a.meets.origin_is ∙ is) in
    let seen : at.0.seen ≡ behind v.seen t = a.seen ∙ ap (behind v.seen) (sym at.1.turn_is) in
    let stays : at.0.origin ≡ Some origin = ap (λ (x : View Origin Line). x.origin) at.1.goes_on.2 ∙ is in (
      subst (λ (x : Origin × Turned). Follows (house_at x.0) x.0.entries by v.seen x.1) (λ i. (same i, sym at.1.turn_is i)) a.follows,
      subst (λ (ls : List Line). AnsweredTurns (house_at origin) origin.entries by ls turns w.seen) seen (turns_answered tells by origin at.0 w turns at.2 stays),
    )

-- ---- a session, so far

-- from its start a session came to a point: each reply was sent, and each turn was as long as it could be
pub record Ran {D : Type 0} (tells : DiskTells D) (by : ℕ) (p q : Point) : Type 0 where
  pub turns : List Turned
  pub pieces : List (List ℕ)
  pub went : Went tells by p q turns pieces
  pub wrote : Appends p.link.sent q.link.sent (replies_in (house_seen p.view.origin) turns)
  pub long : AreLong pieces [] turns
  pub prompt : IsPrompt pieces turns

-- where it starts
abbrev pub begin : View Origin Line → LinkSeen → Option (List ℕ) → Point
begin v old clock = point v old clock unfed [] []

module _ {D : Type 0} (tells : DiskTells D) (by : ℕ) (v : View Origin Line) (old : LinkSeen) (clock : Option (List ℕ)) where
  pub ran_none : Ran tells by (begin v old clock) (begin v old clock)
  ran_none = record { turns = []; pieces = []; went = went_none tells by (begin v old clock); wrote = Appends-nil old.sent; long = tt; prompt = λ n within. absurd (omega (arith, within)) }

  -- so many requests were taken so far
  counted : (q : Point) (turns : List Turned) (pieces : List (List ℕ)) → Went tells by (begin v old clock) q turns pieces → length (requests_in turns) ≡ length q.moments
  counted q turns pieces went = omega (arith, ap length went.moments_are, moments_count turns)

  pub as_many_marks : (q : Point) → Ran tells by (begin v old clock) q → length q.marks ≡ length q.moments
  as_many_marks q ran = omega (arith, ap length ran.went.marks_are, marks_count (house_seen v.origin) ran.turns, counted q ran.turns ran.pieces ran.went)

  pub few_taken : (q : Point) → Ran tells by (begin v old clock) q → q.held.taken ≤ 1048584 * length q.moments
  few_taken q ran = omega (arith, ran.went.taken, few_bytes (frames_in ran.turns) ran.went.lawful, frames_count ran.turns, counted q ran.turns ran.pieces ran.went)

  sent_then : (q r : Point) (turns more : List Turned) → Appends old.sent q.link.sent (replies_in (house_seen v.origin) turns) → Appends q.link.sent r.link.sent (replies_in (house_seen v.origin) more) → Appends old.sent r.link.sent (replies_in (house_seen v.origin) (turns ++ more))
  sent_then q r turns more first then =
      subst (λ (bs : List ℕ). Appends old.sent r.link.sent bs) (sym (replies_both (house_seen v.origin) turns more))
      (Appends-trans old.sent q.link.sent r.link.sent (replies_in (house_seen v.origin) turns) (replies_in (house_seen v.origin) more) first then)

  -- ---- one turn more

  module _ (q r : Point) (ran : Ran tells by (begin v old clock) q) where
    all_read : (turn : Turned) → Went tells by q r (turn ∷ []) [] → (IsWhole (front_of (waiting r.held)) → ⊥) → EndsRead (ran.pieces ++ []) (frames_in ran.turns ++ frames_of turn.requests)
    all_read turn went none =
        let whole = went_both tells by (begin v old clock) q r ran.turns (turn ∷ []) ran.pieces [] ran.went went in
        let frames : frames_in (ran.turns ++ turn ∷ []) ≡ frames_in ran.turns ++ frames_of turn.requests = frames_both ran.turns (turn ∷ []) ∙ ap (λ (rs : List Request). frames_in ran.turns ++ frames_of rs) (one_turn turn) in
        record {
          first = ran.pieces ++ [];
          later = [];
          rest = waiting r.held;
          pieces_are = sym (append-nil (ran.pieces ++ []));
          splits = subst (λ (fs : List Frame). Splits (joined (ran.pieces ++ [])) fs (waiting r.held)) frames (record { bytes = whole.is; lawful = whole.lawful; ends = none });
        }

    is_long : (turn : Turned) (gathered : Gathered) → length q.moments < MOST_FRAMES → Went tells by q r (turn ∷ []) []
        → GathersTo r.held (length (requests_in (turn ∷ []))) (min (MOST_FRAMES - length q.moments) MAX_REQUESTS) gathered
        → IsLong (ran.pieces ++ []) (length turn.requests) (frames_in ran.turns ++ frames_of turn.requests)
    is_long turn gathered.More few went to = inr (inr (all_read turn went (short_not_whole (front_of (waiting r.held)) to.1)))
    is_long turn (gathered.Bad fault) few went to = inr (inr (all_read turn went (bad_not_whole to.1.0 (front_of (waiting r.held)) to.1.1)))
    is_long turn gathered.Full few went to = ⊎_elim
        (λ (below : MOST_FRAMES - length q.moments < MAX_REQUESTS).
        inr (inl (omega (arith, to, few, ap length (one_turn turn), frames_count ran.turns, counted q ran.turns ran.pieces ran.went, length-append (frames_in ran.turns) (frames_of turn.requests), length-map turn.requests frame_of))))
        (λ (above : MAX_REQUESTS ≤ MOST_FRAMES - length q.moments). inl (omega (arith, to, ap length (one_turn turn))))
        (order (MOST_FRAMES - length q.moments) MAX_REQUESTS)

    turn_long : (turns : List Turned) (gathered : Gathered) → length turns ≤ 1 → length q.moments < MOST_FRAMES → Went tells by q r turns []
        → GathersTo r.held (length (requests_in turns)) (min (MOST_FRAMES - length q.moments) MAX_REQUESTS) gathered → AreLong (ran.pieces ++ []) (frames_in ran.turns) turns
    turn_long [] gathered one few went to = tt
    turn_long (t ∷ []) gathered one few went to = (is_long t gathered few went to, tt)
    turn_long (t ∷ u ∷ more) gathered one few went to = absurd (omega (arith, one))

    whole_long : (turns : List Turned) (later : List (List ℕ)) → AreLong (ran.pieces ++ later) (frames_in ran.turns) turns → AreLong (ran.pieces ++ later) [] (ran.turns ++ turns)
    whole_long turns later long = long_both (ran.pieces ++ later) [] ran.turns turns (long_later ran.pieces later [] ran.turns ran.long) long

    pub ran_turn : (gathered : Gathered) → length q.moments < MOST_FRAMES → TurnIs tells by q r gathered sends.All → Ran tells by (begin v old clock) r
    ran_turn gathered few t = record {
      turns = ran.turns ++ t.turns;
      pieces = ran.pieces ++ [];
      went = went_both tells by (begin v old clock) q r ran.turns t.turns ran.pieces [] ran.went t.went;
      wrote = sent_then q r ran.turns t.turns ran.wrote (subst (λ (o : Option Origin). Appends q.link.sent r.link.sent (replies_in (house_seen o) t.turns)) ran.went.origin t.wrote);
      long = whole_long t.turns [] (turn_long t.turns gathered t.one few t.went t.to);
      prompt = prompt_on ran.pieces ran.turns t.turns ran.prompt;
    }

  -- ---- one read more

  read_went : (q : Point) (link : LinkSeen) (held : Collected) (pieces : List (List ℕ)) → OnlyReads q.link link pieces → waiting q.held ++ joined pieces ≡ waiting held → held.taken ≡ q.held.taken
      → Went tells by q (record q { link = link; held = held }) [] pieces
  read_went q link held pieces reads is taken = record {
    at_desk = refl;
    origin = refl;
    is = is;
    lawful = tt;
    taken = omega (arith, taken);
    took = reads.took;
    reads = reads.told;
    asked = gave_none q.clock;
    moments_are = sym (append-nil q.moments);
    marks_are = sym (append-nil q.marks);
    read_count = reads.count;
    write_count = omega (arith, reads.write_faults);
  }

  ran_reads : (q : Point) (link : LinkSeen) (held : Collected) (pieces : List (List ℕ)) → (ran : Ran tells by (begin v old clock) q) → OnlyReads q.link link pieces → waiting q.held ++ joined pieces ≡ waiting held → held.taken ≡ q.held.taken
      → IsPrompt (ran.pieces ++ pieces) (ran.turns ++ []) → Ran tells by (begin v old clock) (record q { link = link; held = held })
  ran_reads q link held pieces ran reads is taken prompt =
      let r : Point = record q { link = link; held = held } in
      record {
        turns = ran.turns ++ [];
        pieces = ran.pieces ++ pieces;
        went = went_both tells by (begin v old clock) q r ran.turns [] ran.pieces pieces ran.went (read_went q link held pieces reads is taken);
        wrote = sent_then q r ran.turns [] ran.wrote (subst (λ (sent : Option (List ℕ)). Appends q.link.sent sent []) (sym reads.sent) (Appends-nil q.link.sent));
        long = whole_long q r ran [] pieces tt;
        prompt = prompt;
      }

  pub ran_fed : (q : Point) (link : LinkSeen) (held : Collected) (piece : List ℕ) → Ran tells by (begin v old clock) q → OnlyReads q.link link (piece ∷ []) → held ≡ fed q.held piece → IsShort (front_of (waiting q.held)) → Ran tells by (begin v old clock) (record q { link = link; held = held })
  ran_fed q link held piece ran reads is short =
      ran_reads q link held (piece ∷ []) ran reads (ap (λ (bs : List ℕ). waiting q.held ++ bs) (append-nil piece) ∙ sym (ap waiting is)) (ap (λ (c : Collected). c.taken) is)
      (prompt_fed ran.pieces ran.turns piece (waiting q.held) ran.prompt (record { bytes = ran.went.is; lawful = ran.went.lawful; ends = short_not_whole (front_of (waiting q.held)) short }))

  pub ran_kept : (q : Point) (link : LinkSeen) (held : Collected) → Ran tells by (begin v old clock) q → OnlyReads q.link link [] → held ≡ q.held → Ran tells by (begin v old clock) (record q { link = link; held = held })
  ran_kept q link held ran reads is = ran_reads q link held [] ran reads (append-nil (waiting q.held) ∙ sym (ap waiting is)) (ap (λ (c : Collected). c.taken) is) (prompt_on ran.pieces ran.turns [] ran.prompt)

  -- ---- counts and room

  few_after : (q r : Point) (turns : List Turned) (pieces : List (List ℕ)) → Went tells by q r turns pieces → length q.moments < MOST_FRAMES → length (requests_in turns) < min (MOST_FRAMES - length q.moments) MAX_REQUESTS → length r.moments < MOST_FRAMES
  few_after q r turns pieces went few count = omega (arith, count, ap length went.moments_are, moments_count turns, length-append q.moments (moments_in turns))

  pub few_more : (q r : Point) → length q.moments < MOST_FRAMES → TurnIs tells by q r gathered.More sends.All → length r.moments < MOST_FRAMES
  few_more q r few t = few_after q r t.turns [] t.went few t.to.0

  pub few_bad : (q r : Point) (fault : FrameFault) → length q.moments < MOST_FRAMES → TurnIs tells by q r (gathered.Bad fault) sends.All → length r.moments < MOST_FRAMES
  few_bad q r fault few t = few_after q r t.turns [] t.went few t.to.0

  -- so far away is the end, by the frames that may still be answered and the bytes that may still wait
  abbrev pub ahead : Point → ℕ
  ahead q = (10000 - length q.moments) * 2097152 + (1114120 - length (waiting q.held))

  pub near_full : (q r : Point) → length q.moments < MOST_FRAMES → length r.moments < MOST_FRAMES → TurnIs tells by q r gathered.Full sends.All → ahead r < ahead q
  near_full q r few fewer t = omega (arith, few, fewer, t.to, ap length t.went.moments_are, moments_count t.turns, length-append q.moments (moments_in t.turns))

  pub near_fed : (q r : Point) (piece : List ℕ) (held : Collected) → length q.moments < MOST_FRAMES → TurnIs tells by q r gathered.More sends.All → held ≡ fed r.held piece → 0 < length piece → length piece ≤ MAX_PIECE
      → (10000 - length r.moments) * 2097152 + (1114120 - length (waiting held)) < ahead q
  near_fed q r piece held few t is some most =
      let waits : length (waiting held) ≡ length (waiting r.held) + length piece = ap (λ (c : Collected). length (waiting c)) is ∙ length-append (waiting r.held) piece in
      let more : length r.moments ≡ length q.moments + length (requests_in t.turns) = omega (arith, ap length t.went.moments_are, moments_count t.turns, length-append q.moments (moments_in t.turns)) in
      let spelled : length (flat_map frame (frames_in t.turns)) ≤ 1048584 * length (requests_in t.turns) = omega (arith, few_bytes (frames_in t.turns) t.went.lawful, frames_count t.turns) in
      let whole : length (waiting q.held) ≡ length (flat_map frame (frames_in t.turns)) + length (waiting r.held) =
      omega (arith, ap length (sym (append-nil (waiting q.held)) ∙ t.went.is), length-append (flat_map frame (frames_in t.turns)) (waiting r.held)) in
      let short : length (waiting r.held) < 1048584 = omega (arith, t.to.2) in
      let below : length (requests_in t.turns) < 10000 - length q.moments = omega (arith, t.to.0) in
      omega (arith, few, waits, more, spelled, whole, short, below, some, most)

  -- ---- the end

  finish : (q : Point) (turns : List Turned) (pieces : List (List ℕ)) (unanswered : List Frame) (rest : List ℕ) (end : SessionEnd) → is_some v.origin ≡ true → Went tells by (begin v old clock) q turns pieces → Splits (waiting q.held) unanswered rest
      → (AnswersAll end → unanswered ≡ []) → EndsAs (joined pieces) (length (flat_map frame (frames_in turns))) rest (length (frames_in turns)) old q.link end
      → Wrote (house_seen v.origin) old.sent q.link.sent turns end → AreLong pieces [] turns → IsPrompt pieces turns → Session tells by v q.view old q.link clock q.clock q.moments q.marks end
  finish q turns pieces unanswered rest end some went splits all ends wrote long prompt =
      let o = some_origin v.origin some in
      let house : house_seen v.origin ≡ house_at o.0 = ap house_seen o.1 in
      record {
        origin = o.0;
        origin_is = o.1;
        same_origin = went.origin;
        turns = turns;
        pieces = pieces;
        unanswered = unanswered;
        rest = rest;
        took = went.took;
        frames = record {
          bytes = went.is ∙ ap (λ (bs : List ℕ). flat_map frame (frames_in turns) ++ bs) splits.bytes ∙ sym (append_assoc (flat_map frame (frames_in turns)) (flat_map frame unanswered) rest)
              ∙ ap (λ (bs : List ℕ). bs ++ rest) (sym (spelled_both (frames_in turns) unanswered));
          lawful = all_both IsFrame (frames_in turns) unanswered went.lawful splits.lawful;
          ends = splits.ends;
        };
        all = all;
        ends = ends;
        asked = subst (λ (ms : List ℕ). Gave clock q.clock ms) (sym went.moments_are) went.asked;
        moments_are = went.moments_are;
        marks_are = went.marks_are ∙ ap (λ (h : House). marks_in h turns) house;
        at_desk = went.at_desk;
        answered = turns_answered tells by o.0 v q.view turns went.at_desk o.1;
        wrote = subst (λ (h : House). Wrote h old.sent q.link.sent turns end) house wrote;
        reads = went.reads;
        long = long;
        prompt = prompt;
        read_count = went.read_count;
        write_count = went.write_count;
      }

  -- where all frames that were read are answered
  module _ (q : Point) (some : is_some v.origin ≡ true) (ran : Ran tells by (begin v old clock) q) (few : length q.moments < MOST_FRAMES) where
    below : length (frames_in ran.turns) < MOST_FRAMES
    below = omega (arith, few, frames_count ran.turns, counted q ran.turns ran.pieces ran.went)

    answered_all : (end : SessionEnd) → (IsWhole (front_of (waiting q.held)) → ⊥) → EndsAs (joined ran.pieces) (length (flat_map frame (frames_in ran.turns))) (waiting q.held) (length (frames_in ran.turns)) old q.link end
        → Wrote (house_seen v.origin) old.sent q.link.sent ran.turns end → Session tells by v q.view old q.link clock q.clock q.moments q.marks end
    answered_all end none ends wrote = finish q ran.turns ran.pieces [] (waiting q.held) end some ran.went (record { bytes = refl; lawful = tt; ends = none }) (λ all. refl) ends wrote ran.long ran.prompt

    pub ended_bad : (fault : FrameFault) → EndsIn q.held.taken (waiting q.held) (next.Bad fault) → Session tells by v q.view old q.link clock q.clock q.moments q.marks (ends.BadFrame fault)
    ended_bad fault is =
        answered_all (ends.BadFrame fault) (bad_not_whole is.0 (front_of (waiting q.held)) is.1)
        (subst (λ (n : ℕ). EndsIn n (waiting q.held) (next.Bad fault)) (omega (arith, ran.went.taken)) is, below) ran.wrote

    pub ended_fault : Rose old.read_faults q.link.read_faults → IsShort (front_of (waiting q.held)) → Session tells by v q.view old q.link clock q.clock q.moments q.marks ends.ReadFault
    ended_fault rose short = answered_all ends.ReadFault (short_not_whole (front_of (waiting q.held)) short) (rose, short, below) ran.wrote

    some_waits : (front : Front) → front_of (waiting q.held) ≡ front → IsShort front → length (waiting q.held) ≢ 0 → front_of (waiting q.held) ≡ Partial
    some_waits Partial is short more = is
    some_waits Empty is short more = absurd (more (ap length (empty_front (waiting q.held) is)))
    some_waits (Whole f rest) is short more = absurd short
    some_waits (Bad fault) is short more = absurd short

    pub ended_at : (end : SessionEnd) → IsAtEnd q.link.left → IsShort (front_of (waiting q.held)) → EndsAt q.held end → Session tells by v q.view old q.link clock q.clock q.moments q.marks end
    ended_at ends.Clean left short is = answered_all ends.Clean (short_not_whole (front_of (waiting q.held)) short) (nil_from_length (waiting q.held) is, left, below) ran.wrote
    ended_at (ends.Cut place) left short is =
        answered_all (ends.Cut place) (short_not_whole (front_of (waiting q.held)) short) (
          some_waits (front_of (waiting q.held)) refl short is.0,
          left,
          omega (arith, is.1, ran.went.taken, ap length ran.went.is, length-append (flat_map frame (frames_in ran.turns)) (waiting q.held)),
          below,
        )
        ran.wrote
    ended_at (ends.BadFrame fault) left short is = absurd is
    ended_at ends.ReadFault left short is = absurd is
    ended_at ends.WriteFault left short is = absurd is
    ended_at ends.Spent left short is = absurd is
    ended_at ends.NoMemory left short is = absurd is

  -- as many were answered as one session answers
  pub ended_spent : (q : Point) → is_some v.origin ≡ true → Ran tells by (begin v old clock) q → AreBytes q.held.held → length q.moments ≡ MOST_FRAMES → Session tells by v q.view old q.link clock q.clock q.moments q.marks ends.Spent
  ended_spent q some ran fits all =
      let reading = has_reading (waiting q.held) (AreBytes-drop q.held.at q.held.held fits) in
      finish q ran.turns ran.pieces reading.0 reading.1 ends.Spent some ran.went reading.2 (λ none. absurd none) (frames_count ran.turns ∙ counted q ran.turns ran.pieces ran.went ∙ all) ran.wrote ran.long ran.prompt

  -- a write failed
  pub ended_short : (q r : Point) (gathered : Gathered) → is_some v.origin ≡ true → (ran : Ran tells by (begin v old clock) q) → length q.moments < MOST_FRAMES → TurnIs tells by q r gathered sends.Failed → AreBytes r.held.held → length r.moments ≤ MOST_FRAMES
      → Session tells by v r.view old r.link clock r.clock r.moments r.marks ends.WriteFault
  ended_short q r gathered some ran few t fits most =
      let reading = has_reading (waiting r.held) (AreBytes-drop r.held.at r.held.held fits) in
      let went = went_both tells by (begin v old clock) q r ran.turns t.turns ran.pieces [] ran.went t.went in
      let w = subst (λ (o : Option Origin). WroteAs (house_seen o) q.link r.link t.turns sends.Failed) ran.went.origin t.wrote in
      let house : House = house_seen v.origin in
      let last : List ℕ = take w.1.count (replies_of house w.1.last) in
      finish r (ran.turns ++ t.turns) (ran.pieces ++ []) reading.0 reading.1 ends.WriteFault some went reading.2 (λ none. absurd none)
      (rose_from old.write_faults q.link.write_faults r.link.write_faults ran.went.write_count w.0, omega (arith, most, frames_count (ran.turns ++ t.turns), counted r (ran.turns ++ t.turns) (ran.pieces ++ []) went))
      (record {
        whole = ran.turns ++ w.1.whole;
        last = w.1.last;
        turns_are = ap (λ (ts : List Turned). ran.turns ++ ts) w.1.turns_are ∙ sym (append_assoc ran.turns w.1.whole (w.1.last ∷ []));
        count = w.1.count;
        less = w.1.less;
        appends = subst (λ (bs : List ℕ). Appends old.sent r.link.sent bs)
            (sym (append_assoc (replies_in house ran.turns) (replies_in house w.1.whole) last) ∙ ap (λ (bs : List ℕ). bs ++ last) (sym (replies_both house ran.turns w.1.whole)))
            (Appends-trans old.sent q.link.sent r.link.sent (replies_in house ran.turns) (replies_in house w.1.whole ++ last) ran.wrote w.1.appends);
      })
      (whole_long q r ran t.turns [] (turn_long q r ran t.turns gathered t.one few t.went t.to)) (prompt_on ran.pieces ran.turns t.turns ran.prompt)

  -- nothing was begun
  pub unbegun : is_some v.origin ≡ true → Session tells by v v old old clock clock [] [] ends.NoMemory
  unbegun some =
      finish (begin v old clock) [] [] [] [] ends.NoMemory some (went_none tells by (begin v old clock)) (record { bytes = refl; lawful = tt; ends = short_not_whole (front_of []) nothing_short }) (λ all. refl) (refl, refl, refl) (Appends-nil old.sent) tt (λ n within. absurd (omega (arith, within)))
