-- One turn: frames are gathered, answered, and their replies sent.
use Rattle.std.proofs.Common.{◌≡◌, ℕ, ◌+◌, ◌-◌, List, [], ◌∷◌, ◌++◌, length, take, Option, None, Some, refl, sym, ap, subst, ◌∙◌, append-nil, arith}
use Rattle.std.specs.Prelude.{map, min}
use Rattle.std.specs.List.{flat_map, AllByRecursion}
use Rattle.std.specs.Io.KnownBytes.{Appends, Consumes}
use Rattle.std.proofs.KnownBytes.{Consumes-nil}
use Rattle.std.proofs.lemmas.List.{length-map}
use Rattle.nb_port.specs.Tells.{DiskTells}
use Rattle.nb_link.specs.Link.{LinkSeen}
use Rattle.nb_units.specs.Frames.{frame, IsFrame}
use Rattle.nb_frame.specs.State.{waiting}
use Rattle.nb_entry.specs.declared.entry.Entry.{Entry}
use Rattle.nb_endorse.specs.declared.refusal.TheConstants.{DISK_FAULT, WORN}
use Rattle.nb_endorse.specs.declared.refusal.Refusal.{Refusal}
use Rattle.nb_endorse.specs.declared.reply.Reply.TheVariants.{Refused}
use Rattle.nb_endorse.specs.Refusals.{refusal}
use Rattle.nb_endorse.specs.Keys.{no_keys}
use Rattle.nb_msgs.specs.ReplyBytes.{reply_bytes}
use Rattle.nb_desk.specs.declared.asked.AskedAll.{AskedAll}
use Rattle.nb_desk.specs.declared.asked.AskedAll.TheVariants as asked
use Rattle.nb_turns.specs.declared.line.Line.{Line}
use Rattle.nb_turns.specs.declared.mark.Mark.{Mark}
use Rattle.nb_turns.specs.declared.mark.Mark.TheVariants.{At, Fault, Worn}
use Rattle.nb_turns.specs.declared.limits.TheConstants.{MAX_FAULTS, MAX_REQUESTS}
use Rattle.nb_turns.specs.Turns.{Request, House, State, Outcome, Answered, Decides, Fails, Refuses, alike, answered, decided, marks, places, recorded, replies, with_entry}
use Rattle.nb_turn.specs.declared.chronicle.View.{View}
use Rattle.nb_vault.specs.declared.answer.AnswerAll.TheVariants as all
use Rattle.nb_vault.specs.declared.answer.AskAt.{AskAt}
use Rattle.nb_vault.specs.declared.origin.Origin.{Origin}
use Rattle.nb_vault.specs.Asking.{request_at, requests_of}
use Rattle.nb_vault.specs.Rules.{refused}
use Rattle.nb_vault.specs.Sending.{StandsTold}
use Rattle.nb_vault.specs.Vaults.{house_in}
use Rattle.nb_desk.specs.Asks.{Asks, Gives, GoesOnAtLast, turned}
use Rattle.nb_session.specs.Session.{answer_of, house_at, frames_of, moments_of, requests_in, replies_in, Gave}
use Rattle.nb_session.specs.Steps.{Point, AnswersTurn, Gathers, GathersTo, LeftToSend, TurnIs, WroteAs, house_seen}
use Rattle.nb_wire.specs.Sent.{OnlyWrites, Sends}
use Rattle.nb_session.specs.declared.ended.TheConstants.{MOST_FRAMES}
use Rattle.nb_session.specs.declared.gathering.Gathered.{Gathered}
use Rattle.nb_wire.specs.declared.sending.Sent.{Sent}
use Rattle.nb_wire.specs.declared.sending.Sent.TheVariants as sends
use Rattle.nb_wire.proofs.Incoming.{readings_none}
use Rattle.nb_session.proofs.Going.{one_turn, one_marks, one_replies}

-- ---- answering

-- requests that were decided are marked by their places
marks_placed : (house : House) (over : List Entry) (requests : List Request) → map (λ (at : ℕ). At at) (places (decided house over requests)) ≡ marks (decided house over requests)
marks_placed house over [] = refl
marks_placed house over (r ∷ rs) = ap (λ (ms : List Mark). At (length over) ∷ ms) (marks_placed house (with_entry house over r) rs)

places_count : (house : House) (over : List Entry) (requests : List Request) → length (places (decided house over requests)) ≡ length requests
places_count house over [] = refl
places_count house over (r ∷ rs) = omega (arith, places_count house (with_entry house over r) rs)

-- others are marked alike, and refused alike
marks_alike : (mark : Mark) (reply bytes : List ℕ) (asks : List AskAt) → map (λ (ask : AskAt). mark) asks ≡ marks (alike mark reply (requests_of bytes asks))
marks_alike mark reply bytes [] = refl
marks_alike mark reply bytes (a ∷ asks) = ap (λ (ms : List Mark). mark ∷ ms) (marks_alike mark reply bytes asks)

replies_alike : (mark : Mark) (reply bytes : List ℕ) (asks : List AskAt) → flat_map (λ (ask : AskAt). reply) asks ≡ replies (alike mark reply (requests_of bytes asks))
replies_alike mark reply bytes [] = refl
replies_alike mark reply bytes (a ∷ asks) = ap (λ (bs : List ℕ). reply ++ bs) (replies_alike mark reply bytes asks)

module _ {D : Type 0} (tells : DiskTells D) (by : ℕ) (v w : View Origin Line) (bytes : List ℕ) (asks : List AskAt) (found out out' : List ℕ) (before behind : List Mark) where
  pub decided_turn : (over : List Entry) (ats : List ℕ) → ats ≡ found → out ≡ [] → Asks tells by v w (requests_of bytes asks) (Decides over) found out out' all.Answered → GoesOnAtLast v w
      → behind ≡ before ++ map (λ (at : ℕ). At at) ats → AnswersTurn tells by v w (requests_of bytes asks) before behind out'
  decided_turn over ats placed none a goes_on marked =
      let house : house_in a.old ≡ house_seen v.origin = ap house_seen (sym a.meets.origin_is) in
      let told : List Answered = decided (house_in a.old) over (requests_of bytes asks) in
      record {
        turn = turned (requests_of bytes asks) (Decides over) a.meets.others a.went.added;
        requests_are = refl;
        at_desk = record { found = found; out = out; given = out'; asks = a; turn_is = refl; goes_on = goes_on };
        marks_are = marked ∙ ap (λ (ns : List ℕ). before ++ map (λ (at : ℕ). At at) ns) (placed ∙ a.went.found_is)
            ∙ ap (λ (ms : List Mark). before ++ ms) (marks_placed (house_in a.old) over (requests_of bytes asks))
            ∙ ap (λ (h : House). before ++ marks (decided h over (requests_of bytes asks))) house;
        out_is = a.went.out_is ∙ ap (λ (bs : List ℕ). bs ++ replies told) none ∙ ap (λ (h : House). replies (decided h over (requests_of bytes asks))) house;
      }

  pub failed_turn : (from to : ℕ) (sent : List ℕ) → out ≡ [] → Asks tells by v w (requests_of bytes asks) (Fails from to) found out out' (all.DiskFault from to) → GoesOnAtLast v w
      → behind ≡ before ++ map (λ (ask : AskAt). Fault from to) asks → sent ≡ out' ++ flat_map (λ (ask : AskAt). refused DISK_FAULT from to) asks → AnswersTurn tells by v w (requests_of bytes asks) before behind sent
  failed_turn from to sent none a goes_on marked put =
      let house : house_in a.old ≡ house_seen v.origin = ap house_seen (sym a.meets.origin_is) in
      record {
        turn = turned (requests_of bytes asks) (Fails from to) a.meets.others a.went.added;
        requests_are = refl;
        at_desk = record { found = found; out = out; given = out'; asks = a; turn_is = refl; goes_on = goes_on };
        marks_are = marked ∙ ap (λ (ms : List Mark). before ++ ms) (marks_alike (Fault from to) (refused DISK_FAULT from to) bytes asks)
            ∙ ap (λ (h : House). before ++ marks (answered h (requests_of bytes asks) (Fails from to))) house;
        out_is = put ∙ ap (λ (bs : List ℕ). bs ++ flat_map (λ (ask : AskAt). refused DISK_FAULT from to) asks) (a.went.out_is ∙ append-nil out ∙ none)
            ∙ replies_alike (Fault from to) (refused DISK_FAULT from to) bytes asks
            ∙ ap (λ (h : House). replies (answered h (requests_of bytes asks) (Fails from to))) house;
      }

  pub worn_turn : (count : ℕ) (sent : List ℕ) → out ≡ [] → count ≡ MAX_FAULTS → Asks tells by v w (requests_of bytes asks) Refuses found out out' (all.Worn MAX_FAULTS) → GoesOnAtLast v w
      → behind ≡ before ++ map (λ (ask : AskAt). Worn) asks → sent ≡ out' ++ flat_map (λ (ask : AskAt). refused WORN count 0) asks → AnswersTurn tells by v w (requests_of bytes asks) before behind sent
  worn_turn count sent none most a goes_on marked put =
      let house : house_in a.old ≡ house_seen v.origin = ap house_seen (sym a.meets.origin_is) in
      record {
        turn = turned (requests_of bytes asks) Refuses a.meets.others a.went.added;
        requests_are = refl;
        at_desk = record { found = found; out = out; given = out'; asks = a; turn_is = refl; goes_on = goes_on };
        marks_are = marked ∙ ap (λ (ms : List Mark). before ++ ms) (marks_alike Worn (refused WORN MAX_FAULTS 0) bytes asks)
            ∙ ap (λ (h : House). before ++ marks (answered h (requests_of bytes asks) Refuses)) house;
        out_is = put ∙ ap (λ (bs : List ℕ). bs ++ flat_map (λ (ask : AskAt). refused WORN count 0) asks) (a.went.out_is ∙ append-nil out ∙ none)
            ∙ ap (λ (n : ℕ). flat_map (λ (ask : AskAt). refused WORN n 0) asks) most
            ∙ replies_alike Worn (refused WORN MAX_FAULTS 0) bytes asks
            ∙ ap (λ (h : House). replies (answered h (requests_of bytes asks) Refuses)) house;
      }

-- ---- by the answer of the desk

module _ {D : Type 0} (tells : DiskTells D) (by : ℕ) (v w : View Origin Line) (bytes : List ℕ) (asks : List AskAt) (out out' : List ℕ) (before behind : List Mark) (answer : AskedAll)
    (none : out ≡ []) (goes_on : GoesOnAtLast v w) (ats' ats : List ℕ) (empty : ats ≡ [])
    (gives : (found : List ℕ) × (ats' ≡ ats ++ found) × Gives tells by v w (requests_of bytes asks) found out out' answer) where
  placed : ats' ≡ gives.0
  placed = gives.1 ∙ ap (λ (xs : List ℕ). xs ++ gives.0) empty

  pub served : answer ≡ asked.Served → behind ≡ before ++ map (λ (at : ℕ). At at) ats' → AnswersTurn tells by v w (requests_of bytes asks) before behind out'
  served is marked =
      let g = subst (λ (a : AskedAll). Gives tells by v w (requests_of bytes asks) gives.0 out out' a) is gives.2 in
      decided_turn tells by v w bytes asks gives.0 out out' before behind g.0 ats' placed none g.1 goes_on marked

  -- there are as many places as requests
  pub as_many : answer ≡ asked.Served → length ats' ≡ length asks
  as_many is =
      let g = subst (λ (a : AskedAll). Gives tells by v w (requests_of bytes asks) gives.0 out out' a) is gives.2 in
      ap length (placed ∙ g.1.went.found_is) ∙ places_count (house_in g.1.old) g.0 (requests_of bytes asks) ∙ length-map asks (λ (ask : AskAt). request_at bytes ask)

  -- a turn that did not decide hands out no reply
  pub refused_empty : (from to : ℕ) → answer ≡ asked.DiskFault from to → out' ≡ []
  refused_empty from to is =
      let g = subst (λ (a : AskedAll). Gives tells by v w (requests_of bytes asks) gives.0 out out' a) is gives.2 in
      g.went.out_is ∙ append-nil out ∙ none

  pub worn_empty : (count : ℕ) → answer ≡ asked.Worn count → out' ≡ []
  worn_empty count is =
      let g = subst (λ (a : AskedAll). Gives tells by v w (requests_of bytes asks) gives.0 out out' a) is gives.2 in
      g.1.went.out_is ∙ append-nil out ∙ none

  pub failed : (from to : ℕ) (sent : List ℕ) (told : Refusal) → answer ≡ asked.DiskFault from to → told ≡ refusal DISK_FAULT from to → behind ≡ before ++ map (λ (ask : AskAt). Fault from to) asks
      → sent ≡ flat_map (λ (ask : AskAt). reply_bytes no_keys (Refused told)) asks → AnswersTurn tells by v w (requests_of bytes asks) before behind sent
  failed from to sent told is made marked put =
      let g = subst (λ (a : AskedAll). Gives tells by v w (requests_of bytes asks) gives.0 out out' a) is gives.2 in
      failed_turn tells by v w bytes asks gives.0 out out' before behind from to sent none g goes_on marked
      (put ∙ ap (λ (xs : List ℕ). xs ++ flat_map (λ (ask : AskAt). reply_bytes no_keys (Refused told)) asks) (sym (refused_empty from to is)) ∙ ap (λ (r : Refusal). out' ++ flat_map (λ (ask : AskAt). reply_bytes no_keys (Refused r)) asks) made)

  pub worn : (count number : ℕ) (sent : List ℕ) (told : Refusal) → answer ≡ asked.Worn count → number ≡ count → told ≡ refusal WORN number 0 → behind ≡ before ++ map (λ (ask : AskAt). Worn) asks
      → sent ≡ flat_map (λ (ask : AskAt). reply_bytes no_keys (Refused told)) asks → AnswersTurn tells by v w (requests_of bytes asks) before behind sent
  worn count number sent told is same made marked put =
      let g = subst (λ (a : AskedAll). Gives tells by v w (requests_of bytes asks) gives.0 out out' a) is gives.2 in
      worn_turn tells by v w bytes asks gives.0 out out' before behind count sent none g.0 (subst (λ (n : ℕ). Asks tells by v w (requests_of bytes asks) Refuses gives.0 out out' (all.Worn n)) g.0 g.1) goes_on marked
      (put ∙ ap (λ (xs : List ℕ). xs ++ flat_map (λ (ask : AskAt). reply_bytes no_keys (Refused told)) asks) (sym (worn_empty count is)) ∙ ap (λ (r : Refusal). out' ++ flat_map (λ (ask : AskAt). reply_bytes no_keys (Refused r)) asks) (made ∙ ap (λ (n : ℕ). refusal WORN n 0) same))

-- ---- what a turn leaves to send

-- where it decided, what it tells of stands in the vault that the pass gave back
stands_told : {D : Type 0} (tells : DiskTells D) (by : ℕ) (v w : View Origin Line) (requests : List Request) (outcome : Outcome) (found out given : List ℕ) (a : Asks tells by v w requests outcome found out given (answer_of outcome))
    → StandsTold tells a.new requests outcome
stands_told tells by v w requests (Decides over) found out given a =
    (a.durable, ap (λ (s : State). s.entries) a.went.turn.2 ∙ ap (λ (o : Origin). over ++ recorded (house_at o) over requests) (sym a.same_origin))
stands_told tells by v w requests (Fails before after) found out given a = tt
stands_told tells by v w requests Refuses found out given a = tt

pub left_to_send : {D : Type 0} (tells : DiskTells D) (by : ℕ) (v w : View Origin Line) (requests : List Request) (before behind : List Mark) (out : List ℕ) → AnswersTurn tells by v w requests before behind out → LeftToSend tells by w out
left_to_send tells by v w requests before behind out t =
    let a = t.at_desk.asks in
    let origin : v.origin ≡ Some a.new.origin = a.meets.origin_is ∙ ap (λ (o : Origin). Some o) (sym a.same_origin) in
    record {
      v = v;
      turn = t.turn;
      at_desk = t.at_desk;
      may_send = record {
        requests = t.turn.requests;
        outcome = t.turn.outcome;
        fits = a.follows.fits;
        sent_is = t.out_is ∙ ap (λ (o : Option Origin). replies (answered (house_seen o) t.turn.requests t.turn.outcome)) origin;
        told = stands_told tells by v w t.turn.requests t.turn.outcome t.at_desk.found t.at_desk.out t.at_desk.given a;
      };
    }

-- ---- the turn

module _ {D : Type 0} (tells : DiskTells D) (by : ℕ) (p q : Point) (gathered : Gathered) where
  -- nothing was gathered
  pub turn_none : (held : List ℕ) (asks : List AskAt) → asks ≡ [] → Gathers p.held q.held p.clock q.clock p.moments q.moments (requests_of held asks) → GathersTo q.held (length asks) (min (MOST_FRAMES - length p.moments) MAX_REQUESTS) gathered
      → q.view ≡ p.view → q.link ≡ p.link → q.marks ≡ p.marks → TurnIs tells by p q gathered sends.All
  turn_none held asks none gathers to view link marked =
      let g = subst (λ (xs : List AskAt). Gathers p.held q.held p.clock q.clock p.moments q.moments (requests_of held xs)) none gathers in
      record {
        turns = [];
        one = omega arith;
        went = record {
          at_desk = view;
          origin = ap (λ (x : View Origin Line). x.origin) view;
          is = append-nil (waiting p.held) ∙ g.is;
          lawful = tt;
          taken = g.taken;
          took = subst (λ (l : LinkSeen). Consumes p.link.left l.left []) (sym link) (Consumes-nil p.link.left);
          reads = ap (λ (l : LinkSeen). l.reads) link ∙ readings_none p.link.reads;
          asked = g.asked;
          moments_are = g.moments_are;
          marks_are = marked ∙ sym (append-nil p.marks);
          read_count = omega (arith, ap (λ (l : LinkSeen). l.read_faults) link);
          write_count = omega (arith, ap (λ (l : LinkSeen). l.write_faults) link);
        };
        to = subst (λ (xs : List AskAt). GathersTo q.held (length xs) (min (MOST_FRAMES - length p.moments) MAX_REQUESTS) gathered) none to;
        wrote = subst (λ (l : LinkSeen). Appends p.link.sent l.sent []) (sym link) (appends_none p.link.sent);
      }
    where
      appends_none : (sent : Option (List ℕ)) → Appends sent sent []
      appends_none None = tt
      appends_none (Some xs) = sym (append-nil xs)

  -- what was gathered was answered
  pub turn_some : (requests : List Request) (n : ℕ) (out : List ℕ) (sent : Sent) → n ≡ length requests → Gathers p.held q.held p.clock q.clock p.moments q.moments requests
      → GathersTo q.held n (min (MOST_FRAMES - length p.moments) MAX_REQUESTS) gathered → AnswersTurn tells by p.view q.view requests p.marks q.marks out → Sends p.link q.link out sent → OnlyWrites p.link q.link → TurnIs tells by p q gathered sent
  turn_some requests n out sent count g to a sent_is only =
      let whole : requests_in (a.turn ∷ []) ≡ requests = one_turn a.turn ∙ a.requests_are in
      let house : House = house_seen p.view.origin in
      record {
        turns = a.turn ∷ [];
        one = omega arith;
        went = record {
          at_desk = (q.view, a.at_desk, refl);
          origin = ap (λ (x : View Origin Line). x.origin) a.at_desk.goes_on.2;
          is = append-nil (waiting p.held) ∙ g.is ∙ ap (λ (rs : List Request). flat_map frame (frames_of rs) ++ waiting q.held) (sym whole);
          lawful = subst (λ (rs : List Request). AllByRecursion IsFrame (frames_of rs)) (sym whole) g.lawful;
          taken = g.taken ∙ ap (λ (rs : List Request). p.held.taken + length (flat_map frame (frames_of rs))) (sym whole);
          took = subst (λ (left : Option (List ℕ)). Consumes p.link.left left []) (sym only.left) (Consumes-nil p.link.left);
          reads = only.reads ∙ readings_none p.link.reads;
          asked = subst (λ (rs : List Request). Gave p.clock q.clock (moments_of rs)) (sym whole) g.asked;
          moments_are = g.moments_are ∙ ap (λ (rs : List Request). p.moments ++ moments_of rs) (sym whole);
          marks_are = a.marks_are ∙ ap (λ (ms : List Mark). p.marks ++ ms) (sym (one_marks house a.turn));
          read_count = omega (arith, only.read_faults);
          write_count = only.count;
        };
        to = subst (λ (m : ℕ). GathersTo q.held m (min (MOST_FRAMES - length p.moments) MAX_REQUESTS) gathered) (count ∙ ap length (sym whole)) to;
        wrote = wrote sent sent_is;
      }
    where
      bytes_are : out ≡ replies_in (house_seen p.view.origin) (a.turn ∷ [])
      bytes_are = a.out_is ∙ sym (one_replies (house_seen p.view.origin) a.turn)

      wrote : (sent : Sent) → Sends p.link q.link out sent → WroteAs (house_seen p.view.origin) p.link q.link (a.turn ∷ []) sent
      wrote sends.All is = subst (λ (bs : List ℕ). Appends p.link.sent q.link.sent bs) bytes_are is
      wrote sends.Failed is = (
        is.0,
        record {
          whole = [];
          last = a.turn;
          turns_are = refl;
          count = is.1.count;
          less = omega (arith, is.1.less, ap length a.out_is);
          appends = subst (λ (bs : List ℕ). Appends p.link.sent q.link.sent (take is.1.count bs)) a.out_is is.1.appends;
        },
      )
