-- The steps of a session, for the contracts of private functions.
use Rattle.std.specs.Prelude.{◌≡◌, ℕ, ◌+◌, ◌-◌, ◌*◌, ◌<◌, ◌≤◌, List, [], ◌++◌, Option, None, Some, length, min, vec_capacity, ◌≢◌}
use Rattle.std.specs.List.{flat_map, AllByRecursion}
use Rattle.std.specs.Io.KnownBytes.{Consumes, Appends}
use Rattle.nb_port.specs.Tells.{DiskTells}
use Rattle.nb_port.specs.Faults.{Rose}
use Rattle.nb_link.specs.Link.{LinkSeen}
use Rattle.nb_units.specs.Frames.{frame, IsFrame, front_of}
use Rattle.nb_units.specs.declared.limits.TheConstants.{FIRST_VERSION}
use Rattle.nb_units.specs.declared.frames.TheConstants.{HEADER, MAX_BODY}
use Rattle.nb_frame.specs.State.{Collected, waiting, unfed}
use Rattle.nb_frame.specs.Looks.{IsShort}
use Rattle.nb_frame.specs.Cuts.{EndsIn}
use Rattle.nb_frame.specs.declared.stream.Next.TheVariants as next
use Rattle.nb_msgs.specs.declared.reply.TheConstants.{REPLY_ROOM}
use Rattle.nb_turns.specs.declared.limits.TheConstants.{MAX_REQUESTS}
use Rattle.nb_turns.specs.declared.line.Line.{Line}
use Rattle.nb_turns.specs.declared.mark.Mark.{Mark}
use Rattle.nb_turns.specs.Turns.{Request, House, answered, marks, replies}
use Rattle.nb_turns.specs.Callers.{Turned}
use Rattle.nb_turn.specs.declared.chronicle.View.{View}
use Rattle.nb_vault.specs.declared.origin.Origin.{Origin}
use Rattle.nb_vault.specs.Rules.{house_of}
use Rattle.nb_vault.specs.Sending.{MaySend}
use Rattle.nb_escrow.specs.Head.{head_of}
use Rattle.nb_session.specs.Session.{house_at, TurnAt, TurnsAt, frames_of, moments_of, requests_in, frames_in, moments_in, marks_in, replies_in, Gave, WroteShort}
use Rattle.nb_wire.specs.Reads.{joined, with_readings}
use Rattle.nb_session.specs.declared.ended.TheConstants.{MOST_FRAMES}
use Rattle.nb_session.specs.declared.ended.SessionEnd.{SessionEnd}
use Rattle.nb_session.specs.declared.ended.SessionEnd.TheVariants.{Clean, Cut}
use Rattle.nb_session.specs.declared.gathering.Gathered.{Gathered}
use Rattle.nb_session.specs.declared.gathering.Gathered.TheVariants as gathered
use Rattle.nb_session.specs.declared.linked.Work.{Work}
use Rattle.nb_session.specs.declared.outside.Outside.{Outside}
use Rattle.nb_wire.specs.declared.sending.Sent.{Sent}
use Rattle.nb_wire.specs.declared.sending.Sent.TheVariants as sends

-- the house that a pass asks. A pass always has an origin
abbrev pub house_seen : Option Origin → House
house_seen (Some origin) = house_at origin
house_seen None = house_of (head_of (record { head = []; version = FIRST_VERSION; rate = 0 })) 0

-- ---- gathering

-- the frames of these requests were given out, and the clock gave their moments
pub record Gathers (old new : Collected) (clock clock' : Option (List ℕ)) (moments moments' : List ℕ) (requests : List Request) : Type 0 where
  pub is : waiting old ≡ flat_map frame (frames_of requests) ++ waiting new
  pub lawful : AllByRecursion IsFrame (frames_of requests)
  pub taken : new.taken ≡ old.taken + length (flat_map frame (frames_of requests))
  pub asked : Gave clock clock' (moments_of requests)
  pub moments_are : moments' ≡ moments ++ moments_of requests

-- why there are so many
abbrev pub GathersTo : Collected → ℕ → ℕ → Gathered → Type 0
GathersTo held count most gathered.More = (count < most) × IsShort (front_of (waiting held)) × (length (waiting held) < HEADER + MAX_BODY)
GathersTo held count most (gathered.Bad fault) = (count < most) × EndsIn held.taken (waiting held) (next.Bad fault)
GathersTo held count most gathered.Full = count ≡ most

-- ---- answering

-- the requests were answered by one turn, whose marks and replies these are
pub record AnswersTurn {D : Type 0} (tells : DiskTells D) (by : ℕ) (v w : View Origin Line) (requests : List Request) (before behind : List Mark) (out : List ℕ) : Type 0 where
  pub turn : Turned
  pub requests_are : turn.requests ≡ requests
  pub at_desk : TurnAt tells by v w turn
  pub marks_are : behind ≡ before ++ marks (answered (house_seen v.origin) turn.requests turn.outcome)
  pub out_is : out ≡ replies (answered (house_seen v.origin) turn.requests turn.outcome)

-- ---- sending

-- these replies may be sent from the vault that the pass of this number gave back last, as it took a turn since which it knows w
pub record LeftToSend {D : Type 0} (tells : DiskTells D) (by : ℕ) (w : View Origin Line) (replies : List ℕ) : Type 0 where
  pub v : View Origin Line
  pub turn : Turned
  pub at_desk : TurnAt tells by v w turn
  pub may_send : MaySend tells at_desk.asks.new replies

-- ---- the way of a session

-- where a session stands: what its pass knows, its link and clock, its reader of frames, and the moments and marks so far
pub record Point : Type 0 where
  pub view : View Origin Line
  pub link : LinkSeen
  pub clock : Option (List ℕ)
  pub held : Collected
  pub moments : List ℕ
  pub marks : List Mark

-- a point in a session
abbrev pub point : View Origin Line → LinkSeen → Option (List ℕ) → Collected → List ℕ → List Mark → Point
point view link clock held moments marks = record { view = view; link = link; clock = clock; held = held; moments = moments; marks = marks }

-- from one point to another these turns were taken, and these pieces read
pub record Went {D : Type 0} (tells : DiskTells D) (by : ℕ) (p q : Point) (turns : List Turned) (pieces : List (List ℕ)) : Type 0 where
  pub at_desk : TurnsAt tells by p.view turns q.view
  pub origin : q.view.origin ≡ p.view.origin
  pub is : waiting p.held ++ joined pieces ≡ flat_map frame (frames_in turns) ++ waiting q.held
  pub lawful : AllByRecursion IsFrame (frames_in turns)
  pub taken : q.held.taken ≡ p.held.taken + length (flat_map frame (frames_in turns))
  pub took : Consumes p.link.left q.link.left (joined pieces)
  pub reads : q.link.reads ≡ with_readings p.link.reads pieces
  pub asked : Gave p.clock q.clock (moments_in turns)
  pub moments_are : q.moments ≡ p.moments ++ moments_in turns
  pub marks_are : q.marks ≡ p.marks ++ marks_in (house_seen p.view.origin) turns
  pub read_count : p.link.read_faults ≤ q.link.read_faults
  pub write_count : p.link.write_faults ≤ q.link.write_faults

-- what was sent of the replies of these turns
abbrev pub WroteAs : House → LinkSeen → LinkSeen → List Turned → Sent → Type 0
WroteAs house old new turns sends.All = Appends old.sent new.sent (replies_in house turns)
WroteAs house old new turns sends.Failed = Rose old.write_faults new.write_faults × WroteShort house old.sent new.sent turns

-- what was gathered was answered in one turn, where there was something
pub record TurnIs {D : Type 0} (tells : DiskTells D) (by : ℕ) (p q : Point) (gathered : Gathered) (sent : Sent) : Type 0 where
  pub turns : List Turned
  pub one : length turns ≤ 1
  pub went : Went tells by p q turns []
  pub to : GathersTo q.held (length (requests_in turns)) (min (MOST_FRAMES - length p.moments) MAX_REQUESTS) gathered
  pub wrote : WroteAs (house_seen p.view.origin) p.link q.link turns sent

-- ---- memory

-- there is room for what was opened of the requests of a turn, and for the drafts of their replies
pub record HasPlaces (outside : Outside) : Type 0 where
  pub opened : MAX_REQUESTS ≤ vec_capacity outside.opened
  pub drafts : MAX_REQUESTS ≤ vec_capacity outside.drafts

-- there is room for a turn and for all that is told
pub record HasRoom (work : Work) : Type 0 where
  pub asks : MAX_REQUESTS ≤ vec_capacity work.asks
  pub outside : HasPlaces work.outside
  pub ats : MAX_REQUESTS ≤ vec_capacity work.ats
  pub out : MAX_REQUESTS * REPLY_ROOM ≤ vec_capacity work.out
  pub moments : MOST_FRAMES ≤ vec_capacity work.moments
  pub marks : MOST_FRAMES ≤ vec_capacity work.marks

-- nothing was done yet
pub record IsBegun (work : Work) : Type 0 where
  pub room : HasRoom work
  pub frames : work.frames ≡ unfed
  pub moments : work.moments.items ≡ []
  pub marks : work.marks.items ≡ []

-- how a session ends where nothing is left of its link
abbrev pub EndsAt : Collected → SessionEnd → Type 0
EndsAt held Clean = length (waiting held) ≡ 0
EndsAt held (Cut place) = (length (waiting held) ≢ 0) × (place ≡ held.taken + length (waiting held))
EndsAt held other = ⊥
