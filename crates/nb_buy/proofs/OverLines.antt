-- What goes over a line: one part behind another, and what was over.
use Rattle.std.proofs.Common.{◌≡◌, ◌⊎◌, inl, inr, ⊎_elim, ℕ, ◌+◌, ◌≤◌, List, [], ◌∷◌, ◌++◌, take, drop, Option, refl, sym, ap, subst, ◌∙◌, append-nil, arith}
use Rattle.std.specs.Io.KnownBytes.{Consumes, Appends}
use Rattle.std.proofs.KnownBytes.{Consumes-nil, Appends-nil}
use Rattle.nb_link.specs.Link.{LinkSeen}
use Rattle.nb_units.specs.Frames.{Frame, IsFrame}
use Rattle.nb_frame.specs.State.{Collected, waiting}
use Rattle.nb_frame.specs.Collected.{frame_at}
use Rattle.nb_frame.specs.declared.stream.FrameAt.{FrameAt}
use Rattle.nb_wire.specs.Received.{ReceivedPromptly}
use Rattle.nb_wire.specs.Sent.{WroteOn}
use Rattle.nb_wire.specs.declared.sending.Sent.{Sent}
use Rattle.nb_wire.specs.declared.sending.Sent.TheVariants.{All, Failed}
use Rattle.nb_wire.specs.declared.receiving.LinkEnd.{LinkEnd}
use Rattle.nb_wire.specs.declared.receiving.LinkEnd.TheVariants as end
use Rattle.nb_wire.specs.declared.receiving.Fetched.TheVariants as fetched
use Rattle.nb_wire.proofs.Incoming.{received_none, received_both, readings_none, rose_from}
use Rattle.nb_wire.proofs.Outgoing.{wrote_none, wrote_both}
use Rattle.nb_buy.specs.declared.peer.Peer.{Peer}
use Rattle.nb_buy.specs.declared.peer.Peer.TheVariants.{House, Seller}
use Rattle.nb_buy.specs.declared.peer.Over.{Over}
use Rattle.nb_buy.specs.declared.peer.Over.TheVariants as over
use Rattle.nb_buy.specs.declared.sides.Sides.{Sides}
use Rattle.nb_buy.specs.Run.{Hears, frames_on}
use Rattle.nb_buy.specs.Lines.{Line, Lines, line_at, LineGoes, HasRefusal, IsOver}
use Rattle.nb_buy.specs.Steps.{FetchIs, Says, SameReaders, IsNear, held_at, lines_of}

pub line_none : (here : Line) → LineGoes here here [] []
line_none here = record { received = received_none here.wire; wrote = wrote_none here.sent here.wire.link }

pub line_both : (old mid new : Line) (frames others : List Frame) (bytes more : List ℕ) → LineGoes old mid frames bytes → LineGoes mid new others more → LineGoes old new (frames ++ others) (bytes ++ more)
line_both old mid new frames others bytes more first then = record {
  received = received_both old.wire mid.wire new.wire frames others first.received then.received;
  wrote = wrote_both old.sent mid.sent new.sent old.wire.link mid.wire.link new.wire.link bytes more first.received.write_count then.received.write_count first.wrote then.wrote;
}

-- these are all frames and all bytes of both parts
pub goes_both : (old mid new : Line) (frames others all : List Frame) (bytes more whole : List ℕ) → all ≡ frames ++ others → whole ≡ bytes ++ more
    → LineGoes old mid frames bytes → LineGoes mid new others more → LineGoes old new all whole
goes_both old mid new frames others all bytes more whole e f first then =
    subst (λ (x : List Frame × List ℕ). LineGoes old new x.0 x.1) (λ i. (sym e i, sym f i)) (line_both old mid new frames others bytes more first then)

-- ---- what was sent

pub says_goes : (old new : Line) (bytes : List ℕ) → Says old new bytes → LineGoes old new [] bytes
says_goes old new bytes says = record {
  received = record {
    pieces = [];
    took = subst (λ (x : Option (List ℕ)). Consumes old.wire.link.left x []) (sym says.only.left) (Consumes-nil old.wire.link.left);
    told = says.only.reads ∙ readings_none old.wire.link.reads;
    is = append-nil (waiting old.wire.held) ∙ ap waiting (sym says.held);
    lawful = tt;
    taken = ap (λ (c : Collected). c.taken) says.held ∙ zero_more old.wire.held.taken;
    read_count = omega (arith, says.only.read_faults);
    write_count = says.only.count;
  };
  wrote = says.wrote;
}
  where
    zero_more : (n : ℕ) → n ≡ n + 0
    zero_more n = omega arith

-- where no bytes were to be sent, it goes on as it went
pub sent_same : (before behind : Sent) (old new : LinkSeen) → WroteOn before behind old new [] → behind ≡ before
sent_same All All old new wrote = refl
sent_same All Failed old new wrote = absurd (omega (arith, wrote.1.less))
sent_same Failed All old new wrote = absurd wrote
sent_same Failed Failed old new wrote = refl

silent : (so : Sent) (old new : LinkSeen) → new.sent ≡ old.sent → WroteOn so so old new []
silent All old new same = subst (λ (x : Option (List ℕ)). Appends old.sent x []) (sym same) (Appends-nil old.sent)
silent Failed old new same = same

-- ---- what was received

received_line : (old new : Line) (frames : List Frame) → ReceivedPromptly old.wire new.wire frames → new.sent ≡ old.sent → LineGoes old new frames []
received_line old new frames got same = record {
  received = got.received;
  wrote = subst (λ (so : Sent). WroteOn old.sent so old.wire.link new.wire.link []) (sym same) (silent old.sent old.wire.link new.wire.link got.silent.sent);
}

still : (old new : Line) → new ≡ old → LineGoes old new [] []
still old new same = subst (λ (x : Line). LineGoes old x [] []) (sym same) (line_none old)

abbrev pub frame_with : ℕ → List ℕ → Frame
frame_with kind body = record { kind = kind; body = body }

abbrev pub at_front : Peer → Lines → FrameAt → Frame
at_front from lines f = frame_at (line_at from lines).wire.held.held f

-- the frame whose body was given
pub frame_is : (from : Peer) (server seller : LinkSeen) (sides : Sides) (f : FrameAt) (body : List ℕ) → body ≡ take f.len (drop f.start (held_at from sides).held)
    → frame_with f.kind body ≡ at_front from (lines_of server seller sides) f
frame_is House server seller sides f body is = ap (frame_with f.kind) is
frame_is Seller server seller sides f body is = ap (frame_with f.kind) is

-- a frame of a peer was fetched
pub fetched_house : (from : Peer) (old new : Lines) (f : FrameAt) → FetchIs from old new (fetched.Frame f) → LineGoes old.house new.house (frames_on House (Hears from (at_front from new f) ∷ [])) []
fetched_house House old new f is = received_line old.house new.house (at_front House new f ∷ []) is.fetches.0 is.sent
fetched_house Seller old new f is = still old.house new.house is.other

pub fetched_seller : (from : Peer) (old new : Lines) (f : FrameAt) → FetchIs from old new (fetched.Frame f) → LineGoes old.seller new.seller (frames_on Seller (Hears from (at_front from new f) ∷ [])) []
fetched_seller House old new f is = still old.seller new.seller is.other
fetched_seller Seller old new f is = received_line old.seller new.seller (at_front Seller new f ∷ []) is.fetches.0 is.sent

-- none was
pub none_house : (from : Peer) (old new : Lines) (end : LinkEnd) → FetchIs from old new (fetched.End end) → LineGoes old.house new.house [] []
none_house House old new end is = received_line old.house new.house [] is.fetches.0 is.sent
none_house Seller old new end is = still old.house new.house is.other

pub none_seller : (from : Peer) (old new : Lines) (end : LinkEnd) → FetchIs from old new (fetched.End end) → LineGoes old.seller new.seller [] []
none_seller House old new end is = still old.seller new.seller is.other
none_seller Seller old new end is = received_line old.seller new.seller [] is.fetches.0 is.sent

pub frame_lawful : (old new : Line) (f : Frame) → LineGoes old new (f ∷ []) [] → IsFrame f
frame_lawful old new f goes = goes.received.lawful.0

-- ---- refusals

pub refusal_first : (frames more : List Frame) → HasRefusal frames → HasRefusal (frames ++ more)
refusal_first [] more has = absurd has
refusal_first (f ∷ frames) more has = ⊎_elim (λ is. inl is) (λ later. inr (refusal_first frames more later)) has

pub refusal_later : (frames more : List Frame) → HasRefusal more → HasRefusal (frames ++ more)
refusal_later [] more has = has
refusal_later (f ∷ frames) more has = inr (refusal_later frames more has)

pub refusal_either : (frames more : List Frame) → HasRefusal (frames ++ more) → HasRefusal frames ⊎ HasRefusal more
refusal_either [] more has = inr has
refusal_either (f ∷ frames) more has = ⊎_elim (λ is. inl (inl is)) (λ later. ⊎_elim (λ one. inl (inr one)) (λ two. inr two) (refusal_either frames more later)) has

-- ---- what is over

-- what is over since a later point is over since an earlier one
pub over_from : (old mid new : Line) (frames more : List Frame) (why : Over) → old.wire.link.read_faults ≤ mid.wire.link.read_faults → IsOver mid new more why → IsOver old new (frames ++ more) why
over_from old mid new frames more (over.Ended (end.Ended rest)) count is = is
over_from old mid new frames more (over.Ended (end.BadFrame fault)) count is = is
over_from old mid new frames more (over.Ended end.ReadFault) count is =
    (rose_from old.wire.link.read_faults mid.wire.link.read_faults new.wire.link.read_faults count is.0, is.1)
over_from old mid new frames more over.WriteFault count is = is
over_from old mid new frames more over.Refused count is = refusal_later frames more is

-- ---- the readers

pub near_same : (old new : Sides) → SameReaders old new → IsNear old → IsNear new
near_same old new same near = record {
  house = omega (arith, near.house, same.read, ap (λ (c : Collected). c.taken) same.house);
  seller = omega (arith, near.seller, same.read, ap (λ (c : Collected). c.taken) same.seller);
  few = omega (arith, near.few, same.read);
}
