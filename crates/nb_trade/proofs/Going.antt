-- What goes over a line: one part behind another.
use Rattle.std.proofs.Common.{◌≡◌, ℕ, ◌+◌, ◌≤◌, List, [], ◌∷◌, ◌++◌, Option, length, take, refl, sym, ap, subst, ◌∙◌, append-nil, append_assoc, length-append, arith}
use Rattle.std.specs.List.{flat_map, AllByRecursion}
use Rattle.std.specs.Io.KnownBytes.{Consumes, Appends}
use Rattle.std.proofs.KnownBytes.{Consumes-nil, Consumes-trans, Appends-nil}
use Rattle.std.proofs.lemmas.Grind.{flat_map-append}
use Rattle.std.proofs.lemmas.List.{take-append-le}
use Rattle.std.proofs.Math.Seq.{take-append-add}
use Rattle.nb_link.specs.Link.{LinkSeen}
use Rattle.nb_link.specs.declared.link.Reading.{Reading}
use Rattle.nb_units.specs.Frames.{Frame, frame, IsFrame}
use Rattle.nb_frame.specs.State.{Collected, waiting}
use Rattle.nb_wire.specs.Reads.{joined, with_readings}
use Rattle.nb_wire.specs.Received.{IsPrompt, ReceivedPromptly}
use Rattle.nb_wire.specs.Sent.{WroteOn}
use Rattle.nb_wire.specs.declared.sending.Sent.{Sent}
use Rattle.nb_wire.specs.declared.sending.Sent.TheVariants.{All, Failed}
use Rattle.nb_wire.proofs.Incoming.{joined_both, readings_none, readings_both}
use Rattle.nb_wire.proofs.Outgoing.{wrote_none, wrote_both}
use Rattle.nb_trade.specs.Lines.{Line, WantsMore, AreWanted, LineGoes, Says, GoesInParts}

-- ---- what was received, one part behind another

all_both : {A : Type 0} (P : A → Type 0) (xs ys : List A) → AllByRecursion P xs → AllByRecursion P ys → AllByRecursion P (xs ++ ys)
all_both P [] ys all more = more
all_both P (x ∷ xs) ys all more = (all.0, all_both P xs ys all.1 more)

wanted_front : (frames others : List Frame) (bytes : List ℕ) → WantsMore frames bytes → WantsMore (frames ++ others) bytes
wanted_front frames others bytes w =
    let within : w.count ≤ length frames = omega (arith, w.fewer) in
    record {
      count = w.count;
      fewer = omega (arith, w.fewer, length-append frames others);
      rest = w.rest;
      is = w.is ∙ ap (λ (fs : List Frame). flat_map frame fs ++ w.rest) (sym (take-append-le w.count frames others within));
      short = w.short;
    }

wanted_behind : (frames others : List Frame) (bytes : List ℕ) → WantsMore others bytes → WantsMore (frames ++ others) (flat_map frame frames ++ bytes)
wanted_behind frames others bytes w =
    let first = flat_map frame frames in
    let more = flat_map frame (take w.count others) in
    let both : flat_map frame (take (length frames + w.count) (frames ++ others)) ≡ first ++ more =
    ap (flat_map frame) (take-append-add frames others w.count) ∙ flat_map-append frame frames (take w.count others) in
    record {
      count = length frames + w.count;
      fewer = omega (arith, w.fewer, length-append frames others);
      rest = w.rest;
      is = ap (λ (xs : List ℕ). first ++ xs) w.is ∙ sym (append_assoc first more w.rest) ∙ ap (λ (xs : List ℕ). xs ++ w.rest) (sym both);
      short = w.short;
    }

read_behind : (frames others : List Frame) (waits : List ℕ) (pieces : List (List ℕ)) → AreWanted others waits pieces → AreWanted (frames ++ others) (flat_map frame frames ++ waits) pieces
read_behind frames others waits [] wanted = tt
read_behind frames others waits (piece ∷ pieces) wanted = (
  wanted_behind frames others waits wanted.0,
  subst (λ (xs : List ℕ). AreWanted (frames ++ others) xs pieces) (sym (append_assoc (flat_map frame frames) waits piece)) (read_behind frames others (waits ++ piece) pieces wanted.1),
)

read_both : (frames others : List Frame) (waits between : List ℕ) (pieces more : List (List ℕ)) → AreWanted frames waits pieces → waits ++ joined pieces ≡ flat_map frame frames ++ between → AreWanted others between more
    → AreWanted (frames ++ others) waits (pieces ++ more)
read_both frames others waits between [] more first is then =
    subst (λ (xs : List ℕ). AreWanted (frames ++ others) xs more) (sym (sym (append-nil waits) ∙ is)) (read_behind frames others between more then)
read_both frames others waits between (piece ∷ pieces) more first is then =
    (wanted_front frames others waits first.0, read_both frames others (waits ++ piece) between pieces more first.1 (append_assoc waits piece (joined pieces) ∙ is) then)

-- a frame that was received promptly
read_one : (f : Frame) (waits : List ℕ) (pieces : List (List ℕ)) → IsPrompt waits pieces → AreWanted (f ∷ []) waits pieces
read_one f waits [] prompt = tt
read_one f waits (piece ∷ pieces) prompt = (record { count = 0; fewer = omega arith; rest = waits; is = refl; short = prompt.0 }, read_one f (waits ++ piece) pieces prompt.1)

-- ---- one part behind another

zero_more : (n : ℕ) → n ≡ n + 0
zero_more n = omega arith

pub line_none : (here : Line) → LineGoes here here [] []
line_none here = record {
  received = record {
    pieces = [];
    took = Consumes-nil here.wire.link.left;
    told = readings_none here.wire.link.reads;
    is = append-nil (waiting here.wire.held);
    lawful = tt;
    taken = zero_more here.wire.held.taken;
    read_count = omega arith;
    write_count = omega arith;
  };
  wanted = tt;
  wrote = wrote_none here.sent here.wire.link;
}

pub line_both : (old mid new : Line) (frames others : List Frame) (bytes more : List ℕ) → LineGoes old mid frames bytes → LineGoes mid new others more → LineGoes old new (frames ++ others) (bytes ++ more)
line_both old mid new frames others bytes more one two =
    let first = one.received in
    let then = two.received in
    let spelled : flat_map frame (frames ++ others) ≡ flat_map frame frames ++ flat_map frame others = flat_map-append frame frames others in
    record {
      received = record {
        pieces = first.pieces ++ then.pieces;
        took = subst (λ (xs : List ℕ). Consumes old.wire.link.left new.wire.link.left xs) (sym (joined_both first.pieces then.pieces))
            (Consumes-trans old.wire.link.left mid.wire.link.left new.wire.link.left (joined first.pieces) (joined then.pieces) first.took then.took);
        told = then.told ∙ ap (λ (told : Option (List Reading)). with_readings told then.pieces) first.told ∙ readings_both old.wire.link.reads first.pieces then.pieces;
        is = ap (λ (xs : List ℕ). waiting old.wire.held ++ xs) (joined_both first.pieces then.pieces)
            ∙ sym (append_assoc (waiting old.wire.held) (joined first.pieces) (joined then.pieces))
            ∙ ap (λ (xs : List ℕ). xs ++ joined then.pieces) first.is
            ∙ append_assoc (flat_map frame frames) (waiting mid.wire.held) (joined then.pieces)
            ∙ ap (λ (xs : List ℕ). flat_map frame frames ++ xs) then.is
            ∙ sym (append_assoc (flat_map frame frames) (flat_map frame others) (waiting new.wire.held))
            ∙ ap (λ (xs : List ℕ). xs ++ waiting new.wire.held) (sym spelled);
        lawful = all_both IsFrame frames others first.lawful then.lawful;
        taken = omega (arith, first.taken, then.taken, ap length spelled, length-append (flat_map frame frames) (flat_map frame others));
        read_count = omega (arith, first.read_count, then.read_count);
        write_count = omega (arith, first.write_count, then.write_count);
      };
      wanted = read_both frames others (waiting old.wire.held) (waiting mid.wire.held) first.pieces then.pieces one.wanted first.is two.wanted;
      wrote = wrote_both old.sent mid.sent new.sent old.wire.link mid.wire.link new.wire.link bytes more first.write_count then.write_count one.wrote two.wrote;
    }

pub goes_in_parts : GoesInParts
goes_in_parts = (line_none, line_both)

-- these are all frames and all bytes of both parts
pub goes_both : (old mid new : Line) (frames others all : List Frame) (bytes more whole : List ℕ) → all ≡ frames ++ others → whole ≡ bytes ++ more
    → LineGoes old mid frames bytes → LineGoes mid new others more → LineGoes old new all whole
goes_both old mid new frames others all bytes more whole e f first then =
    subst (λ (x : List Frame × List ℕ). LineGoes old new x.0 x.1) (λ i. (sym e i, sym f i)) (line_both old mid new frames others bytes more first then)

pub still : (old new : Line) → new ≡ old → LineGoes old new [] []
still old new same = subst (λ (x : Line). LineGoes old x [] []) (sym same) (line_none old)

-- ---- what was sent

pub says_goes : (old new : Line) (bytes : List ℕ) → Says old new bytes → LineGoes old new [] bytes
says_goes old new bytes says = record {
  received = record {
    pieces = [];
    took = subst (λ (x : Option (List ℕ)). Consumes old.wire.link.left x []) (sym says.only.left) (Consumes-nil old.wire.link.left);
    told = says.only.reads ∙ readings_none old.wire.link.reads;
    is = append-nil (waiting old.wire.held) ∙ ap waiting (sym says.held);
    lawful = tt;
    taken = ap (λ (c : Collected). c.taken) says.held ∙ zero_more old.wire.held.taken;
    read_count = omega (arith, says.only.read_faults);
    write_count = says.only.count;
  };
  wanted = tt;
  wrote = says.wrote;
}

-- where no bytes were to be sent, it goes on as it went
pub sent_same : (before behind : Sent) (old new : LinkSeen) → WroteOn before behind old new [] → behind ≡ before
sent_same All All old new wrote = refl
sent_same All Failed old new wrote = absurd (omega (arith, wrote.1.less))
sent_same Failed All old new wrote = absurd wrote
sent_same Failed Failed old new wrote = refl

silent : (so : Sent) (old new : LinkSeen) → new.sent ≡ old.sent → WroteOn so so old new []
silent All old new same = subst (λ (x : Option (List ℕ)). Appends old.sent x []) (sym same) (Appends-nil old.sent)
silent Failed old new same = same

-- ---- what was received

pub received_line : (old new : Line) (f : Frame) → ReceivedPromptly old.wire new.wire (f ∷ []) → new.sent ≡ old.sent → LineGoes old new (f ∷ []) []
received_line old new f got same = record {
  received = got.received;
  wanted = read_one f (waiting old.wire.held) got.received.pieces got.prompt;
  wrote = subst (λ (so : Sent). WroteOn old.sent so old.wire.link new.wire.link []) (sym same) (silent old.sent old.wire.link new.wire.link got.silent.sent);
}
