-- Frames that are received: what is read waits behind what waited, until a frame is given out.
use Rattle.std.proofs.Common.{◌≡◌, ℕ, ◌+◌, ◌≤◌, List, [], ◌∷◌, ◌++◌, length, Option, None, Some, refl, sym, ap, subst, ◌∙◌, append_assoc, append-nil, arith}
use Rattle.std.specs.List.{flat_map, AllByRecursion}
use Rattle.std.specs.Io.KnownBytes.{Consumes}
use Rattle.std.proofs.KnownBytes.{Consumes-nil, Consumes-trans}
use Rattle.std.proofs.lemmas.List.{map-append, length-append}
use Rattle.std.proofs.lemmas.Grind.{flat_map-append}
use Rattle.nb_port.specs.Faults.{Rose}
use Rattle.nb_link.specs.Link.{LinkSeen}
use Rattle.nb_link.specs.declared.link.Reading.{Reading}
use Rattle.nb_units.specs.Frames.{Frame, frame, IsFrame, front_of}
use Rattle.nb_frame.specs.State.{Collected, waiting, fed}
use Rattle.nb_frame.specs.Looks.{IsShort}
use Rattle.nb_frame.specs.Collected.{frame_at, TakesFrame}
use Rattle.nb_frame.specs.declared.stream.FrameAt.{FrameAt}
use Rattle.nb_wire.specs.Reads.{joined, readings_of, with_readings, OnlyReads}
use Rattle.nb_wire.specs.Received.{Wire, wire, Received, IsPrompt, ReceivedPromptly}

-- ---- lists

pub joined_both : (pieces more : List (List ℕ)) → joined (pieces ++ more) ≡ joined pieces ++ joined more
joined_both pieces more = flat_map-append (λ (piece : List ℕ). piece) pieces more

all_both : {A : Type 0} (P : A → Type 0) (xs ys : List A) → AllByRecursion P xs → AllByRecursion P ys → AllByRecursion P (xs ++ ys)
all_both P [] ys all more = more
all_both P (x ∷ xs) ys all more = (all.0, all_both P xs ys all.1 more)

pub readings_none : (told : Option (List Reading)) → told ≡ with_readings told []
readings_none None = refl
readings_none (Some told) = ap Some (sym (append-nil told))

pub readings_both : (told : Option (List Reading)) (pieces more : List (List ℕ)) → with_readings (with_readings told pieces) more ≡ with_readings told (pieces ++ more)
readings_both None pieces more = refl
readings_both (Some told) pieces more =
    ap Some (append_assoc told (readings_of pieces) (readings_of more) ∙ ap (λ (rs : List Reading). told ++ rs) (sym (map-append (λ (piece : List ℕ). let r : Reading = record { asked = 65536; given = length piece } in r) pieces more)))

-- ---- one part behind another

pub received_none : (here : Wire) → Received here here []
received_none here = record {
  pieces = [];
  took = Consumes-nil here.link.left;
  told = readings_none here.link.reads;
  is = append-nil (waiting here.held);
  lawful = tt;
  taken = omega arith;
  read_count = omega arith;
  write_count = omega arith;
}

pub received_both : (old mid new : Wire) (frames more : List Frame) → Received old mid frames → Received mid new more → Received old new (frames ++ more)
received_both old mid new frames more first then =
    let spelled : flat_map frame (frames ++ more) ≡ flat_map frame frames ++ flat_map frame more = flat_map-append frame frames more in
    record {
      pieces = first.pieces ++ then.pieces;
      took = subst (λ (xs : List ℕ). Consumes old.link.left new.link.left xs) (sym (joined_both first.pieces then.pieces))
          (Consumes-trans old.link.left mid.link.left new.link.left (joined first.pieces) (joined then.pieces) first.took then.took);
      told = then.told ∙ ap (λ (told : Option (List Reading)). with_readings told then.pieces) first.told ∙ readings_both old.link.reads first.pieces then.pieces;
      is = ap (λ (xs : List ℕ). waiting old.held ++ xs) (joined_both first.pieces then.pieces)
          ∙ sym (append_assoc (waiting old.held) (joined first.pieces) (joined then.pieces))
          ∙ ap (λ (xs : List ℕ). xs ++ joined then.pieces) first.is
          ∙ append_assoc (flat_map frame frames) (waiting mid.held) (joined then.pieces)
          ∙ ap (λ (xs : List ℕ). flat_map frame frames ++ xs) then.is
          ∙ sym (append_assoc (flat_map frame frames) (flat_map frame more) (waiting new.held))
          ∙ ap (λ (xs : List ℕ). xs ++ waiting new.held) (sym spelled);
      lawful = all_both IsFrame frames more first.lawful then.lawful;
      taken = omega (arith, first.taken, then.taken, ap length spelled, length-append (flat_map frame frames) (flat_map frame more));
      read_count = omega (arith, first.read_count, then.read_count);
      write_count = omega (arith, first.write_count, then.write_count);
    }

-- ---- reading on up to a frame

pub promptly_none : (here : Wire) → ReceivedPromptly here here []
unfolding received_none
promptly_none here = record { received = received_none here; prompt = tt; silent = record { sent = refl; write_faults = refl } }

prompt_more : (waits : List ℕ) (pieces : List (List ℕ)) (piece : List ℕ) → IsPrompt waits pieces → IsShort (front_of (waits ++ joined pieces)) → IsPrompt waits (pieces ++ piece ∷ [])
prompt_more waits [] piece prompt short = (subst (λ (xs : List ℕ). IsShort (front_of xs)) (append-nil waits) short, tt)
prompt_more waits (first ∷ pieces) piece prompt short =
    (prompt.0, prompt_more (waits ++ first) pieces piece prompt.1 (subst (λ (xs : List ℕ). IsShort (front_of xs)) (sym (append_assoc waits first (joined pieces))) short))

-- some pieces were read
reads_more : (old : Wire) (mid link : LinkSeen) (held behind : Collected) (more : List (List ℕ)) (before : ReceivedPromptly old (wire mid held) []) → OnlyReads mid link more
    → waiting behind ≡ waiting held ++ joined more → behind.taken ≡ held.taken → IsPrompt (waiting old.held) (before.received.pieces ++ more) → ReceivedPromptly old (wire link behind) []
reads_more old mid link held behind more before reads waits taken prompt = record {
  received = record {
    pieces = before.received.pieces ++ more;
    took = subst (λ (xs : List ℕ). Consumes old.link.left link.left xs) (sym (joined_both before.received.pieces more))
        (Consumes-trans old.link.left mid.left link.left (joined before.received.pieces) (joined more) before.received.took reads.took);
    told = reads.told ∙ ap (λ (told : Option (List Reading)). with_readings told more) before.received.told ∙ readings_both old.link.reads before.received.pieces more;
    is = ap (λ (xs : List ℕ). waiting old.held ++ xs) (joined_both before.received.pieces more)
        ∙ sym (append_assoc (waiting old.held) (joined before.received.pieces) (joined more))
        ∙ ap (λ (xs : List ℕ). xs ++ joined more) before.received.is
        ∙ sym waits;
    lawful = tt;
    taken = taken ∙ before.received.taken;
    read_count = omega (arith, before.received.read_count, reads.count);
    write_count = omega (arith, before.received.write_count, reads.write_faults);
  };
  prompt = prompt;
  silent = record { sent = reads.sent ∙ before.silent.sent; write_faults = reads.write_faults ∙ before.silent.write_faults };
}

-- a piece was read, where less than a frame waited
pub promptly_fed : (old : Wire) (mid link : LinkSeen) (held same behind : Collected) (piece : List ℕ) → ReceivedPromptly old (wire mid held) [] → same ≡ held → IsShort (front_of (waiting held))
    → OnlyReads mid link (piece ∷ []) → behind ≡ fed same piece → ReceivedPromptly old (wire link behind) []
promptly_fed old mid link held same behind piece before stays short reads feeds =
    let is : behind ≡ fed held piece = feeds ∙ ap (λ (c : Collected). fed c piece) stays in
    reads_more old mid link held behind (piece ∷ []) before reads
    (ap waiting is ∙ ap (λ (xs : List ℕ). waiting held ++ xs) (sym (append-nil piece)))
    (ap (λ (c : Collected). c.taken) is)
    (prompt_more (waiting old.held) before.received.pieces piece before.prompt (subst (λ (xs : List ℕ). IsShort (front_of xs)) (sym before.received.is) short))

-- a read gave nothing
pub promptly_kept : (old : Wire) (mid link : LinkSeen) (held same behind : Collected) → ReceivedPromptly old (wire mid held) [] → same ≡ held → OnlyReads mid link [] → behind ≡ same
    → ReceivedPromptly old (wire link behind) []
promptly_kept old mid link held same behind before stays reads kept =
    let is : behind ≡ held = kept ∙ stays in
    reads_more old mid link held behind [] before reads
    (ap waiting is ∙ sym (append-nil (waiting held)))
    (ap (λ (c : Collected). c.taken) is)
    (subst (IsPrompt (waiting old.held)) (sym (append-nil before.received.pieces)) before.prompt)

-- a frame was given out
pub promptly_frame : (old : Wire) (link : LinkSeen) (mid new : Collected) (f : FrameAt) → ReceivedPromptly old (wire link mid) [] → TakesFrame mid new f
    → ReceivedPromptly old (wire link new) (frame_at new.held f ∷ [])
promptly_frame old link mid new f before takes =
    let same : frame_at mid.held f ≡ frame_at new.held f = ap (λ (held : List ℕ). frame_at held f) (sym takes.held) in
    let one : flat_map frame (frame_at mid.held f ∷ []) ≡ frame (frame_at mid.held f) = append-nil (frame (frame_at mid.held f)) in
    subst (λ (g : Frame). ReceivedPromptly old (wire link new) (g ∷ [])) same
    (record {
      received = record {
        pieces = before.received.pieces;
        took = before.received.took;
        told = before.received.told;
        is = before.received.is ∙ takes.is ∙ ap (λ (xs : List ℕ). xs ++ waiting new) (sym one);
        lawful = (takes.lawful, tt);
        taken = omega (arith, before.received.taken, takes.taken, ap length one);
        read_count = before.received.read_count;
        write_count = before.received.write_count;
      };
      prompt = before.prompt;
      silent = before.silent;
    })

-- less than a frame still waits
pub still_short : (held same behind : Collected) → same ≡ held → behind ≡ same → IsShort (front_of (waiting held)) → IsShort (front_of (waiting behind))
still_short held same behind stays kept short = subst (λ (c : Collected). IsShort (front_of (waiting c))) (sym (kept ∙ stays)) short

-- a count that did not fall, and then rose, rose
pub rose_from : (a b c : ℕ) → a ≤ b → Rose b c → Rose a c
rose_from a b c before rose = omega (arith, before, rose)

-- a frame that was given out stands among the bytes that are held
pub within : (mid new : Collected) (f : FrameAt) → TakesFrame mid new f → f.start + f.len ≤ length new.held
within mid new f takes = omega (arith, takes.within, ap length takes.held)
