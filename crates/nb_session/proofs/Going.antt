-- A session goes on: what was done so far, and then some more, is what was done.
use Rattle.std.proofs.Common.{◌≡◌, ℕ, List, [], ◌∷◌, ◌++◌, length, Option, None, Some, refl, sym, ap, subst, ◌∙◌, append_assoc, append-nil, arith}
use Rattle.std.specs.List.{flat_map, AllByRecursion}
use Rattle.std.specs.Io.KnownBytes.{Consumes}
use Rattle.std.proofs.KnownBytes.{Consumes-nil, Consumes-trans}
use Rattle.std.proofs.lemmas.List.{map-append, length-append}
use Rattle.std.proofs.lemmas.Grind.{flat_map-append}
use Rattle.nb_port.specs.Tells.{DiskTells}
use Rattle.nb_link.specs.declared.link.Reading.{Reading}
use Rattle.nb_units.specs.Frames.{Frame, frame, IsFrame}
use Rattle.nb_frame.specs.State.{waiting}
use Rattle.nb_turns.specs.declared.line.Line.{Line}
use Rattle.nb_turns.specs.declared.mark.Mark.{Mark}
use Rattle.nb_turns.specs.Turns.{Request, House, Answered, answered, marks, replies}
use Rattle.nb_turns.specs.Callers.{Turned, answers_in}
use Rattle.nb_turn.specs.declared.chronicle.View.{View}
use Rattle.nb_vault.specs.declared.origin.Origin.{Origin}
use Rattle.nb_session.specs.Session.{TurnsAt, frame_of, frames_of, moments_of, requests_in, frames_in, moments_in, marks_in, replies_in, replies_of, Gave}
use Rattle.nb_wire.specs.Reads.{joined, with_readings}
use Rattle.nb_wire.proofs.Incoming.{joined_both, readings_none, readings_both}
use Rattle.nb_session.specs.Steps.{Point, Went, house_seen}

-- ---- lists of turns

pub requests_both : (turns more : List Turned) → requests_in (turns ++ more) ≡ requests_in turns ++ requests_in more
requests_both turns more = flat_map-append (λ (t : Turned). t.requests) turns more

pub frames_both : (turns more : List Turned) → frames_in (turns ++ more) ≡ frames_in turns ++ frames_in more
frames_both turns more = ap frames_of (requests_both turns more) ∙ map-append frame_of (requests_in turns) (requests_in more)

pub moments_both : (turns more : List Turned) → moments_in (turns ++ more) ≡ moments_in turns ++ moments_in more
moments_both turns more = ap moments_of (requests_both turns more) ∙ map-append (λ (r : Request). r.moment) (requests_in turns) (requests_in more)

answers_both : (house : House) (turns more : List Turned) → answers_in house (turns ++ more) ≡ answers_in house turns ++ answers_in house more
answers_both house turns more = flat_map-append (λ (t : Turned). answered house t.requests t.outcome) turns more

pub marks_both : (house : House) (turns more : List Turned) → marks_in house (turns ++ more) ≡ marks_in house turns ++ marks_in house more
marks_both house turns more = ap marks (answers_both house turns more) ∙ map-append (λ (a : Answered). a.mark) (answers_in house turns) (answers_in house more)

pub replies_both : (house : House) (turns more : List Turned) → replies_in house (turns ++ more) ≡ replies_in house turns ++ replies_in house more
replies_both house turns more = ap replies (answers_both house turns more) ∙ flat_map-append (λ (a : Answered). a.reply) (answers_in house turns) (answers_in house more)

-- those of one turn
pub one_turn : (turn : Turned) → requests_in (turn ∷ []) ≡ turn.requests
one_turn turn = append-nil turn.requests

pub one_marks : (house : House) (turn : Turned) → marks_in house (turn ∷ []) ≡ marks (answered house turn.requests turn.outcome)
one_marks house turn = ap marks (append-nil (answered house turn.requests turn.outcome))

pub one_replies : (house : House) (turn : Turned) → replies_in house (turn ∷ []) ≡ replies_of house turn
one_replies house turn = ap replies (append-nil (answered house turn.requests turn.outcome))

pub spelled_both : (fs gs : List Frame) → flat_map frame (fs ++ gs) ≡ flat_map frame fs ++ flat_map frame gs
spelled_both fs gs = flat_map-append frame fs gs

pub all_both : {A : Type 0} (P : A → Type 0) (xs ys : List A) → AllByRecursion P xs → AllByRecursion P ys → AllByRecursion P (xs ++ ys)
all_both P [] ys all more = more
all_both P (x ∷ xs) ys all more = (all.0, all_both P xs ys all.1 more)

-- ---- what the clock and the link tell

pub gave_none : (given : Option (List ℕ)) → Gave given given []
gave_none None = tt
gave_none (Some given) = sym (append-nil given)

pub gave_both : (a b c : Option (List ℕ)) (moments more : List ℕ) → Gave a b moments → Gave b c more → Gave a c (moments ++ more)
gave_both a b None moments more before then = tt
gave_both a None (Some c) moments more before then = absurd then
gave_both None (Some b) (Some c) moments more before then = absurd before
gave_both (Some a) (Some b) (Some c) moments more before then = then ∙ ap (λ (xs : List ℕ). xs ++ more) before ∙ append_assoc a moments more

-- ---- one part after another

module _ {D : Type 0} (tells : DiskTells D) (by : ℕ) where
  pub turns_both : (v u w : View Origin Line) (turns more : List Turned) → TurnsAt tells by v turns u → TurnsAt tells by u more w → TurnsAt tells by v (turns ++ more) w
  turns_both v u w [] more first then = subst (λ (x : View Origin Line). TurnsAt tells by x more w) first then
  turns_both v u w (turn ∷ turns) more first then = (first.0, first.1, turns_both first.0 u w turns more first.2 then)

  -- nothing was done
  pub went_none : (p : Point) → Went tells by p p [] []
  went_none p = record {
    at_desk = refl;
    origin = refl;
    is = append-nil (waiting p.held);
    lawful = tt;
    taken = omega arith;
    took = Consumes-nil p.link.left;
    reads = readings_none p.link.reads;
    asked = gave_none p.clock;
    moments_are = sym (append-nil p.moments);
    marks_are = sym (append-nil p.marks);
    read_count = omega arith;
    write_count = omega arith;
  }

  -- turns were taken and pieces read, and then some more
  pub went_both : (p q r : Point) (turns more : List Turned) (pieces others : List (List ℕ)) → Went tells by p q turns pieces → Went tells by q r more others → Went tells by p r (turns ++ more) (pieces ++ others)
  went_both p q r turns more pieces others first then =
      let spelled : flat_map frame (frames_in (turns ++ more)) ≡ flat_map frame (frames_in turns) ++ flat_map frame (frames_in more) = ap (flat_map frame) (frames_both turns more) ∙ spelled_both (frames_in turns) (frames_in more) in
      record {
        at_desk = turns_both p.view q.view r.view turns more first.at_desk then.at_desk;
        origin = then.origin ∙ first.origin;
        is = ap (λ (xs : List ℕ). waiting p.held ++ xs) (joined_both pieces others)
            ∙ sym (append_assoc (waiting p.held) (joined pieces) (joined others))
            ∙ ap (λ (xs : List ℕ). xs ++ joined others) first.is
            ∙ append_assoc (flat_map frame (frames_in turns)) (waiting q.held) (joined others)
            ∙ ap (λ (xs : List ℕ). flat_map frame (frames_in turns) ++ xs) then.is
            ∙ sym (append_assoc (flat_map frame (frames_in turns)) (flat_map frame (frames_in more)) (waiting r.held))
            ∙ ap (λ (xs : List ℕ). xs ++ waiting r.held) (sym spelled);
        lawful = subst (AllByRecursion IsFrame) (sym (frames_both turns more)) (all_both IsFrame (frames_in turns) (frames_in more) first.lawful then.lawful);
        taken = omega (arith, first.taken, then.taken, ap length spelled, length-append (flat_map frame (frames_in turns)) (flat_map frame (frames_in more)));
        took = subst (λ (xs : List ℕ). Consumes p.link.left r.link.left xs) (sym (joined_both pieces others)) (Consumes-trans p.link.left q.link.left r.link.left (joined pieces) (joined others) first.took then.took);
        reads = then.reads ∙ ap (λ (told : Option (List Reading)). with_readings told others) first.reads ∙ readings_both p.link.reads pieces others;
        asked = subst (Gave p.clock r.clock) (sym (moments_both turns more)) (gave_both p.clock q.clock r.clock (moments_in turns) (moments_in more) first.asked then.asked);
        moments_are = then.moments_are ∙ ap (λ (xs : List ℕ). xs ++ moments_in more) first.moments_are ∙ append_assoc p.moments (moments_in turns) (moments_in more) ∙ ap (λ (xs : List ℕ). p.moments ++ xs) (sym (moments_both turns more));
        marks_are = then.marks_are
            ∙ ap (λ (o : Option Origin). q.marks ++ marks_in (house_seen o) more) first.origin
            ∙ ap (λ (xs : List Mark). xs ++ marks_in (house_seen p.view.origin) more) first.marks_are
            ∙ append_assoc p.marks (marks_in (house_seen p.view.origin) turns) (marks_in (house_seen p.view.origin) more)
            ∙ ap (λ (xs : List Mark). p.marks ++ xs) (sym (marks_both (house_seen p.view.origin) turns more));
        read_count = omega (arith, first.read_count, then.read_count);
        write_count = omega (arith, first.write_count, then.write_count);
      }
