use Rattle.std.proofs.Common.{ℕ, ◌+◌, ◌<◌, ◌^◌, List, length, ◌∙◌, sym, ap, subst, refl, arith}
use Rattle.nb_frame.specs.State.{Collected, waiting}
use Rattle.nb_turns.specs.declared.mark.Mark.{Mark}
use Rattle.nb_frame.specs.Looks.{IsShort}
use Rattle.nb_turn.specs.Passes.{sees}
use Rattle.nb_units.specs.Frames.{front_of}
use Rattle.nb_session.specs.declared.gathering.Gathered.{Gathered}
use Rattle.nb_wire.specs.declared.sending.Sent.{Sent}
use Rattle.nb_session.specs.Steps.{Point, TurnIs, point}
use Rattle.nb_session.proofs.Ending.{as_many_marks, ended_at, ended_bad, ended_fault, ended_short, ended_spent, few_bad, few_more, few_taken, ran_fed, ran_kept, ran_none, ran_turn}
use Rattle.nb_session.proofs.Ending.{Ran, begin}
use Rattle.nb_wire.proofs.Incoming.{rose_from}
use Rattle.nb_session.proofs.linked.serve.Goals as goal

pub serving-init : goal.serving-init
serving-init g c = record {
  ran = subst (λ (x : Collected × List ℕ × List Mark). Ran g.D.Disk.tells c.args.pass.number (begin (sees c.args.pass) (g.L.Link.seen c.args.link.now) (g.C.Clock.moments c.args.clock.now)) (point (sees c.args.pass) (g.L.Link.seen c.args.link.now) (g.C.Clock.moments c.args.clock.now) x.0 x.1 x.2)) (λ i. (sym c.requires.begun.frames i, sym c.requires.begun.moments i, sym c.requires.begun.marks i)) (ran_none g.D.Disk.tells c.args.pass.number (sees c.args.pass) (g.L.Link.seen c.args.link.now) (g.C.Clock.moments c.args.clock.now));
  desk = c.requires.desk;
  number = refl;
  room = c.requires.begun.room;
  few = omega (arith, ap length c.requires.begun.moments);
}

pub turn-next-requires-clause-marks : goal.turn-next-requires-clause-marks
turn-next-requires-clause-marks g c κs within = as_many_marks g.D.Disk.tells c.args.pass.number (sees c.args.pass) (g.L.Link.seen c.args.link.now) (g.C.Clock.moments c.args.clock.now) (point (sees c.serving.pass) (g.L.Link.seen c.serving.link) (g.C.Clock.moments c.serving.clock) c.serving.work.frames c.serving.work.moments.items c.serving.work.marks.items) c.serving.invariant.ran

pub returns-in-Failed-clause-session : goal.returns-in-Failed-clause-session
returns-in-Failed-clause-session g c =
    let q : Point = point (sees c.serving.pass) (g.L.Link.seen c.serving.link) (g.C.Clock.moments c.serving.clock) c.serving.work.frames c.serving.work.moments.items c.serving.work.marks.items in
    let r : Point = point (sees c.turn-next.result.0) (g.L.Link.seen c.turn-next.new.link) (g.C.Clock.moments c.turn-next.new.clock) c.turn-next.new.work.frames c.turn-next.new.work.moments.items c.turn-next.new.work.marks.items in
    let t = subst (λ (x : ℕ × Gathered × Sent). TurnIs g.D.Disk.tells x.0 q r x.1 x.2) (λ i. (c.serving.invariant.number i, c.turn-next.result.1, c.in-Failed.is i)) c.turn-next.ensures.turn in
    ended_short g.D.Disk.tells c.args.pass.number (sees c.args.pass) (g.L.Link.seen c.args.link.now) (g.C.Clock.moments c.args.clock.now) q r c.turn-next.result.1 c.args.pass.is_pass.from c.serving.invariant.ran c.serving.invariant.few t c.bytes-waiting.ensures.bytes c.turn-next.ensures.most

pub serving-preserved-then-len-lt-MOST_FRAMES : goal.serving-preserved-then-len-lt-MOST_FRAMES
serving-preserved-then-len-lt-MOST_FRAMES g c =
    let q : Point = point (sees c.serving.pass) (g.L.Link.seen c.serving.link) (g.C.Clock.moments c.serving.clock) c.serving.work.frames c.serving.work.moments.items c.serving.work.marks.items in
    let r : Point = point (sees c.turn-next.result.0) (g.L.Link.seen c.turn-next.new.link) (g.C.Clock.moments c.turn-next.new.clock) c.turn-next.new.work.frames c.turn-next.new.work.moments.items c.turn-next.new.work.marks.items in
    let t = subst (λ (x : ℕ × Gathered × Sent). TurnIs g.D.Disk.tells x.0 q r x.1 x.2) (λ i. (c.serving.invariant.number i, c.in-Full.is i, c.in-All.is i)) c.turn-next.ensures.turn in
    record {
      ran = ran_turn g.D.Disk.tells c.args.pass.number (sees c.args.pass) (g.L.Link.seen c.args.link.now) (g.C.Clock.moments c.args.clock.now) q r c.serving.invariant.ran _ c.serving.invariant.few t;
      desk = c.turn-next.ensures.desk;
      number = c.turn-next.ensures.pass ∙ c.serving.invariant.number;
      room = c.turn-next.ensures.room;
      few = omega (arith, c.if-len-lt-MOST_FRAMES.true, c.len.ensures);
    }

pub returns-in-Full-clause-session : goal.returns-in-Full-clause-session
returns-in-Full-clause-session g c =
    let q : Point = point (sees c.serving.pass) (g.L.Link.seen c.serving.link) (g.C.Clock.moments c.serving.clock) c.serving.work.frames c.serving.work.moments.items c.serving.work.marks.items in
    let r : Point = point (sees c.turn-next.result.0) (g.L.Link.seen c.turn-next.new.link) (g.C.Clock.moments c.turn-next.new.clock) c.turn-next.new.work.frames c.turn-next.new.work.moments.items c.turn-next.new.work.marks.items in
    let t = subst (λ (x : ℕ × Gathered × Sent). TurnIs g.D.Disk.tells x.0 q r x.1 x.2) (λ i. (c.serving.invariant.number i, c.in-Full.is i, c.in-All.is i)) c.turn-next.ensures.turn in
    ended_spent g.D.Disk.tells c.args.pass.number (sees c.args.pass) (g.L.Link.seen c.args.link.now) (g.C.Clock.moments c.args.clock.now) r c.args.pass.is_pass.from (ran_turn g.D.Disk.tells c.args.pass.number (sees c.args.pass) (g.L.Link.seen c.args.link.now) (g.C.Clock.moments c.args.clock.now) q r c.serving.invariant.ran _ c.serving.invariant.few t) c.bytes-waiting-in-Full.ensures.bytes (omega (arith, c.if-len-lt-MOST_FRAMES.false, c.len.ensures, c.turn-next.ensures.most))

pub returns-in-Bad-clause-session : goal.returns-in-Bad-clause-session
returns-in-Bad-clause-session g c =
    let q : Point = point (sees c.serving.pass) (g.L.Link.seen c.serving.link) (g.C.Clock.moments c.serving.clock) c.serving.work.frames c.serving.work.moments.items c.serving.work.marks.items in
    let r : Point = point (sees c.turn-next.result.0) (g.L.Link.seen c.turn-next.new.link) (g.C.Clock.moments c.turn-next.new.clock) c.turn-next.new.work.frames c.turn-next.new.work.moments.items c.turn-next.new.work.marks.items in
    let t = subst (λ (x : ℕ × Gathered × Sent). TurnIs g.D.Disk.tells x.0 q r x.1 x.2) (λ i. (c.serving.invariant.number i, c.in-Bad.is i, c.in-All.is i)) c.turn-next.ensures.turn in
    ended_bad g.D.Disk.tells c.args.pass.number (sees c.args.pass) (g.L.Link.seen c.args.link.now) (g.C.Clock.moments c.args.clock.now) r c.args.pass.is_pass.from (ran_turn g.D.Disk.tells c.args.pass.number (sees c.args.pass) (g.L.Link.seen c.args.link.now) (g.C.Clock.moments c.args.clock.now) q r c.serving.invariant.ran _ c.serving.invariant.few t) (few_bad g.D.Disk.tells c.args.pass.number (sees c.args.pass) (g.L.Link.seen c.args.link.now) (g.C.Clock.moments c.args.clock.now) q r c.in-Bad.fault c.serving.invariant.few t) c.in-Bad.fault t.to.1

pub read_on-requires-clause-near : goal.read_on-requires-clause-near
read_on-requires-clause-near g c =
    let q : Point = point (sees c.serving.pass) (g.L.Link.seen c.serving.link) (g.C.Clock.moments c.serving.clock) c.serving.work.frames c.serving.work.moments.items c.serving.work.marks.items in
    let r : Point = point (sees c.turn-next.result.0) (g.L.Link.seen c.turn-next.new.link) (g.C.Clock.moments c.turn-next.new.clock) c.turn-next.new.work.frames c.turn-next.new.work.moments.items c.turn-next.new.work.marks.items in
    let t = subst (λ (x : ℕ × Gathered × Sent). TurnIs g.D.Disk.tells x.0 q r x.1 x.2) (λ i. (c.serving.invariant.number i, c.in-More.is i, c.in-All.is i)) c.turn-next.ensures.turn in
    let few = few_taken g.D.Disk.tells c.args.pass.number (sees c.args.pass) (g.L.Link.seen c.args.link.now) (g.C.Clock.moments c.args.clock.now) r (ran_turn g.D.Disk.tells c.args.pass.number (sees c.args.pass) (g.L.Link.seen c.args.link.now) (g.C.Clock.moments c.args.clock.now) q r c.serving.invariant.ran _ c.serving.invariant.few t) in
    omega (arith, few, c.turn-next.ensures.most, t.to.2)

pub serving-preserved : goal.serving-preserved
serving-preserved g c =
    let q : Point = point (sees c.serving.pass) (g.L.Link.seen c.serving.link) (g.C.Clock.moments c.serving.clock) c.serving.work.frames c.serving.work.moments.items c.serving.work.marks.items in
    let r : Point = point (sees c.turn-next.result.0) (g.L.Link.seen c.turn-next.new.link) (g.C.Clock.moments c.turn-next.new.clock) c.turn-next.new.work.frames c.turn-next.new.work.moments.items c.turn-next.new.work.marks.items in
    let t = subst (λ (x : ℕ × Gathered × Sent). TurnIs g.D.Disk.tells x.0 q r x.1 x.2) (λ i. (c.serving.invariant.number i, c.in-More.is i, c.in-All.is i)) c.turn-next.ensures.turn in
    record {
      ran = ran_fed g.D.Disk.tells c.args.pass.number (sees c.args.pass) (g.L.Link.seen c.args.link.now) (g.C.Clock.moments c.args.clock.now) r (g.L.Link.seen c.read_on.new.link) c.read_on.new.frames c.in-Fed.ensures.0 (ran_turn g.D.Disk.tells c.args.pass.number (sees c.args.pass) (g.L.Link.seen c.args.link.now) (g.C.Clock.moments c.args.clock.now) q r c.serving.invariant.ran _ c.serving.invariant.few t) c.in-Fed.ensures.3 c.in-Fed.ensures.4 t.to.1;
      desk = c.turn-next.ensures.desk;
      number = c.turn-next.ensures.pass ∙ c.serving.invariant.number;
      room = record { asks = c.turn-next.ensures.room.asks; outside = c.turn-next.ensures.room.outside; ats = c.turn-next.ensures.room.ats; out = c.turn-next.ensures.room.out; moments = c.turn-next.ensures.room.moments; marks = c.turn-next.ensures.room.marks };
      few = few_more g.D.Disk.tells c.args.pass.number (sees c.args.pass) (g.L.Link.seen c.args.link.now) (g.C.Clock.moments c.args.clock.now) q r c.serving.invariant.few t;
    }

pub at_end-end-requires : goal.at_end-end-requires
at_end-end-requires g c =
    let q : Point = point (sees c.serving.pass) (g.L.Link.seen c.serving.link) (g.C.Clock.moments c.serving.clock) c.serving.work.frames c.serving.work.moments.items c.serving.work.marks.items in
    let r : Point = point (sees c.turn-next.result.0) (g.L.Link.seen c.turn-next.new.link) (g.C.Clock.moments c.turn-next.new.clock) c.turn-next.new.work.frames c.turn-next.new.work.moments.items c.turn-next.new.work.marks.items in
    let t = subst (λ (x : ℕ × Gathered × Sent). TurnIs g.D.Disk.tells x.0 q r x.1 x.2) (λ i. (c.serving.invariant.number i, c.in-More.is i, c.in-All.is i)) c.turn-next.ensures.turn in
    let few = few_taken g.D.Disk.tells c.args.pass.number (sees c.args.pass) (g.L.Link.seen c.args.link.now) (g.C.Clock.moments c.args.clock.now) r (ran_turn g.D.Disk.tells c.args.pass.number (sees c.args.pass) (g.L.Link.seen c.args.link.now) (g.C.Clock.moments c.args.clock.now) q r c.serving.invariant.ran _ c.serving.invariant.few t) in
    subst (λ (held : Collected). held.taken + length (waiting held) < 2 ^ 63) (sym c.in-Ended.ensures.2) (omega (arith, few, c.turn-next.ensures.most, t.to.2))

pub returns-in-Ended-clause-session : goal.returns-in-Ended-clause-session
returns-in-Ended-clause-session g c =
    let q : Point = point (sees c.serving.pass) (g.L.Link.seen c.serving.link) (g.C.Clock.moments c.serving.clock) c.serving.work.frames c.serving.work.moments.items c.serving.work.marks.items in
    let r : Point = point (sees c.turn-next.result.0) (g.L.Link.seen c.turn-next.new.link) (g.C.Clock.moments c.turn-next.new.clock) c.turn-next.new.work.frames c.turn-next.new.work.moments.items c.turn-next.new.work.marks.items in
    let t = subst (λ (x : ℕ × Gathered × Sent). TurnIs g.D.Disk.tells x.0 q r x.1 x.2) (λ i. (c.serving.invariant.number i, c.in-More.is i, c.in-All.is i)) c.turn-next.ensures.turn in
    let short = subst (λ (held : Collected). IsShort (front_of (waiting held))) (sym c.in-Ended.ensures.2) t.to.1 in
    ended_at g.D.Disk.tells c.args.pass.number (sees c.args.pass) (g.L.Link.seen c.args.link.now) (g.C.Clock.moments c.args.clock.now) (point (sees c.turn-next.result.0) (g.L.Link.seen c.read_on.new.link) (g.C.Clock.moments c.turn-next.new.clock) c.read_on.new.frames c.turn-next.new.work.moments.items c.turn-next.new.work.marks.items) c.args.pass.is_pass.from (ran_kept g.D.Disk.tells c.args.pass.number (sees c.args.pass) (g.L.Link.seen c.args.link.now) (g.C.Clock.moments c.args.clock.now) r (g.L.Link.seen c.read_on.new.link) c.read_on.new.frames (ran_turn g.D.Disk.tells c.args.pass.number (sees c.args.pass) (g.L.Link.seen c.args.link.now) (g.C.Clock.moments c.args.clock.now) q r c.serving.invariant.ran _ c.serving.invariant.few t) c.in-Ended.ensures.0 c.in-Ended.ensures.2) (few_more g.D.Disk.tells c.args.pass.number (sees c.args.pass) (g.L.Link.seen c.args.link.now) (g.C.Clock.moments c.args.clock.now) q r c.serving.invariant.few t) c.at_end-end.result c.in-Ended.ensures.1 short c.at_end-end.ensures

pub returns-in-Failed-read_on-clause-session : goal.returns-in-Failed-read_on-clause-session
returns-in-Failed-read_on-clause-session g c =
    let q : Point = point (sees c.serving.pass) (g.L.Link.seen c.serving.link) (g.C.Clock.moments c.serving.clock) c.serving.work.frames c.serving.work.moments.items c.serving.work.marks.items in
    let r : Point = point (sees c.turn-next.result.0) (g.L.Link.seen c.turn-next.new.link) (g.C.Clock.moments c.turn-next.new.clock) c.turn-next.new.work.frames c.turn-next.new.work.moments.items c.turn-next.new.work.marks.items in
    let t = subst (λ (x : ℕ × Gathered × Sent). TurnIs g.D.Disk.tells x.0 q r x.1 x.2) (λ i. (c.serving.invariant.number i, c.in-More.is i, c.in-All.is i)) c.turn-next.ensures.turn in
    let short = subst (λ (held : Collected). IsShort (front_of (waiting held))) (sym c.in-Failed-read_on.ensures.2) t.to.1 in
    let ran = ran_turn g.D.Disk.tells c.args.pass.number (sees c.args.pass) (g.L.Link.seen c.args.link.now) (g.C.Clock.moments c.args.clock.now) q r c.serving.invariant.ran _ c.serving.invariant.few t in
    ended_fault g.D.Disk.tells c.args.pass.number (sees c.args.pass) (g.L.Link.seen c.args.link.now) (g.C.Clock.moments c.args.clock.now) (point (sees c.turn-next.result.0) (g.L.Link.seen c.read_on.new.link) (g.C.Clock.moments c.turn-next.new.clock) c.read_on.new.frames c.turn-next.new.work.moments.items c.turn-next.new.work.marks.items) c.args.pass.is_pass.from (ran_kept g.D.Disk.tells c.args.pass.number (sees c.args.pass) (g.L.Link.seen c.args.link.now) (g.C.Clock.moments c.args.clock.now) r (g.L.Link.seen c.read_on.new.link) c.read_on.new.frames (ran_turn g.D.Disk.tells c.args.pass.number (sees c.args.pass) (g.L.Link.seen c.args.link.now) (g.C.Clock.moments c.args.clock.now) q r c.serving.invariant.ran _ c.serving.invariant.few t) c.in-Failed-read_on.ensures.0 c.in-Failed-read_on.ensures.2) (few_more g.D.Disk.tells c.args.pass.number (sees c.args.pass) (g.L.Link.seen c.args.link.now) (g.C.Clock.moments c.args.clock.now) q r c.serving.invariant.few t) (rose_from (g.L.Link.seen c.args.link.now).read_faults (g.L.Link.seen c.turn-next.new.link).read_faults (g.L.Link.seen c.read_on.new.link).read_faults ran.went.read_count c.in-Failed-read_on.ensures.1) short
