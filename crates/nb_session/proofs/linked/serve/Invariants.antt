use Rattle.std.proofs.Common.{◌≡◌, ◌+◌, ◌-◌, ◌*◌, ◌<◌, length}
use Rattle.nb_frame.specs.State.{waiting}
use Rattle.nb_turn.specs.Passes.{sees}
use Rattle.nb_desk.specs.Desks.{IsAt}
use Rattle.nb_session.specs.declared.ended.TheConstants.{MOST_FRAMES}
use Rattle.nb_session.specs.Steps.{HasRoom, point}
use Rattle.nb_session.proofs.Ending.{Ran, begin}
use Rattle.nb_session.proofs.linked.serve.Given as goal

-- the session came here from its start, and has room to go on
abbrev pub invariant-serving : goal.invariant-serving
invariant-serving g l = record {
  ran : Ran g.D.Disk.tells l.fn.pass.number (begin (sees l.fn.pass) (g.L.Link.seen l.fn.link) (g.C.Clock.moments l.fn.clock))
      (point (sees l.pass) (g.L.Link.seen l.link) (g.C.Clock.moments l.clock) l.work.frames l.work.moments.items l.work.marks.items);
  desk : IsAt l.pass l.desk;
  number : l.pass.number ≡ l.fn.pass.number;
  room : HasRoom l.work;
  few : length l.work.moments.items < MOST_FRAMES;
}

-- frames are answered, or bytes read of which there is no whole frame
abbrev pub decreases-serving : goal.decreases-serving
decreases-serving g l = (10000 - length l.work.moments.items) * 2097152 + (1114120 - length (waiting l.work.frames))
