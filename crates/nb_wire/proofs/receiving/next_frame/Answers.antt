use Rattle.nb_wire.specs.Received.{wire}
use Rattle.nb_wire.proofs.Incoming.{promptly_none, promptly_fed, promptly_kept, promptly_frame, within, still_short, rose_from}
use Rattle.nb_wire.proofs.receiving.next_frame.Goals as goal

pub fetching-init : goal.fetching-init
fetching-init g c = promptly_none (wire (g.L.Link.seen c.args.link.now) c.args.frames.now)

pub fetching-preserved : goal.fetching-preserved
fetching-preserved g c =
    promptly_fed (wire (g.L.Link.seen c.args.link.now) c.args.frames.now) (g.L.Link.seen c.fetching.link) (g.L.Link.seen c.read_on.new.link) c.fetching.frames c.next.new.self c.read_on.new.frames c.in-Fed.ensures.0
    c.fetching.invariant c.in-More.ensures.0 c.in-More.ensures.1 c.in-Fed.ensures.3 c.in-Fed.ensures.4

pub returns-in-Frame-clause-fetched : goal.returns-in-Frame-clause-fetched
returns-in-Frame-clause-fetched g c = (
  promptly_frame (wire (g.L.Link.seen c.args.link.now) c.args.frames.now) (g.L.Link.seen c.fetching.link) c.fetching.frames c.next.new.self c.in-Frame.f c.fetching.invariant c.in-Frame.ensures,
  within c.fetching.frames c.next.new.self c.in-Frame.f c.in-Frame.ensures,
)

pub returns-in-Ended-clause-fetched : goal.returns-in-Ended-clause-fetched
returns-in-Ended-clause-fetched g c = (
  promptly_kept (wire (g.L.Link.seen c.args.link.now) c.args.frames.now) (g.L.Link.seen c.fetching.link) (g.L.Link.seen c.read_on.new.link) c.fetching.frames c.next.new.self c.read_on.new.frames
      c.fetching.invariant c.in-More.ensures.0 c.in-Ended.ensures.0 c.in-Ended.ensures.2,
  (c.in-Ended.ensures.1, still_short c.fetching.frames c.next.new.self c.read_on.new.frames c.in-More.ensures.0 c.in-Ended.ensures.2 c.in-More.ensures.1, c.rest.ensures),
)

pub returns-in-Failed-clause-fetched : goal.returns-in-Failed-clause-fetched
returns-in-Failed-clause-fetched g c = (
  promptly_kept (wire (g.L.Link.seen c.args.link.now) c.args.frames.now) (g.L.Link.seen c.fetching.link) (g.L.Link.seen c.read_on.new.link) c.fetching.frames c.next.new.self c.read_on.new.frames
      c.fetching.invariant c.in-More.ensures.0 c.in-Failed.ensures.0 c.in-Failed.ensures.2,
  (
    rose_from (g.L.Link.seen c.args.link.now).read_faults (g.L.Link.seen c.fetching.link).read_faults (g.L.Link.seen c.read_on.new.link).read_faults c.fetching.invariant.received.read_count c.in-Failed.ensures.1,
    still_short c.fetching.frames c.next.new.self c.read_on.new.frames c.in-More.ensures.0 c.in-Failed.ensures.2 c.in-More.ensures.1,
  ),
)
