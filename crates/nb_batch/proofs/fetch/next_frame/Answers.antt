use Rattle.std.proofs.Common.{[], sym, subst}
use Rattle.nb_frame.specs.State.{Collected}
use Rattle.nb_batch.specs.Fetch.{Reads}
use Rattle.nb_batch.proofs.Fetching.{bad_at, ends_at, frame_at_front, same_waits}
use Rattle.nb_batch.proofs.fetch.next_frame.Goals as goal

pub returns-in-End-clause-fetched : goal.returns-in-End-clause-fetched
returns-in-End-clause-fetched g c =
    ends_at (g.S.Source.faults c.args.source.now) (g.S.Source.faults c.read.new.self) (g.S.Source.left c.args.source.now) (g.S.Source.left c.fetching.source) (g.S.Source.left c.read.new.self) c.args.frames.now c.next.new.self c.at_end.result
    (subst (λ (held : Collected). Reads (g.S.Source.left c.args.source.now) (g.S.Source.left c.fetching.source) c.args.frames.now held []) (sym c.in-More.ensures.0) c.fetching.invariant.reads)
    c.in-End.ensures.gives.1 c.in-End.ensures.gives.0 (same_waits c.fetching.frames c.next.new.self c.in-More.ensures.0 c.in-More.ensures.1) c.at_end.ensures

pub returns-in-Frame-clause-fetched : goal.returns-in-Frame-clause-fetched
returns-in-Frame-clause-fetched g c =
    frame_at_front (g.S.Source.faults c.args.source.now) (g.S.Source.faults c.fetching.source) (g.S.Source.left c.args.source.now) (g.S.Source.left c.fetching.source) c.args.frames.now c.fetching.frames c.next.new.self c.in-Frame.f
    c.fetching.invariant.reads c.fetching.invariant.newest c.in-Frame.ensures

pub returns-in-Bad-clause-fetched : goal.returns-in-Bad-clause-fetched
returns-in-Bad-clause-fetched g c =
    bad_at (g.S.Source.faults c.args.source.now) (g.S.Source.faults c.fetching.source) (g.S.Source.left c.args.source.now) (g.S.Source.left c.fetching.source) c.args.frames.now c.fetching.frames c.next.new.self c.in-Bad.fault
    c.fetching.invariant.reads c.fetching.invariant.newest c.in-Bad.ensures
