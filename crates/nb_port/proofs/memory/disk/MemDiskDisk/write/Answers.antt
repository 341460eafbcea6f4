use Rattle.std.proofs.Common.{length}
use Rattle.nb_port.proofs.Stops.{writes_none, stands}
use Rattle.nb_port.proofs.memory.disk.MemDiskDisk.write.Goals as goal

pub returns-then-next-clause-time : goal.returns-then-next-clause-time
returns-then-next-clause-time c = rw (← c.self.view_is) (c.record_tear.ensures.writes.time c.self.inside.start.items)

pub returns-then-is_err-clause-images : goal.returns-then-is_err-clause-images
returns-then-is_err-clause-images c =
    let none = writes_none c.args.place (length c.args.piece.now) c.self.inside.steps.items in
    rw (← c.self.view_is) (none.images c.self.inside.start.items)

pub returns-then-is_err-clause-time : goal.returns-then-is_err-clause-time
returns-then-is_err-clause-time c = rw (← c.self.view_is) (stands c.self.inside.steps.items c.self.inside.start.items)

pub returns-then-is_err-2-clause-time : goal.returns-then-is_err-2-clause-time
returns-then-is_err-2-clause-time c = rw (← c.self.view_is) (c.record_write.ensures.writes.time c.self.inside.start.items)

pub returns-clause-time : goal.returns-clause-time
returns-clause-time c = rw (← c.self.view_is) (c.record_write.ensures.writes.time c.self.inside.start.items)
