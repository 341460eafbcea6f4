use Rattle.std.proofs.Common.{inl, rules}
use Rattle.nb_port.proofs.memory.disk.MemDiskDisk.read.Goals as goal

pub returns-then-next-clause-time : goal.returns-then-next-clause-time
returns-then-next-clause-time c = rw (← c.self.view_is) (c.record_pause.ensures.quiet.time c.self.inside.start.items)

pub returns-then-next-clause-only : goal.returns-then-next-clause-only
returns-then-next-clause-only c failed = inl (rw (← c.self.view_is) (c.if-next.ensures.fails.0 (search rules)))

pub returns-then-is_err-clause-time : goal.returns-then-is_err-clause-time
returns-then-is_err-clause-time c = rw (← c.self.view_is) (c.record_pause-2.ensures.quiet.time c.self.inside.start.items)

pub returns-clause-time : goal.returns-clause-time
returns-clause-time c = rw (← c.self.view_is) (c.record_pause-2.ensures.quiet.time c.self.inside.start.items)
