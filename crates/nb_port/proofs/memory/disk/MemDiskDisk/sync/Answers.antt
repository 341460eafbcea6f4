use Rattle.nb_port.proofs.memory.disk.MemDiskDisk.sync.Goals as goal

pub returns-then-next-clause-time : goal.returns-then-next-clause-time
returns-then-next-clause-time c = rw (← c.self.view_is) (c.record_pause.ensures.quiet.time c.self.inside.start.items)

pub returns-in-Ok-clause-time : goal.returns-in-Ok-clause-time
returns-in-Ok-clause-time c = rw (← c.self.view_is) (c.record_sync.ensures.syncs.time c.self.inside.start.items)

pub returns-in-Err-clause-time : goal.returns-in-Err-clause-time
returns-in-Err-clause-time c = rw (← c.self.view_is) (c.record_sync.ensures.syncs.time c.self.inside.start.items)
