use Rattle.std.proofs.Common.{arith}
use Rattle.nb_journal.proofs.Tearing.{wrote_tears}
use Rattle.nb_journal.proofs.putting.put_synced.Goals as goal

-- the write was done, and the sync failed
pub returns-in-Failed-sync-clause-gives : goal.returns-in-Failed-sync-clause-gives
returns-in-Failed-sync-clause-gives g c =
    let rose = c.in-Failed-sync.ensures.gives in
    let count = c.in-Done.ensures.count in
    (omega (arith, rose, count), wrote_tears (g.D.Disk.tells.content c.args.disk.now) _ _ c.args.place c.args.piece.now c.in-Done.ensures.gives c.in-Failed-sync.ensures.content c.requires.inside)
