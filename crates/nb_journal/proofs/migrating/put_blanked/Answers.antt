use Rattle.std.proofs.Common.{◌+◌, ◌≤◌, length, arith}
use Rattle.nb_journal.proofs.Laying.{laid_so_far, more_laid}
use Rattle.nb_journal.proofs.migrating.put_blanked.Goals as goal

pub write-requires-in-loop-place-clause-inside : goal.write-requires-in-loop-place-clause-inside
write-requires-in-loop-place-clause-inside g c =
    laid_so_far (g.D.Disk.tells.content c.args.disk.now) (g.D.Disk.tells.content c.loop-place.disk) c.args.image.now c.loop-place.place
    c.loop-place.invariant.behind c.loop-place.invariant.within c.loop-place.invariant.wrote

pub loop-place-preserved : goal.loop-place-preserved
loop-place-preserved g c =
    let old = g.D.Disk.tells.content c.args.disk.now in
    let image = c.args.image.now in
    let place = c.loop-place.place in
    let len = c.min-len.result in
    let within : place + len ≤ length image = omega (arith, c.min-len.ensures, c.loop-place.invariant.within) in
    record {
      behind = omega (arith, c.loop-place.invariant.behind);
      within = within;
      wrote = more_laid old (g.D.Disk.tells.content c.loop-place.disk) _ image c.split_at.result.1.now c.split_at-in-loop-place.result.0.now place len c.loop-place.invariant.behind c.loop-place.invariant.within
          c.split_at.ensures.back c.split_at-in-loop-place.ensures.front c.loop-place.invariant.wrote c.in-Done-write.ensures.gives;
      faults = omega (arith, c.loop-place.invariant.faults, c.in-Done-write.ensures.count);
    }
