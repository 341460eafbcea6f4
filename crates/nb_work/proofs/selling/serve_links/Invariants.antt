use Rattle.std.proofs.Common.{◌≡◌}
use Rattle.nb_journal.specs.declared.limits.TheConstants.{MAX_ITEM}
use Rattle.nb_sell.specs.Sold.{IsJournalOf}
use Rattle.nb_work.specs.Selling.{standing}
use Rattle.nb_work.proofs.Sales.{SoFar}
use Rattle.nb_work.proofs.selling.serve_links.Given as goal

-- as many links as were counted were sold on, each to its own end, and the journal holds what the merchant kept
abbrev pub invariant-selling : goal.invariant-selling
invariant-selling g l = record {
  so : SoFar g.D.Disk.tells (standing l.fn.journal l.fn.merchant (g.L.Link.seen l.fn.server) (g.C.Clock.moments l.fn.worker.clock)) (standing l.journal l.merchant (g.L.Link.seen l.server) (g.C.Clock.moments l.worker.clock))
      (g.P.Port.seen l.fn.worker.port) (g.P.Port.seen l.worker.port) l.counter;
  kept : IsJournalOf g.D.Disk.tells l.journal l.merchant;
  room : l.journal.room ≡ MAX_ITEM;
}
