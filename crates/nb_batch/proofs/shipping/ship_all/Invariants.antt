use Rattle.std.proofs.Common.{◌≤◌, vec_capacity}
use Rattle.nb_standby.specs.Following.{house_key}
use Rattle.nb_vault.specs.Vaults.{entries_in}
use Rattle.nb_batch.specs.declared.shipping.TheConstants.{SHIPPED_PIECE}
use Rattle.nb_batch.specs.Shipping.{SentBut}
use Rattle.nb_batch.proofs.Recording.{frames_up_to}
use Rattle.nb_batch.proofs.shipping.ship_all.Given as goal

-- the records up to here were sent, but for those that wait
abbrev pub invariant-entries : goal.invariant-entries
invariant-entries g l = record {
  sent : SentBut (g.K.Sink.sent l.fn.sink) (g.K.Sink.sent l.sink) l.waits.items (frames_up_to (house_key l.vault) l.from (entries_in l.vault) l.at);
  count : g.K.Sink.faults l.fn.sink ≤ g.K.Sink.faults l.sink;
  room : SHIPPED_PIECE ≤ vec_capacity l.waits;
  low : l.from ≤ l.at;
}
