use Rattle.std.proofs.Common.{◌≡◌, length}
use Rattle.nb_packets.specs.Calls.{stopped_up_to}
use Rattle.nb_packets.proofs.calls.let_go.Given as goal

-- the calls so far are behind the stop
abbrev pub invariant-loop-i : goal.invariant-loop-i
invariant-loop-i l = record { calls : l.calls.items ≡ stopped_up_to l.i l.initial.calls.items; len : length l.calls.items ≡ length l.initial.calls.items }
