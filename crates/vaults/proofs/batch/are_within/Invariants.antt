use Rattle.std.proofs.Common.{take}
use Rattle.std.specs.List.{All}
use Rattle.nb_vault.specs.Asking.{IsWithin}
use Rattle.vaults.proofs.batch.are_within.Given as goal

abbrev pub invariant-loop-ask : goal.invariant-loop-ask
invariant-loop-ask l = All (IsWithin l.bytes) (take l.ask-index l.asks)
