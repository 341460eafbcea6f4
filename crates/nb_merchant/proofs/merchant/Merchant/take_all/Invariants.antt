use Rattle.std.proofs.Common.{◌≡◌, ◌++◌, drop}
use Rattle.nb_merchant.specs.Keeping.{restarted}
use Rattle.nb_merchant.specs.Laws.{kept_bytes}
use Rattle.nb_merchant.specs.Telling.{IsSameMerchant}
use Rattle.nb_merchant.proofs.merchant.Merchant.take_all.Given as goal

-- what comes of the items that are left, behind those that were kept, is what comes of all
abbrev pub invariant-loop-i : goal.invariant-loop-i
invariant-loop-i l = record {
  left : restarted l.self l.i (drop l.i l.items) ≡ restarted l.initial.self 0 l.items;
  kept : kept_bytes l.self ++ drop l.i l.items ≡ kept_bytes l.initial.self ++ l.items;
  same : IsSameMerchant l.initial.self l.self;
}
