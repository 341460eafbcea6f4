-- Replies whose receipts keep the rules of receipts.
use Rattle.std.specs.Prelude.{◌≡◌, ◌↔◌, IsSome, IfSome, None}
use Rattle.nb_endorse.specs.declared.receipt.TheConstants.{PAID_CODE}
use Rattle.nb_endorse.specs.declared.receipt.Receipt.{Receipt}
use Rattle.nb_endorse.specs.declared.reply.Reply.{Reply}
use Rattle.nb_endorse.specs.declared.reply.Reply.TheVariants.{Result, Status}
use Rattle.nb_endorse.specs.Spelling.{IsReceiptCode}

-- the rules of a receipt beyond the widths of its fields, which every receipt that a program holds fits: a code that receipts
-- have, a key exactly where the order was paid, and then nothing that is shown
pub record ReceiptKeepsRules (r : Receipt) : Type 0 where
  pub code : IsReceiptCode r.code
  pub keyed : IsSome r.key ↔ (r.code ≡ PAID_CODE)
  pub showing : r.code ≡ PAID_CODE → r.shown ≡ None

-- each receipt of the reply keeps the rules
abbrev pub HasLawfulReceipts : Reply → Type 0
HasLawfulReceipts (Result merchant consumer) = ReceiptKeepsRules merchant × ReceiptKeepsRules consumer
HasLawfulReceipts (Status place epoid receipt) = IfSome receipt ReceiptKeepsRules
HasLawfulReceipts other = Unit {0}
