-- That a reply is a message.
use Rattle.std.proofs.Common.{◌≡◌, ℕ, ◌+◌, ◌<◌, ◌^◌, List, ◌++◌, length, Some, None, Option, refl, arith, length-append}
use Rattle.std.specs.Prelude.{codes, IfSome}
use Rattle.nb_units.specs.declared.epoid.Epoid.{Epoid}
use Rattle.nb_units.specs.Epoid.{IsEpoid}
use Rattle.nb_units.specs.Fields.{sized}
use Rattle.nb_seal.proofs.Opening.{length-hmac_of, length-seal_of}
use Rattle.nb_endorse.specs.declared.receipt.Receipt.{Receipt}
use Rattle.nb_endorse.specs.declared.receipt.Signed.{Signed}
use Rattle.nb_endorse.specs.declared.reply.ReplyKeys.{ReplyKeys}
use Rattle.nb_endorse.specs.declared.reply.Reply.TheVariants.{Result, Status, Grant, Done, Refused}
use Rattle.nb_endorse.specs.Spelling.{IsReceipt, IsSigned, receipt_bytes, signed_bytes}
use Rattle.nb_endorse.specs.Tags.{signed_receipt}
use Rattle.nb_endorse.proofs.Receipts.{receipt_is_as_long}
use Rattle.nb_ticket.proofs.Layouts.{grant_carries_ticket}
use Rattle.nb_msgs.specs.ReplyBytes.{sealed_receipt, told_status, status_frame}
use Rattle.nb_msgs.specs.ReplyMessages.{ReplyIsMessage, reply_length, ReplyIsAsLong}
use Rattle.nb_msgs.specs.StatusText.{IsStatusText, text_bytes}
use Rattle.nb_msgs.proofs.StatusTexts.{status_is_as_long}

signed_so : (house : List ℕ) (r : Receipt) → IsReceipt r → IsSigned (signed_receipt house r)
signed_so house r is = record { receipt = is; tag = length-hmac_of house (codes "rcpt" ++ receipt_bytes r) }

receipt_long : (house key : List ℕ) (r : Receipt) → IsReceipt r → length (sealed_receipt house key r) ≡ 167
receipt_long house key r is =
    let s : Signed = signed_receipt house r in
    omega (arith, length-seal_of key (codes "rcpt") (signed_bytes s), receipt_is_as_long s (signed_so house r is))

told_so : (house : List ℕ) (place : ℕ) (epoid : Epoid) (receipt : Option Receipt) → (place < 2 ^ 64) × IsEpoid epoid × IfSome receipt IsReceipt
    → IsStatusText (told_status house place epoid receipt)
told_so house place epoid None is = record { place = is.0; epoid = is.1; receipt = tt }
told_so house place epoid (Some r) is = record { place = is.0; epoid = is.1; receipt = signed_so house r is.2 }

status_long : (keys : ReplyKeys) (place : ℕ) (epoid : Epoid) (receipt : Option Receipt) → (place < 2 ^ 64) × IsEpoid epoid × IfSome receipt IsReceipt
    → 8 + length (status_frame keys place epoid receipt).body ≡ reply_length (Status place epoid receipt)
status_long keys place epoid None is =
    let t = told_status keys.house place epoid None in
    omega (arith, length-seal_of keys.first (codes "stat") (text_bytes t), status_is_as_long t (told_so keys.house place epoid None is))
status_long keys place epoid (Some r) is =
    let t = told_status keys.house place epoid (Some r) in
    omega (arith, length-seal_of keys.first (codes "stat") (text_bytes t), status_is_as_long t (told_so keys.house place epoid (Some r) is))

pub reply_is_message : ReplyIsMessage
reply_is_message keys (Result merchant consumer) is = ((omega (arith, receipt_long keys.house keys.first merchant is.0), omega (arith, receipt_long keys.house keys.second consumer is.1)), refl)
reply_is_message keys (Status place epoid None) is = (omega (arith, status_long keys place epoid None is), refl)
reply_is_message keys (Status place epoid (Some r)) is = (omega (arith, status_long keys place epoid (Some r) is), refl)
reply_is_message keys (Grant consumer merchant nonce until session) is =
    let carries = grant_carries_ticket keys.first keys.second (record { consumer = consumer; merchant = merchant; until = until; session = session }) nonce is.0 is.1 in
    (omega (arith, carries.long), refl)
reply_is_message keys (Done acct at balance) is = (is, refl)
reply_is_message keys (Refused refusal) is = (is, refl)

pub reply_is_as_long : ReplyIsAsLong
reply_is_as_long keys (Result merchant consumer) is =
    let first = sealed_receipt keys.house keys.first merchant in
    let second = sealed_receipt keys.house keys.second consumer in
    omega (arith, length-append (sized first) (sized second), receipt_long keys.house keys.first merchant is.0, receipt_long keys.house keys.second consumer is.1)
reply_is_as_long keys (Status place epoid None) is = omega (arith, status_long keys place epoid None is)
reply_is_as_long keys (Status place epoid (Some r)) is = omega (arith, status_long keys place epoid (Some r) is)
reply_is_as_long keys (Grant consumer merchant nonce until session) is =
    let carries = grant_carries_ticket keys.first keys.second (record { consumer = consumer; merchant = merchant; until = until; session = session }) nonce is.0 is.1 in
    omega (arith, carries.long)
reply_is_as_long keys (Done acct at balance) is = refl
reply_is_as_long keys (Refused refusal) is = omega (arith, is.x)
