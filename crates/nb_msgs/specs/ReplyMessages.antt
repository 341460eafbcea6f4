-- A reply as a message.
use Rattle.std.specs.Prelude.{◌≡◌, ℕ, ◌<◌, ◌^◌, length, Some, None, IfSome}
use Rattle.nb_units.specs.Epoid.{IsEpoid}
use Rattle.nb_endorse.specs.declared.reply.Reply.{Reply}
use Rattle.nb_endorse.specs.declared.reply.Reply.TheVariants.{Result, Status, Grant, Done, Refused}
use Rattle.nb_endorse.specs.declared.reply.ReplyKeys.{ReplyKeys}
use Rattle.nb_endorse.specs.Spelling.{IsReceipt}
use Rattle.nb_ticket.specs.Spelling.{IsTicket}
use Rattle.nb_msgs.specs.declared.message.Message.{Message}
use Rattle.nb_msgs.specs.declared.message.Message.TheVariants as message
use Rattle.nb_msgs.specs.Bodies.{IsRefusal, IsMessage, message_frame}
use Rattle.nb_msgs.specs.ReplyBytes.{sealed_receipt, status_frame, grant_frame, reply_frame, reply_bytes}

-- what a reply says under its keys
abbrev pub reply_message : ReplyKeys → Reply → Message
reply_message keys (Result merchant consumer) = message.Result (sealed_receipt keys.house keys.first merchant) (sealed_receipt keys.house keys.second consumer)
reply_message keys (Status place epoid receipt) = message.Status (status_frame keys place epoid receipt).body
reply_message keys (Grant consumer merchant nonce until session) = message.Grant (grant_frame keys consumer merchant nonce until session).body
reply_message keys (Done acct at balance) = message.Done acct at balance
reply_message keys (Refused refusal) = message.Refusal refusal

-- each field of a reply is within its limits
abbrev pub IsReply : Reply → Type 0
IsReply (Result merchant consumer) = IsReceipt merchant × IsReceipt consumer
IsReply (Status place epoid receipt) = (place < 2 ^ 64) × IsEpoid epoid × IfSome receipt IsReceipt
IsReply (Grant consumer merchant nonce until session) = IsTicket (record { consumer = consumer; merchant = merchant; until = until; session = session }) × (nonce < 2 ^ 64)
IsReply (Done acct at balance) = (acct.0 < 2 ^ 32) × (at < 2 ^ 64) × (balance < 2 ^ 64)
IsReply (Refused refusal) = IsRefusal refusal

-- a reply within its limits is a message within its limits, and its frame is that message's
abbrev pub ReplyIsMessage : Type 0
ReplyIsMessage = (keys : ReplyKeys) (reply : Reply) → IsReply reply → IsMessage (reply_message keys reply) × (reply_frame keys reply ≡ message_frame (reply_message keys reply))

-- how many bytes the frame of each reply has
abbrev pub reply_length : Reply → ℕ
reply_length (Result merchant consumer) = 350
reply_length (Status place epoid None) = 65
reply_length (Status place epoid (Some receipt)) = 200
reply_length (Grant consumer merchant nonce until session) = 176
reply_length (Done acct at balance) = 28
reply_length (Refused refusal) = 57

-- law: the frame of each reply has so many bytes
abbrev pub ReplyIsAsLong : Type 0
ReplyIsAsLong = (keys : ReplyKeys) (reply : Reply) → IsReply reply → length (reply_bytes keys reply) ≡ reply_length reply
