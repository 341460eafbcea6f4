-- The bytes of a reply: its one frame. What is for one party alone is sealed under that party's key.
use Rattle.std.specs.Prelude.{ℕ, List, [], ◌∷◌, ◌++◌, codes, Option, Some, None}
use Rattle.std.specs.List.{flat_map}
use Rattle.nb_units.specs.Fields.{be4, be8, sized}
use Rattle.nb_units.specs.Frames.{Frame, frame}
use Rattle.nb_units.specs.declared.frames.TheConstants.{RESULT_REPLY, STATUS_REPLY, GRANT_REPLY, DONE_REPLY, REFUSED_REPLY}
use Rattle.nb_units.specs.declared.ids.AcctId.{AcctId}
use Rattle.nb_units.specs.declared.ids.PartyId.{PartyId}
use Rattle.nb_units.specs.declared.epoid.Epoid.{Epoid}
use Rattle.nb_seal.specs.Seal.{seal_of}
use Rattle.nb_endorse.specs.declared.receipt.Receipt.{Receipt}
use Rattle.nb_endorse.specs.declared.receipt.Signed.{Signed}
use Rattle.nb_endorse.specs.declared.refusal.Refusal.{Refusal}
use Rattle.nb_endorse.specs.declared.reply.Reply.{Reply}
use Rattle.nb_endorse.specs.declared.reply.Reply.TheVariants.{Result, Status, Grant, Done, Refused}
use Rattle.nb_endorse.specs.declared.reply.ReplyKeys.{ReplyKeys}
use Rattle.nb_ticket.specs.Sealed.{sealed_grant, grant_with_ticket}
use Rattle.nb_endorse.specs.Spelling.{signed_bytes}
use Rattle.nb_endorse.specs.Tags.{signed_receipt}
use Rattle.nb_msgs.specs.declared.status.StatusText.{StatusText}
use Rattle.nb_msgs.specs.StatusText.{text_bytes}

-- a receipt, signed by the house and sealed for a party
abbrev pub sealed_receipt : List ℕ → List ℕ → Receipt → List ℕ
sealed_receipt house key r = seal_of key (codes "rcpt") (signed_bytes (signed_receipt house r))

-- for the contracts of private functions alone: the other receipt, or the first one again
abbrev pub or_first : Signed → Option Signed → Signed
or_first first None = first
or_first first (Some other) = other

-- the merchant's receipt 167, behind its length | the consumer's 167, behind its length
abbrev pub result_frame : ReplyKeys → Receipt → Receipt → Frame
result_frame keys merchant consumer =
    record { kind = RESULT_REPLY; body = sized (sealed_receipt keys.house keys.first merchant) ++ sized (sealed_receipt keys.house keys.second consumer) }

-- what is told of an order, with the receipt signed by the house where there is one
abbrev pub told_status : List ℕ → ℕ → Epoid → Option Receipt → StatusText
told_status house place epoid None = record { place = place; epoid = epoid; receipt = None }
told_status house place epoid (Some r) = record { place = place; epoid = epoid; receipt = Some (signed_receipt house r) }

-- the whole body is the seal of that under the key of who asks and the label "stat"
abbrev pub status_frame : ReplyKeys → ℕ → Epoid → Option Receipt → Frame
status_frame keys place epoid receipt = record { kind = STATUS_REPLY; body = seal_of keys.first (codes "stat") (text_bytes (told_status keys.house place epoid receipt)) }

-- the whole body is a grant, sealed for the consumer, and in it the ticket, sealed for the merchant
abbrev pub grant_frame : ReplyKeys → PartyId → PartyId → ℕ → ℕ → List ℕ → Frame
grant_frame keys consumer merchant nonce until session = record {
  kind = GRANT_REPLY;
  body = sealed_grant keys.first (grant_with_ticket keys.second (record { consumer = consumer; merchant = merchant; until = until; session = session }) nonce);
}

-- account 4 | place 8 | balance 8
abbrev pub done_frame : AcctId → ℕ → ℕ → Frame
done_frame acct at balance = record { kind = DONE_REPLY; body = be4 acct.0 ++ be8 at ++ be8 balance }

-- code 1 | two numbers of 8 | 32 bytes
abbrev pub refusal_frame : Refusal → Frame
refusal_frame r = record { kind = REFUSED_REPLY; body = (r.code ∷ []) ++ be8 r.a ++ be8 r.b ++ r.x }

-- the one frame of a reply
abbrev pub reply_frame : ReplyKeys → Reply → Frame
reply_frame keys (Result merchant consumer) = result_frame keys merchant consumer
reply_frame keys (Status place epoid receipt) = status_frame keys place epoid receipt
reply_frame keys (Grant consumer merchant nonce until session) = grant_frame keys consumer merchant nonce until session
reply_frame keys (Done acct at balance) = done_frame acct at balance
reply_frame keys (Refused r) = refusal_frame r

-- its frame's bytes
abbrev pub reply_bytes : ReplyKeys → Reply → List ℕ
reply_bytes keys reply = frame (reply_frame keys reply)

-- the frames of replies, one behind the other
abbrev pub joined : List (List ℕ) → List ℕ
joined frames = flat_map (λ (bytes : List ℕ). bytes) frames
