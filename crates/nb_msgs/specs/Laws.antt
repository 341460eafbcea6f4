-- What a message is written as and what is read are the two sides of one thing.
use Rattle.std.specs.Prelude.{◌≡◌, ℕ, List, ◌++◌, codes, length, Option, Some, None, Ok}
use Rattle.nb_endorse.specs.declared.receipt.Signed.{Signed}
use Rattle.nb_units.specs.Frames.{AreBytes, IsFrame, Whole, front_of}
use Rattle.nb_msgs.specs.declared.labels.TheConstants as label
use Rattle.nb_msgs.specs.declared.lengths.TheConstants as limit
use Rattle.nb_msgs.specs.declared.status.TheConstants.{MOST_STATUS}
use Rattle.nb_msgs.specs.declared.status.StatusText.{StatusText}
use Rattle.nb_msgs.specs.declared.message.Message.{Message}
use Rattle.nb_msgs.specs.Bodies.{kind_of, body_bytes, message_frame, message_bytes, IsMessage}
use Rattle.nb_msgs.specs.Reading.{message_of}
use Rattle.nb_msgs.specs.StatusText.{IsStatusText, text_bytes, text_of}

-- what was spelled of a message is read as that message
abbrev pub MessageReadsBack : Type 0
MessageReadsBack = (m : Message) → IsMessage m → message_of (kind_of m) (body_bytes m) ≡ Ok m

-- what was read as a message is within its limits, is of the kind that it was read as, and is spelled as those bytes
abbrev pub MessageSpellsBack : Type 0
MessageSpellsBack = (kind : ℕ) (body : List ℕ) (m : Message) → AreBytes body → message_of kind body ≡ Ok m → IsMessage m × (kind_of m ≡ kind) × (body ≡ body_bytes m)

-- two messages with one frame are one
abbrev pub OneMessage : Type 0
OneMessage = (a b : Message) → IsMessage a → IsMessage b → message_bytes a ≡ message_bytes b → a ≡ b

-- the frame of a message is one that frames are read as, whatever follows it in a stream
abbrev pub MessageIsFrame : Type 0
MessageIsFrame = (m : Message) (rest : List ℕ) → IsMessage m → IsFrame (message_frame m) × (front_of (message_bytes m ++ rest) ≡ Whole (message_frame m) rest)

-- what was spelled of a status is read as that status
abbrev pub StatusReadsBack : Type 0
StatusReadsBack = (t : StatusText) → IsStatusText t → text_of (text_bytes t) ≡ Ok t

-- what was read as a status is within its limits, and is spelled as those bytes
abbrev pub StatusSpellsBack : Type 0
StatusSpellsBack = (bytes : List ℕ) (t : StatusText) → AreBytes bytes → text_of bytes ≡ Ok t → IsStatusText t × (bytes ≡ text_bytes t)

-- two statuses with one spelling are one
abbrev pub OneStatus : Type 0
OneStatus = (a b : StatusText) → IsStatusText a → IsStatusText b → text_bytes a ≡ text_bytes b → a ≡ b

-- a status before it is sealed has 25 bytes, and 135 more where there is a receipt in it
abbrev pub status_length : Option Signed → ℕ
status_length None = 25
status_length (Some s) = 160

-- law: so many bytes a status has before it is sealed
abbrev pub StatusIsAsLong : Type 0
StatusIsAsLong = (t : StatusText) → IsStatusText t → length (text_bytes t) ≡ status_length t.receipt

-- the limits in numbers
abbrev pub MessageLimitsAre : Type 0
MessageLimitsAre = (limit.MAX_SEALED_PRICE_REQUEST ≡ 112) × (limit.MAX_SEALED_QUOTE ≡ 52) × (limit.MAX_SEALED_GOODS_REQUEST ≡ 48)
    × (limit.MAX_SEALED_HEAD ≡ 104) × (limit.MAX_SEALED_PAYMENT ≡ 324) × (MOST_STATUS ≡ 192)

-- the labels under which parts of messages are sealed, as texts
abbrev pub LabelsAre : Type 0
LabelsAre = (label.PRICE_REQUEST_LABEL ≡ codes "m001") × (label.QUOTE_LABEL ≡ codes "m002") × (label.GOODS_REQUEST_LABEL ≡ codes "m003") × (label.GOODS_HEAD_LABEL ≡ codes "m004")
    × (label.PAYMENT_LABEL ≡ codes "m005") × (label.STATUS_LABEL ≡ codes "stat")
