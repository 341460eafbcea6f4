-- What the house writes of a grant is what both sides open.
use Rattle.std.specs.Prelude.{◌≡◌, ℕ, List, Some}
use Rattle.nb_units.specs.Frames.{AreBytes}
use Rattle.nb_entry.specs.declared.entry.Entry.{Entry}
use Rattle.nb_book.specs.declared.party.Party.{Party}
use Rattle.nb_book.specs.Searches.{party_in}
use Rattle.nb_endorse.specs.declared.reply.Reply.{Reply}
use Rattle.nb_endorse.specs.declared.reply.Reply.TheVariants.{Grant}
use Rattle.nb_endorse.specs.declared.reply.ReplyKeys.{ReplyKeys}
use Rattle.nb_ticket.specs.Laws.{Carries}
use Rattle.nb_msgs.specs.ReplyBytes.{reply_frame}
use Rattle.nb_escrow.specs.declared.head.Head.{Head}
use Rattle.nb_escrow.specs.Verdict.{verdict}

-- the parties that a grant names are enrolled, and the body of its frame is opened under the consumer's key, and the ticket in it under
-- the merchant's, to what the grant tells
abbrev pub OpensAsWritten : List Entry → ReplyKeys → Reply → Type 0
OpensAsWritten H keys (Grant consumer merchant nonce until session) =
    (buyer : Party) × (seller : Party) × (party_in H consumer ≡ Some buyer) × (party_in H merchant ≡ Some seller)
    × Carries buyer.key seller.key consumer merchant nonce until session (reply_frame keys (Grant consumer merchant nonce until session)).body
OpensAsWritten H keys other = Unit {0}

-- the grant of every verdict is so
abbrev pub WrittenGrantsOpen : Type 0
WrittenGrantsOpen = (H : List Entry) (head : Head) (cap kind : ℕ) (body : List ℕ) (moment : ℕ) → AreBytes body
    → OpensAsWritten H (verdict H head cap kind body moment).keys (verdict H head cap kind body moment).reply
