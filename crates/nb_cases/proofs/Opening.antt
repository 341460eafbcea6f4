-- The bytes of a grant's frame are those that the verdict's law speaks of.
use Rattle.std.specs.Prelude.{List}
use Rattle.nb_entry.specs.declared.entry.Entry.{Entry}
use Rattle.nb_endorse.specs.declared.reply.Reply.{Reply}
use Rattle.nb_endorse.specs.declared.reply.Reply.TheVariants.{Result, Status, Grant, Done, Refused}
use Rattle.nb_endorse.specs.declared.reply.ReplyKeys.{ReplyKeys}
use Rattle.nb_escrow.specs.Replies.{OpensForBoth}
use Rattle.nb_escrow.specs.Verdict.{verdict}
use Rattle.nb_escrow.proofs.Granting.{grant_opens_for_both}
use Rattle.nb_cases.specs.Written.{OpensAsWritten, WrittenGrantsOpen}

as_written : (H : List Entry) (keys : ReplyKeys) (reply : Reply) → OpensForBoth H keys reply → OpensAsWritten H keys reply
as_written H keys (Grant consumer merchant nonce until session) opens = opens
as_written H keys (Result merchant consumer) opens = tt
as_written H keys (Status place epoid receipt) opens = tt
as_written H keys (Done acct at balance) opens = tt
as_written H keys (Refused refusal) opens = tt

pub written_grants_open : WrittenGrantsOpen
written_grants_open H head cap kind body moment bytes =
    as_written H (verdict H head cap kind body moment).keys (verdict H head cap kind body moment).reply (grant_opens_for_both H head cap kind body moment bytes)
