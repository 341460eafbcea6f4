-- The verdict on a status query: its tests in order, each a line.
use Rattle.std.specs.Prelude.{ℕ, List, ◌++◌, codes, length, nat_le, None, Result, Ok}
use Rattle.nb_units.specs.Fields.{◌>>=◌}
use Rattle.nb_seal.specs.Hmac.{hmac_of}
use Rattle.nb_entry.specs.declared.entry.Entry.{Entry}
use Rattle.nb_book.specs.declared.party.Party.{Party}
use Rattle.nb_endorse.specs.declared.refusal.TheConstants.{IN_BODY, TOO_FEW_ENTRIES}
use Rattle.nb_endorse.specs.declared.refusal.Refusal.{Refusal}
use Rattle.nb_endorse.specs.declared.reply.Reply.TheVariants.{Status}
use Rattle.nb_endorse.specs.declared.receipt.TheConstants.{NO_KEY}
use Rattle.nb_endorse.specs.Refusals.{refusal}
use Rattle.nb_escrow.specs.declared.head.Head.{Head}
use Rattle.nb_escrow.specs.declared.decision.Decision.{Decision}
use Rattle.nb_body.specs.declared.query.StatusQuery.{StatusQuery}
use Rattle.nb_body.specs.Reading.{query_of}
use Rattle.nb_escrow.specs.Checks.{signed_part, unless, well_formed, enrolled, right_tag}
use Rattle.nb_escrow.specs.Settlements.{settlement_in, receipt_of_party}

-- at least so many entries are held
unfoldable pub enough_entries : List Entry → ℕ → Result (Unit {0}) Refusal
enough_entries H least = unless (nat_le least (length H)) (refusal TOO_FEW_ENTRIES (length H) least)

-- who asks is told how many entries there are, and given its receipt where the order was settled and names it
abbrev pub status_told : List Entry → Head → Party → StatusQuery → Decision
status_told H head asker asked = record {
  reply = Status (length H) asked.epoid (receipt_of_party asked.asker (settlement_in H asked.epoid));
  keys = record { house = head.house; first = asker.key; second = NO_KEY };
  entry = None;
}

-- the tests of a status query, and what who asks is told. The refusals of its lines, in order: 10; 11; 14; 40
unfoldable pub status_steps : List Entry → Head → List ℕ → Result Decision Refusal
status_steps H head body = do
  asked ← well_formed IN_BODY (query_of body)
  asker ← enrolled H asked.asker
  signed ← right_tag asked.tag (hmac_of asker.key (codes "stat" ++ signed_part body))
  known ← enough_entries H asked.least
  Ok (status_told H head asker asked)
