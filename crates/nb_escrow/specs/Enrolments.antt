-- The verdict on an enrolment: its tests in order, each a line.
use Rattle.std.specs.Prelude.{ℕ, ◌==◌, ◌&&◌, ◌++◌, ◌∷◌, [], not, List, Option, Some, None, Result, Ok, Err, codes, length, if◌then◌else◌}
use Rattle.std.specs.Str.{bytes_eq}
use Rattle.nb_book.specs.declared.party.Party.{Party}
use Rattle.nb_units.specs.declared.ids.AcctId.{AcctId}
use Rattle.nb_units.specs.declared.ids.PartyId.{PartyId}
use Rattle.nb_units.specs.Fields.{◌>>=◌}
use Rattle.nb_seal.specs.Hmac.{hmac_of}
use Rattle.nb_entry.specs.declared.entry.Entry.{Entry}
use Rattle.nb_entry.specs.declared.entry.Entry.TheVariants.{Enrol}
use Rattle.nb_book.specs.Searches.{party_in, holder_in}
use Rattle.nb_book.specs.Money.{balance}
use Rattle.nb_escrow.specs.declared.head.Head.{Head}
use Rattle.nb_escrow.specs.declared.decision.Decision.{Decision}
use Rattle.nb_endorse.specs.declared.refusal.Refusal.{Refusal}
use Rattle.nb_endorse.specs.declared.refusal.TheConstants.{IN_BODY, PARTY_HELD}
use Rattle.nb_body.specs.declared.enrolment.Enrolment.{Enrolment}
use Rattle.nb_body.specs.Reading.{enrolment_of}
use Rattle.nb_escrow.specs.Checks.{signed_part, well_formed, right_tag, room_left, unless}
use Rattle.nb_endorse.specs.Refusals.{refusal}
use Rattle.nb_escrow.specs.Held.{place_in, done}

-- what is recorded
abbrev pub enrol_entry : Enrolment → Entry
enrol_entry asked = Enrol asked.id asked.role asked.acct asked.nonce asked.key

-- for the contracts of private functions alone: the place of the enrolment under the same number, where it says the same
abbrev pub party_place : Enrolment → Party → Option ℕ
party_place asked party =
    if (party.role == asked.role) && (party.acct.0 == asked.acct.0) && (party.nonce == asked.nonce) && bytes_eq party.key asked.key
    then Some party.at else None

-- a party found under the number is shown, or else the holder of the account; neither number may be 0
abbrev pub if_unheld : PartyId → AcctId → Option Party → Option PartyId → Result (Unit {0}) Refusal
if_unheld id acct (Some party) holder = Err (refusal PARTY_HELD id.0 party.acct.0)
if_unheld id acct None (Some holder) = Err (refusal PARTY_HELD holder.0 acct.0)
if_unheld id acct None None = unless (not (id.0 == 0) && not (acct.0 == 0)) (refusal PARTY_HELD 0 0)

-- neither the number nor the account is held or 0
unfoldable pub numbers_free : List Entry → PartyId → AcctId → Result (Unit {0}) Refusal
numbers_free H id acct = if_unheld id acct (party_in H id) (holder_in H acct)

-- an equal entry is told again; a new one is tested and recorded
abbrev pub again_or_enrol : List Entry → ℕ → Enrolment → Option ℕ → Result Decision Refusal
again_or_enrol H cap asked (Some at) = Ok (done asked.acct at (balance H asked.acct) None)
again_or_enrol H cap asked None = do
  free ← numbers_free H asked.id asked.acct
  room ← room_left H cap
  Ok (done asked.acct (length H) (balance (H ++ enrol_entry asked ∷ []) asked.acct) (Some (enrol_entry asked)))

-- the tests of an enrolment, and what it is told and records. The refusals of its lines, in order: 10; 14; and then, where it is
-- not held, 16 and 20
unfoldable pub enrol_steps : List Entry → Head → ℕ → List ℕ → Result Decision Refusal
enrol_steps H head cap body = do
  asked ← well_formed IN_BODY (enrolment_of body)
  signed ← right_tag asked.tag (hmac_of head.operator (codes "enro" ++ signed_part body))
  again_or_enrol H cap asked (place_in H (enrol_entry asked))
