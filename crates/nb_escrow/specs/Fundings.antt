-- The verdict on a funding: its tests in order, each a line.
use Rattle.std.specs.Prelude.{ℕ, ◌+◌, ◌++◌, ◌∷◌, [], List, Option, Some, None, Result, Ok, Err, is_some, nat_le, codes, length, ◌==◌, ◌&&◌, if◌then◌else◌}
use Rattle.nb_units.specs.declared.ids.AcctId.{AcctId}
use Rattle.nb_units.specs.Fields.{◌>>=◌}
use Rattle.nb_seal.specs.Hmac.{hmac_of}
use Rattle.nb_entry.specs.declared.entry.Entry.{Entry}
use Rattle.nb_entry.specs.declared.entry.Entry.TheVariants.{Fund}
use Rattle.nb_book.specs.declared.funded.Funded.{Funded}
use Rattle.nb_book.specs.declared.limits.TheConstants.{MAX_TOTAL}
use Rattle.nb_book.specs.Searches.{holder_in, funded_in}
use Rattle.nb_book.specs.Money.{balance, total}
use Rattle.nb_escrow.specs.declared.head.Head.{Head}
use Rattle.nb_escrow.specs.declared.decision.Decision.{Decision}
use Rattle.nb_endorse.specs.declared.refusal.Refusal.{Refusal}
use Rattle.nb_endorse.specs.declared.refusal.TheConstants.{IN_BODY, REFERENCE_HELD, ACCOUNT_NOT_HELD, TOTAL_TOO_HIGH}
use Rattle.nb_body.specs.declared.funding.Funding.{Funding}
use Rattle.nb_body.specs.Reading.{funding_of}
use Rattle.nb_escrow.specs.Checks.{signed_part, well_formed, right_tag, room_left, unless}
use Rattle.nb_endorse.specs.Refusals.{refusal}
use Rattle.nb_escrow.specs.Held.{place_in, done}

-- what is recorded
abbrev pub fund_entry : Funding → Entry
fund_entry asked = Fund asked.acct asked.amount asked.reference

-- for the contracts of private functions alone: the place of the fund under the same reference, where it says the same
abbrev pub funded_place : Funding → Funded → Option ℕ
funded_place asked funded = if (funded.acct.0 == asked.acct.0) && (funded.amount == asked.amount) then Some funded.at else None

-- no fund has the reference, or what is kept under it is shown
abbrev pub if_unfunded : Option Funded → Result (Unit {0}) Refusal
if_unfunded None = Ok tt
if_unfunded (Some kept) = Err (refusal REFERENCE_HELD kept.acct.0 kept.amount)

-- no fund among the entries has the reference
unfoldable pub reference_new : List Entry → List ℕ → Result (Unit {0}) Refusal
reference_new H reference = if_unfunded (funded_in H reference)

-- a party holds the account
unfoldable pub account_held : List Entry → AcctId → Result (Unit {0}) Refusal
account_held H acct = unless (is_some (holder_in H acct)) (refusal ACCOUNT_NOT_HELD acct.0 0)

-- the house takes in at most 10^18 in all
unfoldable pub total_within : List Entry → ℕ → Result (Unit {0}) Refusal
total_within H amount = unless (nat_le (total H + amount) MAX_TOTAL) (refusal TOTAL_TOO_HIGH (total H) amount)

-- an equal entry is told again; a new one is tested and recorded
abbrev pub again_or_fund : List Entry → ℕ → Funding → Option ℕ → Result Decision Refusal
again_or_fund H cap asked (Some at) = Ok (done asked.acct at (balance H asked.acct) None)
again_or_fund H cap asked None = do
  fresh ← reference_new H asked.reference
  held ← account_held H asked.acct
  within ← total_within H asked.amount
  room ← room_left H cap
  Ok (done asked.acct (length H) (balance (H ++ fund_entry asked ∷ []) asked.acct) (Some (fund_entry asked)))

-- the tests of a funding, and what it is told and records. The refusals of its lines, in order: 10; 14; and then, where it is not
-- held, 17, 18, 19 and 20
unfoldable pub fund_steps : List Entry → Head → ℕ → List ℕ → Result Decision Refusal
fund_steps H head cap body = do
  asked ← well_formed IN_BODY (funding_of body)
  signed ← right_tag asked.tag (hmac_of head.operator (codes "fund" ++ signed_part body))
  again_or_fund H cap asked (place_in H (fund_entry asked))
