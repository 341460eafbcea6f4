-- The tests that requests of several kinds share. Each goes on, or gives the refusal that it stands for.
use Rattle.std.specs.Prelude.{ℕ, ◌-◌, ◌==◌, List, take, Bool, true, false, Option, Some, None, Result, Ok, Err, nat_lt, length}
use Rattle.std.specs.Str.{bytes_eq}
use Rattle.nb_units.specs.declared.ids.PartyId.{PartyId}
use Rattle.nb_units.specs.Fields.{◌>>=◌}
use Rattle.nb_seal.specs.Seal.{text_in, iv_shown}
use Rattle.nb_entry.specs.declared.entry.Entry.{Entry}
use Rattle.nb_book.specs.declared.party.Party.{Party}
use Rattle.nb_book.specs.Searches.{party_in}
use Rattle.nb_endorse.specs.declared.refusal.TheConstants.{MALFORMED, NOT_ENROLLED, NOT_SEALED, WRONG_TAG, JOURNAL_FULL}
use Rattle.nb_endorse.specs.declared.refusal.Refusal.{Refusal}
use Rattle.nb_endorse.specs.Refusals.{refusal, refusal_with}

-- what is asked for holds, or this is why not
abbrev pub unless : {R : Type 0} → Bool → R → Result (Unit {0}) R
unless true why = Ok tt
unless false why = Err why

-- the part of a body is spelled as it should be
abbrev pub well_formed : {A : Type 0} → ℕ → Result A ℕ → Result A Refusal
well_formed part (Ok value) = Ok value
well_formed part (Err place) = Err (refusal MALFORMED place part)

-- a party that was looked for was found
abbrev pub if_found : PartyId → Option Party → Result Party Refusal
if_found id None = Err (refusal NOT_ENROLLED id.0 0)
if_found id (Some party) = Ok party

-- the party of this number is enrolled, in either role
unfoldable pub enrolled : List Entry → PartyId → Result Party Refusal
enrolled H id = if_found id (party_in H id)

-- the party of this number is enrolled in this role
unfoldable pub enrolled_as : List Entry → ℕ → PartyId → Result Party Refusal
enrolled_as H role id = do
  party ← enrolled H id
  has_role ← unless (party.role == role) (refusal NOT_ENROLLED id.0 0)
  Ok party

-- a text was found in the bytes
abbrev pub if_text : List ℕ → Option (List ℕ) → Result (List ℕ) Refusal
if_text bytes None = Err (refusal_with NOT_SEALED (iv_shown bytes))
if_text bytes (Some plain) = Ok plain

-- the bytes are the seal of a text under the key and the label
unfoldable pub unsealed : List ℕ → List ℕ → List ℕ → Result (List ℕ) Refusal
unsealed key label bytes = if_text bytes (text_in key label bytes)

-- what the tag of a body is over, behind its label: the body before its tag, the last 32 bytes
abbrev pub signed_part : List ℕ → List ℕ
signed_part body = take (length body - 32) body

-- the tag given is the one that is wanted
unfoldable pub right_tag : List ℕ → List ℕ → Result (Unit {0}) Refusal
right_tag given wanted = unless (bytes_eq given wanted) (refusal_with WRONG_TAG given)

-- fewer entries are held than the journal may hold
unfoldable pub room_left : List Entry → ℕ → Result (Unit {0}) Refusal
room_left H cap = unless (nat_lt (length H) cap) (refusal JOURNAL_FULL cap 0)
