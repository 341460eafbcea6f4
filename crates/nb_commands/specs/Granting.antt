-- What writing a credential comes to.
use Rattle.std.specs.Prelude.{◌≡◌, ◌⊎◌, ℕ, ◌+◌, ◌<◌, List, length, Option, Some}
use Rattle.std.specs.Io.KnownBytes.{Appends}
use Rattle.nb_units.specs.declared.ids.PartyId.{PartyId}
use Rattle.nb_units.specs.declared.width.TheConstants.{SECRET}
use Rattle.nb_port.specs.Faults.{Rose}
use Rattle.nb_batch.specs.Send.{SentPart}
use Rattle.nb_groups.specs.Spelling.{credential_of}
use Rattle.nb_commands.specs.declared.ending.Ending.{Ending}
use Rattle.nb_commands.specs.declared.ending.TheConstants.{CLEAN, SOURCE_FAILED, SINK_FAILED, BAD_INPUT, OUT_OF_MEMORY}
use Rattle.nb_commands.specs.declared.granting.GrantEnd.{GrantEnd}
use Rattle.nb_commands.specs.declared.granting.GrantEnd.TheVariants as ends
use Rattle.nb_commands.specs.Ending.{at_no_place}
use Rattle.nb_commands.specs.Input.{TookAll, TookMore, TookUpTo}

-- how it ends the program: an input that is no key is shown by how many of its bytes were read
abbrev pub grant_ending : GrantEnd → Ending
grant_ending ends.Granted = at_no_place CLEAN
grant_ending ends.ReadFault = at_no_place SOURCE_FAILED
grant_ending (ends.BadKey bytes) = record { status = BAD_INPUT; place = bytes }
grant_ending ends.WriteFault = at_no_place SINK_FAILED
grant_ending ends.NoMemory = at_no_place OUT_OF_MEMORY

-- the credential of a consumer for these groups, up to this second, under a key
abbrev pub credential_for : PartyId → ℕ → List ℕ → List ℕ → List ℕ
credential_for consumer until groups key = credential_of key (record { consumer = consumer; until = until; groups = groups })

-- all of the input was read, and is a key
pub record TookKey (left left' : Option (List ℕ)) (key : List ℕ) : Type 0 where
  pub all : TookAll left left' SECRET key
  pub long : length key ≡ SECRET

-- it is none: so many bytes of it were read, all of it where it is shorter, and else one more than a key has
abbrev pub TookOther : Option (List ℕ) → Option (List ℕ) → ℕ → Type 0
TookOther left left' count =
    ((input : List ℕ) × TookAll left left' SECRET input × (length input ≡ count) × (count < SECRET))
    ⊎ (TookMore left left' SECRET × (count ≡ SECRET + 1))

-- by cases on the end, for what was left of the input, the counts of faults of source and sink, what was sent, and the credential under each key: that under the
-- key that is the input, or a part of it from its front, is all that is sent
abbrev pub GrantsAs : Option (List ℕ) → Option (List ℕ) → ℕ → ℕ → Option (List ℕ) → Option (List ℕ) → ℕ → ℕ → (List ℕ → List ℕ) → GrantEnd → Type 0
GrantsAs left left' source source' sent sent' sink sink' credential ends.Granted = (key : List ℕ) × TookKey left left' key × Appends sent sent' (credential key)
GrantsAs left left' source source' sent sent' sink sink' credential ends.ReadFault = Rose source source' × TookUpTo left left' SECRET
GrantsAs left left' source source' sent sent' sink sink' credential (ends.BadKey bytes) = TookOther left left' bytes
GrantsAs left left' source source' sent sent' sink sink' credential ends.WriteFault =
    (key : List ℕ) × TookKey left left' key × Rose sink sink' × SentPart sent sent' (credential key)
GrantsAs left left' source source' sent sent' sink sink' credential ends.NoMemory = TookUpTo left left' SECRET

-- writing a credential came to one of its ends, which says how the run ends
abbrev pub GrantIs : Option (List ℕ) → Option (List ℕ) → ℕ → ℕ → Option (List ℕ) → Option (List ℕ) → ℕ → ℕ → (List ℕ → List ℕ) → Ending → Type 0
GrantIs left left' source source' sent sent' sink sink' credential ending = (end : GrantEnd) × (ending ≡ grant_ending end) × GrantsAs left left' source source' sent sent' sink sink' credential end

-- the input is a key, and nothing else
abbrev pub IsKeyInput : Option (List ℕ) → Type 0
IsKeyInput left = (key : List ℕ) × (left ≡ Some key) × (length key ≡ SECRET)
