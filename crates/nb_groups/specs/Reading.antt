-- What a credential says: its text, read field by field at the place of each; and why bytes are no credential.
use Rattle.std.specs.Prelude.{ℕ, ◌+◌, List, [], ◌∷◌, codes, length, Option, None, Some, Result, Ok, Err}
use Rattle.nb_units.specs.Fields.{◌>>=◌, u32_at, u64_at, bytes_at, done_at, or_place, allowed}
use Rattle.nb_seal.specs.Seal.{text_in, iv_shown}
use Rattle.nb_groups.specs.declared.limits.TheConstants.{GROUPS_BYTES}
use Rattle.nb_groups.specs.declared.membership.Membership.{Membership}
use Rattle.nb_groups.specs.declared.quoting.Denial.{Denial}
use Rattle.nb_groups.specs.declared.quoting.Denial.TheVariants.{NoCredential, BadSeal, Malformed}
use Rattle.nb_groups.specs.Groups.{groups_in, are_groups_bytes}

-- what the bytes spell, or the bad place
unfoldable pub membership_of : List ℕ → Result Membership ℕ
membership_of bytes = do
  consumer ← or_place (u32_at bytes 0)
  until ← or_place (u64_at bytes 4)
  groups ← or_place (bytes_at GROUPS_BYTES bytes 12)
  lawful ← allowed (are_groups_bytes groups) 12
  end ← or_place (done_at bytes (16 + length groups))
  Ok (record { consumer = record { 0 = consumer }; until = until; groups = groups_in groups })

-- a bad place of what is sealed is told as such
abbrev pub or_malformed : Result Membership ℕ → Result Membership Denial
or_malformed (Ok m) = Ok m
or_malformed (Err place) = Err (Malformed place)

-- the text of a seal is read; of what is none its front is told
abbrev pub read_of : List ℕ → Option (List ℕ) → Result Membership Denial
read_of request None = Err (BadSeal (iv_shown request))
read_of request (Some plain) = or_malformed (membership_of plain)

-- what the credential says that a request is under the keeper's key. It is none where it is empty, where it is the seal of no text, where its text is not so
-- spelled: the first of these is told
abbrev pub membership_in : List ℕ → List ℕ → Result Membership Denial
membership_in key [] = Err NoCredential
membership_in key (b ∷ request) = read_of (b ∷ request) (text_in key (codes "cred") (b ∷ request))
