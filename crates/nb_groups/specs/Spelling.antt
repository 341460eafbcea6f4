-- The one spelling of what a credential says, and the credential: that text, sealed. Numbers are big-endian; the groups have their length before them, in
-- four bytes.
use Rattle.std.specs.Prelude.{ℕ, List, ◌++◌, ◌<◌, ◌^◌, codes, IsTrue}
use Rattle.std.specs.List.{AllByRecursion}
use Rattle.nb_units.specs.Fields.{be4, be8, sized}
use Rattle.nb_seal.specs.Seal.{seal_of}
use Rattle.nb_groups.specs.declared.membership.Membership.{Membership}
use Rattle.nb_groups.specs.Groups.{are_groups, groups_bytes}

-- consumer 4 | its last second 8 | the groups: their length 4, four bytes for each
unfoldable pub membership_bytes : Membership → List ℕ
membership_bytes m = be4 m.consumer.0 ++ be8 m.until ++ sized (groups_bytes m.groups)

-- each field is within its limits
pub record IsMembership (m : Membership) : Type 0 where
  pub consumer : m.consumer.0 < 2 ^ 32
  pub until : m.until < 2 ^ 64
  pub groups : IsTrue (are_groups m.groups)
  pub each : AllByRecursion (λ g. g < 2 ^ 32) m.groups

-- sealed under the keeper's key and the label "cred"
abbrev pub credential_of : List ℕ → Membership → List ℕ
credential_of key m = seal_of key (codes "cred") (membership_bytes m)
