-- The groups of a credential.
use Rattle.std.specs.Prelude.{ℕ, List, [], ◌∷◌, ◌++◌, ◌==◌, ◌*◌, ◌<◌, ◌^◌, ◌&&◌, Bool, true, nat_lt, nat_le, length, IsTrue}
use Rattle.std.specs.List.{flat_map, AllByRecursion}
use Rattle.std.specs.Fmt.{decimal}
use Rattle.std.specs.Int.{w32, from_be_bytes}
use Rattle.nb_units.specs.Fields.{be4}
use Rattle.nb_groups.specs.declared.limits.TheConstants.{MAX_GROUPS, COMMA}

-- each is less than the next
abbrev pub rise : List ℕ → Bool
rise (a ∷ b ∷ groups) = nat_lt a b && rise (b ∷ groups)
rise few = true

-- one to four, each less than the next
abbrev pub are_groups : List ℕ → Bool
are_groups groups = nat_lt 0 (length groups) && nat_le (length groups) MAX_GROUPS && rise groups

-- and each fits four bytes
abbrev pub AreGroups : List ℕ → Type 0
AreGroups groups = IsTrue (are_groups groups) × AllByRecursion (λ g. g < 2 ^ 32) groups

-- in a word: decimal numbers, without sign or leading zero, with commas between them
abbrev pub groups_text : List ℕ → List ℕ
groups_text [] = []
groups_text (g ∷ groups) = decimal g ++ flat_map (λ h. COMMA ∷ decimal h) groups

-- four bytes for each
abbrev pub groups_bytes : List ℕ → List ℕ
groups_bytes groups = flat_map be4 groups

-- the numbers that bytes spell, four bytes each
abbrev pub groups_in : List ℕ → List ℕ
groups_in (a ∷ b ∷ c ∷ d ∷ text) = from_be_bytes w32 (a ∷ b ∷ c ∷ d ∷ []) ∷ groups_in text
groups_in few = []

-- the bytes spell the groups of a credential
abbrev pub are_groups_bytes : List ℕ → Bool
are_groups_bytes text = length text == 4 * length (groups_in text) && are_groups (groups_in text)
