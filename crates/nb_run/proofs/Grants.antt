-- Writing a credential, where nothing fails.
use Rattle.std.proofs.Common.{◌≡◌, ◌⊎◌, inl, inr, ℕ, List, Option, length, refl, ap, arith}
use Rattle.nb_units.specs.declared.width.TheConstants.{SECRET}
use Rattle.nb_port.specs.Faults.{Rose}
use Rattle.nb_commands.specs.declared.ending.TheConstants.{CLEAN, OUT_OF_MEMORY}
use Rattle.nb_commands.specs.declared.granting.GrantEnd.{GrantEnd}
use Rattle.nb_commands.specs.declared.granting.GrantEnd.TheVariants.{Granted, ReadFault, BadKey, WriteFault, NoMemory}
use Rattle.nb_commands.specs.Granting.{GrantsAs, IsKeyInput, TookOther, grant_ending}
use Rattle.nb_commands.proofs.Moving.{same_input, not_longer}

module _ (left left' : Option (List ℕ)) (source source' : ℕ) (sent sent' : Option (List ℕ)) (sink sink' : ℕ) (credential : List ℕ → List ℕ) (input : IsKeyInput left) where
  is_key : (count : ℕ) → TookOther left left' count → ⊥
  is_key count (inl took) = omega (arith, input.2, ap length (same_input left left' input.0 took.0 SECRET input.1 took.1), took.2, took.3)
  is_key count (inr took) = not_longer left left' input.0 SECRET input.1 (omega (arith, input.2)) took.0

  -- a key alone is granted under, or there was no memory
  pub grants_clean : (end : GrantEnd) → GrantsAs left left' source source' sent sent' sink sink' credential end → (Rose source source' → ⊥) → (Rose sink sink' → ⊥)
      → ((grant_ending end).status ≡ CLEAN) ⊎ ((grant_ending end).status ≡ OUT_OF_MEMORY)
  grants_clean Granted is no_source no_sink = inl refl
  grants_clean ReadFault is no_source no_sink = absurd (no_source is.0)
  grants_clean (BadKey bytes) is no_source no_sink = absurd (is_key bytes is)
  grants_clean WriteFault is no_source no_sink = absurd (no_sink is.2)
  grants_clean NoMemory is no_source no_sink = inr refl
