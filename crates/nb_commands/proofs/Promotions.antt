-- A standby that is promoted, told as a run of the program.
use Rattle.std.proofs.Common.{◌≡◌, ◌≢◌, ◌⊎◌, ℕ, List, [], Option, IfSome, length, refl, ap, subst, ◌∙◌, append-nil, arith, inl, inr}
use Rattle.nb_port.specs.Tells.{DiskTells}
use Rattle.nb_port.specs.Faults.{Rose}
use Rattle.nb_vault.specs.Opens.{VaultOpensAs}
use Rattle.nb_vault.specs.Vaults.{Chronicled, entries_in}
use Rattle.nb_commands.specs.declared.ending.TheConstants.{CLEAN, SINK_FAILED, OUT_OF_MEMORY}
use Rattle.nb_commands.specs.declared.promoting.Promotion.{Promotion}
use Rattle.nb_commands.specs.declared.promoting.Promotion.TheVariants.{Told, WriteFault, NoMemory}
use Rattle.nb_commands.specs.Promote.{Promoted, TellsLength, promotion_ending}
use Rattle.nb_commands.proofs.Opening.{all_at_start, opened_as}

-- what was told of the entries of a vault that was opened, and has done nothing since
pub promoted : {D K : Type 0} (tells : DiskTells D) (old new : D) (v : Chronicled D) (told : Promotion) (sink sink' : K) (entries before after : ℕ) (sent sent' : Option (List ℕ))
    → VaultOpensAs tells old v → new ≡ v.disk → entries ≡ length (entries_in v)
    → TellsLength sink sink' sent sent' before after entries told → Promoted tells old new sent sent' (promotion_ending told)
promoted tells old new v told sink sink' entries before after sent sent' opens handed count tells_it =
    let all : entries ≡ length v.origin.entries = count ∙ ap length (all_at_start v opens.lines) in
    over told (subst (λ (n : ℕ). TellsLength sink sink' sent sent' before after n told) all tells_it)
  where
    over : (told : Promotion) → TellsLength sink sink' sent sent' before after (length v.origin.entries) told → Promoted tells old new sent sent' (promotion_ending told)
    over Told is = record {
      opened = opened_as tells old new v opens handed;
      whole = λ e. is;
      part = λ e. absurd (omega (arith, e));
      ends = inl refl;
    }
    over WriteFault is = record {
      opened = opened_as tells old new v opens handed;
      whole = λ e. absurd (omega (arith, e));
      part = λ e. is.1;
      ends = inr (inl refl);
    }
    over NoMemory is = record {
      opened = opened_as tells old new v opens handed;
      whole = λ e. absurd (omega (arith, e));
      part = λ e. absurd (omega (arith, e));
      ends = inr (inr refl);
    }

module _ {K : Type 0} (sink sink' : K) (entries before after : ℕ) (sent sent' : Option (List ℕ)) where
  -- a fault of the sink is told only where its count rose
  pub rose_promoted : (told : Promotion) → TellsLength sink sink' sent sent' before after entries told → (promotion_ending told).status ≡ SINK_FAILED → Rose before after
  rose_promoted Told is e = absurd (omega (arith, e))
  rose_promoted WriteFault is e = is.0
  rose_promoted NoMemory is e = absurd (omega (arith, e))

  -- but after 0 and 4 the sink is as before
  pub silent_promoted : (told : Promotion) → TellsLength sink sink' sent sent' before after entries told → (promotion_ending told).status ≢ CLEAN → (promotion_ending told).status ≢ SINK_FAILED → sink' ≡ sink
  silent_promoted Told is no_clean no_sink = absurd (no_clean refl)
  silent_promoted WriteFault is no_clean no_sink = absurd (no_sink refl)
  silent_promoted NoMemory is no_clean no_sink = is

  -- where the sink did not fail it was told, or there was no memory
  pub ends_promoted : (told : Promotion) → TellsLength sink sink' sent sent' before after entries told → (Rose before after → ⊥) → ((promotion_ending told).status ≡ CLEAN) ⊎ ((promotion_ending told).status ≡ OUT_OF_MEMORY)
  ends_promoted Told is no_sink = inl refl
  ends_promoted WriteFault is no_sink = absurd (no_sink is.0)
  ends_promoted NoMemory is no_sink = inr refl
