-- Records that are shipped, told as a run of the program.
use Rattle.std.proofs.Common.{◌≡◌, ◌≢◌, ◌⊎◌, ◌↔◌, ℕ, ◌<◌, ◌≤◌, List, [], Option, IfSome, Result, Ok, Err, length, refl, ap, subst, ◌∙◌, append-nil, arith, inl, inr}
use Rattle.nb_port.specs.Tells.{DiskTells}
use Rattle.nb_port.specs.Faults.{Rose}
use Rattle.nb_entry.specs.declared.entry.Entry.{Entry}
use Rattle.nb_vault.specs.Opens.{VaultOpensAs}
use Rattle.nb_vault.specs.Vaults.{Chronicled, entries_in}
use Rattle.nb_standby.specs.Following.{house_key}
use Rattle.nb_batch.specs.declared.shipping.ShipFault.{ShipFault}
use Rattle.nb_batch.specs.declared.shipping.ShipFault.TheVariants.{Beyond, WriteFault, NoMemory}
use Rattle.nb_batch.specs.Shipping.{Ships, ShipsUnheld}
use Rattle.nb_commands.specs.declared.ending.TheConstants.{CLEAN, SINK_FAILED, OUT_OF_MEMORY, NO_PLACE}
use Rattle.nb_commands.specs.Ship.{Shipped, shipped_ending}
use Rattle.nb_commands.proofs.Opening.{all_at_start, opened_as}

-- what was sent of the entries of a vault that was opened, and has done nothing since
pub shipped : {D : Type 0} (tells : DiskTells D) (old new : D) (v : Chronicled D) (told : Result (Unit {0}) ShipFault) (from before after : ℕ) (sent sent' : Option (List ℕ))
    → VaultOpensAs tells old v → new ≡ v.disk
    → Ships before after sent sent' (house_key v) from (entries_in v) told → Shipped tells old new sent sent' from (shipped_ending told)
shipped tells old new v told from before after sent sent' opens handed ships =
    let all : entries_in v ≡ v.origin.entries = all_at_start v opens.lines in
    over told (subst (λ (H : List Entry). Ships before after sent sent' (house_key v) from H told) all ships)
  where
    over : (told : Result (Unit {0}) ShipFault) → Ships before after sent sent' (house_key v) from v.origin.entries told → Shipped tells old new sent sent' from (shipped_ending told)
    over (Ok u) ships = record {
      opened = opened_as tells old new v opens handed;
      whole = λ e. ships.1;
      part = λ e. absurd (omega (arith, e));
      refused = (λ e. absurd (omega (arith, e)), λ above. absurd (omega (arith, above, ships.0)));
      ends = inl refl;
    }
    over (Err (Beyond n)) ships = record {
      opened = opened_as tells old new v opens handed;
      whole = λ e. absurd (omega (arith, e));
      part = λ e. absurd (omega (arith, e));
      refused = (λ e. ships.1, λ above. refl);
      ends = inr (inr (inl (ap (λ (k : ℕ). record { status = NO_PLACE; place = k }) ships.0)));
    }
    over (Err WriteFault) ships = record {
      opened = opened_as tells old new v opens handed;
      whole = λ e. absurd (omega (arith, e));
      part = λ e. ships.2;
      refused = (λ e. absurd (omega (arith, e)), λ above. absurd (omega (arith, above, ships.0)));
      ends = inr (inl refl);
    }
    over (Err NoMemory) ships = record {
      opened = opened_as tells old new v opens handed;
      whole = λ e. absurd (omega (arith, e));
      part = λ e. absurd (omega (arith, e));
      refused = (λ e. absurd (omega (arith, e)), λ above. absurd (omega (arith, above, ships)));
      ends = inr (inr (inr refl));
    }

-- a fault of the sink is told only where its count rose
pub rose_shipped : (told : Result (Unit {0}) ShipFault) (before after : ℕ) (sent sent' : Option (List ℕ)) (key : List ℕ) (from : ℕ) (H : List Entry) → Ships before after sent sent' key from H told → (shipped_ending told).status ≡ SINK_FAILED → Rose before after
rose_shipped (Ok u) before after sent sent' key from H ships e = absurd (omega (arith, e))
rose_shipped (Err (Beyond n)) before after sent sent' key from H ships e = absurd (omega (arith, e))
rose_shipped (Err WriteFault) before after sent sent' key from H ships e = ships.1
rose_shipped (Err NoMemory) before after sent sent' key from H ships e = absurd (omega (arith, e))

-- but after 0 and 4 the sink is as before
pub silent_shipped : {K : Type 0} (told : Result (Unit {0}) ShipFault) (old new : K) → ShipsUnheld old new told → (shipped_ending told).status ≢ CLEAN → (shipped_ending told).status ≢ SINK_FAILED → new ≡ old
silent_shipped (Ok u) old new same no_clean no_sink = absurd (no_clean refl)
silent_shipped (Err (Beyond n)) old new same no_clean no_sink = same
silent_shipped (Err WriteFault) old new same no_clean no_sink = absurd (no_sink refl)
silent_shipped (Err NoMemory) old new same no_clean no_sink = same

-- where the sink did not fail the records were shipped, or the place is above them, or there was no memory
pub ends_shipped : (told : Result (Unit {0}) ShipFault) (before after : ℕ) (sent sent' : Option (List ℕ)) (key : List ℕ) (from : ℕ) (H : List Entry) → Ships before after sent sent' key from H told → (Rose before after → ⊥)
    → ((shipped_ending told).status ≡ CLEAN) ⊎ ((shipped_ending told).status ≡ NO_PLACE) ⊎ ((shipped_ending told).status ≡ OUT_OF_MEMORY)
ends_shipped (Ok u) before after sent sent' key from H ships no_sink = inl refl
ends_shipped (Err (Beyond n)) before after sent sent' key from H ships no_sink = inr (inl refl)
ends_shipped (Err WriteFault) before after sent sent' key from H ships no_sink = absurd (no_sink ships.1)
ends_shipped (Err NoMemory) before after sent sent' key from H ships no_sink = inr (inr refl)
