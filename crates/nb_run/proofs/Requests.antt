-- Reading the request of a purchase.
use Rattle.std.proofs.Common.{◌≡◌, ◌⊎◌, inl, inr, ℕ, List, [], Option, Ok, Err, refl, sym, ap, subst, ◌∙◌}
use Rattle.std.specs.Prelude.{Result}
use Rattle.nb_units.specs.declared.ids.PartyId.{PartyId}
use Rattle.nb_units.specs.declared.ids.Price.{Price}
use Rattle.nb_body.specs.declared.limits.TheConstants.{MAX_REQUEST}
use Rattle.nb_port.specs.Faults.{Rose}
use Rattle.nb_commands.specs.declared.asking.RequestEnd.{RequestEnd}
use Rattle.nb_commands.specs.declared.asking.RequestEnd.TheVariants as ends
use Rattle.nb_commands.specs.declared.ending.Job.TheVariants.{Buy}
use Rattle.nb_commands.specs.declared.ending.Outcome.{Outcome}
use Rattle.nb_commands.specs.declared.ending.Outcome.TheVariants.{Work}
use Rattle.nb_commands.specs.declared.ending.TheConstants.{OUT_OF_MEMORY}
use Rattle.nb_commands.specs.Asking.{AsksAs, IsRequestInput, RequestIs, asked}
use Rattle.nb_commands.specs.Ending.{EndsWith}
use Rattle.nb_commands.proofs.Moving.{same_input, not_longer}

module _ (left left' : Option (List ℕ)) (source source' : ℕ) (merchant : PartyId) (product : ℕ) (limit : Price) (transaction : ℕ) (outcome : Outcome) where
  -- a request alone is bought with, or there was no memory
  pub asks_clean : (request : List ℕ) → AsksAs left left' source source' merchant product limit transaction outcome → IsRequestInput left request → (Rose source source' → ⊥)
      → (outcome ≡ Work (Buy merchant product limit transaction request)) ⊎ EndsWith outcome OUT_OF_MEMORY
  asks_clean request asks input no_source = by asks.0 asks.1 asks.2
    where
      by : (read : Result (List ℕ) RequestEnd) → outcome ≡ asked merchant product limit transaction read → RequestIs left left' source source' read
          → (outcome ≡ Work (Buy merchant product limit transaction request)) ⊎ EndsWith outcome OUT_OF_MEMORY
      by (Ok found) is reads = inl (is ∙ ap (λ (r : List ℕ). Work (Buy merchant product limit transaction r)) (same_input left left' request found MAX_REQUEST input.0 reads))
      by (Err ends.ReadFault) is reads = absurd (no_source reads.0)
      by (Err ends.TooLong) is reads = absurd (not_longer left left' request MAX_REQUEST input.0 input.1 reads)
      by (Err ends.NoMemory) is reads = inr (subst (λ (o : Outcome). EndsWith o OUT_OF_MEMORY) (sym is) refl)
