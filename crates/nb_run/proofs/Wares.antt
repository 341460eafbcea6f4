-- Reading the offers and the shelf of one who sells.
use Rattle.std.proofs.Common.{◌≡◌, ◌⊎◌, inl, inr, ℕ, List, Option, Some, None, Ok, Err, refl, sym, subst, ◌∙◌}
use Rattle.std.specs.Prelude.{Result}
use Rattle.nb_port.specs.Faults.{Rose}
use Rattle.nb_price.specs.declared.limits.TheConstants.{MAX_SHELF}
use Rattle.nb_price.specs.Products.{Product}
use Rattle.nb_price.specs.Reads.{FailsAt, RepeatsAt, IsCatalogue}
use Rattle.nb_groups.specs.declared.fault.OffersFault.TheVariants as faults
use Rattle.nb_groups.specs.Offers.{Tariff}
use Rattle.nb_groups.specs.Reads.{FaultIs, IsEmptyLine}
use Rattle.nb_groups.proofs.OneReading.{one_offered, none_bad}
use Rattle.nb_commands.specs.declared.ending.Job.TheVariants.{Sell}
use Rattle.nb_commands.specs.declared.ending.Outcome.{Outcome}
use Rattle.nb_commands.specs.declared.ending.Outcome.TheVariants.{Work}
use Rattle.nb_commands.specs.declared.ending.TheConstants.{OUT_OF_MEMORY}
use Rattle.nb_commands.specs.declared.offering.WaresEnd.{WaresEnd}
use Rattle.nb_commands.specs.declared.offering.WaresEnd.TheVariants as ends
use Rattle.nb_commands.specs.Ending.{EndsWith}
use Rattle.nb_commands.specs.Input.{TookAll}
use Rattle.nb_commands.specs.Offering.{BeginsWithOffers, IsWaresInput, OffersAs, WaresAre, offered}
use Rattle.nb_commands.proofs.Moving.{same_input, not_longer}
use Rattle.nb_run.proofs.Stocking.{not_failing, not_repeating, same_products}

module _ (left left' : Option (List ℕ)) (source source' links : ℕ) (outcome : Outcome) where
  -- offers and a shelf alone are sold with, or there was no memory
  pub offers_clean : (tariff : Tariff) (products : List Product) → OffersAs left left' source source' links outcome → IsWaresInput left tariff products → (Rose source source' → ⊥)
      → (outcome ≡ Work (Sell links products (Some tariff))) ⊎ EndsWith outcome OUT_OF_MEMORY
  offers_clean tariff products offers input no_source = by offers.0 offers.1 offers.2
    where
      same_bytes : (bytes : List ℕ) → TookAll left left' MAX_SHELF bytes → bytes ≡ input.input
      same_bytes bytes took = same_input left left' input.input bytes MAX_SHELF input.is took

      -- what stands at the front of what was read is what stands at the front of the input
      same_wares : (bytes : List ℕ) (found : Tariff) (goods : List ℕ) → TookAll left left' MAX_SHELF bytes → BeginsWithOffers bytes found goods → (found ≡ tariff) × (goods ≡ input.goods)
      same_wares bytes found goods took begins =
          one_offered input.input found tariff goods input.goods (subst (λ (bs : List ℕ). BeginsWithOffers bs found goods) (same_bytes bytes took) begins) input.offers

      by : (read : Result (Tariff × List Product) WaresEnd) → outcome ≡ offered links read → WaresAre left left' source source' read
          → (outcome ≡ Work (Sell links products (Some tariff))) ⊎ EndsWith outcome OUT_OF_MEMORY
      by (Ok wares) is reads =
          let same = same_wares reads.input wares.0 reads.shelf reads.all reads.offers in
          let stock : wares.1 ≡ products = same_products input.goods products input.shelf wares.1 (subst (λ (bs : List ℕ). IsCatalogue bs wares.1) same.1 reads.is) in
          inl (is ∙ (λ i. Work (Sell links (stock i) (Some (same.0 i)))))
      by (Err ends.ReadFault) is reads = absurd (no_source reads.0)
      by (Err ends.TooLong) is reads = absurd (not_longer left left' input.input MAX_SHELF input.is input.few reads)
      by (Err (ends.BadLine line)) is reads =
          absurd
          (none_bad input.input tariff input.goods line input.offers
          (subst (λ (bs : List ℕ). FaultIs IsEmptyLine bs (faults.BadLine line) ⊎ FaultIs IsEmptyLine bs (faults.Twice line)) (same_bytes reads.input reads.all) reads.bad))
      by (Err (ends.BadItem item)) is reads =
          let same = same_wares reads.input reads.tariff reads.shelf reads.all reads.offers in
          absurd (elim (subst (λ (bs : List ℕ). FailsAt bs item ⊎ ((id : ℕ) × RepeatsAt bs item id)) same.1 reads.bad) [
            | inl fails ↦ not_failing input.goods products input.shelf item fails
            | inr repeats ↦ not_repeating input.goods products input.shelf item repeats.0 repeats.1
          ])
      by (Err ends.NoMemory) is reads = inr (subst (λ (o : Outcome). EndsWith o OUT_OF_MEMORY) (sym is) refl)
