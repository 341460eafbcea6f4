-- A run, by its words.
use Rattle.std.proofs.Common.{◌≡◌, inl, inr, ℕ, List, Ok, Err, subst}
use Rattle.std.specs.Prelude.{Result}
use Rattle.nb_port.specs.Tells.{DiskTells}
use Rattle.nb_units.specs.declared.ids.PartyId.{PartyId}
use Rattle.nb_units.specs.declared.ids.Price.{Price}
use Rattle.nb_price.specs.Products.{Product}
use Rattle.nb_groups.specs.Offers.{Tariff}
use Rattle.nb_words.specs.declared.words.Command.{Command}
use Rattle.nb_words.specs.declared.words.Command.TheVariants.{Serve, Buy, BuyWith, Sell, SellOffers}
use Rattle.nb_words.proofs.Once.{one_command}
use Rattle.nb_commands.specs.declared.asking.RequestEnd.{RequestEnd}
use Rattle.nb_commands.specs.declared.ending.Job.{Job}
use Rattle.nb_commands.specs.declared.ending.Outcome.TheVariants.{Work}
use Rattle.nb_commands.specs.declared.offering.WaresEnd.{WaresEnd}
use Rattle.nb_commands.specs.declared.selling.ShelfEnd.{ShelfEnd}
use Rattle.nb_commands.specs.Asking.{RequestIs, asked}
use Rattle.nb_commands.specs.Offering.{WaresAre, offered}
use Rattle.nb_commands.specs.Selling.{ReadsAs, stocked}
use Rattle.nb_run.specs.Laws.{DoesAsAsked, Leaves, LeavesAsAsked}
use Rattle.nb_run.specs.Run.{Around, Does}

pub does_as_asked : {S K D C : Type 0} (tells : DiskTells D) → DoesAsAsked S K C tells
does_as_asked tells before after outcome words (inl did) command are = inl (subst (Does tells before after outcome) (one_command words did.0 command did.1 are) did.2)
does_as_asked tells before after outcome words (inr (inl none)) command are = absurd (none.0 (command, are))
does_as_asked tells before after outcome words (inr (inr unread)) command are = inr unread.1

same_job : (one other : Job) → Work one ≡ Work other → one ≡ other
same_job one other is = cc

module _ {S K D C : Type 0} (tells : DiskTells D) (before after : Around S K D C) (job : Job) where
  with_request : (m : PartyId) (p : ℕ) (l : Price) (t : ℕ) (read : Result (List ℕ) RequestEnd) → Work job ≡ asked m p l t read
      → RequestIs before.left after.left before.source_faults after.source_faults read → Leaves before after (BuyWith m p l t) job
  with_request m p l t (Ok request) is reads = (request, same_job _ _ is, reads)
  with_request m p l t (Err end) is reads = absurd cc

  with_shelf : (links : ℕ) (read : Result (List Product) ShelfEnd) → Work job ≡ stocked links read
      → ReadsAs before.left after.left before.source_faults after.source_faults read → Leaves before after (Sell links) job
  with_shelf links (Ok products) is reads = (products, same_job _ _ is, reads)
  with_shelf links (Err end) is reads = absurd cc

  with_wares : (links : ℕ) (read : Result (Tariff × List Product) WaresEnd) → Work job ≡ offered links read
      → WaresAre before.left after.left before.source_faults after.source_faults read → Leaves before after (SellOffers links) job
  with_wares links (Ok wares) is reads = (wares.0, wares.1, same_job _ _ is, reads)
  with_wares links (Err end) is reads = absurd cc

  -- of the other commands a run that did them is over
  left_by : (command : Command) → Does tells before after (Work job) command → Leaves before after command job
  left_by (Serve workers sessions) does = same_job _ _ does.0
  left_by (Buy m p l t) does = same_job _ _ does.0
  left_by (BuyWith m p l t) does = with_request m p l t does.came.0 does.came.1 does.came.2
  left_by (Sell links) does = with_shelf links does.came.0 does.came.1 does.came.2
  left_by (SellOffers links) does = with_wares links does.came.0 does.came.1 does.came.2
  left_by other does = absurd does.came

pub leaves_as_asked : {S K D C : Type 0} (tells : DiskTells D) → LeavesAsAsked S K C tells
leaves_as_asked tells before after job words (inl did) = (did.0, did.1, left_by tells before after job did.0 did.2)
leaves_as_asked tells before after job words (inr (inl none)) = absurd (let over = none.1 in cc)
leaves_as_asked tells before after job words (inr (inr unread)) = absurd (let over = unread.1.0 in cc)
