-- What holds of every run, by its words.
use Rattle.std.specs.Prelude.{◌≡◌, ℕ, ◌⊎◌, List, [], Option, Some, None}
use Rattle.nb_port.specs.Tells.{DiskTells}
use Rattle.nb_body.specs.declared.limits.TheConstants.{MAX_REQUEST}
use Rattle.nb_price.specs.Products.{Product}
use Rattle.nb_groups.specs.Offers.{Tariff}
use Rattle.nb_words.specs.declared.words.Command.{Command}
use Rattle.nb_words.specs.declared.words.Command.TheVariants.{Serve, Buy, BuyWith, Sell, SellOffers}
use Rattle.nb_words.specs.Words.{Are}
use Rattle.nb_commands.specs.declared.ending.Job.{Job}
use Rattle.nb_commands.specs.declared.ending.Job.TheVariants as jobs
use Rattle.nb_commands.specs.declared.ending.Outcome.{Outcome}
use Rattle.nb_commands.specs.declared.ending.Outcome.TheVariants.{Work}
use Rattle.nb_commands.specs.Input.{TookAll}
use Rattle.nb_commands.specs.Offering.{AreWares}
use Rattle.nb_commands.specs.Selling.{IsStock}
use Rattle.nb_run.specs.Run.{Around, Does, IsUnbegun, Ran}

-- whatever command the words are, it was done, or there was no memory to read them
abbrev pub DoesAsAsked : (S K : Type 0) {D : Type 0} (C : Type 0) → DiskTells D → Type 0
DoesAsAsked S K {D} C tells =
    (before after : Around S K D C) (outcome : Outcome) (words : List (List ℕ)) → Ran tells before after outcome words
    → (command : Command) → Are words command → Does tells before after outcome command ⊎ IsUnbegun before after outcome

-- the command leaves this job to do, with what was read of the input, where it takes any; the others leave none
abbrev pub Leaves : {S K D C : Type 0} → Around S K D C → Around S K D C → Command → Job → Type 0
Leaves before after (Serve workers sessions) job = job ≡ jobs.Serve workers sessions
Leaves before after (Buy merchant product limit transaction) job = job ≡ jobs.Buy merchant product limit transaction []
Leaves before after (BuyWith merchant product limit transaction) job =
    (request : List ℕ) × (job ≡ jobs.Buy merchant product limit transaction request) × TookAll before.left after.left MAX_REQUEST request
Leaves before after (Sell links) job = (products : List Product) × (job ≡ jobs.Sell links products None) × IsStock before.left after.left products
Leaves before after (SellOffers links) job =
    (tariff : Tariff) × (products : List Product) × (job ≡ jobs.Sell links products (Some tariff)) × AreWares before.left after.left tariff products
Leaves before after other job = ⊥

-- a job is left at the words alone of a command that leaves it
abbrev pub LeavesAsAsked : (S K : Type 0) {D : Type 0} (C : Type 0) → DiskTells D → Type 0
LeavesAsAsked S K {D} C tells =
    (before after : Around S K D C) (job : Job) (words : List (List ℕ)) → Ran tells before after (Work job) words
    → (command : Command) × Are words command × Leaves before after command job
