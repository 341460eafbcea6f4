-- A job that a run leaves has the numbers of a command.
use Rattle.std.proofs.Common.{ℕ, List, sym, subst, arith}
use Rattle.nb_port.specs.Tells.{DiskTells}
use Rattle.nb_commands.specs.declared.ending.Job.{Job}
use Rattle.nb_commands.specs.declared.ending.Outcome.TheVariants.{Work}
use Rattle.nb_words.specs.declared.words.Command.{Command}
use Rattle.nb_words.specs.declared.words.Command.TheVariants.{Serve, Buy, BuyWith, Sell, SellOffers}
use Rattle.nb_words.specs.Words.{Are}
use Rattle.nb_run.specs.Laws.{Leaves}
use Rattle.nb_run.specs.Run.{Around, Ran}
use Rattle.nb_run.proofs.Asked.{leaves_as_asked}
use Rattle.nb_platform.specs.Doing.{FitsWork}

module _ {S K D C : Type 0} (tells : DiskTells D) (before after : Around S K D C) (words : List (List ℕ)) (job : Job) where
  left_fits : (command : Command) → Are words command → Leaves before after command job → FitsWork job
  left_fits (Serve workers sessions) are left = subst FitsWork (sym left) are.5
  left_fits (Buy merchant product limit transaction) are left = subst FitsWork (sym left) (omega (arith))
  left_fits (BuyWith merchant product limit transaction) are left = subst FitsWork (sym left.1) left.2.few
  left_fits (Sell links) are left = subst FitsWork (sym left.1) tt
  left_fits (SellOffers links) are left = subst FitsWork (sym left.2) tt
  left_fits other are left = absurd left

  pub fits : Ran tells before after (Work job) words → FitsWork job
  fits ran =
      let left = leaves_as_asked tells before after job words ran in
      left_fits left.0 left.1 left.2
