-- A job that is left never ends with the status of words that are none.
use Rattle.std.proofs.Common.{◌≡◌, inl, inr, ℕ, List, Option, subst, arith}
use Rattle.nb_port.specs.Tells.{DiskTells}
use Rattle.nb_turns.specs.declared.line.Line.{Line}
use Rattle.nb_journal.specs.declared.opening.OpenFault.{OpenFault}
use Rattle.nb_journal.specs.declared.opening.OpenFault.TheVariants as opens
use Rattle.nb_vault.specs.declared.vault.opening.VaultFault.{VaultFault}
use Rattle.nb_vault.specs.declared.vault.opening.VaultFault.TheVariants as vaults
use Rattle.nb_link.specs.Link.{LinkSeen}
use Rattle.nb_server.specs.declared.worker.WorkerEnd.{WorkerEnd}
use Rattle.nb_buy.specs.declared.ended.BuyEnd.{BuyEnd}
use Rattle.nb_buy.specs.declared.ended.BuyEnd.TheVariants as buys
use Rattle.nb_buy.specs.declared.ended.Lost.TheVariants as lost
use Rattle.nb_commands.specs.declared.ending.Ending.{Ending}
use Rattle.nb_commands.specs.declared.ending.Job.{Job}
use Rattle.nb_commands.specs.declared.ending.Job.TheVariants.{Serve, Buy, Sell}
use Rattle.nb_commands.specs.declared.ending.TheConstants.{BAD_WORDS}
use Rattle.nb_commands.specs.Ending.{at_no_place}
use Rattle.nb_commands.specs.Opening.{unopened}
use Rattle.nb_work.specs.declared.selling.Stop.{Stop}
use Rattle.nb_work.specs.declared.selling.Stop.TheVariants as stops
use Rattle.nb_work.specs.declared.working.Dials.{Dials}
use Rattle.nb_work.specs.Buying.{not_opened}
use Rattle.nb_work.specs.Buying as buying
use Rattle.nb_work.specs.Selling as selling
use Rattle.nb_work.specs.Work.{WorksAs, workers_seen}
use Rattle.nb_platform.specs.Doing.{ComesTo, ToldWorker}

-- it ends with that status
abbrev pub IsBad : Ending → Type 0
IsBad ending = ending.status ≡ BAD_WORDS

of_vault : (fault : VaultFault) → IsBad (unopened fault) → ⊥
of_vault (vaults.Unborn found) bad = omega (arith, bad)
of_vault (vaults.Damaged item place) bad = omega (arith, bad)
of_vault (vaults.BadEntry item) bad = omega (arith, bad)
of_vault (vaults.DiskFault before after) bad = omega (arith, bad)
of_vault vaults.NoMemory bad = omega (arith, bad)

of_journal : (fault : OpenFault) → IsBad (not_opened fault) → ⊥
of_journal (opens.Unborn found) bad = omega (arith, bad)
of_journal (opens.Damaged item place) bad = omega (arith, bad)
of_journal (opens.DiskFault before after) bad = omega (arith, bad)
of_journal opens.NoMemory bad = omega (arith, bad)

of_purchase : (end : BuyEnd) → IsBad (at_no_place (buying.status_of end)) → ⊥
of_purchase buys.Paid bad = omega (arith, bad)
of_purchase buys.Unpaid bad = omega (arith, bad)
of_purchase buys.SinkFault bad = omega (arith, bad)
of_purchase (buys.Stopped peer why) bad = omega (arith, bad)
of_purchase buys.Spent bad = omega (arith, bad)
of_purchase (buys.Lost lost.NoMemory) bad = omega (arith, bad)
of_purchase (buys.Lost (lost.Full cap)) bad = omega (arith, bad)
of_purchase (buys.Lost (lost.DiskFault before after)) bad = omega (arith, bad)

of_sales : (stop : Stop) → IsBad (at_no_place (selling.status_of stop)) → ⊥
of_sales stops.Closed bad = omega (arith, bad)
of_sales stops.PortFault bad = omega (arith, bad)
of_sales stops.ServerFault bad = omega (arith, bad)
of_sales stops.DiskFault bad = omega (arith, bad)
of_sales stops.Full bad = omega (arith, bad)
of_sales stops.NoMemory bad = omega (arith, bad)

module _ {D : Type 0} (tells : DiskTells D) (old new : D) (sent sent' : Option (List ℕ)) (faults faults' : ℕ) (ending : Ending) (bad : IsBad ending) where
  worked : (job : Job) (before after : List ToldWorker) (dials dials' : Dials LinkSeen) (lines : List Line) (ends : List WorkerEnd)
      → WorksAs tells (workers_seen (λ port. port) (λ moments. moments)) (λ link. link) job old new before after dials dials' sent sent' faults faults' lines ends ending → ⊥
  worked (Serve workers sessions) before after dials dials' lines ends works = elim works.0 [
    | inl none ↦ of_vault none.0 (subst IsBad none.1 bad)
    | inr (inl idle) ↦ omega (arith, subst IsBad idle.0 bad)
    | inr (inr all) ↦ elim all.1 [
      | inl failed ↦ omega (arith, subst IsBad failed.1 bad)
      | inr (inl starved) ↦ omega (arith, subst IsBad starved.2 bad)
      | inr (inr closed) ↦ omega (arith, subst IsBad closed.1 bad)
    ]
  ]
  worked (Buy merchant product limit transaction request) before after dials dials' lines ends works = elim works.0.6 [
    | inl none ↦ of_journal none.0 (subst IsBad none.1 bad)
    | inr (inl other) ↦ omega (arith, subst IsBad other.1 bad)
    | inr (inr (inl starved)) ↦ omega (arith, subst IsBad starved.0 bad)
    | inr (inr (inr bought)) ↦ of_purchase bought.0 (subst IsBad bought.1 bad)
  ]
  worked (Sell links shelf offers) before after dials dials' lines ends works = elim works.0.8 [
    | inl none ↦ of_journal none.0 (subst IsBad none.1 bad)
    | inr (inl other) ↦ omega (arith, subst IsBad other.1 bad)
    | inr (inr (inl starved)) ↦ omega (arith, subst IsBad starved.0 bad)
    | inr (inr (inr sold)) ↦ of_sales sold.0 (subst IsBad sold.1 bad)
  ]

  pub job_ends : (job : Job) → ComesTo tells job old new sent sent' faults faults' ending → ⊥
  job_ends job comes = elim comes [
    | inl none ↦ elim none.0 [ inl e ↦ omega (arith, subst IsBad e bad) | inr e ↦ omega (arith, subst IsBad e bad) ]
    | inr is ↦ worked job is.before is.after is.dials is.dials' is.lines is.ends is.works
  ]
