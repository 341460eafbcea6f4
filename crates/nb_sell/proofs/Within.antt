-- How many items the journal has behind what was kept on a link.
use Rattle.std.proofs.Common.{◌≡◌, ℕ, List, ◌++◌, map, sym, ap, subst, ◌∙◌, arith}
use Rattle.nb_port.specs.Tells.{DiskTells}
use Rattle.nb_journal.specs.declared.journal.Journal.{Journal}
use Rattle.nb_journal.specs.States.{AtRest}
use Rattle.nb_stall.specs.Spelling.{item_bytes}
use Rattle.nb_trade.proofs.Stopping.{grows_within}
use Rattle.nb_sell.specs.declared.ended.SellEnd.TheVariants as ends
use Rattle.nb_sell.specs.Run.{outset, kept}
use Rattle.nb_sell.specs.Sold.{Around, Sold}
use Rattle.nb_sell.specs.Laws.{KeepsWithin, FullIsFull}
use Rattle.nb_sell.proofs.NextTime.{last_journal}

module _ {D : Type 0} (tells : DiskTells D) where
  pub keeps_within : KeepsWithin tells
  keeps_within old new ends.Ended s front items rest = grows_within tells old.journal s.ended.stopped.mid.journal front items _ rest s.ended.stopped.served.went.journal
  keeps_within old new ends.ServerFault s front items rest = grows_within tells old.journal s.ended.stopped.mid.journal front items _ rest s.ended.stopped.served.went.journal
  keeps_within old new (ends.DiskFault before after) s front items rest = grows_within tells old.journal s.ended.mid.journal front items _ rest s.ended.served.went.journal
  keeps_within old new (ends.Full cap) s front items rest = grows_within tells old.journal s.ended.mid.journal front items _ rest s.ended.served.went.journal
  keeps_within old new ends.NoMemory s front items rest = grows_within tells old.journal s.ended.mid.journal front items _ rest s.ended.served.went.journal

  pub full_is_full : FullIsFull tells
  full_is_full old new cap s front items rest =
      let x = s.ended in
      let all : List (List ℕ) = items ++ map item_bytes (kept (outset old.shop) x.served.acts) in
      let there : AtRest tells front all x.mid.journal = x.served.went.journal.items front items rest in
      let same : new.journal ≡ x.mid.journal = s.last_is.journal ∙ x.loses.journal.0 in (
        subst (λ (j : Journal D). AtRest tells front all j) (sym same) there,
        omega (arith, there.count, x.mid.journal.counted, x.loses.journal.1, x.loses.journal.2),
        ap (λ (j : Journal D). j.cap) same ∙ x.served.went.journal.cap,
        x.loses.journal.1 ∙ x.served.went.journal.cap,
      )

  -- behind a link that ended it is at rest with some items more
  pub ended_holds : (old new : Around D) → Sold tells old new ends.Ended → (front : List ℕ) (items : List (List ℕ)) → AtRest tells front items old.journal
      → (more : List (List ℕ)) × AtRest tells front (items ++ more) new.journal × (new.journal.cap ≡ old.journal.cap)
  ended_holds old new s front items rest =
      let x = s.ended.stopped in
      let all : List (List ℕ) = items ++ map item_bytes (kept (outset old.shop) x.served.acts) in
      let same : new.journal ≡ x.mid.journal = last_journal tells old new s.last s.ended.why s.last_is x in (
        map item_bytes (kept (outset old.shop) x.served.acts),
        subst (λ (j : Journal D). AtRest tells front all j) (sym same) (x.served.went.journal.items front items rest),
        ap (λ (j : Journal D). j.cap) same ∙ x.served.went.journal.cap,
      )
