-- What a stop leaves of a journal that grew, and to which then an item was not kept, and how many items it has.
use Rattle.std.proofs.Common.{◌≡◌, inl, inr, ⊎_elim, ℕ, ◌+◌, List, [], ◌∷◌, ◌++◌, Err, length, take, sym, subst, ◌∙◌, ap, arith, append-nil, append_assoc, length-append}
use Rattle.std.proofs.lemmas.List.{take-append-le}
use Rattle.std.proofs.Math.Seq.{take-append-add}
use Rattle.nb_port.specs.Tells.{DiskTells}
use Rattle.nb_journal.specs.declared.journal.Journal.{Journal}
use Rattle.nb_journal.specs.Stands.{Stands, BeforeOrAfter}
use Rattle.nb_journal.specs.States.{AtRest}
use Rattle.nb_journal.specs.Growing.{StandsAmong, StopsIn, Grows}
use Rattle.nb_journal.proofs.Appending.{stands_now}
use Rattle.nb_journal.proofs.Growing.{stops_both}
use Rattle.nb_trade.specs.Keeping.{NotKept, Keeps, StopLeavesFirst, GrowsWithin}
use Rattle.nb_trade.specs.declared.lost.Lost.{Lost}
use Rattle.nb_trade.specs.declared.lost.Lost.TheVariants as lost

pub among_none : (front : List ℕ) (items kept : List (List ℕ)) (image : List ℕ) → Stands front items image → StandsAmong front items kept image
among_none front items kept image stands = (0, omega arith, subst (λ (xs : List (List ℕ)). Stands front xs image) (sym (append-nil items)) stands)

among_one : (front : List ℕ) (items : List (List ℕ)) (item image : List ℕ) → BeforeOrAfter front items item image → StandsAmong front items (item ∷ []) image
among_one front items item image either = ⊎_elim (λ stands. among_none front items (item ∷ []) image stands) (λ stands. (1, omega arith, stands)) either

among_first : (front : List ℕ) (items kept more : List (List ℕ)) (image : List ℕ) → StandsAmong front items kept image → StandsAmong front items (kept ++ more) image
among_first front items kept more image some = (
  some.0,
  omega (arith, some.1, length-append kept more),
  subst (λ (xs : List (List ℕ)). Stands front (items ++ xs) image) (sym (take-append-le some.0 kept more some.1)) some.2,
)

among_later : (front : List ℕ) (items kept more : List (List ℕ)) (image : List ℕ) → StandsAmong front (items ++ kept) more image → StandsAmong front items (kept ++ more) image
among_later front items kept more image some = (
  length kept + some.0,
  omega (arith, some.1, length-append kept more),
  subst (λ (xs : List (List ℕ)). Stands front xs image)
      (append_assoc items kept (take some.0 more) ∙ ap (λ (xs : List (List ℕ)). items ++ xs) (sym (take-append-add kept more some.0))) some.2,
)

module _ {D : Type 0} (tells : DiskTells D) where
  -- where nothing was done
  same_stops : (old new : Journal D) → new ≡ old → (front : List ℕ) (held items : List (List ℕ)) → StopsIn tells old.disk new.disk (StandsAmong front held items)
  same_stops old new is front held items =
      subst (λ (j : Journal D). StopsIn tells old.disk j.disk (StandsAmong front held items)) (sym is) (record { later = omega arith; since = λ t c le left. inl left })

  not_kept_stops : (old new : Journal D) (items : List (List ℕ)) (why : Lost) → NotKept tells old new items why → (front : List ℕ) (held : List (List ℕ)) → AtRest tells front held old
      → StopsIn tells old.disk new.disk (StandsAmong front held items)
  not_kept_stops old new items lost.NoMemory not front held rest = same_stops old new not front held items
  not_kept_stops old new items (lost.Full cap) not front held rest = same_stops old new not.0 front held items
  not_kept_stops old new items (lost.DiskFault before after) not front held rest =
      let item = not.3.0 in
      let stops = (not.3.2 front held rest).1 in
      subst (λ (xs : List (List ℕ)). StopsIn tells old.disk new.disk (StandsAmong front held xs)) (sym not.3.1)
      (record { later = stops.later; since = λ t c le left. ⊎_elim (λ past. inl past) (λ is. inr (among_one front held item c is)) (stops.since t c le left) })

  -- it grew, and then an item was not kept
  pub lost_stops : (old mid new : Journal D) (kept more : List (List ℕ)) (why : Lost) → Grows tells old mid kept → NotKept tells mid new more why → (front : List ℕ) (items : List (List ℕ)) → AtRest tells front items old
      → StopsIn tells old.disk new.disk (StandsAmong front items (kept ++ more))
  lost_stops old mid new kept more why grows not front items rest =
      stops_both tells old.disk mid.disk new.disk (StandsAmong front items kept) (StandsAmong front (items ++ kept) more) (StandsAmong front items (kept ++ more))
      (among_first front items kept more) (among_later front items kept more)
      (grows.stops front items rest)
      (not_kept_stops mid new more why not front (items ++ kept) (grows.items front items rest))

  -- the image of a stop since the first moment
  pub stops_leave : ((d : D) (c : List ℕ) → tells.left d (tells.moment d) c → tells.allowed d c) → (old new : Journal D) (front : List ℕ) (items kept : List (List ℕ)) → AtRest tells front items old
      → StopsIn tells old.disk new.disk (StandsAmong front items kept) → (image : List ℕ) → tells.left new.disk (tells.moment old.disk) image → StandsAmong front items kept image
  stops_leave only_now old new front items kept rest stops image left =
      ⊎_elim (λ past. among_none front items kept image (stands_now tells front items old rest image (only_now old.disk image past))) (λ is. is)
      (stops.since (tells.moment old.disk) image (omega arith) left)

  pub stop_leaves_first : ((d : D) (c : List ℕ) → tells.left d (tells.moment d) c → tells.allowed d c) → StopLeavesFirst tells
  stop_leaves_first only_now old mid new front items kept more why rest grows not image left =
      stops_leave only_now old new front items (kept ++ more) rest (lost_stops old mid new kept more why grows not front items rest) image left

  -- ---- why items were not kept

  pub not_kept : (old new : Journal D) (items : List (List ℕ)) (why : Lost) → Keeps tells old new items (Err why) → NotKept tells old new items why
  not_kept old new items lost.NoMemory keeps = absurd keeps
  not_kept old new items (lost.Full cap) keeps = keeps
  not_kept old new items (lost.DiskFault before after) keeps = keeps

  -- ---- its cap

  pub grows_within : GrowsWithin tells
  grows_within old new front items kept rest grows = omega (arith, (grows.items front items rest).count, new.counted, grows.cap)
