-- A journal grows, and what a stop leaves meanwhile.
use Rattle.std.proofs.Common.{inl, inr, ⊎_elim, ℕ, ◌+◌, List, [], ◌∷◌, ◌++◌, length, take, refl, sym, subst, ◌∙◌, ap, arith, append-nil, length-append}
use Rattle.std.proofs.lemmas.List.{append_assoc, take-append-le}
use Rattle.std.proofs.Math.Seq.{take-append-add}
use Rattle.nb_port.specs.Tells.{DiskTells}
use Rattle.nb_journal.specs.declared.journal.Journal.{Journal}
use Rattle.nb_journal.specs.Stands.{Stands, BeforeOrAfter}
use Rattle.nb_journal.specs.States.{AtRest}
use Rattle.nb_journal.specs.Growing.{StandsAmong, StopsIn, Grows, RestMayAppend, AppendGrows, StaysGrows, GrowsTwice, GrowsToRest, StopLeavesSome}
use Rattle.nb_journal.proofs.Appending.{rest_gate, stands_now}

-- two parts, and what has P or Q has R
pub stops_both : {D : Type 0} (tells : DiskTells D) (old mid new : D) (P Q R : List ℕ → Type 0) → ((c : List ℕ) → P c → R c) → ((c : List ℕ) → Q c → R c)
    → StopsIn tells old mid P → StopsIn tells mid new Q → StopsIn tells old new R
stops_both tells old mid new P Q R here there first second = record {
  later = omega (arith, first.later, second.later);
  since = λ t c le left.
      ⊎_elim (λ before. ⊎_elim (λ far. inl far) (λ is. inr (here c is)) (first.since t c le before)) (λ is. inr (there c is))
      (second.since t c (omega (arith, le, first.later)) left);
}

-- none of those kept
among_none : (front : List ℕ) (items kept : List (List ℕ)) (image : List ℕ) → Stands front items image → StandsAmong front items kept image
among_none front items kept image stands = (0, omega arith, subst (λ (xs : List (List ℕ)). Stands front xs image) (sym (append-nil items)) stands)

-- one item, or none
among_one : (front : List ℕ) (items : List (List ℕ)) (item image : List ℕ) → BeforeOrAfter front items item image → StandsAmong front items (item ∷ []) image
among_one front items item image either = ⊎_elim (λ stands. among_none front items (item ∷ []) image stands) (λ stands. (1, omega arith, stands)) either

-- some of the first, and some of the later ones
among_first : (front : List ℕ) (items kept more : List (List ℕ)) (image : List ℕ) → StandsAmong front items kept image → StandsAmong front items (kept ++ more) image
among_first front items kept more image some = (
  some.0,
  omega (arith, some.1, length-append kept more),
  subst (λ (xs : List (List ℕ)). Stands front (items ++ xs) image) (sym (take-append-le some.0 kept more some.1)) some.2,
)

among_later : (front : List ℕ) (items kept more : List (List ℕ)) (image : List ℕ) → StandsAmong front (items ++ kept) more image → StandsAmong front items (kept ++ more) image
among_later front items kept more image some = (
  length kept + some.0,
  omega (arith, some.1, length-append kept more),
  subst (λ (xs : List (List ℕ)). Stands front xs image)
      (append_assoc items kept (take some.0 more) ∙ ap (λ (xs : List (List ℕ)). items ++ xs) (sym (take-append-add kept more some.0))) some.2,
)

module _ {D : Type 0} (tells : DiskTells D) where
  pub rest_may_append : RestMayAppend tells
  rest_may_append j is = (is.2.fresh, rest_gate tells is.0 is.1 j is.2)

  pub append_grows : AppendGrows tells
  append_grows old new item gives limits count leaves = record {
    items = gives;
    stops = λ front items rest.
        let all = leaves front items rest in
        record { later = all.later; since = λ t c le left. ⊎_elim (λ before. inl before) (λ is. inr (among_one front items item c is)) (all.before t c le left) };
    room = limits.1;
    cap = limits.0;
    count = count;
  }

  pub stays_grows : StaysGrows tells
  stays_grows old new same = subst (λ (j : Journal D). Grows tells old j []) (sym same) (record {
    items = λ front items rest. subst (λ (xs : List (List ℕ)). AtRest tells front xs old) (sym (append-nil items)) rest;
    stops = λ front items rest. record { later = omega arith; since = λ t c le left. inl left };
    room = refl;
    cap = refl;
    count = omega arith;
  })

  pub grows_twice : GrowsTwice tells
  grows_twice old mid new kept more first second = record {
    items = λ front items rest. subst (λ (xs : List (List ℕ)). AtRest tells front xs new) (append_assoc items kept more) (second.items front (items ++ kept) (first.items front items rest));
    stops = λ front items rest.
        stops_both tells old.disk mid.disk new.disk (StandsAmong front items kept) (StandsAmong front (items ++ kept) more) (StandsAmong front items (kept ++ more))
        (among_first front items kept more) (among_later front items kept more) (first.stops front items rest) (second.stops front (items ++ kept) (first.items front items rest));
    room = second.room ∙ first.room;
    cap = second.cap ∙ first.cap;
    count = omega (arith, first.count, second.count);
  }

  pub grows_to_rest : GrowsToRest tells
  grows_to_rest old new kept is grows = (is.0, is.1 ++ kept, grows.items is.0 is.1 is.2)

  -- what a disk that keeps its laws leaves
  pub stop_leaves_some : ((d : D) (c : List ℕ) → tells.left d (tells.moment d) c → tells.allowed d c) → StopLeavesSome tells
  stop_leaves_some only_now old new front items kept rest grows image left =
      ⊎_elim (λ before. among_none front items kept image (stands_now tells front items old rest image (only_now old.disk image before))) (λ is. is)
      ((grows.stops front items rest).since (tells.moment old.disk) image (omega arith) left)
