-- A wallet goes on next time: what a stop leaves, and what starts again with it.
use Rattle.std.proofs.Common.{◌≡◌, ◌⊎◌, inl, inr, ⊎_elim, ℕ, zero, suc, ◌+◌, ◌-◌, ◌≤◌, List, [], ◌∷◌, ◌++◌, length, take, Option, Some, None, Result, Ok, Err, refl, sym, ap, subst, ◌∙◌, append_assoc, append-nil, length-append, arith}
use Rattle.std.specs.Prelude.{IfOk}
use Rattle.std.proofs.lemmas.List.{take-append-le}
use Rattle.std.proofs.Math.Seq.{take-append-add}
use Rattle.nb_port.specs.Tells.{DiskTells}
use Rattle.nb_journal.specs.declared.journal.Journal.{Journal}
use Rattle.nb_journal.specs.Stands.{Stands, BeforeOrAfter}
use Rattle.nb_journal.specs.States.{AtRest}
use Rattle.nb_journal.specs.Growing.{StandsAmong, StopsIn}
use Rattle.nb_journal.proofs.Growing.{stops_both}
use Rattle.nb_journal.proofs.Appending.{stands_now}
use Rattle.nb_msgs.specs.Reading.{message_of}
use Rattle.nb_msgs.specs.declared.message.Message.{Message}
use Rattle.nb_msgs.specs.declared.node.Reason.{Reason}
use Rattle.nb_msgs.specs.declared.node.Step.{Step}
use Rattle.nb_msgs.specs.declared.node.Step.TheVariants as step
use Rattle.nb_wallet.specs.declared.wallet.Start.{Start}
use Rattle.nb_wallet.specs.declared.wallet.Wallet.{Wallet}
use Rattle.nb_wallet.specs.declared.item.Item.TheVariants as item
use Rattle.nb_wallet.specs.Purchases.{Purchase}
use Rattle.nb_consumer.specs.declared.deed.Deed.{Deed}
use Rattle.nb_consumer.specs.declared.deed.Deed.TheVariants as deed
use Rattle.nb_consumer.specs.declared.phase.Phase.{Phase}
use Rattle.nb_consumer.specs.declared.phase.Phase.TheVariants as phase
use Rattle.nb_consumer.specs.State.{Buyer, purchase_of}
use Rattle.nb_consumer.specs.Table.{step_of, after}
use Rattle.nb_consumer.specs.Deeds.{DeedIsSpelled}
use Rattle.nb_consumer.specs.Goods.{IsOpen, HasEnded, phase_in, goods_in}
use Rattle.nb_consumer.specs.Restart.{Kept, untold, restarted}
use Rattle.nb_msgs.specs.Steps.{kept_in}
use Rattle.nb_consumer.specs.Runs.{Call, row_of}
use Rattle.nb_consumer.specs.Runs as calls
use Rattle.nb_consumer.proofs.Restoring.{keeps_restarting, same_wallet}
use Rattle.nb_consumer.proofs.Staying.{ended_stays}
use Rattle.nb_buy.specs.declared.peer.Peer.{Peer}
use Rattle.nb_buy.specs.declared.ended.Lost.{Lost}
use Rattle.nb_buy.specs.declared.ended.Lost.TheVariants as lost
use Rattle.nb_buy.specs.declared.ended.BuyEnd.{BuyEnd}
use Rattle.nb_buy.specs.declared.ended.BuyEnd.TheVariants as ends
use Rattle.nb_buy.specs.Run.{Act, Starts, Hears, Waits, heard_as, frame_row, act_row, step_at, buyer_behind, kept_by, AreSpelled, phase_for, outset, Obeys}
use Rattle.nb_buy.specs.Bought.{Point, Around, Bought, Went, NotKept, Traded, TradeLost, EndsAt, first_point}
use Rattle.nb_buy.specs.Laws.{acts_at, acts_of, StopLeavesFirst, GoesOn, GoesOnNextTime, IsEndOfOver, OverDoesNothing, PaidAgain}
use Rattle.nb_buy.proofs.HowFar.{over_apart}
use Rattle.nb_buy.proofs.Runs.{kept_both, spelled_both}

-- ---- items with the first of some more

among_none : (front : List ℕ) (items kept : List (List ℕ)) (image : List ℕ) → Stands front items image → StandsAmong front items kept image
among_none front items kept image stands = (0, omega arith, subst (λ (xs : List (List ℕ)). Stands front xs image) (sym (append-nil items)) stands)

among_one : (front : List ℕ) (items : List (List ℕ)) (item image : List ℕ) → BeforeOrAfter front items item image → StandsAmong front items (item ∷ []) image
among_one front items item image either = ⊎_elim (λ stands. among_none front items (item ∷ []) image stands) (λ stands. (1, omega arith, stands)) either

among_first : (front : List ℕ) (items kept more : List (List ℕ)) (image : List ℕ) → StandsAmong front items kept image → StandsAmong front items (kept ++ more) image
among_first front items kept more image some = (
  some.0,
  omega (arith, some.1, length-append kept more),
  subst (λ (xs : List (List ℕ)). Stands front (items ++ xs) image) (sym (take-append-le some.0 kept more some.1)) some.2,
)

among_later : (front : List ℕ) (items kept more : List (List ℕ)) (image : List ℕ) → StandsAmong front (items ++ kept) more image → StandsAmong front items (kept ++ more) image
among_later front items kept more image some = (
  length kept + some.0,
  omega (arith, some.1, length-append kept more),
  subst (λ (xs : List (List ℕ)). Stands front xs image)
      (append_assoc items kept (take some.0 more) ∙ ap (λ (xs : List (List ℕ)). items ++ xs) (sym (take-append-add kept more some.0))) some.2,
)

-- ---- what a stop leaves

module _ {D : Type 0} (tells : DiskTells D) (s : Start) where
  not_kept : (old new : Journal D) (items : List (List ℕ)) (why : Lost) → NotKept tells old new items why → (front : List ℕ) (held : List (List ℕ)) → AtRest tells front held old
      → StopsIn tells old.disk new.disk (StandsAmong front held items)
  not_kept old new items lost.NoMemory lost front held rest = same old new lost front held items
    where
      same : (old new : Journal D) → new ≡ old → (front : List ℕ) (held items : List (List ℕ)) → StopsIn tells old.disk new.disk (StandsAmong front held items)
      same old new is front held items = subst (λ (j : Journal D). StopsIn tells old.disk j.disk (StandsAmong front held items)) (sym is) (record { later = omega arith; since = λ t c le left. inl left })
  not_kept old new items (lost.Full cap) lost front held rest = subst (λ (j : Journal D). StopsIn tells old.disk j.disk (StandsAmong front held items)) (sym lost.0) (record { later = omega arith; since = λ t c le left. inl left })
  not_kept old new items (lost.DiskFault before after) lost front held rest =
      let item = lost.3.0 in
      let stops = (lost.3.2 front held rest).1 in
      subst (λ (xs : List (List ℕ)). StopsIn tells old.disk new.disk (StandsAmong front held xs)) (sym lost.3.1)
      (record { later = stops.later; since = λ t c le left. ⊎_elim (λ past. inl past) (λ is. inr (among_one front held item c is)) (stops.since t c le left) })

  went_stops : (p q : Point D) (acts : List Act) → Went tells s p q acts → (front : List ℕ) (items : List (List ℕ)) → AtRest tells front items p.journal
      → StopsIn tells p.journal.disk q.journal.disk (StandsAmong front items (kept_by s p.buyer acts))
  went_stops p q acts went front items rest = went.journal.stops front items rest

  lost_stops : (p q : Point D) (why : Lost) (t : TradeLost tells s p q why) (front : List ℕ) (items : List (List ℕ)) → AtRest tells front items p.journal
      → StopsIn tells p.journal.disk q.journal.disk (StandsAmong front items (kept_by s p.buyer (t.traded.acts ++ t.last)))
  lost_stops p q why t front items rest =
      let kept = kept_by s p.buyer t.traded.acts in
      let more = kept_by s t.mid.buyer t.last in
      let all : kept_by s p.buyer (t.traded.acts ++ t.last) ≡ kept ++ more =
      kept_both s p.buyer t.traded.acts t.last ∙ ap (λ (b : Buyer). kept ++ kept_by s b t.last) (sym t.traded.went.buyer) in
      subst (λ (xs : List (List ℕ)). StopsIn tells p.journal.disk q.journal.disk (StandsAmong front items xs)) (sym all)
      (stops_both tells p.journal.disk t.mid.journal.disk q.journal.disk (StandsAmong front items kept) (StandsAmong front (items ++ kept) more) (StandsAmong front items (kept ++ more))
      (among_first front items kept more) (among_later front items kept more)
      (went_stops p t.mid t.traded.acts t.traded.went front items rest)
      (not_kept t.mid.journal q.journal more why t.loses.journal front (items ++ kept) (t.traded.went.journal.items front items rest)))

  stops_at : (p q : Point D) (end : BuyEnd) (e : EndsAt tells s p q end) (front : List ℕ) (items : List (List ℕ)) → AtRest tells front items p.journal
      → StopsIn tells p.journal.disk q.journal.disk (StandsAmong front items (kept_by s p.buyer (acts_at tells s p q end e)))
  stops_at p q ends.Paid e front items rest = went_stops p q e.traded.acts e.traded.went front items rest
  stops_at p q ends.Unpaid e front items rest = went_stops p q e.traded.acts e.traded.went front items rest
  stops_at p q ends.SinkFault e front items rest = went_stops p q e.traded.acts e.traded.went front items rest
  stops_at p q (ends.Stopped peer why) e front items rest = went_stops p q e.traded.acts e.traded.went front items rest
  stops_at p q ends.Spent e front items rest = went_stops p q e.traded.acts e.traded.went front items rest
  stops_at p q (ends.Lost why) e front items rest = lost_stops p q why e front items rest

pub stop_leaves_first : {D : Type 0} (tells : DiskTells D) → ((d : D) (c : List ℕ) → tells.left d (tells.moment d) c → tells.allowed d c) → StopLeavesFirst tells
stop_leaves_first tells only_now s old new end b front items rest image left =
    let stops = stops_at tells s (first_point old) b.last end b.ended front items rest in
    ⊎_elim (λ past. among_none front items (kept_by s old.buyer (acts_of tells s old new end b)) image (stands_now tells front items old.journal rest image (only_now old.journal.disk image past))) (λ is. is)
    (stops.since (tells.moment old.journal.disk) image (omega arith) (subst (λ (j : Journal _). tells.left j.disk (tells.moment old.journal.disk) image) b.last_is.journal left))

-- ---- what starts again with it

call_kept : (b : Buyer) (call : Call) (items : List (List ℕ)) → IfOk (row_of b call) DeedIsSpelled → Kept items b → Kept (items ++ kept_in (step_of (row_of b call))) (after b (row_of b call))
call_kept b call items spelled kept =
    keeps_restarting b (after b (row_of b call)) call (Ok (step_of (row_of b call))) items (record { told = refl; after = refl; spelled = spelled; err = tt }) kept

heard_kept : (b : Buyer) (read : Result Message ℕ) (items : List (List ℕ)) → IfOk (heard_as b read) DeedIsSpelled → Kept items b
    → Kept (items ++ kept_in (step_of (heard_as b read))) (after b (heard_as b read))
heard_kept b (Ok message) items spelled kept = call_kept b (calls.Hears message) items spelled kept
heard_kept b (Err place) items spelled kept = subst (λ (xs : List (List ℕ)). Kept xs b) (sym (append-nil items)) kept

act_kept : (s : Start) (b : Buyer) (a : Act) (items : List (List ℕ)) → IfOk (act_row s b a) DeedIsSpelled → Kept items b → Kept (items ++ kept_in (step_at s b a)) (after b (act_row s b a))
unfolding frame_row
act_kept s b Starts items spelled kept = call_kept b (calls.Starts s) items spelled kept
act_kept s b (Hears from f) items spelled kept = heard_kept b (message_of f.kind f.body) items spelled kept
act_kept s b Waits items spelled kept = call_kept b (calls.Waits s.transaction) items spelled kept

-- the first acts that keep the first n items, and the consumer behind them
record Behind (s : Start) (b : Buyer) (items : List (List ℕ)) (acts : List Act) (n : ℕ) : Type 0 where
  k : ℕ
  within : k ≤ length acts
  is : take n (kept_by s b acts) ≡ kept_by s b (take k acts)
  kept : Kept (items ++ kept_by s b (take k acts)) (buyer_behind s b (take k acts))

one_kept : (st : Step) → length (kept_in st) ≤ 1
one_kept (step.Move (Some item) whom sent) = omega arith
one_kept (step.Move None whom sent) = omega arith
one_kept (step.Ended item end) = omega arith
one_kept (step.Ignored why) = omega arith

behind_first : (s : Start) (b : Buyer) (items : List (List ℕ)) (acts : List Act) (n : ℕ) → Kept items b → AreSpelled s b acts → n ≤ length (kept_by s b acts) → Behind s b items acts n
behind_first s b items [] n kept spelled le = record {
  k = 0;
  within = omega arith;
  is = none n;
  kept = subst (λ (xs : List (List ℕ)). Kept xs b) (sym (append-nil items)) kept;
}
  where
    none : (m : ℕ) → take m (kept_by s b []) ≡ []
    none zero = refl
    none (suc m) = refl
behind_first s b items (a ∷ acts) zero kept spelled le = record {
  k = 0;
  within = omega arith;
  is = refl;
  kept = subst (λ (xs : List (List ℕ)). Kept xs b) (sym (append-nil items)) kept;
}
behind_first s b items (a ∷ acts) (suc n) kept spelled le =
    let one = kept_in (step_at s b a) in
    let c = after b (act_row s b a) in
    let rest = kept_by s c acts in
    let m = suc n - length one in
    let most : length one ≤ suc n = omega (arith, one_kept (step_at s b a)) in
    let r = behind_first s c (items ++ one) acts m (act_kept s b a items spelled.0 kept) spelled.1 (omega (arith, le, most, length-append one rest)) in
    record {
      k = suc r.k;
      within = omega (arith, r.within);
      is = ap (λ (k : ℕ). take k (one ++ rest)) (sum (suc n) (length one) most) ∙ take-append-add one rest m ∙ ap (λ (xs : List (List ℕ)). one ++ xs) r.is;
      kept = subst (λ (xs : List (List ℕ)). Kept xs (buyer_behind s c (take r.k acts))) (append_assoc items one (kept_by s c (take r.k acts))) r.kept;
    }
  where
    sum : (m k : ℕ) → k ≤ m → m ≡ k + (m - k)
    sum m k le = omega (arith, le)

-- ---- the wallet

wallet_stays : (b : Buyer) (row : Result Deed Reason) → (after b row).wallet ≡ b.wallet
wallet_stays b (Err why) = refl
wallet_stays b (Ok (deed.Sends whom sent)) = refl
wallet_stays b (Ok (deed.Hears t place whom sent)) = refl
wallet_stays b (Ok (deed.Keeps x whom sent)) = same_wallet b x
wallet_stays b (Ok (deed.Ends t r end)) = same_wallet b (item.Ended t r)

wallet_behind : (s : Start) (b : Buyer) (acts : List Act) → (buyer_behind s b acts).wallet ≡ b.wallet
wallet_behind s b [] = refl
wallet_behind s b (a ∷ acts) = wallet_behind s (after b (act_row s b a)) acts ∙ wallet_stays b (act_row s b a)

spelled_goes_on : (s : Start) (b : Buyer) (items : List (List ℕ)) (acts : List Act) (front image : List ℕ) → Kept items b → AreSpelled s b acts → StandsAmong front items (kept_by s b acts) image
    → GoesOn s b items acts front image
spelled_goes_on s b items acts front image kept spelled some =
    let r = behind_first s b items acts some.0 kept spelled some.1 in
    record {
      k = r.k;
      within = r.within;
      stands = subst (λ (xs : List (List ℕ)). Stands front (items ++ xs) image) r.is some.2;
      again = ap (λ (w : Wallet). restarted w (items ++ kept_by s b (take r.k acts))) (sym (wallet_behind s b (take r.k acts))) ∙ r.kept;
    }

-- with an act more, of which nothing was kept
goes_on_more : (s : Start) (b : Buyer) (items : List (List ℕ)) (acts more : List Act) (front image : List ℕ) → GoesOn s b items acts front image → GoesOn s b items (acts ++ more) front image
goes_on_more s b items acts more front image g =
    let same : take g.k (acts ++ more) ≡ take g.k acts = take-append-le g.k acts more g.within in
    record {
      k = g.k;
      within = omega (arith, g.within, length-append acts more);
      stands = subst (λ (done : List Act). Stands front (items ++ kept_by s b done) image) (sym same) g.stands;
      again = subst (λ (done : List Act). restarted b.wallet (items ++ kept_by s b done) ≡ Ok (untold (buyer_behind s b done))) (sym same) g.again;
    }

-- what stands for the items alone is that behind no act
goes_on_none : (s : Start) (b : Buyer) (items : List (List ℕ)) (acts : List Act) (front image : List ℕ) → Kept items b → Stands front items image → GoesOn s b items acts front image
goes_on_none s b items acts front image kept stands = record {
  k = 0;
  within = omega arith;
  stands = subst (λ (xs : List (List ℕ)). Stands front xs image) (sym (append-nil items)) stands;
  again = ap (restarted b.wallet) (append-nil items) ∙ kept;
}

module _ {D : Type 0} (tells : DiskTells D) (s : Start) (front : List ℕ) (items : List (List ℕ)) where
  -- an image of a stop since this moment was left by a stop before the purchase, or goes on behind the first of these acts
  abbrev Either : Point D → Point D → List Act → Type 0
  Either p q acts = (t : ℕ) (image : List ℕ) → t ≤ tells.moment p.journal.disk → tells.left q.journal.disk t image → tells.left p.journal.disk t image ⊎ GoesOn s p.buyer items acts front image

  went_goes_on : (p q : Point D) (acts : List Act) → Went tells s p q acts → AtRest tells front items p.journal → Kept items p.buyer → Either p q acts
  went_goes_on p q acts went rest kept t image le left =
      ⊎_elim (λ past. inl past) (λ some. inr (spelled_goes_on s p.buyer items acts front image kept went.spelled some))
      ((went_stops tells s p q acts went front items rest).since t image le left)

  -- where the journal is as it was behind the last act
  same_goes_on : (p q : Point D) (why : Lost) (x : TradeLost tells s p q why) → q.journal ≡ x.mid.journal → AtRest tells front items p.journal → Kept items p.buyer → Either p q (x.traded.acts ++ x.last)
  same_goes_on p q why x same rest kept t image le left =
      ⊎_elim (λ past. inl past) (λ on. inr (goes_on_more s p.buyer items x.traded.acts x.last front image on))
      (went_goes_on p x.mid x.traded.acts x.traded.went rest kept t image le (subst (λ (j : Journal D). tells.left j.disk t image) same left))

  lost_goes_on : (p q : Point D) (why : Lost) (x : TradeLost tells s p q why) → AtRest tells front items p.journal → Kept items p.buyer → Either p q (x.traded.acts ++ x.last)
  lost_goes_on p q lost.NoMemory x rest kept t image le left = same_goes_on p q lost.NoMemory x x.loses.journal rest kept t image le left
  lost_goes_on p q (lost.Full n) x rest kept t image le left = same_goes_on p q (lost.Full n) x x.loses.journal.0 rest kept t image le left
  lost_goes_on p q (lost.DiskFault m n) x rest kept t image le left =
      ⊎_elim (λ past. inl past)
      (λ some. inr (spelled_goes_on s p.buyer items (x.traded.acts ++ x.last) front image kept
      (spelled_both s p.buyer x.traded.acts x.last x.traded.went.spelled (subst (λ (b : Buyer). AreSpelled s b x.last) x.traded.went.buyer x.loses.buyer.1)) some))
      ((lost_stops tells s p q (lost.DiskFault m n) x front items rest).since t image le left)

  goes_on_at : (p q : Point D) (end : BuyEnd) (e : EndsAt tells s p q end) → AtRest tells front items p.journal → Kept items p.buyer → Either p q (acts_at tells s p q end e)
  goes_on_at p q ends.Paid e = went_goes_on p q e.traded.acts e.traded.went
  goes_on_at p q ends.Unpaid e = went_goes_on p q e.traded.acts e.traded.went
  goes_on_at p q ends.SinkFault e = went_goes_on p q e.traded.acts e.traded.went
  goes_on_at p q (ends.Stopped peer why) e = went_goes_on p q e.traded.acts e.traded.went
  goes_on_at p q ends.Spent e = went_goes_on p q e.traded.acts e.traded.went
  goes_on_at p q (ends.Lost why) e = lost_goes_on p q why e

-- what a stop since any moment up to the start of a purchase leaves
pub goes_on_since : {D : Type 0} (tells : DiskTells D) (s : Start) (old new : Around D) (end : BuyEnd) (b : Bought tells s old new end) (front : List ℕ) (items : List (List ℕ)) → AtRest tells front items old.journal
    → Kept items old.buyer → (t : ℕ) (image : List ℕ) → t ≤ tells.moment old.journal.disk → tells.left new.journal.disk t image
    → tells.left old.journal.disk t image ⊎ GoesOn s old.buyer items (acts_of tells s old new end b) front image
goes_on_since {D} tells s old new end b front items rest kept t image le left =
    goes_on_at tells s front items (first_point old) b.last end b.ended rest kept t image le (subst (λ (j : Journal D). tells.left j.disk t image) b.last_is.journal left)

pub goes_on_next_time : {D : Type 0} (tells : DiskTells D) → ((d : D) (c : List ℕ) → tells.left d (tells.moment d) c → tells.allowed d c) → GoesOnNextTime tells
goes_on_next_time {D} tells only_now s old new end b front items rest kept image left =
    ⊎_elim
    (λ past. goes_on_none s old.buyer items (acts_of tells s old new end b) front image kept (stands_now tells front items old.journal rest image (only_now old.journal.disk image past)))
    (λ on. on)
    (goes_on_since tells s old new end b front items rest kept (tells.moment old.journal.disk) image (omega arith) left)

-- ---- a purchase that is over

-- no act may come
no_act : (s : Start) (b : Buyer) (acts : List Act) → HasEnded (phase_for s b) → Obeys s b outset acts → acts ≡ []
no_act s b [] over obeys = refl
no_act s b (Starts ∷ acts) over obeys = absurd (subst HasEnded obeys.0.1 over)
no_act s b (Hears from f ∷ acts) over obeys = absurd (apart obeys.0.0)
  where
    apart : ◌≡◌ {A = Option Peer} None (Some from) → ⊥
    apart e = cc
no_act s b (Waits ∷ acts) over obeys = absurd (over_apart (phase_for s b) over obeys.0)

module _ {D : Type 0} (tells : DiskTells D) (s : Start) where
  still : (p q : Point D) (t : Traded tells s p q) → HasEnded (phase_for s p.buyer) → (t.acts ≡ []) × (q.buyer ≡ p.buyer)
  still p q t over =
      let none = no_act s p.buyer t.acts over t.obeys in
      (none, t.went.buyer ∙ ap (buyer_behind s p.buyer) none)

  still_open : (p q : Point D) (t : Traded tells s p q) → HasEnded (phase_for s p.buyer) → IsOpen (phase_for s q.buyer) → ⊥
  still_open p q t over going = over_apart (phase_for s p.buyer) over (subst (λ (b : Buyer). IsOpen (phase_for s b)) (still p q t over).1 going)

  both_none : (xs ys : List Act) → xs ++ ys ≡ [] → (xs ≡ []) × (ys ≡ [])
  both_none [] ys e = (refl, e)
  both_none (x ∷ xs) ys e = absurd cc

  no_item : {x : List ℕ} → [] ≡ x ∷ [] → ⊥
  no_item e = cc

  lost_over : (p q : Point D) (why : Lost) (t : TradeLost tells s p q why) → HasEnded (phase_for s p.buyer) → IsEndOfOver (ends.Lost why) × (t.traded.acts ++ t.last ≡ []) × (q.buyer ≡ p.buyer)
  lost_over p q why t over =
      let none = no_act s p.buyer (t.traded.acts ++ t.last) over t.obeys in
      let each = both_none t.traded.acts t.last none in
      let before : t.mid.buyer ≡ p.buyer = (still p t.mid t.traded over).1 in
      by why t each.1 none before
    where
      by : (why : Lost) (t : TradeLost tells s p q why) → t.last ≡ [] → t.traded.acts ++ t.last ≡ [] → t.mid.buyer ≡ p.buyer
          → IsEndOfOver (ends.Lost why) × (t.traded.acts ++ t.last ≡ []) × (q.buyer ≡ p.buyer)
      by lost.NoMemory t last none before = (tt, none, ⊎_elim (λ is. is) (λ is. is.0 ∙ ap (buyer_behind s t.mid.buyer) last) t.loses.buyer ∙ before)
      by (lost.Full cap) t last none before = absurd (no_item (sym (ap (kept_by s t.mid.buyer) last) ∙ t.loses.journal.3.1))
      by (lost.DiskFault x y) t last none before = absurd (no_item (sym (ap (kept_by s t.mid.buyer) last) ∙ t.loses.journal.3.1))

  over_at : (p q : Point D) (end : BuyEnd) (e : EndsAt tells s p q end) → HasEnded (phase_for s p.buyer) → IsEndOfOver end × (acts_at tells s p q end e ≡ []) × (q.buyer ≡ p.buyer)
  over_at p q ends.Paid e over = (tt, (still p q e.traded over).0, (still p q e.traded over).1)
  over_at p q ends.Unpaid e over = (tt, (still p q e.traded over).0, (still p q e.traded over).1)
  over_at p q ends.SinkFault e over = (tt, (still p q e.traded over).0, (still p q e.traded over).1)
  over_at p q (ends.Stopped peer why) e over = absurd (still_open p q e.traded over e.going)
  over_at p q ends.Spent e over = absurd (still_open p q e.traded over e.going)
  over_at p q (ends.Lost why) e over = lost_over p q why e over

pub over_does_nothing : {D : Type 0} (tells : DiskTells D) → OverDoesNothing tells
over_does_nothing tells s old new end b over =
    let is = over_at tells s (first_point old) b.last end b.ended over in
    (is.0, is.1, b.last_is.buyer ∙ is.2)

pub paid_again : {D : Type 0} (tells : DiskTells D) → PaidAgain tells
paid_again tells s then old new old' new' end paid number again b =
    let over : HasEnded (phase_for s new.buyer) = subst (λ (c : Buyer). HasEnded (phase_for s c)) (sym paid.last_is.buyer) paid.ended.over in
    let same : purchase_of old'.buyer then.transaction ≡ purchase_of new.buyer s.transaction =
    ap (λ (c : Buyer). purchase_of c then.transaction) again ∙ ap (purchase_of (untold new.buyer)) number ∙ (ended_stays new.buyer s.transaction over).1 in
    let is = over_does_nothing tells then old' new' end b (subst (λ (o : Option Purchase). HasEnded (phase_in o)) (sym same) over) in
    (is.0, ap goods_in (ap (λ (c : Buyer). purchase_of c then.transaction) is.2 ∙ same))
