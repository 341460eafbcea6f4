-- A purchase of which a receipt was heard is over.
use Rattle.std.proofs.Common.{◌≡◌, ℕ, Bool, true, false, List, [], ◌∷◌, ◌++◌, Option, Some, None, Result, Ok, Err, refl, sym, ap, subst, ◌∙◌}
use Rattle.std.specs.Prelude.{◌==◌, if◌then◌else◌}
use Rattle.std.proofs.lemmas.Bool.{eqb-true}
use Rattle.nb_port.specs.Tells.{DiskTells}
use Rattle.nb_msgs.specs.Reading.{message_of}
use Rattle.nb_msgs.specs.declared.message.Message.{Message}
use Rattle.nb_body.specs.declared.end.End.{End}
use Rattle.nb_body.specs.declared.end.End.TheVariants as end
use Rattle.nb_msgs.specs.declared.node.Reason.{Reason}
use Rattle.nb_wallet.specs.declared.wallet.Start.{Start}
use Rattle.nb_wallet.specs.Purchases.{Purchase}
use Rattle.nb_consumer.specs.declared.deed.Deed.{Deed}
use Rattle.nb_consumer.specs.declared.deed.Deed.TheVariants as deed
use Rattle.nb_consumer.specs.State.{Buyer, purchase_of}
use Rattle.nb_consumer.specs.Table.{after}
use Rattle.nb_consumer.specs.Goods.{IsOpen, HasEnded, phase_in, phase_at, goods_in, goods_at}
use Rattle.nb_consumer.specs.Laws.{RowSo}
use Rattle.nb_consumer.specs.Runs as calls
use Rattle.nb_consumer.proofs.Restoring.{call_so}
use Rattle.nb_consumer.proofs.Again.{end_is_told}
use Rattle.nb_consumer.proofs.Staying.{ended_stays}
use Rattle.nb_buy.specs.declared.ended.BuyEnd.{BuyEnd}
use Rattle.nb_buy.specs.declared.ended.BuyEnd.TheVariants as ends
use Rattle.nb_buy.specs.Run.{Act, Starts, Hears, Waits, heard_as, frame_row, act_row, buyer_behind, phase_for}
use Rattle.nb_buy.specs.Bought.{Point, Traded, EndsAt, first_point}
use Rattle.nb_buy.specs.Laws.{acts_at, IsEndOfOver, ends_with, IsCarriedOut, ReceiptEnds}
use Rattle.nb_buy.proofs.Runs.{buyer_both}
use Rattle.nb_buy.proofs.HowFar.{over_apart}

-- ---- what is over stays over

heard_so : (b : Buyer) (read : Result Message ℕ) → RowSo b (heard_as b read)
heard_so b (Ok message) = call_so b (calls.Hears message)
heard_so b (Err place) = tt

pub act_so : (s : Start) (b : Buyer) (a : Act) → RowSo b (act_row s b a)
unfolding frame_row
act_so s b Starts = call_so b (calls.Starts s)
act_so s b (Hears from f) = heard_so b (message_of f.kind f.body)
act_so s b Waits = call_so b (calls.Waits s.transaction)

heard_stays : (b : Buyer) (t : ℕ) (read : Result Message ℕ) → HasEnded (phase_in (purchase_of b t)) → purchase_of (after b (heard_as b read)) t ≡ purchase_of b t
heard_stays b t (Ok message) over = (ended_stays b t over).0 (calls.Hears message)
heard_stays b t (Err place) over = refl

act_stays : (s : Start) (b : Buyer) (a : Act) (t : ℕ) → HasEnded (phase_in (purchase_of b t)) → purchase_of (after b (act_row s b a)) t ≡ purchase_of b t
unfolding frame_row
act_stays s b Starts t over = (ended_stays b t over).0 (calls.Starts s)
act_stays s b (Hears from f) t over = heard_stays b t (message_of f.kind f.body) over
act_stays s b Waits t over = (ended_stays b t over).0 (calls.Waits s.transaction)

acts_stay : (s : Start) (b : Buyer) (acts : List Act) (t : ℕ) → HasEnded (phase_in (purchase_of b t)) → purchase_of (buyer_behind s b acts) t ≡ purchase_of b t
acts_stay s b [] t over = refl
acts_stay s b (a ∷ acts) t over =
    let same : purchase_of (after b (act_row s b a)) t ≡ purchase_of b t = act_stays s b a t over in
    acts_stay s (after b (act_row s b a)) acts t (subst (λ (o : Option Purchase). HasEnded (phase_in o)) (sym same) over) ∙ same

-- ---- a receipt

-- what is told of a purchase that ended so
abbrev Told : Buyer → ℕ → End → Type 0
Told b t how = (phase_in (purchase_of b t) ≡ Some (phase_at how)) × (goods_in (purchase_of b t) ≡ goods_at how)

pub told_row : (b : Buyer) (t : ℕ) (row : Result Deed Reason) (how : End) → RowSo b row → ends_with t row ≡ Some how → Told (after b row) t how
told_row b t (Err why) how so e = absurd cc
told_row b t (Ok (deed.Sends whom sent)) how so e = absurd cc
told_row b t (Ok (deed.Hears n place whom sent)) how so e = absurd cc
told_row b t (Ok (deed.Keeps x whom sent)) how so e = absurd cc
told_row b t (Ok (deed.Ends n r so_ended)) how so e = by (n == t) refl e
  where
    by : (test : Bool) → (n == t) ≡ test → (if test then Some so_ended else None) ≡ Some how → Told (after b (Ok (deed.Ends n r so_ended))) t how
    by false is e = absurd cc
    by true is e =
        let same : so_ended ≡ how = cc in
        subst (λ (x : ℕ × End). Told (after b (Ok (deed.Ends n r so_ended))) x.0 x.1) (λ i. (eqb-true n t is i, same i)) (end_is_told b n r so_ended so.1)

ended_at : (how : End) → HasEnded (Some (phase_at how))
ended_at (end.Paid goods) = tt
ended_at (end.Refused code) = tt
ended_at end.Foul = tt

told_later : (s : Start) (b : Buyer) (before later : List Act) (a : Act) (how : End) → ends_with s.transaction (act_row s (buyer_behind s b before) a) ≡ Some how
    → Told (buyer_behind s b (before ++ a ∷ later)) s.transaction how
told_later s b before later a how e =
    let mid = buyer_behind s b before in
    let c = after mid (act_row s mid a) in
    let t = told_row mid s.transaction (act_row s mid a) how (act_so s mid a) e in
    let over : HasEnded (phase_for s c) = subst HasEnded (sym t.0) (ended_at how) in
    let same : purchase_of (buyer_behind s b (before ++ a ∷ later)) s.transaction ≡ purchase_of c s.transaction =
    ap (λ (x : Buyer). purchase_of x s.transaction) (buyer_both s b before (a ∷ later)) ∙ acts_stay s c later s.transaction over in
    (ap phase_in same ∙ t.0, ap goods_in same ∙ t.1)

module _ {D : Type 0} (tells : DiskTells D) (s : Start) where
  told_at : (p q : Point D) (t : Traded tells s p q) (before later : List Act) (a : Act) (how : End) → t.acts ≡ before ++ a ∷ later
      → ends_with s.transaction (act_row s (buyer_behind s p.buyer before) a) ≡ Some how → Told q.buyer s.transaction how
  told_at p q t before later a how is e =
      subst (λ (x : Buyer). Told x s.transaction how) (sym (t.went.buyer ∙ ap (buyer_behind s p.buyer) is)) (told_later s p.buyer before later a how e)

  not_open : (p q : Point D) (t : Traded tells s p q) (before later : List Act) (a : Act) (how : End) → t.acts ≡ before ++ a ∷ later
      → ends_with s.transaction (act_row s (buyer_behind s p.buyer before) a) ≡ Some how → IsOpen (phase_for s q.buyer) → ⊥
  not_open p q t before later a how is e going =
      let told = told_at p q t before later a how is e in
      over_apart (phase_for s q.buyer) (subst HasEnded (sym told.0) (ended_at how)) going

  ends_at : (p q : Point D) (end : BuyEnd) (x : EndsAt tells s p q end) (before later : List Act) (a : Act) (how : End) → IsCarriedOut end → acts_at tells s p q end x ≡ before ++ a ∷ later
      → ends_with s.transaction (act_row s (buyer_behind s p.buyer before) a) ≡ Some how → IsEndOfOver end × Told q.buyer s.transaction how
  ends_at p q ends.Paid x before later a how carried is e = (tt, told_at p q x.traded before later a how is e)
  ends_at p q ends.Unpaid x before later a how carried is e = (tt, told_at p q x.traded before later a how is e)
  ends_at p q ends.SinkFault x before later a how carried is e = (tt, told_at p q x.traded before later a how is e)
  ends_at p q (ends.Stopped peer why) x before later a how carried is e = absurd (not_open p q x.traded before later a how is e x.going)
  ends_at p q ends.Spent x before later a how carried is e = absurd (not_open p q x.traded before later a how is e x.going)
  ends_at p q (ends.Lost why) x before later a how carried is e = absurd carried

pub receipt_ends : {D : Type 0} (tells : DiskTells D) → ReceiptEnds tells
receipt_ends tells s old new end b before later a how carried is e =
    let x = ends_at tells s (first_point old) b.last end b.ended before later a how carried is e in
    let told = subst (λ (c : Buyer). Told c s.transaction how) (sym b.last_is.buyer) x.1 in
    (x.0, told.0, told.1)
