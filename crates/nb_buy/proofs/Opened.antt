-- Goods that a step opened are those of the purchase that it ended.
use Rattle.std.proofs.Common.{◌≡◌, Bool, true, false, Option, Some, None, Result, Ok, Err, refl, sym, ap, subst, ◌∙◌}
use Rattle.std.specs.Prelude.{◌==◌, if◌then◌else◌}
use Rattle.std.proofs.lemmas.Bool.{eq-eqb, false≢true}
use Rattle.nb_units.specs.Frames.{Frame}
use Rattle.nb_msgs.specs.declared.node.Reason.{Reason}
use Rattle.nb_msgs.specs.declared.node.Step.{Step}
use Rattle.nb_wallet.specs.declared.wallet.Start.{Start}
use Rattle.nb_wallet.specs.declared.item.Item.TheVariants as item
use Rattle.nb_wallet.specs.Purchases.{Purchase}
use Rattle.nb_consumer.specs.declared.deed.Deed.{Deed}
use Rattle.nb_consumer.specs.declared.deed.Deed.TheVariants as deed
use Rattle.nb_consumer.specs.Deeds.{Answers}
use Rattle.nb_consumer.specs.Goods.{IsOpen, HasEnded, phase_in, goods_in}
use Rattle.nb_consumer.specs.Laws.{RowSo}
use Rattle.nb_consumer.specs.State.{Buyer, purchase_of, behind_item}
use Rattle.nb_consumer.specs.Table.{step_of, after}
use Rattle.nb_consumer.proofs.Staying.{changed_other}
use Rattle.nb_buy.specs.declared.peer.Peer.TheVariants.{House}
use Rattle.nb_buy.specs.Run.{Hears, frame_row, phase_for, opened_by}
use Rattle.nb_buy.specs.Steps.{AreItsGoods}
use Rattle.nb_buy.proofs.HowFar.{over_apart}
use Rattle.nb_buy.proofs.Receipts.{act_so, told_row}

-- where none were opened, these are
pub none_opened : (s : Start) (b : Buyer) → AreItsGoods s b None
none_opened s b goods is over = absurd cc

-- behind a row, by which a purchase that was going on is over
row_opened : (s : Start) (b : Buyer) (row : Result Deed Reason) → RowSo b row → IsOpen (phase_for s b) → AreItsGoods s (after b row) (opened_by (step_of row))
row_opened s b (Err why) so going goods is over = absurd cc
row_opened s b (Ok (deed.Sends whom sent)) so going goods is over = absurd cc
row_opened s b (Ok (deed.Hears n place whom sent)) so going goods is over = absurd cc
row_opened s b (Ok (deed.Keeps x whom sent)) so going goods is over = absurd cc
row_opened s b (Ok (deed.Ends n r how)) so going goods is over = by (n == s.transaction) refl
  where
    by : (test : Bool) → (n == s.transaction) ≡ test → goods_in (purchase_of (after b (Ok (deed.Ends n r how))) s.transaction) ≡ Some goods
    by true same = (told_row b s.transaction (Ok (deed.Ends n r how)) how so (ap (λ (test : Bool). if test then Some how else None) same)).1 ∙ is
    by false other =
        let stays : purchase_of (after b (Ok (deed.Ends n r how))) s.transaction ≡ purchase_of b s.transaction =
        changed_other b n s.transaction (behind_item (item.Ended n r)) (λ e. false≢true (sym other ∙ eq-eqb n s.transaction (sym e))) (λ q. refl) in
        absurd (over_apart (phase_for s b) (subst (λ (o : Option Purchase). HasEnded (phase_in o)) stays over) going)

-- behind a frame
pub goods_opened : (s : Start) (b c : Buyer) (f : Frame) (st : Step) → Answers b c (frame_row b f) (Ok st) → IsOpen (phase_for s b) → AreItsGoods s c (opened_by st)
goods_opened s b c f st answers going =
    subst (λ (x : Buyer × Step). AreItsGoods s x.0 (opened_by x.1)) (λ i. (sym answers.after i, sym answers.told i))
    (row_opened s b (frame_row b f) (act_so s b (Hears House f)) going)
