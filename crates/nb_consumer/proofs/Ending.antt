-- Purchases end at receipts that were sealed under the consumer's key.
use Rattle.std.proofs.Common.{◌≡◌, ℕ, ◌+◌, Bool, true, false, cond, List, ◌++◌, length, Option, Some, None, Ok, Err, Result, refl, subst}
use Rattle.std.specs.Prelude.{nat_lt, codes, ◌==◌}
use Rattle.std.specs.Str.{bytes_eq}
use Rattle.sha2.specs.Sha256.{sha256}
use Rattle.nb_units.specs.Fields.{◌>>=◌}
use Rattle.nb_body.specs.declared.goods_head.GoodsHead.{GoodsHead}
use Rattle.nb_endorse.specs.declared.receipt.Signed.{Signed}
use Rattle.nb_endorse.specs.Reading.{signed_of}
use Rattle.nb_msgs.specs.declared.message.Message.{Message}
use Rattle.nb_msgs.specs.declared.message.Message.TheVariants as message
use Rattle.nb_msgs.specs.declared.node.Reason.{Reason}
use Rattle.nb_msgs.specs.declared.node.Reason.TheVariants as reason
use Rattle.nb_msgs.specs.declared.status.StatusText.{StatusText}
use Rattle.nb_msgs.specs.StatusText.{text_of}
use Rattle.nb_ticket.specs.declared.granted.Granted.{Granted}
use Rattle.nb_ticket.specs.Reading.{granted_of}
use Rattle.nb_wallet.specs.Purchases.{Purchase}
use Rattle.nb_msgs.specs.Tests.{unless, field, found, opened}
use Rattle.nb_consumer.specs.declared.deed.Deed.{Deed}
use Rattle.nb_consumer.specs.declared.deed.Deed.TheVariants as deed
use Rattle.nb_consumer.specs.declared.rows.Wanting.{Wanting}
use Rattle.nb_consumer.specs.declared.rows.Owing.{Owing}
use Rattle.nb_consumer.specs.State.{Buyer, purchase_of, ordered_with, epoid_bytes}
use Rattle.nb_consumer.specs.Table.{granted, quoted, price_quoted, is_ticketing, pass_of_asked, delivered, head_told, goods_came, goods_wrong, goods_ordered, part_kept, wanting_in, owing_in, passed, told_status, status_told, receipt_told, receipt_fits, heard}
use Rattle.nb_consumer.specs.Laws.{EndsHeard, EndsAreHeard}
use Rattle.nb_consumer.proofs.Purchases.{found_some}

-- where a row ends a purchase, it does so at such a receipt
abbrev RowEnds : Buyer → Message → Result Deed Reason → Type 0
RowEnds b m (Ok (deed.Ends t s how)) = EndsHeard b m t s
RowEnds b m other = Unit {0}

ends_row : {A : Type 0} (b : Buyer) (m : Message) (r : Result A Reason) (next : A → Result Deed Reason) → ((x : A) → r ≡ Ok x → RowEnds b m (next x)) → RowEnds b m (r >>= next)
ends_row b m (Ok x) next each = each x refl
ends_row b m (Err why) next each = tt

granted_ends : (b : Buyer) (m : Message) (sealed : List ℕ) → RowEnds b m (granted b sealed)
unfolding granted
granted_ends b m sealed =
    ends_row {A = Granted} b m (opened granted_of b.wallet.key (codes "gran") sealed) _ (λ g first.
    ends_row {A = Purchase} b m (found reason.Unknown (purchase_of b g.nonce)) _ (λ p known.
    ends_row {A = Unit {0}} b m (unless (is_ticketing p.stage) reason.State) _ (λ u waits.
    ends_row {A = Unit {0}} b m (field 1 (g.merchant.0 == p.start.merchant.0)) _ (λ v merchant. tt))))

quoted_ends : (b : Buyer) (m : Message) (t : ℕ) (sealed : List ℕ) → RowEnds b m (quoted b t sealed)
unfolding quoted
quoted_ends b m t sealed =
    ends_row b m (found reason.Unknown (purchase_of b t)) _ (λ p first.
    ends_row b m (found reason.State (pass_of_asked p.stage)) _ (λ pass second.
    ends_row b m (price_quoted p.start pass sealed) _ (λ price is. tt)))

came_ends : (b : Buyer) (m : Message) (t : ℕ) (p : Purchase) (w : Wanting) (h : GoodsHead) (part : List ℕ) → RowEnds b m (goods_came b t p w h part)
came_ends b m t p w h part = by_place (nat_lt (h.place + length part) h.total)
  where
    wrong : (head : Option GoodsHead) → RowEnds b m (goods_wrong t p w head)
    wrong None = tt
    wrong (Some k) = tt

    by_sum : (test : Bool) → RowEnds b m (cond test (Ok (goods_ordered b t p w h part)) (goods_wrong t p w w.head))
    by_sum true = tt
    by_sum false = wrong w.head

    by_place : (test : Bool) → RowEnds b m (cond test (Ok (part_kept p w h part)) (cond (bytes_eq (sha256 (p.held ++ part)) h.checksum) (Ok (goods_ordered b t p w h part)) (goods_wrong t p w w.head)))
    by_place true = tt
    by_place false = by_sum (bytes_eq (sha256 (p.held ++ part)) h.checksum)

delivered_ends : (b : Buyer) (m : Message) (t : ℕ) (head part : List ℕ) → RowEnds b m (delivered b t head part)
unfolding delivered
delivered_ends b m t head part =
    ends_row b m (found reason.Unknown (purchase_of b t)) _ (λ p known.
    ends_row b m (found reason.State (wanting_in p.stage)) _ (λ w wanted.
    ends_row b m (head_told p w head part) _ (λ h told. came_ends b m t p w h part)))

receipt_ends : (b : Buyer) (m : Message) (t : ℕ) (p : Purchase) (o : Owing) (s : Signed) → EndsHeard b m t s → RowEnds b m (receipt_told t p o s)
unfolding receipt_told
receipt_ends b m t p o s is = ends_row b m (receipt_fits o.order s.receipt) _ (λ u fits. is)

passed_ends : (b : Buyer) (t : ℕ) (part : List ℕ) → RowEnds b (message.Passed t part) (passed b t part)
unfolding passed
passed_ends b t part =
    ends_row b (message.Passed t part) (found reason.Unknown (purchase_of b t)) _ (λ p known.
    ends_row b (message.Passed t part) (found reason.State (owing_in p.stage)) _ (λ o ordered.
    ends_row {A = Signed} b (message.Passed t part) (opened signed_of b.wallet.key (codes "rcpt") part) _ (λ s opens. receipt_ends b (message.Passed t part) t p o s (refl, opens))))

status_ends : (b : Buyer) (sealed : List ℕ) → RowEnds b (message.Status sealed) (told_status b sealed)
unfolding told_status
status_ends b sealed =
    ends_row {A = StatusText} b (message.Status sealed) (opened text_of b.wallet.key (codes "stat") sealed) _ (λ x opens.
    ends_row {A = ℕ} b (message.Status sealed) (found reason.Unknown (ordered_with b.orders (epoid_bytes x.epoid))) _ (λ t first.
    ends_row b (message.Status sealed) (found reason.Unknown (purchase_of b t)) _ (λ p known.
    ends_row b (message.Status sealed) (found reason.State (owing_in p.stage)) _ (λ o ordered.
    by x opens t (found_some reason.Unknown (ordered_with b.orders (epoid_bytes x.epoid)) t first) p o x.receipt refl))))
  where
    by : (x : StatusText) → opened text_of b.wallet.key (codes "stat") sealed ≡ Ok x → (t : ℕ) → ordered_with b.orders (epoid_bytes x.epoid) ≡ Some t → (p : Purchase) (o : Owing)
        → (told : Option Signed) → x.receipt ≡ told → RowEnds b (message.Status sealed) (status_told t p o x.place told)
    by x opens t first p o (Some s) is = receipt_ends b (message.Status sealed) t p o s (x, opens, is, first)
    by x opens t first p o None is = tt

heard_ends : (b : Buyer) (m : Message) → RowEnds b m (heard b m)
heard_ends b (message.Grant sealed) = granted_ends b (message.Grant sealed) sealed
heard_ends b (message.Quote t sealed) = quoted_ends b (message.Quote t sealed) t sealed
heard_ends b (message.Goods t head part) = delivered_ends b (message.Goods t head part) t head part
heard_ends b (message.Passed t part) = passed_ends b t part
heard_ends b (message.Status sealed) = status_ends b sealed
heard_ends b (message.Refusal refusal) = tt
heard_ends b (message.PriceAsk ticket sealed) = tt
heard_ends b (message.GoodsAsk ticket sealed) = tt
heard_ends b (message.Order ticket sealed) = tt
heard_ends b (message.Endorsed merchant sealed) = tt
heard_ends b (message.Result merchant consumer) = tt
heard_ends b (message.StatusAsk query) = tt
heard_ends b (message.TicketAsk ask) = tt
heard_ends b (message.Enrol enrolment) = tt
heard_ends b (message.Fund funding) = tt
heard_ends b (message.Done acct at balance) = tt

pub ends_are_heard : EndsAreHeard
ends_are_heard b m t s how is = subst (RowEnds b m) is (heard_ends b m)
