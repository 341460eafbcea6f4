-- A purchase with the wallet on a disk: what a stop leaves goes on, and what links bring to its end comes to it.
use Rattle.std.proofs.Common.{◌≡◌, ◌⊎◌, inl, inr, ⊎_elim, ℕ, List, length, Option, Some, None, Ok, Err, refl, sym, ap, subst, ◌∙◌, arith}
use Rattle.std.specs.Prelude.{IfSome, Result}
use Rattle.std.specs.Io.KnownBytes.{Appends}
use Rattle.nb_units.specs.declared.charter.Charter.{Charter}
use Rattle.nb_port.specs.Tells.{DiskTells}
use Rattle.nb_port.specs.Faults.{Rose}
use Rattle.nb_journal.specs.declared.opening.OpenFault.{OpenFault}
use Rattle.nb_journal.specs.declared.opening.OpenFault.TheVariants as opens
use Rattle.nb_journal.specs.Layout.{front_bytes}
use Rattle.nb_journal.specs.Opening.{OpenFails}
use Rattle.nb_journal.specs.Reading.{Holds, IsUnborn, IsDamaged}
use Rattle.nb_journal.proofs.ReadingLaws.{one_journal, whole_not_damaged, unborn_is_neither}
use Rattle.nb_vault.proofs.Founding.{told_of}
use Rattle.nb_wallet.specs.declared.wallet.Start.{Start}
use Rattle.nb_wallet.specs.Head.{wallet_of}
use Rattle.nb_consumer.specs.declared.phase.Phase.{Phase}
use Rattle.nb_consumer.specs.declared.phase.Phase.TheVariants as phase
use Rattle.nb_consumer.specs.State.{Buyer, purchase_of}
use Rattle.nb_consumer.specs.Goods.{goods_in}
use Rattle.nb_consumer.specs.Restart.{restarted}
use Rattle.nb_consumer.proofs.Running.{again_kept}
use Rattle.nb_buy.specs.declared.peer.Peer.{Peer}
use Rattle.nb_buy.specs.declared.peer.Peer.TheVariants.{House, Seller}
use Rattle.nb_buy.specs.declared.ended.BuyEnd.{BuyEnd}
use Rattle.nb_buy.specs.Run.{buyer_behind, kept_by, phase_for}
use Rattle.nb_buy.specs.Bought.{Around, around, WritesGoods}
use Rattle.nb_buy.specs.Laws.{link_at, IsBrought, NoneFails, EndsAsOver}
use Rattle.nb_buy.proofs.NextTime.{goes_on_since}
use Rattle.nb_buy.proofs.Coming.{comes_to_its_end}
use Rattle.nb_commands.specs.declared.ending.Ending.{Ending}
use Rattle.nb_commands.specs.declared.ending.TheConstants.{OUT_OF_MEMORY}
use Rattle.nb_commands.specs.Ending.{at_no_place}
use Rattle.nb_work.specs.Buying.{Outside, IsNoWallet, BoughtWith, not_opened, status_of}
use Rattle.nb_work.specs.Laws.{IsWallet, NothingFails, EndsPaid, StopsGoOn, PurchasesComplete}

-- ---- a wallet that was opened

module _ {D : Type 0} (tells : DiskTells D) (s : Start) (old new : Outside D) (image : List ℕ) (cap : ℕ) (items : List (List ℕ)) (buyer : Buyer) (content : tells.content old.disk ≡ Some image) (is : IsWallet image cap items buyer)
    (none : NothingFails tells old new) where
  told : (P : List ℕ → Type 0) → IfSome (tells.content old.disk) P → P image
  told P some = told_of (tells.content old.disk) P image content some

  -- it is opened, or there was no memory
  opens_so : (fault : OpenFault) → OpenFails tells old.disk new.disk fault → not_opened fault ≡ at_no_place OUT_OF_MEMORY
  opens_so (opens.Unborn found) fails = absurd ((unborn_is_neither image found is.charter cap 0 0 items (told (λ (x : List ℕ). IsUnborn x found) fails.1)).0 is.holds)
  opens_so (opens.Damaged item place) fails = absurd (whole_not_damaged image is.charter cap item place items is.holds (told (λ (x : List ℕ). IsDamaged x item place) fails))
  opens_so (opens.DiskFault before after) fails = absurd (none.disk (subst (λ (x : ℕ × ℕ). Rose x.0 x.1) (λ i. (fails.0 i, fails.1 i)) fails.2))
  opens_so opens.NoMemory fails = refl

  same_wallet : (charter : Charter) (others : List (List ℕ)) → is.charter ≡ charter → items ≡ others → restarted (wallet_of is.charter.head) items ≡ restarted (wallet_of charter.head) others
  same_wallet charter others one two = ap (λ (x : Charter × List (List ℕ)). restarted (wallet_of x.0.head) x.1) (λ i. (one i, two i))

  -- each of its items is one
  all_items : (item : ℕ) → IsNoWallet image item → ⊥
  all_items item bad =
      let same = one_journal image is.charter bad.charter cap bad.cap items bad.items is.holds bad.holds in
      apart (sym is.starts ∙ same_wallet bad.charter bad.items same.1 same.2 ∙ bad.first)
    where
      apart : ◌≡◌ {A = Result Buyer ℕ} (Ok buyer) (Err item) → ⊥
      apart e = cc

  -- and with it the purchase was made
  record With (end : BuyEnd) (b : BoughtWith tells s old new end) : Type 0 where
    cap_is : cap ≡ b.cap
    items_are : items ≡ b.items
    buyer_is : buyer ≡ b.buyer

  with_it : (end : BuyEnd) (b : BoughtWith tells s old new end) → With end b
  with_it end b =
      let same = one_journal image is.charter b.charter cap b.cap items b.items is.holds (told (λ (x : List ℕ). Holds x b.cap b.charter b.items) b.holds) in
      record { cap_is = same.0; items_are = same.2; buyer_is = inner (sym is.starts ∙ same_wallet b.charter b.items same.1 same.2 ∙ b.starts) }
    where
      inner : ◌≡◌ {A = Result Buyer ℕ} (Ok buyer) (Ok b.buyer) → buyer ≡ b.buyer
      inner e = cc

  none_fails : (end : BuyEnd) (b : BoughtWith tells s old new end) → NoneFails tells (around b.opened b.buyer old.house old.seller) (around b.journal b.later new.house new.seller) old.faults new.faults
  none_fails end b = record {
    disk = λ rose. none.disk (omega (arith, rose, b.counted, ap tells.faults b.handed_back));
    reads = reads;
    writes = writes;
    output = none.output;
  }
    where
      reads : (peer : Peer) → Rose (link_at peer (around b.opened b.buyer old.house old.seller)).read_faults (link_at peer (around b.journal b.later new.house new.seller)).read_faults → ⊥
      reads House = none.house_reads
      reads Seller = none.seller_reads

      writes : (peer : Peer) → Rose (link_at peer (around b.opened b.buyer old.house old.seller)).write_faults (link_at peer (around b.journal b.later new.house new.seller)).write_faults → ⊥
      writes House = none.house_writes
      writes Seller = none.seller_writes

-- how the job ends is told by how the purchase did
told_end : (told : Option Phase) (s : Start) (b : Buyer) (before after : ℕ) (sent sent' : Option (List ℕ)) (end : BuyEnd) → EndsAsOver told end → WritesGoods s b before after sent sent' end
    → EndsPaid (goods_in (purchase_of b s.transaction)) sent sent' told (at_no_place (status_of end))
told_end None s b before after sent sent' end is goods = absurd is
told_end (Some phase.Ticketing) s b before after sent sent' end is goods = absurd is
told_end (Some phase.Asked) s b before after sent sent' end is goods = absurd is
told_end (Some phase.Wanted) s b before after sent sent' end is goods = absurd is
told_end (Some phase.Ordered) s b before after sent sent' end is goods = absurd is
told_end (Some (phase.Paid len)) s b before after sent sent' end is goods =
    let wrote = subst (λ (e : BuyEnd). WritesGoods s b before after sent sent' e) is goods in
    (ap (λ (e : BuyEnd). at_no_place (status_of e)) is, subst (λ (o : Option (List ℕ)). IfSome o (λ bytes. Appends sent sent' bytes)) (sym wrote.1) wrote.2)
told_end (Some (phase.Refused code)) s b before after sent sent' end is goods = ap (λ (e : BuyEnd). at_no_place (status_of e)) is
told_end (Some phase.Foul) s b before after sent sent' end is goods = ap (λ (e : BuyEnd). at_no_place (status_of e)) is

pub purchases_complete : {D : Type 0} (tells : DiskTells D) → PurchasesComplete tells
purchases_complete {D} tells s old new ending buys image cap items buyer content is acts brought room none = elim buys [
  | inl failed ↦ inl (failed.1 ∙ opens_so tells s old new image cap items buyer content is none failed.0 failed.2)
  | inr (inl bad) ↦ absurd (all_items tells s old new image cap items buyer content is none bad.0 (told tells s old new image cap items buyer content is none (λ (x : List ℕ). IsNoWallet x bad.0) bad.2))
  | inr (inr (inl starved)) ↦ inl starved.0
  | inr (inr (inr made)) ↦ by made.0 made.1 made.2
]
  where
    by : (end : BuyEnd) → ending ≡ at_no_place (status_of end) → BoughtWith tells s old new end
        → (ending ≡ at_no_place OUT_OF_MEMORY) ⊎ EndsPaid (goods_in (purchase_of (buyer_behind s buyer acts) s.transaction)) old.sent new.sent (phase_for s (buyer_behind s buyer acts)) ending
    by end ends b =
        let w = with_it tells s old new image cap items buyer content is none end b in
        let came = comes_to_its_end tells s (around b.opened b.buyer old.house old.seller) (around b.journal b.later new.house new.seller) end b.bought old.faults new.faults old.sent new.sent b.goods
        (front_bytes b.cap b.charter) b.items b.rest acts (subst (λ (x : Buyer). IsBrought s x old.house old.seller acts) w.buyer_is brought)
        (omega (arith, room, w.cap_is, b.cap_is, ap length w.items_are, ap (λ (x : Buyer). length (kept_by s x acts)) w.buyer_is))
        (none_fails tells s old new image cap items buyer content is none end b) in
        elim came [
          | inl starved ↦ inl (ends ∙ ap (λ (e : BuyEnd). at_no_place (status_of e)) starved)
          | inr over ↦ inr
              (let same : b.later ≡ buyer_behind s buyer acts = over.0 ∙ ap (λ (x : Buyer). buyer_behind s x acts) (sym w.buyer_is) in
              subst (λ (e : Ending). EndsPaid (goods_in (purchase_of (buyer_behind s buyer acts) s.transaction)) old.sent new.sent (phase_for s (buyer_behind s buyer acts)) e) (sym ends)
              (subst (λ (x : Buyer). EndsPaid (goods_in (purchase_of x s.transaction)) old.sent new.sent (phase_for s x) (at_no_place (status_of end))) same
              (told_end (phase_for s b.later) s b.later old.faults new.faults old.sent new.sent end over.1 b.goods)))
        ]

-- ---- a stop

pub stops_go_on : {D : Type 0} (tells : DiskTells D) → ((d : D) (c : List ℕ) → tells.left d (tells.moment d) c → tells.allowed d c) → StopsGoOn tells
stops_go_on {D} tells only_now s old new end b image left =
    ⊎_elim
    (λ past. inl (⊎_elim (only_now old.disk image) (λ now. now) (b.unwritten.time.each (tells.moment old.disk) image (omega arith) past)))
    (λ on. inr on)
    (goes_on_since tells s before behind end b.bought (front_bytes b.cap b.charter) b.items b.rest (again_kept (wallet_of b.charter.head) b.items b.buyer b.starts).1
    (tells.moment old.disk) image b.unwritten.time.later (subst (λ (d : D). tells.left d (tells.moment old.disk) image) b.handed_back left))
  where
    before : Around D
    before = around b.opened b.buyer old.house old.seller

    behind : Around D
    behind = around b.journal b.later new.house new.seller
