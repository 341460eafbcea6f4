-- A purchase that links bring to its end comes to it: the acts that were done begin as those that the links bring, as long as nothing fails.
use Rattle.std.proofs.Common.{◌≡◌, ◌⊎◌, inl, inr, ⊎_elim, ℕ, ◌+◌, ◌≤◌, Bool, true, false, true≢false, List, [], ◌∷◌, ◌++◌, length, Option, Some, None, refl, sym, ap, subst, ◌∙◌, append_assoc, append-nil, length-append, arith}
use Rattle.std.specs.List.{flat_map, AllByRecursion}
use Rattle.std.specs.Io.KnownBytes.{Consumes, IsAtEnd}
use Rattle.std.proofs.lemmas.Option.{same_Some}
use Rattle.std.proofs.lemmas.List.{append_cancel_left}
use Rattle.std.proofs.lemmas.Grind.{flat_map-append}
use Rattle.nb_port.specs.Tells.{DiskTells}
use Rattle.nb_port.specs.Faults.{Rose}
use Rattle.nb_journal.specs.declared.journal.Journal.{Journal}
use Rattle.nb_journal.specs.States.{AtRest}
use Rattle.nb_link.specs.Link.{LinkSeen}
use Rattle.nb_units.specs.Frames.{Frame, frame, IsFrame, HeaderFault, Whole, Bad, front_of}
use Rattle.nb_units.proofs.FrameLaws.{whole_front, bad_stays}
use Rattle.nb_frame.specs.State.{waiting}
use Rattle.nb_frame.specs.Looks.{IsShort}
use Rattle.nb_msgs.specs.declared.node.Step.{Step}
use Rattle.nb_msgs.specs.declared.node.Step.TheVariants as step
use Rattle.nb_wire.specs.Received.{EndsAs}
use Rattle.nb_wire.specs.Reads.{joined}
use Rattle.nb_wire.specs.Sent.{WroteOn}
use Rattle.nb_wire.specs.declared.sending.Sent.{Sent}
use Rattle.nb_wire.specs.declared.sending.Sent.TheVariants.{All}
use Rattle.nb_wire.specs.declared.receiving.LinkEnd.{LinkEnd}
use Rattle.nb_wire.specs.declared.receiving.LinkEnd.TheVariants as wire_end
use Rattle.nb_wire.proofs.Whole.{received_first}
use Rattle.nb_wallet.specs.declared.wallet.Start.{Start}
use Rattle.nb_consumer.specs.declared.phase.Phase.{Phase}
use Rattle.nb_consumer.specs.declared.phase.Phase.TheVariants as phase
use Rattle.nb_consumer.specs.State.{Buyer, purchase_of}
use Rattle.nb_wallet.specs.Purchases.{Purchase}
use Rattle.nb_wallet.specs.declared.purchase.Stage.{Stage}
use Rattle.nb_wallet.specs.declared.purchase.Stage.TheVariants as stage
use Rattle.nb_msgs.specs.Steps.{kept_in}
use Rattle.nb_consumer.specs.Table.{after}
use Rattle.nb_consumer.specs.Goods.{IsOpen, HasEnded, phase_of, phase_in, goods_of, goods_in}
use Rattle.nb_consumer.proofs.Moving.{start_moves, silent_moves}
use Rattle.nb_buy.specs.declared.peer.Peer.{Peer}
use Rattle.nb_buy.specs.declared.peer.Peer.TheVariants.{House, Seller}
use Rattle.nb_buy.specs.declared.peer.Over.{Over}
use Rattle.nb_buy.specs.declared.peer.Over.TheVariants as over
use Rattle.nb_buy.specs.declared.ended.TheConstants.{MOST_FRAMES}
use Rattle.nb_buy.specs.declared.ended.Lost.{Lost}
use Rattle.nb_buy.specs.declared.ended.Lost.TheVariants as lost
use Rattle.nb_buy.specs.declared.ended.BuyEnd.{BuyEnd}
use Rattle.nb_buy.specs.declared.ended.BuyEnd.TheVariants as ends
use Rattle.nb_buy.specs.Run.{Act, Starts, Hears, Waits, act_row, step_at, peer_of, buyer_behind, kept_by, bytes_to, frames_on, frames_of, phase_for, IsOrdered, Way, outset, awaited, asks, onward, way_behind, MayWait, MayAct, Obeys}
use Rattle.nb_buy.specs.Lines.{Line, line_at, begun, LineGoes, HasRefusal, IsOver}
use Rattle.nb_buy.specs.Bought.{Point, Around, first_point, IsLast, Went, way_of, IsOverAt, AskedFor, Traded, Finished, Stopped, Spent, TradeLost, Bought, IsUnpaid, WritesGoods}
use Rattle.nb_buy.specs.Laws.{AreHeard, AreBrought, Gives, link_at, IsBrought, EndsAsOver, ComesToItsEnd}
use Rattle.nb_buy.proofs.Runs.{kept_both, frames_both, heard_both, way_both}
use Rattle.nb_buy.proofs.OverLines.{line_both}
use Rattle.nb_buy.proofs.HowFar.{over_apart}

-- ---- which act may come

-- behind an end none may
no_more : (told : Option Phase) (w : Way) (a : Act) → HasEnded told → MayAct told w a → ⊥
no_more told w Starts over may = subst HasEnded may.1 over
no_more told w (Hears from f) over may = over_apart told over may.1
no_more told w Waits over may = by told w.awaits w.asked over may
  where
    by : (told : Option Phase) (awaits : Option Peer) (asked : Bool) → HasEnded told → MayWait told awaits asked → ⊥
    by told None asked over may = over_apart told over may
    by told (Some House) asked over may = may
    by None (Some Seller) asked over may = over
    by (Some phase.Ticketing) (Some Seller) asked over may = over
    by (Some phase.Asked) (Some Seller) asked over may = over
    by (Some phase.Wanted) (Some Seller) asked over may = over
    by (Some phase.Ordered) (Some Seller) asked over may = over
    by (Some (phase.Paid len)) (Some Seller) asked over may = may.0
    by (Some (phase.Refused code)) (Some Seller) asked over may = may.0
    by (Some phase.Foul) (Some Seller) asked over may = may.0

no_peer : {p : Peer} → None ≡ Some p → ⊥
no_peer e = cc

-- each act of a list may come where it comes, and so of its parts
obeys_parts : (s : Start) (b : Buyer) (w : Way) (acts more : List Act) → Obeys s b w (acts ++ more) → Obeys s b w acts × Obeys s (buyer_behind s b acts) (way_behind s b w acts) more
obeys_parts s b w [] more all = (tt, all)
obeys_parts s b w (a ∷ acts) more all =
    let rest = obeys_parts s (after b (act_row s b a)) (onward w a (step_at s b a)) acts more all.1 in
    ((all.0, rest.0), rest.1)

-- ---- where an answer is waited for

-- it stays so
awaits_on : (before : Option Peer) (p : Peer) (done : Step) → before ≡ Some p → (q : Peer) × (awaited before done ≡ Some q)
awaits_on before p (step.Move keep whom sent) is = (peer_of whom, refl)
awaits_on before p (step.Ended keep end) is = (p, is)
awaits_on before p (step.Ignored why) is = (p, is)

awaits_later : (s : Start) (b : Buyer) (w : Way) (acts : List Act) (p : Peer) → w.awaits ≡ Some p → (q : Peer) × ((way_behind s b w acts).awaits ≡ Some q)
awaits_later s b w [] p is = (p, is)
awaits_later s b w (a ∷ acts) p is =
    let next = awaits_on w.awaits p (step_at s b a) is in
    awaits_later s (after b (act_row s b a)) (onward w a (step_at s b a)) acts next.0 next.1

-- and so it is behind the first act of a purchase
awaits_first : (s : Start) (b : Buyer) (a : Act) → MayAct (phase_for s b) outset a → (q : Peer) × ((onward outset a (step_at s b a)).awaits ≡ Some q)
awaits_first s b Starts may = (House, ap (λ (done : Step). awaited None done) (start_moves b s may.1))
awaits_first s b (Hears from f) may = absurd (no_peer may.0)
awaits_first s b Waits may =
    let moves = silent_moves b s.transaction may in
    (peer_of moves.0, ap (λ (done : Step). awaited None done) moves.2)

-- a purchase that asked goes on having asked
asks_on : (before : Bool) (a : Act) (awaits : Option Peer) → before ≡ true → asks before a awaits ≡ true
asks_on before Starts awaits is = is
asks_on before (Hears from f) awaits is = is
asks_on before Waits (Some Seller) is = refl
asks_on before Waits (Some House) is = is
asks_on before Waits None is = is

asked_later : (s : Start) (b : Buyer) (w : Way) (acts : List Act) → w.asked ≡ true → (way_behind s b w acts).asked ≡ true
asked_later s b w [] is = is
asked_later s b w (a ∷ acts) is = asked_later s (after b (act_row s b a)) (onward w a (step_at s b a)) acts (asks_on w.asked a w.awaits is)

-- ---- acts that hear alone, behind the first

abbrev Hear : List Act → Type 0
Hear [] = Unit {0}
Hear (Hears from f ∷ acts) = Hear acts
Hear (Starts ∷ acts) = ⊥
Hear (Waits ∷ acts) = ⊥

abbrev Plain : List Act → Type 0
Plain [] = Unit {0}
Plain (a ∷ acts) = Hear acts

-- one of these waits no more
record Stalls (acts : List Act) : Type 0 where
  before : List Act
  later : List Act
  acts_are : acts ≡ before ++ Waits ∷ later

hear_or_stall : (s : Start) (b : Buyer) (w : Way) (acts : List Act) (p : Peer) → w.awaits ≡ Some p → Obeys s b w acts → Hear acts ⊎ Stalls acts
hear_or_stall s b w [] p is obeys = inl tt
hear_or_stall s b w (Starts ∷ acts) p is obeys = absurd (no_peer (sym obeys.0.0 ∙ is))
hear_or_stall s b w (Waits ∷ acts) p is obeys = inr (record { before = []; later = acts; acts_are = refl })
hear_or_stall s b w (Hears from f ∷ acts) p is obeys =
    let next = awaits_on w.awaits p (step_at s b (Hears from f)) is in
    ⊎_elim (λ all. inl all)
    (λ stalls. inr (record { before = Hears from f ∷ stalls.before; later = stalls.later; acts_are = ap (λ (xs : List Act). Hears from f ∷ xs) stalls.acts_are }))
    (hear_or_stall s (after b (act_row s b (Hears from f))) (onward w (Hears from f) (step_at s b (Hears from f))) acts next.0 next.1 obeys.1)

-- waiting no more for an answer asks the house, which was not asked before
stall_asks : (told : Option Phase) (w : Way) (q : Peer) (done : Step) → w.awaits ≡ Some q → MayWait told w.awaits w.asked → (w.asked ≡ false) × IsOrdered told × (w.awaits ≡ Some Seller) × ((onward w Waits done).asked ≡ true)
stall_asks told w q done is may = by w.awaits w.asked q is may
  where
    by : (awaits : Option Peer) (asked : Bool) (q : Peer) → awaits ≡ Some q → MayWait told awaits asked → (asked ≡ false) × IsOrdered told × (awaits ≡ Some Seller) × (asks asked Waits awaits ≡ true)
    by None asked q is may = absurd (no_peer is)
    by (Some House) asked q is may = absurd may
    by (Some Seller) asked q is may = (may.1, may.0, refl, refl)

-- so acts that are not plain asked
plain_or_asked : (s : Start) (b : Buyer) (acts : List Act) → Obeys s b outset acts → Plain acts ⊎ ((way_behind s b outset acts).asked ≡ true)
plain_or_asked s b [] obeys = inl tt
plain_or_asked s b (a ∷ acts) obeys =
    let c = after b (act_row s b a) in
    let w = onward outset a (step_at s b a) in
    let first = awaits_first s b a obeys.0 in
    ⊎_elim (λ hear. inl hear) (λ stalls. inr (told c w first.0 first.1 obeys.1 stalls)) (hear_or_stall s c w acts first.0 first.1 obeys.1)
  where
    told : (c : Buyer) (w : Way) (q : Peer) → w.awaits ≡ Some q → Obeys s c w acts → Stalls acts → (way_behind s c w acts).asked ≡ true
    told c w q is all stalls =
        let parts = obeys_parts s c w stalls.before (Waits ∷ stalls.later) (subst (Obeys s c w) stalls.acts_are all) in
        let d = buyer_behind s c stalls.before in
        let v = way_behind s c w stalls.before in
        let still = awaits_later s c w stalls.before q is in
        let asked = stall_asks (phase_for s d) v still.0 (step_at s d Waits) still.1 parts.1.0 in
        ap (λ (xs : List Act). (way_behind s c w xs).asked) stalls.acts_are ∙ ap (λ (x : Way). x.asked) (way_both s c w stalls.before (Waits ∷ stalls.later))
        ∙ asked_later s (after d (act_row s d Waits)) (onward v Waits (step_at s d Waits)) stalls.later asked.3

-- ---- the bytes of both links

-- the bytes of the house's link and of the seller's begin with the frames that these acts hear
record Stream (house seller : List ℕ) (acts : List Act) : Type 0 where
  house_rest : List ℕ
  seller_rest : List ℕ
  house_is : house ≡ flat_map frame (frames_on House acts) ++ house_rest
  seller_is : seller ≡ flat_map frame (frames_on Seller acts) ++ seller_rest
  house_lawful : AllByRecursion IsFrame (frames_on House acts)
  seller_lawful : AllByRecursion IsFrame (frames_on Seller acts)

-- two frames at the front of the same bytes
same_front : (f g : Frame) (fs gs : List Frame) (x r t : List ℕ) → x ≡ flat_map frame (f ∷ fs) ++ r → x ≡ flat_map frame (g ∷ gs) ++ t → IsFrame f → IsFrame g
    → (f ≡ g) × (flat_map frame fs ++ r ≡ flat_map frame gs ++ t)
same_front f g fs gs x r t one two is are =
    let first : front_of x ≡ Whole f (flat_map frame fs ++ r) = ap front_of (one ∙ append_assoc (frame f) (flat_map frame fs) r) ∙ whole_front f (flat_map frame fs ++ r) is in
    let other : front_of x ≡ Whole g (flat_map frame gs ++ t) = ap front_of (two ∙ append_assoc (frame g) (flat_map frame gs) t) ∙ whole_front g (flat_map frame gs ++ t) are in
    apart (sym first ∙ other)
  where
    apart : Whole f (flat_map frame fs ++ r) ≡ Whole g (flat_map frame gs ++ t) → (f ≡ g) × (flat_map frame fs ++ r ≡ flat_map frame gs ++ t)
    apart e = (cc, cc)

-- two lists of acts over the same bytes hear the same frame first, and then go on over the same bytes
record Onward (p : Peer) (f g : Frame) (acts more : List Act) : Type 0 where
  same : f ≡ g
  house : List ℕ
  seller : List ℕ
  first : Stream house seller acts
  other : Stream house seller more

go_on : (house seller : List ℕ) (p : Peer) (f g : Frame) (acts more : List Act) → Stream house seller (Hears p f ∷ acts) → Stream house seller (Hears p g ∷ more) → Onward p f g acts more
go_on house seller House f g acts more one two =
    let e = same_front f g (frames_on House acts) (frames_on House more) house one.house_rest two.house_rest one.house_is two.house_is one.house_lawful.0 two.house_lawful.0 in
    record {
      same = e.0;
      house = flat_map frame (frames_on House acts) ++ one.house_rest;
      seller = seller;
      first = record { house_rest = one.house_rest; seller_rest = one.seller_rest; house_is = refl; seller_is = one.seller_is; house_lawful = one.house_lawful.1; seller_lawful = one.seller_lawful };
      other = record { house_rest = two.house_rest; seller_rest = two.seller_rest; house_is = e.1; seller_is = two.seller_is; house_lawful = two.house_lawful.1; seller_lawful = two.seller_lawful };
    }
go_on house seller Seller f g acts more one two =
    let e = same_front f g (frames_on Seller acts) (frames_on Seller more) seller one.seller_rest two.seller_rest one.seller_is two.seller_is one.seller_lawful.0 two.seller_lawful.0 in
    record {
      same = e.0;
      house = house;
      seller = flat_map frame (frames_on Seller acts) ++ one.seller_rest;
      first = record { house_rest = one.house_rest; seller_rest = one.seller_rest; house_is = one.house_is; seller_is = refl; house_lawful = one.house_lawful; seller_lawful = one.seller_lawful.1 };
      other = record { house_rest = two.house_rest; seller_rest = two.seller_rest; house_is = two.house_is; seller_is = e.1; house_lawful = two.house_lawful; seller_lawful = two.seller_lawful.1 };
    }

-- ---- one list begins the other

abbrev Begins : List Act → List Act → Type 0
Begins acts other = (more : List Act) × (other ≡ acts ++ more)

begins_on : (a : Act) (acts other : List Act) → Begins acts other → Begins (a ∷ acts) (a ∷ other)
begins_on a acts other is = (is.0, ap (λ (xs : List Act). a ∷ xs) is.1)

agree : (s : Start) (b : Buyer) (w : Way) (house seller : List ℕ) (acts other : List Act) → Hear acts → Hear other → Obeys s b w acts → Obeys s b w other → Stream house seller acts → Stream house seller other
    → Begins acts other ⊎ Begins other acts
agree s b w house seller [] other hear also may too one two = inl (other, refl)
agree s b w house seller (a ∷ acts) [] hear also may too one two = inr (a ∷ acts, refl)
agree s b w house seller (Starts ∷ acts) (c ∷ other) hear also may too one two = absurd hear
agree s b w house seller (Waits ∷ acts) (c ∷ other) hear also may too one two = absurd hear
agree s b w house seller (Hears p f ∷ acts) (Starts ∷ other) hear also may too one two = absurd also
agree s b w house seller (Hears p f ∷ acts) (Waits ∷ other) hear also may too one two = absurd also
agree s b w house seller (Hears p f ∷ acts) (Hears q g ∷ other) hear also may too one two =
    let same : p ≡ q = same_Some _ _ (sym may.0.0 ∙ too.0.0) in
    let P : Peer → Type 0 = λ r. Obeys s b w (Hears r g ∷ other) × Stream house seller (Hears r g ∷ other) in
    let here = subst P (sym same) (too, two) in
    let on = go_on house seller p f g acts other one here.1 in
    let Q : Frame → Type 0 = λ h. Obeys s b w (Hears p h ∷ other) in
    let obeys = subst Q (sym on.same) here.0 in
    let rest = agree s (after b (act_row s b (Hears p f))) (onward w (Hears p f) (step_at s b (Hears p f))) on.house on.seller acts other hear also may.1 obeys.1 on.first on.other in
    let R : Peer → Frame → Type 0 = λ r h. Begins (Hears p f ∷ acts) (Hears r h ∷ other) ⊎ Begins (Hears r h ∷ other) (Hears p f ∷ acts) in
    let told : R p f = ⊎_elim (λ less. inl (begins_on (Hears p f) acts other less)) (λ more. inr (begins_on (Hears p f) other acts more)) rest in
    subst (λ (x : Peer × Frame). R x.0 x.1) (λ i. (same i, on.same i)) told

-- from the outset on
agree_all : (s : Start) (b : Buyer) (house seller : List ℕ) (acts other : List Act) → Plain acts → Plain other → Obeys s b outset acts → Obeys s b outset other → Stream house seller acts → Stream house seller other
    → Begins acts other ⊎ Begins other acts
agree_all s b house seller [] other hear also may too one two = inl (other, refl)
agree_all s b house seller (a ∷ acts) [] hear also may too one two = inr (a ∷ acts, refl)
agree_all s b house seller (Hears p f ∷ acts) (c ∷ other) hear also may too one two = absurd (no_peer may.0.0)
agree_all s b house seller (Starts ∷ acts) (Hears q g ∷ other) hear also may too one two = absurd (no_peer too.0.0)
agree_all s b house seller (Waits ∷ acts) (Hears q g ∷ other) hear also may too one two = absurd (no_peer too.0.0)
agree_all s b house seller (Starts ∷ acts) (Waits ∷ other) hear also may too one two = absurd (subst IsOpen may.0.1 too.0)
agree_all s b house seller (Waits ∷ acts) (Starts ∷ other) hear also may too one two = absurd (subst IsOpen too.0.1 may.0)
agree_all s b house seller (Starts ∷ acts) (Starts ∷ other) hear also may too one two =
    ⊎_elim (λ less. inl (begins_on Starts acts other less)) (λ more. inr (begins_on Starts other acts more))
    (agree s (after b (act_row s b Starts)) (onward outset Starts (step_at s b Starts)) house seller acts other hear also may.1 too.1
    (record { house_rest = one.house_rest; seller_rest = one.seller_rest; house_is = one.house_is; seller_is = one.seller_is; house_lawful = one.house_lawful; seller_lawful = one.seller_lawful })
    (record { house_rest = two.house_rest; seller_rest = two.seller_rest; house_is = two.house_is; seller_is = two.seller_is; house_lawful = two.house_lawful; seller_lawful = two.seller_lawful }))
agree_all s b house seller (Waits ∷ acts) (Waits ∷ other) hear also may too one two =
    ⊎_elim (λ less. inl (begins_on Waits acts other less)) (λ more. inr (begins_on Waits other acts more))
    (agree s (after b (act_row s b Waits)) (onward outset Waits (step_at s b Waits)) house seller acts other hear also may.1 too.1
    (record { house_rest = one.house_rest; seller_rest = one.seller_rest; house_is = one.house_is; seller_is = one.seller_is; house_lawful = one.house_lawful; seller_lawful = one.seller_lawful })
    (record { house_rest = two.house_rest; seller_rest = two.seller_rest; house_is = two.house_is; seller_is = two.seller_is; house_lawful = two.house_lawful; seller_lawful = two.seller_lawful }))

-- ---- acts that links bring

hear_of : (acts : List Act) → AreHeard acts → Hear acts
hear_of [] heard = tt
hear_of (Hears from f ∷ acts) heard = hear_of acts heard.2
hear_of (Starts ∷ acts) heard = heard
hear_of (Waits ∷ acts) heard = heard

plain_of : (acts : List Act) → AreBrought acts → Plain acts
plain_of [] each = tt
plain_of (Starts ∷ acts) each = hear_of acts each
plain_of (Waits ∷ acts) each = hear_of acts each
plain_of (Hears from f ∷ acts) each = absurd each

heard_lawful : (p : Peer) (acts : List Act) → AreHeard acts → AllByRecursion IsFrame (frames_on p acts)
heard_lawful p [] heard = tt
heard_lawful House (Hears House f ∷ acts) heard = (heard.0, heard_lawful House acts heard.2)
heard_lawful House (Hears Seller f ∷ acts) heard = heard_lawful House acts heard.2
heard_lawful Seller (Hears House f ∷ acts) heard = heard_lawful Seller acts heard.2
heard_lawful Seller (Hears Seller f ∷ acts) heard = (heard.0, heard_lawful Seller acts heard.2)
heard_lawful p (Starts ∷ acts) heard = absurd heard
heard_lawful p (Waits ∷ acts) heard = absurd heard

brought_lawful : (p : Peer) (acts : List Act) → AreBrought acts → AllByRecursion IsFrame (frames_on p acts)
brought_lawful p [] each = tt
brought_lawful p (Starts ∷ acts) each = heard_lawful p acts each
brought_lawful p (Waits ∷ acts) each = heard_lawful p acts each
brought_lawful p (Hears from f ∷ acts) each = absurd each

-- none of the first of them is a refusal
heard_unrefused : (p : Peer) (acts more : List Act) → AreHeard (acts ++ more) → HasRefusal (frames_on p acts) → ⊥
heard_unrefused p [] more heard has = has
heard_unrefused House (Hears House f ∷ acts) more heard has = ⊎_elim heard.1 (heard_unrefused House acts more heard.2) has
heard_unrefused House (Hears Seller f ∷ acts) more heard has = heard_unrefused House acts more heard.2 has
heard_unrefused Seller (Hears House f ∷ acts) more heard has = heard_unrefused Seller acts more heard.2 has
heard_unrefused Seller (Hears Seller f ∷ acts) more heard has = ⊎_elim heard.1 (heard_unrefused Seller acts more heard.2) has
heard_unrefused p (Starts ∷ acts) more heard has = heard
heard_unrefused p (Waits ∷ acts) more heard has = heard

brought_unrefused : (p : Peer) (acts more : List Act) → AreBrought (acts ++ more) → HasRefusal (frames_on p acts) → ⊥
brought_unrefused p [] more each has = has
brought_unrefused p (Starts ∷ acts) more each has = heard_unrefused p acts more each has
brought_unrefused p (Waits ∷ acts) more each has = heard_unrefused p acts more each has
brought_unrefused p (Hears from f ∷ acts) more each has = each

-- one behind the first hears a frame
record HearsNext (c : Act) : Type 0 where
  from : Peer
  f : Frame
  is : c ≡ Hears from f
  lawful : IsFrame f

heard_next : (acts more : List Act) (c : Act) → AreHeard (acts ++ c ∷ more) → HearsNext c
heard_next [] more (Hears from f) heard = record { from = from; f = f; is = refl; lawful = heard.0 }
heard_next [] more Starts heard = absurd heard
heard_next [] more Waits heard = absurd heard
heard_next (Hears from f ∷ acts) more c heard = heard_next acts more c heard.2
heard_next (Starts ∷ acts) more c heard = absurd heard
heard_next (Waits ∷ acts) more c heard = absurd heard

brought_next : (a : Act) (acts more : List Act) (c : Act) → AreBrought (a ∷ (acts ++ c ∷ more)) → HearsNext c
brought_next Starts acts more c each = heard_next acts more c each
brought_next Waits acts more c each = heard_next acts more c each
brought_next (Hears from f) acts more c each = absurd each

own_frame : (p : Peer) (f : Frame) (acts : List Act) → frames_on p (Hears p f ∷ acts) ≡ f ∷ frames_on p acts
own_frame House f acts = refl
own_frame Seller f acts = refl

-- ---- a line over which a frame comes is not over

tells_on : (xs : List ℕ) (new : Option (List ℕ)) (bs : List ℕ) → Consumes (Some xs) new bs → (left : List ℕ) × (new ≡ Some left)
tells_on xs None bs took = absurd took
tells_on xs (Some left) bs took = (left, refl)

-- what a link gave over a line since the outset
record Gave (xs : List ℕ) (last : Line) (frames : List Frame) : Type 0 where
  left : List ℕ
  bytes : xs ≡ flat_map frame frames ++ (waiting last.wire.held ++ left)
  left_is : last.wire.link.left ≡ Some left
  lawful : AllByRecursion IsFrame frames

gave : (link : LinkSeen) (last : Line) (frames : List Frame) (sent xs : List ℕ) → link.left ≡ Some xs → LineGoes (begun link) last frames sent → Gave xs last frames
gave link last frames sent xs tells went =
    let took = subst (λ (o : Option (List ℕ)). Consumes o last.wire.link.left (joined went.received.pieces)) tells went.received.took in
    let still = tells_on xs last.wire.link.left (joined went.received.pieces) took in
    let first = received_first xs still.0 (begun link).wire last.wire frames tells still.1 refl went.received in
    record { left = still.0; bytes = first.0; left_is = still.1; lawful = first.1 }

not_over : (link : LinkSeen) (last : Line) (frames more : List Frame) (f : Frame) (sent xs rest : List ℕ) (why : Over) → link.left ≡ Some xs → LineGoes (begun link) last frames sent
    → xs ≡ flat_map frame (frames ++ f ∷ more) ++ rest → IsFrame f → (Rose link.read_faults last.wire.link.read_faults → ⊥) → (Rose link.write_faults last.wire.link.write_faults → ⊥) → (HasRefusal frames → ⊥)
    → IsOver (begun link) last frames why → ⊥
not_over link last frames more f sent xs rest why tells went bytes is no_read no_write unrefused so = by why so
  where
    g : Gave xs last frames
    g = gave link last frames sent xs tells went

    tail : List ℕ
    tail = flat_map frame more ++ rest

    whole : xs ≡ flat_map frame frames ++ (frame f ++ tail)
    whole =
        bytes ∙ ap (λ (ys : List ℕ). ys ++ rest) (flat_map-append frame frames (f ∷ more)) ∙ append_assoc (flat_map frame frames) (frame f ++ flat_map frame more) rest
        ∙ ap (λ (ys : List ℕ). flat_map frame frames ++ ys) (append_assoc (frame f) (flat_map frame more) rest)

    there : waiting last.wire.held ++ g.left ≡ frame f ++ tail
    there = append_cancel_left (flat_map frame frames) _ _ (sym g.bytes ∙ whole)

    stands : front_of (waiting last.wire.held ++ g.left) ≡ Whole f tail
    stands = ap front_of there ∙ whole_front f tail is

    never_bad : (h : HeaderFault) → front_of (waiting last.wire.held ++ g.left) ≡ Bad h → ⊥
    never_bad h bad = apart (sym stands ∙ bad)
      where
        apart : Whole f tail ≡ Bad h → ⊥
        apart e = cc

    never_short : g.left ≡ [] → IsShort (front_of (waiting last.wire.held)) → ⊥
    never_short none short =
        subst IsShort (ap front_of (sym (append-nil (waiting last.wire.held)) ∙ ap (λ (ys : List ℕ). waiting last.wire.held ++ ys) (sym none)) ∙ stands) short

    ended : (e : LinkEnd) → EndsAs (begun link).wire last.wire e → ⊥
    ended (wire_end.Ended n) so = never_short (subst IsAtEnd g.left_is so.0) so.1
    ended (wire_end.BadFrame fault) so = never_bad so.0 (bad_stays (waiting last.wire.held) g.left so.0 so.1)
    ended wire_end.ReadFault so = no_read so.0

    by : (why : Over) → IsOver (begun link) last frames why → ⊥
    by (over.Ended e) so = ended e so
    by over.WriteFault so = no_write (subst (λ (x : Sent). WroteOn All x link last.wire.link sent) so went.wrote).0
    by over.Refused so = unrefused so

-- ---- what is known of a purchase's counts

rose_to : (a b c : ℕ) → b ≤ c → Rose a b → Rose a c
rose_to a b c less rose = omega (arith, less, rose)

module _ {D : Type 0} (tells : DiskTells D) (s : Start) (old new : Around D) (ideal : List Act) (brought : IsBrought s old.buyer old.house old.seller ideal)
    (no_disk : Rose (tells.faults old.journal.disk) (tells.faults new.journal.disk) → ⊥)
    (no_read : (peer : Peer) → Rose (link_at peer old).read_faults (link_at peer new).read_faults → ⊥)
    (no_write : (peer : Peer) → Rose (link_at peer old).write_faults (link_at peer new).write_faults → ⊥) where
  -- the counts of a point are no more than those behind the purchase
  record IsEarlier (q : Point D) : Type 0 where
    disk : tells.faults q.journal.disk ≤ tells.faults new.journal.disk
    reads : (peer : Peer) → (line_at peer q.lines).wire.link.read_faults ≤ (link_at peer new).read_faults
    writes : (peer : Peer) → (line_at peer q.lines).wire.link.write_faults ≤ (link_at peer new).write_faults

  gives : (p : Peer) → Gives (link_at p old) (frames_on p ideal)
  gives House = brought.house
  gives Seller = brought.seller

  abbrev bytes_of : Peer → List ℕ
  bytes_of p = flat_map frame (frames_on p ideal) ++ (gives p).0

  line_went : (p : Peer) (q : Point D) (acts : List Act) → Went tells s (first_point old) q acts → LineGoes (begun (link_at p old)) (line_at p q.lines) (frames_on p acts) (bytes_to p s old.buyer acts)
  line_went House q acts went = went.house
  line_went Seller q acts went = went.seller

  ideal_stream : Stream (bytes_of House) (bytes_of Seller) ideal
  ideal_stream = record {
    house_rest = (gives House).0;
    seller_rest = (gives Seller).0;
    house_is = refl;
    seller_is = refl;
    house_lawful = brought_lawful House ideal brought.each;
    seller_lawful = brought_lawful Seller ideal brought.each;
  }

  stream_over : (acts : List Act) (house seller : Line) (h r : List ℕ) → LineGoes (begun old.house) house (frames_on House acts) h → LineGoes (begun old.seller) seller (frames_on Seller acts) r → Stream (bytes_of House) (bytes_of Seller) acts
  stream_over acts house seller h r one two =
      let first = gave old.house house (frames_on House acts) h (bytes_of House) (gives House).1 one in
      let other = gave old.seller seller (frames_on Seller acts) r (bytes_of Seller) (gives Seller).1 two in
      record {
        house_rest = waiting house.wire.held ++ first.left;
        seller_rest = waiting seller.wire.held ++ other.left;
        house_is = first.bytes;
        seller_is = other.bytes;
        house_lawful = first.lawful;
        seller_lawful = other.lawful;
      }

  -- plain acts over the links are those that were brought, or the first of them
  abbrev Within : List Act → Type 0
  Within acts = (acts ≡ ideal) ⊎ ((c : Act) × (more : List Act) × (ideal ≡ acts ++ c ∷ more))

  within : (acts : List Act) → Plain acts → Obeys s old.buyer outset acts → Stream (bytes_of House) (bytes_of Seller) acts → Within acts
  within acts plain obeys stream =
      ⊎_elim (λ less. first less.0 less.1) (λ more. other more.0 more.1)
      (agree_all s old.buyer (bytes_of House) (bytes_of Seller) acts ideal plain (plain_of ideal brought.each) obeys brought.obeys stream ideal_stream)
    where
      first : (more : List Act) → ideal ≡ acts ++ more → Within acts
      first [] is = inl (sym (is ∙ append-nil acts))
      first (c ∷ more) is = inr (c, more, is)

      other : (more : List Act) → acts ≡ ideal ++ more → Within acts
      other [] is = inl (is ∙ append-nil ideal)
      other (c ∷ more) is =
          let parts = obeys_parts s old.buyer outset ideal (c ∷ more) (subst (Obeys s old.buyer outset) is obeys) in
          absurd (no_more (phase_for s (buyer_behind s old.buyer ideal)) (way_behind s old.buyer outset ideal) c brought.over parts.1.0)

  -- behind the first of them one more may come
  may_next : (acts more : List Act) (c : Act) → ideal ≡ acts ++ c ∷ more → MayAct (phase_for s (buyer_behind s old.buyer acts)) (way_of s old.buyer acts) c
  may_next acts more c is = (obeys_parts s old.buyer outset acts (c ∷ more) (subst (Obeys s old.buyer outset) is brought.obeys)).1.0

  -- where an answer is waited for that comes, it is not over
  not_stalled : (q : Point D) (acts more : List Act) (c : Act) (peer : Peer) (why : Over) → IsEarlier q → Went tells s (first_point old) q acts → ideal ≡ acts ++ c ∷ more
      → (way_of s old.buyer acts).awaits ≡ Some peer → IsOverAt (first_point old) q acts peer why → ⊥
  not_stalled q [] more c peer why earlier went is awaits so = no_peer awaits
  not_stalled q (a ∷ acts) more c peer why earlier went is awaits so =
      let next = brought_next a acts more c (subst AreBrought is brought.each) in
      by next.from next.f next.lawful next.is (subst (MayAct (phase_for s (buyer_behind s old.buyer (a ∷ acts))) (way_of s old.buyer (a ∷ acts))) next.is (may_next (a ∷ acts) more c is))
    where
      by : (from : Peer) (f : Frame) → IsFrame f → c ≡ Hears from f → MayAct (phase_for s (buyer_behind s old.buyer (a ∷ acts))) (way_of s old.buyer (a ∷ acts)) (Hears from f) → ⊥
      by from f lawful hears may =
          let same : from ≡ peer = same_Some _ _ (sym may.0 ∙ awaits) in
          let frames : frames_on peer ideal ≡ frames_on peer (a ∷ acts) ++ f ∷ frames_on peer more =
          ap (frames_on peer) (is ∙ ap (λ (x : Act). (a ∷ acts) ++ x ∷ more) (hears ∙ ap (λ (p : Peer). Hears p f) same))
          ∙ frames_both peer (a ∷ acts) (Hears peer f ∷ more) ∙ ap (λ (xs : List Frame). frames_on peer (a ∷ acts) ++ xs) (own_frame peer f more) in
          not_over (link_at peer old) (line_at peer q.lines) (frames_on peer (a ∷ acts)) (frames_on peer more) f (bytes_to peer s old.buyer (a ∷ acts)) (bytes_of peer) (gives peer).0 why
          (gives peer).1 (line_went peer q (a ∷ acts) went) (ap (λ (xs : List Frame). flat_map frame xs ++ (gives peer).0) frames) lawful
          (λ rose. no_read peer (rose_to _ _ _ (earlier.reads peer) rose)) (λ rose. no_write peer (rose_to _ _ _ (earlier.writes peer) rose))
          (brought_unrefused peer (a ∷ acts) (c ∷ more) (subst AreBrought is brought.each)) so_at
        where
          over_line : (p : Peer) → IsOverAt (first_point old) q (a ∷ acts) p why → IsOver (begun (link_at p old)) (line_at p q.lines) (frames_on p (a ∷ acts)) why
          over_line House is_so = is_so
          over_line Seller is_so = is_so

          so_at : IsOver (begun (link_at peer old)) (line_at peer q.lines) (frames_on peer (a ∷ acts)) why
          so_at = over_line peer so

  earlier_of : (q r : Point D) (acts : List Act) → Went tells s q r acts → IsEarlier r → IsEarlier q
  earlier_of q r acts went earlier = record {
    disk = omega (arith, went.journal.count, earlier.disk);
    reads = reads;
    writes = writes;
  }
    where
      reads : (peer : Peer) → (line_at peer q.lines).wire.link.read_faults ≤ (link_at peer new).read_faults
      reads House = omega (arith, went.house.received.read_count, earlier.reads House)
      reads Seller = omega (arith, went.seller.received.read_count, earlier.reads Seller)

      writes : (peer : Peer) → (line_at peer q.lines).wire.link.write_faults ≤ (link_at peer new).write_faults
      writes House = omega (arith, went.house.received.write_count, earlier.writes House)
      writes Seller = omega (arith, went.seller.received.write_count, earlier.writes Seller)

  -- the house is not asked for want of the seller's answer
  not_asked : (q : Point D) (t : Traded tells s (first_point old) q) → IsEarlier q → (way_of s old.buyer t.acts).asked ≡ true → ⊥
  not_asked q t earlier asked = by (t.asked_for asked)
    where
      by : AskedFor tells s (first_point old) q t.acts → ⊥
      by x =
          let parts = obeys_parts s old.buyer outset x.before (Waits ∷ x.later) (subst (Obeys s old.buyer outset) x.acts_are t.obeys) in
          let before = earlier_of x.mid q (Waits ∷ x.later) x.more earlier in
          let told = phase_for s (buyer_behind s old.buyer x.before) in
          let w = way_of s old.buyer x.before in
          let asks = stall_asks told w Seller (step_at s (buyer_behind s old.buyer x.before) Waits) x.awaited parts.1.0 in
          let plain = ⊎_elim (λ (is : Plain x.before). is) (λ (is : w.asked ≡ true). absurd (true≢false (sym is ∙ asks.0))) (plain_or_asked s old.buyer x.before parts.0) in
          ⊎_elim (λ (same : x.before ≡ ideal). no_more told w Waits (subst (λ (acts : List Act). HasEnded (phase_for s (buyer_behind s old.buyer acts))) (sym same) brought.over) parts.1.0)
          (λ less. not_stalled x.mid x.before less.1 less.0 Seller x.why before x.first less.2 x.awaited x.over_is)
          (within x.before plain parts.0 (stream_over x.before x.mid.lines.house x.mid.lines.seller _ _ x.first.house x.first.seller))

  plain_trade : (q : Point D) (t : Traded tells s (first_point old) q) → IsEarlier q → Plain t.acts
  plain_trade q t earlier = ⊎_elim (λ is. is) (λ asked. absurd (not_asked q t earlier asked)) (plain_or_asked s old.buyer t.acts t.obeys)

  within_trade : (q : Point D) (t : Traded tells s (first_point old) q) → IsEarlier q → Within t.acts
  within_trade q t earlier = within t.acts (plain_trade q t earlier) t.obeys (stream_over t.acts q.lines.house q.lines.seller _ _ t.went.house t.went.seller)

  buyer_at : (q : Point D) (t : Traded tells s (first_point old) q) → t.acts ≡ ideal → q.buyer ≡ buyer_behind s old.buyer ideal
  buyer_at q t same = t.went.buyer ∙ ap (buyer_behind s old.buyer) same

  -- an end is the one that was brought
  finished : (q : Point D) → Finished tells s (first_point old) q → IsEarlier q → q.buyer ≡ buyer_behind s old.buyer ideal
  finished q is earlier =
      ⊎_elim (buyer_at q is.traded)
      (λ less. absurd (no_more (phase_for s (buyer_behind s old.buyer is.traded.acts)) (way_of s old.buyer is.traded.acts) less.0
      (subst (λ (b : Buyer). HasEnded (phase_for s b)) is.traded.went.buyer is.over) (may_next is.traded.acts less.1 less.0 less.2)))
      (within_trade q is.traded earlier)

  -- and no purchase that goes on is at it
  still_short : (q : Point D) (t : Traded tells s (first_point old) q) → IsEarlier q → IsOpen (phase_for s q.buyer) → (c : Act) × (more : List Act) × (ideal ≡ t.acts ++ c ∷ more)
  still_short q t earlier going =
      ⊎_elim (λ same. absurd (over_apart (phase_for s q.buyer) (subst (λ (b : Buyer). HasEnded (phase_for s b)) (sym (buyer_at q t same)) brought.over) going)) (λ less. less)
      (within_trade q t earlier)

  not_stopped : (q : Point D) (peer : Peer) (why : Over) → Stopped tells s (first_point old) q peer why → IsEarlier q → ⊥
  not_stopped q peer why is earlier =
      let less = still_short q is.traded earlier is.going in
      not_stalled q is.traded.acts less.1 less.0 peer why earlier is.traded.went less.2 is.awaited is.over

  not_spent : (q : Point D) → Spent tells s (first_point old) q → IsEarlier q → ⊥
  not_spent q is earlier =
      let less = still_short q is.traded earlier is.going in
      by is.traded.acts less.1 less.0 less.2 is.count
    where
      by : (acts more : List Act) (c : Act) → ideal ≡ acts ++ c ∷ more → length (frames_of acts) ≡ MOST_FRAMES → ⊥
      by [] more c e count = omega (arith, count)
      by (a ∷ acts) more c e count =
          let next = brought_next a acts more c (subst AreBrought e brought.each) in
          let all : frames_of ideal ≡ frames_of (a ∷ acts) ++ next.f ∷ frames_of more =
          ap frames_of (e ∙ ap (λ (x : Act). (a ∷ acts) ++ x ∷ more) next.is) ∙ heard_both (a ∷ acts) (Hears next.from next.f ∷ more) in
          omega (arith, brought.few, count, ap length all, length-append (frames_of (a ∷ acts)) (next.f ∷ frames_of more))

  -- ---- a step that was lost

  waits_open : (told : Option Phase) (awaits : Option Peer) (asked : Bool) → MayWait told awaits asked → IsOpen told
  waits_open told None asked may = may
  waits_open told (Some House) asked may = absurd may
  waits_open (Some phase.Ordered) (Some Seller) asked may = tt
  waits_open None (Some Seller) asked may = absurd may.0
  waits_open (Some phase.Ticketing) (Some Seller) asked may = absurd may.0
  waits_open (Some phase.Asked) (Some Seller) asked may = absurd may.0
  waits_open (Some phase.Wanted) (Some Seller) asked may = absurd may.0
  waits_open (Some (phase.Paid len)) (Some Seller) asked may = absurd may.0
  waits_open (Some (phase.Refused code)) (Some Seller) asked may = absurd may.0
  waits_open (Some phase.Foul) (Some Seller) asked may = absurd may.0

  -- the last message again keeps nothing
  waits_keep : (b : Buyer) (w : Way) → MayAct (phase_for s b) w Waits → kept_by s b (Waits ∷ []) ≡ []
  waits_keep b w may =
      let moves = silent_moves b s.transaction (waits_open (phase_for s b) w.awaits w.asked may) in
      ap (λ (done : Step). flat_map kept_in (done ∷ [])) moves.2

  asks_same : (before : Bool) (c : Act) (awaits : Option Peer) → (c ≡ Waits → ⊥) → asks before c awaits ≡ before
  asks_same before Starts awaits other = refl
  asks_same before (Hears from f) awaits other = refl
  asks_same before Waits awaits other = absurd (other refl)

  -- an act behind a trade that keeps an item, over the lines of another point, is one of those that were brought
  kept_within : (mid : Point D) (t : Traded tells s (first_point old) mid) (c : Act) (house seller : Line) (h r item : List ℕ) → IsEarlier mid → Obeys s old.buyer outset (t.acts ++ c ∷ [])
      → LineGoes (begun old.house) house (frames_on House (t.acts ++ c ∷ [])) h → LineGoes (begun old.seller) seller (frames_on Seller (t.acts ++ c ∷ [])) r
      → kept_by s mid.buyer (c ∷ []) ≡ item ∷ [] → Within (t.acts ++ c ∷ [])
  kept_within mid t c house seller h r item earlier obeys one two kept = within (t.acts ++ c ∷ []) plain obeys (stream_over (t.acts ++ c ∷ []) house seller h r one two)
    where
      parts : Obeys s old.buyer outset t.acts × Obeys s (buyer_behind s old.buyer t.acts) (way_of s old.buyer t.acts) (c ∷ [])
      parts = obeys_parts s old.buyer outset t.acts (c ∷ []) obeys

      here : MayAct (phase_for s mid.buyer) (way_of s old.buyer t.acts) c
      here = subst (λ (b : Buyer). MayAct (phase_for s b) (way_of s old.buyer t.acts) c) (sym t.went.buyer) parts.1.0

      no_wait : c ≡ Waits → ⊥
      no_wait is =
          let none : kept_by s mid.buyer (c ∷ []) ≡ [] =
          ap (λ (x : Act). kept_by s mid.buyer (x ∷ [])) is ∙ waits_keep mid.buyer (way_of s old.buyer t.acts) (subst (MayAct (phase_for s mid.buyer) (way_of s old.buyer t.acts)) is here) in
          apart (sym none ∙ kept)
        where
          apart : [] ≡ item ∷ [] → ⊥
          apart e = cc

      unasked : (way_of s old.buyer (t.acts ++ c ∷ [])).asked ≡ true → ⊥
      unasked asked =
          not_asked mid t earlier
          (sym (asks_same (way_of s old.buyer t.acts).asked c (way_of s old.buyer t.acts).awaits no_wait)
          ∙ sym (ap (λ (x : Way). x.asked) (way_both s old.buyer outset t.acts (c ∷ []))) ∙ asked)

      plain : Plain (t.acts ++ c ∷ [])
      plain = ⊎_elim (λ is. is) (λ asked. absurd (unasked asked)) (plain_or_asked s old.buyer (t.acts ++ c ∷ []) obeys)

  -- so there is room for it
  has_room : (front : List ℕ) (items : List (List ℕ)) (mid : Point D) (t : Traded tells s (first_point old) mid) (c : Act) (item : List ℕ) → AtRest tells front items old.journal
      → length items + length (kept_by s old.buyer ideal) ≤ old.journal.cap → kept_by s mid.buyer (c ∷ []) ≡ item ∷ [] → Within (t.acts ++ c ∷ []) → mid.journal.cap ≤ mid.journal.len → ⊥
  has_room front items mid t c item rest room kept (inl same) full =
      let all : kept_by s old.buyer ideal ≡ kept_by s old.buyer t.acts ++ item ∷ [] =
      ap (kept_by s old.buyer) (sym same) ∙ kept_both s old.buyer t.acts (c ∷ []) ∙ ap (λ (xs : List (List ℕ)). kept_by s old.buyer t.acts ++ xs) (ap (λ (b : Buyer). kept_by s b (c ∷ [])) (sym t.went.buyer) ∙ kept) in
      let now = t.went.journal.items front items rest in
      omega (arith, room, full, t.went.journal.cap, now.count, length-append items (kept_by s old.buyer t.acts), ap length all, length-append (kept_by s old.buyer t.acts) (item ∷ []))
  has_room front items mid t c item rest room kept (inr less) full =
      let more = kept_by s (buyer_behind s old.buyer (t.acts ++ c ∷ [])) (less.0 ∷ less.1) in
      let all : kept_by s old.buyer ideal ≡ (kept_by s old.buyer t.acts ++ item ∷ []) ++ more =
      ap (kept_by s old.buyer) less.2 ∙ kept_both s old.buyer (t.acts ++ c ∷ []) (less.0 ∷ less.1)
      ∙ ap (λ (xs : List (List ℕ)). xs ++ more) (kept_both s old.buyer t.acts (c ∷ []) ∙ ap (λ (xs : List (List ℕ)). kept_by s old.buyer t.acts ++ xs) (ap (λ (b : Buyer). kept_by s b (c ∷ [])) (sym t.went.buyer) ∙ kept)) in
      let now = t.went.journal.items front items rest in
      omega (arith, room, full, t.went.journal.cap, now.count, length-append items (kept_by s old.buyer t.acts), ap length all, length-append (kept_by s old.buyer t.acts ++ item ∷ []) more, length-append (kept_by s old.buyer t.acts) (item ∷ []))

  -- what the lines were behind the lost step, from the outset on
  lost_line : (p : Peer) (q : Point D) (why : Lost) (x : TradeLost tells s (first_point old) q why) → LineGoes (line_at p x.mid.lines) (line_at p q.lines) (frames_on p x.last) []
  lost_line House q why x = x.loses.house
  lost_line Seller q why x = x.loses.seller

  joined_line : (p : Peer) (q : Point D) (why : Lost) (x : TradeLost tells s (first_point old) q why) → (bytes : List ℕ) × LineGoes (begun (link_at p old)) (line_at p q.lines) (frames_on p (x.traded.acts ++ x.last)) bytes
  joined_line p q why x = (
    bytes_to p s old.buyer x.traded.acts ++ [],
    subst (λ (frames : List Frame). LineGoes (begun (link_at p old)) (line_at p q.lines) frames (bytes_to p s old.buyer x.traded.acts ++ [])) (sym (frames_both p x.traded.acts x.last))
        (line_both (begun (link_at p old)) (line_at p x.mid.lines) (line_at p q.lines) (frames_on p x.traded.acts) (frames_on p x.last) (bytes_to p s old.buyer x.traded.acts) []
        (line_went p x.mid x.traded.acts x.traded.went) (lost_line p q why x)),
  )

  not_full : (q : Point D) (cap : ℕ) (front : List ℕ) (items : List (List ℕ)) (x : TradeLost tells s (first_point old) q (lost.Full cap)) → IsEarlier x.mid → AtRest tells front items old.journal
      → length items + length (kept_by s old.buyer ideal) ≤ old.journal.cap → ⊥
  not_full q cap front items x earlier rest room = by x.last refl x.one
    where
      by : (last : List Act) → x.last ≡ last → length last ≤ 1 → ⊥
      by [] is one = apart (sym (ap (kept_by s x.mid.buyer) is) ∙ x.loses.journal.3.1)
        where
          apart : [] ≡ x.loses.journal.3.0 ∷ [] → ⊥
          apart e = cc
      by (c ∷ []) is one =
          let kept : kept_by s x.mid.buyer (c ∷ []) ≡ x.loses.journal.3.0 ∷ [] = sym (ap (kept_by s x.mid.buyer) is) ∙ x.loses.journal.3.1 in
          let obeys = subst (λ (last : List Act). Obeys s old.buyer outset (x.traded.acts ++ last)) is x.obeys in
          let h = joined_line House q (lost.Full cap) x in
          let r = joined_line Seller q (lost.Full cap) x in
          let inside = kept_within x.mid x.traded c q.lines.house q.lines.seller h.0 r.0 x.loses.journal.3.0 earlier obeys
          (subst (λ (last : List Act). LineGoes (begun old.house) q.lines.house (frames_on House (x.traded.acts ++ last)) h.0) is h.1)
          (subst (λ (last : List Act). LineGoes (begun old.seller) q.lines.seller (frames_on Seller (x.traded.acts ++ last)) r.0) is r.1) kept in
          has_room front items x.mid x.traded c x.loses.journal.3.0 rest room kept inside x.loses.journal.2
      by (c ∷ d ∷ last) is one = omega (arith, one)

  not_faulty : (q : Point D) (before after : ℕ) (x : TradeLost tells s (first_point old) q (lost.DiskFault before after)) → tells.faults q.journal.disk ≤ tells.faults new.journal.disk → ⊥
  not_faulty q before after x less =
      no_disk (omega (arith, less, x.traded.went.journal.count, x.loses.journal.0, x.loses.journal.1, x.loses.journal.2))

-- ---- goods

-- only a purchase that was paid has some
goods_paid : (o : Option Purchase) (goods : List ℕ) (end : BuyEnd) → goods_in o ≡ Some goods → HasEnded (phase_in o) → end ≡ ends.Paid → EndsAsOver (phase_in o) end
goods_paid None goods end have over is = absurd over
goods_paid (Some p) goods end have over is = by p.stage p.held have over
  where
    by : (at : Stage) (held : List ℕ) → goods_of at held ≡ Some goods → HasEnded (Some (phase_of at held)) → EndsAsOver (Some (phase_of at held)) end
    by (stage.Paid key) held have over = is
    by (stage.Refused code) held have over = absurd cc
    by stage.Foul held have over = absurd cc
    by stage.Ticketing held have over = absurd over
    by (stage.Asked pass) held have over = absurd over
    by (stage.Wanted pass price head) held have over = absurd over
    by (stage.Ordered pass order least) held have over = absurd over

unpaid_over : (told : Option Phase) (end : BuyEnd) → IsUnpaid told → end ≡ ends.Unpaid → EndsAsOver told end
unpaid_over None end unpaid is = absurd unpaid
unpaid_over (Some phase.Ticketing) end unpaid is = absurd unpaid
unpaid_over (Some phase.Asked) end unpaid is = absurd unpaid
unpaid_over (Some phase.Wanted) end unpaid is = absurd unpaid
unpaid_over (Some phase.Ordered) end unpaid is = absurd unpaid
unpaid_over (Some (phase.Paid len)) end unpaid is = absurd unpaid
unpaid_over (Some (phase.Refused code)) end unpaid is = is
unpaid_over (Some phase.Foul) end unpaid is = is

-- ---- the law

pub comes_to_its_end : {D : Type 0} (tells : DiskTells D) → ComesToItsEnd tells
comes_to_its_end {D} tells s old new end b before after sent sent' goods front items rest ideal brought room none = by end b goods
  where
    last_earlier : (q : Point D) → IsLast q new → IsEarlier tells s old new ideal brought none.disk none.reads none.writes q
    last_earlier q is = record {
      disk = omega (arith, ap (λ (j : Journal D). tells.faults j.disk) is.journal);
      reads = reads;
      writes = writes;
    }
      where
        reads : (peer : Peer) → (line_at peer q.lines).wire.link.read_faults ≤ (link_at peer new).read_faults
        reads House = omega (arith, ap (λ (l : LinkSeen). l.read_faults) is.house)
        reads Seller = omega (arith, ap (λ (l : LinkSeen). l.read_faults) is.seller)

        writes : (peer : Peer) → (line_at peer q.lines).wire.link.write_faults ≤ (link_at peer new).write_faults
        writes House = omega (arith, ap (λ (l : LinkSeen). l.write_faults) is.house)
        writes Seller = omega (arith, ap (λ (l : LinkSeen). l.write_faults) is.seller)

    buyer_is : (q : Point D) → IsLast q new → Finished tells s (first_point old) q → new.buyer ≡ buyer_behind s old.buyer ideal
    buyer_is q is done = is.buyer ∙ finished tells s old new ideal brought none.disk none.reads none.writes q done (last_earlier q is)

    over_now : (q : Point D) → IsLast q new → Finished tells s (first_point old) q → HasEnded (phase_for s new.buyer)
    over_now q is done = subst (λ (c : Buyer). HasEnded (phase_for s c)) (sym is.buyer) done.over

    mid_earlier : (q : Point D) (why : Lost) → IsLast q new → (x : TradeLost tells s (first_point old) q why) → tells.faults x.mid.journal.disk ≤ tells.faults q.journal.disk
        → IsEarlier tells s old new ideal brought none.disk none.reads none.writes x.mid
    mid_earlier q why is x less = record {
      disk = omega (arith, less, (last_earlier q is).disk);
      reads = reads;
      writes = writes;
    }
      where
        reads : (peer : Peer) → (line_at peer x.mid.lines).wire.link.read_faults ≤ (link_at peer new).read_faults
        reads House = omega (arith, x.loses.house.received.read_count, (last_earlier q is).reads House)
        reads Seller = omega (arith, x.loses.seller.received.read_count, (last_earlier q is).reads Seller)

        writes : (peer : Peer) → (line_at peer x.mid.lines).wire.link.write_faults ≤ (link_at peer new).write_faults
        writes House = omega (arith, x.loses.house.received.write_count, (last_earlier q is).writes House)
        writes Seller = omega (arith, x.loses.seller.received.write_count, (last_earlier q is).writes Seller)

    by : (end : BuyEnd) (b : Bought tells s old new end) → WritesGoods s new.buyer before after sent sent' end → (end ≡ ends.Lost lost.NoMemory) ⊎ ((new.buyer ≡ buyer_behind s old.buyer ideal) × EndsAsOver (phase_for s new.buyer) end)
    by ends.Paid b goods =
        inr (buyer_is b.last b.last_is b.ended, goods_paid (purchase_of new.buyer s.transaction) goods.0 ends.Paid goods.1 (over_now b.last b.last_is b.ended) refl)
    by ends.Unpaid b goods = inr (buyer_is b.last b.last_is b.ended, unpaid_over (phase_for s new.buyer) ends.Unpaid goods refl)
    by ends.SinkFault b goods = absurd (none.output goods.2)
    by (ends.Stopped peer why) b goods = absurd (not_stopped tells s old new ideal brought none.disk none.reads none.writes b.last peer why b.ended (last_earlier b.last b.last_is))
    by ends.Spent b goods = absurd (not_spent tells s old new ideal brought none.disk none.reads none.writes b.last b.ended (last_earlier b.last b.last_is))
    by (ends.Lost lost.NoMemory) b goods = inl refl
    by (ends.Lost (lost.Full cap)) b goods =
        let same : tells.faults b.ended.mid.journal.disk ≤ tells.faults b.last.journal.disk = omega (arith, ap (λ (j : Journal D). tells.faults j.disk) b.ended.loses.journal.0) in
        absurd (not_full tells s old new ideal brought none.disk none.reads none.writes b.last cap front items b.ended (mid_earlier b.last (lost.Full cap) b.last_is b.ended same) rest room)
    by (ends.Lost (lost.DiskFault x y)) b goods =
        absurd (not_faulty tells s old new ideal brought none.disk none.reads none.writes b.last x y b.ended (last_earlier b.last b.last_is).disk)
