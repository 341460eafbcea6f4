use Rattle.std.proofs.Common.{◌≡◌, ℕ, Bool, true, Ok, Err, sym, ap, subst, ◌∙◌, arith}
use Rattle.nb_buy.specs.declared.peer.Peer.{Peer}
use Rattle.nb_buy.specs.declared.peer.Peer.TheVariants.{Seller}
use Rattle.nb_buy.specs.declared.peer.Next.{Next}
use Rattle.nb_buy.specs.declared.peer.Next.TheVariants as next
use Rattle.nb_buy.specs.Run.{Waits, phase_for}
use Rattle.nb_buy.specs.Bought.{point}
use Rattle.nb_buy.specs.Steps.{Carries, Ran, lines_of}
use Rattle.nb_buy.proofs.HowFar.{MayAsk, open_is, over_is, asks_is, turn_is}
use Rattle.nb_buy.proofs.OverLines.{near_same}
use Rattle.nb_buy.proofs.Rounds.{next_rank, open_waited, ran_asks, lost_asks, ran_listened, lost_listened, listened_less, finished, stopped, spent}
use Rattle.nb_buy.proofs.trading.trade.Goals as goal

pub returns-then-is_over : goal.returns-then-is_over
returns-then-is_over g c =
    let tells = g.D.Disk.tells in
    let s = c.args.start.now in
    let p = point c.args.journal.now c.args.consumer.now (lines_of (g.L.Link.seen c.args.server.now) (g.L.Link.seen c.args.seller.now) c.args.sides.now) in
    let q = point c.trading.journal c.trading.consumer (lines_of (g.L.Link.seen c.trading.server) (g.L.Link.seen c.trading.seller) c.trading.sides) in
    let r = point c.listen.new.journal c.listen.new.consumer (lines_of (g.L.Link.seen c.listen.new.server) (g.L.Link.seen c.listen.new.seller) c.listen.new.sides) in (
      finished tells s p q r c.trading.asked c.in-Awaits.peer c.in-Ok-listen.listened c.trading.sides.read c.listen.new.sides.read c.listen.ensures.near.few
          (subst (λ (n : Next). Ran tells s p q c.trading.asked n c.trading.sides.read) c.in-Awaits.is c.trading.invariant.ran) c.trading.invariant.going (c.in-Ok-listen.ensures.listens s)
          (over_is (phase_for s c.listen.new.consumer) c.standing_of-behind.result c.standing_of-behind.ensures (sym c.is_over.ensures ∙ c.if-is_over.true)),
      c.in-Ok-listen.ensures.goods s c.trading.invariant.going,
    )

pub returns-then-not-may_ask : goal.returns-then-not-may_ask
returns-then-not-may_ask g c =
    let tells = g.D.Disk.tells in
    let s = c.args.start.now in
    let p = point c.args.journal.now c.args.consumer.now (lines_of (g.L.Link.seen c.args.server.now) (g.L.Link.seen c.args.seller.now) c.args.sides.now) in
    let q = point c.trading.journal c.trading.consumer (lines_of (g.L.Link.seen c.trading.server) (g.L.Link.seen c.trading.seller) c.trading.sides) in
    let told = phase_for s c.trading.consumer in
    let stands = c.standing_of-stands.result in
    stopped tells s p q c.trading.asked c.in-Over.peer c.in-Over.why c.trading.sides.read c.trading.invariant.near.few
    (subst (λ (n : Next). Ran tells s p q c.trading.asked n c.trading.sides.read) c.in-Over.is c.trading.invariant.ran)
    c.trading.invariant.going
    (turn_is told c.trading.asked c.in-Over.peer stands c.standing_of-stands.ensures (sym c.may_ask.ensures ∙ c.if-not-may_ask.true))

pub returns-in-Err-go_on : goal.returns-in-Err-go_on
returns-in-Err-go_on g c =
    let tells = g.D.Disk.tells in
    let s = c.args.start.now in
    let p = point c.args.journal.now c.args.consumer.now (lines_of (g.L.Link.seen c.args.server.now) (g.L.Link.seen c.args.seller.now) c.args.sides.now) in
    let q = point c.trading.journal c.trading.consumer (lines_of (g.L.Link.seen c.trading.server) (g.L.Link.seen c.trading.seller) c.trading.sides) in
    let r = point c.go_on.new.journal c.go_on.new.consumer (lines_of (g.L.Link.seen c.go_on.new.server) (g.L.Link.seen c.go_on.new.seller) c.go_on.new.sides) in
    let may : MayAsk (phase_for s c.trading.consumer) c.trading.asked c.in-Over.peer =
    asks_is (phase_for s c.trading.consumer) c.trading.asked c.in-Over.peer c.standing_of-stands.result c.standing_of-stands.ensures (sym c.may_ask.ensures ∙ c.if-not-may_ask.false) in
    let is : c.trading.next ≡ next.Over Seller c.in-Over.why = c.in-Over.is ∙ ap (λ (peer : Peer). next.Over peer c.in-Over.why) may.seller in
    lost_asks tells s p q r c.in-Over.why c.in-Err-go_on.why c.trading.sides.read c.trading.invariant.near.few
    (subst (λ (x : Bool × Next). Ran tells s p q x.0 x.1 c.trading.sides.read) (λ i. (may.fresh i, is i)) c.trading.invariant.ran) may.ordered
    (subst (λ (peer : Peer). Carries tells s q r peer Waits (Err c.in-Err-go_on.why)) may.seller c.in-Err-go_on.ensures.carries)

pub trading-preserved-in-Over : goal.trading-preserved-in-Over
trading-preserved-in-Over g c =
    let tells = g.D.Disk.tells in
    let s = c.args.start.now in
    let p = point c.args.journal.now c.args.consumer.now (lines_of (g.L.Link.seen c.args.server.now) (g.L.Link.seen c.args.seller.now) c.args.sides.now) in
    let q = point c.trading.journal c.trading.consumer (lines_of (g.L.Link.seen c.trading.server) (g.L.Link.seen c.trading.seller) c.trading.sides) in
    let r = point c.go_on.new.journal c.go_on.new.consumer (lines_of (g.L.Link.seen c.go_on.new.server) (g.L.Link.seen c.go_on.new.seller) c.go_on.new.sides) in
    let may : MayAsk (phase_for s c.trading.consumer) c.trading.asked c.in-Over.peer =
    asks_is (phase_for s c.trading.consumer) c.trading.asked c.in-Over.peer c.standing_of-stands.result c.standing_of-stands.ensures (sym c.may_ask.ensures ∙ c.if-not-may_ask.false) in
    let is : c.trading.next ≡ next.Over Seller c.in-Over.why = c.in-Over.is ∙ ap (λ (peer : Peer). next.Over peer c.in-Over.why) may.seller in
    record {
      ran = subst (λ (k : ℕ). Ran tells s p r true c.in-Ok.behind k) (sym c.go_on.ensures.readers.read)
          (ran_asks tells s p q r c.in-Over.why c.in-Ok.behind c.trading.sides.read
          (subst (λ (x : Bool × Next). Ran tells s p q x.0 x.1 c.trading.sides.read) (λ i. (may.fresh i, is i)) c.trading.invariant.ran) may.ordered
          (subst (λ (peer : Peer). Carries tells s q r peer Waits (Ok c.in-Ok.behind)) may.seller c.in-Ok.ensures.carries));
      near = near_same c.trading.sides c.go_on.new.sides c.go_on.ensures.readers c.trading.invariant.near;
      going = open_waited tells s q r c.in-Over.peer c.in-Ok.behind c.trading.invariant.going c.in-Ok.ensures.carries;
    }

pub returns-then-sides-ge-MOST_FRAMES : goal.returns-then-sides-ge-MOST_FRAMES
returns-then-sides-ge-MOST_FRAMES g c =
    let tells = g.D.Disk.tells in
    let s = c.args.start.now in
    let p = point c.args.journal.now c.args.consumer.now (lines_of (g.L.Link.seen c.args.server.now) (g.L.Link.seen c.args.seller.now) c.args.sides.now) in
    let q = point c.trading.journal c.trading.consumer (lines_of (g.L.Link.seen c.trading.server) (g.L.Link.seen c.trading.seller) c.trading.sides) in
    spent tells s p q c.trading.asked c.in-Awaits.peer c.trading.sides.read
    (subst (λ (n : Next). Ran tells s p q c.trading.asked n c.trading.sides.read) c.in-Awaits.is c.trading.invariant.ran)
    c.trading.invariant.going
    (omega (arith, c.if-sides-ge-MOST_FRAMES.true, c.trading.invariant.near.few))

pub trading-preserved : goal.trading-preserved
trading-preserved g c =
    let tells = g.D.Disk.tells in
    let s = c.args.start.now in
    let p = point c.args.journal.now c.args.consumer.now (lines_of (g.L.Link.seen c.args.server.now) (g.L.Link.seen c.args.seller.now) c.args.sides.now) in
    let q = point c.trading.journal c.trading.consumer (lines_of (g.L.Link.seen c.trading.server) (g.L.Link.seen c.trading.seller) c.trading.sides) in
    let r = point c.listen.new.journal c.listen.new.consumer (lines_of (g.L.Link.seen c.listen.new.server) (g.L.Link.seen c.listen.new.seller) c.listen.new.sides) in
    let ran = ran_listened tells s p q r c.trading.asked c.in-Awaits.peer c.in-Ok-listen.listened c.trading.sides.read c.listen.new.sides.read
    (subst (λ (n : Next). Ran tells s p q c.trading.asked n c.trading.sides.read) c.in-Awaits.is c.trading.invariant.ran) c.trading.invariant.going (c.in-Ok-listen.ensures.listens s) in
    record {
      ran = ran;
      near = c.listen.ensures.near;
      going = open_is (phase_for s c.listen.new.consumer) c.standing_of-behind.result c.standing_of-behind.ensures (sym c.is_over.ensures ∙ c.if-is_over.false) ran.known;
    }

pub trading-smaller : goal.trading-smaller
trading-smaller g c =
    let tells = g.D.Disk.tells in
    let s = c.args.start.now in
    let q = point c.trading.journal c.trading.consumer (lines_of (g.L.Link.seen c.trading.server) (g.L.Link.seen c.trading.seller) c.trading.sides) in
    let r = point c.listen.new.journal c.listen.new.consumer (lines_of (g.L.Link.seen c.listen.new.server) (g.L.Link.seen c.listen.new.seller) c.listen.new.sides) in
    omega (
      arith,
      ap next_rank c.in-Awaits.is,
      listened_less tells s q r c.in-Awaits.peer c.in-Ok-listen.listened c.trading.asked c.trading.sides.read c.listen.new.sides.read (omega (arith, c.if-sides-ge-MOST_FRAMES.false)) (c.in-Ok-listen.ensures.listens s),
    )

pub returns-in-Err-listen : goal.returns-in-Err-listen
returns-in-Err-listen g c =
    let tells = g.D.Disk.tells in
    let s = c.args.start.now in
    let p = point c.args.journal.now c.args.consumer.now (lines_of (g.L.Link.seen c.args.server.now) (g.L.Link.seen c.args.seller.now) c.args.sides.now) in
    let q = point c.trading.journal c.trading.consumer (lines_of (g.L.Link.seen c.trading.server) (g.L.Link.seen c.trading.seller) c.trading.sides) in
    let r = point c.listen.new.journal c.listen.new.consumer (lines_of (g.L.Link.seen c.listen.new.server) (g.L.Link.seen c.listen.new.seller) c.listen.new.sides) in
    lost_listened tells s p q r c.trading.asked c.in-Awaits.peer c.in-Err-listen.why c.trading.sides.read c.listen.new.sides.read (omega (arith, c.if-sides-ge-MOST_FRAMES.false))
    (subst (λ (n : Next). Ran tells s p q c.trading.asked n c.trading.sides.read) c.in-Awaits.is c.trading.invariant.ran)
    c.trading.invariant.going
    (c.in-Err-listen.ensures.listens s)
