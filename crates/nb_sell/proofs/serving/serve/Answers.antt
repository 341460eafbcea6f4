use Rattle.std.proofs.Common.{◌≡◌, None, Some, refl, ap, subst, ◌∙◌, arith}
use Rattle.nb_sell.specs.declared.peer.Peer.{Peer}
use Rattle.nb_sell.specs.declared.peer.Peer.TheVariants.{Consumer}
use Rattle.nb_sell.specs.declared.peer.Next.{Next}
use Rattle.nb_sell.specs.declared.peer.Next.TheVariants as next
use Rattle.nb_sell.specs.declared.ended.TheConstants.{MOST_FRAMES}
use Rattle.nb_sell.specs.Steps.{IsNearAt, IsNear, Ran, at, lines_of, next_awaits}
use Rattle.nb_sell.proofs.Rounds.{near_begun, ran_first, ran_on, lost_on, stopped, spent}
use Rattle.nb_sell.proofs.serving.serve.Goals as goal

pub serving-init : goal.serving-init
serving-init g c =
    let begun = c.requires.begun in
    record {
      ran = ran_first g.D.Disk.tells
          (at c.args.journal.now c.args.merchant.now (lines_of (g.M.Link.seen c.args.server.now) (g.L.Link.seen c.args.link.now) c.args.sides.now) (g.C.Clock.moments c.args.clock.now) c.args.sides.now.last (Some Consumer))
          c.args.sides.now.read (record { house = begun.house.sent; consumer = begun.consumer.sent }) begun.read;
      near = near_begun c.args.sides.now begun;
    }

pub returns-in-Over : goal.returns-in-Over
returns-in-Over g c =
    let p = at c.args.journal.now c.args.merchant.now (lines_of (g.M.Link.seen c.args.server.now) (g.L.Link.seen c.args.link.now) c.args.sides.now) (g.C.Clock.moments c.args.clock.now) c.args.sides.now.last (Some Consumer) in
    let q = λ (n : Next). at c.serving.journal c.serving.merchant (lines_of (g.M.Link.seen c.serving.server) (g.L.Link.seen c.serving.link) c.serving.sides) (g.C.Clock.moments c.serving.clock) c.serving.sides.last (next_awaits n) in
    stopped g.D.Disk.tells p (q (next.Over c.in-Over.why)) c.in-Over.why c.serving.sides.read
    (subst (λ (n : Next). Ran g.D.Disk.tells p (q n) n c.serving.sides.read) c.in-Over.is c.serving.invariant.ran)

pub returns-then-is_spent : goal.returns-then-is_spent
returns-then-is_spent g c =
    let p = at c.args.journal.now c.args.merchant.now (lines_of (g.M.Link.seen c.args.server.now) (g.L.Link.seen c.args.link.now) c.args.sides.now) (g.C.Clock.moments c.args.clock.now) c.args.sides.now.last (Some Consumer) in
    let q = λ (n : Next). at c.serving.journal c.serving.merchant (lines_of (g.M.Link.seen c.serving.server) (g.L.Link.seen c.serving.link) c.serving.sides) (g.C.Clock.moments c.serving.clock) c.serving.sides.last (next_awaits n) in
    let s = c.is_spent.ensures.spent c.if-is_spent.true in
    let is : c.serving.next ≡ next.Awaits Consumer = c.in-Awaits.is ∙ ap (λ (peer : Peer). next.Awaits peer) s.0 in
    let near : IsNear Consumer c.serving.sides = subst (λ (n : Next). IsNearAt n c.serving.sides) is c.serving.invariant.near in
    let most : c.serving.sides.read ≡ MOST_FRAMES = omega (arith, s.1, near.few) in
    spent g.D.Disk.tells p (q (next.Awaits Consumer)) c.serving.sides.read
    (subst (λ (n : Next). Ran g.D.Disk.tells p (q n) n c.serving.sides.read) is c.serving.invariant.ran) refl most

pub serving-preserved : goal.serving-preserved
serving-preserved g c =
    let p = at c.args.journal.now c.args.merchant.now (lines_of (g.M.Link.seen c.args.server.now) (g.L.Link.seen c.args.link.now) c.args.sides.now) (g.C.Clock.moments c.args.clock.now) c.args.sides.now.last (Some Consumer) in
    let q = λ (n : Next). at c.serving.journal c.serving.merchant (lines_of (g.M.Link.seen c.serving.server) (g.L.Link.seen c.serving.link) c.serving.sides) (g.C.Clock.moments c.serving.clock) c.serving.sides.last (next_awaits n) in
    let near : IsNear c.in-Awaits.from c.serving.sides = subst (λ (n : Next). IsNearAt n c.serving.sides) c.in-Awaits.is c.serving.invariant.near in
    record {
      ran = ran_on g.D.Disk.tells p (q (next.Awaits c.in-Awaits.from)) (at c.listen.new.journal c.listen.new.merchant (lines_of (g.M.Link.seen c.listen.new.server) (g.L.Link.seen c.listen.new.link) c.listen.new.sides) (g.C.Clock.moments c.listen.new.clock) c.listen.new.sides.last (next_awaits c.in-Ok.behind)) c.in-Awaits.from c.in-Ok.behind c.serving.sides.read c.listen.new.sides.read
          (subst (λ (n : Next). Ran g.D.Disk.tells p (q n) n c.serving.sides.read) c.in-Awaits.is c.serving.invariant.ran) refl
          (c.is_spent.ensures.few c.if-is_spent.false near.few) c.in-Ok.ensures.listens;
      near = c.in-Ok.ensures.near;
    }

pub returns-in-Err : goal.returns-in-Err
returns-in-Err g c =
    let p = at c.args.journal.now c.args.merchant.now (lines_of (g.M.Link.seen c.args.server.now) (g.L.Link.seen c.args.link.now) c.args.sides.now) (g.C.Clock.moments c.args.clock.now) c.args.sides.now.last (Some Consumer) in
    let q = λ (n : Next). at c.serving.journal c.serving.merchant (lines_of (g.M.Link.seen c.serving.server) (g.L.Link.seen c.serving.link) c.serving.sides) (g.C.Clock.moments c.serving.clock) c.serving.sides.last (next_awaits n) in
    let near : IsNear c.in-Awaits.from c.serving.sides = subst (λ (n : Next). IsNearAt n c.serving.sides) c.in-Awaits.is c.serving.invariant.near in
    lost_on g.D.Disk.tells p (q (next.Awaits c.in-Awaits.from)) (at c.listen.new.journal c.listen.new.merchant (lines_of (g.M.Link.seen c.listen.new.server) (g.L.Link.seen c.listen.new.link) c.listen.new.sides) (g.C.Clock.moments c.listen.new.clock) c.listen.new.sides.last None) c.in-Awaits.from c.in-Err.why c.serving.sides.read c.listen.new.sides.read
    (subst (λ (n : Next). Ran g.D.Disk.tells p (q n) n c.serving.sides.read) c.in-Awaits.is c.serving.invariant.ran) refl (c.is_spent.ensures.few c.if-is_spent.false near.few) c.in-Err.ensures.listens
