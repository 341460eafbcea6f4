use Rattle.nb_buy.specs.declared.peer.Peer.TheVariants.{House}
use Rattle.nb_buy.specs.Bought.{point}
use Rattle.nb_buy.specs.Run.{phase_for}
use Rattle.nb_buy.specs.Steps.{lines_of}
use Rattle.nb_buy.proofs.Failing.{all_begun}
use Rattle.nb_buy.proofs.HowFar.{going_is}
use Rattle.nb_buy.proofs.Rounds.{open_started, open_waited, ran_started, ran_waited, lost_started, lost_waited, finished_first}
use Rattle.nb_buy.proofs.trading.start_or_resume.Goals as goal

pub returns-in-Ok-clause-resumes : goal.returns-in-Ok-clause-resumes
returns-in-Ok-clause-resumes g c =
    let p = point c.args.journal.now c.args.consumer.now (lines_of (g.L.Link.seen c.args.server.now) (g.L.Link.seen c.args.seller.now) c.args.sides.now) in
    let q = point c.begin.new.journal c.begin.new.consumer (lines_of (g.L.Link.seen c.begin.new.server) (g.L.Link.seen c.begin.new.seller) c.begin.new.sides) in (
      ran_started g.D.Disk.tells c.args.start.now p q c.in-Ok.next c.in-Unknown.ensures
          (all_begun (g.L.Link.seen c.args.server.now) (g.L.Link.seen c.args.seller.now) c.args.sides.now c.requires.begun) c.in-Ok.ensures.carries,
      open_started g.D.Disk.tells c.args.start.now p q c.in-Ok.next c.in-Unknown.ensures c.in-Ok.ensures.carries,
    )

pub returns-in-Err-clause-resumes : goal.returns-in-Err-clause-resumes
returns-in-Err-clause-resumes g c =
    lost_started g.D.Disk.tells c.args.start.now
    (point c.args.journal.now c.args.consumer.now (lines_of (g.L.Link.seen c.args.server.now) (g.L.Link.seen c.args.seller.now) c.args.sides.now))
    (point c.begin.new.journal c.begin.new.consumer (lines_of (g.L.Link.seen c.begin.new.server) (g.L.Link.seen c.begin.new.seller) c.begin.new.sides))
    c.in-Err.why c.in-Unknown.ensures (all_begun (g.L.Link.seen c.args.server.now) (g.L.Link.seen c.args.seller.now) c.args.sides.now c.requires.begun) c.in-Err.ensures.carries

pub returns-in-Ok-go_on-clause-resumes : goal.returns-in-Ok-go_on-clause-resumes
returns-in-Ok-go_on-clause-resumes g c =
    let p = point c.args.journal.now c.args.consumer.now (lines_of (g.L.Link.seen c.args.server.now) (g.L.Link.seen c.args.seller.now) c.args.sides.now) in
    let q = point c.go_on.new.journal c.go_on.new.consumer (lines_of (g.L.Link.seen c.go_on.new.server) (g.L.Link.seen c.go_on.new.seller) c.go_on.new.sides) in
    let going = going_is (phase_for c.args.start.now c.args.consumer.now) c.in-Going.ordered c.in-Going.ensures in (
      ran_waited g.D.Disk.tells c.args.start.now p q c.in-Ok-go_on.next going
          (all_begun (g.L.Link.seen c.args.server.now) (g.L.Link.seen c.args.seller.now) c.args.sides.now c.requires.begun) c.in-Ok-go_on.ensures.carries,
      open_waited g.D.Disk.tells c.args.start.now p q House c.in-Ok-go_on.next going c.in-Ok-go_on.ensures.carries,
    )

pub returns-in-Err-go_on-clause-resumes : goal.returns-in-Err-go_on-clause-resumes
returns-in-Err-go_on-clause-resumes g c =
    lost_waited g.D.Disk.tells c.args.start.now
    (point c.args.journal.now c.args.consumer.now (lines_of (g.L.Link.seen c.args.server.now) (g.L.Link.seen c.args.seller.now) c.args.sides.now))
    (point c.go_on.new.journal c.go_on.new.consumer (lines_of (g.L.Link.seen c.go_on.new.server) (g.L.Link.seen c.go_on.new.seller) c.go_on.new.sides))
    c.in-Err-go_on.why (going_is (phase_for c.args.start.now c.args.consumer.now) c.in-Going.ordered c.in-Going.ensures) (all_begun (g.L.Link.seen c.args.server.now) (g.L.Link.seen c.args.seller.now) c.args.sides.now c.requires.begun) c.in-Err-go_on.ensures.carries

pub returns-in-Ended-clause-resumes : goal.returns-in-Ended-clause-resumes
returns-in-Ended-clause-resumes g c =
    finished_first g.D.Disk.tells c.args.start.now
    (point c.args.journal.now c.args.consumer.now (lines_of (g.L.Link.seen c.args.server.now) (g.L.Link.seen c.args.seller.now) c.args.sides.now))
    (all_begun (g.L.Link.seen c.args.server.now) (g.L.Link.seen c.args.seller.now) c.args.sides.now c.requires.begun) c.in-Ended.ensures
