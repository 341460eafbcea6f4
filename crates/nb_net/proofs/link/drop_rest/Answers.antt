-- One read more: what it gave is dropped too.
use Rattle.std.proofs.Common.{rules, ◌≤◌, ◌-◌, length}
use Rattle.nb_net.specs.Adapters.{Took}
use Rattle.nb_net.specs.declared.limits.TheConstants.{MAX_DROPPED}
use Rattle.nb_net.proofs.Taking.{took_more}
use Rattle.nb_net.proofs.link.drop_rest.Goals as goal

pub dropping-preserved : goal.dropping-preserved
dropping-preserved g c =
    let gives = c.in-Bytes.ensures.gives in
    let few : c.in-Bytes.n ≤ length c.read_counted.new.buf = search rules in
    let took : Took (g.S.Socket.left c.args.socket.now) (g.S.Socket.left c.read_counted.new.socket) (MAX_DROPPED - (c.dropping.room - c.in-Bytes.n)) =
    took_more (g.S.Socket.left c.args.socket.now) (g.S.Socket.left c.dropping.socket) (g.S.Socket.left c.read_counted.new.socket)
    (MAX_DROPPED - c.dropping.room) c.in-Bytes.n (MAX_DROPPED - (c.dropping.room - c.in-Bytes.n)) c.read_counted.new.buf
    (search rules) c.dropping.invariant.took gives.2 few in
    search rules
