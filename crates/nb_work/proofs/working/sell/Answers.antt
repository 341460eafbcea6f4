use Rattle.std.proofs.Common.{length, map, sym, subst, ◌∙◌, arith, ◌≡◌}
use Rattle.nb_commands.specs.declared.ending.Ending.{Ending}
use Rattle.nb_server.specs.Served.{worker_seen}
use Rattle.nb_work.specs.Selling.{SellsAs, outside}
use Rattle.nb_work.proofs.Sales.{one_there, one_put}
use Rattle.nb_work.proofs.working.sell.Goals as goal

pub returns-clause-sells : goal.returns-clause-sells
returns-clause-sells g c =
    let sees = worker_seen g.P.Port.seen g.C.Clock.moments in
    let worker = c.index_mut.result.now in
    let later = c.sell_with-disk.new.worker in
    let one : length c.args.workers.items ≡ 1 = omega (arith, c.requires.one, c.args.workers.ok) in (
      sees worker,
      sees later,
      c.unwrap-server.result,
      c.sell_with-disk.new.server,
      one_there sees c.args.workers.items worker one c.index_mut.ensures.value,
      (λ i. map sees (c.idle.ensures.same.1 i).items) ∙ one_put sees c.args.workers.items later one,
      c.unwrap-server.ensures,
      c.idle.ensures.same.2,
      subst (λ (x : g.row.D.Denot × Ending). SellsAs g.D.Disk.tells c.args.shelf c.args.offers
          (outside c.args.disk (sees worker) (g.L.Link.seen c.unwrap-server.result))
          (outside x.0 (sees later) (g.L.Link.seen c.sell_with-disk.new.server)) x.1)
          (sym (λ i. (c.idle.ensures.same.0 i, c.idle.ensures.same.3 i)))
          c.sell_with-disk.ensures,
    )
