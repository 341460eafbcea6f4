use Rattle.std.proofs.Common.{ap, map}
use Rattle.nb_turn.specs.declared.chronicle.View.{View}
use Rattle.nb_turns.specs.declared.line.Line.{Line}
use Rattle.nb_vault.specs.declared.origin.Origin.{Origin}
use Rattle.nb_turn.specs.Passes.{sees}
use Rattle.nb_server.specs.Served.{worker_seen}
use Rattle.nb_server.specs.Steps.{desk_id, pass_seen}
use Rattle.nb_server.proofs.Joining.{held_at}
use Rattle.nb_server.proofs.Telling.{all_sessions}
use Rattle.nb_server.proofs.server.serve_all.Goals as goal

pub join_all-last-requires-clause-others : goal.join_all-last-requires-clause-others
join_all-last-requires-clause-others g c = held_at pass_seen (desk_id c.serve_each-first.new.desk) c.serve_each-first.ensures.gathers.done c.serve_each-first.new.passes.items c.serve_each-first.ensures.gathers.held

pub returns-in-Ok-open-clause-ok : goal.returns-in-Ok-open-clause-ok
returns-in-Ok-open-clause-ok g c = all_sessions g.D.Disk.tells pass_seen (desk_id c.serve_each-first.new.desk) c.args.vault c.close-vault.result (sees c.serve_each-first.result) (sees c.join_all-last.result)
    (map (worker_seen g.P.Port.seen g.C.Clock.moments) c.args.workers.items) (map (worker_seen g.P.Port.seen g.C.Clock.moments) c.serve_each-first.new.workers.items) c.serve_each-first.new.ends.items c.serve_each-first.new.passes.items
    (sees c.in-Ok-open.pass).origin (ap (λ (v : View Origin Line). v.origin) c.in-Ok-open.ensures.ok.2) c.serve_each-first.ensures.gathers c.join_all-last.ensures.joins c.close-vault.ensures.meets c.close-vault.ensures.keeps
