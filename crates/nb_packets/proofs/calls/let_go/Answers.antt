use Rattle.std.proofs.Common.{◌≡◌, ℕ, List, length, ap, subst, ◌∙◌, arith}
use Rattle.nb_world.specs.declared.call.Call.{Call}
use Rattle.nb_packets.specs.Calls.{StopsAt, stopped_up_to}
use Rattle.nb_packets.proofs.Phases.{stops_more, stops_all}
use Rattle.nb_packets.proofs.calls.let_go.Goals as goal

pub loop-i-preserved : goal.loop-i-preserved
loop-i-preserved c = record {
  calls = stops_more c.loop-i.i c.args.calls.now.items c.stop_at.new.calls.items
      (subst (λ (cs : List Call). StopsAt cs c.stop_at.new.calls.items c.loop-i.i) c.loop-i.invariant.calls c.stop_at.ensures.stopped);
  len = c.stop_at.ensures.len ∙ c.loop-i.invariant.len;
}

pub returns-clause-calls : goal.returns-clause-calls
returns-clause-calls c =
    let all : c.loop-i.i ≡ length c.args.calls.now.items = omega (arith, c.loop-i-test.false, c.loop-i.invariant.len, c.loop-i.auto) in
    c.loop-i.invariant.calls ∙ ap (λ (n : ℕ). stopped_up_to n c.args.calls.now.items) all ∙ stops_all c.args.calls.now.items
