use Rattle.nb_msgs.specs.Bodies.{MessageKeepsRules}
use Rattle.bench_nodes.proofs.nodes.sum_of.Given as goal

abbrev pub invariant-loop : goal.invariant-loop
invariant-loop l = MessageKeepsRules l.message
