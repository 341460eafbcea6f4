-- The small worlds.
use Rattle.std.proofs.Common.{refl}
use Rattle.nb_world.specs.Steps.{buy_of, deliver_of, turn_of, write_of, open_of, answer_of, stop_of, inject_of, quiet_consumer_of, quiet_merchant_of, restart_merchant_of, restart_consumer_of}
use Rattle.nb_world.specs.Worked.{HeardOnce, LeftAndTold, InjectedIsRecorded, NodesHear, EachNodeItsOwn, DoubtOfTwo}

pub heard_once : HeardOnce
unfolding buy_of deliver_of turn_of write_of open_of answer_of
heard_once = refl

pub left_and_told : LeftAndTold
unfolding buy_of deliver_of turn_of write_of answer_of stop_of
left_and_told = refl

pub injected_is_recorded : InjectedIsRecorded
unfolding inject_of deliver_of turn_of write_of open_of answer_of
injected_is_recorded = (refl, refl)

pub nodes_hear : NodesHear
unfolding inject_of deliver_of quiet_consumer_of restart_merchant_of
nodes_hear = (refl, refl)

pub each_node_its_own : EachNodeItsOwn
unfolding inject_of deliver_of quiet_merchant_of restart_consumer_of turn_of write_of open_of answer_of
each_node_its_own = refl

pub doubt_of_two : DoubtOfTwo
unfolding deliver_of turn_of write_of stop_of
doubt_of_two = (refl, refl, refl, refl)
