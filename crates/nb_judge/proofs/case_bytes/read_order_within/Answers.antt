use Rattle.std.proofs.Common.{arith}
use Rattle.nb_judge.proofs.Places.{order_near}
use Rattle.nb_judge.proofs.case_bytes.read_order_within.Goals as goal

pub overflow_add-result : goal.overflow_add-result
overflow_add-result c = omega (arith, order_near c.args.text.now c.in-Err.field-0.place (λ i. omega (arith, c.type_inv.text i)) c.in-Err.ensures.reads)
