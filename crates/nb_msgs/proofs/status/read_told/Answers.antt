use Rattle.std.proofs.Common.{arith}
use Rattle.nb_msgs.proofs.Places.{signed_near}
use Rattle.nb_msgs.proofs.status.read_told.Goals as goal

pub overflow_add-result : goal.overflow_add-result
overflow_add-result c = omega (arith, c.requires, c.place.ensures, signed_near c.rest.result.now c.in-Err.field-0.place c.in-Err.ensures.reads)
