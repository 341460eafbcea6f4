use Rattle.std.proofs.Common.{ap, length, arith}
use Rattle.nb_msgs.proofs.Messages.{ask_is_as_long}
use Rattle.nb_msgs.proofs.writing.front_of.Goals as goal

pub returns-in-TicketAsk-clause-short : goal.returns-in-TicketAsk-clause-short
returns-in-TicketAsk-clause-short c =
    omega (arith, ap length c.spelled-in-TicketAsk.ensures.bytes, ask_is_as_long c.in-TicketAsk.ask c.spelled-in-TicketAsk.ensures.fits)
