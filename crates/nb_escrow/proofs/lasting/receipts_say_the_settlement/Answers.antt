use Rattle.nb_escrow.proofs.Lasts.{receipts_say_the_settlement}
use Rattle.nb_escrow.proofs.lasting.receipts_say_the_settlement.Goals as goal

pub returns : goal.returns
returns c = receipts_say_the_settlement
