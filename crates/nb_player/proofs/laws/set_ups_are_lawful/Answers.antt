use Rattle.nb_player.proofs.Lawful.{set_ups_are_lawful}
use Rattle.nb_player.proofs.laws.set_ups_are_lawful.Goals as goal

pub returns : goal.returns
returns c = set_ups_are_lawful c.legal_under.ensures.stays
