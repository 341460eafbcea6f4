use Rattle.nb_player.proofs.OneReport.{one_report}
use Rattle.nb_player.proofs.laws.one_report.Goals as goal

pub returns : goal.returns
returns c = one_report
