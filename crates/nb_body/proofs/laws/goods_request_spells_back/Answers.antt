use Rattle.nb_body.proofs.Layouts.{goods_request_spells_back}
use Rattle.nb_body.proofs.laws.goods_request_spells_back.Goals as goal

pub returns : goal.returns
returns c = goods_request_spells_back
