use Rattle.nb_body.proofs.Layouts.{goods_head_reads_back}
use Rattle.nb_body.proofs.laws.goods_head_reads_back.Goals as goal

pub returns : goal.returns
returns c = goods_head_reads_back
