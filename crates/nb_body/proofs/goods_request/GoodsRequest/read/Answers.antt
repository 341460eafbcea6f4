use Rattle.std.proofs.Common.{◌≡◌, ap, ◌∙◌, arith}
use Rattle.nb_body.specs.Spelling.{IsGoodsRequest, goods_request_bytes}
use Rattle.nb_body.specs.Reading.{goods_request_of}
use Rattle.nb_units.proofs.Rows.{reads_ok, if_read}
use Rattle.nb_body.proofs.Layouts.{goods_request_spells_back, goods_request_reads_back}
use Rattle.nb_body.proofs.goods_request.GoodsRequest.read.Goals as goal

pub returns-clause-spelled : goal.returns-clause-spelled
returns-clause-spelled c =
    if_read c.read_fields.result (goods_request_of c.args.bytes.now) (λ r. IsGoodsRequest r × (c.args.bytes.now ≡ goods_request_bytes r)) c.read_fields.ensures (λ r e. goods_request_spells_back c.args.bytes.now r (λ i. omega (arith, c.type_inv.bytes i)) e)

pub returns-clause-found : goal.returns-clause-found
returns-clause-found c = λ r is e. reads_ok c.read_fields.result (goods_request_of c.args.bytes.now) r c.read_fields.ensures (ap goods_request_of e ∙ goods_request_reads_back r is)
