use Rattle.std.proofs.Common.{◌≡◌, ap, ◌∙◌, arith}
use Rattle.nb_body.specs.Spelling.{IsGoodsHead, goods_head_bytes}
use Rattle.nb_body.specs.Reading.{goods_head_of}
use Rattle.nb_units.proofs.Rows.{reads_ok, if_read}
use Rattle.nb_body.proofs.Layouts.{goods_head_spells_back, goods_head_reads_back}
use Rattle.nb_body.proofs.goods_head.GoodsHead.read.Goals as goal

pub returns-clause-spelled : goal.returns-clause-spelled
returns-clause-spelled c =
    if_read c.read_fields.result (goods_head_of c.args.bytes.now) (λ h. IsGoodsHead h × (c.args.bytes.now ≡ goods_head_bytes h)) c.read_fields.ensures (λ h e. goods_head_spells_back c.args.bytes.now h (λ i. omega (arith, c.type_inv.bytes i)) e)

pub returns-clause-found : goal.returns-clause-found
returns-clause-found c = λ h is e. reads_ok c.read_fields.result (goods_head_of c.args.bytes.now) h c.read_fields.ensures (ap goods_head_of e ∙ goods_head_reads_back h is)
