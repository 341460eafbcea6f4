use Rattle.std.proofs.Common.{◌≡◌, ap, ◌∙◌, arith}
use Rattle.nb_units.proofs.Rows.{reads_ok, if_read}
use Rattle.nb_stall.specs.Spelling.{IsItem, item_bytes}
use Rattle.nb_stall.specs.Reading.{item_of}
use Rattle.nb_stall.proofs.Layouts.{item_spells_back, item_reads_back}
use Rattle.nb_stall.proofs.item.Item.read.Goals as goal

pub returns-clause-spelled : goal.returns-clause-spelled
returns-clause-spelled c =
    if_read c.read_fields.result (item_of c.args.bytes.now) (λ x. IsItem x × (c.args.bytes.now ≡ item_bytes x)) c.read_fields.ensures (λ x e. item_spells_back c.args.bytes.now x (λ i. omega (arith, c.type_inv.bytes i)) e)

pub returns-clause-found : goal.returns-clause-found
returns-clause-found c = λ x is e. reads_ok c.read_fields.result (item_of c.args.bytes.now) x c.read_fields.ensures (ap item_of e ∙ item_reads_back x is)
