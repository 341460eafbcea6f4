use Rattle.std.proofs.Common.{◌≡◌, ap, ◌∙◌, arith}
use Rattle.nb_body.proofs.ReadBodies.{if_body, body_or_none}
use Rattle.nb_wallet.specs.Spelling.{IsItem, item_bytes}
use Rattle.nb_wallet.specs.Reading.{item_of}
use Rattle.nb_wallet.proofs.Items.{item_spells_back, item_reads_back}
use Rattle.nb_wallet.proofs.item.Item.read.Goals as goal

pub returns-clause-spelled : goal.returns-clause-spelled
returns-clause-spelled c =
    if_body c.read_kind.result (item_of c.args.bytes.now) (λ x. IsItem x × (c.args.bytes.now ≡ item_bytes x)) c.read_kind.ensures
    (λ x e. item_spells_back c.args.bytes.now x (λ i. omega (arith, c.type_inv.bytes i)) e)

pub returns-clause-found : goal.returns-clause-found
returns-clause-found c = λ x is e. body_or_none c.read_kind.result (item_of c.args.bytes.now) x c.read_kind.ensures (ap item_of e ∙ item_reads_back x is)
