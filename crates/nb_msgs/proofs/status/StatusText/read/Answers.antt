use Rattle.std.proofs.Common.{◌≡◌, ap, ◌∙◌, arith}
use Rattle.nb_msgs.specs.StatusText.{IsStatusText, text_bytes, text_of}
use Rattle.nb_units.proofs.Rows.{reads_ok, if_read}
use Rattle.nb_msgs.proofs.StatusTexts.{status_spells_back, status_reads_back}
use Rattle.nb_msgs.proofs.status.StatusText.read.Goals as goal

pub returns-clause-spelled : goal.returns-clause-spelled
returns-clause-spelled c =
    if_read c.read_fields.result (text_of c.args.bytes.now) (λ t. IsStatusText t × (c.args.bytes.now ≡ text_bytes t)) c.read_fields.ensures (λ t e. status_spells_back c.args.bytes.now t (λ i. omega (arith, c.type_inv.bytes i)) e)

pub returns-clause-found : goal.returns-clause-found
returns-clause-found c = λ t is e. reads_ok c.read_fields.result (text_of c.args.bytes.now) t c.read_fields.ensures (ap text_of e ∙ status_reads_back t is)
