use Rattle.std.proofs.Common.{◌≡◌, ap, ◌∙◌, arith}
use Rattle.nb_body.specs.Spelling.{IsPaymentRequest, payment_request_bytes}
use Rattle.nb_body.specs.Reading.{payment_request_of}
use Rattle.nb_units.proofs.Rows.{reads_ok, if_read}
use Rattle.nb_body.proofs.Layouts.{payment_request_spells_back, payment_request_reads_back}
use Rattle.nb_body.proofs.payment_request.PaymentRequest.read.Goals as goal

pub returns-clause-spelled : goal.returns-clause-spelled
returns-clause-spelled c =
    if_read c.read_fields.result (payment_request_of c.args.bytes.now) (λ r. IsPaymentRequest r × (c.args.bytes.now ≡ payment_request_bytes r)) c.read_fields.ensures (λ r e. payment_request_spells_back c.args.bytes.now r (λ i. omega (arith, c.type_inv.bytes i)) e)

pub returns-clause-found : goal.returns-clause-found
returns-clause-found c = λ r is e. reads_ok c.read_fields.result (payment_request_of c.args.bytes.now) r c.read_fields.ensures (ap payment_request_of e ∙ payment_request_reads_back r is)
