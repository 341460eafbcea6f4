use Rattle.std.proofs.Common.{◌≡◌, ap, ◌∙◌, arith}
use Rattle.nb_body.specs.Spelling.{IsEnrolment, enrolment_bytes}
use Rattle.nb_body.specs.Reading.{enrolment_of}
use Rattle.nb_units.proofs.Rows.{reads_ok, if_read}
use Rattle.nb_body.proofs.Layouts.{enrolment_spells_back, enrolment_reads_back}
use Rattle.nb_body.proofs.enrolment.Enrolment.read.Goals as goal

pub returns-clause-spelled : goal.returns-clause-spelled
returns-clause-spelled c =
    if_read c.read_fields.result (enrolment_of c.args.bytes.now) (λ n. IsEnrolment n × (c.args.bytes.now ≡ enrolment_bytes n)) c.read_fields.ensures.reads (λ n e. enrolment_spells_back c.args.bytes.now n (λ i. omega (arith, c.type_inv.bytes i)) e)

pub returns-clause-found : goal.returns-clause-found
returns-clause-found c = λ n is e. reads_ok c.read_fields.result (enrolment_of c.args.bytes.now) n c.read_fields.ensures.reads (ap enrolment_of e ∙ enrolment_reads_back n is)
