use Rattle.std.proofs.Common.{◌≡◌, ap, ◌∙◌, arith}
use Rattle.nb_body.specs.Spelling.{IsFunding, funding_bytes}
use Rattle.nb_body.specs.Reading.{funding_of}
use Rattle.nb_units.proofs.Rows.{reads_ok, if_read}
use Rattle.nb_body.proofs.Layouts.{funding_spells_back, funding_reads_back}
use Rattle.nb_body.proofs.funding.Funding.read.Goals as goal

pub returns-clause-spelled : goal.returns-clause-spelled
returns-clause-spelled c =
    if_read c.read_fields.result (funding_of c.args.bytes.now) (λ f. IsFunding f × (c.args.bytes.now ≡ funding_bytes f)) c.read_fields.ensures.reads (λ f e. funding_spells_back c.args.bytes.now f (λ i. omega (arith, c.type_inv.bytes i)) e)

pub returns-clause-found : goal.returns-clause-found
returns-clause-found c = λ f is e. reads_ok c.read_fields.result (funding_of c.args.bytes.now) f c.read_fields.ensures.reads (ap funding_of e ∙ funding_reads_back f is)
