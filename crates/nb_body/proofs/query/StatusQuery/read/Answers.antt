use Rattle.std.proofs.Common.{◌≡◌, ap, ◌∙◌, arith}
use Rattle.nb_body.specs.Spelling.{IsQuery, query_bytes}
use Rattle.nb_body.specs.Reading.{query_of}
use Rattle.nb_units.proofs.Rows.{reads_ok, if_read}
use Rattle.nb_body.proofs.Layouts.{query_spells_back, query_reads_back}
use Rattle.nb_body.proofs.query.StatusQuery.read.Goals as goal

pub returns-clause-spelled : goal.returns-clause-spelled
returns-clause-spelled c =
    if_read c.read_fields.result (query_of c.args.bytes.now) (λ q. IsQuery q × (c.args.bytes.now ≡ query_bytes q)) c.read_fields.ensures (λ q e. query_spells_back c.args.bytes.now q (λ i. omega (arith, c.type_inv.bytes i)) e)

pub returns-clause-found : goal.returns-clause-found
returns-clause-found c = λ q is e. reads_ok c.read_fields.result (query_of c.args.bytes.now) q c.read_fields.ensures (ap query_of e ∙ query_reads_back q is)
