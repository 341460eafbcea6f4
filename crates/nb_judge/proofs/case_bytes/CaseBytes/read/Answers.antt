use Rattle.std.proofs.Common.{◌≡◌, ap, ◌∙◌, arith}
use Rattle.nb_units.proofs.Rows.{if_read, reads_ok}
use Rattle.nb_judge.specs.Layout.{IsCase, case_bytes, case_of}
use Rattle.nb_judge.proofs.Layouts.{case_reads_back, case_spells_back}
use Rattle.nb_judge.proofs.case_bytes.CaseBytes.read.Goals as goal

pub returns-clause-spelled : goal.returns-clause-spelled
returns-clause-spelled c =
    if_read c.read_fields.result (case_of c.args.bytes.now) (λ x. IsCase x × (c.args.bytes.now ≡ case_bytes x)) c.read_fields.ensures (λ x e. case_spells_back c.args.bytes.now x (λ i. omega (arith, c.type_inv.bytes i)) e)

pub returns-clause-found : goal.returns-clause-found
returns-clause-found c = λ x is e. reads_ok c.read_fields.result (case_of c.args.bytes.now) x c.read_fields.ensures (ap case_of e ∙ case_reads_back x is)
