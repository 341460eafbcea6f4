use Rattle.std.specs.Prelude.{codes}
use Rattle.nb_endorse.specs.Spelling.{endorsement_bytes}
use Rattle.nb_endorse.specs.Reading.{endorsement_of}
use Rattle.nb_endorse.proofs.Layouts.{endorsement_reads_back}
use Rattle.nb_endorse.proofs.Sealing.{sealed_found}
use Rattle.nb_endorse.proofs.endorsement.read_sealed.Goals as goal

pub returns-clause-found : goal.returns-clause-found
returns-clause-found c = λ e is opens. sealed_found endorsement_of c.args.key.now (codes "endo") c.args.bytes.now (endorsement_bytes e) e c.opened.result (rw c.new.ensures at c.opened.ensures.reads) opens (endorsement_reads_back e is)
