use Rattle.std.specs.Prelude.{codes}
use Rattle.nb_endorse.specs.Spelling.{signed_bytes}
use Rattle.nb_endorse.specs.Reading.{signed_of}
use Rattle.nb_endorse.proofs.Receipts.{receipt_reads_back}
use Rattle.nb_endorse.proofs.Sealing.{sealed_found}
use Rattle.nb_endorse.proofs.receipt.read_receipt.Goals as goal

pub returns-clause-found : goal.returns-clause-found
returns-clause-found c = λ s is opens. sealed_found signed_of c.args.key.now (codes "rcpt") c.args.bytes.now (signed_bytes s) s c.opened.result c.opened.ensures.reads opens (receipt_reads_back s is)
