use Rattle.std.proofs.Common.{Ok, Err}
use Rattle.std.specs.Prelude.{codes}
use Rattle.nb_endorse.specs.Reading.{signed_of}
use Rattle.nb_msgs.proofs.Unsealing.{sealed_so, receipt_lawful}
use Rattle.nb_msgs.proofs.opening.open_receipt.Goals as goal

pub returns-in-Ok : goal.returns-in-Ok
returns-in-Ok c = record {
  opened = sealed_so signed_of c.args.key.now (codes "rcpt") c.args.sealed.now (Ok c.in-Ok.signed) c.in-Ok.ensures.reads;
  lawful = receipt_lawful c.in-Ok.signed c.in-Ok.ensures.spelled.0;
}

pub returns-in-Err : goal.returns-in-Err
returns-in-Err c = record { opened = sealed_so signed_of c.args.key.now (codes "rcpt") c.args.sealed.now (Err c.in-Err._fault) c.in-Err.ensures.reads; lawful = tt }
