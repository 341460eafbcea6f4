use Rattle.std.proofs.Common.{ap, arith, codes, length}
use Rattle.std.proofs.lemmas.List.{length-append}
use Rattle.nb_seal.specs.Seal.{seal_of}
use Rattle.nb_seal.proofs.Opening.{length-seal_of}
use Rattle.nb_endorse.proofs.receipt.write_receipt_with.Goals as goal

pub returns-clause-long : goal.returns-clause-long
returns-clause-long c =
    let key = c.args.key.now in
    let plain = c.as_slice.result.now in
    omega (
      arith,
      ap length c.seal_spare.ensures.sealed,
      length-append c.args.out.now.items (seal_of key (codes "rcpt") plain),
      length-seal_of key (codes "rcpt") plain,
      ap length c.as_slice.ensures.value,
      c.spell.ensures.long,
    )
