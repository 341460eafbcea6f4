use Rattle.nb_seal.proofs.Opening.{no_short_seal}
use Rattle.nb_seal.proofs.Fronts.{front_and_rest}
use Rattle.nb_seal.proofs.seals.parts_of.Goals as goal

pub returns-then-bytes-lt-CODE_BYTES-clause-short : goal.returns-then-bytes-lt-CODE_BYTES-clause-short
returns-then-bytes-lt-CODE_BYTES-clause-short c key label = no_short_seal key label c.args.bytes.now c.if-bytes-lt-CODE_BYTES.true

pub returns-clause-parts : goal.returns-clause-parts
returns-clause-parts c = front_and_rest 32 c.args.bytes.now c.front-iv.result c.if-bytes-lt-CODE_BYTES.false c.front-iv.ensures
