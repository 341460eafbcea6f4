use Rattle.nb_groups.proofs.Lines.{no_keeper}
use Rattle.nb_groups.proofs.line.keeper_of.Goals as goal

pub returns-in-Err-clause-none : goal.returns-in-Err-clause-none
returns-in-Err-clause-none c = λ is keeper rest.
    no_keeper c.args.bytes.now c.in_ok-behind.behind.now c.split_at.result.0.now keeper rest c.decode_to_slice.result c.in-Err.field-0 c.decode_to_slice.new.out c.in_ok-behind.ensures.cases.1 c.split_at.ensures.front c.decode_to_slice.ensures.value c.in-Err.is
