use Rattle.std.proofs.Common.{arith}
use Rattle.nb_commands.proofs.Heads.{took_more, ended, failed, too_long}
use Rattle.nb_commands.proofs.init.read_head.Goals as goal

pub reading-preserved : goal.reading-preserved
reading-preserved g c = record {
  took = took_more _ _ _ c.reading.bytes c.split_at_mut.result.0.now c.read.new.buf c.reading.at c.in-Bytes.n c.reading.invariant.took c.in-Bytes.ensures.gives.2 c.split_at_mut.ensures.front c.split_at_mut.ensures.front_len;
  count = omega (arith, c.reading.invariant.count, c.in-Bytes.ensures.count);
  within = omega (arith, c.in-Bytes.ensures.gives.1, c.split_at_mut.ensures.back_len, c.reading.invariant.long, c.reading-test.true);
  long = omega (arith, c.reading.invariant.long);
}

pub returns-in-End-clause-gives : goal.returns-in-End-clause-gives
returns-in-End-clause-gives g c =
    ended _ _ _ (g.S.Source.left c.reading.source) _ c.reading.bytes c.split_at_mut.result.0.now c.read.new.buf c.reading.at c.head_in.result c.reading.invariant.took c.in-End.ensures.gives.1 c.in-End.ensures.gives.0
    c.reading-test.true c.split_at_mut.ensures.front c.split_at_mut.ensures.front_len c.head_in.ensures

pub returns-clause-gives : goal.returns-clause-gives
returns-clause-gives g c = too_long _ _ c.reading.bytes c.reading.at c.reading.invariant.took (omega (arith, c.reading.invariant.within, c.reading-test.false)) c.reading.invariant.long

pub returns-in-Failed-clause-gives : goal.returns-in-Failed-clause-gives
returns-in-Failed-clause-gives g c = (
  omega (arith, c.reading.invariant.count, c.in-Failed.ensures.gives.0),
  failed _ (g.S.Source.left c.reading.source) _ c.reading.bytes c.reading.at c.reading.invariant.took c.in-Failed.ensures.gives.1 c.reading-test.true c.reading.invariant.long,
)
