use Rattle.std.proofs.Common.{refl, arith}
use Rattle.nb_system.proofs.Parts.{wrote_nothing, wrote_more, tear_more}
use Rattle.nb_system.proofs.disk.write_whole.Goals as goal

pub writing-init : goal.writing-init
writing-init g c = record {
  grows = omega arith;
  within = omega arith;
  so_far = λ _. wrote_nothing _ _;
  faithful = c.requires.faithful;
  named = c.requires.named;
}

pub writing-preserved : goal.writing-preserved
writing-preserved g c = record {
  grows = omega (arith, c.writing.invariant.grows, c.write_part.ensures.count);
  within = grind (arith, c.in-Some.ensures.some);
  so_far = wrote_more _ _ _ _ _ _ _ _ c.writing.invariant.within c.split_at.ensures.back c.writing.invariant.so_far c.in-Some.ensures.some.2;
  faithful = c.write_part.ensures.faithful;
  named = c.write_part.ensures.named;
}

pub returns-in-None-clause-gives : goal.returns-in-None-clause-gives
returns-in-None-clause-gives g c = λ within.
    let told = c.in-None.ensures.none refl in (
      grind (arith, told, c.writing.invariant.grows),
      tear_more _ _ _ _ _ _ _ c.writing.invariant.within c.split_at.ensures.back c.writing.invariant.so_far told.1 within,
    )
