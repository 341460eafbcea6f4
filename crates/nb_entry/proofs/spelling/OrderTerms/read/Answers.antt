use Rattle.std.proofs.Common.{refl}
use Rattle.nb_units.specs.Fields.{raw_at, u32_at, u64_at}
use Rattle.nb_entry.specs.Reading.{terms_of}
use Rattle.nb_entry.proofs.Steps.{stands, went, took}
use Rattle.nb_entry.proofs.spelling.OrderTerms.read.Goals as goal

pub returns-clause-reads : goal.returns-clause-reads
unfolding terms_of
returns-clause-reads c =
    let s1 = stands c.args.cut.now 1 c.requires in
    let s33 = went 32 c.in_ok-digest.ensures.moved s1 in
    let s49 = went 16 c.in_ok-epoid.ensures.moved s33 in
    let s53 = went 4 c.in_ok-consumer.ensures.moved s49 in
    let s57 = went 4 c.in_ok-merchant.ensures.moved s53 in
    let s61 = went 4 c.in_ok-product.ensures.moved s57 in
    rw (
      took (raw_at 32) s1 c.in_ok-digest.ensures.value,
      took (raw_at 16) s33 c.in_ok-epoid.ensures.value,
      took u32_at s49 c.in_ok-consumer.ensures.value,
      took u32_at s53 c.in_ok-merchant.ensures.value,
      took u32_at s57 c.in_ok-product.ensures.value,
      took u64_at s61 c.in_ok-price.ensures.value,
      c.read.ensures.value,
    ) refl
