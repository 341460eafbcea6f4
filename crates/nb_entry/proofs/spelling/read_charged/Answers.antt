use Rattle.std.proofs.Common.{refl}
use Rattle.nb_units.specs.Fields.{raw_at, u32_at, u64_at}
use Rattle.nb_entry.specs.Reading.{charged_of}
use Rattle.nb_entry.proofs.Steps.{stands, went, took}
use Rattle.nb_entry.proofs.spelling.read_charged.Goals as goal

pub returns : goal.returns
unfolding charged_of
returns c =
    let s69 = went 68 c.in_ok-terms.ensures.moved (stands c.args.cut 1 c.requires) in
    let s77 = went 8 c.in_ok-fee.ensures.moved s69 in
    let s81 = went 4 c.in_ok-cacct.ensures.moved s77 in
    let s85 = went 4 c.in_ok-macct.ensures.moved s81 in
    let s93 = went 8 c.in_ok-moment.ensures.moved s85 in
    rw (
      c.in_ok-terms.ensures.reads,
      took u64_at s69 c.in_ok-fee.ensures.value,
      took u32_at s77 c.in_ok-cacct.ensures.value,
      took u32_at s81 c.in_ok-macct.ensures.value,
      took u64_at s85 c.in_ok-moment.ensures.value,
      took (raw_at 32) s93 c.in_ok-key.ensures.value,
    ) refl
