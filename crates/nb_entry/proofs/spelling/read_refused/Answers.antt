use Rattle.std.proofs.Common.{refl, sym, ◌∙◌}
use Rattle.nb_units.specs.Fields.{u8_at, u64_at}
use Rattle.nb_entry.specs.Reading.{refused_of}
use Rattle.nb_entry.proofs.Steps.{stands, went, took, passed}
use Rattle.nb_entry.proofs.spelling.read_refused.Goals as goal

pub returns : goal.returns
unfolding refused_of
returns c =
    let s69 = went 68 c.in_ok-terms.ensures.moved (stands c.args.cut 1 c.requires) in
    let s70 = went 1 c.in_ok-code.ensures.moved s69 in
    let s78 = went 8 c.in_ok-a.ensures.moved s70 in
    let s86 = went 8 c.in_ok-b.ensures.moved s78 in
    rw (
      c.in_ok-terms.ensures.reads,
      took u8_at s69 c.in_ok-code.ensures.value,
      sym c.is_reason.ensures ∙ passed c.is_reason.result c.place-place.result tt c.in_ok-allow.ensures.reads,
      took u64_at s70 c.in_ok-a.ensures.value,
      took u64_at s78 c.in_ok-b.ensures.value,
      took u64_at s86 c.in_ok-moment.ensures.value,
    ) refl
