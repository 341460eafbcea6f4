use Rattle.std.proofs.Common.{rules, ap, ◌∙◌, take, drop}
use Rattle.std.specs.Int.{w32, w64, from_be_bytes}
use Rattle.nb_units.specs.Epoid.{epoid_bytes}
use Rattle.nb_units.proofs.EpoidLaws.{spelled}
use Rattle.nb_units.proofs.epoid.Epoid.read.Goals as goal

pub returns-clause-spelling : goal.returns-clause-spelling
unfolding epoid_bytes
returns-clause-spelling c =
    spelled c.args.bytes.now _ _ _ (search rules) (search rules)
    (c.u32_of.ensures ∙ ap (from_be_bytes w32) c.split_at.ensures.front)
    (c.u64_of.ensures ∙ ap (from_be_bytes w64) (c.split_at-2.ensures.front ∙ ap (take 8) c.split_at.ensures.back))
    (c.u32_of-2.ensures ∙ ap (from_be_bytes w32) (c.split_at-2.ensures.back ∙ ap (drop 8) c.split_at.ensures.back))
