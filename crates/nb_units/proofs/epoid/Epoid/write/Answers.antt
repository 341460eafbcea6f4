use Rattle.std.proofs.Common.{rules, ap, ◌∙◌}
use Rattle.nb_units.specs.Epoid.{epoid_bytes, epoid_of}
use Rattle.nb_units.proofs.EpoidLaws.{reads_back}
use Rattle.nb_units.proofs.epoid.Epoid.write.Goals as goal

pub returns-clause-spelling : goal.returns-clause-spelling
unfolding epoid_bytes
returns-clause-spelling c = search rules

pub returns-clause-back : goal.returns-clause-back
returns-clause-back c = ap epoid_of (returns-clause-spelling c) ∙ reads_back c.args.self.now (search rules, search rules, search rules)
