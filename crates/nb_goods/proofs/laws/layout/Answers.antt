use Rattle.std.specs.Prelude.{codes}
use Rattle.nb_seal.proofs.Opening.{length-seal_of}
use Rattle.nb_goods.proofs.Sealing.{layout}
use Rattle.nb_goods.proofs.laws.layout.Goals as goal

pub returns-clause-layout : goal.returns-clause-layout
returns-clause-layout c = layout

pub returns-clause-len : goal.returns-clause-len
returns-clause-len c key goods = length-seal_of key (codes "good") goods
