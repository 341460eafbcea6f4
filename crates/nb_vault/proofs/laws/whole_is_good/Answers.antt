use Rattle.nb_vault.proofs.HoldingLaws.{no_unborn, no_damage, no_bad}
use Rattle.nb_vault.proofs.laws.whole_is_good.Goals as goal

pub returns : goal.returns
returns c = λ image charter cap entries stands. record {
  born = λ found. no_unborn charter cap entries image found stands;
  whole = λ item place. no_damage charter cap entries image item place stands;
  lawful = λ item. no_bad charter cap entries image item stands;
}
