use Rattle.std.proofs.Common.{arith, refl}
use Rattle.nb_journal.specs.Layout.{item_bytes}
use Rattle.nb_journal.proofs.Fronts.{first_layout, fee_layout}
use Rattle.nb_journal.proofs.Layouts.{item_length}
use Rattle.nb_journal.proofs.Opens.{front_length}
use Rattle.nb_journal.proofs.laws.layout.Goals as goal

pub returns : goal.returns
unfolding item_bytes
returns c = (
  refl,
  refl,
  refl,
  refl,
  refl,
  refl,
  refl,
  refl,
  λ cap charter are. (front_length cap charter are, first_layout cap charter are, fee_layout cap charter),
  λ item. (refl, omega (arith, item_length item)),
)
