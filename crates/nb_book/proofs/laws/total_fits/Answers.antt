use Rattle.nb_book.proofs.Summing.{total_fits}
use Rattle.nb_book.proofs.laws.total_fits.Goals as goal

pub returns : goal.returns
returns c = total_fits
