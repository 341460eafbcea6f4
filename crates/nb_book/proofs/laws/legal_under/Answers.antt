use Rattle.nb_book.specs.Legal.{IsOfRate}
use Rattle.nb_book.proofs.Indexing.{each_push}
use Rattle.nb_book.proofs.Rates.{legal_under_is_next, first_stays_legal}
use Rattle.nb_book.proofs.laws.legal_under.Goals as goal

pub returns-clause-next : goal.returns-clause-next
returns-clause-next c = legal_under_is_next

pub returns-clause-stays : goal.returns-clause-stays
returns-clause-stays c version rate H e under next = record {
  legal = c.stays_legal.ensures H e under.legal next.0;
  each = each_push (IsOfRate version rate) H e under.each next.1;
}

pub returns-clause-first : goal.returns-clause-first
returns-clause-first c = first_stays_legal
