-- Lists under a version and a rate.
use Rattle.std.proofs.Common.{inl, inr, refl, ℕ, arith}
use Rattle.std.proofs.lemmas.List.Elements.{All-from_recursion, recursion_from_All}
use Rattle.nb_units.specs.declared.limits.TheConstants.{FIRST_VERSION, FEE_VERSION}
use Rattle.nb_entry.specs.declared.entry.Entry.{Entry}
use Rattle.nb_entry.specs.declared.entry.Entry.TheVariants.{Charged}
use Rattle.nb_book.specs.Legal.{IsOfRate}
use Rattle.nb_book.specs.Laws.{LegalUnderSome, LegalUnderIsNext, FirstStaysLegal}

pub legal_under_some : LegalUnderSome
legal_under_some H (Charged digest epoid consumer merchant product price fee cacct macct moment key) =
    (λ next. (FEE_VERSION, next.1.0, (inr refl, next.1.1), (next, (refl, next.1.2))), λ under. under.3.0)
legal_under_some H other = (λ next. (FIRST_VERSION, 0, (inl refl, omega arith), (next, tt)), λ under. under.3.0)

pub legal_under_is_next : LegalUnderIsNext
legal_under_is_next version rate H = (
  λ under. λ k inside d. (under.legal.each k inside d, All-from_recursion (IsOfRate version rate) H under.each k d inside),
  λ each. record {
    legal = record { each = λ k inside d. (each k inside d).0 };
    each = recursion_from_All (IsOfRate version rate) H (λ k d inside. (each k inside d).1);
  },
)

-- what the first version may have the second may have
of_second : (rate new_rate : ℕ) (e : Entry) → IsOfRate FIRST_VERSION rate e → IsOfRate FEE_VERSION new_rate e
of_second rate new_rate (Charged digest epoid consumer merchant product price fee cacct macct moment key) is = absurd (omega (arith, is.0))
of_second rate new_rate other is = tt

pub first_stays_legal : FirstStaysLegal
first_stays_legal rate new_rate H under = record {
  legal = under.legal;
  each = recursion_from_All (IsOfRate FEE_VERSION new_rate) H (λ k d inside. of_second rate new_rate _ (All-from_recursion (IsOfRate FIRST_VERSION rate) H under.each k d inside));
}
