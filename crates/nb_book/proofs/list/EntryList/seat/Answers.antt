use Rattle.std.proofs.Common.{Option, ℕ, sym, ap, ◌∙◌}
use Rattle.std.proofs.lemmas.Bool.{true≢false}
use Rattle.std.specs.Option.{is_some}
use Rattle.nb_book.specs.Searches.{holder_at}
use Rattle.nb_book.specs.Laws.{opens}
use Rattle.nb_book.proofs.Counting.{tests_holder}
use Rattle.nb_book.proofs.Indexing.{both_found}
use Rattle.nb_book.proofs.list.EntryList.seat.Goals as goal

pub unreachable-requires : goal.unreachable-requires
unreachable-requires c =
    true≢false
    (sym c.requires.held
    ∙ sym (both_found (opens c.args.id) (holder_at c.args.id) (tests_holder c.args.id) c.args.self.now.entries.items)
    ∙ ap (λ (x : Option ℕ). is_some x) (sym c.place_of.ensures.place ∙ c.in-None.is))
