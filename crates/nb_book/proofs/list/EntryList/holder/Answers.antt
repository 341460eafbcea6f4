use Rattle.std.proofs.Common.{sym, ap, ◌∙◌}
use Rattle.nb_entry.specs.declared.entry.Entry.{Entry}
use Rattle.nb_book.specs.Searches.{holder_at}
use Rattle.nb_book.specs.Laws.{opens}
use Rattle.nb_book.proofs.Counting.{tests_holder}
use Rattle.nb_book.proofs.Indexing.{found, missed}
use Rattle.nb_book.proofs.Keeping.{holder_anywhere}
use Rattle.nb_book.proofs.list.EntryList.holder.Goals as goal

pub returns-in-Some : goal.returns-in-Some
returns-in-Some c =
    let here = found (opens c.args.id) (holder_at c.args.id) (tests_holder c.args.id) c.args.self.now.entries.items c.in-Some.at c.index.result.now (sym c.place_of.ensures.place ∙ c.in-Some.is) in
    c.holder_at.ensures ∙ holder_anywhere c.args.id 0 c.in-Some.at c.index.result.now ∙ ap (λ (e : Entry). holder_at c.args.id c.in-Some.at e) c.index.ensures ∙ sym here.answers

pub returns-in-None : goal.returns-in-None
returns-in-None c = sym (missed (opens c.args.id) (holder_at c.args.id) (tests_holder c.args.id) c.args.self.now.entries.items (sym c.place_of.ensures.place ∙ c.in-None.is))
