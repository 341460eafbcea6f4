use Rattle.std.proofs.Common.{◌∙◌}
use Rattle.nb_book.specs.Searches.{holder_at}
use Rattle.nb_book.specs.Laws.{opens}
use Rattle.nb_book.specs.Indexes.{account_key}
use Rattle.nb_book.proofs.Counting.{tests_holder}
use Rattle.nb_book.proofs.Indexing.{StandsFor, finds_place, within_some}
use Rattle.nb_book.proofs.Naming.{account_stands}
use Rattle.nb_book.proofs.list.EntryList.place_of.Goals as goal

pub returns-clause-place : goal.returns-clause-place
returns-clause-place c =
    let stands : StandsFor account_key c.name_key.result (opens c.args.id) = rw c.name_key.ensures.key (account_stands c.args.id c.name_key.ensures.fits) in
    c.find.ensures.found
    ∙ finds_place account_key c.args.self.now.cap c.args.self.now.accounts c.args.self.now.entries.items c.name_key.result (opens c.args.id) c.requires.accounts c.requires.fit stands

pub returns-clause-within : goal.returns-clause-within
returns-clause-within c =
    let stands : StandsFor account_key c.name_key.result (opens c.args.id) = rw c.name_key.ensures.key (account_stands c.args.id c.name_key.ensures.fits) in
    within_some (opens c.args.id) (holder_at c.args.id) (tests_holder c.args.id) c.args.self.now.entries.items c.find.result (
    c.find.ensures.found
    ∙ finds_place account_key c.args.self.now.cap c.args.self.now.accounts c.args.self.now.entries.items c.name_key.result (opens c.args.id) c.requires.accounts c.requires.fit stands
    )
