use Rattle.std.proofs.Common.{[], arith, sym, ap, ◌∙◌}
use Rattle.nb_entry.specs.declared.entry.Entry.{Entry}
use Rattle.nb_entry.specs.declared.entry.Entry.TheVariants.{Fund}
use Rattle.nb_book.specs.Searches.{funded_at}
use Rattle.nb_book.specs.Laws.{cites}
use Rattle.nb_book.specs.Indexes.{reference_key}
use Rattle.nb_book.proofs.Counting.{tests_funded}
use Rattle.nb_book.proofs.Indexing.{StandsFor, looked_up, looked_nowhere}
use Rattle.nb_book.proofs.Naming.{reference_stands}
use Rattle.nb_book.proofs.list.EntryList.reference.Goals as goal

pub index-requires : goal.index-requires
index-requires c =
    let d : Entry = Fund (record { 0 = 0 }) 0 [] in
    let stands : StandsFor reference_key c.args.reference.now (cites c.args.reference.now) = reference_stands c.args.reference.now in
    let here = looked_up reference_key c.args.self.now.cap c.args.self.now.references c.args.self.now.entries.items c.args.reference.now (cites c.args.reference.now) (funded_at c.args.reference.now) (tests_funded c.args.reference.now) c.requires.references c.requires.fit stands _ c.in-Some.at d c.find.ensures.found c.in-Some.is in
    omega (arith, here.within, c.args.self.now.entries.ok.0)

pub returns-in-Some : goal.returns-in-Some
returns-in-Some c =
    let stands : StandsFor reference_key c.args.reference.now (cites c.args.reference.now) = reference_stands c.args.reference.now in
    let here = looked_up reference_key c.args.self.now.cap c.args.self.now.references c.args.self.now.entries.items c.args.reference.now (cites c.args.reference.now) (funded_at c.args.reference.now) (tests_funded c.args.reference.now) c.requires.references c.requires.fit stands _ c.in-Some.at c.index.result.now c.find.ensures.found c.in-Some.is in
    c.funded_at.ensures ∙ ap (λ (e : Entry). funded_at c.args.reference.now c.in-Some.at e) c.index.ensures ∙ sym here.answers

pub returns-in-None : goal.returns-in-None
returns-in-None c =
    let stands : StandsFor reference_key c.args.reference.now (cites c.args.reference.now) = reference_stands c.args.reference.now in
    sym (looked_nowhere reference_key c.args.self.now.cap c.args.self.now.references c.args.self.now.entries.items c.args.reference.now (cites c.args.reference.now) (funded_at c.args.reference.now) (tests_funded c.args.reference.now) c.requires.references c.requires.fit stands _ c.find.ensures.found c.in-None.is)
