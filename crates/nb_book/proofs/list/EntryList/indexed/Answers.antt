use Rattle.std.proofs.Common.{[], arith, sym, ap, ◌∙◌}
use Rattle.nb_entry.specs.declared.entry.Entry.{Entry}
use Rattle.nb_entry.specs.declared.entry.Entry.TheVariants.{Fund}
use Rattle.nb_book.specs.Searches.{party_at}
use Rattle.nb_book.specs.Laws.{enrols}
use Rattle.nb_book.specs.Indexes.{party_key}
use Rattle.nb_book.proofs.Counting.{tests_party}
use Rattle.nb_book.proofs.Indexing.{StandsFor, looked_up, looked_nowhere}
use Rattle.nb_book.proofs.Naming.{party_stands}
use Rattle.nb_book.proofs.list.EntryList.indexed.Goals as goal

pub index-requires : goal.index-requires
index-requires c =
    let d : Entry = Fund (record { 0 = 0 }) 0 [] in
    let stands : StandsFor party_key c.name_key.result (enrols c.args.id) = rw c.name_key.ensures.key (party_stands c.args.id c.name_key.ensures.fits) in
    let here = looked_up party_key c.args.self.now.cap c.args.self.now.parties c.args.self.now.entries.items c.name_key.result (enrols c.args.id) (party_at c.args.id) (tests_party c.args.id) c.requires.parties c.requires.fit stands _ c.in-Some.at d c.find.ensures.found c.in-Some.is in
    omega (arith, here.within, c.args.self.now.entries.ok.0)

pub returns-in-Some : goal.returns-in-Some
returns-in-Some c =
    let stands : StandsFor party_key c.name_key.result (enrols c.args.id) = rw c.name_key.ensures.key (party_stands c.args.id c.name_key.ensures.fits) in
    let here = looked_up party_key c.args.self.now.cap c.args.self.now.parties c.args.self.now.entries.items c.name_key.result (enrols c.args.id) (party_at c.args.id) (tests_party c.args.id) c.requires.parties c.requires.fit stands _ c.in-Some.at c.index.result.now c.find.ensures.found c.in-Some.is in
    c.party_at.ensures ∙ ap (λ (e : Entry). party_at c.args.id c.in-Some.at e) c.index.ensures ∙ sym here.answers

pub returns-in-None : goal.returns-in-None
returns-in-None c =
    let stands : StandsFor party_key c.name_key.result (enrols c.args.id) = rw c.name_key.ensures.key (party_stands c.args.id c.name_key.ensures.fits) in
    sym (looked_nowhere party_key c.args.self.now.cap c.args.self.now.parties c.args.self.now.entries.items c.name_key.result (enrols c.args.id) (party_at c.args.id) (tests_party c.args.id) c.requires.parties c.requires.fit stands _ c.find.ensures.found c.in-None.is)
