use Rattle.std.proofs.Common.{◌≡◌, ◌<◌, [], Some, length, arith, ◌∙◌}
use Rattle.std.proofs.lemmas.List.{get_or_read}
use Rattle.nb_entry.specs.declared.entry.Entry.{Entry}
use Rattle.nb_entry.specs.declared.entry.Entry.TheVariants.{Fund}
use Rattle.nb_book.specs.Searches.{holder_at}
use Rattle.nb_book.specs.Laws.{opens}
use Rattle.nb_book.specs.Indexes.{first_place}
use Rattle.nb_book.proofs.Counting.{tests_holder}
use Rattle.nb_book.proofs.Indexing.{found}
use Rattle.nb_book.proofs.Keeping.{own_place}
use Rattle.nb_book.proofs.list.EntryList.balance_of.Goals as goal

pub index-requires : goal.index-requires
index-requires c =
    let place : first_place (opens c.args.party.now.acct) c.args.self.now.entries.items ≡ Some c.args.party.now.at = own_place c.args.self.now.entries.items c.requires.legal c.args.id c.args.party.now c.requires.enrolled in
    let d : Entry = Fund (record { 0 = 0 }) 0 [] in
    let here = found (opens c.args.party.now.acct) (holder_at c.args.party.now.acct) (tests_holder c.args.party.now.acct) c.args.self.now.entries.items c.args.party.now.at d place in
    omega (arith, here.within, c.requires.tied.balances.long, c.args.self.now.balances.ok.0)

pub returns : goal.returns
returns c =
    let place : first_place (opens c.args.party.now.acct) c.args.self.now.entries.items ≡ Some c.args.party.now.at = own_place c.args.self.now.entries.items c.requires.legal c.args.id c.args.party.now c.requires.enrolled in
    let d : Entry = Fund (record { 0 = 0 }) 0 [] in
    let here = found (opens c.args.party.now.acct) (holder_at c.args.party.now.acct) (tests_holder c.args.party.now.acct) c.args.self.now.entries.items c.args.party.now.at d place in
    let within : c.args.party.now.at < length c.args.self.now.balances.items = omega (arith, here.within, c.requires.tied.balances.long) in
    get_or_read _ _ _ within c.index.ensures 0 ∙ c.requires.tied.balances.each c.args.party.now.acct c.args.party.now.at place
