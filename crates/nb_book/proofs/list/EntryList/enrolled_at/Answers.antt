use Rattle.std.proofs.Common.{arith, ap, ◌∙◌}
use Rattle.nb_entry.specs.declared.entry.Entry.{Entry}
use Rattle.nb_book.specs.Searches.{party_at}
use Rattle.nb_book.proofs.Confirming.{confirms}
use Rattle.nb_book.proofs.list.EntryList.enrolled_at.Goals as goal

pub returns : goal.returns
returns c =
    confirms c.args.self.now.entries.items c.requires c.args.id c.args.at c.index.result.now c.party_at.result (omega (arith, c.args.self.now.entries.ok.0))
    (c.party_at.ensures ∙ ap (λ (e : Entry). party_at c.args.id c.args.at e) c.index.ensures)
