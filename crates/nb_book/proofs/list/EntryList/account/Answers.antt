use Rattle.std.proofs.Common.{◌≡◌, ◌<◌, Option, Some, None, length, arith, sym, ap, ◌∙◌}
use Rattle.std.proofs.lemmas.List.{get_or_read}
use Rattle.std.specs.Option.{option_map}
use Rattle.nb_units.specs.declared.ids.PartyId.{PartyId}
use Rattle.nb_entry.specs.declared.entry.Entry.{Entry}
use Rattle.nb_book.specs.Searches.{holder_at, holder_in}
use Rattle.nb_book.specs.Money.{balance}
use Rattle.nb_book.specs.Laws.{opens}
use Rattle.nb_book.proofs.Counting.{tests_holder}
use Rattle.nb_book.proofs.Indexing.{found, missed}
use Rattle.nb_book.proofs.Keeping.{holder_anywhere}
use Rattle.nb_book.proofs.list.EntryList.account.Goals as goal

pub index-requires : goal.index-requires
index-requires c = omega (arith, c.in-Some.ensures.within, c.args.self.now.entries.ok.0)

pub index-requires-in-Some-holder_at : goal.index-requires-in-Some-holder_at
index-requires-in-Some-holder_at c = omega (arith, c.in-Some.ensures.within, c.requires.tied.balances.long, c.args.self.now.balances.ok.0)

pub returns-in-Some-holder_at : goal.returns-in-Some-holder_at
returns-in-Some-holder_at c =
    let place = sym c.place_of.ensures.place ∙ c.in-Some.is in
    let here = found (opens c.args.id) (holder_at c.args.id) (tests_holder c.args.id) c.args.self.now.entries.items c.in-Some.at c.index.result.now place in
    let held : Some c.in-Some-holder_at.party ≡ holder_in c.args.self.now.entries.items c.args.id =
    sym c.in-Some-holder_at.is ∙ c.holder_at.ensures ∙ holder_anywhere c.args.id 0 c.in-Some.at c.index.result.now ∙ ap (λ (e : Entry). holder_at c.args.id c.in-Some.at e) c.index.ensures ∙ sym here.answers in
    let within : c.in-Some.at < length c.args.self.now.balances.items = omega (arith, here.within, c.requires.tied.balances.long) in
    let kept = get_or_read _ _ _ within c.index-in-Some-holder_at.ensures 0 ∙ c.requires.tied.balances.each c.args.id c.in-Some.at place in
    ap (λ n. Some (record { party = c.in-Some-holder_at.party; balance = n })) kept
    ∙ ap (λ (who : Option PartyId). option_map (λ (p : PartyId). record { party = p; balance = balance c.args.self.now.entries.items c.args.id }) who) held

pub returns-in-None-holder_at : goal.returns-in-None-holder_at
returns-in-None-holder_at c =
    let here = found (opens c.args.id) (holder_at c.args.id) (tests_holder c.args.id) c.args.self.now.entries.items c.in-Some.at c.index.result.now (sym c.place_of.ensures.place ∙ c.in-Some.is) in
    let held : None ≡ holder_in c.args.self.now.entries.items c.args.id =
    sym c.in-None-holder_at.is ∙ c.holder_at.ensures ∙ holder_anywhere c.args.id 0 c.in-Some.at c.index.result.now ∙ ap (λ (e : Entry). holder_at c.args.id c.in-Some.at e) c.index.ensures ∙ sym here.answers in
    ap (λ (who : Option PartyId). option_map (λ (p : PartyId). record { party = p; balance = balance c.args.self.now.entries.items c.args.id }) who) held

pub returns-in-None : goal.returns-in-None
returns-in-None c =
    let held = sym (missed (opens c.args.id) (holder_at c.args.id) (tests_holder c.args.id) c.args.self.now.entries.items (sym c.place_of.ensures.place ∙ c.in-None.is)) in
    ap (λ (who : Option PartyId). option_map (λ (p : PartyId). record { party = p; balance = balance c.args.self.now.entries.items c.args.id }) who) held
