use Rattle.std.proofs.Common.{[], arith, sym, ap, ◌∙◌}
use Rattle.nb_entry.specs.declared.entry.Entry.{Entry}
use Rattle.nb_entry.specs.declared.entry.Entry.TheVariants.{Fund}
use Rattle.nb_book.specs.Searches.{order_at, settles}
use Rattle.nb_book.specs.Indexes.{order_key}
use Rattle.nb_book.proofs.Counting.{tests_order}
use Rattle.nb_book.proofs.Indexing.{StandsFor, looked_up, looked_nowhere}
use Rattle.nb_book.proofs.Naming.{order_stands}
use Rattle.nb_book.proofs.list.EntryList.order.Goals as goal

pub index-requires : goal.index-requires
index-requires c =
    let d : Entry = Fund (record { 0 = 0 }) 0 [] in
    let stands : StandsFor order_key c.write.result (settles c.args.epoid.now) = rw c.write.ensures.spelling (order_stands c.args.epoid.now c.write.ensures.fits) in
    let here = looked_up order_key c.args.self.now.cap c.args.self.now.orders c.args.self.now.entries.items c.write.result (settles c.args.epoid.now) (order_at c.args.epoid.now) (tests_order c.args.epoid.now) c.requires.orders c.requires.fit stands _ c.in-Some.at d c.find.ensures.found c.in-Some.is in
    omega (arith, here.within, c.args.self.now.entries.ok.0)

pub returns-in-Some : goal.returns-in-Some
returns-in-Some c =
    let stands : StandsFor order_key c.write.result (settles c.args.epoid.now) = rw c.write.ensures.spelling (order_stands c.args.epoid.now c.write.ensures.fits) in
    let here = looked_up order_key c.args.self.now.cap c.args.self.now.orders c.args.self.now.entries.items c.write.result (settles c.args.epoid.now) (order_at c.args.epoid.now) (tests_order c.args.epoid.now) c.requires.orders c.requires.fit stands _ c.in-Some.at c.index.result.now c.find.ensures.found c.in-Some.is in
    c.order_at.ensures ∙ ap (λ (e : Entry). order_at c.args.epoid.now c.in-Some.at e) c.index.ensures ∙ sym here.answers

pub returns-in-None : goal.returns-in-None
returns-in-None c =
    let stands : StandsFor order_key c.write.result (settles c.args.epoid.now) = rw c.write.ensures.spelling (order_stands c.args.epoid.now c.write.ensures.fits) in
    sym (looked_nowhere order_key c.args.self.now.cap c.args.self.now.orders c.args.self.now.entries.items c.write.result (settles c.args.epoid.now) (order_at c.args.epoid.now) (tests_order c.args.epoid.now) c.requires.orders c.requires.fit stands _ c.find.ensures.found c.in-None.is)
