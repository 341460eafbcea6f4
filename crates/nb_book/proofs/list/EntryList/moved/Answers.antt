use Rattle.std.proofs.Common.{List, take}
use Rattle.nb_entry.specs.declared.entry.Entry.{Entry}
use Rattle.nb_book.specs.Searches.{holder_at}
use Rattle.nb_book.specs.Laws.{opens}
use Rattle.nb_book.proofs.Counting.{count_by-some, tests_holder}
use Rattle.nb_book.proofs.Keeping.{held_since, accounts_held}
use Rattle.nb_book.proofs.list.EntryList.moved.Goals as goal

pub seat-payee-requires-clause-held : goal.seat-payee-requires-clause-held
seat-payee-requires-clause-held c =
    let H : List Entry = c.args.self.now.entries.items in
    let next = rw c.in-Fund.is at c.requires.next.1 in
    held_since H c.requires.next.0 c.in-Fund.acct (count_by-some (opens c.in-Fund.acct) (holder_at c.in-Fund.acct) (tests_holder c.in-Fund.acct) (take c.requires.next.0 H) next.0)

pub seat_of-payer-requires-clause-held : goal.seat_of-payer-requires-clause-held
seat_of-payer-requires-clause-held c =
    let next = rw c.in-Paid.is at c.requires.next.1 in
    (accounts_held c.args.self.now.entries.items c.requires.next.0 c.in-Paid.consumer c.in-Paid.merchant c.in-Paid.cacct c.in-Paid.macct next.2).0

pub seat_of-payee-requires-clause-held : goal.seat_of-payee-requires-clause-held
seat_of-payee-requires-clause-held c =
    let next = rw c.in-Paid.is at c.requires.next.1 in
    (accounts_held c.args.self.now.entries.items c.requires.next.0 c.in-Paid.consumer c.in-Paid.merchant c.in-Paid.cacct c.in-Paid.macct next.2).1

pub seat_of-payer-requires-in-Charged-clause-held : goal.seat_of-payer-requires-in-Charged-clause-held
seat_of-payer-requires-in-Charged-clause-held c =
    let next = rw c.in-Charged.is at c.requires.next.1 in
    (accounts_held c.args.self.now.entries.items c.requires.next.0 c.in-Charged.consumer c.in-Charged.merchant c.in-Charged.cacct c.in-Charged.macct next.0.2).0

pub seat_of-payee-requires-in-Charged-clause-held : goal.seat_of-payee-requires-in-Charged-clause-held
seat_of-payee-requires-in-Charged-clause-held c =
    let next = rw c.in-Charged.is at c.requires.next.1 in
    (accounts_held c.args.self.now.entries.items c.requires.next.0 c.in-Charged.consumer c.in-Charged.merchant c.in-Charged.cacct c.in-Charged.macct next.0.2).1
