use Rattle.std.proofs.Common.{List, ℕ, ◌-◌, length, take, arith, refl}
use Rattle.nb_units.specs.declared.ids.AcctId.{AcctId}
use Rattle.nb_entry.specs.declared.entry.Entry.{Entry}
use Rattle.nb_book.specs.Money.{brought, taken}
use Rattle.nb_book.proofs.Keeping.{Behind, last_entry, MayTransfer, may_reverse, kept_pop, transferred}
use Rattle.nb_book.proofs.list.EntryList.reverse.Goals as goal

pub moved-requires-clause-next : goal.moved-requires-clause-next
moved-requires-clause-next c =
    let H : List Entry = c.args.self.now.entries.items in
    (length H - 1, (last_entry H c.args.e.now c.requires.legal c.requires.some c.requires.last).next)

pub transfer-requires : goal.transfer-requires
transfer-requires c =
    let m = c.in-Some.m in
    let H : List Entry = c.args.self.now.entries.items in
    let front : List Entry = take (length H - 1) H in
    let behind : Behind front c.args.e.now H = last_entry H c.args.e.now c.requires.legal c.requires.some c.requires.last in
    let may : MayTransfer c.args.self.now.balances.items m.payee m.brought m.payer m.taken =
    may_reverse front c.args.e.now H c.args.self.now.balances.items m.payer m.taken m.payee m.brought
    behind c.requires.legal c.requires.tied.balances c.in-Some.ensures.payer c.in-Some.ensures.payee in
    record { payer = omega arith; payee = omega arith; held = omega arith; fits = omega arith }

pub returns-in-Some-clause-balances : goal.returns-in-Some-clause-balances
returns-in-Some-clause-balances c =
    let m = c.in-Some.m in
    let H : List Entry = c.args.self.now.entries.items in
    let e : Entry = c.args.e.now in
    let before : List ℕ = c.args.self.now.balances.items in
    let after : List ℕ = c.transfer.new.balances.items in
    kept_pop (take (length H - 1) H) e H before after (last_entry H e c.requires.legal c.requires.some c.requires.last) c.requires.tied.balances c.transfer.ensures.long
    (transferred H m.payee m.brought m.payer m.taken (λ (a : AcctId). brought a e) (λ (a : AcctId). taken a e) c.in-Some.ensures.payee c.in-Some.ensures.payer before after c.transfer.ensures.each)

pub returns-in_default-clause-balances : goal.returns-in_default-clause-balances
returns-in_default-clause-balances c =
    let none = c.in_default.ensures.none refl in
    let H : List Entry = c.args.self.now.entries.items in
    let before : List ℕ = c.args.self.now.balances.items in
    kept_pop (take (length H - 1) H) c.args.e.now H before before (last_entry H c.args.e.now c.requires.legal c.requires.some c.requires.last) c.requires.tied.balances refl
    (λ a at placed. omega (arith, (none.0 a).0, (none.0 a).1))
