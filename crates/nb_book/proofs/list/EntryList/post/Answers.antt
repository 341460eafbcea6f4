use Rattle.std.proofs.Common.{List, [], ◌∷◌, ◌++◌, ℕ, arith, refl}
use Rattle.std.proofs.lemmas.List.Sums.{sum_by_push}
use Rattle.nb_units.specs.declared.ids.AcctId.{AcctId}
use Rattle.nb_entry.specs.declared.entry.Entry.{Entry}
use Rattle.nb_book.specs.Money.{brought, taken, fee_in}
use Rattle.nb_book.specs.Legal.{Legal}
use Rattle.nb_book.proofs.Growing.{legal_push}
use Rattle.nb_book.proofs.Summing.{total_fits}
use Rattle.nb_book.proofs.Balances.{fees_le_total}
use Rattle.nb_book.proofs.Keeping.{MayTransfer, may_post, kept_push, transferred}
use Rattle.nb_book.proofs.list.EntryList.post.Goals as goal

pub transfer-requires : goal.transfer-requires
transfer-requires c =
    let m = c.in-Some.m in
    let may : MayTransfer c.args.self.now.balances.items m.payer m.taken m.payee m.brought =
    may_post c.args.self.now.entries.items c.args.e.now c.args.self.now.balances.items m.payer m.taken m.payee m.brought
    c.requires.legal c.requires.next c.requires.tied.balances c.in-Some.ensures.payer c.in-Some.ensures.payee in
    record { payer = omega arith; payee = omega arith; held = omega arith; fits = omega arith }

pub overflow_add-self-in-Some : goal.overflow_add-self-in-Some
overflow_add-self-in-Some c =
    let H : List Entry = c.args.self.now.entries.items in
    let e : Entry = c.args.e.now in
    let longer : Legal (H ++ e ∷ []) = legal_push H e c.requires.legal c.requires.next in
    omega (arith, c.requires.tied.fees, c.in-Some.ensures.fee, sum_by_push fee_in H e, fees_le_total (H ++ e ∷ []) longer, total_fits (H ++ e ∷ []) longer)

pub returns-in-Some-clause-balances : goal.returns-in-Some-clause-balances
returns-in-Some-clause-balances c =
    let m = c.in-Some.m in
    let H : List Entry = c.args.self.now.entries.items in
    let e : Entry = c.args.e.now in
    let before : List ℕ = c.args.self.now.balances.items in
    let after : List ℕ = c.transfer.new.balances.items in
    kept_push H e before after c.requires.legal c.requires.next c.requires.tied.balances c.transfer.ensures.long
    (transferred H m.payer m.taken m.payee m.brought (λ (a : AcctId). taken a e) (λ (a : AcctId). brought a e) c.in-Some.ensures.payer c.in-Some.ensures.payee before after c.transfer.ensures.each)

pub returns-in_default-clause-balances : goal.returns-in_default-clause-balances
returns-in_default-clause-balances c =
    let none = c.in_default.ensures.none refl in
    kept_push c.args.self.now.entries.items c.args.e.now c.args.self.now.balances.items c.args.self.now.balances.items c.requires.legal c.requires.next c.requires.tied.balances refl
    (λ a at placed. omega (arith, (none.0 a).0, (none.0 a).1))
