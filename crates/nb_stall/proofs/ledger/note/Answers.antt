use Rattle.std.proofs.Common.{◌≡◌, cond, Option, Some, None, refl, subst}
use Rattle.std.specs.Prelude.{IsSome}
use Rattle.std.specs.Ordering.{is_eq}
use Rattle.std.specs.BTreeMap.{BTreeMap, get}
use Rattle.nb_stall.specs.declared.purchase.Purchase.{Purchase}
use Rattle.nb_stall.specs.declared.sale.Held.{Held}
use Rattle.nb_stall.specs.declared.sale.Progress.TheVariants as progress
use Rattle.nb_stall.specs.Sales.{purchase_cmp}
use Rattle.nb_stall.proofs.Noting.{noted_so}
use Rattle.nb_stall.proofs.ledger.note.Goals as goal

pub returns-in-Some-parts-clause-noted : goal.returns-in-Some-parts-clause-noted
returns-in-Some-parts-clause-noted c =
    let sale = c.in-Some.held.now.sale in
    let w : Held = record { sale = record { product = sale.product; price = sale.price; request = sale.request; progress = c.with-held.result }; parts = Some c.in-Some-parts.made } in
    let was : Some c.in-Some.held.now ≡ get purchase_cmp c.args.sales.now c.purchase-purchase.result = c.in-Some.ensures.value in
    let there : IsSome (get purchase_cmp c.args.sales.now c.purchase-purchase.result) = subst IsSome was refl in
    noted_so c.args.item.now c.args.parts c.purchase-purchase.result (get purchase_cmp c.args.sales.now) (get purchase_cmp (c.get_mut.follows.lender w)) (Some w) c.purchase-purchase.ensures
    ((c.get_mut.follows.holds w).3 there).0
    (rw (← was, c.in-Some-parts.is, c.with-held.ensures) refl)

pub returns-in-None-clause-noted : goal.returns-in-None-clause-noted
returns-in-None-clause-noted c =
    let sale = c.in-Some.held.now.sale in
    let w : Held = record { sale = record { product = sale.product; price = sale.price; request = sale.request; progress = c.with-held.result }; parts = c.in-Some.held.now.parts } in
    let was : Some c.in-Some.held.now ≡ get purchase_cmp c.args.sales.now c.purchase-purchase.result = c.in-Some.ensures.value in
    let there : IsSome (get purchase_cmp c.args.sales.now c.purchase-purchase.result) = subst IsSome was refl in
    noted_so c.args.item.now c.args.parts c.purchase-purchase.result (get purchase_cmp c.args.sales.now) (get purchase_cmp (c.get_mut.follows.lender w)) (Some w) c.purchase-purchase.ensures
    ((c.get_mut.follows.holds w).3 there).0
    (rw (← was, c.in-None.is, c.with-held.ensures) refl)

pub returns-in_ok-insert-clause-noted : goal.returns-in_ok-insert-clause-noted
returns-in_ok-insert-clause-noted c =
    let p = c.purchase-purchase.result in
    let w : Option Held = Some (record {
      sale = record { product = c.in-Quoted.product; price = c.in-Quoted.price; request = c.in-Quoted.request; progress = progress.Quoted };
      parts = c.args.parts;
    }) in
    let back : c.get_mut.follows.lender-at-none ≡ c.args.sales.now = c.get_mut.follows.holds-at-none in
    let none : None ≡ get purchase_cmp c.args.sales.now p = c.in_default.ensures.value in
    noted_so c.args.item.now c.args.parts p (get purchase_cmp c.args.sales.now) (get purchase_cmp c.insert.new.self) w c.purchase-purchase.ensures
    (subst (λ (m : BTreeMap Purchase Held). (q : Purchase) → get purchase_cmp c.insert.new.self q ≡ cond (is_eq (purchase_cmp p q)) w (get purchase_cmp m q)) back c.in_ok-insert.ensures.updates.0)
    (rw (← none, c.in-Quoted.is) refl)
