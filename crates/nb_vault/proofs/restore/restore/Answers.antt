use Rattle.std.proofs.Common.{◌≡◌, ◌<◌, ◌+◌, ◌∷◌, [], ◌++◌, List, ℕ, length, take, sym, ap, subst, ◌∙◌, arith}
use Rattle.std.proofs.lemmas.List.{take_more}
use Rattle.nb_vault.specs.Holdings.{Joins}
use Rattle.nb_vault.proofs.Joining.{joins_item}
use Rattle.nb_vault.proofs.restore.restore.Goals as goal

pub loop-i-preserved : goal.loop-i-preserved
loop-i-preserved c =
    let items = c.args.items.now in
    let i = c.loop-i.i in
    let whole = c.in-Whole.ensures.gives in
    let inside : i < length items = omega (arith, c.loop-i-test.true, c.loop-i.auto.i-end) in
    let one : take (i + 1) items ≡ take i items ++ c.as_slice.result.now ∷ [] =
    take_more items i c.index-items-i.result inside ∙ ap (λ (x : List ℕ). take i items ++ x ∷ []) (sym c.index-items-i.is ∙ sym c.as_slice.ensures) in
    record {
      joins = subst (λ (xs : List (List ℕ)). Joins xs c.restore_item.new.book.entries) (sym one)
          (subst (Joins (take i items ++ c.as_slice.result.now ∷ [])) (sym whole.2) (joins_item (take i items) c.as_slice.result.now c.loop-i.book.entries whole.0 c.loop-i.invariant.joins whole.1));
      each = whole.3;
      cap = c.restore_item.ensures.cap ∙ c.loop-i.invariant.cap;
    }
