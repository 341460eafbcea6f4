use Rattle.std.proofs.Common.{ℕ, List, ap, take}
use Rattle.std.specs.List.{slice_get}
use Rattle.nb_units.specs.declared.ids.PartyId.{PartyId}
use Rattle.nb_player.proofs.Adding.{purchase_more, next_taken, told_at}
use Rattle.nb_player.proofs.rows.purchases_of.Goals as goal

pub loop-i-preserved : goal.loop-i-preserved
loop-i-preserved c =
    let bs = c.args.world.now.world.consumers in
    let i = c.loop-i.i in
    let known = c.in-Some.known in
    let t = told_at (slice_get bs i) (known.0, known.1.now) c.in-Some.ensures in
    rw (next_taken bs i t.0 t.1)
    (purchase_more (take i bs) t.0 known.0.0 known.1.now c.loop-i.purchases.keys c.add_purchases.new.purchases.keys (ap (λ (p : PartyId × List ℕ). p.0.0) t.2) (ap (λ (p : PartyId × List ℕ). p.1) t.2)
    c.loop-i.invariant c.in_ok-add_purchases-in-Some.ensures)
