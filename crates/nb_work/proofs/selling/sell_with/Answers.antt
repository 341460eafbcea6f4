use Rattle.std.proofs.Common.{◌≡◌, ℕ, List, Ok, refl, subst, inr, ◌∙◌}
use Rattle.nb_journal.specs.Layout.{front_bytes}
use Rattle.nb_journal.specs.Opening.{charter_of}
use Rattle.nb_stall.specs.declared.stall.Stall.{Stall}
use Rattle.nb_merchant.specs.Shop.{new_shop}
use Rattle.nb_merchant.specs.Keeping.{restarted}
use Rattle.nb_work.specs.Selling.{standing}
use Rattle.nb_work.proofs.Sales.{journal_of}
use Rattle.nb_work.proofs.selling.sell_with.Goals as goal

pub serve_links-stop-requires-clause-kept : goal.serve_links-stop-requires-clause-kept
serve_links-stop-requires-clause-kept g c =
    let o = c.in-Ok.opened in
    λ others within. journal_of g.D.Disk.tells o.journal c.in-Ok-started.merchant (front_bytes o.cap (charter_of o)) o.items.items c.in-Ok.ensures.gives.rest (c.in-Ok-started.ensures.kept ∙ c.as_slice.ensures.value)

pub returns : goal.returns
returns g c =
    let o = c.in-Ok.opened in
    let gives = c.in-Ok.ensures.gives in
    inr (inr (inr (
      c.serve_links-stop.result,
      c.ended.ensures,
      record {
        cap = o.cap;
        charter = charter_of o;
        items = o.items.items;
        opened = o.journal;
        shop = c.in-Ok-started.merchant;
        last = standing c.serve_links-stop.new.journal c.serve_links-stop.new.merchant (g.L.Link.seen c.serve_links-stop.new.server) (g.C.Clock.moments c.serve_links-stop.new.worker.clock);
        holds = gives.holds;
        rest = gives.rest;
        cap_is = gives.cap;
        starts = subst (λ (x : Stall × List (List ℕ)). restarted (new_shop x.0 c.args.shelf c.args.offers) 0 x.1 ≡ Ok c.in-Ok-started.merchant) (λ i. (c.of_head.ensures i, c.as_slice.ensures.value i)) c.in-Ok-started.ensures.restarts;
        kept = c.in-Ok-started.ensures.kept ∙ c.as_slice.ensures.value;
        is = c.witness.ensures.kept;
        unwritten = c.in-Ok.ensures.nothing;
        counted = c.in-Ok.ensures.count;
        serves = c.serve_links-stop.ensures.serves;
        clock = refl;
        house = refl;
        handed_back = c.into_disk-2.ensures;
      },
    )))
