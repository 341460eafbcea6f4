use Rattle.std.proofs.Common.{◌≡◌, ℕ, List, Ok, ap, subst, inr}
use Rattle.nb_journal.specs.Opening.{charter_of}
use Rattle.nb_wallet.specs.declared.wallet.Wallet.{Wallet}
use Rattle.nb_consumer.specs.Restart.{restarted}
use Rattle.nb_work.proofs.buying.buy_with.Goals as goal

pub returns : goal.returns
returns g c =
    let o = c.in-Ok.opened in
    let gives = c.in-Ok.ensures.gives in
    inr (inr (inr (
      c.buy-end.result,
      c.ended.ensures,
      record {
        cap = o.cap;
        charter = charter_of o;
        items = o.items.items;
        opened = o.journal;
        buyer = c.in-Ok-started.consumer;
        journal = c.buy-end.new.journal;
        later = c.buy-end.new.consumer;
        holds = gives.holds;
        rest = gives.rest;
        cap_is = gives.cap;
        starts = subst (λ (x : Wallet × List (List ℕ)). restarted x.0 x.1 ≡ Ok c.in-Ok-started.consumer) (λ i. (c.of_head.ensures i, c.as_slice.ensures.value i)) c.in-Ok-started.ensures;
        unwritten = c.in-Ok.ensures.nothing;
        counted = c.in-Ok.ensures.count;
        bought = c.buy-end.ensures.bought;
        goods = c.buy-end.ensures.goods;
        unsent = λ is. (ap g.K.Sink.sent (c.buy-end.ensures.unwritten is), ap g.K.Sink.faults (c.buy-end.ensures.unwritten is));
        handed_back = c.into_disk-2.ensures;
      },
    )))
