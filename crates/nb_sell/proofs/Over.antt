-- Where nothing more is done: the journal and the merchant are as they were behind the last act.
use Rattle.std.proofs.Common.{◌≡◌, ap, List}
use Rattle.nb_port.specs.Tells.{DiskTells}
use Rattle.nb_sell.specs.declared.peer.Over.{Over}
use Rattle.nb_sell.specs.declared.peer.Over.TheVariants as over
use Rattle.nb_sell.specs.Run.{Act}
use Rattle.nb_sell.specs.Sold.{Point, IsOverAt}

module _ {D : Type 0} (tells : DiskTells D) where
  journal_is : (p q : Point D) → p ≡ q → p.journal ≡ q.journal
  journal_is p q is = ap (λ (x : Point D). x.journal) is

  shop_is : (p q : Point D) → p ≡ q → p.way.shop ≡ q.way.shop
  shop_is p q is = ap (λ (x : Point D). x.way.shop) is

  pub over_journal : (p mid q : Point D) (acts : List Act) (why : Over) → IsOverAt tells p mid q acts why → q.journal ≡ mid.journal
  over_journal p mid q acts (over.NoFrame peer end) o = o.0.journal
  over_journal p mid q acts (over.WriteFault peer) o = journal_is q mid o.0
  over_journal p mid q acts over.Ignored o = journal_is q mid o.0
  over_journal p mid q acts over.Spent o = journal_is q mid o.0

  pub over_shop : (p mid q : Point D) (acts : List Act) (why : Over) → IsOverAt tells p mid q acts why → q.way.shop ≡ mid.way.shop
  over_shop p mid q acts (over.NoFrame peer end) o = ap (λ w. w.shop) o.0.way
  over_shop p mid q acts (over.WriteFault peer) o = shop_is q mid o.0
  over_shop p mid q acts over.Ignored o = shop_is q mid o.0
  over_shop p mid q acts over.Spent o = shop_is q mid o.0
