-- What a trade and the writing of its goods come to.
use Rattle.std.proofs.Common.{◌≡◌, ℕ, List, [], ◌∷◌, Option, Some, None, refl, inl, inr, sym, subst, ◌∙◌, append-nil, arith}
use Rattle.std.specs.Prelude.{IsTrue, is_some}
use Rattle.nb_port.specs.Tells.{DiskTells}
use Rattle.nb_journal.specs.declared.journal.Journal.{Journal}
use Rattle.nb_link.specs.Link.{LinkSeen}
use Rattle.nb_frame.specs.State.{Collected}
use Rattle.nb_wire.specs.Received.{wire}
use Rattle.nb_wire.specs.declared.sending.Sent.{Sent}
use Rattle.nb_wallet.specs.declared.wallet.Start.{Start}
use Rattle.nb_consumer.specs.State.{Buyer}
use Rattle.nb_buy.specs.declared.ended.Lost.TheVariants as lost
use Rattle.nb_buy.specs.declared.ended.BuyEnd.{BuyEnd}
use Rattle.nb_buy.specs.declared.ended.BuyEnd.TheVariants as ends
use Rattle.nb_buy.specs.declared.sides.Sides.{Sides}
use Rattle.nb_units.specs.Frames.{Frame}
use Rattle.nb_buy.specs.declared.peer.Peer.{Peer}
use Rattle.nb_buy.specs.Run.{Act, Hears, Waits, outset, Obeys}
use Rattle.nb_buy.specs.Lines.{Lines}
use Rattle.nb_buy.specs.Bought.{Point, point, way_of, Traded, AreFew, Finished, TradeLost, Around, around, first_point, WantedMemory, EndsAt, Bought, WritesGoods}
use Rattle.nb_buy.specs.Laws.{IsCarriedOut}
use Rattle.nb_buy.specs.Steps.{AreBegun, Finishes, lines_of}
use Rattle.nb_buy.proofs.OverLines.{line_none}
use Rattle.nb_buy.proofs.Failing.{all_first}
use Rattle.nb_buy.proofs.Rounds.{traded_none, few_none, acts_none}

module _ {D : Type 0} (tells : DiskTells D) (s : Start) where
  -- there was no memory before the first act, or behind the last
  lost_nothing : (p q : Point D) (t : Traded tells s p q) → AreFew t.acts → WantedMemory s p q t.acts → TradeLost tells s p q lost.NoMemory
  lost_nothing p q t few memory = record {
    mid = q;
    traded = t;
    last = [];
    one = omega arith;
    few = subst AreFew (sym (append-nil t.acts)) few;
    obeys = subst (Obeys s p.buyer outset) (sym (append-nil t.acts)) t.obeys;
    loses = record { journal = refl; buyer = inl refl; house = line_none q.lines.house; seller = line_none q.lines.seller };
    asks = λ e awaits. absurd (apart e);
    hears = λ from f e. absurd (silent from f e);
    memory = λ e. memory;
  }
    where
      silent : (from : Peer) (f : Frame) → ◌≡◌ {A = List Act} [] (Hears from f ∷ []) → ⊥
      silent from f e = cc

      apart : ◌≡◌ {A = List Act} [] (Waits ∷ []) → ⊥
      apart e = cc

  pub bought_nothing : (a : Around D) → Bought tells s a a (ends.Lost lost.NoMemory)
  bought_nothing a = record {
    last = first_point a;
    last_is = record { journal = refl; buyer = refl; house = refl; seller = refl };
    ended = lost_nothing (first_point a) (first_point a) (traded_none tells s (first_point a) (all_first a)) (few_none tells s (first_point a) (all_first a)) (inl (acts_none tells s (first_point a) (all_first a)));
  }

  -- the lines at the outset are those of what is held beside the links then
  begun_lines : (house seller : LinkSeen) (sides : Sides) (a : Around D) → a.house ≡ house → a.seller ≡ seller → AreBegun sides → lines_of house seller sides ≡ (first_point a).lines
  begun_lines house seller sides a one two is = λ i. lines (sym one i) (sym two i) (is.house i) (is.house_sent i) (is.seller i) (is.seller_sent i)
    where
      lines : LinkSeen → LinkSeen → Collected → Sent → Collected → Sent → Lines
      lines first other held so kept too = record { house = record { wire = wire first held; sent = so }; seller = record { wire = wire other kept; sent = too } }

  pub bought_at : (journal journal' : Journal D) (b c : Buyer) (house seller house' seller' : LinkSeen) (sides sides' : Sides) (end : BuyEnd) → AreBegun sides
      → EndsAt tells s (point journal b (lines_of house seller sides)) (point journal' c (lines_of house' seller' sides')) end
      → Bought tells s (around journal b house seller) (around journal' c house' seller') end
  bought_at journal journal' b c house seller house' seller' sides sides' end begun ended = record {
    last = point journal' c (lines_of house' seller' sides');
    last_is = record { journal = refl; buyer = refl; house = refl; seller = refl };
    ended = subst (λ (lines : Lines). EndsAt tells s (point journal b lines) (point journal' c (lines_of house' seller' sides')) end)
        (begun_lines house seller sides (around journal b house seller) refl refl begun) ended;
  }

  -- no goods were opened where there was no memory for them
  unopened : (opened : Option (List ℕ)) → (IsTrue (is_some opened) → IsCarriedOut (ends.Lost lost.NoMemory)) → opened ≡ None
  unopened None carried = refl
  unopened (Some goods) carried = absurd (carried refl)

  -- a purchase that is over, whose goods were written or not
  pub finished_at : (p q : Point D) (opened : Option (List ℕ)) (before after : ℕ) (old new : Option (List ℕ)) (end : BuyEnd) → Finishes s q.buyer before after old new end
      → (IsTrue (is_some opened) → IsCarriedOut end) → (f : Finished tells s p q) → opened ≡ (way_of s p.buyer f.traded.acts).opened → EndsAt tells s p q end
  finished_at p q opened before after old new ends.Paid is carried f same = f
  finished_at p q opened before after old new ends.Unpaid is carried f same = f
  finished_at p q opened before after old new ends.SinkFault is carried f same = f
  finished_at p q opened before after old new (ends.Stopped peer why) is carried f same = absurd is
  finished_at p q opened before after old new ends.Spent is carried f same = absurd is
  finished_at p q opened before after old new (ends.Lost lost.NoMemory) is carried f same = lost_nothing p q f.traded f.few (inr (f.over, sym same ∙ unopened opened carried))
  finished_at p q opened before after old new (ends.Lost (lost.Full cap)) is carried f same = absurd is
  finished_at p q opened before after old new (ends.Lost (lost.DiskFault x y)) is carried f same = absurd is

-- what was written then
pub finished_goods : (s : Start) (b : Buyer) (before after : ℕ) (old new : Option (List ℕ)) (end : BuyEnd) → Finishes s b before after old new end → WritesGoods s b before after old new end
finished_goods s b before after old new ends.Paid is = is
finished_goods s b before after old new ends.Unpaid is = is
finished_goods s b before after old new ends.SinkFault is = is
finished_goods s b before after old new (ends.Stopped peer why) is = absurd is
finished_goods s b before after old new ends.Spent is = absurd is
finished_goods s b before after old new (ends.Lost lost.NoMemory) is = tt
finished_goods s b before after old new (ends.Lost (lost.Full cap)) is = absurd is
finished_goods s b before after old new (ends.Lost (lost.DiskFault x y)) is = absurd is
