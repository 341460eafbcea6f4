-- A trade goes on act by act.
use Rattle.std.proofs.Common.{◌≡◌, ◌⊎◌, inl, inr, ⊎_elim, ℕ, ◌+◌, ◌-◌, ◌*◌, ◌<◌, ◌≤◌, Bool, true, false, List, [], ◌∷◌, ◌++◌, length, Option, Some, None, Ok, Err, refl, sym, ap, subst, ◌∙◌, append_assoc, append-nil, length-append, arith}
use Rattle.std.specs.Prelude.{◌==◌, if◌then◌else◌}
use Rattle.std.proofs.lemmas.Bool.{eqb-true, eq-eqb, false≢true}
use Rattle.nb_port.specs.Tells.{DiskTells}
use Rattle.nb_journal.specs.Growing.{IsAtRest}
use Rattle.nb_journal.proofs.Growing.{grows_to_rest}
use Rattle.nb_units.specs.Frames.{Frame}
use Rattle.nb_units.specs.declared.frames.TheConstants.{REFUSED_REPLY}
use Rattle.nb_msgs.specs.declared.message.Message.{Message}
use Rattle.nb_msgs.specs.declared.node.Step.{Step}
use Rattle.nb_msgs.specs.declared.node.Step.TheVariants as step
use Rattle.nb_msgs.specs.declared.node.To.{To}
use Rattle.nb_msgs.specs.declared.node.To.TheVariants as to
use Rattle.nb_wire.specs.Sent.{WroteOn}
use Rattle.nb_wire.specs.declared.receiving.LinkEnd.{LinkEnd}
use Rattle.nb_wire.specs.declared.sending.Sent.{Sent}
use Rattle.nb_wire.specs.declared.sending.Sent.TheVariants.{All, Failed}
use Rattle.nb_wallet.specs.declared.wallet.Start.{Start}
use Rattle.nb_consumer.specs.Goods.{IsOpen, HasEnded}
use Rattle.nb_consumer.specs.State.{Buyer}
use Rattle.nb_consumer.specs.Table.{step_of}
use Rattle.nb_consumer.proofs.Moving.{start_moves, silent_moves}
use Rattle.nb_buy.specs.declared.peer.Peer.{Peer}
use Rattle.nb_buy.specs.declared.peer.Peer.TheVariants.{House, Seller}
use Rattle.nb_buy.specs.declared.peer.Over.{Over}
use Rattle.nb_buy.specs.declared.peer.Over.TheVariants as over
use Rattle.nb_buy.specs.declared.peer.Next.{Next}
use Rattle.nb_buy.specs.declared.peer.Next.TheVariants as next
use Rattle.nb_buy.specs.declared.hearing.Listened.{Listened}
use Rattle.nb_buy.specs.declared.ended.TheConstants.{MOST_FRAMES}
use Rattle.nb_buy.specs.declared.ended.Lost.{Lost}
use Rattle.nb_buy.specs.Run.{Act, Starts, Hears, Waits, act_row, asks, step_at, peer_of, bytes_in, frames_on, frames_of, phase_for, IsOrdered, Way, outset, awaited, onward, MayAct, Obeys}
use Rattle.nb_buy.specs.Lines.{Lines, line_at, HasRefusal}
use Rattle.nb_buy.specs.Bought.{Point, Went, way_of, AskedFor, IsSpoilt, FailedWithin, HadItsTurn, Traded, AreFew, Finished, Stopped, Spent, Loses, TradeLost}
use Rattle.nb_buy.specs.Steps.{FinishedOpening, Carries, HeardAs, Listens, Ran, peer_in, OverIs, IsClear, IsOfSeller, IsKnown, next_sent, next_behind, next_heard, frames_heard, opened_at}
use Rattle.nb_buy.proofs.Runs.{way_both, obeys_both, frames_both, heard_both}
use Rattle.nb_buy.proofs.OverLines.{sent_same, refusal_either, refusal_later, over_from}
use Rattle.nb_buy.proofs.Carrying.{went_none, went_both}
use Rattle.nb_buy.proofs.Failing.{AllSent, sent_or_failed, HearsNoFailed, hears_sent, clear_move, clear_on, line_went, failed_on, failed_still}
use Rattle.nb_buy.proofs.Rows.{refusal_row, row_known, started_open, silent_same}
use Rattle.nb_buy.proofs.HowFar.{open_known, ordered_open, over_apart}

-- ---- what is done next behind a step

peer_sent : (peer : Peer) (so : Sent) → peer_in (next_sent peer so) ≡ peer
peer_sent peer All = refl
peer_sent peer Failed = refl

-- where a message is sent, the answer of its peer is waited for
awaits_move : (before : Option Peer) (from : Peer) (done : Step) (lines : Lines) (keep : Option (List ℕ)) (whom : To) (sent : Message) → done ≡ step.Move keep whom sent
    → awaited before done ≡ Some (peer_in (next_behind from done lines))
awaits_move before from done lines keep whom sent is =
    subst (λ (st : Step). awaited before st ≡ Some (peer_in (next_behind from st lines))) (sym is) (ap Some (sym (peer_sent (peer_of whom) (line_at (peer_of whom) lines).sent)))

-- and else that of the one before
awaits_on : (from : Peer) (done : Step) (lines : Lines) → awaited (Some from) done ≡ Some (peer_in (next_behind from done lines))
awaits_on from (step.Move keep whom sent) lines = ap Some (sym (peer_sent (peer_of whom) (line_at (peer_of whom) lines).sent))
awaits_on from (step.Ended keep end) lines = refl
awaits_on from (step.Ignored why) lines = refl

-- a write to the seller that fails is told
sent_on : (from : Peer) (done : Step) (old new : Lines) → WroteOn old.seller.sent new.seller.sent old.seller.wire.link new.seller.wire.link (bytes_in Seller done ++ []) → new.seller.sent ≡ Failed
    → (old.seller.sent ≡ Failed) ⊎ IsOfSeller (next_behind from done new)
sent_on from (step.Ended keep end) old new wrote fails = inl (sym (sent_same old.seller.sent new.seller.sent old.seller.wire.link new.seller.wire.link wrote) ∙ fails)
sent_on from (step.Ignored why) old new wrote fails = inl (sym (sent_same old.seller.sent new.seller.sent old.seller.wire.link new.seller.wire.link wrote) ∙ fails)
sent_on from (step.Move keep to.Server sent) old new wrote fails = inl (sym (sent_same old.seller.sent new.seller.sent old.seller.wire.link new.seller.wire.link wrote) ∙ fails)
sent_on from (step.Move keep (to.Merchant party) sent) old new wrote fails = inr (subst (λ (so : Sent). IsOfSeller (next_sent Seller so)) (sym fails) tt)
sent_on from (step.Move keep (to.Consumer party) sent) old new wrote fails = inr (subst (λ (so : Sent). IsOfSeller (next_sent Seller so)) (sym fails) tt)

-- one act is not none
one_more : (a : Act) → ◌≡◌ {A = List Act} (a ∷ []) [] → ⊥
one_more a e = cc

abbrev pub next_rank : Next → ℕ
next_rank (next.Awaits peer) = 1
next_rank (next.Over peer why) = 0

abbrev pub asked_rank : Bool → ℕ
asked_rank false = 2
asked_rank true = 0

pub rank_most : (n : Next) → next_rank n ≤ 1
rank_most (next.Awaits peer) = omega arith
rank_most (next.Over peer why) = omega arith

module _ {D : Type 0} (tells : DiskTells D) (s : Start) where
  over_on : (p r : Point D) (acts : List Act) (from : Peer) (done : Step) → OverIs p r acts (next_behind from done r.lines)
  over_on p r acts from (step.Ended keep end) = tt
  over_on p r acts from (step.Ignored why) = tt
  over_on p r acts from (step.Move keep whom sent) = by (line_at (peer_of whom) r.lines).sent refl
    where
      by : (so : Sent) → (line_at (peer_of whom) r.lines).sent ≡ so → OverIs p r acts (next_sent (peer_of whom) so)
      by All is = tt
      by Failed is = is

  -- ---- one act more

  way_on : (p q : Point D) (acts : List Act) (a : Act) → Went tells s p q acts → way_of s p.buyer (acts ++ a ∷ []) ≡ onward (way_of s p.buyer acts) a (step_at s q.buyer a)
  way_on p q acts a went = way_both s p.buyer outset acts (a ∷ []) ∙ ap (λ (b : Buyer). onward (way_of s p.buyer acts) a (step_at s b a)) (sym went.buyer)

  obeys_on : (p q : Point D) (acts : List Act) (a : Act) → Obeys s p.buyer outset acts → Went tells s p q acts → MayAct (phase_for s q.buyer) (way_of s p.buyer acts) a
      → Obeys s p.buyer outset (acts ++ a ∷ [])
  obeys_on p q acts a obeys went may =
      obeys_both s p.buyer outset acts (a ∷ []) obeys (subst (λ (b : Buyer). MayAct (phase_for s b) (way_of s p.buyer acts) a) went.buyer may, tt)

  asked_more : (p q r : Point D) (acts more : List Act) → AskedFor tells s p q acts → Went tells s q r more → AskedFor tells s p r (acts ++ more)
  asked_more p q r acts more was went = record {
    before = was.before;
    later = was.later ++ more;
    mid = was.mid;
    why = was.why;
    acts_are = ap (λ (xs : List Act). xs ++ more) was.acts_are ∙ append_assoc was.before (Waits ∷ was.later) more;
    first = was.first;
    more = went_both tells s was.mid q r (Waits ∷ was.later) more was.more went;
    awaited = was.awaited;
    over_is = was.over_is;
    refused = was.refused;
  }

  -- an act by which the house is not asked for want of an answer
  traded_on : (p q r : Point D) (t : Traded tells s p q) (a : Act) → MayAct (phase_for s q.buyer) (way_of s p.buyer t.acts) a → Went tells s q r (a ∷ []) → HearsNoFailed q.lines a
      → ((way_of s p.buyer (t.acts ++ a ∷ [])).asked ≡ true → (way_of s p.buyer t.acts).asked ≡ true) → Traded tells s p r
  traded_on p q r t a may went none stays = record {
    acts = t.acts ++ a ∷ [];
    obeys = obeys_on p q t.acts a t.obeys t.went may;
    went = went_both tells s p q r t.acts (a ∷ []) t.went went;
    failed = failed_on tells s p q r t a went none;
    asked_for = λ is. asked_more p q r t.acts (a ∷ []) (t.asked_for (stays is)) went;
  }

  -- nothing but reads
  traded_still : (p q r : Point D) → Traded tells s p q → Went tells s q r [] → Traded tells s p r
  traded_still p q r t went = record {
    acts = t.acts;
    obeys = t.obeys;
    went = subst (Went tells s p r) (append-nil t.acts) (went_both tells s p q r t.acts [] t.went went);
    failed = failed_still tells s p q r t went;
    asked_for = λ is. subst (AskedFor tells s p r) (append-nil t.acts) (asked_more p q r t.acts [] (t.asked_for is) went);
  }

  pub traded_none : (p : Point D) → AllSent p.lines → Traded tells s p p
  traded_none p all = record {
    acts = [];
    obeys = tt;
    went = went_none tells s p;
    failed = λ peer fails. absurd (sent_or_failed (all peer) fails);
    asked_for = λ is. absurd (false≢true is);
  }

  pub few_none : (p : Point D) (all : AllSent p.lines) → AreFew (traded_none p all).acts
  unfolding traded_none
  few_none p all = omega arith

  pub acts_none : (p : Point D) (all : AllSent p.lines) → (traded_none p all).acts ≡ []
  unfolding traded_none
  acts_none p all = refl

  known_on : (q r : Point D) (a : Act) → Went tells s q r (a ∷ []) → IsKnown (phase_for s q.buyer) → IsKnown (phase_for s r.buyer)
  known_on q r a went known = subst (λ (b : Buyer). IsKnown (phase_for s b)) (sym went.buyer) (row_known q.buyer s.transaction (act_row s q.buyer a) known)

  count_on : (acts : List Act) (a : Act) (n : ℕ) → length (frames_of acts) ≡ n → length (frames_of (acts ++ a ∷ [])) ≡ n + length (frames_of (a ∷ []))
  count_on acts a n is = ap length (heard_both acts (a ∷ [])) ∙ length-append (frames_of acts) (frames_of (a ∷ [])) ∙ ap (λ (k : ℕ). k + length (frames_of (a ∷ []))) is

  -- where the seller was spoilt behind one act, it was before it, or that is told next
  spoilt_on : (p q r : Point D) (acts : List Act) (a : Act) (from : Peer) (n : Next) → (IsOfSeller (next_behind from (step_at s q.buyer a) r.lines) → IsOfSeller n) → Went tells s q r (a ∷ [])
      → (HasRefusal (frames_on Seller (a ∷ [])) → IsOfSeller n) → IsSpoilt r (acts ++ a ∷ []) → IsSpoilt q acts ⊎ IsOfSeller n
  spoilt_on p q r acts a from n told went refused spoilt =
      ⊎_elim
      (λ has. ⊎_elim (λ first. inl (inl first)) (λ later. inr (refused later))
      (refusal_either (frames_on Seller acts) (frames_on Seller (a ∷ [])) (subst HasRefusal (frames_both Seller acts (a ∷ [])) has)))
      (λ fails. ⊎_elim (λ before. inl (inr before)) (λ now. inr (told now)) (sent_on from (step_at s q.buyer a) q.lines r.lines went.seller.wrote fails))
      spoilt

  told_first : (p q : Point D) (a : Act) (n : Next) → p.lines.seller.sent ≡ All → Carries tells s p q House a (Ok n) → (HasRefusal (frames_on Seller (a ∷ [])) → ⊥)
      → IsSpoilt q (a ∷ []) → ◌≡◌ {A = Bool} false true ⊎ IsOfSeller n
  told_first p q a n all c none spoilt =
      ⊎_elim
      (λ before. ⊎_elim (λ has. absurd has) (λ fails. absurd (apart (sym all ∙ fails))) before)
      (λ now. inr now)
      (spoilt_on p p q [] a House n (subst IsOfSeller (sym c.1)) c.0 (λ has. absurd (none has)) spoilt)
    where
      apart : ◌≡◌ {A = Sent} All Failed → ⊥
      apart e = cc

  -- ---- at the outset

  -- behind an act that hears nothing
  failed_first : (p q : Point D) (a : Act) → AllSent p.lines → Went tells s p q (a ∷ []) → (peer : Peer) → (line_at peer q.lines).sent ≡ Failed
      → FailedWithin s p.buyer peer (line_at peer p.lines) (line_at peer q.lines) (a ∷ [])
  unfolding traded_none
  failed_first p q a all went = failed_on tells s p p q (traded_none p all) a went (λ peer fails. absurd (sent_or_failed (all peer) fails))

  -- behind a start the purchase is going on, and so it stays where its last message is sent again
  pub open_started : (p q : Point D) (n : Next) → phase_for s p.buyer ≡ None → Carries tells s p q House Starts (Ok n) → IsOpen (phase_for s q.buyer)
  open_started p q n none c = subst (λ (b : Buyer). IsOpen (phase_for s b)) (sym c.0.buyer) (started_open p.buyer s none)

  pub open_waited : (p q : Point D) (peer : Peer) (n : Next) → IsOpen (phase_for s p.buyer) → Carries tells s p q peer Waits (Ok n) → IsOpen (phase_for s q.buyer)
  open_waited p q peer n going c = subst (λ (b : Buyer). IsOpen (phase_for s b)) (sym (c.0.buyer ∙ silent_same p.buyer s.transaction going)) going

  pub ran_started : (p q : Point D) (n : Next) → phase_for s p.buyer ≡ None → AllSent p.lines → Carries tells s p q House Starts (Ok n) → Ran tells s p q false n 0
  ran_started p q n none all c =
      let moves = start_moves p.buyer s none in
      record {
        traded = record { acts = Starts ∷ []; obeys = ((refl, none), tt); went = c.0; failed = failed_first p q Starts all c.0; asked_for = λ is. absurd (false≢true is) };
        awaits = awaits_move None House (step_at s p.buyer Starts) q.lines _ to.Server _ moves ∙ ap (λ (x : Next). Some (peer_in x)) (sym c.1);
        asked_is = refl;
        known = open_known (phase_for s q.buyer) (open_started p q n none c);
        over = subst (OverIs p q (Starts ∷ [])) (sym c.1) (over_on p q (Starts ∷ []) House (step_at s p.buyer Starts));
        clear = subst (IsClear q.lines false) (sym c.1) (clear_move House (step_at s p.buyer Starts) q.lines false _ to.Server _ moves refl);
        told = told_first p q Starts n (all Seller) c (λ has. absurd has);
        count = refl;
      }

  pub ran_waited : (p q : Point D) (n : Next) → IsOpen (phase_for s p.buyer) → AllSent p.lines → Carries tells s p q House Waits (Ok n) → Ran tells s p q false n 0
  ran_waited p q n going all c =
      let moves = silent_moves p.buyer s.transaction going in
      record {
        traded = record { acts = Waits ∷ []; obeys = (going, tt); went = c.0; failed = failed_first p q Waits all c.0; asked_for = λ is. absurd (false≢true is) };
        awaits = awaits_move None House (step_at s p.buyer Waits) q.lines None moves.0 moves.1 moves.2 ∙ ap (λ (x : Next). Some (peer_in x)) (sym c.1);
        asked_is = refl;
        known = known_on p q Waits c.0 (open_known (phase_for s p.buyer) going);
        over = subst (OverIs p q (Waits ∷ [])) (sym c.1) (over_on p q (Waits ∷ []) House (step_at s p.buyer Waits));
        clear = subst (IsClear q.lines false) (sym c.1) (clear_move House (step_at s p.buyer Waits) q.lines false None moves.0 moves.1 moves.2 refl);
        told = told_first p q Waits n (all Seller) c (λ has. absurd has);
        count = refl;
      }

  lost_first : (p q : Point D) (a : Act) (why : Lost) → AllSent p.lines → AreFew (a ∷ []) → MayAct (phase_for s p.buyer) outset a → Loses tells s p q (a ∷ []) why → TradeLost tells s p q why
  unfolding traded_none
  lost_first p q a why all few may loses = record {
    mid = p;
    traded = traded_none p all;
    last = a ∷ [];
    one = omega arith;
    few = few;
    obeys = (may, tt);
    loses = loses;
    asks = λ e awaits. absurd (apart awaits);
    hears = λ from f e. all from;
    memory = λ e. absurd (one_more a e);
  }
    where
      apart : ◌≡◌ {A = Option Peer} None (Some Seller) → ⊥
      apart e = cc

  pub lost_started : (p q : Point D) (why : Lost) → phase_for s p.buyer ≡ None → AllSent p.lines → Carries tells s p q House Starts (Err why) → TradeLost tells s p q why
  lost_started p q why none all loses = lost_first p q Starts why all (omega arith) (refl, none) loses

  pub lost_waited : (p q : Point D) (why : Lost) → IsOpen (phase_for s p.buyer) → AllSent p.lines → Carries tells s p q House Waits (Err why) → TradeLost tells s p q why
  lost_waited p q why going all loses = lost_first p q Waits why all (omega arith) going loses

  -- nothing is done where the purchase is over at the outset
  pub finished_first : (p : Point D) → AllSent p.lines → HasEnded (phase_for s p.buyer) → FinishedOpening tells s p p None
  unfolding traded_none
  finished_first p all over = (record { traded = traded_none p all; few = omega arith; over = over }, refl)

  -- ---- the house is asked

  may_wait : (p q : Point D) (why : Over) (read : ℕ) (ran : Ran tells s p q false (next.Over Seller why) read) → IsOrdered (phase_for s q.buyer)
      → MayAct (phase_for s q.buyer) (way_of s p.buyer ran.traded.acts) Waits
  may_wait p q why read ran ordered =
      subst (λ (w : Way). MayAct (phase_for s q.buyer) w Waits) (λ i. way (sym ran.awaits i) (sym ran.asked_is i)) (ordered, refl)
    where
      way : Option Peer → Bool → Way
      way awaits asked = record { awaits = awaits; asked = asked; refused = (way_of s p.buyer ran.traded.acts).refused; opened = (way_of s p.buyer ran.traded.acts).opened }

  pub ran_asks : (p q r : Point D) (why : Over) (n : Next) (read : ℕ) → Ran tells s p q false (next.Over Seller why) read → IsOrdered (phase_for s q.buyer)
      → Carries tells s q r Seller Waits (Ok n) → Ran tells s p r true n read
  ran_asks p q r why n read ran ordered c =
      let acts = ran.traded.acts in
      let way : way_of s p.buyer (acts ++ Waits ∷ []) ≡ onward (way_of s p.buyer acts) Waits (step_at s q.buyer Waits) = way_on p q acts Waits ran.traded.went in
      let moves = silent_moves q.buyer s.transaction (ordered_open (phase_for s q.buyer) ordered) in
      record {
        traded = record {
          acts = acts ++ Waits ∷ [];
          obeys = obeys_on p q acts Waits ran.traded.obeys ran.traded.went (may_wait p q why read ran ordered);
          went = went_both tells s p q r acts (Waits ∷ []) ran.traded.went c.0;
          failed = failed_on tells s p q r ran.traded Waits c.0 (λ peer fails. refl);
          asked_for = λ is. record {
            before = acts;
            later = [];
            mid = q;
            why = why;
            acts_are = refl;
            first = ran.traded.went;
            more = c.0;
            awaited = ran.awaits;
            over_is = ran.over;
            refused = ran.clear;
          };
        };
        awaits = ap (λ (w : Way). w.awaits) way ∙ ap (λ (o : Option Peer). awaited o (step_at s q.buyer Waits)) ran.awaits ∙ awaits_on Seller (step_at s q.buyer Waits) r.lines ∙ ap (λ (x : Next). Some (peer_in x)) (sym c.1);
        asked_is = ap (λ (w : Way). w.asked) way ∙ ap (asks (way_of s p.buyer acts).asked Waits) ran.awaits;
        known = known_on q r Waits c.0 ran.known;
        over = subst (OverIs p r (acts ++ Waits ∷ [])) (sym c.1) (over_on p r (acts ++ Waits ∷ []) Seller (step_at s q.buyer Waits));
        clear = subst (λ (x : Next). IsClear r.lines (way_of s p.buyer (acts ++ Waits ∷ [])).refused x) (sym c.1)
            (clear_move Seller (step_at s q.buyer Waits) r.lines (way_of s p.buyer (acts ++ Waits ∷ [])).refused None moves.0 moves.1 moves.2 (ap (λ (w : Way). w.refused) way));
        told = λ spoilt. inl refl;
        count = count_on acts Waits read ran.count ∙ none_more read;
      }
    where
      none_more : (n : ℕ) → n + 0 ≡ n
      none_more n = omega arith

  pub lost_asks : (p q r : Point D) (why : Over) (lost : Lost) (read : ℕ) → read ≤ MOST_FRAMES → Ran tells s p q false (next.Over Seller why) read → IsOrdered (phase_for s q.buyer)
      → Carries tells s q r Seller Waits (Err lost) → TradeLost tells s p r lost
  lost_asks p q r why lost read most ran ordered loses = record {
    mid = q;
    traded = ran.traded;
    last = Waits ∷ [];
    one = omega arith;
    few = omega (arith, most, count_on ran.traded.acts Waits read ran.count);
    obeys = obeys_on p q ran.traded.acts Waits ran.traded.obeys ran.traded.went (may_wait p q why read ran ordered);
    loses = loses;
    asks = λ e awaits. (why, ran.over, ran.clear);
    hears = λ from f e. absurd (apart from f e);
    memory = λ e. absurd (one_more Waits e);
  }
    where
      apart : (from : Peer) (f : Frame) → Waits ∷ [] ≡ Hears from f ∷ [] → ⊥
      apart from f e = cc

  -- ---- a frame is heard

  -- what a frame leads to: a refusal is ignored, and ends what is waited for
  record Led (p q r : Point D) (acts : List Act) (from : Peer) (f : Frame) (n : Next) : Type 0 where
    awaits : awaited (Some from) (step_at s q.buyer (Hears from f)) ≡ Some (peer_in n)
    over : OverIs p r (acts ++ Hears from f ∷ []) n
    clear : IsClear r.lines (f.kind == REFUSED_REPLY) n
    spoilt : IsSpoilt r (acts ++ Hears from f ∷ []) → IsSpoilt q acts ⊎ IsOfSeller n

  led : (p q r : Point D) (acts : List Act) (from : Peer) (f : Frame) → Went tells s q r (Hears from f ∷ []) → (line_at from q.lines).sent ≡ All
      → Led p q r acts from f (next_heard from f.kind (next_behind from (step_at s q.buyer (Hears from f)) r.lines))
  led p q r acts from f went all = by (f.kind == REFUSED_REPLY) refl
    where
      behind : Next
      behind = next_behind from (step_at s q.buyer (Hears from f)) r.lines

      of_seller : (peer : Peer) → HasRefusal (frames_on Seller (Hears peer f ∷ [])) → IsOfSeller (next.Over peer over.Refused)
      of_seller House has = has
      of_seller Seller has = tt

      not_refused : (peer : Peer) → HasRefusal (frames_on Seller (Hears peer f ∷ [])) → f.kind ≡ REFUSED_REPLY
      not_refused House has = absurd has
      not_refused Seller has = ⊎_elim (λ is. is) (λ later. absurd later) has

      is_refused : (peer : Peer) → f.kind ≡ REFUSED_REPLY → HasRefusal (frames_on peer (Hears peer f ∷ []))
      is_refused House is = inl is
      is_refused Seller is = inl is

      by : (test : Bool) → (f.kind == REFUSED_REPLY) ≡ test → Led p q r acts from f (if test then next.Over from over.Refused else behind)
      by true is =
          let kind : f.kind ≡ REFUSED_REPLY = eqb-true f.kind REFUSED_REPLY is in
          let row = refusal_row q.buyer f kind in
          let ignored : step_at s q.buyer (Hears from f) ≡ step.Ignored row.0 = ap step_of row.1 in
          record {
            awaits = ap (awaited (Some from)) ignored;
            over = subst HasRefusal (sym (frames_both from acts (Hears from f ∷ []))) (refusal_later (frames_on from acts) (frames_on from (Hears from f ∷ [])) (is_refused from kind));
            clear = λ e. is;
            spoilt = spoilt_on p q r acts (Hears from f) from (next.Over from over.Refused) (λ now. absurd (subst IsOfSeller (ap (λ (st : Step). next_behind from st r.lines) ignored) now)) went (of_seller from);
          }
      by false is = record {
        awaits = awaits_on from (step_at s q.buyer (Hears from f)) r.lines;
        over = over_on p r (acts ++ Hears from f ∷ []) from (step_at s q.buyer (Hears from f));
        clear = clear_on from (step_at s q.buyer (Hears from f)) q.lines r.lines (f.kind == REFUSED_REPLY) (λ peer. (line_went tells s q r (Hears from f ∷ []) peer went).wrote) all is;
        spoilt = spoilt_on p q r acts (Hears from f) from behind (λ now. now) went (λ has. absurd (false≢true (sym is ∙ eq-eqb f.kind REFUSED_REPLY (not_refused from has))));
      }

  count_at : (from : Peer) (p q : Point D) (acts : List Act) → Went tells s p q acts → (line_at from p.lines).wire.link.read_faults ≤ (line_at from q.lines).wire.link.read_faults
  count_at House p q acts went = went.house.received.read_count
  count_at Seller p q acts went = went.seller.received.read_count

  pub ran_listened : (p q r : Point D) (asked : Bool) (from : Peer) (x : Listened) (read read' : ℕ) → Ran tells s p q asked (next.Awaits from) read → IsOpen (phase_for s q.buyer)
      → Listens tells s q r from read read' (Ok x) → Ran tells s p r asked x.next read'
  unfolding traded_still traded_on
  ran_listened p q r asked from x read read' ran going heard = by heard.0 heard.1 heard.2
    where
      by : (o : Option Frame) → HeardAs tells s q r from x.next o → read' ≡ read + frames_heard o → Ran tells s p r asked x.next read'
      by None h e =
          let same : q.lines.seller.sent ≡ r.lines.seller.sent = sym (sent_same q.lines.seller.sent r.lines.seller.sent q.lines.seller.wire.link r.lines.seller.wire.link h.0.seller.wrote) in
          record {
            traded = traded_still p q r ran.traded h.0;
            awaits = ran.awaits ∙ ap (λ (y : Next). Some (peer_in y)) (sym h.1.1);
            asked_is = ran.asked_is;
            known = subst (λ (b : Buyer). IsKnown (phase_for s b)) (sym h.0.buyer) ran.known;
            over = subst (OverIs p r ran.traded.acts) (sym h.1.1)
                (over_from (line_at from p.lines) (line_at from q.lines) (line_at from r.lines) (frames_on from ran.traded.acts) [] (over.Ended h.1.0) (count_at from p q ran.traded.acts ran.traded.went) h.1.2);
            clear = subst (IsClear r.lines (way_of s p.buyer ran.traded.acts).refused) (sym h.1.1) (λ refusal. absurd (no_refusal refusal));
            told = λ spoilt. ⊎_elim (λ is. inl is) (λ now. absurd now) (ran.told (⊎_elim (λ has. inl has) (λ fails. inr (same ∙ fails)) spoilt));
            count = ran.count ∙ sym (e ∙ none_more read);
          }
        where
          none_more : (k : ℕ) → k + 0 ≡ k
          none_more k = omega arith

          no_refusal : {end : LinkEnd} → over.Ended end ≡ over.Refused → ⊥
          no_refusal e = cc
      by (Some f) h e =
          let acts = ran.traded.acts in
          let l = subst (Led p q r acts from f) (sym h.1) (led p q r acts from f h.0 ran.clear.0) in
          let way : way_of s p.buyer (acts ++ Hears from f ∷ []) ≡ onward (way_of s p.buyer acts) (Hears from f) (step_at s q.buyer (Hears from f)) = way_on p q acts (Hears from f) ran.traded.went in
          record {
            traded = traded_on p q r ran.traded (Hears from f) (ran.awaits, going, ran.clear.1) h.0 (hears_sent q.lines from f ran.clear.0) (λ is. sym (ap (λ (w : Way). w.asked) way) ∙ is);
            awaits = ap (λ (w : Way). w.awaits) way ∙ ap (λ (o : Option Peer). awaited o (step_at s q.buyer (Hears from f))) ran.awaits ∙ l.awaits;
            asked_is = ap (λ (w : Way). w.asked) way ∙ ran.asked_is;
            known = known_on q r (Hears from f) h.0 ran.known;
            over = l.over;
            clear = subst (λ (test : Bool). IsClear r.lines test x.next) (sym (ap (λ (w : Way). w.refused) way)) l.clear;
            told = λ spoilt. ⊎_elim (λ before. ⊎_elim (λ is. inl is) (λ now. absurd now) (ran.told before)) (λ now. inr now) (l.spoilt spoilt);
            count = count_on acts (Hears from f) read ran.count ∙ sym e;
          }

  pub lost_listened : (p q r : Point D) (asked : Bool) (from : Peer) (lost : Lost) (read read' : ℕ) → read < MOST_FRAMES → Ran tells s p q asked (next.Awaits from) read → IsOpen (phase_for s q.buyer)
      → Listens tells s q r from read read' (Err lost) → TradeLost tells s p r lost
  lost_listened p q r asked from lost read read' most ran going heard = record {
    mid = q;
    traded = ran.traded;
    last = Hears from heard.0 ∷ [];
    one = omega arith;
    few = omega (arith, most, count_on ran.traded.acts (Hears from heard.0) read ran.count);
    obeys = obeys_on p q ran.traded.acts (Hears from heard.0) ran.traded.obeys ran.traded.went (ran.awaits, going, ran.clear.1);
    loses = heard.1;
    asks = λ e awaits. absurd (apart e);
    hears = λ peer f e. subst (λ (x : Peer). (line_at x q.lines).sent ≡ All) (same peer f e) ran.clear.0;
    memory = λ e. absurd (one_more (Hears from heard.0) e);
  }
    where
      same : (peer : Peer) (f : Frame) → Hears from heard.0 ∷ [] ≡ Hears peer f ∷ [] → from ≡ peer
      same peer f e = cc

      apart : Hears from heard.0 ∷ [] ≡ Waits ∷ [] → ⊥
      apart e = cc

  -- a frame is read, or nothing more comes
  pub listened_less : (q r : Point D) (from : Peer) (x : Listened) (asked : Bool) (read read' : ℕ) → read < MOST_FRAMES → Listens tells s q r from read read' (Ok x)
      → (10000 - read') * 4 + asked_rank asked + next_rank x.next < (10000 - read) * 4 + asked_rank asked + 1
  listened_less q r from x asked read read' few heard = by heard.0 heard.1 heard.2
    where
      by : (o : Option Frame) → HeardAs tells s q r from x.next o → read' ≡ read + frames_heard o → (10000 - read') * 4 + asked_rank asked + next_rank x.next < (10000 - read) * 4 + asked_rank asked + 1
      by None h e =
          let none : next_rank x.next ≡ 0 = ap next_rank h.1.1 in
          omega (arith, e, none)
      by (Some f) h e = omega (arith, e, few, rank_most x.next)

  -- ---- the ends

  -- where the purchase is over behind a frame, the goods that it opened are those of the last act
  listened_opened : (p q r : Point D) (asked : Bool) (from : Peer) (x : Listened) (read read' : ℕ) (ran : Ran tells s p q asked (next.Awaits from) read) (going : IsOpen (phase_for s q.buyer))
      (heard : Listens tells s q r from read read' (Ok x)) → HasEnded (phase_for s r.buyer)
      → x.opened ≡ (way_of s p.buyer (ran_listened p q r asked from x read read' ran going heard).traded.acts).opened
  unfolding traded_still traded_on ran_listened
  listened_opened p q r asked from x read read' ran going heard over = by heard.0 heard.1 heard.2 heard.3
    where
      by : (o : Option Frame) (h : HeardAs tells s q r from x.next o) (e : read' ≡ read + frames_heard o) (is : x.opened ≡ opened_at s q.buyer from o)
          → x.opened ≡ (way_of s p.buyer (ran_listened p q r asked from x read read' ran going (o, h, e, is)).traded.acts).opened
      by None h e is = absurd (over_apart (phase_for s r.buyer) over (subst (λ (b : Buyer). IsOpen (phase_for s b)) (sym h.0.buyer) going))
      by (Some f) h e is = is ∙ sym (ap (λ (w : Way). w.opened) (way_on p q ran.traded.acts (Hears from f) ran.traded.went))

  pub finished : (p q r : Point D) (asked : Bool) (from : Peer) (x : Listened) (read read' : ℕ) → read' ≤ MOST_FRAMES → Ran tells s p q asked (next.Awaits from) read → IsOpen (phase_for s q.buyer)
      → Listens tells s q r from read read' (Ok x) → HasEnded (phase_for s r.buyer) → FinishedOpening tells s p r x.opened
  finished p q r asked from x read read' most ran going heard over =
      let on = ran_listened p q r asked from x read read' ran going heard in
      (record { traded = on.traded; few = omega (arith, most, on.count); over = over }, listened_opened p q r asked from x read read' ran going heard over)

  pub stopped : (p q : Point D) (asked : Bool) (peer : Peer) (why : Over) (read : ℕ) → read ≤ MOST_FRAMES → Ran tells s p q asked (next.Over peer why) read → IsOpen (phase_for s q.buyer)
      → HadItsTurn (phase_for s q.buyer) asked peer → Stopped tells s p q peer why
  stopped p q asked peer why read most ran going turn = record {
    traded = ran.traded;
    few = omega (arith, most, ran.count);
    going = going;
    awaited = ran.awaits;
    over = ran.over;
    refused = ran.clear;
    turn = subst (λ (was : Bool). HadItsTurn (phase_for s q.buyer) was peer) (sym ran.asked_is) turn;
  }

  pub spent : (p q : Point D) (asked : Bool) (from : Peer) (read : ℕ) → Ran tells s p q asked (next.Awaits from) read → IsOpen (phase_for s q.buyer) → read ≡ MOST_FRAMES → Spent tells s p q
  spent p q asked from read ran going most = record {
    traded = ran.traded;
    going = going;
    count = ran.count ∙ most;
    turn = λ spoilt. ran.asked_is ∙ ⊎_elim (λ is. is) (λ now. absurd now) (ran.told spoilt);
  }

  -- ---- the journal

  pub rest_at : (p q : Point D) (asked : Bool) (n : Next) (read : ℕ) → IsAtRest tells p.journal → Ran tells s p q asked n read → IsAtRest tells q.journal
  rest_at p q asked n read rest ran = grows_to_rest tells p.journal q.journal _ rest ran.traded.went.journal
