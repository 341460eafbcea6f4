-- A link is served act by act.
use Rattle.std.proofs.Common.{◌≡◌, ℕ, ◌+◌, ◌-◌, ◌*◌, ◌<◌, ◌≤◌, List, [], ◌∷◌, ◌++◌, length, Option, Some, None, Result, Ok, Err, refl, sym, ap, subst, ◌∙◌, append-nil, length-append, arith}
use Rattle.nb_port.specs.Tells.{DiskTells}
use Rattle.nb_journal.specs.declared.journal.Journal.{Journal}
use Rattle.nb_journal.specs.Growing.{IsAtRest}
use Rattle.nb_journal.proofs.Growing.{grows_to_rest}
use Rattle.nb_units.specs.declared.ids.PartyId.{PartyId}
use Rattle.nb_msgs.specs.Bodies.{message_bytes}
use Rattle.nb_msgs.specs.declared.node.Reason.{Reason}
use Rattle.nb_wire.specs.Sent.{WroteOn}
use Rattle.nb_wire.specs.declared.sending.Sent.{Sent}
use Rattle.nb_wire.specs.declared.sending.Sent.TheVariants.{All, Failed}
use Rattle.nb_merchant.specs.declared.answer.Answer.{Answer}
use Rattle.nb_trade.specs.Lines.{Line}
use Rattle.nb_trade.specs.declared.lost.Lost.{Lost}
use Rattle.nb_trade.proofs.Going.{sent_same}
use Rattle.nb_sell.specs.declared.peer.Peer.{Peer}
use Rattle.nb_sell.specs.declared.peer.Peer.TheVariants.{House, Consumer}
use Rattle.nb_sell.specs.declared.peer.Over.{Over}
use Rattle.nb_sell.specs.declared.peer.Over.TheVariants as over
use Rattle.nb_sell.specs.declared.peer.Next.{Next}
use Rattle.nb_sell.specs.declared.peer.Next.TheVariants as next
use Rattle.nb_sell.specs.declared.ended.TheConstants.{MOST_FRAMES}
use Rattle.nb_sell.specs.Run.{Act, Hears, Told, Way, last_in, act_row, only_of, link_for, bytes_in, frame_in, frames_on, awaited, peer_in, Obeys}
use Rattle.nb_sell.specs.Sold.{Lines, line_at, Point, Went, OneByOne, AllSent, Unsent, Served, Stopped, SellLost}
use Rattle.nb_frame.specs.State.{Collected}
use Rattle.nb_sell.specs.declared.sides.Sides.{Sides}
use Rattle.nb_sell.specs.Steps.{AreBegun, IsNear, FewMore, IsNext, HeardAs, Listens, StandsAt, Ran, next_sent, next_to, next_behind, frames_heard}
use Rattle.nb_sell.proofs.Carrying.{went_none, went_both}
use Rattle.nb_sell.proofs.Over.{over_journal}
use Rattle.nb_sell.proofs.Runs.{obeys_both, frames_both}

-- ---- how far it is

abbrev pub next_rank : Next → ℕ
next_rank (next.Awaits House) = 2
next_rank (next.Awaits Consumer) = 1
next_rank (next.Over why) = 0

pub rank_most : (n : Next) → next_rank n ≤ 2
rank_most (next.Awaits House) = omega arith
rank_most (next.Awaits Consumer) = omega arith
rank_most (next.Over why) = omega arith

-- behind a frame of the house
pub rank_less : (n : Next) → IsNext House n → next_rank n < 2
rank_less (next.Awaits House) is = absurd is
rank_less (next.Awaits Consumer) is = omega arith
rank_less (next.Over why) is = omega arith

few_on : (from : Peer) (a : Act) (read : ℕ) → from ≡ peer_in a → FewMore from read → read + length (frame_in Consumer a) ≤ MOST_FRAMES
few_on from (Hears f moment) read is few = let less : read < MOST_FRAMES = subst (λ (peer : Peer). FewMore peer read) is few in omega (arith, less)
few_on from (Told f) read is few = let less : read ≤ MOST_FRAMES = subst (λ (peer : Peer). FewMore peer read) is few in omega (arith, less)

-- ---- what was sent

-- what may have failed behind a message to this link, or to none: a write to that
abbrev SentOn : Option Peer → Lines → Type 0
SentOn None lines = AllSent lines
SentOn (Some House) lines = lines.consumer.sent ≡ All
SentOn (Some Consumer) lines = lines.house.sent ≡ All

-- these bytes were written to a line
abbrev WroteTo : Line → Line → List ℕ → Type 0
WroteTo old new bytes = WroteOn old.sent new.sent old.wire.link new.wire.link bytes

none_sent : (old new : Line) → old.sent ≡ All → WroteTo old new [] → new.sent ≡ All
none_sent old new all wrote = sent_same old.sent new.sent old.wire.link new.wire.link wrote ∙ all

sent_on : (o : Option Peer) (bytes : List ℕ) (old new : Lines) → AllSent old → WroteTo old.house new.house (only_of House o bytes ++ []) → WroteTo old.consumer new.consumer (only_of Consumer o bytes ++ []) → SentOn o new
sent_on None bytes old new all house consumer = record { house = none_sent old.house new.house all.house house; consumer = none_sent old.consumer new.consumer all.consumer consumer }
sent_on (Some House) bytes old new all house consumer = none_sent old.consumer new.consumer all.consumer consumer
sent_on (Some Consumer) bytes old new all house consumer = none_sent old.house new.house all.house house

all_now : (peer : Peer) (lines : Lines) → SentOn (Some peer) lines → (line_at peer lines).sent ≡ All → AllSent lines
all_now House lines other this = record { house = this; consumer = other }
all_now Consumer lines other this = record { house = other; consumer = this }

-- it came from one point to another, and all was sent
record RanTo {D : Type 0} (tells : DiskTells D) (p q : Point D) (read : ℕ) : Type 0 where
  served : Served tells p q
  sent : AllSent q.lines
  count : length (frames_on Consumer served.acts) ≡ read

module _ {D : Type 0} (tells : DiskTells D) where
  -- ---- one act more

  each_on : (p q r : Point D) (acts : List Act) (a : Act) → OneByOne tells p q acts → AllSent q.lines → Went tells q r (a ∷ []) → OneByOne tells p r (acts ++ a ∷ [])
  each_on p q r [] a is sent went = (subst (λ (x : Point D). AllSent x.lines) is sent, (r, subst (λ (x : Point D). Went tells x r (a ∷ [])) is went, refl))
  each_on p q r (b ∷ acts) a is sent went = (is.0, (is.1.0, is.1.1, each_on is.1.0 q r acts a is.1.2 sent went))

  unfoldable pub served_none : (p : Point D) → Served tells p p
  served_none p = record { acts = []; obeys = tt; went = went_none tells p; each = refl; few = omega arith }

  obeys_on : (p q : Point D) (acts : List Act) (a : Act) → Obeys p.way acts → Went tells p q acts → q.way.awaits ≡ Some (peer_in a) → Obeys p.way (acts ++ a ∷ [])
  obeys_on p q acts a obeys went may = obeys_both p.way acts (a ∷ []) obeys (ap (λ (w : Way). w.awaits) (sym went.way) ∙ may, tt)

  count_on : (acts : List Act) (a : Act) (read : ℕ) → length (frames_on Consumer acts) ≡ read → length (frames_on Consumer (acts ++ a ∷ [])) ≡ read + length (frame_in Consumer a)
  count_on acts a read is =
      ap length (frames_both Consumer acts (a ∷ [])) ∙ length-append (frames_on Consumer acts) (frames_on Consumer (a ∷ []))
      ∙ ap (λ (k : ℕ). k + length (frames_on Consumer (a ∷ []))) is ∙ ap (λ (n : ℕ). read + n) (ap length (append-nil (frame_in Consumer a)))

  served_on : (p q r : Point D) (s : Served tells p q) (a : Act) (read : ℕ) → length (frames_on Consumer s.acts) ≡ read → read + length (frame_in Consumer a) ≤ MOST_FRAMES
      → q.way.awaits ≡ Some (peer_in a) → AllSent q.lines → Went tells q r (a ∷ []) → Served tells p r
  served_on p q r s a read is few may sent went = record {
    acts = s.acts ++ a ∷ [];
    obeys = obeys_on p q s.acts a s.obeys s.went may;
    went = went_both tells p q r s.acts (a ∷ []) s.went went;
    each = each_on p q r s.acts a s.each sent went;
    few = omega (arith, few, count_on s.acts a read is);
  }

  -- what stands behind a message that went to a link, or to none
  stands_to : (p r : Point D) (acts : List Act) (o : Option Peer) → SentOn o r.lines → ((peer : Peer) → (line_at peer r.lines).sent ≡ Failed → Unsent tells p r acts peer)
      → StandsAt tells p r r acts (next_to o r.lines)
  stands_to p r acts None all unsent = (refl, all)
  stands_to p r acts (Some peer) others unsent = by (line_at peer r.lines).sent refl
    where
      by : (so : Sent) → (line_at peer r.lines).sent ≡ so → StandsAt tells p r r acts (next_sent peer so)
      by All is = (refl, all_now peer r.lines others is)
      by Failed is = (refl, unsent peer is)

  -- and behind a row
  stands_on : (p q r : Point D) (acts : List Act) (last : Option PartyId) (row : Result Answer Reason) → AllSent q.lines → r.way.awaits ≡ awaited row
      → WroteTo q.lines.house r.lines.house (bytes_in House last row ++ []) → WroteTo q.lines.consumer r.lines.consumer (bytes_in Consumer last row ++ [])
      → ((peer : Peer) → (line_at peer r.lines).sent ≡ Failed → Unsent tells p r acts peer)
      → StandsAt tells p r r acts (next_behind last row r.lines)
  stands_on p q r acts last (Err why) all awaits house consumer unsent =
      (refl, record { house = none_sent q.lines.house r.lines.house all.house house; consumer = none_sent q.lines.consumer r.lines.consumer all.consumer consumer }, awaits)
  stands_on p q r acts last (Ok answer) all awaits house consumer unsent =
      stands_to p r acts (link_for last answer.to) (sent_on (link_for last answer.to) (message_bytes answer.message) q.lines r.lines all house consumer) unsent

  -- ---- the way of a link

  pub ran_first : (p : Point D) (read : ℕ) → AllSent p.lines → read ≡ 0 → Ran tells p p (next.Awaits Consumer) read
  unfolding served_none
  ran_first p read all none = record { mid = p; served = served_none p; stands = (refl, all); count = sym none }

  ran_to : (p q : Point D) (from : Peer) (read : ℕ) → Ran tells p q (next.Awaits from) read → RanTo tells p q read
  ran_to p q from read ran = subst (λ (x : Point D). RanTo tells p x read) (sym ran.stands.0) (record { served = ran.served; sent = ran.stands.1; count = ran.count })

  pub ran_on : (p q r : Point D) (from : Peer) (n : Next) (read read' : ℕ) → Ran tells p q (next.Awaits from) read → q.way.awaits ≡ Some from → FewMore from read
      → Listens tells q r from read read' (Ok n) → Ran tells p r n read'
  unfolding served_on
  ran_on p q r from n read read' ran awaits few heard = by (ran_to p q from read ran) heard.0 heard.1 heard.2
    where
      by : RanTo tells p q read → (o : Option Act) → HeardAs tells q r from n o → read' ≡ read + frames_heard o → Ran tells p r n read'
      by to None h e = record {
        mid = q;
        served = to.served;
        stands = subst (StandsAt tells p q r to.served.acts) (sym h.1) (h.2, to.sent, awaits);
        count = omega (arith, to.count, e);
      }
      by to (Some a) h e =
          let may : q.way.awaits ≡ Some (peer_in a) = awaits ∙ ap Some h.0 in
          record {
            mid = r;
            served = served_on p q r to.served a read to.count (few_on from a read h.0 few) may to.sent h.1;
            stands = subst (StandsAt tells p r r (to.served.acts ++ a ∷ [])) (sym h.2)
                (stands_on p q r (to.served.acts ++ a ∷ []) (last_in q.way a) (act_row q.way.shop a) to.sent (ap (λ (w : Way). w.awaits) h.1.way) h.1.house.wrote h.1.consumer.wrote
                (λ peer failed. record { before = to.served.acts; last = a; mid = q; acts_are = refl; first = to.served.went; more = h.1; sent = to.sent; failed = failed }));
            count = count_on to.served.acts a read to.count ∙ sym e;
          }

  pub lost_on : (p q r : Point D) (from : Peer) (why : Lost) (read read' : ℕ) → Ran tells p q (next.Awaits from) read → q.way.awaits ≡ Some from → FewMore from read
      → Listens tells q r from read read' (Err why) → SellLost tells p r why
  lost_on p q r from why read read' ran awaits few heard = by (ran_to p q from read ran)
    where
      by : RanTo tells p q read → SellLost tells p r why
      by to = record {
        mid = q;
        served = to.served;
        sent = to.sent;
        last = heard.0 ∷ [];
        one = omega arith;
        few = omega (arith, few_on from heard.0 read heard.1 few, count_on to.served.acts heard.0 read to.count);
        obeys = obeys_on p q to.served.acts heard.0 to.served.obeys to.served.went (awaits ∙ ap Some heard.1);
        loses = heard.2;
      }

  -- a frame of the consumer's is read, or one of the house's behind it, or none comes any more
  pub listened_less : (q r : Point D) (from : Peer) (n : Next) (read read' : ℕ) → FewMore from read → IsNext from n → Listens tells q r from read read' (Ok n)
      → (10000 - read') * 4 + next_rank n < (10000 - read) * 4 + next_rank (next.Awaits from)
  listened_less q r from n read read' few turn heard = by heard.0 heard.1 heard.2
    where
      none : (from : Peer) → (10000 - read) * 4 + 0 < (10000 - read) * 4 + next_rank (next.Awaits from)
      none House = omega arith
      none Consumer = omega arith

      one : (a : Act) (from : Peer) → from ≡ peer_in a → FewMore from read → IsNext from n → read' ≡ read + length (frame_in Consumer a)
          → (10000 - read') * 4 + next_rank n < (10000 - read) * 4 + next_rank (next.Awaits from)
      one (Hears f moment) Consumer is few turn e = omega (arith, e, few, rank_most n)
      one (Hears f moment) House is few turn e = absurd (apart is)
        where
          apart : ◌≡◌ {A = Peer} House Consumer → ⊥
          apart e = cc
      one (Told f) House is few turn e = omega (arith, e, rank_less n turn)
      one (Told f) Consumer is few turn e = absurd (apart is)
        where
          apart : ◌≡◌ {A = Peer} Consumer House → ⊥
          apart e = cc

      by : (o : Option Act) → HeardAs tells q r from n o → read' ≡ read + frames_heard o → (10000 - read') * 4 + next_rank n < (10000 - read) * 4 + next_rank (next.Awaits from)
      by None h e =
          let over : next_rank n ≡ 0 = ap next_rank h.1 in
          omega (arith, e, over, none from)
      by (Some a) h e = one a from h.0 few turn e

  -- ---- the ends

  pub stopped : (p q : Point D) (why : Over) (read : ℕ) → Ran tells p q (next.Over why) read → Stopped tells p q why
  stopped p q why read ran = record { mid = ran.mid; served = ran.served; over = ran.stands }

  pub spent : (p q : Point D) (read : ℕ) → Ran tells p q (next.Awaits Consumer) read → q.way.awaits ≡ Some Consumer → read ≡ MOST_FRAMES → Stopped tells p q over.Spent
  spent p q read ran awaits most = record {
    mid = ran.mid;
    served = ran.served;
    over = (ran.stands.0, ran.stands.1, ap (λ (x : Point D). x.way.awaits) (sym ran.stands.0) ∙ awaits, ran.count ∙ most);
  }

  -- ---- the journal

  stands_journal : (p mid q : Point D) (acts : List Act) (n : Next) → StandsAt tells p mid q acts n → q.journal ≡ mid.journal
  stands_journal p mid q acts (next.Awaits peer) s = ap (λ (x : Point D). x.journal) s.0
  stands_journal p mid q acts (next.Over why) s = over_journal tells p mid q acts why s

  pub rest_at : (p q : Point D) (n : Next) (read : ℕ) → IsAtRest tells p.journal → Ran tells p q n read → IsAtRest tells q.journal
  rest_at p q n read rest ran =
      subst (λ (j : Journal D). IsAtRest tells j) (sym (stands_journal p ran.mid q ran.served.acts n ran.stands)) (grows_to_rest tells p.journal ran.mid.journal _ rest ran.served.went.journal)

-- ---- the readers

pub near_begun : (sides : Sides) → AreBegun sides → IsNear Consumer sides
near_begun sides is = record {
  house = omega (arith, ap (λ (c : Collected). c.taken) is.house.frames);
  consumer = omega (arith, ap (λ (c : Collected). c.taken) is.consumer.frames);
  few = omega (arith, is.read);
}
