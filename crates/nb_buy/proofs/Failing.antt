-- No peer is heard behind a write to it that failed.
use Rattle.std.proofs.Common.{◌≡◌, ℕ, Bool, false, List, [], ◌∷◌, ◌++◌, Option, refl, sym, ap, subst, ◌∙◌, append_assoc, append-nil}
use Rattle.nb_port.specs.Tells.{DiskTells}
use Rattle.nb_link.specs.Link.{LinkSeen}
use Rattle.nb_units.specs.Frames.{Frame}
use Rattle.nb_msgs.specs.declared.message.Message.{Message}
use Rattle.nb_msgs.specs.declared.node.Step.{Step}
use Rattle.nb_msgs.specs.declared.node.Step.TheVariants as step
use Rattle.nb_msgs.specs.declared.node.To.{To}
use Rattle.nb_wire.specs.Sent.{WroteOn}
use Rattle.nb_wire.specs.declared.sending.Sent.{Sent}
use Rattle.nb_wire.specs.declared.sending.Sent.TheVariants.{All, Failed}
use Rattle.nb_wallet.specs.declared.wallet.Start.{Start}
use Rattle.nb_consumer.specs.State.{Buyer}
use Rattle.nb_buy.specs.declared.peer.Peer.{Peer}
use Rattle.nb_buy.specs.declared.peer.Peer.TheVariants.{House, Seller}
use Rattle.nb_buy.specs.declared.peer.Over.TheVariants as over
use Rattle.nb_buy.specs.declared.sides.Sides.{Sides}
use Rattle.nb_buy.specs.Run.{Act, Hears, peer_of, buyer_behind, bytes_in, bytes_to, frames_on}
use Rattle.nb_buy.specs.Lines.{Lines, line_at, LineGoes}
use Rattle.nb_buy.specs.Bought.{Point, Around, first_point, Went, FailedWithin, Traded}
use Rattle.nb_buy.specs.Steps.{AreBegun, IsClear, lines_of, next_sent, next_behind}
use Rattle.nb_buy.proofs.Runs.{buyer_both, bytes_both, frames_both}
use Rattle.nb_buy.proofs.OverLines.{goes_both, sent_same}

-- no write failed yet
abbrev pub AllSent : Lines → Type 0
AllSent lines = (peer : Peer) → (line_at peer lines).sent ≡ All

pub all_begun : (server seller : LinkSeen) (sides : Sides) → AreBegun sides → AllSent (lines_of server seller sides)
all_begun server seller sides begun House = begun.house_sent
all_begun server seller sides begun Seller = begun.seller_sent

pub all_first : {D : Type 0} (a : Around D) → AllSent (first_point a).lines
all_first a House = refl
all_first a Seller = refl

pub sent_or_failed : {so : Sent} → so ≡ All → so ≡ Failed → ⊥
sent_or_failed all fails = apart (sym all ∙ fails)
  where
    apart : ◌≡◌ {A = Sent} All Failed → ⊥
    apart e = cc

-- ---- what an act hears

-- nothing of a peer to which a write failed
abbrev pub HearsNoFailed : Lines → Act → Type 0
HearsNoFailed lines a = (peer : Peer) → (line_at peer lines).sent ≡ Failed → frames_on peer (a ∷ []) ≡ []

pub hears_sent : (lines : Lines) (from : Peer) (f : Frame) → (line_at from lines).sent ≡ All → HearsNoFailed lines (Hears from f)
hears_sent lines House f all House fails = absurd (sent_or_failed all fails)
hears_sent lines House f all Seller fails = refl
hears_sent lines Seller f all House fails = refl
hears_sent lines Seller f all Seller fails = absurd (sent_or_failed all fails)

-- ---- what is waited for was asked for

pub clear_move : (from : Peer) (done : Step) (lines : Lines) (refused : Bool) (keep : Option (List ℕ)) (whom : To) (sent : Message) → done ≡ step.Move keep whom sent → refused ≡ false
    → IsClear lines refused (next_behind from done lines)
clear_move from done lines refused keep whom sent is fresh = subst (λ (st : Step). IsClear lines refused (next_behind from st lines)) (sym is) (by (line_at (peer_of whom) lines).sent refl)
  where
    by : (so : Sent) → (line_at (peer_of whom) lines).sent ≡ so → IsClear lines refused (next_sent (peer_of whom) so)
    by All is = (is, fresh)
    by Failed is = λ e. absurd (apart e)
      where
        apart : over.WriteFault ≡ over.Refused → ⊥
        apart e = cc

pub clear_on : (from : Peer) (done : Step) (old new : Lines) (refused : Bool)
    → ((peer : Peer) → WroteOn (line_at peer old).sent (line_at peer new).sent (line_at peer old).wire.link (line_at peer new).wire.link (bytes_in peer done ++ []))
    → (line_at from old).sent ≡ All → refused ≡ false → IsClear new refused (next_behind from done new)
clear_on from (step.Ended keep end) old new refused wrote all fresh = (sent_same _ _ _ _ (wrote from) ∙ all, fresh)
clear_on from (step.Ignored why) old new refused wrote all fresh = (sent_same _ _ _ _ (wrote from) ∙ all, fresh)
clear_on from (step.Move keep whom sent) old new refused wrote all fresh = clear_move from (step.Move keep whom sent) new refused keep whom sent refl fresh

-- ---- where a write failed

module _ {D : Type 0} (tells : DiskTells D) (s : Start) where
  pub line_went : (p q : Point D) (acts : List Act) (peer : Peer) → Went tells s p q acts → LineGoes (line_at peer p.lines) (line_at peer q.lines) (frames_on peer acts) (bytes_to peer s p.buyer acts)
  line_went p q acts House went = went.house
  line_went p q acts Seller went = went.seller

  -- behind one act more, which hears nothing of a peer to which a write failed
  pub failed_on : (p q r : Point D) (t : Traded tells s p q) (a : Act) → Went tells s q r (a ∷ []) → HearsNoFailed q.lines a → (peer : Peer) → (line_at peer r.lines).sent ≡ Failed
      → FailedWithin s p.buyer peer (line_at peer p.lines) (line_at peer r.lines) (t.acts ++ a ∷ [])
  failed_on p q r t a went none peer fails = by (line_at peer q.lines).sent refl
    where
      now : LineGoes (line_at peer q.lines) (line_at peer r.lines) (frames_on peer (a ∷ [])) (bytes_to peer s q.buyer (a ∷ []))
      now = line_went q r (a ∷ []) peer went

      by : (so : Sent) → (line_at peer q.lines).sent ≡ so → FailedWithin s p.buyer peer (line_at peer p.lines) (line_at peer r.lines) (t.acts ++ a ∷ [])
      by All is = record {
        before = t.acts;
        act = a;
        later = [];
        mid = line_at peer q.lines;
        acts_are = refl;
        first = line_went p q t.acts peer t.went;
        all = is;
        more = subst (λ (b : Buyer). LineGoes (line_at peer q.lines) (line_at peer r.lines) (frames_on peer (a ∷ [])) (bytes_to peer s b (a ∷ []))) t.went.buyer now;
        unheard = refl;
      }
      by Failed is =
          let x = t.failed peer is in
          let b : Buyer = buyer_behind s p.buyer x.before in
          let acts : List Act = x.act ∷ x.later in
          let here : buyer_behind s b acts ≡ q.buyer = sym (t.went.buyer ∙ ap (buyer_behind s p.buyer) x.acts_are ∙ buyer_both s p.buyer x.before acts) in
          record {
            before = x.before;
            act = x.act;
            later = x.later ++ a ∷ [];
            mid = x.mid;
            acts_are = ap (λ (xs : List Act). xs ++ a ∷ []) x.acts_are ∙ append_assoc x.before acts (a ∷ []);
            first = x.first;
            all = x.all;
            more = goes_both x.mid (line_at peer q.lines) (line_at peer r.lines) (frames_on peer acts) (frames_on peer (a ∷ [])) (frames_on peer (acts ++ a ∷ []))
                (bytes_to peer s b acts) (bytes_to peer s q.buyer (a ∷ [])) (bytes_to peer s b (acts ++ a ∷ [])) (frames_both peer acts (a ∷ []))
                (bytes_both peer s b acts (a ∷ []) ∙ ap (λ (c : Buyer). bytes_to peer s b acts ++ bytes_to peer s c (a ∷ [])) here) x.more now;
            unheard = frames_both peer x.later (a ∷ []) ∙ (λ i. x.unheard i ++ none peer is i);
          }

  -- nothing but reads
  pub failed_still : (p q r : Point D) (t : Traded tells s p q) → Went tells s q r [] → (peer : Peer) → (line_at peer r.lines).sent ≡ Failed
      → FailedWithin s p.buyer peer (line_at peer p.lines) (line_at peer r.lines) t.acts
  failed_still p q r t went peer fails =
      let now : LineGoes (line_at peer q.lines) (line_at peer r.lines) [] [] = line_went q r [] peer went in
      let x = t.failed peer (sym (sent_same _ _ _ _ now.wrote) ∙ fails) in
      let b : Buyer = buyer_behind s p.buyer x.before in
      let acts : List Act = x.act ∷ x.later in
      record {
        before = x.before;
        act = x.act;
        later = x.later;
        mid = x.mid;
        acts_are = x.acts_are;
        first = x.first;
        all = x.all;
        more = goes_both x.mid (line_at peer q.lines) (line_at peer r.lines) (frames_on peer acts) [] (frames_on peer acts) (bytes_to peer s b acts) [] (bytes_to peer s b acts)
            (sym (append-nil (frames_on peer acts))) (sym (append-nil (bytes_to peer s b acts))) x.more now;
        unheard = x.unheard;
      }
