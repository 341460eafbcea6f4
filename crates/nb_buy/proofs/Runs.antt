-- One run behind another: what both do, and where each act may come.
use Rattle.std.proofs.Common.{◌≡◌, List, [], ◌∷◌, ◌++◌, refl, ap, ◌∙◌}
use Rattle.std.specs.List.{flat_map}
use Rattle.std.proofs.lemmas.Grind.{flat_map-append}
use Rattle.nb_msgs.specs.declared.node.Step.{Step}
use Rattle.nb_wallet.specs.declared.wallet.Start.{Start}
use Rattle.nb_consumer.specs.State.{Buyer}
use Rattle.nb_consumer.specs.Table.{after}
use Rattle.nb_msgs.specs.Steps.{kept_in}
use Rattle.nb_buy.specs.declared.peer.Peer.{Peer}
use Rattle.nb_buy.specs.Run.{Act, act_row, step_at, buyer_behind, steps, kept_by, AreSpelled, bytes_in, bytes_to, frame_in, frames_on, heard_in, frames_of, Way, onward, way_behind, Obeys}

pub buyer_both : (s : Start) (b : Buyer) (acts more : List Act) → buyer_behind s b (acts ++ more) ≡ buyer_behind s (buyer_behind s b acts) more
buyer_both s b [] more = refl
buyer_both s b (a ∷ acts) more = buyer_both s (after b (act_row s b a)) acts more

steps_both : (s : Start) (b : Buyer) (acts more : List Act) → steps s b (acts ++ more) ≡ steps s b acts ++ steps s (buyer_behind s b acts) more
steps_both s b [] more = refl
steps_both s b (a ∷ acts) more = ap (λ (xs : List Step). step_at s b a ∷ xs) (steps_both s (after b (act_row s b a)) acts more)

pub kept_both : (s : Start) (b : Buyer) (acts more : List Act) → kept_by s b (acts ++ more) ≡ kept_by s b acts ++ kept_by s (buyer_behind s b acts) more
kept_both s b acts more = ap (flat_map kept_in) (steps_both s b acts more) ∙ flat_map-append kept_in (steps s b acts) (steps s (buyer_behind s b acts) more)

pub bytes_both : (peer : Peer) (s : Start) (b : Buyer) (acts more : List Act) → bytes_to peer s b (acts ++ more) ≡ bytes_to peer s b acts ++ bytes_to peer s (buyer_behind s b acts) more
bytes_both peer s b acts more =
    ap (flat_map (bytes_in peer)) (steps_both s b acts more) ∙ flat_map-append (bytes_in peer) (steps s b acts) (steps s (buyer_behind s b acts) more)

pub frames_both : (peer : Peer) (acts more : List Act) → frames_on peer (acts ++ more) ≡ frames_on peer acts ++ frames_on peer more
frames_both peer acts more = flat_map-append (frame_in peer) acts more

pub heard_both : (acts more : List Act) → frames_of (acts ++ more) ≡ frames_of acts ++ frames_of more
heard_both acts more = flat_map-append heard_in acts more

pub spelled_both : (s : Start) (b : Buyer) (acts more : List Act) → AreSpelled s b acts → AreSpelled s (buyer_behind s b acts) more → AreSpelled s b (acts ++ more)
spelled_both s b [] more all others = others
spelled_both s b (a ∷ acts) more all others = (all.0, spelled_both s (after b (act_row s b a)) acts more all.1 others)

pub way_both : (s : Start) (b : Buyer) (w : Way) (acts more : List Act) → way_behind s b w (acts ++ more) ≡ way_behind s (buyer_behind s b acts) (way_behind s b w acts) more
way_both s b w [] more = refl
way_both s b w (a ∷ acts) more = way_both s (after b (act_row s b a)) (onward w a (step_at s b a)) acts more

pub obeys_both : (s : Start) (b : Buyer) (w : Way) (acts more : List Act) → Obeys s b w acts → Obeys s (buyer_behind s b acts) (way_behind s b w acts) more → Obeys s b w (acts ++ more)
obeys_both s b w [] more all others = others
obeys_both s b w (a ∷ acts) more all others = (all.0, obeys_both s (after b (act_row s b a)) (onward w a (step_at s b a)) acts more all.1 others)
