-- One run behind another: what both do, and where each act may come.
use Rattle.std.proofs.Common.{◌≡◌, ℕ, List, [], ◌∷◌, ◌++◌, map, refl, sym, ap, ◌∙◌, append_assoc}
use Rattle.std.proofs.lemmas.Grind.{flat_map-append}
use Rattle.std.proofs.lemmas.List.{map-append}
use Rattle.nb_stall.specs.declared.item.Item.{Item}
use Rattle.nb_stall.specs.Spelling.{item_bytes}
use Rattle.nb_merchant.specs.Table.{kept_by}
use Rattle.nb_sell.specs.declared.peer.Peer.{Peer}
use Rattle.nb_sell.specs.Run.{Act, Way, act_row, last_in, onward, behind, kept, bytes_in, bytes_to, frame_in, frames_on, moment_in, moments_of, Obeys, AreItems}

pub behind_both : (w : Way) (acts more : List Act) → behind w (acts ++ more) ≡ behind (behind w acts) more
behind_both w [] more = refl
behind_both w (a ∷ acts) more = behind_both (onward w a) acts more

kept_append : (w : Way) (acts more : List Act) → kept w (acts ++ more) ≡ kept w acts ++ kept (behind w acts) more
kept_append w [] more = refl
kept_append w (a ∷ acts) more =
    ap (λ (xs : List Item). kept_by (act_row w.shop a) ++ xs) (kept_append (onward w a) acts more) ∙ sym (append_assoc (kept_by (act_row w.shop a)) (kept (onward w a) acts) (kept (behind (onward w a) acts) more))

pub kept_both : (w : Way) (acts more : List Act) → map item_bytes (kept w (acts ++ more)) ≡ map item_bytes (kept w acts) ++ map item_bytes (kept (behind w acts) more)
kept_both w acts more = ap (map item_bytes) (kept_append w acts more) ∙ map-append item_bytes (kept w acts) (kept (behind w acts) more)

pub bytes_both : (peer : Peer) (w : Way) (acts more : List Act) → bytes_to peer w (acts ++ more) ≡ bytes_to peer w acts ++ bytes_to peer (behind w acts) more
bytes_both peer w [] more = refl
bytes_both peer w (a ∷ acts) more =
    let one = bytes_in peer (last_in w a) (act_row w.shop a) in
    ap (λ (xs : List ℕ). one ++ xs) (bytes_both peer (onward w a) acts more) ∙ sym (append_assoc one (bytes_to peer (onward w a) acts) (bytes_to peer (behind (onward w a) acts) more))

pub frames_both : (peer : Peer) (acts more : List Act) → frames_on peer (acts ++ more) ≡ frames_on peer acts ++ frames_on peer more
frames_both peer acts more = flat_map-append (frame_in peer) acts more

pub moments_both : (acts more : List Act) → moments_of (acts ++ more) ≡ moments_of acts ++ moments_of more
moments_both acts more = flat_map-append moment_in acts more

pub obeys_both : (w : Way) (acts more : List Act) → Obeys w acts → Obeys (behind w acts) more → Obeys w (acts ++ more)
obeys_both w [] more all others = others
obeys_both w (a ∷ acts) more all others = (all.0, obeys_both (onward w a) acts more all.1 others)

pub items_both : (w : Way) (acts more : List Act) → AreItems w acts → AreItems (behind w acts) more → AreItems w (acts ++ more)
items_both w [] more all others = others
items_both w (a ∷ acts) more all others = (all.0, items_both (onward w a) acts more all.1 others)
