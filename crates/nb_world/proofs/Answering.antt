-- What an answer hands out.
use Rattle.std.proofs.Common.{◌≡◌, ℕ, ◌++◌, Option, Some, refl, sym, ap, ◌∙◌}
use Rattle.std.proofs.lemmas.List.{append-nil}
use Rattle.std.specs.Prelude.{◌==◌}
use Rattle.std.specs.Option.{option_to_list, option_map}
use Rattle.nb_world.specs.declared.event.Event.TheVariants as on
use Rattle.nb_world.specs.declared.packet.Maker.{Maker}
use Rattle.nb_world.specs.declared.packet.Maker.TheVariants as by
use Rattle.nb_world.specs.declared.packet.Packet.{Packet}
use Rattle.nb_msgs.specs.declared.node.To.{To}
use Rattle.nb_msgs.specs.declared.node.To.TheVariants as to
use Rattle.nb_world.specs.declared.turning.Turning.{Turning}
use Rattle.nb_world.specs.World.{World}
use Rattle.nb_world.specs.Steps.{where_so, may_answer, node_of, asker_of, reply_to, answer_of, step, next, or_same}
use Rattle.nb_world.specs.Laws.{Asks, RepliesTo, AnswerReplies}
use Rattle.nb_world.proofs.Chains.{inside, same_some, value}
use Rattle.nb_world.proofs.Fitting.{fits_step}

made_by : (t : Turning) (c : ℕ) → t.call ≡ c → ◌≡◌ {A = Maker} (by.Server t.call t.at) (by.Server c t.at)
made_by t c its = ap (λ (n : ℕ). let x : Maker = by.Server n t.at in x) its

module _ {C M : Type 0} where
  -- the packets behind an answer
  hands : (v w : World C M) (c : ℕ) → answer_of v c ≡ Some w
      → (t : Turning) × (v.turn ≡ Some t) × (w.packets ≡ v.packets ++ option_to_list (option_map (reply_to t) (asker_of v c)))
  unfolding answer_of
  hands v w c is =
      let t = inside v.turn _ w is in
      let its = inside (where_so (t.0.call == c)) _ w t.2 in
      let ready = inside (where_so (may_answer t.0.stage t.0.verdict.entry)) _ w its.2 in
      (t.0, t.1, ap (λ (x : World C M). x.packets) (sym (same_some _ w ready.2)))

  asker_is : (w : World C M) (c : ℕ) (packet : Packet) (moment : ℕ) → Asks w c packet moment → asker_of w c ≡ node_of packet.maker
  asker_is w c packet moment asks = rw (asks.is, asks.of) refl

  replies_to : (w behind : World C M) (t : Turning) (c : ℕ) → t.call ≡ c → (maker : Maker)
      → behind.packets ≡ w.packets ++ option_to_list (option_map (reply_to t) (node_of maker)) → RepliesTo w t c maker behind
  replies_to w behind t c its (by.Consumer id) is = record { made = reply_to t (to.Consumer id); packets = is; kind = refl; body = refl; maker = made_by t c its; for_asker = refl }
  replies_to w behind t c its (by.Merchant id) is = record { made = reply_to t (to.Merchant id); packets = is; kind = refl; body = refl; maker = made_by t c its; for_asker = refl }
  replies_to w behind t c its (by.Server call at) is = is ∙ append-nil w.packets
  replies_to w behind t c its by.Network is = is ∙ append-nil w.packets

pub answer_replies : {C M : Type 0} → AnswerReplies C M
answer_replies {C} {M} p w c fits packet moment asks =
    let behind = value (step p w (on.Answer c)) (fits_step p w (on.Answer c) fits) in
    let out = hands w behind.0 c behind.1 in
    let one : out.0 ≡ fits.0.turn = same_some _ _ (sym out.1 ∙ fits.0.is) in
    let now : next p w (on.Answer c) ≡ behind.0 = ap (or_same w) behind.1 in
    let packets : (next p w (on.Answer c)).packets ≡ w.packets ++ option_to_list (option_map (reply_to fits.0.turn) (node_of packet.maker)) =
    ap (λ (x : World C M). x.packets) now ∙ out.2 ∙ ap (λ (t : Turning). w.packets ++ option_to_list (option_map (reply_to t) (asker_of w c))) one
    ∙ ap (λ (o : Option To). w.packets ++ option_to_list (option_map (reply_to fits.0.turn) o)) (asker_is w c packet moment asks) in
    replies_to w (next p w (on.Answer c)) fits.0.turn c fits.0.its packet.maker packets
