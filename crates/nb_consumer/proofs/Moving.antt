-- A start of a new number and a quiet time of an open purchase send a message.
use Rattle.std.proofs.Common.{◌≡◌, ℕ, ◌<◌, List, Option, Some, None, Ok, map, length, refl, sym, ap, ◌∙◌, arith}
use Rattle.std.specs.Prelude.{is_none, nat_eq, get_or}
use Rattle.std.proofs.lemmas.List.{length-map}
use Rattle.std.proofs.lemmas.List.Quantifiers.{position-Some}
use Rattle.std.proofs.lemmas.Option.{slice_get-get_or}
use Rattle.nb_units.specs.Fields.{◌>>=◌}
use Rattle.nb_msgs.specs.declared.message.Message.{Message}
use Rattle.nb_msgs.specs.declared.node.Reason.TheVariants as reason
use Rattle.nb_msgs.specs.declared.node.Step.TheVariants as step
use Rattle.nb_msgs.specs.declared.node.To.{To}
use Rattle.nb_msgs.specs.declared.node.To.TheVariants as to
use Rattle.nb_wallet.specs.declared.item.Item.TheVariants as item
use Rattle.nb_wallet.specs.declared.purchase.Stage.{Stage}
use Rattle.nb_wallet.specs.declared.purchase.Stage.TheVariants as stage
use Rattle.nb_wallet.specs.Purchases.{Purchase}
use Rattle.nb_asking.specs.Messages.{ticket_request, price_request, goods_request, status_query}
use Rattle.nb_msgs.specs.Tests.{unless}
use Rattle.nb_consumer.specs.declared.deed.Deed.TheVariants as deed
use Rattle.nb_consumer.specs.declared.phase.Phase.{Phase}
use Rattle.nb_consumer.specs.Goods.{phase_of, phase_in, IsOpen}
use Rattle.nb_consumer.specs.State.{number_of, place_of, purchase_at, purchase_of, fresh}
use Rattle.nb_consumer.specs.Table.{started, silent, unheard, step_of}
use Rattle.nb_consumer.specs.Laws.{StartMoves, SilentMoves}
use Rattle.nb_consumer.proofs.Again.{silent_is}

-- a number without a phase has no place
place_none : (ps : List Purchase) (t : ℕ) (d : Purchase) → phase_in (purchase_at ps (place_of ps t)) ≡ None → place_of ps t ≡ None
place_none ps t d none = by (place_of ps t) refl
  where
    by : (o : Option ℕ) → place_of ps t ≡ o → o ≡ None
    by None is = refl
    by (Some i) is =
        let within : i < length ps = omega (arith, (position-Some (nat_eq t) (map number_of ps) i 0 is).0, length-map ps number_of) in
        absurd (told (get_or ps i d) (sym (ap (λ (o : Option ℕ). phase_in (purchase_at ps o)) is ∙ ap phase_in (slice_get-get_or ps i d within)) ∙ none))
      where
        told : (p : Purchase) → ◌≡◌ {A = Option Phase} (Some (phase_of p.stage p.held)) None → ⊥
        told p e = cc

pub start_moves : StartMoves
unfolding started
start_moves b s none =
    ap (λ (o : Option ℕ). step_of (unless (is_none o) reason.State >>= λ u. Ok (deed.Keeps (item.Started s) to.Server (ticket_request b.wallet s))))
    (place_none b.purchases s.transaction (fresh s) none)

pub silent_moves : SilentMoves
silent_moves b t going = by (purchase_of b t) refl going
  where
    by_stage : (p : Purchase) (s : Stage) → IsOpen (Some (phase_of s p.held)) → (whom : To) × (sent : Message) × (step_of (unheard b.wallet p s) ≡ step.Move None whom sent)
    by_stage p stage.Ticketing going = (to.Server, ticket_request b.wallet p.start, refl)
    by_stage p (stage.Asked pass) going = (to.Merchant p.start.merchant, price_request pass p.start, refl)
    by_stage p (stage.Wanted pass price head) going = (to.Merchant p.start.merchant, goods_request pass p.start (length p.held), refl)
    by_stage p (stage.Ordered pass order least) going = (to.Server, status_query b.wallet order.epoid least, refl)
    by_stage p (stage.Paid key) going = absurd going
    by_stage p (stage.Refused code) going = absurd going
    by_stage p stage.Foul going = absurd going

    by : (o : Option Purchase) → purchase_of b t ≡ o → IsOpen (phase_in o) → (whom : To) × (sent : Message) × (step_of (silent b t) ≡ step.Move None whom sent)
    by None is going = absurd going
    by (Some p) is going =
        let m = by_stage p p.stage going in
        (m.0, m.1, ap step_of (silent_is b t p is) ∙ m.2)
