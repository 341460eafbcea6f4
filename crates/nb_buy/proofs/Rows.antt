-- What rows do: a refusal is ignored, and a purchase that is known stays known.
use Rattle.std.proofs.Common.{◌≡◌, ℕ, Bool, true, false, cond, List, [], ◌∷◌, ◌++◌, Option, Some, None, Result, Ok, Err, refl, sym, ap, subst, ◌∙◌}
use Rattle.std.specs.Prelude.{nat_eq, is_none, IfOk}
use Rattle.std.specs.List.{find}
use Rattle.std.specs.Option.{option_or}
use Rattle.std.proofs.lemmas.Bool.{eqb-true, eq-eqb, false≢true}
use Rattle.std.proofs.lemmas.List.Folds.{find-append}
use Rattle.nb_units.specs.Fields.{◌>>=◌, u8_at, u64_at, raw_at, done_at, or_place}
use Rattle.nb_units.specs.Frames.{Frame}
use Rattle.nb_units.specs.declared.frames.TheConstants.{REFUSED_REPLY}
use Rattle.nb_msgs.specs.Reading.{refusal_of, message_of}
use Rattle.nb_msgs.specs.Tests.{unless}
use Rattle.nb_msgs.specs.declared.message.Message.{Message}
use Rattle.nb_msgs.specs.declared.message.Message.TheVariants as message
use Rattle.nb_msgs.specs.declared.node.Reason.{Reason}
use Rattle.nb_msgs.specs.declared.node.Reason.TheVariants as reason
use Rattle.nb_msgs.specs.declared.node.Step.{Step}
use Rattle.nb_msgs.specs.declared.node.Step.TheVariants as step
use Rattle.nb_msgs.specs.declared.node.To.TheVariants as to
use Rattle.nb_wallet.specs.declared.wallet.Start.{Start}
use Rattle.nb_wallet.specs.declared.item.Item.{Item}
use Rattle.nb_wallet.specs.declared.item.Item.TheVariants as item
use Rattle.nb_wallet.specs.Purchases.{Purchase}
use Rattle.nb_wallet.specs.declared.purchase.Stage.{Stage}
use Rattle.nb_wallet.specs.declared.purchase.Stage.TheVariants as stage
use Rattle.nb_asking.specs.Messages.{ticket_request}
use Rattle.nb_wallet.specs.Spelling.{item_bytes}
use Rattle.nb_consumer.specs.declared.deed.Deed.{Deed}
use Rattle.nb_consumer.specs.declared.deed.Deed.TheVariants as deed
use Rattle.nb_consumer.specs.Goods.{IsOpen, phase_in}
use Rattle.nb_consumer.specs.State.{Buyer, number_of, place_of, purchase_at, purchase_of, changed, behind_item, fresh, remembered, raised}
use Rattle.nb_consumer.specs.Table.{started, silent, unheard, step_of, after}
use Rattle.nb_consumer.proofs.Moving.{start_moves}
use Rattle.nb_consumer.proofs.Staying.{found_first, changed_other, unknown}
use Rattle.nb_consumer.proofs.Again.{found_behind, found_started, silent_is}
use Rattle.nb_buy.specs.Run.{heard_as, frame_row, phase_for}
use Rattle.nb_buy.specs.Steps.{IsKnown}

-- ---- a refusal

abbrev IsOfRefusal : Message → Type 0
IsOfRefusal (message.Refusal r) = Unit {0}
IsOfRefusal other = ⊥

always : {A : Type 0} (r : Result A ℕ) (k : A → Result Message ℕ) → ((x : A) → IfOk (k x) IsOfRefusal) → IfOk (r >>= k) IsOfRefusal
always (Ok x) k each = each x
always (Err place) k each = tt

refusal_only : (body : List ℕ) → IfOk (refusal_of body) IsOfRefusal
unfolding refusal_of
refusal_only body =
    always (or_place (u8_at body 0)) (λ code. or_place (u64_at body 1) >>= λ a. or_place (u64_at body 9) >>= λ b. or_place (raw_at 32 body 17) >>= λ x. or_place (done_at body 49) >>= λ end. last code a b x)
    (λ code. always (or_place (u64_at body 1)) (λ a. or_place (u64_at body 9) >>= λ b. or_place (raw_at 32 body 17) >>= λ x. or_place (done_at body 49) >>= λ end. last code a b x)
    (λ a. always (or_place (u64_at body 9)) (λ b. or_place (raw_at 32 body 17) >>= λ x. or_place (done_at body 49) >>= λ end. last code a b x)
    (λ b. always (or_place (raw_at 32 body 17)) (λ x. or_place (done_at body 49) >>= λ end. last code a b x)
    (λ x. always (or_place (done_at body 49)) (λ end. last code a b x)
    (λ end. tt)))))
  where
    last : ℕ → ℕ → ℕ → List ℕ → Result Message ℕ
    last code a b x = Ok (message.Refusal (record { code = code; a = a; b = b; x = x }))

refusal_heard : (b : Buyer) (read : Result Message ℕ) → IfOk read IsOfRefusal → (why : Reason) × (heard_as b read ≡ Err why)
refusal_heard b (Err place) is = (reason.Kind, refl)
refusal_heard b (Ok (message.Refusal r)) is = (reason.Refused r.code, refl)
refusal_heard b (Ok (message.PriceAsk ticket sealed)) is = absurd is
refusal_heard b (Ok (message.Quote t sealed)) is = absurd is
refusal_heard b (Ok (message.GoodsAsk ticket sealed)) is = absurd is
refusal_heard b (Ok (message.Goods t head part)) is = absurd is
refusal_heard b (Ok (message.Order ticket sealed)) is = absurd is
refusal_heard b (Ok (message.Endorsed merchant sealed)) is = absurd is
refusal_heard b (Ok (message.Result merchant consumer)) is = absurd is
refusal_heard b (Ok (message.Passed t part)) is = absurd is
refusal_heard b (Ok (message.StatusAsk query)) is = absurd is
refusal_heard b (Ok (message.Status sealed)) is = absurd is
refusal_heard b (Ok (message.TicketAsk ask)) is = absurd is
refusal_heard b (Ok (message.Grant sealed)) is = absurd is
refusal_heard b (Ok (message.Enrol enrolment)) is = absurd is
refusal_heard b (Ok (message.Fund funding)) is = absurd is
refusal_heard b (Ok (message.Done acct at balance)) is = absurd is

-- a refusal is ignored
pub refusal_row : (b : Buyer) (f : Frame) → f.kind ≡ REFUSED_REPLY → (why : Reason) × (frame_row b f ≡ Err why)
unfolding frame_row
refusal_row b f kind =
    let h = refusal_heard b (refusal_of f.body) (refusal_only f.body) in
    (h.0, ap (λ (k : ℕ). heard_as b (message_of k f.body)) kind ∙ h.1)

-- ---- a purchase that is known

abbrev is_of : ℕ → Purchase → Bool
is_of t p = nat_eq t (number_of p)

first_known : (o last : Option Purchase) → IsKnown (phase_in o) → IsKnown (phase_in (option_or o last))
first_known None last known = absurd known
first_known (Some p) last known = tt

pushed_is : (ps : List Purchase) (q : Purchase) (t : ℕ) → purchase_at (ps ++ q ∷ []) (place_of (ps ++ q ∷ []) t) ≡ option_or (find (is_of t) ps) (cond (is_of t q) (Some q) None)
pushed_is ps q t = found_first (ps ++ q ∷ []) t ∙ find-append (is_of t) ps (q ∷ [])

pushed_known : (ps : List Purchase) (q : Purchase) (t : ℕ) → IsKnown (phase_in (purchase_at ps (place_of ps t))) → IsKnown (phase_in (purchase_at (ps ++ q ∷ []) (place_of (ps ++ q ∷ []) t)))
pushed_known ps q t known =
    subst (λ (o : Option Purchase). IsKnown (phase_in o)) (sym (pushed_is ps q t))
    (first_known (find (is_of t) ps) (cond (is_of t q) (Some q) None) (subst (λ (o : Option Purchase). IsKnown (phase_in o)) (found_first ps t) known))

changed_known : (b : Buyer) (n t : ℕ) (f : Purchase → Purchase) → ((p : Purchase) → number_of (f p) ≡ number_of p) → IsKnown (phase_in (purchase_of b t))
    → IsKnown (phase_in (purchase_at (changed b.purchases n f) (place_of (changed b.purchases n f) t)))
changed_known b n t f same known = by (nat_eq t n) refl
  where
    by_found : (o : Option Purchase) → purchase_of b t ≡ o → IsKnown (phase_in o) → IsKnown (phase_in (purchase_at (changed b.purchases t f) (place_of (changed b.purchases t f) t)))
    by_found None is known = absurd known
    by_found (Some p) is known = subst (λ (o : Option Purchase). IsKnown (phase_in o)) (sym (found_behind b t p f is (same p))) tt

    by : (test : Bool) → nat_eq t n ≡ test → IsKnown (phase_in (purchase_at (changed b.purchases n f) (place_of (changed b.purchases n f) t)))
    by true is = subst (λ (k : ℕ). IsKnown (phase_in (purchase_at (changed b.purchases k f) (place_of (changed b.purchases k f) t)))) (eqb-true t n is) (by_found (purchase_of b t) refl known)
    by false is = subst (λ (o : Option Purchase). IsKnown (phase_in o)) (sym (changed_other b n t f (λ e. false≢true (sym is ∙ eq-eqb t n e)) same)) known

item_known : (b : Buyer) (x : Item) (t : ℕ) → IsKnown (phase_in (purchase_of b t)) → IsKnown (phase_in (purchase_of (remembered b x) t))
item_known b (item.Started s) t known = pushed_known b.purchases (fresh s) t known
item_known b (item.Granted n pass) t known = changed_known b n t (behind_item (item.Granted n pass)) (λ q. refl) known
item_known b (item.Wanted n price) t known = changed_known b n t (behind_item (item.Wanted n price)) (λ q. refl) known
item_known b (item.Part h part) t known = changed_known b h.transaction t (behind_item (item.Part h part)) (λ q. refl) known
item_known b (item.Forgotten n) t known = changed_known b n t (behind_item (item.Forgotten n)) (λ q. refl) known
item_known b (item.Ordered n o part) t known = changed_known b n t (behind_item (item.Ordered n o part)) (λ q. refl) known
item_known b (item.Ended n r) t known = changed_known b n t (behind_item (item.Ended n r)) (λ q. refl) known

-- so it is behind every row
pub row_known : (b : Buyer) (t : ℕ) (row : Result Deed Reason) → IsKnown (phase_in (purchase_of b t)) → IsKnown (phase_in (purchase_of (after b row) t))
row_known b t (Err why) known = known
row_known b t (Ok (deed.Sends whom sent)) known = known
row_known b t (Ok (deed.Hears n place whom sent)) known = changed_known b n t (raised place) (λ q. refl) known
row_known b t (Ok (deed.Keeps x whom sent)) known = item_known b x t known
row_known b t (Ok (deed.Ends n r how)) known = item_known b (item.Ended n r) t known

-- ---- a purchase that is going on

-- a purchase that is started is going on
pub started_open : (b : Buyer) (s : Start) → phase_for s b ≡ None → IsOpen (phase_for s (after b (started b s)))
unfolding started
started_open b s none = by (is_none (place_of b.purchases s.transaction)) refl
  where
    by : (test : Bool) → is_none (place_of b.purchases s.transaction) ≡ test
        → IsOpen (phase_for s (after b (unless test reason.State >>= λ u. Ok (deed.Keeps (item.Started s) to.Server (ticket_request b.wallet s)))))
    by true is = subst (λ (o : Option Purchase). IsOpen (phase_in o)) (sym (found_started b.purchases (fresh s) (unknown (place_of b.purchases s.transaction) is))) tt
    by false is = absurd (moved (sym (ap (λ (test : Bool). step_of (unless test reason.State >>= λ u. Ok (deed.Keeps (item.Started s) to.Server (ticket_request b.wallet s)))) is) ∙ start_moves b s none))
      where
        moved : (let stays : Step = step.Ignored reason.State in stays ≡ step.Move (Some (item_bytes (item.Started s))) to.Server (ticket_request b.wallet s)) → ⊥
        moved e = cc

-- and one whose last message is sent again stays as it is
pub silent_same : (b : Buyer) (t : ℕ) → IsOpen (phase_in (purchase_of b t)) → after b (silent b t) ≡ b
silent_same b t going = by (purchase_of b t) refl going
  where
    by_stage : (p : Purchase) (st : Stage) → after b (unheard b.wallet p st) ≡ b
    by_stage p stage.Ticketing = refl
    by_stage p (stage.Asked pass) = refl
    by_stage p (stage.Wanted pass price head) = refl
    by_stage p (stage.Ordered pass order least) = refl
    by_stage p (stage.Paid key) = refl
    by_stage p (stage.Refused code) = refl
    by_stage p stage.Foul = refl

    by : (o : Option Purchase) → purchase_of b t ≡ o → IsOpen (phase_in o) → after b (silent b t) ≡ b
    by None is going = absurd going
    by (Some p) is going = ap (after b) (silent_is b t p is) ∙ by_stage p p.stage
