-- How the purchases of a consumer change.
use Rattle.std.proofs.Common.{◌≡◌, ℕ, zero, suc, ◌+◌, Bool, true, false, cond, List, [], ◌∷◌, ◌++◌, map, length, set, Option, Some, None, Ok, Err, Result, refl, sym, ap, subst, ◌∙◌, arith}
use Rattle.std.specs.Prelude.{OnOk, OnErr, codes, slice_get, nat_eq, nat_lt, not, ◌==◌}
use Rattle.std.specs.List.{AllByRecursion, position_or_len, prefix_len}
use Rattle.std.proofs.lemmas.List.{map-append}
use Rattle.std.proofs.lemmas.Bool.{eqb-true}
use Rattle.nb_units.specs.declared.memory.NoMemory.{NoMemory}
use Rattle.nb_msgs.specs.declared.node.Reason.{Reason}
use Rattle.nb_msgs.specs.Tests.{found}
use Rattle.nb_wallet.specs.declared.purchase.Stage.{Stage}
use Rattle.nb_wallet.specs.declared.purchase.Stage.TheVariants as stage
use Rattle.nb_wallet.specs.Purchases.{Purchase}
use Rattle.nb_wallet.specs.declared.purchase.Change.{Change}
use Rattle.nb_wallet.specs.declared.purchase.Change.TheVariants as change
use Rattle.nb_epo.specs.declared.order.Order.{Order}
use Rattle.nb_wallet.specs.declared.item.Item.TheVariants as item
use Rattle.nb_seal.specs.Seal.{text_in}
use Rattle.nb_endorse.specs.declared.receipt.Receipt.{Receipt}
use Rattle.nb_wallet.specs.Stages.{ordered_from, stage_ended, stage_opened, stage_with}
use Rattle.nb_consumer.specs.State.{Buyer, number_of, place_of, purchase_at, purchase_of, changed, changed_at, changed_with, noted, behind_item, remembered, epoid_bytes}
use Rattle.nb_wallet.specs.Changes.{changed_to, Sound, StageIsSound}

pub no_some : {A : Type 0} {B : Type 0} (x : A) → ◌≡◌ {A = Option A} None (Some x) → B
no_some x e = absurd cc

some_is : {A : Type 0} (x y : A) → ◌≡◌ {A = Option A} (Some x) (Some y) → x ≡ y
some_is x y e = cc

-- ---- what every purchase keeps to

pub sound_set : (ps : List Purchase) (i : ℕ) (q : Purchase) → AllByRecursion Sound ps → Sound q → AllByRecursion Sound (set ps i q)
sound_set [] i q all is = tt
sound_set (p ∷ ps) zero q all is = (is, all.1)
sound_set (p ∷ ps) (suc i) q all is = (all.0, sound_set ps i q all.1 is)

pub sound_push : (ps : List Purchase) (q : Purchase) → AllByRecursion Sound ps → Sound q → AllByRecursion Sound (ps ++ q ∷ [])
sound_push [] q all is = (is, tt)
sound_push (p ∷ ps) q all is = (all.0, sound_push ps q all.1 is)

pub sound_at : (ps : List Purchase) (i : ℕ) (p : Purchase) → AllByRecursion Sound ps → slice_get ps i ≡ Some p → Sound p
sound_at [] i p all e = no_some p e
sound_at (q ∷ ps) zero p all e = subst Sound (some_is q p e) all.0
sound_at (q ∷ ps) (suc i) p all e = sound_at ps i p all.1 e

-- ---- their numbers

pub numbers_set : (ps : List Purchase) (i : ℕ) (p q : Purchase) → slice_get ps i ≡ Some p → number_of q ≡ number_of p → map number_of (set ps i q) ≡ map number_of ps
numbers_set [] i p q e same = refl
numbers_set (r ∷ ps) zero p q e same = ap (λ (n : ℕ). n ∷ map number_of ps) (same ∙ sym (ap number_of (some_is r p e)))
numbers_set (r ∷ ps) (suc i) p q e same = ap (λ (ns : List ℕ). number_of r ∷ ns) (numbers_set ps i p q e same)

-- a change that leaves the number and keeps a purchase sound does so among others
changed_keeps : (ps : List Purchase) (i : ℕ) (change : Purchase → Purchase) (o : Option Purchase) → slice_get ps i ≡ o
    → ((p : Purchase) → number_of (change p) ≡ number_of p) → ((p : Purchase) → Sound p → Sound (change p)) → AllByRecursion Sound ps
    → (map number_of ps ≡ map number_of (changed_with ps i change o)) × AllByRecursion Sound (changed_with ps i change o)
changed_keeps ps i change None is number sound all = (refl, all)
changed_keeps ps i change (Some p) is number sound all =
    (sym (numbers_set ps i p (change p) is (number p)), sound_set ps i (change p) all (sound p (sound_at ps i p all is)))

pub change_keeps : (r : Result (Unit {0}) NoMemory) (keys : List ℕ) (old new : List Purchase) (i : ℕ) (stage : Stage) (parts : Change)
    → keys ≡ map number_of old → AllByRecursion Sound old → StageIsSound stage
    → OnOk r (new ≡ changed_at old (Some i) (changed_to stage parts)) → OnErr r (new ≡ old)
    → (keys ≡ map number_of new) × AllByRecursion Sound new
change_keeps (Ok done) keys old new i stage parts numbers all sound ok err =
    let k = changed_keeps old i (changed_to stage parts) (slice_get old i) refl (λ p. refl) (λ p so. (so.0, sound)) all in
    (numbers ∙ k.0 ∙ sym (ap (map number_of) ok), subst (AllByRecursion Sound) (sym ok) k.1)
change_keeps (Err none) keys old new i stage parts numbers all sound ok err = (numbers ∙ sym (ap (map number_of) err), subst (AllByRecursion Sound) (sym err) all)

-- ---- an end

-- no stage behind a receipt has a text
ended_sound : (r : Receipt) (held : List ℕ) → StageIsSound (stage_ended r held)
ended_sound r held = by_code (r.code == 0)
  where
    by_text : (key : List ℕ) (o : Option (List ℕ)) → StageIsSound (stage_opened key o)
    by_text key (Some goods) = tt
    by_text key None = tt

    by_key : (o : Option (List ℕ)) → StageIsSound (stage_with o held)
    by_key (Some key) = by_text key (text_in key (codes "good") held)
    by_key None = tt

    by_code : (test : Bool) → StageIsSound (cond test (stage_with r.key held) (stage.Refused r.code))
    by_code true = by_key r.key
    by_code false = tt

pub end_keeps : (keys : List ℕ) (old new : List Purchase) (i : ℕ) (r : Receipt) → keys ≡ map number_of old → AllByRecursion Sound old
    → new ≡ changed_at old (Some i) (λ p. record p { stage = stage_ended r p.held })
    → (keys ≡ map number_of new) × AllByRecursion Sound new
end_keeps keys old new i r numbers all is =
    let k = changed_keeps old i (λ p. record p { stage = stage_ended r p.held }) (slice_get old i) refl (λ p. refl) (λ p so. (so.0, ended_sound r p.held)) all in
    (numbers ∙ k.0 ∙ sym (ap (map number_of) is), subst (AllByRecursion Sound) (sym is) k.1)

-- ---- one purchase more

pub add_keeps : (keys more : List ℕ) (old new : List Purchase) (q : Purchase) → keys ≡ map number_of old → AllByRecursion Sound old → more ≡ keys ++ number_of q ∷ []
    → new ≡ old ++ q ∷ [] → Sound q → (more ≡ map number_of new) × AllByRecursion Sound new
add_keeps keys more old new q numbers all added pushed sound = (
  added ∙ ap (λ (ns : List ℕ). ns ++ number_of q ∷ []) numbers ∙ sym (map-append number_of old (q ∷ [])) ∙ sym (ap (map number_of) pushed),
  subst (AllByRecursion Sound) (sym pushed) (sound_push old q all sound),
)

pub pushed_so : (old held new : List Purchase) (p q : Purchase) → held ≡ old → p ≡ q → new ≡ held ++ p ∷ [] → new ≡ old ++ q ∷ []
pushed_so old held new p q a b c = c ∙ rw (a, b) refl

-- ---- an order

pub order_so : (r : Result (Unit {0}) NoMemory) (b : Buyer) (t : ℕ) (order : Order) (part : List ℕ) (at : ℕ) (p : Purchase) (stage : Stage) (new : List Purchase) (later : List (List ℕ × ℕ)) (epoid : List ℕ)
    → place_of b.purchases t ≡ Some at → purchase_of b t ≡ Some p → stage ≡ ordered_from p.stage order
    → OnOk r (new ≡ changed_at b.purchases (Some at) (changed_to stage (change.More part))) → OnOk r (later ≡ noted b.orders epoid t) → epoid ≡ epoid_bytes order.epoid
    → OnOk r (let c : Buyer = record { wallet = b.wallet; purchases = new; orders = later } in c ≡ remembered b (item.Ordered t order part))
order_so (Ok done) b t order part at p stage new later epoid place found stage_is new_is later_is epoid_is =
    let got : slice_get b.purchases at ≡ Some p = sym (ap (purchase_at b.purchases) place) ∙ found in
    let first : new ≡ set b.purchases at (behind_item (item.Ordered t order part) p) =
    new_is ∙ ap (changed_with b.purchases at (changed_to stage (change.More part))) got
    ∙ ap (λ (s : Stage). set b.purchases at (changed_to s (change.More part) p)) stage_is in
    let second : changed b.purchases t (behind_item (item.Ordered t order part)) ≡ set b.purchases at (behind_item (item.Ordered t order part) p) =
    ap (λ (o : Option ℕ). changed_at b.purchases o (behind_item (item.Ordered t order part))) place
    ∙ ap (changed_with b.purchases at (behind_item (item.Ordered t order part))) got in
    let noted_is : later ≡ noted b.orders (epoid_bytes order.epoid) t = later_is ∙ ap (λ (e : List ℕ). noted b.orders e t) epoid_is in
    rw (first ∙ sym second, noted_is) refl
order_so (Err none) b t order part at p stage new later epoid place found stage_is new_is later_is epoid_is = tt

-- ---- the number of a purchase that was found

first_is : (t : ℕ) (ps : List Purchase) (p : Purchase) → slice_get ps (prefix_len (λ x. not (nat_eq t x)) (map number_of ps)) ≡ Some p → number_of p ≡ t
first_is t [] p e = no_some p e
first_is t (q ∷ ps) p e = by (first_is t ps p) (nat_eq t (number_of q)) refl e
  where
    by : (slice_get ps (prefix_len (λ x. not (nat_eq t x)) (map number_of ps)) ≡ Some p → number_of p ≡ t) → (b : Bool) → nat_eq t (number_of q) ≡ b
        → slice_get (q ∷ ps) (cond (not (nat_eq t (number_of q))) (1 + prefix_len (λ x. not (nat_eq t x)) (map number_of ps)) 0) ≡ Some p → number_of p ≡ t
    by rest true is e =
        let first : q ≡ p = some_is q p (sym (ap (λ (b : Bool). slice_get (q ∷ ps) (cond (not b) (1 + prefix_len (λ x. not (nat_eq t x)) (map number_of ps)) 0)) is) ∙ e) in
        ap number_of (sym first) ∙ sym (eqb-true t (number_of q) is)
    by rest false is e =
        let next : 1 + prefix_len (λ x. not (nat_eq t x)) (map number_of ps) ≡ suc (prefix_len (λ x. not (nat_eq t x)) (map number_of ps)) = omega arith in
        rest (sym (ap (λ (b : Bool). slice_get (q ∷ ps) (cond (not b) (1 + prefix_len (λ x. not (nat_eq t x)) (map number_of ps)) 0)) is ∙ ap (slice_get (q ∷ ps)) next) ∙ e)

pub found_number : (b : Buyer) (t : ℕ) (p : Purchase) → purchase_of b t ≡ Some p → number_of p ≡ t
found_number b t p e = by (nat_lt (position_or_len (nat_eq t) (map number_of b.purchases)) (length (map number_of b.purchases))) e
  where
    by : (test : Bool) → purchase_at b.purchases (cond test (Some (position_or_len (nat_eq t) (map number_of b.purchases))) None) ≡ Some p → number_of p ≡ t
    by true e = first_is t b.purchases p e
    by false e = no_some p e

pub found_some : {A : Type 0} (why : Reason) (o : Option A) (x : A) → found why o ≡ Ok x → o ≡ Some x
found_some {A = A} why None x e = absurd cc
found_some {A = A} why (Some y) x e = ap Some (ok_value y x e)
  where
    ok_value : (a b : A) → ◌≡◌ {A = Result A Reason} (Ok a) (Ok b) → a ≡ b
    ok_value a b e = cc
