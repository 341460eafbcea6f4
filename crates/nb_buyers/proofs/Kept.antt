-- What a consumer keeps makes it again.
use Rattle.std.proofs.Common.{◌≡◌, ℕ, ◌+◌, ◌<◌, ◌^◌, List, [], ◌∷◌, ◌++◌, length, map, Result, Ok, Err, refl, sym, ap, subst, ◌∙◌}
use Rattle.nb_msgs.specs.declared.node.Reason.{Reason}
use Rattle.nb_msgs.specs.declared.node.Step.{Step}
use Rattle.nb_msgs.specs.Steps.{kept_in}
use Rattle.nb_wallet.specs.Purchases.{Purchase}
use Rattle.nb_wallet.specs.declared.purchase.Stage.{Stage}
use Rattle.nb_wallet.specs.declared.purchase.Stage.TheVariants as stage
use Rattle.nb_wallet.specs.declared.wallet.Wallet.{Wallet}
use Rattle.nb_consumer.specs.declared.deed.Deed.{Deed}
use Rattle.nb_consumer.specs.declared.deed.Deed.TheVariants as deed
use Rattle.nb_consumer.specs.Deeds.{Answers}
use Rattle.nb_consumer.specs.Laws.{KeepsRestarting}
use Rattle.nb_consumer.specs.Restart.{restarted, untold_stage, untold_purchase, untold, Kept}
use Rattle.nb_consumer.specs.Runs.{Call, row_of}
use Rattle.nb_consumer.specs.State.{Buyer, remembered}
use Rattle.nb_consumer.specs.Table.{after}
use Rattle.nb_consumer.proofs.Restoring.{same_wallet}
use Rattle.nb_packets.proofs.Keeping.{few_more}

stage_twice : (t : Stage) → untold_stage (untold_stage t) ≡ untold_stage t
stage_twice stage.Ticketing = refl
stage_twice (stage.Asked pass) = refl
stage_twice (stage.Wanted pass price head) = refl
stage_twice (stage.Ordered pass order least) = refl
stage_twice (stage.Paid receipt) = refl
stage_twice (stage.Refused code) = refl
stage_twice stage.Foul = refl

purchases_twice : (ps : List Purchase) → map untold_purchase (map untold_purchase ps) ≡ map untold_purchase ps
purchases_twice [] = refl
purchases_twice (p ∷ ps) = ap (λ (t : Stage). record p { stage = t } ∷ map untold_purchase (map untold_purchase ps)) (stage_twice p.stage)
    ∙ ap (λ (qs : List Purchase). untold_purchase p ∷ qs) (purchases_twice ps)

untold_twice : (b : Buyer) → untold (untold b) ≡ untold b
untold_twice b = ap (λ (ps : List Purchase). record b { purchases = ps }) (purchases_twice b.purchases)

ok_is : (b c : Buyer) (E : Type 0) → ◌≡◌ {A = Result Buyer E} (Ok b) (Ok c) → b ≡ c
ok_is b c E e = cc

-- a restart gives the consumer, untold, which its items make again
pub restart_is : (items : List (List ℕ)) (b core : Buyer) → Kept items b → restarted b.wallet items ≡ Ok core → core ≡ untold b
restart_is items b core kept again = ok_is core (untold b) ℕ (sym again ∙ kept)

pub restart_keeps : (items : List (List ℕ)) (b core : Buyer) → Kept items b → restarted b.wallet items ≡ Ok core → Kept items core
restart_keeps items b core kept again =
    subst (Kept items) (sym (restart_is items b core kept again)) (kept ∙ ap Ok (sym (untold_twice b)))

after_wallet : (b : Buyer) (row : Result Deed Reason) → (after b row).wallet ≡ b.wallet
after_wallet b (Ok (deed.Sends to message)) = refl
after_wallet b (Ok (deed.Hears transaction place to message)) = refl
after_wallet b (Ok (deed.Keeps x to message)) = same_wallet b x
after_wallet b (Ok (deed.Ends transaction receipt end)) = refl
after_wallet b (Err why) = refl

-- what a consumer is behind a call, and what it kept, go together
pub record KeepsSo (w : Wallet) (items : List (List ℕ)) (b : Buyer) : Type 0 where
  pub wallet : w ≡ b.wallet
  pub kept : Kept items b
  pub few : length items < 2 ^ 32

pub keeps_more : KeepsRestarting → (wallet : Wallet) (old new : Buyer) (call : Call) (s : Step) (before items kept : List (List ℕ)) → wallet ≡ old.wallet → Kept before old → items ≡ before
    → Answers old new (row_of old call) (Ok s) → kept ≡ items ++ kept_in s → length items + 1 < 2 ^ 32 → KeepsSo wallet kept new
keeps_more law wallet old new call s before items kept same was still answers is room = record {
  wallet = same ∙ sym (after_wallet old (row_of old call)) ∙ ap (λ (b : Buyer). b.wallet) (sym answers.after);
  kept = subst (λ (xs : List (List ℕ)). Kept xs new) (sym (is ∙ ap (λ (xs : List (List ℕ)). xs ++ kept_in s) still)) (law old new call (Ok s) before answers was);
  few = few_more items kept s is room;
}

-- it starts again with what it kept
pub restart_so : (w : Wallet) (items read : List (List ℕ)) (b core : Buyer) → w ≡ b.wallet → Kept items b → length items < 2 ^ 32 → read ≡ items → restarted w read ≡ Ok core → KeepsSo w items core
restart_so w items read b core same kept few is again =
    let gives : restarted b.wallet items ≡ Ok core = ap (λ (x : Wallet). restarted x items) (sym same) ∙ ap (restarted w) (sym is) ∙ again in
    record { wallet = same ∙ ap (λ (c : Buyer). c.wallet) (sym (restart_is items b core kept gives)); kept = restart_keeps items b core kept gives; few = few }
