-- Behind every list of events a restart gives what was, and what was kept is what rows keep.
use Rattle.std.proofs.Common.{◌≡◌, ℕ, ◌+◌, Bool, true, false, cond, List, [], ◌∷◌, ◌++◌, map, Option, Some, None, Ok, Err, Result, refl, sym, ap, subst, ◌∙◌, append-nil}
use Rattle.std.specs.Prelude.{IfOk}
use Rattle.std.specs.List.{AllByRecursion}
use Rattle.std.specs.Option.{option_map_or}
use Rattle.std.proofs.lemmas.List.{map-append}
use Rattle.nb_units.specs.declared.memory.NoMemory.{NoMemory}
use Rattle.nb_msgs.specs.declared.node.Reason.{Reason}
use Rattle.nb_msgs.specs.declared.node.RestartFault.{RestartFault}
use Rattle.nb_msgs.specs.declared.node.RestartFault.TheVariants as fault
use Rattle.nb_msgs.specs.declared.node.Step.{Step}
use Rattle.nb_wallet.specs.declared.wallet.Wallet.{Wallet}
use Rattle.nb_wallet.specs.declared.item.Item.{Item}
use Rattle.nb_wallet.specs.declared.item.Item.TheVariants as item
use Rattle.nb_wallet.specs.Spelling.{item_bytes, IsItem}
use Rattle.nb_wallet.specs.Reading.{item_of}
use Rattle.nb_wallet.proofs.Items.{item_reads_back, item_spells_back}
use Rattle.nb_units.specs.Frames.{AreBytes}
use Rattle.nb_consumer.specs.declared.deed.Deed.{Deed}
use Rattle.nb_consumer.specs.declared.deed.Deed.TheVariants as deed
use Rattle.nb_consumer.specs.declared.deed.Halt.{Halt}
use Rattle.nb_consumer.specs.State.{Buyer, new_buyer, remembered}
use Rattle.nb_consumer.specs.Table.{step_of, after}
use Rattle.nb_consumer.specs.Deeds.{Answers, AnswersRow, Gives, DeedIsSpelled}
use Rattle.nb_consumer.specs.Restart.{allows, behind, behind_read, restarted, restarted_from, Restarts, untold, Kept, HasKept}
use Rattle.nb_msgs.specs.Steps.{kept_in}
use Rattle.nb_consumer.specs.Runs.{Call, row_of, kept_of, Event, Called, Restarted, Runs, AllAllowed, IsJournal, GivesBack}
use Rattle.nb_consumer.specs.Laws.{RowSo, RunsRestart, RestartsAsKept}
use Rattle.nb_consumer.proofs.Restoring.{buyer_is, same_allowed, same_remembered, same_wallet, call_so, keeps_restarting}

-- ---- a journal that a restart takes up

-- its first item, and the rest
pub first_item : (n : ℕ) (b c : Buyer) (bytes : List ℕ) (items : List (List ℕ)) → restarted_from n b (bytes ∷ items) ≡ Ok c
    → (x : Item) × (item_of bytes ≡ Ok x) × (allows b x ≡ true) × (restarted_from (n + 1) (remembered b x) items ≡ Ok c)
first_item n b c bytes items e = by_read (item_of bytes) refl e
  where
    rest : Option Buyer → Result Buyer ℕ
    rest o = option_map_or (λ d. restarted_from (n + 1) d items) o (Err n)

    by_test : (x : Item) (test : Bool) → item_of bytes ≡ Ok x → allows b x ≡ test → rest (cond test (Some (remembered b x)) None) ≡ Ok c
        → (x : Item) × (item_of bytes ≡ Ok x) × (allows b x ≡ true) × (restarted_from (n + 1) (remembered b x) items ≡ Ok c)
    by_test x true read allowed e = (x, read, allowed, e)
    by_test x false read allowed e = absurd cc

    by_read : (r : Result Item ℕ) → item_of bytes ≡ r → rest (behind_read b r) ≡ Ok c
        → (x : Item) × (item_of bytes ≡ Ok x) × (allows b x ≡ true) × (restarted_from (n + 1) (remembered b x) items ≡ Ok c)
    by_read (Ok x) read e = by_test x (allows b x) read refl e
    by_read (Err place) read e = absurd cc

pub restarted_wallet : (n : ℕ) (b c : Buyer) (items : List (List ℕ)) → restarted_from n b items ≡ Ok c → c.wallet ≡ b.wallet
restarted_wallet n b c [] e = ap (λ (d : Buyer). d.wallet) (sym (buyer_is b c e))
restarted_wallet n b c (bytes ∷ items) e =
    let f = first_item n b c bytes items e in
    restarted_wallet (n + 1) (remembered b f.0) c items f.3 ∙ same_wallet b f.0

-- it tells no place
restarted_untold : (n : ℕ) (b c : Buyer) (items : List (List ℕ)) → untold b ≡ b → restarted_from n b items ≡ Ok c → untold c ≡ c
restarted_untold n b c [] same e = subst (λ (d : Buyer). untold d ≡ d) (buyer_is b c e) same
restarted_untold n b c (bytes ∷ items) same e =
    let f = first_item n b c bytes items e in
    restarted_untold (n + 1) (remembered b f.0) c items (sym (same_remembered b f.0) ∙ ap (λ (d : Buyer). remembered d f.0) same) f.3

restarted_journal : (n : ℕ) (b c : Buyer) (items : List (List ℕ)) → AllByRecursion AreBytes items → restarted_from n b items ≡ Ok c
    → (xs : List Item) × (items ≡ map item_bytes xs) × AllAllowed b xs
restarted_journal n b c [] are e = ([], refl, tt)
restarted_journal n b c (bytes ∷ items) are e =
    let f = first_item n b c bytes items e in
    let s = item_spells_back bytes f.0 are.0 f.1 in
    let r = restarted_journal (n + 1) (remembered b f.0) c items are.1 f.3 in (
      f.0 ∷ r.0,
      ap (λ (front : List ℕ). front ∷ items) s.1 ∙ ap (λ (rest : List (List ℕ)). item_bytes f.0 ∷ rest) r.1,
      (s.0, f.2, r.2),
    )

-- ---- a journal with one item more

-- what is known behind an item that a row keeps
known_behind : (b : Buyer) (x : Item) → IsItem x → allows b x ≡ true → behind b (item_bytes x) ≡ Some (remembered b x)
known_behind b x is allowed =
    ap (behind_read b) (item_reads_back x is) ∙ ap (λ (test : Bool). cond test (Some (remembered b x)) None) allowed

allowed_more : (n : ℕ) (b c : Buyer) (xs : List Item) (x : Item) → AllAllowed b xs → restarted_from n b (map item_bytes xs) ≡ Ok c → IsItem x → allows c x ≡ true
    → AllAllowed b (xs ++ x ∷ [])
allowed_more n b c [] x all e is allowed = (is, subst (λ (y : Buyer). allows y x ≡ true) (sym (buyer_is b c e)) allowed, tt)
allowed_more n b c (y ∷ xs) x all e is allowed =
    let next : restarted_from (n + 1) (remembered b y) (map item_bytes xs) ≡ Ok c =
    sym (ap (λ (o : Option Buyer). option_map_or (λ d. restarted_from (n + 1) d (map item_bytes xs)) o (Err n)) (known_behind b y all.0 all.1)) ∙ e in
    (all.0, all.1, allowed_more (n + 1) (remembered b y) c xs x all.2 next is allowed)

item_more : (w : Wallet) (b : Buyer) (items : List (List ℕ)) (x : Item) → b.wallet ≡ w → Kept items b → IsJournal w items → IsItem x → allows b x ≡ true → IsJournal w (items ++ item_bytes x ∷ [])
item_more w b items x same kept journal is allowed =
    let known : restarted_from 0 (new_buyer w) (map item_bytes journal.0) ≡ Ok (untold b) =
    sym (ap (restarted_from 0 (new_buyer w)) journal.1) ∙ sym (ap (λ (v : Wallet). restarted v items) same) ∙ kept in (
      journal.0 ++ x ∷ [],
      ap (λ (ys : List (List ℕ)). ys ++ item_bytes x ∷ []) journal.1 ∙ sym (map-append item_bytes journal.0 (x ∷ [])),
      allowed_more 0 (new_buyer w) (untold b) journal.0 x journal.2 known is (same_allowed b x ∙ allowed),
    )

none_more : (w : Wallet) (items : List (List ℕ)) → IsJournal w items → IsJournal w (items ++ [])
none_more w items journal = subst (IsJournal w) (sym (append-nil items)) journal

row_more : (w : Wallet) (b : Buyer) (items : List (List ℕ)) (row : Result Deed Reason) → RowSo b row → IfOk row DeedIsSpelled → b.wallet ≡ w → Kept items b → IsJournal w items
    → IsJournal w (items ++ kept_in (step_of row))
row_more w b items (Err why) so spelled same kept journal = none_more w items journal
row_more w b items (Ok (deed.Sends whom sent)) so spelled same kept journal = none_more w items journal
row_more w b items (Ok (deed.Hears t place whom sent)) so spelled same kept journal = none_more w items journal
row_more w b items (Ok (deed.Keeps x whom sent)) so spelled same kept journal = item_more w b items x same kept journal spelled so.0
row_more w b items (Ok (deed.Ends t r end)) so spelled same kept journal = item_more w b items (item.Ended t r) same kept journal spelled so.0

wallet_stays : (b : Buyer) (row : Result Deed Reason) → (after b row).wallet ≡ b.wallet
wallet_stays b (Err why) = refl
wallet_stays b (Ok (deed.Sends whom sent)) = refl
wallet_stays b (Ok (deed.Hears t place whom sent)) = refl
wallet_stays b (Ok (deed.Keeps x whom sent)) = same_wallet b x
wallet_stays b (Ok (deed.Ends t r end)) = same_wallet b (item.Ended t r)

-- ---- a run

-- what a restart gives keeps what it was given
pub again_kept : (w : Wallet) (journal : List (List ℕ)) (first : Buyer) → restarted w journal ≡ Ok first → (first.wallet ≡ w) × Kept journal first
again_kept w journal first again =
    let same : first.wallet ≡ w = restarted_wallet 0 (new_buyer w) first journal again in
    (same, ap (λ (v : Wallet). restarted v journal) same ∙ again ∙ ap Ok (sym (restarted_untold 0 (new_buyer w) first journal refl again)))

-- what holds of a consumer and of the items that it kept
record Stands (w : Wallet) (b : Buyer) (items : List (List ℕ)) : Type 0 where
  wallet : b.wallet ≡ w
  kept : Kept items b
  journal : IsJournal w items

call_wallet : (old new : Buyer) (call : Call) (result : Result Step NoMemory) → Answers old new (row_of old call) result → new.wallet ≡ old.wallet
call_wallet old new call (Ok step) answers = ap (λ (b : Buyer). b.wallet) answers.after ∙ wallet_stays old (row_of old call)
call_wallet old new call (Err none) answers = ap (λ (b : Buyer). b.wallet) answers.err

call_stands : (w : Wallet) (old new : Buyer) (call : Call) (result : Result Step NoMemory) (items : List (List ℕ)) → Answers old new (row_of old call) result → Stands w old items
    → Stands w new (items ++ kept_of result)
call_stands w old new call (Ok step) items answers s = record {
  wallet = call_wallet old new call (Ok step) answers ∙ s.wallet;
  kept = keeps_restarting old new call (Ok step) items answers s.kept;
  journal = subst (λ (t : Step). IsJournal w (items ++ kept_in t)) (sym answers.told) (row_more w old items (row_of old call) (call_so old call) answers.spelled s.wallet s.kept s.journal);
}
call_stands w old new call (Err none) items answers s = record {
  wallet = call_wallet old new call (Err none) answers ∙ s.wallet;
  kept = keeps_restarting old new call (Err none) items answers s.kept;
  journal = none_more w items s.journal;
}

restart_stands : (w : Wallet) (old new : Buyer) (items : List (List ℕ)) → Restarts old.wallet items (Ok new) → Stands w old items → Stands w new items
restart_stands w old new items again s =
    let k = again_kept old.wallet items new again in
    record { wallet = k.0 ∙ s.wallet; kept = k.1; journal = s.journal }

run_stands : (w : Wallet) (events : List Event) (old new : Buyer) (items kept : List (List ℕ)) → Runs old items events new kept → Stands w old items → Stands w new kept
run_stands w [] old new items kept run s = rw (run.0, run.1) s
run_stands w (Called call result next ∷ events) old new items kept run s =
    run_stands w events next new (items ++ kept_of result) kept run.1 (call_stands w old next call result items run.0 s)
run_stands w (Restarted next ∷ events) old new items kept run s = run_stands w events next new items kept run.1 (restart_stands w old next items run.0 s)

run_kept : (w : Wallet) (events : List Event) (old new : Buyer) (items kept : List (List ℕ)) → Runs old items events new kept → (old.wallet ≡ w) × Kept items old
    → (new.wallet ≡ w) × Kept kept new
run_kept w [] old new items kept run s = rw (run.0, run.1) s
run_kept w (Called call result next ∷ events) old new items kept run s =
    run_kept w events next new (items ++ kept_of result) kept run.1 (call_wallet old next call result run.0 ∙ s.0, keeps_restarting old next call result items run.0 s.1)
run_kept w (Restarted next ∷ events) old new items kept run s =
    let k = again_kept old.wallet items next run.0 in
    run_kept w events next new items kept run.1 (k.0 ∙ s.0, k.1)

pub runs_restart : RunsRestart
runs_restart w journal first events b items again run = run_kept w events first b journal items run (again_kept w journal first again)

gives_back : (w : Wallet) (b : Buyer) (items : List (List ℕ)) → restarted w items ≡ Ok (untold b) → (result : Result Buyer RestartFault) → Restarts w items result → GivesBack b result
gives_back w b items kept (Ok c) again = sym (buyer_is (untold b) c (sym kept ∙ again))
gives_back w b items kept (Err (fault.BadItem n)) again = absurd (bad (sym kept ∙ again))
  where
    bad : (let one : Result Buyer ℕ = Ok (untold b) in one ≡ Err n) → ⊥
    bad e = cc
gives_back w b items kept (Err fault.NoMemory) again = tt

pub restarts_as_kept : RestartsAsKept
restarts_as_kept w journal first events b items are again run =
    let k = again_kept w journal first again in
    let s = run_stands w events first b journal items run (record { wallet = k.0; kept = k.1; journal = restarted_journal 0 (new_buyer w) first journal are again }) in
    (s.journal, gives_back w b items (sym (ap (λ (v : Wallet). restarted v items) s.wallet) ∙ s.kept))

-- ---- what every consumer holds to

pub has_none : (w : Wallet) → HasKept (new_buyer w)
unfolding HasKept
has_none w = ([], refl)

pub has_again : (w : Wallet) (items : List (List ℕ)) (b : Buyer) → restarted w items ≡ Ok b → HasKept b
unfolding HasKept
has_again w items b again = (items, (again_kept w items b again).1)

pub has_more : (old new : Buyer) (call : Call) (deed : Result Deed Halt) (result : Result Step NoMemory) → AnswersRow old new deed result → Gives deed (row_of old call)
    → HasKept old → HasKept new
unfolding HasKept
has_more old new call deed result answers row kept =
    (kept.0 ++ kept_of result, keeps_restarting old new call result kept.0 (answers (row_of old call) row) kept.1)
