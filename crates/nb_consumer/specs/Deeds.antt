-- When a deed can be done, what it keeps, and what a call then answers.
use Rattle.std.specs.Prelude.{◌≡◌, ℕ, ◌+◌, ◌≤◌, length, None, IfSome, IsSomeAnd, IfOk, OnOk, OnErr, Result, Ok, Err, ⊤}
use Rattle.std.specs.Borrow.{Bor}
use Rattle.nb_endorse.specs.Replies.{ReceiptKeepsRules}
use Rattle.nb_msgs.specs.Bodies.{MessageKeepsRules}
use Rattle.nb_msgs.specs.declared.node.Reason.{Reason}
use Rattle.nb_msgs.specs.declared.node.Step.{Step}
use Rattle.nb_units.specs.declared.memory.NoMemory.{NoMemory}
use Rattle.nb_units.specs.declared.limits.TheConstants.{MAX_HIDDEN}
use Rattle.nb_goods.specs.declared.limits.TheConstants.{MAX_SEALED}
use Rattle.nb_consumer.specs.declared.deed.Deed.{Deed}
use Rattle.nb_consumer.specs.declared.deed.Deed.TheVariants as deed
use Rattle.nb_consumer.specs.declared.deed.Halt.{Halt}
use Rattle.nb_consumer.specs.declared.deed.Halt.TheVariants as halt
use Rattle.nb_wallet.specs.declared.item.Item.{Item}
use Rattle.nb_wallet.specs.declared.item.Item.TheVariants as item
use Rattle.nb_wallet.specs.Spelling.{StartKeepsRules, PassKeepsRules, ItemKeepsRules, IsItem}
use Rattle.nb_consumer.specs.Table.{step_of, after}
use Rattle.nb_wallet.specs.Stages.{end_of}
use Rattle.nb_consumer.specs.State.{Buyer, place_of, purchase_of}

-- there is such a purchase, and room for so many bytes more of its goods
abbrev pub HasRoom : Buyer → ℕ → ℕ → Type 0
HasRoom b transaction n = IsSomeAnd (purchase_of b transaction) (λ p. length p.held + n ≤ MAX_SEALED)

-- an item can be remembered
abbrev pub ItemFits : Buyer → Item → Type 0
ItemFits b (item.Started start) = StartKeepsRules start × (place_of b.purchases start.transaction ≡ None)
ItemFits b (item.Granted transaction pass) = PassKeepsRules pass
ItemFits b (item.Part head part) = (head.total ≤ MAX_SEALED) × HasRoom b head.transaction (length part)
ItemFits b (item.Ordered transaction order part) = (length order.hidden ≤ MAX_HIDDEN) × HasRoom b transaction (length part)
ItemFits b other = Unit {0}

-- a deed can be done, and its message be written
abbrev pub DeedFits : Buyer → Deed → Type 0
DeedFits b (deed.Sends to message) = MessageKeepsRules message
DeedFits b (deed.Hears transaction place to message) = MessageKeepsRules message
DeedFits b (deed.Keeps item to message) = ItemKeepsRules item × ItemFits b item × MessageKeepsRules message
DeedFits b (deed.Ends transaction receipt end) = ReceiptKeepsRules receipt.receipt × IfSome (purchase_of b transaction) (λ p. end ≡ end_of receipt.receipt p.held)

-- what it keeps is within its limits
abbrev pub DeedIsSpelled : Deed → Type 0
DeedIsSpelled (deed.Keeps item to message) = IsItem item
DeedIsSpelled (deed.Ends transaction receipt end) = IsItem (item.Ended transaction receipt)
DeedIsSpelled other = Unit {0}

-- a row gives what it says, or its reason; of want of memory nothing is said
abbrev pub Gives : {A : Type 0} → Result A Halt → Result A Reason → Type 0
Gives (Ok x) row = row ≡ Ok x
Gives (Err (halt.Ignored why)) row = row ≡ Err why
Gives (Err halt.NoMemory) row = ⊤

-- what was found, without where it lies in memory
abbrev pub seen : {A : Type 0} → Result (Bor A) Reason → Result A Reason
seen (Ok x) = Ok x.now
seen (Err why) = Err why

-- a step is what a row says, and the consumer then is what it says; what it keeps is within its limits; after want of memory all is as before
pub record Answers (old new : Buyer) (row : Result Deed Reason) (result : Result Step NoMemory) : Type 0 where
  pub told : IfOk result (λ step. step ≡ step_of row)
  pub after : OnOk result (new ≡ after old row)
  pub spelled : OnOk result (IfOk row DeedIsSpelled)
  pub err : OnErr result (new ≡ old)

-- so it is for whatever row gave the deed
abbrev pub AnswersRow : Buyer → Buyer → Result Deed Halt → Result Step NoMemory → Type 0
AnswersRow old new deed result = (row : Result Deed Reason) → Gives deed row → Answers old new row result
