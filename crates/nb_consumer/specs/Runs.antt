-- A consumer over a list of events: what it is asked and answers, what it is then, and where it starts again with what it kept.
use Rattle.std.specs.Prelude.{◌≡◌, ℕ, true, List, [], ◌∷◌, ◌++◌, map, Result, Ok, Err, ⊤}
use Rattle.nb_msgs.specs.declared.message.Message.{Message}
use Rattle.nb_msgs.specs.declared.node.Reason.{Reason}
use Rattle.nb_msgs.specs.declared.node.RestartFault.{RestartFault}
use Rattle.nb_msgs.specs.declared.node.RestartFault.TheVariants as fault
use Rattle.nb_msgs.specs.declared.node.Step.{Step}
use Rattle.nb_units.specs.declared.memory.NoMemory.{NoMemory}
use Rattle.nb_wallet.specs.declared.wallet.Start.{Start}
use Rattle.nb_wallet.specs.declared.wallet.Wallet.{Wallet}
use Rattle.nb_wallet.specs.declared.item.Item.{Item}
use Rattle.nb_wallet.specs.Spelling.{item_bytes, IsItem}
use Rattle.nb_consumer.specs.declared.deed.Deed.{Deed}
use Rattle.nb_consumer.specs.State.{Buyer, new_buyer, remembered}
use Rattle.nb_consumer.specs.Table.{started, heard, silent}
use Rattle.nb_consumer.specs.Deeds.{Answers}
use Rattle.nb_consumer.specs.Restart.{allows, Restarts, untold}
use Rattle.nb_msgs.specs.Steps.{kept_in}

-- what a consumer is asked: a start, a message, or that nothing was heard of a purchase for long
pub data Call : Type 0 where
  Starts : Start → Call
  Hears : Message → Call
  Waits : ℕ → Call

-- the row of a call
abbrev pub row_of : Buyer → Call → Result Deed Reason
row_of b (Starts start) = started b start
row_of b (Hears message) = heard b message
row_of b (Waits transaction) = silent b transaction

-- the item that an answer keeps, if it keeps one
abbrev pub kept_of : Result Step NoMemory → List (List ℕ)
kept_of (Ok step) = kept_in step
kept_of (Err none) = []

-- a call that was answered so and left the consumer so, or a restart that gave this consumer
pub data Event : Type 0 where
  Called : Call → Result Step NoMemory → Buyer → Event
  Restarted : Buyer → Event

-- events that lead from a consumer, and the items that were kept, to another. A restart is of all items that were kept
abbrev pub Runs : Buyer → List (List ℕ) → List Event → Buyer → List (List ℕ) → Type 0
Runs old items [] new kept = (new ≡ old) × (kept ≡ items)
Runs old items (Called call result behind ∷ events) new kept = Answers old behind (row_of old call) result × Runs behind (items ++ kept_of result) events new kept
Runs old items (Restarted behind ∷ events) new kept = Restarts old.wallet items (Ok behind) × Runs behind items events new kept

-- items within their limits, each of which a row keeps behind what is known and those before it
abbrev pub AllAllowed : Buyer → List Item → Type 0
AllAllowed b [] = Unit {0}
AllAllowed b (x ∷ xs) = IsItem x × (allows b x ≡ true) × AllAllowed (remembered b x) xs

-- the spellings of such items, from a consumer on that has kept nothing
abbrev pub IsJournal : Wallet → List (List ℕ) → Type 0
IsJournal w items = (xs : List Item) × (items ≡ map item_bytes xs) × AllAllowed (new_buyer w) xs

-- a restart gives this consumer, but for the places that it was told; it refuses no item. Of want of memory nothing is said
abbrev pub GivesBack : Buyer → Result Buyer RestartFault → Type 0
GivesBack b (Ok c) = c ≡ untold b
GivesBack b (Err (fault.BadItem n)) = ⊥
GivesBack b (Err fault.NoMemory) = ⊤
