-- How far a purchase is, and what that allows.
use Rattle.std.proofs.Common.{◌≡◌, Bool, true, false, Option, Some, None, refl, subst}
use Rattle.nb_consumer.specs.declared.phase.Phase.{Phase}
use Rattle.nb_consumer.specs.declared.phase.Phase.TheVariants as phase
use Rattle.nb_consumer.specs.Goods.{IsOpen, HasEnded}
use Rattle.nb_buy.specs.declared.peer.Peer.{Peer}
use Rattle.nb_buy.specs.declared.peer.Peer.TheVariants.{House, Seller}
use Rattle.nb_buy.specs.declared.standing.Standing.{Standing}
use Rattle.nb_buy.specs.declared.standing.Standing.TheVariants as stands
use Rattle.nb_buy.specs.Run.{IsOrdered}
use Rattle.nb_buy.specs.Bought.{HadItsTurn}
use Rattle.nb_buy.specs.Steps.{StandsAs, is_over, may_ask_for, IsKnown}

pub open_known : (told : Option Phase) → IsOpen told → IsKnown told
open_known None going = absurd going
open_known (Some told) going = tt

pub ordered_open : (told : Option Phase) → IsOrdered told → IsOpen told
ordered_open None ordered = absurd ordered
ordered_open (Some phase.Ticketing) ordered = absurd ordered
ordered_open (Some phase.Asked) ordered = absurd ordered
ordered_open (Some phase.Wanted) ordered = absurd ordered
ordered_open (Some phase.Ordered) ordered = tt
ordered_open (Some (phase.Paid len)) ordered = absurd ordered
ordered_open (Some (phase.Refused code)) ordered = absurd ordered
ordered_open (Some phase.Foul) ordered = absurd ordered

-- none is over and going on
pub over_apart : (told : Option Phase) → HasEnded told → IsOpen told → ⊥
over_apart None over going = going
over_apart (Some phase.Ticketing) over going = over
over_apart (Some phase.Asked) over going = over
over_apart (Some phase.Wanted) over going = over
over_apart (Some phase.Ordered) over going = over
over_apart (Some (phase.Paid len)) over going = going
over_apart (Some (phase.Refused code)) over going = going
over_apart (Some phase.Foul) over going = going

-- a purchase that is going on
pub going_is : (told : Option Phase) (ordered : Bool) → StandsAs told (stands.Going ordered) → IsOpen told
going_is told true is = ordered_open told is
going_is told false is = is.0

-- one that is known and not over
pub open_is : (told : Option Phase) (standing : Standing) → StandsAs told standing → is_over standing ≡ false → IsKnown told → IsOpen told
open_is told stands.Unknown is test known = absurd (subst IsKnown is known)
open_is told (stands.Going ordered) is test known = going_is told ordered is
open_is told stands.Ended is test known = absurd cc

pub over_is : (told : Option Phase) (standing : Standing) → StandsAs told standing → is_over standing ≡ true → HasEnded told
over_is told stands.Unknown is test = absurd cc
over_is told (stands.Going ordered) is test = absurd cc
over_is told stands.Ended is test = is

-- where the house may be asked
pub record MayAsk (told : Option Phase) (asked : Bool) (peer : Peer) : Type 0 where
  pub fresh : asked ≡ false
  pub seller : peer ≡ Seller
  pub ordered : IsOrdered told

pub asks_is : (told : Option Phase) (asked : Bool) (peer : Peer) (standing : Standing) → StandsAs told standing → may_ask_for asked peer standing ≡ true → MayAsk told asked peer
asks_is told asked House standing is test = absurd cc
asks_is told asked Seller stands.Unknown is test = absurd cc
asks_is told asked Seller stands.Ended is test = absurd cc
asks_is told asked Seller (stands.Going false) is test = absurd cc
asks_is told true Seller (stands.Going true) is test = absurd cc
asks_is told false Seller (stands.Going true) is test = record { fresh = refl; seller = refl; ordered = is }

-- where it may not it had its turn
pub turn_is : (told : Option Phase) (asked : Bool) (peer : Peer) (standing : Standing) → StandsAs told standing → may_ask_for asked peer standing ≡ false → HadItsTurn told asked peer
turn_is told asked House standing is test = tt
turn_is told asked Seller stands.Unknown is test = λ ordered. absurd (subst IsOrdered is ordered)
turn_is told asked Seller stands.Ended is test = λ ordered. absurd (over_apart told is (ordered_open told ordered))
turn_is told asked Seller (stands.Going false) is test = λ ordered. absurd (is.1 ordered)
turn_is told true Seller (stands.Going true) is test = λ ordered. refl
turn_is told false Seller (stands.Going true) is test = absurd cc
