-- What is told of consumers: their numbers, and their purchases.
use Rattle.std.specs.Prelude.{ℕ, ◌==◌, List, map, Option, Some, None}
use Rattle.std.specs.List.{position, slice_get}
use Rattle.std.specs.Borrow.{Bor}
use Rattle.nb_units.specs.declared.ids.PartyId.{PartyId}
use Rattle.nb_consumer.specs.declared.phase.Phase.{Phase}
use Rattle.nb_consumer.specs.Goods.{phase_in}
use Rattle.nb_consumer.specs.State.{Buyer, number_of, purchase_of}

-- the number of a consumer
abbrev pub buyer_number : Buyer → ℕ
buyer_number b = b.wallet.id.0

-- how far a purchase of this consumer has come, where there is one
abbrev pub phase_at_place : ℕ → Option Buyer → Option Phase
phase_at_place transaction None = None
phase_at_place transaction (Some b) = phase_in (purchase_of b transaction)

-- the consumer at this place, where there is one
abbrev pub buyer_at : List Buyer → Option ℕ → Option Buyer
buyer_at buyers None = None
buyer_at buyers (Some i) = slice_get buyers i

-- how far a purchase of the first consumer of this number has come
abbrev pub phase_of_first : List Buyer → PartyId → ℕ → Option Phase
phase_of_first buyers id transaction = phase_at_place transaction (buyer_at buyers (position (λ (b : Buyer). b.wallet.id.0 == id.0) buyers))

-- a consumer's number, and those of its purchases
abbrev pub knows_of : Buyer → PartyId × List ℕ
knows_of b = (b.wallet.id, map number_of b.purchases)

-- what is told of them
abbrev pub told_of : Option (PartyId × Bor (List ℕ)) → Option (PartyId × List ℕ)
told_of None = None
told_of (Some p) = Some (p.0, p.1.now)
