-- What is told of a world.
use Rattle.std.specs.Prelude.{◌≡◌, ◌↔◌, ◌⊎◌, ℕ, List, [], ◌++◌, codes, length, map, Contains, IsSome, Option, Some, None}
use Rattle.std.specs.Fmt.{decimal}
use Rattle.std.specs.List.{flat_map}
use Rattle.std.specs.List.Sorted.{IsStrictlySortedBy}
use Rattle.std.specs.Ordering.{nat_cmp, ordering_then}
use Rattle.std.specs.declared.cmp.Ordering.{Ordering}
use Rattle.nb_units.specs.declared.ids.AcctId.{AcctId}
use Rattle.nb_entry.specs.declared.entry.Entry.{Entry}
use Rattle.nb_book.specs.Money.{balance, opened}
use Rattle.nb_book.specs.Searches.{holder_in}
use Rattle.nb_consumer.specs.declared.phase.Phase.{Phase}
use Rattle.nb_consumer.specs.declared.phase.Phase.TheVariants as phase
use Rattle.nb_consumer.specs.State.{Buyer, number_of}
use Rattle.nb_merchant.specs.Shop.{Shop}
use Rattle.nb_world.specs.World.{World}
use Rattle.nb_buyers.specs.Buyers.{phase_of_first}

-- the account of this number
abbrev pub account : ℕ → AcctId
account a = record { 0 = a }

-- they ascend, and an account is among them exactly where an entry opens it
pub record AreAccounts (entries : List Entry) (accounts : List ℕ) : Type 0 where
  pub ascend : IsStrictlySortedBy nat_cmp accounts
  pub each : (a : ℕ) → Contains accounts a ↔ IsSome (holder_in entries (account a))

-- by consumer, and then by number
abbrev pub purchase_order : ℕ × ℕ → ℕ × ℕ → Ordering
purchase_order a b = ordering_then (nat_cmp a.0 b.0) (nat_cmp a.1 b.1)

-- a consumer of this number knows a purchase of this number
abbrev pub Knows : List Buyer → ℕ → ℕ → Type 0
Knows buyers consumer number = (b : Buyer) × Contains buyers b × (b.wallet.id.0 ≡ consumer) × Contains (map number_of b.purchases) number

-- they ascend, and a purchase is among them exactly where its consumer knows it
pub record ArePurchases (buyers : List Buyer) (purchases : List (ℕ × ℕ)) : Type 0 where
  pub ascend : IsStrictlySortedBy purchase_order purchases
  pub each : (p : ℕ × ℕ) → Contains purchases p ↔ Knows buyers p.0 p.1

-- ---- lines

-- a word and a number
abbrev pub counted : List ℕ → ℕ → List ℕ
counted word n = word ++ decimal n

-- acct A balance B
abbrev pub account_line : List Entry → ℕ → List ℕ
account_line entries a = counted (codes "acct ") a ++ counted (codes " balance ") (balance entries (account a)) ++ codes "\n"

-- the word of a phase, with the number that it has
abbrev pub phase_words : Option Phase → List ℕ
phase_words None = []
phase_words (Some phase.Ticketing) = codes "ticketing"
phase_words (Some phase.Asked) = codes "asked"
phase_words (Some phase.Wanted) = codes "wanted"
phase_words (Some phase.Ordered) = codes "ordered"
phase_words (Some (phase.Paid len)) = counted (codes "paid ") len
phase_words (Some (phase.Refused code)) = counted (codes "refused ") code
phase_words (Some phase.Foul) = codes "foul"

-- purchase C TID PHASE
abbrev pub purchase_line : List Buyer → ℕ × ℕ → List ℕ
purchase_line buyers p = counted (codes "purchase ") p.0 ++ counted (codes " ") p.1 ++ codes " " ++ phase_words (phase_of_first buyers (record { 0 = p.0 }) p.1) ++ codes "\n"

-- packets N, commits N
abbrev pub first_lines : World Buyer Shop → List ℕ
first_lines w = counted (codes "packets ") (length w.packets) ++ codes "\n" ++ counted (codes "commits ") (length w.durable) ++ codes "\n"

-- all of it
abbrev pub report_of : World Buyer Shop → List ℕ → List (ℕ × ℕ) → List ℕ
report_of w accounts purchases = first_lines w ++ flat_map (account_line w.durable) accounts ++ flat_map (purchase_line w.consumers) purchases

-- it is the text of the world's accounts and purchases
pub record ReportIs (w : World Buyer Shop) (text : List ℕ) : Type 0 where
  pub accounts : List ℕ
  pub purchases : List (ℕ × ℕ)
  pub are_accounts : AreAccounts w.durable accounts
  pub are_purchases : ArePurchases w.consumers purchases
  pub is : text ≡ report_of w accounts purchases

-- ---- for the contracts of private functions alone

-- accounts in order stay so, with the one that the entry opens
pub record AddsAccount (old : List ℕ) (entry : Entry) (new : List ℕ) : Type 0 where
  pub ascend : IsStrictlySortedBy nat_cmp old → IsStrictlySortedBy nat_cmp new
  pub each : (a : ℕ) → Contains new a ↔ (Contains old a ⊎ (opened entry ≡ Some (account a)))

-- purchases in order stay so, with those of a consumer that have these numbers
pub record AddsPurchases (old : List (ℕ × ℕ)) (consumer : ℕ) (numbers : List ℕ) (new : List (ℕ × ℕ)) : Type 0 where
  pub ascend : IsStrictlySortedBy purchase_order old → IsStrictlySortedBy purchase_order new
  pub each : (p : ℕ × ℕ) → Contains new p ↔ (Contains old p ⊎ ((p.0 ≡ consumer) × Contains numbers p.1))
