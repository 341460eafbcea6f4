-- What reading a list of offers answers.
use Rattle.std.specs.Prelude.{◌≡◌, ◌≢◌, ◌⊎◌, ℕ, ◌+◌, ◌≤◌, List, [], ◌∷◌, ◌++◌, length, map, Contains, Result, Ok, Err, None}
use Rattle.std.specs.Borrow.{Bor}
use Rattle.nb_price.specs.declared.limits.TheConstants.{LINE_FEED}
use Rattle.nb_groups.specs.declared.found.Offer.{Offer}
use Rattle.nb_groups.specs.declared.fault.OffersFault.{OffersFault}
use Rattle.nb_groups.specs.declared.fault.OffersFault.TheVariants.{BadLine, Twice, NoMemory}
use Rattle.nb_groups.specs.declared.offers.Lines.{Lines}
use Rattle.nb_groups.specs.Offers.{Tariff, AreOffers, offers_bytes, key_of, price_for, BeginsWithKeeper, BeginsWith, BeginsWithNone}

-- the bytes are the lines of a keeper and of offers, and then a rest
pub record Front (bytes : List ℕ) (tariff : Tariff) (rest : List ℕ) : Type 0 where
  pub behind : List ℕ
  pub keeper : BeginsWithKeeper bytes tariff.keeper behind
  pub offers : AreOffers tariff.offers
  pub spelled : behind ≡ offers_bytes tariff.offers ++ rest

-- the line behind those of the offers
abbrev pub next_line : Tariff → ℕ
next_line tariff = length tariff.offers + 2

-- behind so many lines stands none of an offer, and the bytes do not end as they should
pub record FailsAt (IsEnd : List ℕ → Type 0) (bytes : List ℕ) (line : ℕ) : Type 0 where
  pub tariff : Tariff
  pub rest : List ℕ
  pub front : Front bytes tariff rest
  pub number : line ≡ next_line tariff
  pub none : BeginsWithNone rest
  pub no_end : ¬ IsEnd rest

-- the first line is not that of a keeper
abbrev pub HasNoKeeper : List ℕ → ℕ → Type 0
HasNoKeeper bytes line = (line ≡ 1) × ((keeper rest : List ℕ) → ¬ BeginsWithKeeper bytes keeper rest)

-- behind so many lines stands one of an offer for a product and a group that they have
pub record RepeatsAt (bytes : List ℕ) (line : ℕ) : Type 0 where
  pub tariff : Tariff
  pub rest : List ℕ
  pub again : Offer
  pub more : List ℕ
  pub front : Front bytes tariff rest
  pub number : line ≡ next_line tariff
  pub begins : BeginsWith rest again more
  pub held : Contains (map key_of tariff.offers) (key_of again)

-- behind some lines stands one of an offer for a product and a group that they do not have
pub record HasMore (bytes : List ℕ) : Type 0 where
  pub tariff : Tariff
  pub rest : List ℕ
  pub next : Offer
  pub more : List ℕ
  pub front : Front bytes tariff rest
  pub begins : BeginsWith rest next more
  pub fresh : price_for tariff.offers (key_of next) ≡ None

-- the first fault of bytes that should end so; memory may be wanting for each offer that is fresh
abbrev pub FaultIs : (List ℕ → Type 0) → List ℕ → OffersFault → Type 0
FaultIs IsEnd bytes (BadLine line) = HasNoKeeper bytes line ⊎ FailsAt IsEnd bytes line
FaultIs IsEnd bytes (Twice line) = RepeatsAt bytes line
FaultIs IsEnd bytes NoMemory = HasMore bytes

-- nothing is left
abbrev pub IsAll : List ℕ → Type 0
IsAll rest = rest ≡ []

-- an empty line is next
abbrev pub IsEmptyLine : List ℕ → Type 0
IsEmptyLine rest = (more : List ℕ) × (rest ≡ LINE_FEED ∷ more)

-- the offers that the bytes spell, or the first fault
abbrev pub ReadsOffers : List ℕ → Result Tariff OffersFault → Type 0
ReadsOffers bytes (Ok tariff) = Front bytes tariff []
ReadsOffers bytes (Err fault) = FaultIs IsAll bytes fault

-- the offers before the first empty line, and what stands behind it, or the first fault
abbrev pub ReadsFront : List ℕ → Result (Tariff × Bor (List ℕ)) OffersFault → Type 0
ReadsFront bytes (Ok p) = Front bytes p.0 (LINE_FEED ∷ p.1.now)
ReadsFront bytes (Err fault) = FaultIs IsEmptyLine bytes fault

-- that answer, of what stands behind the offers the bytes alone
abbrev pub front_shown : Result (Tariff × Bor (List ℕ)) OffersFault → Result (Tariff × List ℕ) OffersFault
front_shown (Ok p) = Ok (p.0, p.1.now)
front_shown (Err fault) = Err fault

-- for the contract of a private function alone: as many lines as there are were read, or there is a fault wherever the bytes should end
abbrev pub ReadsLines : List ℕ → Result Lines OffersFault → Type 0
ReadsLines bytes (Ok l) = Front bytes l.offers l.rest.now × (l.number ≡ length l.offers.offers + 1) × (l.number ≤ length bytes + 1) × BeginsWithNone l.rest.now
ReadsLines bytes (Err (BadLine line)) = HasNoKeeper bytes line
ReadsLines bytes (Err (Twice line)) = RepeatsAt bytes line
ReadsLines bytes (Err NoMemory) = HasMore bytes

-- for the contract of a private function alone: an offer was added behind the others, or one for its product and its group was among them
abbrev pub Adds : Tariff → Tariff → ℕ → Offer → Result (Unit {0}) OffersFault → Type 0
Adds old new line o (Ok done) =
    (price_for old.offers (key_of o) ≡ None) × (new.keeper ≡ old.keeper) × (new.offers ≡ old.offers ++ o ∷ [])
Adds old new line o (Err (BadLine n)) = ⊥
Adds old new line o (Err (Twice n)) = (n ≡ line) × (price_for old.offers (key_of o) ≢ None)
Adds old new line o (Err NoMemory) = price_for old.offers (key_of o) ≡ None
