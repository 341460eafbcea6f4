-- The one spelling of an endorsement and of a receipt. Numbers are big-endian; a text has its length before it, in four
-- bytes.
use Rattle.std.specs.Prelude.{◌≡◌, ◌↔◌, ◌⊎◌, ℕ, ◌<◌, ◌≤◌, ◌^◌, List, [], ◌∷◌, ◌++◌, length, Option, Some, None, IsSome, IfSome}
use Rattle.nb_units.specs.Fields.{be4, be8, sized}
use Rattle.nb_units.specs.Epoid.{IsEpoid, epoid_bytes}
use Rattle.nb_units.specs.Reasons.{IsReason}
use Rattle.nb_units.specs.declared.limits.TheConstants.{MAX_MEMO, MAX_ORDER}
use Rattle.nb_endorse.specs.declared.endorsement.Endorsement.{Endorsement}
use Rattle.nb_endorse.specs.declared.receipt.TheConstants.{PAID_CODE, ABSENT, PRESENT, NO_KEY}
use Rattle.nb_endorse.specs.declared.receipt.Receipt.{Receipt}
use Rattle.nb_endorse.specs.declared.receipt.Signed.{Signed}

-- an endorsement before it is sealed: order, at most MAX_ORDER | merchant's account 4 | memo, at most MAX_MEMO | key 32
unfoldable pub endorsement_bytes : Endorsement → List ℕ
endorsement_bytes e = sized e.order ++ be4 e.macct.0 ++ sized e.memo ++ e.key

-- each field of an endorsement is within its limits
pub record IsEndorsement (e : Endorsement) : Type 0 where
  pub order : length e.order ≤ MAX_ORDER
  pub macct : e.macct.0 < 2 ^ 32
  pub memo : length e.memo ≤ MAX_MEMO
  pub key : length e.key ≡ 32

-- a key behind the byte that says whether there is one: has key 1, 0 or 1 | key 32, or zeros
abbrev pub key_bytes : Option (List ℕ) → List ℕ
key_bytes None = ABSENT ∷ NO_KEY
key_bytes (Some key) = PRESENT ∷ key

-- two numbers behind the byte that says whether they are shown: has shown 1, 0 or 1 | a 8, or zeros | b 8, or zeros
abbrev pub shown_bytes : Option (ℕ × ℕ) → List ℕ
shown_bytes None = ABSENT ∷ be8 0 ++ be8 0
shown_bytes (Some numbers) = PRESENT ∷ be8 numbers.0 ++ be8 numbers.1

-- a receipt before its tag:
-- code 1 | consumer 4 | merchant 4 | product 4 | price 8 | identifier 16 | at 8 | moment 8 | has key 1 | key 32
-- | has shown 1 | a 8 | b 8
unfoldable pub receipt_bytes : Receipt → List ℕ
receipt_bytes r = (r.code ∷ []) ++ be4 r.consumer.0 ++ be4 r.merchant.0 ++ be4 r.product ++ be8 r.price.0 ++ epoid_bytes r.epoid ++ be8 r.at ++ be8 r.moment ++ key_bytes r.key ++ shown_bytes r.shown

-- a receipt and its tag 32
abbrev pub signed_bytes : Signed → List ℕ
signed_bytes s = receipt_bytes s.receipt ++ s.tag

-- a receipt may have this code: paid, or the reason for which the order is refused
abbrev pub IsReceiptCode : ℕ → Type 0
IsReceiptCode code = (code ≡ PAID_CODE) ⊎ IsReason code

-- each field of a receipt is within its limits: there is a key exactly where the order was paid, and then nothing is shown
pub record IsReceipt (r : Receipt) : Type 0 where
  pub code : IsReceiptCode r.code
  pub consumer : r.consumer.0 < 2 ^ 32
  pub merchant : r.merchant.0 < 2 ^ 32
  pub product : r.product < 2 ^ 32
  pub price : r.price.0 < 2 ^ 64
  pub epoid : IsEpoid r.epoid
  pub at : r.at < 2 ^ 64
  pub moment : r.moment < 2 ^ 64
  pub keyed : IsSome r.key ↔ (r.code ≡ PAID_CODE)
  pub key : IfSome r.key (λ key. length key ≡ 32)
  pub showing : r.code ≡ PAID_CODE → r.shown ≡ None
  pub shown : IfSome r.shown (λ numbers. (numbers.0 < 2 ^ 64) × (numbers.1 < 2 ^ 64))

-- so is each field of a receipt with its tag
pub record IsSigned (s : Signed) : Type 0 where
  pub receipt : IsReceipt s.receipt
  pub tag : length s.tag ≡ 32
