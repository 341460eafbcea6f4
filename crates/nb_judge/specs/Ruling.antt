-- The ruling on a case: tests in order. Where one fails the ruling is its own, and where it holds the tests behind it rule.
use Rattle.std.specs.Prelude.{◌≡◌, ◌≢◌, ◌⊎◌, ℕ, List, Option, Some, None, codes, length}
use Rattle.sha2.specs.Sha256.{sha256}
use Rattle.nb_seal.specs.Seal.{Opens, iv_shown}
use Rattle.nb_epo.specs.Tags.{order_tag}
use Rattle.nb_endorse.specs.declared.receipt.Receipt.{Receipt}
use Rattle.nb_endorse.specs.Differing.{first_difference}
use Rattle.nb_endorse.specs.Spelling.{IsSigned, signed_bytes}
use Rattle.nb_endorse.specs.Tags.{signed_receipt}
use Rattle.nb_goods.specs.Goods.{OpensTo, OpensToNothing}
use Rattle.nb_judge.specs.declared.case.Case.{Case}
use Rattle.nb_judge.specs.declared.ruling.Ruling.{Ruling}
use Rattle.nb_judge.specs.declared.ruling.Ruling.TheVariants.{NoOrder, NoReceipt, OtherOrder, NotPaid, WrongGoods, WrongKey, KeyOpens}

-- the bytes open under the consumer's key to this receipt with the house's tag
pub record Shows (consumer house bytes : List ℕ) (r : Receipt) : Type 0 where
  pub lawful : IsSigned (signed_receipt house r)
  pub opens : Opens consumer (codes "rcpt") bytes (signed_bytes (signed_receipt house r))

-- whether the key opens the goods
abbrev pub RulesByKey : Case → List ℕ → Ruling → Type 0
RulesByKey c key ruling =
    (OpensToNothing key c.sealed × (ruling ≡ WrongKey (iv_shown c.sealed)))
    ⊎ ((goods : List ℕ) × OpensTo key c.sealed goods × (ruling ≡ KeyOpens (length goods)))

-- whether the goods are those that were ordered
abbrev pub RulesByGoods : Case → List ℕ → Ruling → Type 0
RulesByGoods c key ruling =
    ((sha256 c.sealed ≢ c.order.checksum) × (ruling ≡ WrongGoods c.order.checksum (sha256 c.sealed)))
    ⊎ ((sha256 c.sealed ≡ c.order.checksum) × RulesByKey c key ruling)

-- whether the receipt says paid, and with which key
abbrev pub RulesByCode : Case → Receipt → Ruling → Type 0
RulesByCode c r ruling =
    ((r.code ≢ 0) × (ruling ≡ NotPaid r.code))
    ⊎ ((key : List ℕ) × (r.code ≡ 0) × (r.key ≡ Some key) × RulesByGoods c key ruling)

-- the first field in which a receipt is of another order
abbrev pub differs : Case → Receipt → Option ℕ
differs c r = first_difference r c.order.epoid c.order.consumer c.order.merchant c.order.product c.order.price

-- whether it is of the order
abbrev pub RulesByFields : Case → Receipt → Ruling → Type 0
RulesByFields c r ruling =
    ((field : ℕ) × (differs c r ≡ Some field) × (ruling ≡ OtherOrder field))
    ⊎ ((differs c r ≡ None) × RulesByCode c r ruling)

-- whether the receipt opens under the consumer's key to one with the house's tag
abbrev pub RulesByReceipt : Case → Ruling → Type 0
RulesByReceipt c ruling =
    (((r : Receipt) → ¬ Shows c.consumer c.house c.receipt r) × (ruling ≡ NoReceipt (iv_shown c.receipt)))
    ⊎ ((r : Receipt) × Shows c.consumer c.house c.receipt r × RulesByFields c r ruling)

-- whether the order has its tag under the consumer's key
abbrev pub Rules : Case → Ruling → Type 0
Rules c ruling =
    ((c.order.tag ≢ order_tag c.consumer c.order) × (ruling ≡ NoOrder c.order.tag))
    ⊎ ((c.order.tag ≡ order_tag c.consumer c.order) × RulesByReceipt c ruling)
