-- The one spelling of an order and of a hidden part. Numbers are big-endian; a text has its length before it, in four
-- bytes.
use Rattle.std.specs.Prelude.{◌≡◌, ℕ, ◌<◌, ◌≤◌, ◌^◌, List, ◌++◌, length}
use Rattle.nb_units.specs.Fields.{be4, be8, sized}
use Rattle.nb_units.specs.Epoid.{IsEpoid, epoid_bytes}
use Rattle.nb_units.specs.declared.limits.TheConstants.{MAX_HIDDEN, MAX_MEMO}
use Rattle.nb_epo.specs.declared.order.Order.{Order}
use Rattle.nb_epo.specs.declared.hidden.Hidden.{Hidden}

-- an order before its tag:
-- consumer 4 | merchant 4 | product 4 | price 8 | identifier 16 | checksum 32 | request digest 32 | account digest 32
-- | hidden part: its length 4, at most MAX_HIDDEN bytes
unfoldable pub untagged_bytes : Order → List ℕ
untagged_bytes o = be4 o.consumer.0 ++ be4 o.merchant.0 ++ be4 o.product ++ be8 o.price.0 ++ epoid_bytes o.epoid ++ o.checksum ++ o.request ++ o.account ++ sized o.hidden

-- an order: what is signed, and the tag 32
abbrev pub order_bytes : Order → List ℕ
order_bytes o = untagged_bytes o ++ o.tag

-- each field of an order is within its limits
pub record IsOrder (o : Order) : Type 0 where
  pub consumer : o.consumer.0 < 2 ^ 32
  pub merchant : o.merchant.0 < 2 ^ 32
  pub product : o.product < 2 ^ 32
  pub price : o.price.0 < 2 ^ 64
  pub epoid : IsEpoid o.epoid
  pub checksum : length o.checksum ≡ 32
  pub request : length o.request ≡ 32
  pub account : length o.account ≡ 32
  pub hidden : length o.hidden ≤ MAX_HIDDEN
  pub tag : length o.tag ≡ 32

-- a hidden part: account 4 | nonce 8 | memo: its length 4, at most MAX_MEMO bytes
unfoldable pub hidden_bytes : Hidden → List ℕ
hidden_bytes h = be4 h.acct.0 ++ be8 h.nonce ++ sized h.memo

-- each field of a hidden part is within its limits
pub record IsHidden (h : Hidden) : Type 0 where
  pub acct : h.acct.0 < 2 ^ 32
  pub nonce : h.nonce < 2 ^ 64
  pub memo : length h.memo ≤ MAX_MEMO
