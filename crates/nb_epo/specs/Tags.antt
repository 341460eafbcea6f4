-- The tag of an order (HMAC-SHA-256, RFC 2104, section 2), and the digest of an account (SHA-256, FIPS 180-4).
use Rattle.std.specs.Prelude.{ℕ, List, ◌++◌, codes}
use Rattle.sha2.specs.Sha256.{sha256}
use Rattle.nb_seal.specs.Hmac.{hmac_of}
use Rattle.nb_units.specs.Fields.{be4, be8}
use Rattle.nb_units.specs.declared.ids.AcctId.{AcctId}
use Rattle.nb_epo.specs.declared.order.Order.{Order}
use Rattle.nb_epo.specs.Spelling.{untagged_bytes}

-- the tag of an order under the consumer's key: over "ordr" and the order's bytes before the tag
abbrev pub order_tag : List ℕ → Order → List ℕ
order_tag key o = hmac_of key (codes "ordr" ++ untagged_bytes o)

-- the order with that tag
abbrev pub signed_order : List ℕ → Order → Order
signed_order key o = record o { tag = order_tag key o }

-- the digest of an account and its nonce
abbrev pub account_digest_of : AcctId → ℕ → List ℕ
account_digest_of acct nonce = sha256 (be4 acct.0 ++ be8 nonce)
