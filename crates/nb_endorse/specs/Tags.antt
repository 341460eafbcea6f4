-- The digest of an endorsement (SHA-256, FIPS 180-4), and the tag of a receipt (HMAC-SHA-256, RFC 2104, section 2).
use Rattle.std.specs.Prelude.{ℕ, List, ◌++◌, codes}
use Rattle.sha2.specs.Sha256.{sha256}
use Rattle.nb_seal.specs.Hmac.{hmac_of}
use Rattle.nb_endorse.specs.declared.endorsement.Endorsement.{Endorsement}
use Rattle.nb_endorse.specs.declared.receipt.Receipt.{Receipt}
use Rattle.nb_endorse.specs.declared.receipt.Signed.{Signed}
use Rattle.nb_endorse.specs.Spelling.{endorsement_bytes, receipt_bytes}

-- the digest of an endorsement: of its bytes before they are sealed
abbrev pub endorsement_digest : Endorsement → List ℕ
endorsement_digest e = sha256 (endorsement_bytes e)

-- the tag of a receipt under the house's key: over "rcpt" and the receipt's bytes before the tag
abbrev pub receipt_tag : List ℕ → Receipt → List ℕ
receipt_tag house r = hmac_of house (codes "rcpt" ++ receipt_bytes r)

-- the receipt with that tag
abbrev pub signed_receipt : List ℕ → Receipt → Signed
signed_receipt house r = record { receipt = r; tag = receipt_tag house r }
