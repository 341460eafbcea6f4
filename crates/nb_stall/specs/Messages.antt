-- What a merchant sends, but for a result that is passed on, and the keys of its goods.
use Rattle.std.specs.Prelude.{ℕ, List, [], codes, length}
use Rattle.sha2.specs.Sha256.{sha256}
use Rattle.nb_units.specs.declared.epoid.Epoid.{Epoid}
use Rattle.nb_seal.specs.Seal.{seal_of}
use Rattle.nb_body.specs.declared.quote.Quote.{Quote}
use Rattle.nb_body.specs.declared.goods_head.GoodsHead.{GoodsHead}
use Rattle.nb_body.specs.Spelling.{quote_bytes, goods_head_bytes}
use Rattle.nb_goods.specs.Goods.{goods_key_of, part_at}
use Rattle.nb_endorse.specs.Spelling.{endorsement_bytes}
use Rattle.nb_endorse.specs.declared.endorsement.Endorsement.{Endorsement}
use Rattle.nb_msgs.specs.declared.message.Message.{Message}
use Rattle.nb_msgs.specs.declared.message.Message.TheVariants as message
use Rattle.nb_stall.specs.declared.stall.Stall.{Stall}

-- the key of the goods of a serial number
abbrev pub key_of : Stall → ℕ → List ℕ
key_of stall serial = goods_key_of stall.master stall.id serial

-- a price, sealed under the session key
abbrev pub quote_message : List ℕ → Quote → Message
quote_message session quote = message.Quote quote.transaction (seal_of session (codes "m002") (quote_bytes quote))

-- what is said of the part of sealed goods at a place
abbrev pub head_of : ℕ → Epoid → List ℕ → ℕ → GoodsHead
head_of transaction epoid sealed place = record { transaction = transaction; epoid = epoid; total = length sealed; place = place; checksum = sha256 sealed }

-- that, sealed under the session key, and the part
abbrev pub goods_message : List ℕ → ℕ → Epoid → List ℕ → ℕ → Message
goods_message session transaction epoid sealed place =
    message.Goods transaction (seal_of session (codes "m004") (goods_head_bytes (head_of transaction epoid sealed place))) (part_at sealed place)

-- an order, endorsed with the key of its identifier's serial number
abbrev pub endorsement_for : Stall → Epoid → List ℕ → Endorsement
endorsement_for stall epoid order = record { order = order; macct = stall.acct; memo = []; key = key_of stall epoid.serial }

-- that, sealed under the stall's key
abbrev pub endorsed_message : Stall → Epoid → List ℕ → Message
endorsed_message stall epoid order = message.Endorsed stall.id (seal_of stall.key (codes "endo") (endorsement_bytes (endorsement_for stall epoid order)))
