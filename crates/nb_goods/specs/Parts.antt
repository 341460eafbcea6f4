-- What is kept of sealed goods to make their parts.
use Rattle.std.specs.Prelude.{ℕ, List, codes, length}
use Rattle.sha2.specs.Sha256.{sha256}
use Rattle.nb_seal.specs.Seal.{iv_of}
use Rattle.nb_goods.specs.Goods.{sealed_goods}
use Rattle.nb_goods.specs.Divided.{Divided}

-- of these goods under this key
abbrev pub parts_of : List ℕ → List ℕ → Divided
parts_of key goods = record {
  key = key;
  iv = iv_of key (codes "good") goods;
  total = length (sealed_goods key goods);
  checksum = sha256 (sealed_goods key goods);
}
