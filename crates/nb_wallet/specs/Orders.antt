-- What a price is asked for, and the order of a purchase.
use Rattle.std.specs.Prelude.{List, ℕ, codes, replicate}
use Rattle.sha2.specs.Sha256.{sha256}
use Rattle.nb_units.specs.declared.epoid.Epoid.{Epoid}
use Rattle.nb_units.specs.declared.ids.Price.{Price}
use Rattle.nb_seal.specs.Seal.{seal_of}
use Rattle.nb_body.specs.Spelling.{price_request_bytes}
use Rattle.nb_epo.specs.declared.order.Order.{Order}
use Rattle.nb_epo.specs.Spelling.{hidden_bytes}
use Rattle.nb_epo.specs.Tags.{signed_order, account_digest_of}
use Rattle.nb_wallet.specs.declared.wallet.Wallet.{Wallet}
use Rattle.nb_wallet.specs.declared.wallet.Start.{Start}

-- what a price is asked for
abbrev pub price_request_of_start : Start → List ℕ
price_request_of_start s = price_request_bytes (record { transaction = s.transaction; product = s.product; request = s.request })

-- the order of a purchase at this price, with this identifier and checksum of the sealed goods, before it is signed
abbrev pub unsigned_order : Wallet → Start → Price → Epoid → List ℕ → Order
unsigned_order w s price epoid checksum = record {
  consumer = w.id;
  merchant = s.merchant;
  product = s.product;
  price = price;
  epoid = epoid;
  checksum = checksum;
  request = sha256 (price_request_of_start s);
  account = account_digest_of w.acct w.nonce;
  hidden = seal_of w.key (codes "hide") (hidden_bytes (record { acct = w.acct; nonce = w.nonce; memo = s.memo }));
  tag = replicate 32 0;
}

-- the order of a purchase, with the consumer's tag
abbrev pub order_for : Wallet → Start → Price → Epoid → List ℕ → Order
order_for w s price epoid checksum = signed_order w.key (unsigned_order w s price epoid checksum)
