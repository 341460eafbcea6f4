-- The head of a wallet's journal: id 4 | account 4 | nonce 8 | key 32 | zeros 32, which nobody reads. Any 80 bytes are one.
use Rattle.std.specs.Prelude.{◌≡◌, ℕ, ◌<◌, ◌^◌, List, ◌++◌, length, take, drop, replicate}
use Rattle.std.specs.Int.{w32, w64, from_be_bytes}
use Rattle.nb_units.specs.Fields.{be4, be8}
use Rattle.nb_units.specs.Frames.{AreBytes}
use Rattle.nb_units.specs.declared.limits.TheConstants.{HEAD}
use Rattle.nb_wallet.specs.declared.wallet.Wallet.{Wallet}

-- each part fits its width
pub record IsWallet (w : Wallet) : Type 0 where
  pub id : w.id.0 < 2 ^ 32
  pub acct : w.acct.0 < 2 ^ 32
  pub nonce : w.nonce < 2 ^ 64
  pub key : length w.key ≡ 32

-- the head of a wallet
unfoldable pub head_bytes : Wallet → List ℕ
head_bytes w = be4 w.id.0 ++ be4 w.acct.0 ++ be8 w.nonce ++ w.key ++ replicate 32 0

-- the wallet that a head tells of
unfoldable pub wallet_of : List ℕ → Wallet
wallet_of head = record {
  id = record { 0 = from_be_bytes w32 (take 4 head) };
  acct = record { 0 = from_be_bytes w32 (take 4 (drop 4 head)) };
  nonce = from_be_bytes w64 (take 8 (drop 8 head));
  key = take 32 (drop 16 head);
}

-- ---- laws

-- what was spelled of a wallet is read as that
abbrev pub HeadReadsBack : Type 0
HeadReadsBack = (w : Wallet) → IsWallet w → wallet_of (head_bytes w) ≡ w

-- what was read of a head is spelled as that, but for the zeros behind it, and each part of it fits its width
abbrev pub HeadSpellsBack : Type 0
HeadSpellsBack = (head : List ℕ) → AreBytes head → length head ≡ HEAD → IsWallet (wallet_of head) × (head_bytes (wallet_of head) ≡ take 48 head ++ replicate 32 0)
