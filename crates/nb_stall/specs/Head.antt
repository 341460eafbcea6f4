-- The head of a stall's journal: id 4 | account 4 | zeros 8, which nobody reads | key 32 | master 32. Any 80 bytes are one.
use Rattle.std.specs.Prelude.{◌≡◌, ℕ, ◌<◌, ◌^◌, List, ◌++◌, length, take, drop, replicate}
use Rattle.std.specs.Int.{w32, from_be_bytes}
use Rattle.nb_units.specs.Fields.{be4}
use Rattle.nb_units.specs.Frames.{AreBytes}
use Rattle.nb_units.specs.declared.limits.TheConstants.{HEAD}
use Rattle.nb_stall.specs.declared.stall.Stall.{Stall}

-- each part fits its width
pub record IsStall (s : Stall) : Type 0 where
  pub id : s.id.0 < 2 ^ 32
  pub acct : s.acct.0 < 2 ^ 32
  pub key : length s.key ≡ 32
  pub master : length s.master ≡ 32

-- the head of a stall
unfoldable pub head_bytes : Stall → List ℕ
head_bytes s = be4 s.id.0 ++ be4 s.acct.0 ++ replicate 8 0 ++ s.key ++ s.master

-- the stall that a head tells of
unfoldable pub stall_of : List ℕ → Stall
stall_of head = record {
  id = record { 0 = from_be_bytes w32 (take 4 head) };
  acct = record { 0 = from_be_bytes w32 (take 4 (drop 4 head)) };
  key = take 32 (drop 16 head);
  master = drop 48 head;
}

-- ---- laws

-- what was spelled of a stall is read as that
abbrev pub HeadReadsBack : Type 0
HeadReadsBack = (s : Stall) → IsStall s → stall_of (head_bytes s) ≡ s

-- what was read of a head is spelled as that, but for the zeros in it, and each part of it fits its width
abbrev pub HeadSpellsBack : Type 0
HeadSpellsBack = (head : List ℕ) → AreBytes head → length head ≡ HEAD → IsStall (stall_of head) × (head_bytes (stall_of head) ≡ take 8 head ++ replicate 8 0 ++ drop 16 head)
