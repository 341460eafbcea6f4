-- The one spelling of a record and of an acknowledgement, and their tags (HMAC-SHA-256, RFC 2104, section 2). Numbers are big-endian.
use Rattle.std.specs.Prelude.{◌≡◌, ℕ, ◌+◌, ◌<◌, ◌^◌, List, [], ◌∷◌, ◌++◌, length, codes}
use Rattle.nb_units.specs.Fields.{be8}
use Rattle.nb_units.specs.Frames.{Frame}
use Rattle.nb_seal.specs.Hmac.{hmac_of}
use Rattle.nb_entry.specs.declared.entry.Entry.{Entry}
use Rattle.nb_entry.specs.Spelling.{IsEntry, entry_bytes}
use Rattle.nb_standby.specs.declared.limits.TheConstants.{SHIPPED_FRAME}
use Rattle.nb_standby.specs.declared.shipped.Shipped.{Shipped}
use Rattle.nb_standby.specs.declared.acknowledged.Acknowledged.{Acknowledged}

-- a record before its tag: place 8 | entry
unfoldable pub unsigned_bytes : ℕ → Entry → List ℕ
unsigned_bytes place entry = be8 place ++ entry_bytes entry

-- its tag under the house's key: over "ship" and its bytes before the tag
abbrev pub ship_tag : List ℕ → ℕ → Entry → List ℕ
ship_tag house place entry = hmac_of house (codes "ship" ++ unsigned_bytes place entry)

-- the record of an entry at a place, as a house with this key signs it
abbrev pub signed : List ℕ → ℕ → Entry → Shipped
signed house place entry = record { place = place; entry = entry; tag = ship_tag house place entry }

-- a record: what is signed, and the tag 32
abbrev pub shipped_bytes : Shipped → List ℕ
shipped_bytes r = unsigned_bytes r.place r.entry ++ r.tag

-- the frames of the records of these entries, the first of which stands at this place, as a house with this key signs them
abbrev pub shipped_frames : List ℕ → ℕ → List Entry → List Frame
shipped_frames key place [] = []
shipped_frames key place (e ∷ entries) = record { kind = SHIPPED_FRAME; body = shipped_bytes (signed key place e) } ∷ shipped_frames key (place + 1) entries

-- each field of a record is within its limits
pub record IsShipped (r : Shipped) : Type 0 where
  pub place : r.place < 2 ^ 64
  pub entry : IsEntry r.entry
  pub tag : length r.tag ≡ 32

-- an acknowledgement before its tag: code 1 | how many entries stand 8
unfoldable pub untold_bytes : ℕ → ℕ → List ℕ
untold_bytes code entries = (code ∷ []) ++ be8 entries

-- its tag under the house's key: over "ackn" and its bytes before the tag
abbrev pub acknowledge_tag : List ℕ → ℕ → ℕ → List ℕ
acknowledge_tag house code entries = hmac_of house (codes "ackn" ++ untold_bytes code entries)

-- the acknowledgement of this code, as a house with this key signs it
abbrev pub told : List ℕ → ℕ → ℕ → Acknowledged
told house code entries = record { code = code; entries = entries; tag = acknowledge_tag house code entries }

-- an acknowledgement: what is signed, and the tag 32
abbrev pub acknowledged_bytes : Acknowledged → List ℕ
acknowledged_bytes a = untold_bytes a.code a.entries ++ a.tag

-- each field of an acknowledgement is within its limits
pub record IsAcknowledged (a : Acknowledged) : Type 0 where
  pub code : a.code < 2 ^ 8
  pub entries : a.entries < 2 ^ 64
  pub tag : length a.tag ≡ 32
