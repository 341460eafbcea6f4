-- Seals: a text behind the code of its label and itself, hidden by the keystream of a key made from that code.
use Rattle.std.specs.Prelude.{◌≡◌, ℕ, List, ◌++◌, codes, replicate, take, drop, Option, Some, None, Result, if◌then◌else◌}
use Rattle.std.specs.Str.{bytes_eq}
use Rattle.nb_seal.specs.declared.limits.TheConstants.{CODE_BYTES}
use Rattle.nb_seal.specs.Hmac.{hmac_of}
use Rattle.nb_seal.specs.Keystream.{xored}

-- the iv of a text: the code of its label followed by the text
abbrev pub iv_of : List ℕ → List ℕ → List ℕ → List ℕ
iv_of key label plain = hmac_of key (label ++ plain)

-- the key of the keystream behind an iv
abbrev pub stream_key_of : List ℕ → List ℕ → List ℕ
stream_key_of key iv = hmac_of key (codes "enc" ++ iv)

-- the seal of a text under a key and a label: its iv, and the text xored with the keystream behind that iv
unfoldable pub seal_of : List ℕ → List ℕ → List ℕ → List ℕ
seal_of key label plain = iv_of key label plain ++ xored (stream_key_of key (iv_of key label plain)) 0 plain

-- under a key and a label the bytes open to a text: they are its seal
abbrev pub Opens : List ℕ → List ℕ → List ℕ → List ℕ → Type 0
Opens key label bytes plain = bytes ≡ seal_of key label plain

-- they open to a text that is read so
abbrev pub OpensAs : {A E : Type 0} → (List ℕ → Result A E) → List ℕ → List ℕ → List ℕ → Result A E → Type 0
OpensAs reading key label bytes read = (plain : List ℕ) × Opens key label bytes plain × (reading plain ≡ read)

-- the bytes are the seal of no text
abbrev pub IsNoSeal : List ℕ → List ℕ → List ℕ → Type 0
IsNoSeal key label bytes = (plain : List ℕ) → ¬ Opens key label bytes plain

-- what stands behind the iv of sealed bytes, xored with the keystream behind that iv
unfoldable pub text_behind : List ℕ → List ℕ → List ℕ
text_behind key bytes = xored (stream_key_of key (take CODE_BYTES bytes)) 0 (drop CODE_BYTES bytes)

-- the text that the bytes are the seal of, if they are the seal of one
abbrev pub text_in : List ℕ → List ℕ → List ℕ → Option (List ℕ)
text_in key label bytes = if bytes_eq bytes (seal_of key label (text_behind key bytes)) then Some (text_behind key bytes) else None

-- the new bytes are the old ones and a text that the sealed bytes open to
abbrev pub AppendsOpened : List ℕ → List ℕ → List ℕ → List ℕ → List ℕ → Type 0
AppendsOpened key label bytes old new = (plain : List ℕ) × Opens key label bytes plain × (new ≡ old ++ plain)

-- the iv that a bad seal shows: the first 32 bytes, with zeros where there are fewer
abbrev pub iv_shown : List ℕ → List ℕ
iv_shown bytes = take CODE_BYTES (bytes ++ replicate CODE_BYTES 0)
