-- A frame of the protocol: 4E 42, the version 01, the kind from 01 to 10, the length of the body in four
-- bytes, and the body of at most 1,048,576 bytes. A stream is whole frames and a rest that begins with none.
use Rattle.std.specs.Prelude.{◌≡◌, ◌≢◌, ◌↔◌, ◌⊎◌, ℕ, ◌+◌, ◌^◌, ◌<◌, ◌≤◌, slice_index, List, [], ◌∷◌, ◌++◌, length, take, drop, nat_lt, ◌==◌, ◌&&◌, if◌then◌else◌}
use Rattle.std.specs.List.{flat_map, AllByRecursion}
use Rattle.std.specs.Int.{w32, from_be_bytes}
use Rattle.nb_units.specs.Fields.{be4, sized}
use Rattle.nb_units.specs.declared.frames.TheConstants.{FIRST_MAGIC, SECOND_MAGIC, VERSION, LAST_KIND, MAX_BODY, HEADER, PRICE_REQUEST, QUOTE_REPLY, GOODS_REQUEST, GOODS_REPLY, PAYMENT_REQUEST, ORDER_REQUEST, RESULT_REPLY, PAYMENT_REPLY, STATUS_REQUEST, STATUS_REPLY, TICKET_REQUEST, GRANT_REPLY, ENROL_REQUEST, FUND_REQUEST, DONE_REPLY, REFUSED_REPLY}

-- its kind and its body
pub record Frame : Type 0 where
  pub kind : ℕ
  pub body : List ℕ

-- its kind and its length are allowed
abbrev pub IsFrame : Frame → Type 0
IsFrame f = (1 ≤ f.kind) × (f.kind ≤ LAST_KIND) × (length f.body ≤ MAX_BODY)

-- its one spelling
abbrev pub frame : Frame → List ℕ
frame f = FIRST_MAGIC ∷ SECOND_MAGIC ∷ VERSION ∷ f.kind ∷ sized f.body

-- the first part of a header that is not allowed: its place in the frame, and what stands there
pub data HeaderFault : Type 0 where
  BadMagic : ℕ → ℕ → HeaderFault
  BadVersion : ℕ → ℕ → HeaderFault
  BadKind : ℕ → ℕ → HeaderFault
  TooLong : ℕ → ℕ → HeaderFault

-- what stands at the front of a list of bytes: a whole frame and what follows it, nothing, a header or a body
-- that is not all there, or a header that no frame has
pub data Front : Type 0 where
  Whole : Frame → List ℕ → Front
  Empty : Front
  Partial : Front
  Bad : HeaderFault → Front

-- behind the header: a length that is too long, fewer bytes than the length says, or the whole body
abbrev pub body_of : ℕ → ℕ → List ℕ → Front
body_of kind len rest =
    if nat_lt MAX_BODY len then Bad (TooLong 4 len)
    else if nat_lt (length rest) len then Partial
    else Whole (record { kind = kind; body = take len rest }) (drop len rest)

-- behind the kind: the four bytes of the length, or fewer
abbrev pub behind_kind : ℕ → List ℕ → Front
behind_kind kind (a ∷ b ∷ c ∷ d ∷ rest) = body_of kind (from_be_bytes w32 (a ∷ b ∷ c ∷ d ∷ [])) rest
behind_kind kind few = Partial

-- behind the version: the kind
abbrev pub behind_version : List ℕ → Front
behind_version [] = Partial
behind_version (k ∷ bytes) = if nat_lt 0 k && nat_lt k (LAST_KIND + 1) then behind_kind k bytes else Bad (BadKind 3 k)

-- behind the magic: the version
abbrev pub behind_magic : List ℕ → Front
behind_magic [] = Partial
behind_magic (v ∷ bytes) = if v == VERSION then behind_version bytes else Bad (BadVersion 2 v)

-- behind the first byte of the magic: the second
abbrev pub behind_first : List ℕ → Front
behind_first [] = Partial
behind_first (m ∷ bytes) = if m == SECOND_MAGIC then behind_magic bytes else Bad (BadMagic 1 m)

-- the parts of the header are tested in their order, and the first that fails is the fault
unfoldable pub front_of : List ℕ → Front
front_of [] = Empty
front_of (m ∷ bytes) = if m == FIRST_MAGIC then behind_first bytes else Bad (BadMagic 0 m)

-- a whole frame stands at the front
abbrev pub IsWhole : Front → Type 0
IsWhole (Whole f rest) = Unit {0}
IsWhole other = ⊥

-- a header that no frame has stands at the front
abbrev pub IsBad : Front → Type 0
IsBad (Bad fault) = Unit {0}
IsBad other = ⊥

-- the stream is these frames, and then a rest that begins with none
pub record Splits (stream : List ℕ) (frames : List Frame) (rest : List ℕ) : Type 0 where
  pub bytes : stream ≡ flat_map frame frames ++ rest
  pub lawful : AllByRecursion IsFrame frames
  pub ends : IsWhole (front_of rest) → ⊥

-- each number fits a byte
abbrev pub AreBytes : List ℕ → Type 0
AreBytes bytes = (i : ℕ) → slice_index bytes i < 256

-- these bytes stand at the front of a list
abbrev pub Begins : List ℕ → List ℕ → Type 0
Begins front bytes = (rest : List ℕ) × (bytes ≡ front ++ rest)

-- a header has this fault: all that stands before the place of the fault is allowed, and what stands there is not
abbrev pub HasFault : List ℕ → HeaderFault → Type 0
HasFault bytes (BadMagic p m) =
    ((p ≡ 0) × Begins (m ∷ []) bytes × (m ≢ FIRST_MAGIC))
    ⊎ ((p ≡ 1) × Begins (FIRST_MAGIC ∷ m ∷ []) bytes × (m ≢ SECOND_MAGIC))
HasFault bytes (BadVersion p v) = (p ≡ 2) × Begins (FIRST_MAGIC ∷ SECOND_MAGIC ∷ v ∷ []) bytes × (v ≢ VERSION)
HasFault bytes (BadKind p k) =
    (p ≡ 3) × Begins (FIRST_MAGIC ∷ SECOND_MAGIC ∷ VERSION ∷ k ∷ []) bytes × ((k ≡ 0) ⊎ (LAST_KIND < k))
HasFault bytes (TooLong p len) =
    (p ≡ 4) × (MAX_BODY < len) × (len < 2 ^ 32)
    × ((kind : ℕ) × (1 ≤ kind) × (kind ≤ LAST_KIND) × Begins (FIRST_MAGIC ∷ SECOND_MAGIC ∷ VERSION ∷ kind ∷ be4 len) bytes)

-- a frame of which the first n bytes are there: its kind is allowed, and its length is too, unless only one, two or
-- three of the four bytes of the length are there
abbrev pub IsBegun : ℕ → Frame → Type 0
IsBegun n f = (1 ≤ f.kind) × (f.kind ≤ LAST_KIND) × (length f.body < 2 ^ 32) × ((n ≤ 4) ⊎ (HEADER ≤ n) → length f.body ≤ MAX_BODY)

-- ---- laws

-- the layout in numbers: 4E 42 01, the kind from 01 to 10, the length in four bytes, the body of at most 1,048,576
abbrev pub FrameLayout : Type 0
FrameLayout = (f : Frame) → (frame f ≡ 0x4E ∷ 0x42 ∷ 0x01 ∷ f.kind ∷ be4 (length f.body) ++ f.body)
    × (length (frame f) ≡ HEADER + length f.body)
    × (IsFrame f ↔ ((1 ≤ f.kind) × (f.kind ≤ 0x10) × (length f.body ≤ 1048576)))

-- the kinds in numbers
abbrev pub FrameKinds : Type 0
FrameKinds =
    PRICE_REQUEST ∷ QUOTE_REPLY ∷ GOODS_REQUEST ∷ GOODS_REPLY ∷ PAYMENT_REQUEST ∷ ORDER_REQUEST ∷ RESULT_REPLY ∷ PAYMENT_REPLY
    ∷ STATUS_REQUEST ∷ STATUS_REPLY ∷ TICKET_REQUEST ∷ GRANT_REPLY ∷ ENROL_REQUEST ∷ FUND_REQUEST ∷ DONE_REPLY ∷ REFUSED_REPLY ∷ []
    ≡ 0x01 ∷ 0x02 ∷ 0x03 ∷ 0x04 ∷ 0x05 ∷ 0x06 ∷ 0x07 ∷ 0x08 ∷ 0x09 ∷ 0x0A ∷ 0x0B ∷ 0x0C ∷ 0x0D ∷ 0x0E ∷ 0x0F ∷ 0x10 ∷ []

-- a whole frame at the front is read as that frame, whatever follows it
abbrev pub FrontIsFrame : Type 0
FrontIsFrame = (f : Frame) (rest : List ℕ) → IsFrame f → front_of (frame f ++ rest) ≡ Whole f rest

-- what is read as a frame at the front of bytes is a frame's spelling
abbrev pub FrameIsFront : Type 0
FrameIsFront = (bytes rest : List ℕ) (f : Frame) → AreBytes bytes → front_of bytes ≡ Whole f rest → IsFrame f × (bytes ≡ frame f ++ rest)

-- a part of a frame, from its front on, is read as a part
abbrev pub PartIsPartial : Type 0
PartIsPartial = (bytes more : List ℕ) (f : Frame) → AreBytes bytes → IsFrame f → bytes ++ more ≡ frame f → bytes ≢ [] → more ≢ []
    → front_of bytes ≡ Partial

-- what is read as a part is a part of a frame, from its front on: some bytes are there, and some are not
abbrev pub PartialIsPart : Type 0
PartialIsPart = (bytes : List ℕ) → AreBytes bytes → front_of bytes ≡ Partial
    → (f : Frame) × (more : List ℕ) × IsBegun (length bytes) f × (bytes ++ more ≡ frame f) × (bytes ≢ []) × (more ≢ [])

-- only no bytes are read as nothing
abbrev pub EmptyIsNothing : Type 0
EmptyIsNothing = (bytes : List ℕ) → (front_of bytes ≡ Empty) ↔ (bytes ≡ [])

-- a fault is read exactly where the header has it
abbrev pub BadIsFault : Type 0
BadIsFault = (bytes : List ℕ) (fault : HeaderFault) → AreBytes bytes → (front_of bytes ≡ Bad fault) ↔ HasFault bytes fault

-- each list of bytes is a list of frames and a rest that begins with none
abbrev pub HasReading : Type 0
HasReading = (stream : List ℕ) → AreBytes stream → (fs : List Frame) × (rest : List ℕ) × Splits stream fs rest

-- no longer list of frames begins the stream
abbrev pub LongestReading : Type 0
LongestReading = (stream r t : List ℕ) (fs gs : List Frame) → Splits stream fs r → AllByRecursion IsFrame gs → stream ≡ flat_map frame gs ++ t
    → (more : List Frame) × (fs ≡ gs ++ more) × (t ≡ flat_map frame more ++ r)

-- a stream is read in one way
abbrev pub OneReading : Type 0
OneReading = (stream r s : List ℕ) (fs gs : List Frame) → Splits stream fs r → Splits stream gs s → (fs ≡ gs) × (r ≡ s)

-- what no frame begins with stays so, whatever follows
abbrev pub BadStays : Type 0
BadStays = (bytes more : List ℕ) (fault : HeaderFault) → front_of bytes ≡ Bad fault → front_of (bytes ++ more) ≡ Bad fault
