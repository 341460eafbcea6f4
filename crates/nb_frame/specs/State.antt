-- What a reader of frames is seen as.
use Rattle.std.specs.Prelude.{ℕ, List, [], ◌++◌, drop}

-- the bytes since the last feed, how many of them were given out, and how many were given out in all
pub record Collected : Type 0 where
  pub held : List ℕ
  pub at : ℕ
  pub taken : ℕ

-- the bytes that were not given out
abbrev pub waiting : Collected → List ℕ
waiting c = drop c.at c.held

-- before the first feed
abbrev pub unfed : Collected
unfed = record { held = []; at = 0; taken = 0 }

-- behind a feed: what waited, and the piece
abbrev pub fed : Collected → List ℕ → Collected
fed c piece = record { held = waiting c ++ piece; at = 0; taken = c.taken }
