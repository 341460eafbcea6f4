-- What is asked of a vault: the requests of a turn, by the bytes in which their bodies stand.
use Rattle.std.specs.Prelude.{ℕ, ◌+◌, ◌≤◌, List, length, map, take, drop}
use Rattle.nb_turns.specs.Turns.{Request}
use Rattle.nb_vault.specs.declared.answer.AskAt.{AskAt}

-- the request
abbrev pub request_of : ℕ → List ℕ → ℕ → Request
request_of kind body moment = record { kind = kind; body = body; moment = moment }

-- the request whose body stands there in the bytes
abbrev pub request_at : List ℕ → AskAt → Request
request_at bytes ask = request_of ask.kind (take ask.len (drop ask.start bytes)) ask.moment

-- all requests of a turn
abbrev pub requests_of : List ℕ → List AskAt → List Request
requests_of bytes asks = map (λ (ask : AskAt). request_at bytes ask) asks

-- the body stands within the bytes
abbrev pub IsWithin : List ℕ → AskAt → Type 0
IsWithin bytes ask = ask.start + ask.len ≤ length bytes
