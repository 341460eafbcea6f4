-- Turns in numbers: a small house enrols two parties and takes in a fund, and its disk fails.
use Rattle.std.specs.Prelude.{◌≡◌, ℕ, ◌==◌, List, [], ◌∷◌, ◌++◌, Option, None, Some, length, slice_index_or, if◌then◌else◌}
use Rattle.nb_entry.specs.declared.entry.Entry.{Entry}
use Rattle.nb_entry.specs.declared.entry.Entry.TheVariants.{Enrol, Fund}
use Rattle.nb_entry.specs.declared.entry.TheConstants.{CONSUMER}
use Rattle.nb_book.specs.declared.funded.Funded.{Funded}
use Rattle.nb_book.specs.declared.party.Party.{Party}
use Rattle.nb_book.specs.Money.{balance}
use Rattle.nb_book.specs.Searches.{party_in, funded_in}
use Rattle.nb_units.specs.declared.frames.TheConstants.{ENROL_REQUEST, FUND_REQUEST}
use Rattle.nb_turns.specs.declared.line.Line.{Line}
use Rattle.nb_turns.specs.declared.line.Line.TheVariants as line
use Rattle.nb_turns.specs.declared.mark.Mark.TheVariants.{At}
use Rattle.nb_turns.specs.Turns.{Request, Ruling, House, State, Decides, Fails, Round, Run, answered_in, failures_of, marks, places, replies}
use Rattle.nb_turns.specs.Callers.{Turned, AnsweredTurns}

-- ---- a small house

-- the enrolment of a consumer: party, account and nonce are one number, and the key is empty
abbrev pub enrolment : ℕ → Entry
enrolment n = Enrol (record { 0 = n }) CONSUMER (record { 0 = n }) n []

-- a fund to an account
abbrev pub funding : ℕ → ℕ → Entry
funding n amount = Fund (record { 0 = n }) amount []

-- a party is enrolled at its first request, and each one is told the number, the place of the enrolment, and the balance
abbrev pub enrols_once : List Entry → ℕ → Option Party → Ruling
enrols_once over n (Some party) = record { reply = n ∷ party.at ∷ balance over (record { 0 = n }) ∷ []; entry = None }
enrols_once over n None = record { reply = n ∷ length over ∷ balance (over ++ enrolment n ∷ []) (record { 0 = n }) ∷ []; entry = Some (enrolment n) }

-- so is a fund taken in
abbrev pub funds_once : List Entry → ℕ → ℕ → Option Funded → Ruling
funds_once over n amount (Some fund) = record { reply = n ∷ fund.at ∷ balance over (record { 0 = n }) ∷ []; entry = None }
funds_once over n amount None =
    record { reply = n ∷ length over ∷ balance (over ++ funding n amount ∷ []) (record { 0 = n }) ∷ []; entry = Some (funding n amount) }

-- enrolments and funds, by the numbers in the body
abbrev pub small_rules : List Entry → Request → Ruling
small_rules over request =
    if request.kind == ENROL_REQUEST
    then enrols_once over (slice_index_or request.body 0 0) (party_in over (record { 0 = slice_index_or request.body 0 0 }))
    else funds_once over (slice_index_or request.body 0 0) (slice_index_or request.body 1 0) (funded_in over [])

-- refusals are their code and two numbers
abbrev pub small_house : House
small_house = record { rules = small_rules; fault = λ (before after : ℕ). 50 ∷ before ∷ after ∷ []; worn = 51 ∷ 1000 ∷ 0 ∷ [] }

-- enrol 1, enrol 2, and a fund of 500 to account 1
abbrev pub enrol_one : Request
enrol_one = record { kind = ENROL_REQUEST; body = 1 ∷ []; moment = 0 }

-- the second request enrols 2
abbrev pub enrol_two : Request
enrol_two = record { kind = ENROL_REQUEST; body = 2 ∷ []; moment = 0 }

-- the third one funds account 1
abbrev pub fund_one : Request
fund_one = record { kind = FUND_REQUEST; body = 1 ∷ 500 ∷ []; moment = 0 }

-- all three, in this order
abbrev pub three_requests : List Request
three_requests = enrol_one ∷ enrol_two ∷ fund_one ∷ []

-- what the two enrolments record
abbrev pub two_entries : List Entry
two_entries = enrolment 1 ∷ enrolment 2 ∷ []

-- what all three record
abbrev pub three_entries : List Entry
three_entries = enrolment 1 ∷ enrolment 2 ∷ funding 1 500 ∷ []

-- a house with these entries, this doubt and so many faults
abbrev pub house_at : List Entry → List Entry → ℕ → State
house_at entries doubt faults = record { entries = entries; doubt = doubt; faults = faults }

-- a turn with its own lines, before which others made none
abbrev pub own_turn : Round → List Line → Turned
own_turn round added = record { requests = round.requests; outcome = round.outcome; others = []; added = added }

-- ---- what was tried

-- all three in one turn: one after another, each told by its own place, and the balance is that behind the fund
abbrev pub ThreeAtOnce : Type 0
ThreeAtOnce =
    let rounds : List Round = record { requests = three_requests; outcome = Decides [] } ∷ [] in
    Run small_house (house_at [] [] 0) rounds (house_at three_entries [] 0 ∷ [])
    × (marks (answered_in small_house rounds) ≡ At 0 ∷ At 1 ∷ At 2 ∷ [])
    × (places (answered_in small_house rounds) ≡ 0 ∷ 1 ∷ 2 ∷ [])
    × (replies (answered_in small_house rounds) ≡ 1 ∷ 0 ∷ 0 ∷ 2 ∷ 1 ∷ 0 ∷ 1 ∷ 2 ∷ 500 ∷ [])

-- the disk fails in that turn, what it records is kept, and then the three come again: three refusals; three lines that adopt; the replies to
-- what is held, the first with the balance by then
abbrev pub KeptTogether : Type 0
KeptTogether =
    let first : Round = record { requests = three_requests; outcome = Fails 0 1 } in
    let again : Round = record { requests = three_requests; outcome = Decides three_entries } in
    let told : List Line = line.Doubt 0 0 (enrolment 1) ∷ line.Doubt 0 0 (enrolment 2) ∷ line.Doubt 0 0 (funding 1 500) ∷ line.Fault 0 0 0 1 ∷ [] in
    let adopted : List Line = line.Adopted 0 1 (enrolment 1) ∷ line.Adopted 0 1 (enrolment 2) ∷ line.Adopted 0 1 (funding 1 500) ∷ [] in
    Run small_house (house_at [] [] 0) (first ∷ again ∷ []) (house_at [] three_entries 1 ∷ house_at three_entries [] 1 ∷ [])
    × AnsweredTurns small_house [] 0 [] (own_turn first told ∷ own_turn again adopted ∷ []) (told ++ adopted)
    × (replies (answered_in small_house (first ∷ again ∷ [])) ≡ 50 ∷ 0 ∷ 1 ∷ 50 ∷ 0 ∷ 1 ∷ 50 ∷ 0 ∷ 1 ∷ 1 ∷ 0 ∷ 500 ∷ 2 ∷ 1 ∷ 0 ∷ 1 ∷ 2 ∷ 500 ∷ [])

-- the fund alone over the two enrolments, and the disk fails: it is dropped, and comes again as a new entry
abbrev pub DroppedAndRecorded : Type 0
DroppedAndRecorded =
    let first : Round = record { requests = fund_one ∷ []; outcome = Fails 0 1 } in
    let again : Round = record { requests = fund_one ∷ []; outcome = Decides two_entries } in
    let told : List Line = line.Doubt 0 0 (funding 1 500) ∷ line.Fault 0 0 0 1 ∷ [] in
    let recorded : List Line = line.Commit 0 1 (funding 1 500) ∷ [] in
    Run small_house (house_at two_entries [] 0) (first ∷ again ∷ []) (house_at two_entries (funding 1 500 ∷ []) 1 ∷ house_at three_entries [] 1 ∷ [])
    × AnsweredTurns small_house two_entries 0 [] (own_turn first told ∷ own_turn again recorded ∷ []) (told ++ recorded)
    × (replies (answered_in small_house (first ∷ again ∷ [])) ≡ 50 ∷ 0 ∷ 1 ∷ 1 ∷ 2 ∷ 500 ∷ [])

-- the disk fails: it is kept, and told again
abbrev pub KeptAndTold : Type 0
KeptAndTold =
    let first : Round = record { requests = fund_one ∷ []; outcome = Fails 0 1 } in
    let again : Round = record { requests = fund_one ∷ []; outcome = Decides three_entries } in
    let told : List Line = line.Doubt 0 0 (funding 1 500) ∷ line.Fault 0 0 0 1 ∷ [] in
    let adopted : List Line = line.Adopted 0 1 (funding 1 500) ∷ [] in
    Run small_house (house_at two_entries [] 0) (first ∷ again ∷ []) (house_at two_entries (funding 1 500 ∷ []) 1 ∷ house_at three_entries [] 1 ∷ [])
    × AnsweredTurns small_house two_entries 0 [] (own_turn first told ∷ own_turn again adopted ∷ []) (told ++ adopted)
    × (replies (answered_in small_house (first ∷ again ∷ [])) ≡ 50 ∷ 0 ∷ 1 ∷ 1 ∷ 2 ∷ 500 ∷ [])

-- settling fails too: the same is in doubt until the third turn
abbrev pub FailedTwice : Type 0
FailedTwice =
    let first : Round = record { requests = fund_one ∷ []; outcome = Fails 0 1 } in
    let second : Round = record { requests = fund_one ∷ []; outcome = Fails 1 2 } in
    let third : Round = record { requests = fund_one ∷ []; outcome = Decides three_entries } in
    let told : List Line = line.Doubt 0 0 (funding 1 500) ∷ line.Fault 0 0 0 1 ∷ [] in
    let failed : List Line = line.Fault 0 1 1 2 ∷ [] in
    let adopted : List Line = line.Adopted 0 2 (funding 1 500) ∷ [] in
    Run small_house (house_at two_entries [] 0) (first ∷ second ∷ third ∷ [])
    (house_at two_entries (funding 1 500 ∷ []) 1 ∷ house_at two_entries (funding 1 500 ∷ []) 2 ∷ house_at three_entries [] 2 ∷ [])
    × AnsweredTurns small_house two_entries 0 [] (own_turn first told ∷ own_turn second failed ∷ own_turn third adopted ∷ []) ((told ++ failed) ++ adopted)
    × (failures_of (first ∷ second ∷ third ∷ []) ≡ record { before = 0; after = 1 } ∷ record { before = 1; after = 2 } ∷ [])
    × (replies (answered_in small_house (first ∷ second ∷ third ∷ [])) ≡ 50 ∷ 0 ∷ 1 ∷ 50 ∷ 1 ∷ 2 ∷ 1 ∷ 2 ∷ 500 ∷ [])
