-- What reading the request of a purchase comes to.
use Rattle.std.specs.Prelude.{◌≡◌, ◌⊎◌, ℕ, ◌≤◌, List, length, Option, Some, Result, Ok, Err}
use Rattle.nb_units.specs.declared.ids.PartyId.{PartyId}
use Rattle.nb_units.specs.declared.ids.Price.{Price}
use Rattle.nb_body.specs.declared.limits.TheConstants.{MAX_REQUEST}
use Rattle.nb_port.specs.Faults.{Rose}
use Rattle.nb_commands.specs.declared.ending.Ending.{Ending}
use Rattle.nb_commands.specs.declared.ending.Job.TheVariants.{Serve, Buy, Sell}
use Rattle.nb_commands.specs.declared.ending.Outcome.{Outcome}
use Rattle.nb_commands.specs.declared.ending.Outcome.TheVariants.{Done, Work}
use Rattle.nb_commands.specs.declared.ending.TheConstants.{SOURCE_FAILED, BAD_INPUT, OUT_OF_MEMORY}
use Rattle.nb_commands.specs.declared.asking.RequestEnd.{RequestEnd}
use Rattle.nb_commands.specs.declared.asking.RequestEnd.TheVariants as ends
use Rattle.nb_commands.specs.Ending.{at_no_place}
use Rattle.nb_commands.specs.Input.{TookAll, TookMore, TookUpTo}

-- how it ends the program: a request that is too long is shown at the limit
abbrev pub request_ending : RequestEnd → Ending
request_ending ends.ReadFault = at_no_place SOURCE_FAILED
request_ending ends.TooLong = record { status = BAD_INPUT; place = MAX_REQUEST }
request_ending ends.NoMemory = at_no_place OUT_OF_MEMORY

-- by cases on what was read, for what was left of the input and the counts of faults of the source: the request is the whole input
abbrev pub RequestIs : Option (List ℕ) → Option (List ℕ) → ℕ → ℕ → Result (List ℕ) RequestEnd → Type 0
RequestIs left left' source source' (Ok request) = TookAll left left' MAX_REQUEST request
RequestIs left left' source source' (Err ends.ReadFault) = Rose source source' × TookUpTo left left' MAX_REQUEST
RequestIs left left' source source' (Err ends.TooLong) = TookMore left left' MAX_REQUEST
RequestIs left left' source source' (Err ends.NoMemory) = TookUpTo left left' MAX_REQUEST

-- the purchase that is left to do, or how the run ends
abbrev pub asked : PartyId → ℕ → Price → ℕ → Result (List ℕ) RequestEnd → Outcome
asked merchant product limit transaction (Ok request) = Work (Buy merchant product limit transaction request)
asked merchant product limit transaction (Err end) = Done (request_ending end)

-- the request was read, or it was not, and the run comes to that
abbrev pub AsksAs : Option (List ℕ) → Option (List ℕ) → ℕ → ℕ → PartyId → ℕ → Price → ℕ → Outcome → Type 0
AsksAs left left' source source' merchant product limit transaction outcome =
    (read : Result (List ℕ) RequestEnd) × (outcome ≡ asked merchant product limit transaction read) × RequestIs left left' source source' read

-- the input is a request, and nothing else
abbrev pub IsRequestInput : Option (List ℕ) → List ℕ → Type 0
IsRequestInput left request = (left ≡ Some request) × (length request ≤ MAX_REQUEST)

-- a run that ends here ends so, and one whose work is left to do is to buy
abbrev pub AsksOnly : Option (List ℕ) → Option (List ℕ) → ℕ → ℕ → PartyId → ℕ → Price → ℕ → Outcome → Type 0
AsksOnly left left' source source' merchant product limit transaction (Done ending) =
    ((ending.status ≡ SOURCE_FAILED) × Rose source source') ⊎ (ending.status ≡ BAD_INPUT) ⊎ (ending.status ≡ OUT_OF_MEMORY)
AsksOnly left left' source source' merchant product limit transaction (Work (Serve workers sessions)) = ⊥
AsksOnly left left' source source' merchant product limit transaction (Work (Buy m p l t request)) =
    (m ≡ merchant) × (p ≡ product) × (l ≡ limit) × (t ≡ transaction) × TookAll left left' MAX_REQUEST request
AsksOnly left left' source source' merchant product limit transaction (Work (Sell links shelf offers)) = ⊥
