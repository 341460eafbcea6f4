-- One request more of a turn.
use Rattle.std.proofs.Common.{◌≡◌, ℕ, ◌+◌, ◌<◌, ◌≤◌, List, [], ◌∷◌, ◌++◌, length, take, drop, get_or, sym, ap, ◌∙◌, append_assoc, arith}
use Rattle.std.specs.List.{filter_map}
use Rattle.std.specs.Option.{option_to_list}
use Rattle.std.proofs.lemmas.List.{append-nil, length-map, length-take, map-append, take_more}
use Rattle.std.proofs.lemmas.List.Elements.{filter_map-append}
use Rattle.std.proofs.lemmas.Grind.{flat_map-append}
use Rattle.nb_entry.specs.declared.entry.Entry.{Entry}
use Rattle.nb_turns.specs.declared.mark.Mark.{Mark}
use Rattle.nb_turns.specs.Turns.{Request, House, Answered, Decides, answer_over, decided, marks, place_of, places, recorded, replies}
use Rattle.nb_turns.proofs.Single.{one_more}
use Rattle.nb_turns.proofs.Telling.{each_is_answered}
use Rattle.nb_msgs.specs.ReplyBytes.{joined}
use Rattle.nb_port.specs.Tells.{DiskTells}
use Rattle.nb_vault.specs.declared.answer.AnswerAll.{AnswerAll}
use Rattle.nb_vault.specs.declared.answer.AnswerAll.TheVariants as all
use Rattle.nb_vault.specs.declared.answer.AskAt.{AskAt}
use Rattle.nb_vault.specs.Asking.{request_at, request_of, requests_of}
use Rattle.nb_vault.specs.Parts.{handed_in}
use Rattle.nb_vault.specs.Vaults.{Chronicled, TurnOf, house_in}

-- ---- the requests

pub one_request : (bytes : List ℕ) (asks : List AskAt) (i : ℕ) (d : AskAt) → i < length asks → requests_of bytes (take (i + 1) asks) ≡ requests_of bytes (take i asks) ++ request_at bytes (get_or asks i d) ∷ []
one_request bytes asks i d inside =
    ap (requests_of bytes) (take_more asks i d inside) ∙ map-append (λ (ask : AskAt). request_at bytes ask) (take i asks) (get_or asks i d ∷ [])

pub request_count : (bytes : List ℕ) (asks : List AskAt) (i : ℕ) → length (requests_of bytes (take i asks)) ≤ i
request_count bytes asks i = omega (arith, length-map (take i asks) (λ (ask : AskAt). request_at bytes ask), length-take i asks)

-- ---- what comes of them

module _ (house : House) (over : List Entry) (requests : List Request) where
  pub few_recorded : length (recorded house over requests) ≤ length requests
  few_recorded = (one_more house over requests (record { kind = 0; body = []; moment = 0 })).2

  pub place_count : length (places (decided house over requests)) ≡ length requests
  place_count = (each_is_answered house requests (Decides over)).1

  module _ (request : Request) where
    pub record_one : (now : List Entry) → now ≡ over ++ recorded house over requests → recorded house over (requests ++ request ∷ []) ≡ recorded house over requests ++ option_to_list (house.rules now request).entry
    record_one now is = (one_more house over requests request).1 ∙ ap (λ (es : List Entry). recorded house over requests ++ option_to_list (house.rules es request).entry) (sym is)

    pub place_one : (now : List Entry) → now ≡ over ++ recorded house over requests → places (decided house over (requests ++ request ∷ [])) ≡ places (decided house over requests) ++ length now ∷ []
    place_one now is =
        ap places (one_more house over requests request).0
        ∙ ap (λ (ms : List Mark). filter_map place_of ms) (map-append (λ (a : Answered). a.mark) (decided house over requests) (answer_over house (over ++ recorded house over requests) request ∷ []))
        ∙ filter_map-append place_of (marks (decided house over requests)) (marks (answer_over house (over ++ recorded house over requests) request ∷ []))
        ∙ ap (λ (es : List Entry). places (decided house over requests) ++ length es ∷ []) (sym is)

    pub reply_one : (now : List Entry) → now ≡ over ++ recorded house over requests → replies (decided house over (requests ++ request ∷ [])) ≡ replies (decided house over requests) ++ (house.rules now request).reply
    reply_one now is =
        ap replies (one_more house over requests request).0
        ∙ flat_map-append (λ (a : Answered). a.reply) (decided house over requests) (answer_over house (over ++ recorded house over requests) request ∷ [])
        ∙ ap (λ (xs : List ℕ). replies (decided house over requests) ++ xs) (append-nil (house.rules (over ++ recorded house over requests) request).reply)
        ∙ ap (λ (es : List Entry). replies (decided house over requests) ++ (house.rules es request).reply) (sym is)

-- ---- lists

-- more of both goes on
pub goes_on : {A : Type 0} (new old front so now more : List A) → new ≡ old ++ more → old ≡ front ++ so → now ≡ so ++ more → new ≡ front ++ now
goes_on new old front so now more step was is = step ∙ ap (λ (xs : List _). xs ++ more) was ∙ append_assoc front so more ∙ ap (λ (xs : List _). front ++ xs) (sym is)

pub comes_to : {A : Type 0} (new old so now more : List A) → new ≡ old ++ more → old ≡ so → now ≡ so ++ more → new ≡ now
comes_to new old so now more step was is = step ∙ ap (λ (xs : List _). xs ++ more) was ∙ sym is

-- one frame more
pub joined_one : (new old : List (List ℕ)) (bytes : List ℕ) → new ≡ old ++ bytes ∷ [] → joined new ≡ joined old ++ bytes
joined_one new old bytes is =
    ap joined is ∙ flat_map-append (λ (b : List ℕ). b) old (bytes ∷ []) ∙ ap (λ (xs : List ℕ). joined old ++ xs) (append-nil bytes)

-- the body of a request is cut out of the bytes
pub asked : (bytes : List ℕ) (ask : AskAt) (body back : List ℕ) → body ≡ take ask.len back → back ≡ drop ask.start bytes → request_of ask.kind body ask.moment ≡ request_at bytes ask
asked bytes ask body back front rest = ap (λ (b : List ℕ). request_of ask.kind b ask.moment) (front ∙ ap (take ask.len) rest)

-- there is a place for each request, where places are handed out
pub places_fit : {D : Type 0} (tells : DiskTells D) (old new : Chronicled D) (by : ℕ) (bytes : List ℕ) (asks : List AskAt) (found out out' : List ℕ) (answer : AnswerAll)
    → TurnOf tells old new by (requests_of bytes asks) (handed_in found answer) out out' answer → length (handed_in found answer) ≤ length asks
places_fit tells old new by bytes asks found out out' all.Answered turn =
    omega (arith, ap length turn.1.found_is, place_count (house_in old) turn.0 (requests_of bytes asks), length-map asks (λ (ask : AskAt). request_at bytes ask))
places_fit tells old new by bytes asks found out out' (all.DiskFault before after) turn = omega arith
places_fit tells old new by bytes asks found out out' (all.Worn faults) turn = omega arith
