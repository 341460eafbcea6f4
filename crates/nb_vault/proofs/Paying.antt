-- An order that is payable is paid.
use Rattle.std.proofs.Common.{◌≡◌, ℕ, ◌<◌, List, [], ◌∷◌, ◌++◌, Some, refl, sym, ap, subst, ◌∙◌, append_assoc, arith}
use Rattle.std.specs.Option.{option_to_list}
use Rattle.std.proofs.lemmas.List.{append-nil}
use Rattle.std.proofs.lemmas.Grind.{flat_map-append}
use Rattle.nb_port.specs.Tells.{DiskTells}
use Rattle.nb_port.specs.Faults.{Rose}
use Rattle.nb_units.specs.declared.frames.TheConstants.{ORDER_REQUEST}
use Rattle.nb_entry.specs.declared.entry.Entry.{Entry}
use Rattle.nb_escrow.specs.declared.order.Presented.{Presented}
use Rattle.nb_escrow.specs.Head.{head_of}
use Rattle.nb_escrow.specs.Payable.{IsPayable, TellsPayment, payment_of}
use Rattle.nb_escrow.specs.Verdict.{verdict}
use Rattle.nb_escrow.proofs.Exactly.{paid_exactly_where, payable_is_told}
use Rattle.nb_turns.specs.declared.limits.TheConstants.{MAX_FAULTS}
use Rattle.nb_turns.specs.Lines.{faults_of}
use Rattle.nb_turns.specs.Turns.{Request, House, State, Answered, Decides, decided, recorded, replies, with_entry}
use Rattle.nb_vault.specs.declared.answer.AnswerAll.{AnswerAll}
use Rattle.nb_vault.specs.declared.answer.AnswerAll.TheVariants as answers
use Rattle.nb_vault.specs.Vaults.{Chronicled, Went, house_in, TurnOf, FaultWithin}
use Rattle.nb_vault.specs.Paying.{IsPaidOver, IsDecidedSo}

-- what requests record is what the first of them record, and what the others do over that
recorded_then : (house : House) (over : List Entry) (before rest : List Request) → recorded house over (before ++ rest) ≡ recorded house over before ++ recorded house (over ++ recorded house over before) rest
recorded_then house over [] rest = ap (λ (es : List Entry). recorded house es rest) (sym (append-nil over))
recorded_then house over (r ∷ before) rest =
    let one : List Entry = option_to_list (house.rules over r).entry in
    ap (λ (es : List Entry). one ++ es) (recorded_then house (with_entry house over r) before rest)
    ∙ sym (append_assoc one (recorded house (with_entry house over r) before) (recorded house (with_entry house over r ++ recorded house (with_entry house over r) before) rest))
    ∙ ap (λ (es : List Entry). (one ++ recorded house (with_entry house over r) before) ++ recorded house es rest) (append_assoc over one (recorded house (with_entry house over r) before))

decided_then : (house : House) (over : List Entry) (before rest : List Request) → decided house over (before ++ rest) ≡ decided house over before ++ decided house (over ++ recorded house over before) rest
decided_then house over [] rest = ap (λ (es : List Entry). decided house es rest) (sym (append-nil over))
decided_then house over (r ∷ before) rest =
    let one : List Entry = option_to_list (house.rules over r).entry in
    ap (λ (more : List Answered). decided house over (r ∷ []) ++ more)
    (decided_then house (with_entry house over r) before rest
    ∙ ap (λ (es : List Entry). decided house (with_entry house over r) before ++ decided house es rest) (append_assoc over one (recorded house (with_entry house over r) before)))

replies_then : (house : House) (over : List Entry) (before rest : List Request) → replies (decided house over (before ++ rest)) ≡ replies (decided house over before) ++ replies (decided house (over ++ recorded house over before) rest)
replies_then house over before rest =
    ap replies (decided_then house over before rest) ∙ flat_map-append (λ (a : Answered). a.reply) (decided house over before) (decided house (over ++ recorded house over before) rest)

module _ {D : Type 0} (tells : DiskTells D) (old new : Chronicled D) (by : ℕ) (before behind : List Request) (request : Request) (p : Presented) (found out out' : List ℕ) (first : List Entry)
    (went : Went tells old new by (before ++ request ∷ behind) (Decides first) found out out') (order : request.kind ≡ ORDER_REQUEST) where
  paid_over : IsPayable (first ++ recorded (house_in old) first before) old.origin.cap request.body request.moment p → IsPaidOver old new before request p out out' first (first ++ recorded (house_in old) first before)
  paid_over is =
      let house = house_in old in
      let head = head_of old.origin.charter in
      let here : List Entry = first ++ recorded house first before in
      let paid = paid_exactly_where here head old.origin.cap request.kind request.body request.moment (payment_of head p request.moment) in
      let entry : (house.rules here request).entry ≡ Some (payment_of head p request.moment) = (paid.1 (order, (p, is, refl))).0 in
      let more : List Entry = recorded house (with_entry house here request) behind in
      record {
        later = more;
        recorded = ap (λ (s : State). s.entries) went.turn.2
            ∙ ap (λ (es : List Entry). first ++ es) (recorded_then house first before (request ∷ behind) ∙ ap (λ e. recorded house first before ++ (option_to_list e ++ more)) entry)
            ∙ sym (append_assoc first (recorded house first before) (payment_of head p request.moment ∷ more));
        rest = replies (decided house (with_entry house here request) behind);
        replied = went.out_is ∙ ap (λ (bytes : List ℕ). out ++ bytes) (replies_then house first before (request ∷ behind));
        told = subst (λ (kind : ℕ). TellsPayment p (verdict here head old.origin.cap kind request.body request.moment).reply) (sym order) (payable_is_told here head old.origin.cap request.body request.moment p is);
      }

pub payable_is_paid : {D : Type 0} (tells : DiskTells D) (old new : Chronicled D) (by : ℕ) (before behind : List Request) (request : Request) (p : Presented) (found out out' : List ℕ) (answer : AnswerAll)
    → TurnOf tells old new by (before ++ request ∷ behind) found out out' answer → FaultWithin tells old new answer
    → faults_of old.lines < MAX_FAULTS → (Rose (tells.faults old.disk) (tells.faults new.disk) → ⊥)
    → request.kind ≡ ORDER_REQUEST → IsDecidedSo tells old new before request p out out'
payable_is_paid tells old new by before behind request p found out out' answers.Answered turn within few calm order = record {
  first = turn.0;
  settled = turn.1.turn.1;
  stood = turn.1.disk.told;
  paid = paid_over tells old new by before behind request p found out out' turn.0 turn.1 order;
}
payable_is_paid tells old new by before behind request p found out out' (answers.DiskFault from to) turn within few calm order =
    absurd (calm (omega (arith, within.0, within.2, within.3)))
payable_is_paid tells old new by before behind request p found out out' (answers.Worn faults) turn within few calm order = absurd (omega (arith, few, turn.1.turn.0))
