-- A status query is given a key exactly where an entry pays the order with it.
use Rattle.std.proofs.Common.{codes, ◌≡◌, ◌↔◌, ◌⊎◌, inl, inr, ℕ, zero, suc, ◌+◌, ◌≤◌, Bool, true, false, cond, List, [], ◌∷◌, ◌++◌, length, Option, None, Some, Result, Ok, Err, arith, refl, sym, ap, subst, ◌∙◌, eq-eqb}
use Rattle.std.proofs.lemmas.Bool.{eqb-true, le-leb}
use Rattle.std.proofs.lemmas.List.Sums.{sum_by-cons}
use Rattle.std.proofs.lemmas.Option.{same_Some, none-some}
use Rattle.std.proofs.lemmas.Slice.Eq.{bytes_eq-Decides}
use Rattle.std.specs.Prelude.{◌==◌}
use Rattle.std.specs.List.{Any, count_by}
use Rattle.std.specs.Option.{option_or, option_and_then}
use Rattle.nb_units.specs.declared.frames.TheConstants.{STATUS_REQUEST}
use Rattle.nb_units.specs.declared.ids.AcctId.{AcctId}
use Rattle.nb_units.specs.declared.ids.PartyId.{PartyId}
use Rattle.nb_units.specs.declared.ids.Price.{Price}
use Rattle.nb_units.specs.declared.epoid.Epoid.{Epoid}
use Rattle.nb_entry.specs.declared.entry.Entry.{Entry}
use Rattle.nb_entry.specs.declared.entry.Entry.TheVariants.{Enrol, Fund, Paid, Charged, Refused}
use Rattle.nb_entry.specs.declared.entry.TheConstants.{CONSUMER, MERCHANT}
use Rattle.nb_book.specs.declared.kept.Kept.{Kept}
use Rattle.nb_book.specs.Legal.{Legal}
use Rattle.nb_book.specs.Searches.{first_from, same_epoid, settles, order_at, order_in}
use Rattle.nb_book.proofs.Counting.{same_epoid-true, settled_once}
use Rattle.nb_endorse.specs.declared.receipt.Receipt.{Receipt}
use Rattle.nb_endorse.specs.declared.refusal.Refusal.{Refusal}
use Rattle.nb_endorse.specs.declared.reply.Reply.TheVariants.{Status, Refused as Refused_with}
use Rattle.nb_seal.specs.Hmac.{hmac_of}
use Rattle.nb_escrow.specs.declared.decision.Decision.{Decision}
use Rattle.nb_escrow.specs.declared.head.Head.{Head}
use Rattle.nb_escrow.specs.declared.settlement.PaymentOutcome.TheVariants as outcome
use Rattle.nb_escrow.specs.declared.settlement.Settlement.{Settlement}
use Rattle.nb_body.specs.declared.query.StatusQuery.{StatusQuery}
use Rattle.nb_escrow.specs.Checks.{signed_part, enrolled, right_tag}
use Rattle.nb_escrow.specs.Settlements.{settlement, settlement_at, settlement_of, settlement_in, receipt_in_role, receipt_of_party}
use Rattle.nb_escrow.specs.Statuses.{enough_entries, status_told, status_steps}
use Rattle.nb_escrow.specs.Verdict.{steps, told}
use Rattle.nb_escrow.specs.Laws.{PaysWith, GivesKey, IsAuthentic, KeyWherePaid, StatusTellsKey}
use Rattle.nb_escrow.proofs.Settling.{settles_found}

-- ---- one entry of a list

one_later : (P : Entry → Type 0) (x : Entry) (es : List Entry) → Any P es → Any P (x ∷ es)
one_later P x es any = (suc any.0, any.1, omega (arith, any.2), any.3, any.4)

here_or_later : (P : Entry → Type 0) (x : Entry) (es : List Entry) → Any P (x ∷ es) → P x ⊎ Any P es
here_or_later P x es (zero, y, within, is, holds) = inl (subst P (sym is) holds)
here_or_later P x es (suc k, y, within, is, holds) = inr (k, y, omega (arith, within), is, holds)

abbrev one_if : Bool → ℕ
one_if b = cond b 1 0

apart : false ≡ true → ⊥
apart e = cc

-- how a payment and a refusal settled their orders
abbrev paid_at : ℕ → List ℕ → Epoid → PartyId → PartyId → ℕ → Price → AcctId → AcctId → ℕ → List ℕ → Option ℕ → Settlement
paid_at at digest epoid consumer merchant product price cacct macct moment key fee =
    settlement at digest epoid consumer merchant product price moment (outcome.Paid cacct macct key fee)

abbrev refused_at : ℕ → List ℕ → Epoid → PartyId → PartyId → ℕ → Price → ℕ → ℕ → ℕ → ℕ → Settlement
refused_at at digest epoid consumer merchant product price code a b moment =
    settlement at digest epoid consumer merchant product price moment (outcome.Refused (record { code = code; a = a; b = b }))

-- ---- the entry that settles an order

module _ (p : Epoid) (id : PartyId) (key : List ℕ) where
  abbrev Pays : Entry → Type 0
  Pays e = PaysWith p id key e

  same_identifier : (q : Epoid) → same_epoid q q ≡ true
  same_identifier q = rw (eq-eqb q.merchant.0 q.merchant.0 refl, eq-eqb q.moment q.moment refl) (eq-eqb q.serial q.serial refl)

  -- an entry that pays an order settles it
  pays-settles : (e : Entry) → Pays e → settles p e ≡ true
  pays-settles (Enrol who role acct nonce k) is = absurd is
  pays-settles (Fund acct amount reference) is = absurd is
  pays-settles (Paid digest epoid consumer merchant product price cacct macct moment k) is = rw is.0 (same_identifier p)
  pays-settles (Charged digest epoid consumer merchant product price fee cacct macct moment k) is = rw is.0 (same_identifier p)
  pays-settles (Refused digest epoid consumer merchant product price code a b moment) is = absurd is

  counted : (es : List Entry) → Any Pays es → 1 ≤ count_by (settles p) es
  counted [] any = absurd (omega (arith, any.2))
  counted (x ∷ es) any = part (settles p x) refl (here_or_later Pays x es any) (counted es)
    where
      part : (b : Bool) → settles p x ≡ b → Pays x ⊎ Any Pays es → (Any Pays es → 1 ≤ count_by (settles p) es) → 1 ≤ count_by (settles p) (x ∷ es)
      part true is either rest = omega (arith, sum_by-cons (λ y. cond (settles p y) 1 0) x es, ap one_if is)
      part false is (inl pays) rest = absurd (apart (sym is ∙ pays-settles x pays))
      part false is (inr any) rest = omega (arith, sum_by-cons (λ y. cond (settles p y) 1 0) x es, rest any)

  -- an entry that pays an order is found, where one entry at most settles it
  found_paid : (at : ℕ) (es : List Entry) → count_by (settles p) es ≤ 1 → Any Pays es → (kept : Kept) × (first_from (order_at p) at es ≡ Some kept) × Pays kept.entry
  found_paid at [] once any = absurd (omega (arith, any.2))
  found_paid at (x ∷ es) once any = part (settles p x) refl (here_or_later Pays x es any) (λ left more. found_paid (at + 1) es left more)
    where
      found_so : Bool → Option Kept
      found_so b = option_or (cond b (Some (record { at = at; entry = x })) None) (first_from (order_at p) (at + 1) es)

      part : (b : Bool) → settles p x ≡ b → Pays x ⊎ Any Pays es
          → (count_by (settles p) es ≤ 1 → Any Pays es → (kept : Kept) × (first_from (order_at p) (at + 1) es ≡ Some kept) × Pays kept.entry)
          → (kept : Kept) × (first_from (order_at p) at (x ∷ es) ≡ Some kept) × Pays kept.entry
      part true is (inl pays) rest = (record { at = at; entry = x }, ap found_so is, pays)
      part true is (inr any) rest =
          absurd (omega (arith, once, counted es any, sum_by-cons (λ y. cond (settles p y) 1 0) x es, ap one_if is))
      part false is (inl pays) rest = absurd (apart (sym is ∙ pays-settles x pays))
      part false is (inr any) rest =
          let found = rest (omega (arith, once, sum_by-cons (λ y. cond (settles p y) 1 0) x es)) any in
          (found.0, ap found_so is ∙ found.1, found.2)

  -- what was found is one of the entries
  found_one : (at : ℕ) (es : List Entry) (kept : Kept) → first_from (order_at p) at es ≡ Some kept → Pays kept.entry → Any Pays es
  found_one at [] kept found pays = absurd cc
  found_one at (x ∷ es) kept found pays = part (settles p x) found (λ rest. found_one (at + 1) es kept rest pays)
    where
      part : (b : Bool) → option_or (cond b (Some (record { at = at; entry = x })) None) (first_from (order_at p) (at + 1) es) ≡ Some kept
          → (first_from (order_at p) (at + 1) es ≡ Some kept → Any Pays es) → Any Pays (x ∷ es)
      part true found rest =
          let same : x ≡ kept.entry = ap (λ (k : Kept). k.entry) (same_Some (record { at = at; entry = x }) kept found) in
          (0, x, omega arith, refl, subst Pays (sym same) pays)
      part false found rest = one_later Pays x es (rest found)

  -- ---- its receipt

  abbrev Gives : Option Receipt → Type 0
  Gives (Some receipt) = receipt.key ≡ Some key
  Gives None = ⊥

  -- an order of this identifier was paid with this key, and names who asks
  abbrev Named : Epoid → List ℕ → PartyId → PartyId → Type 0
  Named epoid k consumer merchant = (epoid ≡ p) × (k ≡ key) × ((consumer ≡ id) ⊎ (merchant ≡ id))

  -- the receipt of a payment has its key
  receipt_gives : (at : ℕ) (digest : List ℕ) (epoid : Epoid) (consumer merchant : PartyId) (product : ℕ) (price : Price) (cacct macct : AcctId) (moment : ℕ) (k : List ℕ) (fee : Option ℕ)
      → Named epoid k consumer merchant → Gives (receipt_of_party id (Some (paid_at at digest epoid consumer merchant product price cacct macct moment k fee)))
  unfolding receipt_in_role
  receipt_gives at digest epoid consumer merchant product price cacct macct moment k fee pays = part (consumer.0 == id.0) (merchant.0 == id.0) refl refl pays.2
    where
      has_key : (let o : Option (List ℕ) = Some k in o) ≡ Some key
      has_key = ap (λ (x : List ℕ). let o : Option (List ℕ) = Some x in o) pays.1

      part : (b c : Bool) → (consumer.0 == id.0) ≡ b → (merchant.0 == id.0) ≡ c → (consumer ≡ id) ⊎ (merchant ≡ id)
          → Gives (cond b (Some (receipt_in_role CONSUMER (paid_at at digest epoid consumer merchant product price cacct macct moment k fee))) (cond c (Some (receipt_in_role MERCHANT (paid_at at digest epoid consumer merchant product price cacct macct moment k fee))) None))
      part true c buys sells named = has_key
      part false true buys sells named = has_key
      part false false buys sells (inl same) = absurd (apart (sym buys ∙ eq-eqb consumer.0 id.0 (ap (λ (x : PartyId). x.0) same)))
      part false false buys sells (inr same) = absurd (apart (sym sells ∙ eq-eqb merchant.0 id.0 (ap (λ (x : PartyId). x.0) same)))

  gives_paid : (at : ℕ) (e : Entry) → Pays e → Gives (receipt_of_party id (settlement_at at e))
  gives_paid at (Enrol who role acct nonce k) pays = absurd pays
  gives_paid at (Fund acct amount reference) pays = absurd pays
  gives_paid at (Paid digest epoid consumer merchant product price cacct macct moment k) pays =
      receipt_gives at digest epoid consumer merchant product price cacct macct moment k None pays
  gives_paid at (Charged digest epoid consumer merchant product price fee cacct macct moment k) pays =
      receipt_gives at digest epoid consumer merchant product price cacct macct moment k (Some fee) pays
  gives_paid at (Refused digest epoid consumer merchant product price code a b moment) pays = absurd pays

  -- and one that has this key names who asks
  receipt_given : (at : ℕ) (digest : List ℕ) (epoid : Epoid) (consumer merchant : PartyId) (product : ℕ) (price : Price) (cacct macct : AcctId) (moment : ℕ) (k : List ℕ) (fee : Option ℕ)
      → same_epoid epoid p ≡ true → Gives (receipt_of_party id (Some (paid_at at digest epoid consumer merchant product price cacct macct moment k fee))) → Named epoid k consumer merchant
  unfolding receipt_in_role
  receipt_given at digest epoid consumer merchant product price cacct macct moment k fee settled gives = part (consumer.0 == id.0) (merchant.0 == id.0) refl refl gives
    where
      part : (b c : Bool) → (consumer.0 == id.0) ≡ b → (merchant.0 == id.0) ≡ c
          → Gives (cond b (Some (receipt_in_role CONSUMER (paid_at at digest epoid consumer merchant product price cacct macct moment k fee))) (cond c (Some (receipt_in_role MERCHANT (paid_at at digest epoid consumer merchant product price cacct macct moment k fee))) None))
          → Named epoid k consumer merchant
      part true c buys sells gives = (same_epoid-true epoid p settled, same_Some k key gives, inl (ap (λ (n : ℕ). let x : PartyId = record { 0 = n } in x) (eqb-true consumer.0 id.0 buys)))
      part false true buys sells gives = (same_epoid-true epoid p settled, same_Some k key gives, inr (ap (λ (n : ℕ). let x : PartyId = record { 0 = n } in x) (eqb-true merchant.0 id.0 sells)))
      part false false buys sells gives = absurd gives

  -- a receipt with a key is that of a payment
  paid_gives : (at : ℕ) (e : Entry) → settles p e ≡ true → Gives (receipt_of_party id (settlement_at at e)) → Pays e
  unfolding receipt_in_role
  paid_gives at (Enrol who role acct nonce k) settled gives = absurd gives
  paid_gives at (Fund acct amount reference) settled gives = absurd gives
  paid_gives at (Paid digest epoid consumer merchant product price cacct macct moment k) settled gives =
      receipt_given at digest epoid consumer merchant product price cacct macct moment k None settled gives
  paid_gives at (Charged digest epoid consumer merchant product price fee cacct macct moment k) settled gives =
      receipt_given at digest epoid consumer merchant product price cacct macct moment k (Some fee) settled gives
  paid_gives at (Refused digest epoid consumer merchant product price code a b moment) settled gives = part (consumer.0 == id.0) (merchant.0 == id.0) gives
    where
      part : (c d : Bool) → Gives (cond c (Some (receipt_in_role CONSUMER (refused_at at digest epoid consumer merchant product price code a b moment))) (cond d (Some (receipt_in_role MERCHANT (refused_at at digest epoid consumer merchant product price code a b moment))) None)) → ⊥
      part true d gives = none-some key gives
      part false true gives = none-some key gives
      part false false gives = gives

  -- over a Legal list who asks is given a key exactly where an entry pays with it
  gives_where_paid : (H : List Entry) → Legal H → Gives (receipt_of_party id (settlement_in H p)) ↔ Any Pays H
  unfolding settlement_in
  gives_where_paid H legal = (forth (order_in H p) refl, back)
    where
      forth : (o : Option Kept) → order_in H p ≡ o → Gives (receipt_of_party id (option_and_then settlement_of o)) → Any Pays H
      forth None found gives = absurd gives
      forth (Some kept) found gives = found_one 0 H kept found (paid_gives kept.at kept.entry (settles_found p 0 H kept found) gives)

      back : Any Pays H → Gives (receipt_of_party id (option_and_then settlement_of (order_in H p)))
      back any =
          let found = found_paid 0 H (settled_once H legal p) any in
          rw found.1 (gives_paid found.0.at found.0.entry found.2)

-- ---- the verdict

-- an authentic query over enough entries passes all tests
pub passes : (H : List Entry) (head : Head) (body : List ℕ) (asked : StatusQuery) (is : IsAuthentic H body asked) → asked.least ≤ length H
    → status_steps H head body ≡ Ok (status_told H head is.asker asked)
unfolding status_steps enrolled right_tag enough_entries
passes H head body asked is enough =
    rw is.read (rw is.enrolled (rw ((bytes_eq-Decides asked.tag (hmac_of is.asker.key (codes "stat" ++ signed_part body))).1 is.signed) (rw (le-leb asked.least (length H) enough) refl)))

pub status_tells_key : StatusTellsKey
status_tells_key H legal head cap body moment asked key is enough =
    let tells = gives_where_paid asked.epoid asked.asker key H legal in
    subst (λ (r : Result Decision Refusal). GivesKey (told r).reply key ↔ Any (PaysWith asked.epoid asked.asker key) H) (sym (passes H head body asked is enough))
    (as_reply (receipt_of_party asked.asker (settlement_in H asked.epoid)) tells)
  where
    as_reply : (o : Option Receipt) → Gives asked.epoid asked.asker key o ↔ Any (PaysWith asked.epoid asked.asker key) H
        → GivesKey (Status (length H) asked.epoid o) key ↔ Any (PaysWith asked.epoid asked.asker key) H
    as_reply None tells = tells
    as_reply (Some receipt) tells = tells

-- the same of a decision that passed all tests
pub key_where_passed : (H : List Entry) → Legal H → (head : Head) (cap kind : ℕ) (body : List ℕ) (moment : ℕ) (d : Decision) → kind ≡ STATUS_REQUEST
    → Ok d ≡ steps H head cap kind body moment → KeyWherePaid H body d.reply
key_where_passed H legal head cap kind body moment d same is =
    let query : Ok d ≡ steps H head cap STATUS_REQUEST body moment = is ∙ ap (λ (k : ℕ). steps H head cap k body moment) same in
    subst (λ (r : Result Decision Refusal). KeyWherePaid H body (told r).reply) (sym query) (status_tells_key H legal head cap body moment)

-- a query that is refused is not authentic, or asks for more entries
pub key_where_refused : (H : List Entry) (head : Head) (cap kind : ℕ) (body : List ℕ) (moment : ℕ) (why : Refusal) → kind ≡ STATUS_REQUEST
    → Err why ≡ steps H head cap kind body moment → KeyWherePaid H body (Refused_with why)
key_where_refused H head cap kind body moment why same is asked key authentic enough =
    let query : Err why ≡ steps H head cap STATUS_REQUEST body moment = is ∙ ap (λ (k : ℕ). steps H head cap k body moment) same in
    absurd (not_both why (status_told H head authentic.asker asked) (query ∙ passes H head body asked authentic enough))
  where
    not_both : (why : Refusal) (d : Decision) → (let r : Result Decision Refusal = Err why in r) ≡ Ok d → ⊥
    not_both why d is = cc
