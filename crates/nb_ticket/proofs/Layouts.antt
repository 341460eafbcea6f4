-- Requests, tickets and grants as rows of fields.
use Rattle.std.proofs.Common.{◌≡◌, ◌↔◌, ℕ, ◌+◌, ◌≤◌, Bool, true, false, cond, nat_lt, List, length, Ok, Err, Result, refl, sym, ap, subst, ◌∙◌, arith, eq-eqb, length-append}
use Rattle.std.proofs.lemmas.Bool.{eqb-true, ltb-false, le-ltb, true≢false}
use Rattle.std.specs.Prelude.{◌==◌, codes, IfOk}
use Rattle.nb_units.proofs.Rows.{Row, IsRow, ◌&◌, and_row, number4, number4_row, number8, number8_row, raw, raw_row, text, text_row, whole, whole_found, whole_reads, ok_is}
use Rattle.nb_seal.specs.Seal.{Opens}
use Rattle.nb_seal.proofs.Opening.{opens_once, length-seal_of}
use Rattle.nb_units.specs.declared.ids.PartyId.{PartyId}
use Rattle.nb_units.specs.Fields.{sized}
use Rattle.nb_ticket.specs.declared.ask.TicketAsk.{TicketAsk}
use Rattle.nb_ticket.specs.declared.ticket.Ticket.{Ticket}
use Rattle.nb_ticket.specs.declared.ticket.TheConstants.{TICKET_BYTES}
use Rattle.nb_ticket.specs.declared.ticket.TicketFault.{TicketFault}
use Rattle.nb_ticket.specs.declared.ticket.TicketFault.TheVariants as ticket
use Rattle.nb_ticket.specs.declared.granted.Granted.{Granted}
use Rattle.nb_ticket.specs.declared.granted.GrantFault.{GrantFault}
use Rattle.nb_ticket.specs.declared.granted.GrantFault.TheVariants as grant
use Rattle.nb_ticket.specs.Spelling.{IsAsk, unsigned_bytes, ask_bytes, IsTicket, ticket_bytes, IsGranted, granted_bytes}
use Rattle.nb_ticket.specs.Reading.{ask_of, ticket_of, granted_of}
use Rattle.nb_ticket.specs.Opening.{admitted, ReadsTicket, Admits, OpensTicket, OpensGrant}
use Rattle.nb_ticket.specs.Sealed.{sealed_grant, grant_with_ticket}
use Rattle.nb_ticket.specs.Laws.{AskReadsBack, AskSpellsBack, OneAsk, TicketReadsBack, TicketSpellsBack, OneTicket, GrantedReadsBack, GrantedSpellsBack, OneGranted, HoldsUntil, GrantCarriesTicket}

-- two numbers of 4 bytes, one of 8, and 32 bytes: so are a request and a ticket laid out
abbrev Parts : Type 0
Parts = ((ℕ × ℕ) × ℕ) × List ℕ

abbrev parts_row : Row Parts
parts_row = number4 & number4 & number8 & raw 32

is_parts_row : IsRow parts_row
is_parts_row = and_row (and_row (and_row number4_row number4_row) number8_row) (raw_row 32)

-- ---- requests

abbrev ask_made : Parts → TicketAsk
ask_made p = record { consumer = record { 0 = p.0.0.0 }; merchant = record { 0 = p.0.0.1 }; nonce = p.0.1; tag = p.1 }

ask_read_so : (bytes : List ℕ) → ask_of bytes ≡ whole parts_row TicketAsk bytes (λ p. Ok (ask_made p))
unfolding ask_of
ask_read_so bytes = refl

ask_spelled_so : (p : Parts) → parts_row.spelled p ≡ ask_bytes (ask_made p)
unfolding unsigned_bytes
ask_spelled_so p = refl

pub ask_spells_back : AskSpellsBack
ask_spells_back bytes t are e =
    let w = whole_found parts_row is_parts_row TicketAsk bytes (λ p. Ok (ask_made p)) t are (sym (ask_read_so bytes) ∙ e) in
    subst (λ (x : TicketAsk). IsAsk x × (bytes ≡ ask_bytes x)) (ok_is (ask_made w.0) t w.3)
    (record { consumer = w.1.0.0.0; merchant = w.1.0.0.1; nonce = w.1.0.1; tag = w.1.1 }, w.2 ∙ ask_spelled_so w.0)

pub ask_reads_back : AskReadsBack
ask_reads_back t is =
    let p : Parts = (((t.consumer.0, t.merchant.0), t.nonce), t.tag) in
    ask_read_so (ask_bytes t) ∙ whole_reads parts_row is_parts_row TicketAsk (ask_bytes t) (λ q. Ok (ask_made q)) p (((is.consumer, is.merchant), is.nonce), is.tag) (sym (ask_spelled_so p))

pub one_ask : OneAsk
one_ask a b first second same = ok_is a b (sym (ask_reads_back a first) ∙ ap ask_of same ∙ ask_reads_back b second)

-- ---- tickets

abbrev ticket_made : Parts → Ticket
ticket_made p = record { consumer = record { 0 = p.0.0.0 }; merchant = record { 0 = p.0.0.1 }; until = p.0.1; session = p.1 }

ticket_read_so : (bytes : List ℕ) → ticket_of bytes ≡ whole parts_row Ticket bytes (λ p. Ok (ticket_made p))
unfolding ticket_of
ticket_read_so bytes = refl

ticket_spelled_so : (p : Parts) → parts_row.spelled p ≡ ticket_bytes (ticket_made p)
unfolding ticket_bytes
ticket_spelled_so p = refl

pub ticket_spells_back : TicketSpellsBack
ticket_spells_back bytes t are e =
    let w = whole_found parts_row is_parts_row Ticket bytes (λ p. Ok (ticket_made p)) t are (sym (ticket_read_so bytes) ∙ e) in
    subst (λ (x : Ticket). IsTicket x × (bytes ≡ ticket_bytes x)) (ok_is (ticket_made w.0) t w.3)
    (record { consumer = w.1.0.0.0; merchant = w.1.0.0.1; until = w.1.0.1; session = w.1.1 }, w.2 ∙ ticket_spelled_so w.0)

pub ticket_reads_back : TicketReadsBack
ticket_reads_back t is =
    let p : Parts = (((t.consumer.0, t.merchant.0), t.until), t.session) in
    ticket_read_so (ticket_bytes t)
    ∙ whole_reads parts_row is_parts_row Ticket (ticket_bytes t) (λ q. Ok (ticket_made q)) p (((is.consumer, is.merchant), is.until), is.session) (sym (ticket_spelled_so p))

pub one_ticket : OneTicket
one_ticket a b first second same = ok_is a b (sym (ticket_reads_back a first) ∙ ap ticket_of same ∙ ticket_reads_back b second)

-- ---- grants

abbrev GrantedParts : Type 0
GrantedParts = (((ℕ × ℕ) × ℕ) × List ℕ) × List ℕ

abbrev granted_row : Row GrantedParts
granted_row = number4 & number8 & number8 & raw 32 & text TICKET_BYTES

is_granted_row : IsRow granted_row
is_granted_row = and_row (and_row (and_row (and_row number4_row number8_row) number8_row) (raw_row 32)) (text_row TICKET_BYTES (omega arith))

abbrev granted_made : GrantedParts → Granted
granted_made p = record { merchant = record { 0 = p.0.0.0.0 }; nonce = p.0.0.0.1; until = p.0.0.1; session = p.0.1; ticket = p.1 }

granted_read_so : (bytes : List ℕ) → granted_of bytes ≡ whole granted_row Granted bytes (λ p. Ok (granted_made p))
unfolding granted_of
granted_read_so bytes = refl

granted_spelled_so : (p : GrantedParts) → granted_row.spelled p ≡ granted_bytes (granted_made p)
unfolding granted_bytes
granted_spelled_so p = refl

pub granted_spells_back : GrantedSpellsBack
granted_spells_back bytes g are e =
    let w = whole_found granted_row is_granted_row Granted bytes (λ p. Ok (granted_made p)) g are (sym (granted_read_so bytes) ∙ e) in
    subst (λ (x : Granted). IsGranted x × (bytes ≡ granted_bytes x)) (ok_is (granted_made w.0) g w.3)
    (record { merchant = w.1.0.0.0.0; nonce = w.1.0.0.0.1; until = w.1.0.0.1; session = w.1.0.1; ticket = w.1.1 }, w.2 ∙ granted_spelled_so w.0)

pub granted_reads_back : GrantedReadsBack
granted_reads_back g is =
    let p : GrantedParts = ((((g.merchant.0, g.nonce), g.until), g.session), g.ticket) in
    granted_read_so (granted_bytes g)
    ∙ whole_reads granted_row is_granted_row Granted (granted_bytes g) (λ q. Ok (granted_made q)) p ((((is.merchant, is.nonce), is.until), is.session), is.ticket) (sym (granted_spelled_so p))

pub one_granted : OneGranted
one_granted a b first second same = ok_is a b (sym (granted_reads_back a first) ∙ ap granted_of same ∙ granted_reads_back b second)

-- ---- what is opened

-- what is the seal of a grant is opened as that grant
pub grant_opened : (key bytes : List ℕ) (g : Granted) (r : Result Granted GrantFault) → IsGranted g → Opens key (codes "gran") bytes (granted_bytes g) → OpensGrant key bytes r → r ≡ Ok g
grant_opened key bytes g (Ok other) is opens (plain, o, e) =
    ap Ok (ok_is other g (sym e ∙ ap granted_of (opens_once key (codes "gran") bytes plain (granted_bytes g) o opens) ∙ granted_reads_back g is))
grant_opened key bytes g (Err (grant.BadSeal iv)) is opens r = absurd (r.0 (granted_bytes g) opens)
grant_opened key bytes g (Err (grant.Malformed place)) is opens (plain, o, e) =
    let x : granted_of plain ≡ Ok g = ap granted_of (opens_once key (codes "gran") bytes plain (granted_bytes g) o opens) ∙ granted_reads_back g is in
    absurd (cc (e, x))

-- what is the seal of a ticket is read as that ticket
pub ticket_read : (key bytes : List ℕ) (t : Ticket) (r : Result Ticket TicketFault) → IsTicket t → Opens key (codes "tick") bytes (ticket_bytes t) → ReadsTicket key bytes r → r ≡ Ok t
ticket_read key bytes t (Ok other) is opens (plain, o, e) =
    ap Ok (ok_is other t (sym e ∙ ap ticket_of (opens_once key (codes "tick") bytes plain (ticket_bytes t) o opens) ∙ ticket_reads_back t is))
ticket_read key bytes t (Err (ticket.BadSeal iv)) is opens r = absurd (r.0 (ticket_bytes t) opens)
ticket_read key bytes t (Err (ticket.Malformed place)) is opens (plain, o, e) =
    let x : ticket_of plain ≡ Ok t = ap ticket_of (opens_once key (codes "tick") bytes plain (ticket_bytes t) o opens) ∙ ticket_reads_back t is in
    absurd (cc (e, x))
ticket_read key bytes t (Err (ticket.WrongParty named asked)) is opens r = absurd r
ticket_read key bytes t (Err (ticket.Expired until now)) is opens r = absurd r

-- what comes of the ticket that is sealed there comes of this one
through : (key bytes : List ℕ) (t : Ticket) (asked : PartyId) (now : ℕ) (r : Result Ticket TicketFault) → IsTicket t → Opens key (codes "tick") bytes (ticket_bytes t)
    → Admits key bytes asked now r → r ≡ admitted t asked now
through key bytes t asked now r is opens it =
    it.is ∙ ap (λ (x : Ticket). admitted x asked now) (one it.ticket (ticket_read key bytes t (Ok it.ticket) is opens it.opens))
  where
    one : (a : Ticket) → (let x : Result Ticket TicketFault = Ok a in x) ≡ Ok t → a ≡ t
    one a e = cc

-- and, where it is for who asks at this moment, opened as that ticket
pub ticket_opened : (key bytes : List ℕ) (t : Ticket) (asked : PartyId) (now : ℕ) (r : Result Ticket TicketFault) → IsTicket t → Opens key (codes "tick") bytes (ticket_bytes t)
    → OpensTicket key bytes asked now r → r ≡ admitted t asked now
ticket_opened key bytes t asked now (Ok x) is opens it = through key bytes t asked now (Ok x) is opens it
ticket_opened key bytes t asked now (Err (ticket.BadSeal iv)) is opens it = absurd (it.0 (ticket_bytes t) opens)
ticket_opened key bytes t asked now (Err (ticket.Malformed place)) is opens it = absurd (never (ticket_read key bytes t (Err (ticket.Malformed place)) is opens it))
  where
    never : Err (ticket.Malformed place) ≡ Ok t → ⊥
    never e = cc
ticket_opened key bytes t asked now (Err (ticket.WrongParty named other)) is opens it = through key bytes t asked now (Err (ticket.WrongParty named other)) is opens it
ticket_opened key bytes t asked now (Err (ticket.Expired until then)) is opens it = through key bytes t asked now (Err (ticket.Expired until then)) is opens it

-- what comes of a ticket comes of each one that is the same
pub if_same : (P : Ticket → Type 0) (t : Ticket) → P t → (r : Result Ticket TicketFault) → IfOk r (λ x. x ≡ t) → IfOk r P
if_same P t holds (Ok x) same = subst P (sym same) holds
if_same P t holds (Err fault) same = tt

pub holds_until : HoldsUntil
holds_until t asked now = part (t.merchant.0 == asked.0) refl (nat_lt t.until now) refl
  where
    holds : (b c : Bool) → Result Ticket TicketFault
    holds b c = cond b (cond c (Err (ticket.Expired t.until now)) (Ok t)) (Err (ticket.WrongParty t.merchant asked))

    part : (b : Bool) → (t.merchant.0 == asked.0) ≡ b → (c : Bool) → nat_lt t.until now ≡ c → (holds b c ≡ Ok t) ↔ ((t.merchant.0 ≡ asked.0) × (now ≤ t.until))
    part true same true over =
        (λ e. absurd (never e), λ p. absurd (true≢false (sym over ∙ le-ltb t.until now p.1)))
      where
        never : Err (ticket.Expired t.until now) ≡ Ok t → ⊥
        never e = cc
    part true same false over = (λ e. (eqb-true t.merchant.0 asked.0 same, ltb-false t.until now over), λ p. refl)
    part false other c over = (λ e. absurd (never e), λ p. absurd (true≢false (sym (eq-eqb t.merchant.0 asked.0 p.0) ∙ other)))
      where
        never : Err (ticket.WrongParty t.merchant asked) ≡ Ok t → ⊥
        never e = cc

-- ---- what the house grants

length_ticket : (t : Ticket) → IsTicket t → length (ticket_bytes t) ≡ 48
unfolding ticket_bytes
length_ticket t is = omega (arith, is.session)

length_granted : (g : Granted) → IsGranted g → length (granted_bytes g) ≡ 56 + length g.ticket
unfolding granted_bytes
length_granted g is = omega (arith, is.session, length-append g.session (sized g.ticket))

pub grant_carries_ticket : GrantCarriesTicket
grant_carries_ticket consumer_key merchant_key t nonce is small =
    let g : Granted = grant_with_ticket merchant_key t nonce in
    let ticket_long : length g.ticket ≡ 80 = omega (arith, length-seal_of merchant_key (codes "tick") (ticket_bytes t), length_ticket t is) in
    let granted : IsGranted g = record { merchant = is.merchant; nonce = small; until = is.until; session = is.session; ticket = omega (arith, ticket_long) } in
    record {
      granted = g;
      long = omega (arith, length-seal_of consumer_key (codes "gran") (granted_bytes g), length_granted g granted, ticket_long);
      opens = λ r it. grant_opened consumer_key (sealed_grant consumer_key g) g r granted refl it;
      tells = (refl, refl, refl, refl);
      ticket = t;
      ticket_long = ticket_long;
      ticket_tells = (refl, refl, refl, refl);
      ticket_opens = λ asked now r it. holds asked now r (ticket_opened merchant_key g.ticket t asked now r is refl it);
    }
  where
    holds : (asked : PartyId) (now : ℕ) (r : Result Ticket TicketFault) → r ≡ admitted t asked now → (r ≡ Ok t) ↔ ((asked.0 ≡ t.merchant.0) × (now ≤ t.until))
    holds asked now r same =
        let until = holds_until t asked now in (
          λ e. let both = until.0 (sym same ∙ e) in (sym both.0, both.1),
          λ both. same ∙ until.1 (sym both.0, both.1),
        )
