-- What each refusal claims of the entries and of the request, and what it shows, code by code. What a code does not show is zeros.
use Rattle.std.specs.Prelude.{◌≡◌, ◌≢◌, ◌⊎◌, ℕ, ◌+◌, ◌<◌, ◌≤◌, ◌++◌, List, length, codes, Some, Result, Ok, Err, IsNone}
use Rattle.nb_units.specs.declared.frames.TheConstants.{ORDER_REQUEST, STATUS_REQUEST, TICKET_REQUEST, ENROL_REQUEST, FUND_REQUEST}
use Rattle.nb_units.specs.declared.ids.PartyId.{PartyId}
use Rattle.nb_seal.specs.Hmac.{hmac_of}
use Rattle.nb_seal.specs.Seal.{OpensAs, IsNoSeal, iv_shown}
use Rattle.nb_entry.specs.declared.entry.Entry.{Entry}
use Rattle.nb_entry.specs.declared.entry.TheConstants.{CONSUMER, MERCHANT}
use Rattle.nb_book.specs.declared.funded.Funded.{Funded}
use Rattle.nb_book.specs.declared.kept.Kept.{Kept}
use Rattle.nb_book.specs.declared.limits.TheConstants.{MAX_TOTAL}
use Rattle.nb_book.specs.declared.party.Party.{Party}
use Rattle.nb_book.specs.Money.{total}
use Rattle.nb_book.specs.Searches.{party_in, holder_in, funded_in, order_in, role_of}
use Rattle.nb_epo.specs.declared.order.Order.{Order}
use Rattle.nb_epo.specs.Reading.{order_of, hidden_of}
use Rattle.nb_epo.specs.Tags.{order_tag}
use Rattle.nb_endorse.specs.declared.endorsement.Endorsement.{Endorsement}
use Rattle.nb_endorse.specs.declared.refusal.Refusal.{Refusal}
use Rattle.nb_endorse.specs.declared.refusal.TheConstants.{MALFORMED, IN_BODY, IN_ENDORSEMENT, IN_ORDER, IN_HIDDEN, NOT_ENROLLED, NOT_SEALED, OTHER_MERCHANT, WRONG_TAG, IDENTIFIER_USED, PARTY_HELD, REFERENCE_HELD, ACCOUNT_NOT_HELD, TOTAL_TOO_HIGH, JOURNAL_FULL, TOO_FEW_ENTRIES, NOT_SERVED}
use Rattle.nb_endorse.specs.Reading.{endorsement_of}
use Rattle.nb_endorse.specs.Refusals.{refusal, refusal_with}
use Rattle.nb_ticket.specs.declared.ask.TicketAsk.{TicketAsk}
use Rattle.nb_ticket.specs.Keys.{ask_tag}
use Rattle.nb_ticket.specs.Reading.{ask_of}
use Rattle.nb_body.specs.declared.enrolment.Enrolment.{Enrolment}
use Rattle.nb_body.specs.declared.funding.Funding.{Funding}
use Rattle.nb_escrow.specs.declared.head.Head.{Head}
use Rattle.nb_body.specs.declared.endorsed.EndorsedOrder.{EndorsedOrder}
use Rattle.nb_escrow.specs.declared.order.Presented.{Presented}
use Rattle.nb_body.specs.declared.query.StatusQuery.{StatusQuery}
use Rattle.nb_body.specs.Reading.{endorsed_of, query_of, enrolment_of, funding_of}
use Rattle.nb_escrow.specs.Checks.{signed_part}
use Rattle.nb_escrow.specs.Grants.{IsAuthenticAsk}
use Rattle.nb_escrow.specs.Payable.{IsAsked, IsEndorsed, IsOrdered, IsSignedOrder, IsAuthenticOrder, digest_held}

-- ---- what several kinds claim

-- 10: the bytes are read so, and the first field that fails is at the place that is shown, in this part
abbrev pub IsMalformed : {A : Type 0} → ℕ → Result A ℕ → Refusal → Type 0
IsMalformed part read r = (place : ℕ) × (read ≡ Err place) × (r ≡ refusal MALFORMED place part)

-- 11: the party that is shown is not enrolled in this role
abbrev pub IsNotInRole : List Entry → ℕ → PartyId → Refusal → Type 0
IsNotInRole H role id r = (role_of H id ≢ Some role) × (r ≡ refusal NOT_ENROLLED id.0 0)

-- 12: the bytes are the seal of no text under this key and label; their iv is shown
abbrev pub IsNotSealed : List ℕ → List ℕ → List ℕ → Refusal → Type 0
IsNotSealed key label bytes r = IsNoSeal key label bytes × (r ≡ refusal_with NOT_SEALED (iv_shown bytes))

-- 10 behind a seal: the text in it fails at the place that is shown
abbrev pub IsSealedBadly : {A : Type 0} → ℕ → (List ℕ → Result A ℕ) → List ℕ → List ℕ → List ℕ → Refusal → Type 0
IsSealedBadly part reading key label bytes r = (place : ℕ) × OpensAs reading key label bytes (Err place) × (r ≡ refusal MALFORMED place part)

-- 14: the tag given, which is shown, is not the one that is right
abbrev pub IsOtherTag : List ℕ → List ℕ → Refusal → Type 0
IsOtherTag given right r = (given ≢ right) × (r ≡ refusal_with WRONG_TAG given)

-- 20: as many entries are held as the journal may hold, which is shown
abbrev pub IsFull : List Entry → ℕ → Refusal → Type 0
IsFull H cap r = (cap ≤ length H) × (r ≡ refusal JOURNAL_FULL cap 0)

-- ---- an endorsed order

-- 13: the order's merchant differs from the one that endorses it, or else its identifier's does: both are shown
abbrev pub NamesOther : EndorsedOrder → Order → Refusal → Type 0
NamesOther request order r =
    ((order.merchant ≢ request.merchant) × (r ≡ refusal OTHER_MERCHANT request.merchant.0 order.merchant.0))
    ⊎ ((order.merchant ≡ request.merchant) × (order.epoid.merchant ≢ request.merchant) × (r ≡ refusal OTHER_MERCHANT request.merchant.0 order.epoid.merchant.0))

-- 15: an entry settles the identifier, and its digest, which is shown, is that of another endorsement
abbrev pub IsUsed : List Entry → Presented → Refusal → Type 0
IsUsed H p r = (kept : Kept) × (used : List ℕ) × (order_in H p.order.epoid ≡ Some kept) × (digest_held kept.entry ≡ Some used) × (used ≢ p.digest) × (r ≡ refusal_with IDENTIFIER_USED used)

-- its body fails; a merchant asks that is none; its endorsement is no seal, or fails
abbrev pub IsTrueOfRequest : List Entry → List ℕ → Refusal → Type 0
IsTrueOfRequest H body r =
    IsMalformed IN_BODY (endorsed_of body) r
    ⊎ ((request : EndorsedOrder) × (endorsed_of body ≡ Ok request) × IsNotInRole H MERCHANT request.merchant r)
    ⊎ ((request : EndorsedOrder) × (merchant : Party) × IsAsked H body request merchant
    × (IsNotSealed merchant.key (codes "endo") request.sealed r ⊎ IsSealedBadly IN_ENDORSEMENT endorsement_of merchant.key (codes "endo") request.sealed r))

-- what is endorsed is no order; its consumer is none; it names another merchant; its tag is another
abbrev pub IsTrueOfOrder : List Entry → List ℕ → Refusal → Type 0
IsTrueOfOrder H body r =
    ((request : EndorsedOrder) × (merchant : Party) × (endorsement : Endorsement) × IsEndorsed H body request merchant endorsement × IsMalformed IN_ORDER (order_of endorsement.order) r)
    ⊎ ((request : EndorsedOrder) × (merchant : Party) × (endorsement : Endorsement) × (order : Order) × IsOrdered H body request merchant endorsement order
    × (IsNotInRole H CONSUMER order.consumer r
    ⊎ NamesOther request order r
    ⊎ ((consumer : Party) × (party_in H order.consumer ≡ Some consumer) × IsOtherTag order.tag (order_tag consumer.key order) r)))

-- its hidden part is no seal, or fails
abbrev pub IsTrueOfHidden : List Entry → List ℕ → Refusal → Type 0
IsTrueOfHidden H body r =
    (request : EndorsedOrder) × (merchant : Party) × (endorsement : Endorsement) × (order : Order) × (consumer : Party) × IsSignedOrder H body request merchant endorsement order consumer
    × (IsNotSealed consumer.key (codes "hide") order.hidden r ⊎ IsSealedBadly IN_HIDDEN hidden_of consumer.key (codes "hide") order.hidden r)

-- it is authentic, and its identifier is used, or it is new and there is no room
abbrev pub IsTrueOfPresented : List Entry → ℕ → List ℕ → Refusal → Type 0
IsTrueOfPresented H cap body r = (p : Presented) × IsAuthenticOrder H body p × (IsUsed H p r ⊎ (IsNone (order_in H p.order.epoid) × IsFull H cap r))

-- ---- the other kinds

-- 40: fewer entries are held than were asked for; both numbers are shown
abbrev pub AreTooFew : List Entry → StatusQuery → Refusal → Type 0
AreTooFew H asked r = (length H < asked.least) × (r ≡ refusal TOO_FEW_ENTRIES (length H) asked.least)

-- a status query: its body fails; who asks, which is shown, is not enrolled; the tag is another; too few entries are held
abbrev pub IsTrueOfQuery : List Entry → List ℕ → Refusal → Type 0
IsTrueOfQuery H body r =
    IsMalformed IN_BODY (query_of body) r
    ⊎ ((asked : StatusQuery) × (query_of body ≡ Ok asked) × (IsNone (party_in H asked.asker)) × (r ≡ refusal NOT_ENROLLED asked.asker.0 0))
    ⊎ ((asked : StatusQuery) × (asker : Party) × (query_of body ≡ Ok asked) × (party_in H asked.asker ≡ Some asker)
    × (IsOtherTag asked.tag (hmac_of asker.key (codes "stat" ++ signed_part body)) r ⊎ AreTooFew H asked r))

-- a request for a ticket: its body fails; a consumer asks that is none; the tag is another; it is authentic, and the merchant is none
abbrev pub IsTrueOfTicketAsk : List Entry → List ℕ → Refusal → Type 0
IsTrueOfTicketAsk H body r =
    IsMalformed IN_BODY (ask_of body) r
    ⊎ ((asked : TicketAsk) × (ask_of body ≡ Ok asked) × IsNotInRole H CONSUMER asked.consumer r)
    ⊎ ((asked : TicketAsk) × (consumer : Party) × (ask_of body ≡ Ok asked) × (party_in H asked.consumer ≡ Some consumer) × (consumer.role ≡ CONSUMER)
    × IsOtherTag asked.tag (ask_tag consumer.key asked.consumer asked.merchant asked.nonce) r)
    ⊎ ((asked : TicketAsk) × (consumer : Party) × IsAuthenticAsk H body asked consumer × IsNotInRole H MERCHANT asked.merchant r)

-- 16: the party of the number is shown with its account, or else the holder of the account with that; or nobody holds either, and
-- one of the two is 0
abbrev pub IsHeld : List Entry → Enrolment → Refusal → Type 0
IsHeld H asked r =
    ((party : Party) × (party_in H asked.id ≡ Some party) × (r ≡ refusal PARTY_HELD asked.id.0 party.acct.0))
    ⊎ ((holder : PartyId) × IsNone (party_in H asked.id) × (holder_in H asked.acct ≡ Some holder) × (r ≡ refusal PARTY_HELD holder.0 asked.acct.0))
    ⊎ (IsNone (party_in H asked.id) × IsNone (holder_in H asked.acct) × ((asked.id.0 ≡ 0) ⊎ (asked.acct.0 ≡ 0)) × (r ≡ refusal PARTY_HELD 0 0))

-- an enrolment: its body fails; the tag is another; a number is held; the journal is full
abbrev pub IsTrueOfEnrolment : List Entry → Head → ℕ → List ℕ → Refusal → Type 0
IsTrueOfEnrolment H head cap body r =
    IsMalformed IN_BODY (enrolment_of body) r
    ⊎ ((asked : Enrolment) × (enrolment_of body ≡ Ok asked)
    × (IsOtherTag asked.tag (hmac_of head.operator (codes "enro" ++ signed_part body)) r ⊎ IsHeld H asked r ⊎ IsFull H cap r))

-- 17: a fund holds the reference with another account or amount, which are shown
abbrev pub IsFundedOtherwise : List Entry → Funding → Refusal → Type 0
IsFundedOtherwise H asked r =
    (kept : Funded) × (funded_in H asked.reference ≡ Some kept) × ((kept.acct.0 ≢ asked.acct.0) ⊎ (kept.amount ≢ asked.amount)) × (r ≡ refusal REFERENCE_HELD kept.acct.0 kept.amount)

-- 18: nobody holds the account that is shown
abbrev pub HasNoHolder : List Entry → Funding → Refusal → Type 0
HasNoHolder H asked r = IsNone (holder_in H asked.acct) × (r ≡ refusal ACCOUNT_NOT_HELD asked.acct.0 0)

-- 19: what the house took in, which is shown, and the amount, which is too, come to more than 10^18
abbrev pub IsTooMuch : List Entry → Funding → Refusal → Type 0
IsTooMuch H asked r = (MAX_TOTAL < total H + asked.amount) × (r ≡ refusal TOTAL_TOO_HIGH (total H) asked.amount)

-- a funding: its body fails; the tag is another; the reference is held; the account is not; the total is too high; the journal is full
abbrev pub IsTrueOfFunding : List Entry → Head → ℕ → List ℕ → Refusal → Type 0
IsTrueOfFunding H head cap body r =
    IsMalformed IN_BODY (funding_of body) r
    ⊎ ((asked : Funding) × (funding_of body ≡ Ok asked)
    × (IsOtherTag asked.tag (hmac_of head.operator (codes "fund" ++ signed_part body)) r
    ⊎ IsFundedOtherwise H asked r ⊎ HasNoHolder H asked r ⊎ IsTooMuch H asked r ⊎ IsFull H cap r))

-- 53: the kind, which is shown, is none of the five
abbrev pub IsNotServed : ℕ → Refusal → Type 0
IsNotServed kind r = (kind ≢ ORDER_REQUEST) × (kind ≢ STATUS_REQUEST) × (kind ≢ TICKET_REQUEST) × (kind ≢ ENROL_REQUEST) × (kind ≢ FUND_REQUEST) × (r ≡ refusal NOT_SERVED kind 0)

-- what a refusal of a request of this kind claims is true of the entries and of the body, and what it shows is that of which it speaks
abbrev pub IsTrueRefusal : List Entry → Head → ℕ → ℕ → List ℕ → Refusal → Type 0
IsTrueRefusal H head cap kind body r =
    ((kind ≡ ORDER_REQUEST) × (IsTrueOfRequest H body r ⊎ IsTrueOfOrder H body r ⊎ IsTrueOfHidden H body r ⊎ IsTrueOfPresented H cap body r))
    ⊎ ((kind ≡ STATUS_REQUEST) × IsTrueOfQuery H body r)
    ⊎ ((kind ≡ TICKET_REQUEST) × IsTrueOfTicketAsk H body r)
    ⊎ ((kind ≡ ENROL_REQUEST) × IsTrueOfEnrolment H head cap body r)
    ⊎ ((kind ≡ FUND_REQUEST) × IsTrueOfFunding H head cap body r)
    ⊎ IsNotServed kind r
