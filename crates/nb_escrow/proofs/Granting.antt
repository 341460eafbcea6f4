-- A ticket is granted exactly where it may be, and what is granted is opened by both parties.
use Rattle.std.proofs.Common.{◌≡◌, inl, inr, ℕ, List, Ok, Err, arith, sym, ap, subst, ◌∙◌}
use Rattle.nb_units.specs.declared.frames.TheConstants.{TICKET_REQUEST}
use Rattle.nb_seal.proofs.Opening.{length-hmac_of}
use Rattle.nb_entry.specs.declared.entry.Entry.{Entry}
use Rattle.nb_entry.specs.declared.entry.TheConstants.{CONSUMER, MERCHANT}
use Rattle.nb_book.specs.declared.party.Party.{Party}
use Rattle.nb_endorse.specs.declared.refusal.TheConstants.{IN_BODY}
use Rattle.nb_ticket.specs.declared.ask.TicketAsk.{TicketAsk}
use Rattle.nb_ticket.specs.declared.ticket.Ticket.{Ticket}
use Rattle.nb_ticket.specs.Keys.{ask_tag, session_key_of, last_second}
use Rattle.nb_ticket.specs.Reading.{ask_of}
use Rattle.nb_ticket.specs.Spelling.{IsAsk, IsTicket}
use Rattle.nb_ticket.proofs.Layouts.{ask_spells_back, grant_carries_ticket}
use Rattle.nb_escrow.specs.declared.decision.Decision.{Decision}
use Rattle.nb_escrow.specs.declared.head.Head.{Head}
use Rattle.nb_escrow.specs.Checks.{well_formed, enrolled_as, right_tag}
use Rattle.nb_escrow.specs.Grants.{MayGrant}
use Rattle.nb_escrow.specs.Laws.{IsGrant, GrantedExactlyWhere}
use Rattle.nb_escrow.specs.Replies.{GrantTellsTheRequest, OpensForBoth, GrantOpensForBoth}
use Rattle.nb_escrow.specs.Tickets.{ticket_granted, ticket_steps}
use Rattle.nb_escrow.specs.Verdict.{steps, told, verdict}
use Rattle.nb_escrow.proofs.Judging.{Answer, Comes, comes}
use Rattle.nb_escrow.proofs.Tests.{step, in_role, tag_so}

module _ (H : List Entry) (head : Head) (cap kind : ℕ) (body : List ℕ) (moment : ℕ) where
  -- the kind and the parties of a request that is granted
  abbrev Granted : Decision → Type 0
  Granted d = (kind ≡ TICKET_REQUEST) × ((asked : TicketAsk) × (buyer : Party) × (seller : Party) × MayGrant H body asked buyer seller × (d ≡ ticket_granted head buyer seller asked moment))

  no_grant : (d d' : Decision) → d ≡ d' → IsGrant d.reply → IsGrant d'.reply
  no_grant d d' same is = subst (λ (x : Decision). IsGrant x.reply) same is

  granted_for : (d : Decision) → Comes H head cap kind body moment (Ok d) → IsGrant d.reply → Granted d
  granted_for d (inl (is, (p, authentic, inl (s, held, same, d_is)))) it = absurd (no_grant d _ d_is it)
  granted_for d (inl (is, (p, authentic, inr (new, room, d_is)))) it = absurd (no_grant d _ d_is it)
  granted_for d (inr (inl (is, (asked, authentic, least, d_is)))) it = absurd (no_grant d _ d_is it)
  granted_for d (inr (inr (inl (is, granted)))) it = (is, granted)
  granted_for d (inr (inr (inr (inl (is, (asked, spelled, right, inl (at, place, d_is))))))) it = absurd (no_grant d _ d_is it)
  granted_for d (inr (inr (inr (inl (is, (asked, spelled, right, inr (next, room, d_is))))))) it = absurd (no_grant d _ d_is it)
  granted_for d (inr (inr (inr (inr (is, (asked, spelled, right, inl (at, place, d_is))))))) it = absurd (no_grant d _ d_is it)
  granted_for d (inr (inr (inr (inr (is, (asked, spelled, right, inr (next, room, d_is))))))) it = absurd (no_grant d _ d_is it)

  -- a verdict that grants is the decision on a request that may be granted
  granted_so : IsGrant (verdict H head cap kind body moment).reply → Granted (verdict H head cap kind body moment)
  granted_so is = part (steps H head cap kind body moment) (comes H head cap kind body moment) is
    where
      part : (r : Answer) → Comes H head cap kind body moment r → IsGrant (told r).reply → Granted (told r)
      part (Ok d) it is = granted_for d it is
      part (Err why) it is = absurd is

  -- a request that may be granted passes all tests
  passes : (asked : TicketAsk) (buyer seller : Party) → MayGrant H body asked buyer seller → ticket_steps H head body moment ≡ Ok (ticket_granted head buyer seller asked moment)
  unfolding ticket_steps
  passes asked buyer seller may =
      let authentic = may.authentic in
      step (well_formed IN_BODY (ask_of body)) _ asked (ap (well_formed IN_BODY) authentic.spelled)
      ∙ step (enrolled_as H CONSUMER asked.consumer) _ buyer (in_role H CONSUMER asked.consumer buyer authentic.enrolled authentic.buys)
      ∙ step (right_tag asked.tag (ask_tag buyer.key asked.consumer asked.merchant asked.nonce)) _ tt (tag_so asked.tag _ authentic.signed)
      ∙ step (enrolled_as H MERCHANT asked.merchant) _ seller (in_role H MERCHANT asked.merchant seller may.enrolled may.sells)

  grants_so : (kind ≡ TICKET_REQUEST) × ((asked : TicketAsk) × (buyer : Party) × (seller : Party) × MayGrant H body asked buyer seller) → IsGrant (verdict H head cap kind body moment).reply
  grants_so (is, (asked, buyer, seller, may)) =
      let same : verdict H head cap kind body moment ≡ ticket_granted head buyer seller asked moment =
      ap told (ap (λ (k : ℕ). steps H head cap k body moment) is ∙ passes asked buyer seller may) in
      subst (λ (d : Decision). IsGrant d.reply) (sym same) tt

pub granted_exactly_where : GrantedExactlyWhere
granted_exactly_where H head cap kind body moment = (
  λ is. let so = granted_so H head cap kind body moment is in (so.0, (so.1.0, so.1.1, so.1.2, so.1.3)),
  grants_so H head cap kind body moment,
)

pub grant_tells_the_request : GrantTellsTheRequest
grant_tells_the_request H head cap kind body moment is =
    let so = granted_so H head cap kind body moment is in
    (so.1.0, so.1.1, so.1.2, so.1.3, ap (λ (d : Decision). d.reply) so.1.4, ap (λ (d : Decision). d.entry) so.1.4)

-- the ticket of a request that is spelled in bytes is within its limits
ticket_fits : (house : List ℕ) (asked : TicketAsk) (moment : ℕ) → IsAsk asked
    → IsTicket (record { consumer = asked.consumer; merchant = asked.merchant; until = last_second moment; session = session_key_of house asked.consumer asked.merchant asked.nonce moment })
ticket_fits house asked moment is =
    record { consumer = is.consumer; merchant = is.merchant; until = omega arith; session = length-hmac_of house _ }

pub grant_opens_for_both : GrantOpensForBoth
grant_opens_for_both H head cap kind body moment are = part (steps H head cap kind body moment) (comes H head cap kind body moment)
  where
    Opens : Decision → Type 0
    Opens d = OpensForBoth H d.keys d.reply

    opens : (d : Decision) → Comes H head cap kind body moment (Ok d) → Opens d
    opens d (inl (is, (p, authentic, inl (s, held, same, d_is)))) = subst Opens (sym d_is) tt
    opens d (inl (is, (p, authentic, inr (new, room, d_is)))) = subst Opens (sym d_is) tt
    opens d (inr (inl (is, (asked, authentic, least, d_is)))) = subst Opens (sym d_is) tt
    opens d (inr (inr (inl (is, (asked, buyer, seller, may, d_is))))) =
        let small : IsAsk asked = (ask_spells_back body asked are may.authentic.spelled).0 in
        let ticket : Ticket = record {
          consumer = asked.consumer;
          merchant = asked.merchant;
          until = last_second moment;
          session = session_key_of head.house asked.consumer asked.merchant asked.nonce moment;
        } in
        subst Opens (sym d_is)
        (buyer, seller, may.authentic.enrolled, may.enrolled, grant_carries_ticket buyer.key seller.key ticket asked.nonce (ticket_fits head.house asked moment small) small.nonce)
    opens d (inr (inr (inr (inl (is, (asked, spelled, right, inl (at, place, d_is))))))) = subst Opens (sym d_is) tt
    opens d (inr (inr (inr (inl (is, (asked, spelled, right, inr (next, room, d_is))))))) = subst Opens (sym d_is) tt
    opens d (inr (inr (inr (inr (is, (asked, spelled, right, inl (at, place, d_is))))))) = subst Opens (sym d_is) tt
    opens d (inr (inr (inr (inr (is, (asked, spelled, right, inr (next, room, d_is))))))) = subst Opens (sym d_is) tt

    part : (r : Answer) → Comes H head cap kind body moment r → Opens (told r)
    part (Ok d) it = opens d it
    part (Err why) it = tt
