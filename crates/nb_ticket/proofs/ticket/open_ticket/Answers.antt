use Rattle.std.proofs.Common.{◌≡◌, Result, Ok, Err, ap, ◌∙◌}
use Rattle.nb_seal.specs.Seal.{Opens}
use Rattle.std.specs.Prelude.{codes}
use Rattle.nb_ticket.specs.declared.ticket.Ticket.{Ticket}
use Rattle.nb_ticket.specs.declared.ticket.TicketFault.{TicketFault}
use Rattle.nb_ticket.specs.Spelling.{IsTicket, ticket_bytes}
use Rattle.nb_ticket.specs.Opening.{admitted}
use Rattle.nb_ticket.proofs.Layouts.{ticket_read, if_same}
use Rattle.nb_ticket.proofs.ticket.open_ticket.Goals as goal

pub returns-in-Ok-clause-spelled : goal.returns-in-Ok-clause-spelled
returns-in-Ok-clause-spelled c =
    if_same (λ t. IsTicket t × Opens c.args.key.now (codes "tick") c.args.bytes.now (ticket_bytes t)) c.in-Ok.ticket c.in-Ok.ensures.spelled c.admit.result c.admit.ensures.same

pub returns-in-Ok-clause-found : goal.returns-in-Ok-clause-found
returns-in-Ok-clause-found c = λ t is opens.
    let same : c.in-Ok.ticket ≡ t = one c.in-Ok.ticket t (ticket_read c.args.key.now c.args.bytes.now t (Ok c.in-Ok.ticket) is opens c.in-Ok.ensures.opens) in
    c.admit.ensures.admits ∙ ap (λ (x : Ticket). admitted x c.args.asked c.args.now) same
  where
    one : (a b : Ticket) → let x : Result Ticket TicketFault = Ok a in x ≡ Ok b → a ≡ b
    one a b e = cc

pub returns-in-Err-clause-found : goal.returns-in-Err-clause-found
returns-in-Err-clause-found c = λ t is opens. absurd (never t (ticket_read c.args.key.now c.args.bytes.now t (Err c.in-Err.fault) is opens c.in-Err.ensures.opens))
  where
    never : (t : Ticket) → Err c.in-Err.fault ≡ Ok t → ⊥
    never t e = cc
