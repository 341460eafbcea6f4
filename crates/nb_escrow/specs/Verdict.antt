-- The verdict on a request over a list of entries: one reply, and at most one entry that is recorded.
use Rattle.std.specs.Prelude.{ℕ, ◌==◌, List, None, Result, Ok, Err, if◌then◌else◌}
use Rattle.nb_units.specs.declared.frames.TheConstants.{ORDER_REQUEST, STATUS_REQUEST, TICKET_REQUEST, ENROL_REQUEST, FUND_REQUEST}
use Rattle.nb_entry.specs.declared.entry.Entry.{Entry}
use Rattle.nb_endorse.specs.declared.refusal.Refusal.{Refusal}
use Rattle.nb_endorse.specs.declared.refusal.TheConstants.{NOT_SERVED}
use Rattle.nb_endorse.specs.declared.reply.Reply.TheVariants.{Refused}
use Rattle.nb_endorse.specs.Keys.{no_keys}
use Rattle.nb_endorse.specs.Refusals.{refusal}
use Rattle.nb_escrow.specs.declared.head.Head.{Head}
use Rattle.nb_escrow.specs.declared.decision.Decision.{Decision}
use Rattle.nb_escrow.specs.Orders.{order_steps}
use Rattle.nb_escrow.specs.Statuses.{status_steps}
use Rattle.nb_escrow.specs.Tickets.{ticket_steps}
use Rattle.nb_escrow.specs.Enrolments.{enrol_steps}
use Rattle.nb_escrow.specs.Fundings.{fund_steps}

-- the tests of each kind
abbrev pub steps : List Entry → Head → ℕ → ℕ → List ℕ → ℕ → Result Decision Refusal
steps H head cap kind body moment =
    if kind == ORDER_REQUEST then order_steps H head cap body moment
    else if kind == STATUS_REQUEST then status_steps H head body
    else if kind == TICKET_REQUEST then ticket_steps H head body moment
    else if kind == ENROL_REQUEST then enrol_steps H head cap body
    else if kind == FUND_REQUEST then fund_steps H head cap body
    else Err (refusal NOT_SERVED kind 0)

-- a refusal records nothing
abbrev pub told : Result Decision Refusal → Decision
told (Ok decision) = decision
told (Err r) = record { reply = Refused r; keys = no_keys; entry = None }

-- over the entries H, under a head and a cap, on a frame of a kind with a body that came at a moment
abbrev pub verdict : List Entry → Head → ℕ → ℕ → List ℕ → ℕ → Decision
verdict H head cap kind body moment = told (steps H head cap kind body moment)
