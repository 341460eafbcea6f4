use Rattle.std.proofs.Common.{Option, ap, ◌∙◌}
use Rattle.std.specs.Option.{option_and_then}
use Rattle.nb_book.specs.declared.party.Party.{Party}
use Rattle.nb_escrow.specs.Enrolments.{party_place}
use Rattle.nb_escrow.proofs.Holding.{enrol_place}
use Rattle.nb_escrow.proofs.enrolment.enrolled_at.Goals as goal

pub returns-in-Some : goal.returns-in-Some
returns-in-Some c =
    c.place_of.ensures ∙ ap (λ (o : Option Party). option_and_then (party_place c.args.asked.now) o) c.in-Some.ensures.found ∙ enrol_place _ c.in-Some.ensures.legal c.args.asked.now

pub returns-in-None : goal.returns-in-None
returns-in-None c =
    ap (λ (o : Option Party). option_and_then (party_place c.args.asked.now) o) c.in-None.ensures.found ∙ enrol_place _ c.in-None.ensures.legal c.args.asked.now
