use Rattle.std.proofs.Common.{sym, ap, ◌∙◌}
use Rattle.std.specs.List.{slice_get}
use Rattle.nb_packets.proofs.Phases.{phase_there, phase_not_there}
use Rattle.nb_packets.proofs.calls.come_to.Goals as goal

pub returns-in-Some-clause-calls : goal.returns-in-Some-clause-calls
returns-in-Some-clause-calls c =
    phase_there c.args.phase c.args.calls.now.items c.args.number c.in-Some.call (ap (λ cs. slice_get cs c.args.number) (sym c.as_slice.ensures.value) ∙ sym c.call_at.ensures ∙ c.in-Some.is)

pub returns-in-None-clause-calls : goal.returns-in-None-clause-calls
returns-in-None-clause-calls c =
    phase_not_there c.args.phase c.args.calls.now.items c.args.number (ap (λ cs. slice_get cs c.args.number) (sym c.as_slice.ensures.value) ∙ sym c.call_at.ensures ∙ c.in-None.is)
