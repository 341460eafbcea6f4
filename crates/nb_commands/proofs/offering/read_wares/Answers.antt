use Rattle.std.proofs.Common.{inl, ℕ, List, sym, subst}
use Rattle.nb_groups.specs.declared.fault.OffersFault.{OffersFault}
use Rattle.nb_groups.specs.declared.fault.OffersFault.TheVariants.{BadLine}
use Rattle.nb_groups.specs.Reads.{FaultIs, IsEmptyLine}
use Rattle.nb_commands.specs.Offering.{HasBadLine}
use Rattle.nb_commands.proofs.offering.read_wares.Goals as goal

pub returns-in-Err-BadLine-clause-reads : goal.returns-in-Err-BadLine-clause-reads
returns-in-Err-BadLine-clause-reads g c =
    let e = c.in-Err-BadLine in
    let input = c.in-All.input.items in
    let bad : FaultIs IsEmptyLine input (BadLine e.line) = subst (λ (x : List ℕ × OffersFault). FaultIs IsEmptyLine x.0 x.1) (λ i. (c.as_slice.ensures.value i, e.field-0-is i)) e.ensures in
    subst (HasBadLine (g.S.Source.left c.args.source.now) (g.S.Source.left c.read_most.new.source)) (sym e.line-is) (record { input = input; all = c.in-All.ensures.gives; bad = inl bad })
