use Rattle.std.proofs.Common.{[], ◌∷◌, ◌++◌, append_assoc, ◌∙◌}
use Rattle.nb_units.specs.Fields.{be8}
use Rattle.nb_endorse.specs.declared.receipt.TheConstants.{PRESENT}
use Rattle.nb_endorse.proofs.receipt.write_shown.Goals as goal

pub returns-in-Some-clause-value : goal.returns-in-Some-clause-value
returns-in-Some-clause-value c =
    let old = c.args.bytes.now in
    rw (c.in-Some.is, c.u64-in-Some.ensures, c.u64.ensures, c.u8.ensures)
    (append_assoc (old ++ PRESENT ∷ []) (be8 c.in-Some.a) (be8 c.in-Some.b) ∙ append_assoc old (PRESENT ∷ []) (be8 c.in-Some.a ++ be8 c.in-Some.b))
