use Rattle.std.proofs.Common.{◌≡◌, arith}
use Rattle.nb_endorse.specs.Spelling.{IsEndorsement, endorsement_bytes}
use Rattle.nb_endorse.specs.Reading.{endorsement_of}
use Rattle.nb_units.proofs.Rows.{if_read}
use Rattle.nb_endorse.proofs.Layouts.{endorsement_spells_back}
use Rattle.nb_endorse.proofs.endorsement.EndorsementParts.read.Goals as goal

pub returns-clause-spelled : goal.returns-clause-spelled
returns-clause-spelled c =
    if_read c.fields.result (endorsement_of c.args.bytes.now) (λ e. IsEndorsement e × (c.args.bytes.now ≡ endorsement_bytes e)) c.fields.ensures.reads (λ e is. endorsement_spells_back c.args.bytes.now e (λ i. omega (arith, c.type_inv.bytes i)) is)
