use Rattle.std.proofs.Common.{◌≡◌, arith}
use Rattle.nb_epo.specs.Spelling.{IsHidden, hidden_bytes}
use Rattle.nb_epo.specs.Reading.{hidden_of}
use Rattle.nb_units.proofs.Rows.{if_read}
use Rattle.nb_epo.proofs.Layouts.{hidden_spells_back}
use Rattle.nb_epo.proofs.hidden.read_hidden.Goals as goal

pub returns-clause-spelled : goal.returns-clause-spelled
returns-clause-spelled c =
    if_read c.read_fields.result (hidden_of c.args.bytes.now) (λ h. IsHidden h × (c.args.bytes.now ≡ hidden_bytes h)) c.read_fields.ensures (λ h e. hidden_spells_back c.args.bytes.now h (λ i. omega (arith, c.type_inv.bytes i)) e)
