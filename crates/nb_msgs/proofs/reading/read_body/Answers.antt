use Rattle.std.proofs.Common.{◌≡◌, ap, ◌∙◌, sym, arith}
use Rattle.std.specs.Prelude.{ℕ}
use Rattle.nb_msgs.specs.Bodies.{IsMessage, MessageKeepsRules, kind_of, body_bytes}
use Rattle.nb_msgs.specs.Reading.{message_of}
use Rattle.nb_body.proofs.ReadBodies.{if_body, body_or_none}
use Rattle.nb_msgs.proofs.Messages.{message_spells_back, message_reads_back, keeps_rules}
use Rattle.nb_msgs.proofs.reading.read_body.Goals as goal

pub returns-clause-spelled : goal.returns-clause-spelled
returns-clause-spelled c =
    if_body c.read_kind.result (message_of c.args.kind c.args.body.now) (λ m. IsMessage m × (kind_of m ≡ c.args.kind) × (c.args.body.now ≡ body_bytes m)) c.read_kind.ensures
    (λ m e. message_spells_back c.args.kind c.args.body.now m (λ i. omega (arith, c.type_inv.body i)) e)

pub returns-clause-found : goal.returns-clause-found
returns-clause-found c = λ m is kind body.
    body_or_none c.read_kind.result (message_of c.args.kind c.args.body.now) m c.read_kind.ensures
    (ap (message_of c.args.kind) body ∙ ap (λ (k : ℕ). message_of k (body_bytes m)) (sym kind) ∙ message_reads_back m is)

pub returns-clause-lawful : goal.returns-clause-lawful
returns-clause-lawful c =
    if_body c.read_kind.result (message_of c.args.kind c.args.body.now) MessageKeepsRules c.read_kind.ensures
    (λ m e. keeps_rules m (message_spells_back c.args.kind c.args.body.now m (λ i. omega (arith, c.type_inv.body i)) e).0)
