use Rattle.std.proofs.Common.{IsTrue, true≢false, sym, ap, subst, Some, List, ℕ}
use Rattle.nb_commands.proofs.Moving.{opened_ends, refused_is}
use Rattle.nb_commands.specs.Migrate.{IsRefused}
use Rattle.nb_commands.proofs.migrate.gate_in.Goals as goal

pub returns-then-not-begins_first : goal.returns-then-not-begins_first
returns-then-not-begins_first c = λ begins. true≢false (sym (subst IsTrue c.if-not-begins_first.true (c.begins_first.ensures.1 begins)))

pub returns-in-Ok : goal.returns-in-Ok
returns-in-Ok c =
    opened_ends _ _ _ c.args.image.now c.end.result (c.begins_first.ensures.0 c.if-not-begins_first.false) (ap (λ (bytes : List ℕ). Some bytes) c.over.ensures.bytes) c.in-Ok.ensures.nothing.same c.in-Ok.ensures.gives c.end.ensures

pub returns-in-Err : goal.returns-in-Err
returns-in-Err c =
    subst (IsRefused c.args.image.now) (sym c.refused.ensures)
    (refused_is c.args.image.now c.in-Err.fault c.in-Err.ensures.nothing (c.begins_first.ensures.0 c.if-not-begins_first.false) (ap (λ (bytes : List ℕ). Some bytes) c.over.ensures.bytes) c.in-Err.ensures.gives)
