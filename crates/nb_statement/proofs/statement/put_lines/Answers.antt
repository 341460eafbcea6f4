use Rattle.std.proofs.Common.{◌≡◌, ℕ, ◌+◌, ◌<◌, [], Result, Err, rules, length, sym, subst, ap, ◌∙◌, arith}
use Rattle.nb_vault.specs.Vaults.{doubt_in, entries_in}
use Rattle.nb_statement.specs.declared.fault.StatementFault.{StatementFault}
use Rattle.nb_statement.specs.Statement.{Puts, line, lines_behind}
use Rattle.nb_statement.proofs.Standing.{rose_behind}
use Rattle.nb_statement.proofs.Knowing.{stands_there}
use Rattle.nb_statement.proofs.Going.{Here, Same, first_part, fits, put_on, put_failed, number_next, balance_next, nothing_moved, same_stands}
use Rattle.nb_statement.proofs.statement.put_lines.Goals.{in-Some+in-Some-movement_of+in_ok-put, in-Some+in_default-movement_of, in_default}
use Rattle.nb_statement.proofs.statement.put_lines.Goals as goal

pub after-balance-requires-clause-fits : goal.after-balance-requires-clause-fits
after-balance-requires-clause-fits g c =
    (fits c.args.acct (entries_in c.args.vault.now) c.entries.at c.in-Some.entry c.in-Some-movement_of.movement c.entries.number c.entries.balance
    (record {
      legal = first_part (entries_in c.args.vault.now) (doubt_in c.args.vault.now) c.witness.ensures.keeps.legal.legal;
      there = sym c.in-Some.ensures;
      is = sym c.in-Some-movement_of.ensures;
      number = c.entries.invariant.number;
      behind = c.entries.invariant.balance;
    })).0

pub after-balance-requires-clause-held : goal.after-balance-requires-clause-held
after-balance-requires-clause-held g c =
    (fits c.args.acct (entries_in c.args.vault.now) c.entries.at c.in-Some.entry c.in-Some-movement_of.movement c.entries.number c.entries.balance
    (record {
      legal = first_part (entries_in c.args.vault.now) (doubt_in c.args.vault.now) c.witness.ensures.keeps.legal.legal;
      there = sym c.in-Some.ensures;
      is = sym c.in-Some-movement_of.ensures;
      number = c.entries.invariant.number;
      behind = c.entries.invariant.balance;
    })).1

pub returns-in_err-put-clause-stands : goal.returns-in_err-put-clause-stands
returns-in_err-put-clause-stands g c =
    let at : Here c.args.acct (entries_in c.args.vault.now) c.entries.at c.in-Some.entry c.in-Some-movement_of.movement c.entries.number c.entries.balance = record {
      legal = first_part (entries_in c.args.vault.now) (doubt_in c.args.vault.now) c.witness.ensures.keeps.legal.legal;
      there = sym c.in-Some.ensures;
      is = sym c.in-Some-movement_of.ensures;
      number = c.entries.invariant.number;
      behind = c.entries.invariant.balance;
    } in
    let failed = c.in_err-put.ensures.stands in
    let same : c.from_residual.result ≡ Err c.in_err-put.field-0.0 = search rules in
    subst (λ (r : Result ℕ StatementFault). Puts (g.K.Sink.faults c.args.sink.now) (g.K.Sink.faults c.put.new.sink) (g.K.Sink.sent c.args.sink.now) (g.K.Sink.sent c.put.new.sink)
    c.args.waits.now.items c.put.new.waits.items (lines_behind c.args.acct [] (entries_in c.args.vault.now)) r) (sym same) (
      failed.0,
      rose_behind (g.K.Sink.faults c.args.sink.now) (g.K.Sink.faults c.entries.sink) (g.K.Sink.faults c.put.new.sink) c.entries.invariant.count failed.1,
      put_failed c.args.acct (entries_in c.args.vault.now) c.entries.at c.in-Some.entry c.in-Some-movement_of.movement c.entries.number c.entries.balance
          (g.K.Sink.sent c.args.sink.now) (g.K.Sink.sent c.entries.sink) (g.K.Sink.sent c.put.new.sink) c.args.waits.now.items c.entries.waits.items c.as_slice.result.now at
          (c.as_slice.ensures.value ∙ c.line_of-line.ensures ∙ ap (λ (b : ℕ). line (c.entries.number + 1) c.in-Some-movement_of.movement b) c.after-balance.ensures)
          c.entries.invariant.stands failed.2,
    )

pub entries-preserved : goal.entries-preserved
entries-preserved g c =
    let within : c.entries.at < length (entries_in c.args.vault.now) = omega (arith, c.entries-test.true, c.entries-at-end.ensures.count) in
    elim c.match-entry.branch [
      | in-Some+in-Some-movement_of+in_ok-put w ↦
          let at : Here c.args.acct (entries_in c.args.vault.now) c.entries.at w.in-Some.entry w.in-Some-movement_of.movement c.entries.number c.entries.balance = record {
            legal = first_part (entries_in c.args.vault.now) (doubt_in c.args.vault.now) c.witness.ensures.keeps.legal.legal;
            there = sym w.in-Some.ensures;
            is = sym w.in-Some-movement_of.ensures;
            number = c.entries.invariant.number;
            behind = c.entries.invariant.balance;
          } in
          rw (w.sink-is, w.waits-is, w.number-is, w.balance-is) (record {
            stands = put_on c.args.acct (entries_in c.args.vault.now) c.entries.at w.in-Some.entry w.in-Some-movement_of.movement c.entries.number c.entries.balance
                (g.K.Sink.sent c.args.sink.now) (g.K.Sink.sent c.entries.sink) (g.K.Sink.sent w.put.new.sink) c.args.waits.now.items c.entries.waits.items w.put.new.waits.items w.as_slice.result.now at
                (w.as_slice.ensures.value ∙ w.line_of-line.ensures ∙ ap (λ (b : ℕ). line (c.entries.number + 1) w.in-Some-movement_of.movement b) w.after-balance.ensures)
                c.entries.invariant.stands w.in_ok-put.ensures.stands;
            count = omega (arith, c.entries.invariant.count, w.in_ok-put.ensures.count);
            number = number_next c.args.acct (entries_in c.args.vault.now) c.entries.at w.in-Some.entry w.in-Some-movement_of.movement c.entries.number c.entries.balance at;
            few = omega (arith, c.entries.invariant.few);
            balance = w.after-balance.ensures ∙ balance_next c.args.acct (entries_in c.args.vault.now) c.entries.at w.in-Some.entry w.in-Some-movement_of.movement c.entries.number c.entries.balance at;
            room = w.in_ok-put.ensures.room ∙ c.entries.invariant.room;
          })
      | in-Some+in_default-movement_of w ↦
          let same : Same c.args.acct (entries_in c.args.vault.now) c.entries.at = nothing_moved c.args.acct (entries_in c.args.vault.now) c.entries.at w.in-Some.entry
          (first_part (entries_in c.args.vault.now) (doubt_in c.args.vault.now) c.witness.ensures.keeps.legal.legal) (sym w.in-Some.ensures) (sym w.movement_of.ensures ∙ w.in_default-movement_of.is) in
          rw (w.sink-is, w.waits-is, w.number-is, w.balance-is) (record {
            stands = same_stands c.args.acct (entries_in c.args.vault.now) c.entries.at (g.K.Sink.sent c.args.sink.now) (g.K.Sink.sent c.entries.sink) c.args.waits.now.items c.entries.waits.items same c.entries.invariant.stands;
            count = c.entries.invariant.count;
            number = c.entries.invariant.number ∙ same.number;
            few = omega (arith, c.entries.invariant.few);
            balance = c.entries.invariant.balance ∙ same.behind;
            room = c.entries.invariant.room;
          })
      | in_default w ↦ absurd (stands_there (entries_in c.args.vault.now) c.entries.at within (sym c.entry.ensures ∙ w.in_default.is))
    ]
