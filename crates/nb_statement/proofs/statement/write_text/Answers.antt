use Rattle.std.proofs.Common.{◌≡◌, ℕ, ◌≤◌, List, [], ◌++◌, Result, Err, rules, sym, subst, ap, ◌∙◌, arith}
use Rattle.nb_book.specs.Money.{balance}
use Rattle.nb_vault.specs.Vaults.{entries_in}
use Rattle.nb_statement.specs.declared.fault.StatementFault.{StatementFault}
use Rattle.nb_statement.specs.Statement.{Sends, Stands, statement, heading, closing, lines_behind}
use Rattle.nb_statement.proofs.Standing.{next_failed, stands_on, rose_behind}
use Rattle.nb_statement.proofs.Ending.{begins, closes_all, closes_none, sends_rest}
use Rattle.nb_statement.proofs.statement.write_text.Goals as goal

pub returns-in_err-balance-clause-sent : goal.returns-in_err-balance-clause-sent
returns-in_err-balance-clause-sent g c =
    let h : List ℕ = heading c.args.acct in
    let l : List ℕ = lines_behind c.args.acct [] (entries_in c.args.vault.now) in
    let e : List ℕ = closing (balance (entries_in c.args.vault.now) c.args.acct) in
    let failed = c.in_err-balance.ensures.stands in
    let same : c.from_residual-in_err-balance.result ≡ Err c.in_err-balance.field-0.0 = search rules in
    let first : Stands (g.K.Sink.sent c.args.sink.now) (g.K.Sink.sent c.put.new.sink) c.put.new.waits.items h =
    begins (g.K.Sink.sent c.args.sink.now) (g.K.Sink.sent c.put.new.sink) c.args.waits.now.items c.put.new.waits.items c.as_slice.result.now h c.requires.none (c.as_slice.ensures.value ∙ c.heading.ensures) c.in_ok-put.ensures.stands in
    subst (λ (r : Result (Unit {0}) StatementFault). Sends (g.K.Sink.faults c.args.sink.now) (g.K.Sink.faults c.put_lines.new.sink) (g.K.Sink.sent c.args.sink.now) (g.K.Sink.sent c.put_lines.new.sink)
    (statement c.args.acct (entries_in c.args.vault.now)) r) (sym same) (
      failed.0,
      rose_behind (g.K.Sink.faults c.args.sink.now) (g.K.Sink.faults c.put.new.sink) (g.K.Sink.faults c.put_lines.new.sink) c.in_ok-put.ensures.count failed.1,
      next_failed (g.K.Sink.sent c.args.sink.now) (g.K.Sink.sent c.put.new.sink) (g.K.Sink.sent c.put_lines.new.sink) c.put.new.waits.items h l e first failed.2,
    )

pub returns-in_err-put-2-clause-sent : goal.returns-in_err-put-2-clause-sent
returns-in_err-put-2-clause-sent g c =
    let h : List ℕ = heading c.args.acct in
    let l : List ℕ = lines_behind c.args.acct [] (entries_in c.args.vault.now) in
    let e : List ℕ = closing (balance (entries_in c.args.vault.now) c.args.acct) in
    let failed = c.in_err-put-2.ensures.stands in
    let same : c.from_residual-in_err-put-2.result ≡ Err c.in_err-put-2.field-0.0 = search rules in
    let first : Stands (g.K.Sink.sent c.args.sink.now) (g.K.Sink.sent c.put.new.sink) c.put.new.waits.items h =
    begins (g.K.Sink.sent c.args.sink.now) (g.K.Sink.sent c.put.new.sink) c.args.waits.now.items c.put.new.waits.items c.as_slice.result.now h c.requires.none (c.as_slice.ensures.value ∙ c.heading.ensures) c.in_ok-put.ensures.stands in
    let before : Stands (g.K.Sink.sent c.args.sink.now) (g.K.Sink.sent c.put_lines.new.sink) c.put_lines.new.waits.items (h ++ l) =
    stands_on (g.K.Sink.sent c.args.sink.now) (g.K.Sink.sent c.put.new.sink) (g.K.Sink.sent c.put_lines.new.sink) c.put.new.waits.items c.put_lines.new.waits.items h l first c.in_ok-balance.ensures.stands in
    let grows : g.K.Sink.faults c.args.sink.now ≤ g.K.Sink.faults c.put_lines.new.sink = omega (arith, c.in_ok-put.ensures.count, c.in_ok-balance.ensures.count) in
    subst (λ (r : Result (Unit {0}) StatementFault). Sends (g.K.Sink.faults c.args.sink.now) (g.K.Sink.faults c.put-2.new.sink) (g.K.Sink.sent c.args.sink.now) (g.K.Sink.sent c.put-2.new.sink)
    (statement c.args.acct (entries_in c.args.vault.now)) r) (sym same) (
      failed.0,
      rose_behind (g.K.Sink.faults c.args.sink.now) (g.K.Sink.faults c.put_lines.new.sink) (g.K.Sink.faults c.put-2.new.sink) grows failed.1,
      closes_none (g.K.Sink.sent c.args.sink.now) (g.K.Sink.sent c.put_lines.new.sink) (g.K.Sink.sent c.put-2.new.sink) c.put_lines.new.waits.items h l e c.as_slice-2.result.now
          (c.as_slice-2.ensures.value ∙ c.closing.ensures ∙ ap closing c.in_ok-balance.ensures.balance) before failed.2,
    )

pub returns-clause-sent : goal.returns-clause-sent
returns-clause-sent g c =
    let h : List ℕ = heading c.args.acct in
    let l : List ℕ = lines_behind c.args.acct [] (entries_in c.args.vault.now) in
    let e : List ℕ = closing (balance (entries_in c.args.vault.now) c.args.acct) in
    let first : Stands (g.K.Sink.sent c.args.sink.now) (g.K.Sink.sent c.put.new.sink) c.put.new.waits.items h =
    begins (g.K.Sink.sent c.args.sink.now) (g.K.Sink.sent c.put.new.sink) c.args.waits.now.items c.put.new.waits.items c.as_slice.result.now h c.requires.none (c.as_slice.ensures.value ∙ c.heading.ensures) c.in_ok-put.ensures.stands in
    let before : Stands (g.K.Sink.sent c.args.sink.now) (g.K.Sink.sent c.put_lines.new.sink) c.put_lines.new.waits.items (h ++ l) =
    stands_on (g.K.Sink.sent c.args.sink.now) (g.K.Sink.sent c.put.new.sink) (g.K.Sink.sent c.put_lines.new.sink) c.put.new.waits.items c.put_lines.new.waits.items h l first c.in_ok-balance.ensures.stands in
    let all : Stands (g.K.Sink.sent c.args.sink.now) (g.K.Sink.sent c.put-2.new.sink) c.put-2.new.waits.items (h ++ (l ++ e)) =
    closes_all (g.K.Sink.sent c.args.sink.now) (g.K.Sink.sent c.put_lines.new.sink) (g.K.Sink.sent c.put-2.new.sink) c.put_lines.new.waits.items c.put-2.new.waits.items h l e c.as_slice-2.result.now
    (c.as_slice-2.ensures.value ∙ c.closing.ensures ∙ ap closing c.in_ok-balance.ensures.balance) before c.in_ok-put-2.ensures.stands in
    let grows : g.K.Sink.faults c.args.sink.now ≤ g.K.Sink.faults c.put-2.new.sink = omega (arith, c.in_ok-put.ensures.count, c.in_ok-balance.ensures.count, c.in_ok-put-2.ensures.count) in
    sends_rest c.send_all.result (g.K.Sink.faults c.args.sink.now) (g.K.Sink.faults c.put-2.new.sink) (g.K.Sink.faults c.send_all.new.sink) (g.K.Sink.sent c.args.sink.now) (g.K.Sink.sent c.put-2.new.sink) (g.K.Sink.sent c.send_all.new.sink)
    c.put-2.new.waits.items c.as_slice-3.result.now (h ++ (l ++ e)) grows c.as_slice-3.ensures.value all c.send_all.ensures.sent
