use Rattle.std.proofs.Common.{◌∷◌, [], ◌++◌, List, ap, ◌∙◌, append_assoc, rules}
use Rattle.nb_entry.specs.declared.entry.Entry.{Entry}
use Rattle.nb_turns.specs.declared.line.Line.{Line}
use Rattle.nb_turns.specs.declared.line.Line.TheVariants.{Fault}
use Rattle.nb_turns.specs.Lines.{doubts}
use Rattle.nb_vault.proofs.parts.Parts.commit.Goals as goal

pub returns-in-Err-clause-gives : goal.returns-in-Err-clause-gives
returns-in-Err-clause-gives g c =
    let before : List Line = c.args.self.now.lines.items in
    let fault : List Line = Fault c.args.by c.args.turn c.in-Err.counts.before c.in-Err.counts.after ∷ [] in
    record {
      some = search rules;
      stale = search rules;
      group = search rules;
      entries = search rules;
      lines = c.fail.ensures.lines ∙ ap (λ (ls : List Line). ls ++ fault) c.push_lines-in-Err.ensures.items
          ∙ append_assoc before (doubts c.args.by c.args.turn c.as_slice-doubted.result.now) fault
          ∙ ap (λ (es : List Entry). before ++ (doubts c.args.by c.args.turn es ++ fault)) (c.as_slice-doubted.ensures.value ∙ ap (λ v. v.items) c.record.ensures.group);
      failed = search rules;
      faults = search rules;
    }
