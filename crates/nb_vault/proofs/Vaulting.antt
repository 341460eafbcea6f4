-- A vault behind a turn, by the lines that the turn adds.
use Rattle.std.proofs.Common.{◌≡◌, ◌⊎◌, ⊎_elim, ℕ, ◌+◌, ◌≤◌, List, [], ◌∷◌, ◌++◌, length, sym, ap, subst, ◌∙◌, arith, length-append}
use Rattle.std.specs.Prelude.{reverse}
use Rattle.std.specs.List.{AllByRecursion}
use Rattle.std.specs.Option.{option_to_list}
use Rattle.std.proofs.lemmas.List.{length-reverse, reverse-append, take-append-le}
use Rattle.std.proofs.lemmas.Grind.{flat_map-append}
use Rattle.nb_port.specs.Tells.{DiskTells}
use Rattle.nb_port.specs.Faults.{Backed, Failure}
use Rattle.nb_port.proofs.Backing.{backed_append}
use Rattle.nb_entry.specs.declared.entry.Entry.{Entry}
use Rattle.nb_escrow.specs.Head.{head_of}
use Rattle.nb_escrow.proofs.Recording.{records_legal}
use Rattle.nb_turns.specs.declared.limits.TheConstants.{MAX_FAULTS, MAX_REQUESTS}
use Rattle.nb_turns.specs.declared.line.Line.{Line}
use Rattle.nb_turns.specs.Turns.{Request, House, State, Outcome, Decides, Fails, Unsettled, Doubts, failure_of}
use Rattle.nb_turns.specs.Lines.{AddsLines, AreOf, IsClosed, entries_of, failure_in, failures_in, faults_of, maker_of, next_turn, one_above, open_doubt, turn_of}
use Rattle.nb_turns.specs.Laws.{AreLegal}
use Rattle.nb_turns.proofs.Adding.{LinesAdmit, lines_keep_admitted}
use Rattle.nb_turns.proofs.Lining.{all_reverse, lines_are_of, lines_tell_turn}
use Rattle.nb_turns.proofs.Numbering.{lines_tell_failure, turns_never_fall}
use Rattle.nb_turns.proofs.Sounding.{lines_stay_sound}
use Rattle.nb_vault.specs.declared.parts.Parts.{Parts}
use Rattle.nb_vault.specs.Parts.{HasLines, IsVault, SameOrigin, Tells, opening_of}
use Rattle.nb_vault.specs.Rules.{HousesAreLawful, HousesRecordOf}
use Rattle.nb_vault.specs.Records.{Rests, disk_under, doubt_of}

-- the next number is no greater than the number of lines
pub numbers_behind : (by : ℕ) (lines added : List Line) → AreOf by (next_turn lines) added → next_turn lines ≤ length lines → next_turn (lines ++ added) ≤ length (lines ++ added)
numbers_behind by lines added are small =
    omega (arith, ap one_above (reverse-append lines added), newest (reverse added) (all_reverse (λ (l : Line). (maker_of l ≡ by) × (turn_of l ≡ next_turn lines)) added are), length-append lines added, length-reverse added)
  where
    newest : (ls : List Line) → AllByRecursion (λ (l : Line). (maker_of l ≡ by) × (turn_of l ≡ next_turn lines)) ls → one_above (ls ++ reverse lines) ≤ length lines + length ls
    newest [] all = omega (arith, small)
    newest (l ∷ ls) all = omega (arith, small, all.0.1)

-- what a house records is Legal next, and there is room for it
pub house_lawful : HousesAreLawful
house_lawful head cap ruling entries request entry legal is =
    let next = records_legal entries head cap request.kind request.body request.moment entry ruling is in
    (next.0.0, next.1)

-- and a journal of its version and its rate may have it
pub house_records : HousesRecordOf
house_records head cap ruling entries request entry is = (records_legal entries head cap request.kind request.body request.moment entry ruling is).0.1

-- ---- how many of the lines are faults

module _ (house : House) (opening : List Entry) (by turn : ℕ) (before : List Line) (requests : List Request) (added : List Line) (closed : IsClosed before) where
  pub decided_faults : (over : List Entry) → AddsLines house opening by turn before requests (Decides over) added → faults_of (before ++ added) ≡ faults_of before
  decided_faults over adds =
      let t = lines_tell_turn house opening by turn before requests (Decides over) added closed adds in
      sym t.over_behind.faults ∙ ap (λ (s : State). s.faults) t.turn.2 ∙ t.over_before.faults

  pub failed_faults : (from to : ℕ) → AddsLines house opening by turn before requests (Fails from to) added → faults_of (before ++ added) ≡ faults_of before + 1
  failed_faults from to adds =
      let t = lines_tell_turn house opening by turn before requests (Fails from to) added closed adds in
      sym t.over_behind.faults
      ∙ ⊎_elim (λ (u : Unsettled t.old t.new). ap (λ (s : State). s.faults) u.1) (λ (d : Doubts house t.old requests t.new). ap (λ (s : State). s.faults) d.left) t.turn.1
      ∙ ap (λ (n : ℕ). n + 1) t.over_before.faults

module _ {D : Type 0} (tells : DiskTells D) where
  -- the entries at opening stay
  pub same_opening : (old new : Parts D) (more : List Entry) → IsVault tells old → SameOrigin old new → new.records.book.entries ≡ old.records.book.entries ++ more → opening_of new ≡ opening_of old
  same_opening old new more vault same is = rw (same.opening, is) (take-append-le old.opening old.records.book.entries more vault.opened)

  -- a turn leads to a vault
  pub vault_behind : (old new : Parts D) (more : List Entry) (house : House) (by : ℕ) (requests : List Request) (outcome : Outcome) (added : List Line)
      → IsVault tells old → SameOrigin old new → Rests tells new.records → HasLines new new.records.book.entries → new.records.book.entries ≡ old.records.book.entries ++ more
      → (adds : AddsLines house (opening_of old) by (next_turn old.lines.items) old.lines.items requests outcome added) → new.lines.items ≡ old.lines.items ++ added
      → new.records.book.entries ≡ entries_of (opening_of old) (old.lines.items ++ added)
      → (doubt_of new.records ≡ []) ⊎ (doubt_of new.records ≡ open_doubt (old.lines.items ++ added))
      → Backed (tells.faults (disk_under old.records)) (option_to_list (failure_of outcome)) (tells.faults (disk_under new.records))
      → new.faults ≡ faults_of (old.lines.items ++ added) → new.faults ≤ MAX_FAULTS
      → LinesAdmit house old.records.book.cap (opening_of old) by (next_turn old.lines.items) old.lines.items requests outcome added adds → length (open_doubt (old.lines.items ++ added)) ≤ MAX_REQUESTS → IsVault tells new
  vault_behind old new more house by requests outcome added vault same rests has grown adds lines listed doubt backed faults few admits open_most = record {
    rests = rests;
    opened = omega (arith, same.opening, vault.opened, ap length grown, length-append old.records.book.entries more);
    told = subst (λ (opening : List Entry). Tells opening new.records.book.entries (doubt_of new.records) new.count (tells.faults (disk_under new.records)) new.lines.items) (sym (same_opening old new more vault same grown))
        (subst (λ (from : ℕ). Tells (opening_of old) new.records.book.entries (doubt_of new.records) from (tells.faults (disk_under new.records)) new.lines.items) (sym same.count)
        (subst (λ (ls : List Line). Tells (opening_of old) new.records.book.entries (doubt_of new.records) old.count (tells.faults (disk_under new.records)) ls) (sym lines) told));
    has = has;
    faults_are = faults ∙ ap faults_of (sym lines);
    few = few;
    keys = same.head ∙ vault.keys ∙ ap head_of (sym same.terms.charter);
    lawful = subst (λ (ls : List Line). AreLegal new.records.book.cap (opening_of new) ls) (sym lines)
        (subst (λ (opening : List Entry). AreLegal new.records.book.cap opening (old.lines.items ++ added)) (sym (same_opening old new more vault same grown))
        (subst (λ (cap : ℕ). AreLegal cap (opening_of old) (old.lines.items ++ added)) (sym same.terms.cap)
        (lines_keep_admitted house old.records.book.cap (opening_of old) by (next_turn old.lines.items) old.lines.items requests outcome added vault.told.closed vault.lawful adds admits)));
    open_most = subst (λ (ls : List Line). length (open_doubt ls) ≤ MAX_REQUESTS) (sym lines) open_most;
  }
    where
      failures : failures_in (old.lines.items ++ added) ≡ failures_in old.lines.items ++ option_to_list (failure_of outcome)
      failures =
          flat_map-append (λ (l : Line). option_to_list (failure_in l)) old.lines.items added
          ∙ ap (λ (fs : List Failure). failures_in old.lines.items ++ fs) (lines_tell_failure house (opening_of old) by (next_turn old.lines.items) old.lines.items requests outcome added adds)

      told : Tells (opening_of old) new.records.book.entries (doubt_of new.records) old.count (tells.faults (disk_under new.records)) (old.lines.items ++ added)
      told = record {
        listed = listed;
        doubt_is = doubt;
        closed = (lines_tell_turn house (opening_of old) by (next_turn old.lines.items) old.lines.items requests outcome added vault.told.closed adds).closed;
        sound = lines_stay_sound house (opening_of old) by (next_turn old.lines.items) old.lines.items requests outcome added vault.told.sound adds;
        backed = subst (λ (fs : List Failure). Backed old.count fs (tells.faults (disk_under new.records))) (sym failures)
            (backed_append (failures_in old.lines.items) (option_to_list (failure_of outcome)) old.count (tells.faults (disk_under old.records)) (tells.faults (disk_under new.records)) vault.told.backed backed);
        turns = turns_never_fall house (opening_of old) by old.lines.items requests outcome added vault.told.turns adds;
        numbers = numbers_behind by old.lines.items added (lines_are_of house (opening_of old) by (next_turn old.lines.items) old.lines.items requests outcome added adds) vault.told.numbers;
      }
