use Rattle.std.proofs.Common.{List, Option, IsTrue, map, string_bytes, true≢false, ap, sym, subst, ◌∙◌}
use Rattle.clap.specs.Walk.{Row, Text}
use Rattle.clap.specs.Simple.{App, is_simple}
use Rattle.clap.specs.Faults.{fault_of, is_simple_and_free}
use Rattle.clap.specs.Words.{subcommand_of}
use Rattle.nb_words.specs.Table.{CommandIn}
use Rattle.nb_words.proofs.Reading.{simple, simple_and_free}
use Rattle.nb_words.proofs.Listing.{none_are, some_are}
use Rattle.nb_words.proofs.Whole.{taken, command_is, refused_are, only_memory}
use Rattle.nb_words.proofs.words.command_of.Goals as goal

pub returns-then-is_empty-clause-command : goal.returns-then-is_empty-clause-command
returns-then-is_empty-clause-command c = λ is. none_are string_bytes c.args.words.now c.if-is_empty.ensures (taken _ is).2

pub returns-then-not-are_names-clause-command : goal.returns-then-not-are_names-clause-command
returns-then-not-are_names-clause-command c = λ is. true≢false (sym (subst IsTrue c.if-not-are_names.true (c.are_names.ensures.1 (taken _ is).0)))

pub returns-in-Err-clause-command : goal.returns-in-Err-clause-command
returns-in-Err-clause-command c =
    let app = c.in_ok-program.ensures in
    let words : List Text = map string_bytes c.args.words.now in
    refused_are words c.refused.result c.refused.ensures.none
    (λ is. c.refused.ensures.why.1 (c.kind.ensures ∙ only_memory _ c.in-Err.error (ap (λ (a : App). fault_of a words) app ∙ (taken words is).1) (c.in-Err.ensures.kinds (ap is_simple_and_free app ∙ simple_and_free))))

pub returns-clause-command : goal.returns-clause-command
returns-clause-command c =
    let app = c.in_ok-program.ensures in
    let words : List Text = map string_bytes c.args.words.now in
    let none = sym (ap (λ (a : App). fault_of a words) app) ∙ c.in-Ok.ensures.kinds (ap is_simple_and_free app ∙ simple_and_free) in
    let told = (c.in-Ok.ensures.matches (ap is_simple app ∙ simple)).1 ∙ ap (λ (a : App). subcommand_of a words) app in
    command_is words (c.are_names.ensures.0 c.if-not-are_names.false) (some_are string_bytes c.args.words.now c.if-is_empty.ensures) none c.command_in.result
    (subst (λ (t : Option (Text × List Row)). CommandIn t c.command_in.result) told c.command_in.ensures)
