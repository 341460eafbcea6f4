use Rattle.std.proofs.Common.{Some, sym, ◌∙◌, ap, option_map}
use Rattle.std.proofs.lemmas.Option.{same_Some}
use Rattle.nb_words.proofs.Listing.{weaker}
use Rattle.clap.specs.Words.{found_of}
use Rattle.clap.proofs.WalkLemmas.{first_value-rows}
use Rattle.nb_words.proofs.table.groups_in.Goals as goal

pub returns-in_err-get_str-clause-each : goal.returns-in_err-get_str-clause-each
returns-in_err-get_str-clause-each c =
    let told = c.get_str.ensures ∙ first_value-rows (found_of c.args.given.now) c.args.position.now in
    λ groups are is. let none = sym (ap (option_map (λ s. s.now)) c.in_err-get_str.was) ∙ told ∙ is in absurd cc

pub returns-clause-some : goal.returns-clause-some
returns-clause-some c =
    let told = c.get_str.ensures ∙ first_value-rows (found_of c.args.given.now) c.args.position.now in
    let text = sym told ∙ ap (option_map (λ s. s.now)) c.in_ok-get_str.was in
    weaker c.named.result _ _ (λ groups is. (text ∙ ap Some (sym c.as_bytes.ensures.value ∙ is.0), is.1)) c.named.ensures.some

pub returns-clause-each : goal.returns-clause-each
returns-clause-each c =
    let told = c.get_str.ensures ∙ first_value-rows (found_of c.args.given.now) c.args.position.now in
    let text = sym told ∙ ap (option_map (λ s. s.now)) c.in_ok-get_str.was in
    λ groups are is. c.named.ensures.each groups are (c.as_bytes.ensures.value ∙ same_Some _ _ (sym text ∙ is))
