use Rattle.std.proofs.Common.{◌≡◌, ◌↔◌, Bool, true, false, Option, Some, None, IsTrue, is_some, option_map, refl, subst, ◌∙◌}
use Rattle.std.specs.Prelude.{not}
use Rattle.clap.specs.Walk.{Text}
use Rattle.clap.specs.Words.{found_of}
use Rattle.clap.proofs.WalkLemmas.{first_value-rows}
use Rattle.nb_words.proofs.table.is_missing.Goals as goal

-- nothing is there where there is no text of it
no_text : {X : Type 0} (o : Option X) (text : X → Text) (b : Bool) → is_some o ≡ not b → IsTrue b ↔ (option_map text o ≡ None)
no_text None text true is = (λ _. refl, λ _. refl)
no_text None text false is = absurd cc
no_text (Some x) text true is = absurd cc
no_text (Some x) text false is = (λ never. absurd cc, λ never. absurd cc)

pub returns : goal.returns
returns c =
    let told = c.get_str.ensures ∙ first_value-rows (found_of c.args.given.now) c.args.position.now in
    subst (λ (t : Option Text). IsTrue c.is_none.result ↔ (t ≡ None)) told (no_text c.get_str.result (λ s. s.now) c.is_none.result c.is_none.ensures)
