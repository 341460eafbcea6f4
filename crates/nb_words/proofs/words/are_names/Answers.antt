use Rattle.std.proofs.Common.{◌∙◌, ap, string_bytes, subst, sym, IsTrue}
use Rattle.nb_words.specs.Words.{IsName}
use Rattle.nb_words.proofs.Listing.{picked}
use Rattle.nb_words.proofs.words.are_names.Goals as goal

pub returns-then-not-is_name : goal.returns-then-not-is_name
returns-then-not-is_name c = (
  λ never. absurd cc,
  λ all.
      subst IsTrue c.if-not-is_name.true (c.is_name.ensures.1 (subst IsName (ap string_bytes (sym c.word-item.is) ∙ sym c.as_str.ensures.value) (picked IsName string_bytes c.args.words.now c.looking.word-index _ c.looking-test.true all))),
)
