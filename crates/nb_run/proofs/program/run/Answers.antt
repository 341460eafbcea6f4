use Rattle.std.proofs.Common.{Some, ap, ◌∙◌, subst}
use Rattle.std.specs.Prelude.{map, string_bytes}
use Rattle.nb_words.specs.Words.{CommandIs}
use Rattle.nb_run.proofs.program.run.Goals as goal

pub do_command-requires : goal.do_command-requires
do_command-requires g c =
    let some = c.in-Ok-Some in
    (map string_bytes c.args.words.now, subst (CommandIs (map string_bytes c.args.words.now)) (some.field-0-is ∙ ap Some some.command-is) some.ensures.command)
