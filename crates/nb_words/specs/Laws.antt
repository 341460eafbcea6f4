-- What holds of all words.
use Rattle.std.specs.Prelude.{◌≡◌, ℕ, List}
use Rattle.nb_words.specs.declared.words.Command.{Command}
use Rattle.nb_words.specs.Words.{Are}

-- words are one command at most
abbrev pub OneCommand : Type 0
OneCommand = (words : List (List ℕ)) (command other : Command) → Are words command → Are words other → command ≡ other
