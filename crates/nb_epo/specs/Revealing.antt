-- What revealing a hidden part gives.
use Rattle.std.specs.Prelude.{◌≡◌, ℕ, List, codes, Result, Ok, Err}
use Rattle.nb_seal.specs.Seal.{OpensAs, IsNoSeal, iv_shown}
use Rattle.nb_epo.specs.declared.hidden.Hidden.{Hidden}
use Rattle.nb_epo.specs.declared.hidden.RevealFault.{RevealFault}
use Rattle.nb_epo.specs.declared.hidden.RevealFault.TheVariants.{BadSeal, Malformed}
use Rattle.nb_epo.specs.Reading.{hidden_of}

-- the hidden part that is sealed there; or that it is the seal of no text, and its front; or the bad place of the text
abbrev pub Reveals : List ℕ → List ℕ → Result Hidden RevealFault → Type 0
Reveals key bytes (Ok hidden) = OpensAs hidden_of key (codes "hide") bytes (Ok hidden)
Reveals key bytes (Err (BadSeal iv)) = IsNoSeal key (codes "hide") bytes × (iv ≡ iv_shown bytes)
Reveals key bytes (Err (Malformed place)) = OpensAs hidden_of key (codes "hide") bytes (Err place)
