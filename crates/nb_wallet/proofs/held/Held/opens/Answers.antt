use Rattle.std.proofs.Common.{◌≡◌, ℕ, Bool, true, false, List, refl, sym, ap}
use Rattle.std.specs.Prelude.{codes, is_some, IsTrue}
use Rattle.nb_seal.specs.Seal.{Opens, IsNoSeal, text_in}
use Rattle.nb_seal.proofs.Opening.{text_in_opens, text_in_no_seal}
use Rattle.nb_wallet.proofs.held.Held.opens.Goals as goal

-- what says whether bytes open says whether there is a text in them
tells : (key label bytes : List ℕ) (b : Bool) → (IsTrue b → (plain : List ℕ) × Opens key label bytes plain) → (b ≡ false → IsNoSeal key label bytes) → b ≡ is_some (text_in key label bytes)
tells key label bytes true opened refused = let o = opened refl in sym (ap is_some ((text_in_opens key label bytes o.0).1 o.1))
tells key label bytes false opened refused = sym (ap is_some ((text_in_no_seal key label bytes).1 (refused refl)))

pub returns : goal.returns
returns c = rw (← c.self.view_is, ← c.as_slice.ensures.value) (tells c.args.key.now (codes "good") _ c.opens_parts.result c.opens_parts.ensures.opened c.opens_parts.ensures.refused)
