use Rattle.std.proofs.Common.{map, refl, ap, ◌∙◌}
use Rattle.nb_player.specs.Playing.{wallet_of}
use Rattle.nb_player.proofs.playing.setup_of.Goals as goal

pub returns-clause-setup : goal.returns-clause-setup
returns-clause-setup c = record {
  head = refl;
  version = refl;
  rate = refl;
  cap = refl;
  consumers = c.in_ok-consumers.ensures ∙ ap (map wallet_of) c.as_slice.ensures.value;
  merchants = c.in_ok-merchants.ensures;
  entries = refl;
}
