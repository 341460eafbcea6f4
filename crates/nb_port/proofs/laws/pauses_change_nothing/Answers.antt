use Rattle.nb_port.proofs.Stops.{pauses}
use Rattle.nb_port.proofs.laws.pauses_change_nothing.Goals as goal

pub returns : goal.returns
returns c = record {
  within = λ start steps image. (pauses start steps image).0;
  behind = λ start steps image. (pauses start steps image).1;
}
