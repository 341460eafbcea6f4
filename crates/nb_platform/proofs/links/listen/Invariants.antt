use Rattle.std.proofs.Common.{◌≡◌, vec_len}
use Rattle.nb_platform.specs.Doing.{AllPorts, IsNewPort}
use Rattle.nb_platform.proofs.links.listen.Given as goal

-- as many listen as were counted, and the port of each is new and gives as many links as are asked for
abbrev pub invariant-listening : goal.invariant-listening
invariant-listening l = record {
  count : vec_len l.listening ≡ l.worker;
  give : AllPorts (λ port. IsNewPort l.sessions port.left port.out port.faults) l.listening.items;
}
