-- Bytes that were taken off what was left, and then some more.
use Rattle.std.proofs.Common.{◌≡◌, ℕ, ◌+◌, ◌≤◌, List, ◌++◌, Option, length, take, arith, length-append}
use Rattle.std.proofs.lemmas.List.{length-take-le}
use Rattle.std.specs.Io.KnownBytes.{Consumes}
use Rattle.std.proofs.KnownBytes.{Consumes-trans}
use Rattle.nb_net.specs.Adapters.{Took}

pub took_more : (a b c : Option (List ℕ)) (d n e : ℕ) (buf : List ℕ) → e ≡ d + n → Took a b d → Consumes b c (take n buf) → n ≤ length buf → Took a c e
took_more a b c d n e buf sum took takes few = record {
  bytes = took.bytes ++ take n buf;
  takes = Consumes-trans a b c took.bytes (take n buf) took.takes takes;
  count = omega (arith, sum, length-append took.bytes (take n buf), took.count, length-take-le n buf few);
}
