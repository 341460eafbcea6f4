-- What is left of the bytes leads from here to where all of them lead.
use Rattle.std.proofs.Common.{◌≡◌, length}
use Rattle.nb_net.specs.Waits.{place_after}
use Rattle.nb_net.proofs.place.Place.after.Given as goal

abbrev pub invariant-loop-byte : goal.invariant-loop-byte
invariant-loop-byte l = place_after l.place l.rest ≡ place_after l.initial.place l.bytes

abbrev pub decreases-loop-byte : goal.decreases-loop-byte
decreases-loop-byte l = length l.rest
