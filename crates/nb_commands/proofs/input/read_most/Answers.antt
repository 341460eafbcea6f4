use Rattle.std.proofs.Common.{◌++◌, take, length-append, arith}
use Rattle.std.proofs.KnownBytes.{Consumes-trans}
use Rattle.std.proofs.lemmas.List.{length-take}
use Rattle.nb_commands.proofs.input.read_most.Goals as goal

pub returns-in-Err-clause-gives : goal.returns-in-Err-clause-gives
returns-in-Err-clause-gives g c =
    let before = c.reading.bytes.items in
    let piece = take c.in-Bytes.n c.read.new.buf in
    record {
      taken = before ++ piece;
      few = omega (arith, length-append before piece, length-take c.in-Bytes.n c.read.new.buf, c.in-Bytes.ensures.gives.1, c.split_at_mut.ensures.front_len, c.min-room.ensures, c.len.ensures, c.len-in-reading.ensures, c.reading-test.true, c.reading.invariant.within);
      took = Consumes-trans _ _ _ before piece c.reading.invariant.took c.in-Bytes.ensures.gives.2;
    }
