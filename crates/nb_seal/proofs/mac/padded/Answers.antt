use Rattle.std.proofs.lemmas.List.{drop-replicate}
use Rattle.nb_seal.specs.Hmac.{pad_of}
use Rattle.nb_seal.proofs.mac.padded.Goals as goal

pub returns : goal.returns
unfolding pad_of
returns c = rw (c.mark_all.ensures, c.copy_from_slice.ensures.after, drop-replicate)
