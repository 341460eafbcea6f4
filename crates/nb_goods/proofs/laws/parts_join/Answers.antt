use Rattle.nb_goods.proofs.Slices.{first_pieces_join, all_parts_join, length-part_at}
use Rattle.nb_goods.proofs.laws.parts_join.Goals as goal

pub returns-clause-joined : goal.returns-clause-joined
returns-clause-joined c bytes n = (first_pieces_join 1000000 bytes n, all_parts_join bytes)

pub returns-clause-len : goal.returns-clause-len
returns-clause-len c = length-part_at
