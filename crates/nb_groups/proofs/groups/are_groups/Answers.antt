use Rattle.std.proofs.Common.{sym, arith}
use Rattle.nb_groups.proofs.Choosing.{one_group}
use Rattle.nb_groups.proofs.groups.are_groups.Goals as goal

pub returns-in-len1 : goal.returns-in-len1
returns-in-len1 c = sym (one_group c.args.groups.now (omega (arith, c.in-len1.len_at_least, c.in-len1.len_below)))
