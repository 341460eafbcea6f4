use Rattle.nb_price.proofs.Splitting.{mark_near}
use Rattle.nb_price.proofs.words.split.Goals as goal

pub returns-in_err-i-clause-none : goal.returns-in_err-i-clause-none
returns-in_err-i-clause-none c is word rest short e =
    mark_near c.args.bytes.now c.split_at.result.0.now word rest c.args.mark c.args.most c.min.result c.min.ensures c.split_at.ensures.front short e c.in_err-i.ensures
