use Rattle.nb_script.proofs.Parting.{found_at, not_found}
use Rattle.nb_script.proofs.words.cut.Goals as goal

pub returns-in_err-i-clause-none : goal.returns-in_err-i-clause-none
returns-in_err-i-clause-none c is = not_found c.args.mark c.args.bytes.now c.in_err-i.ensures

pub returns-clause-some : goal.returns-clause-some
returns-clause-some c =
    found_at c.args.mark c.args.bytes.now c.split_at.result.0.now c.split_at.result.1.now c.split_at-2.result.1.now c.in_ok-i.i c.in_ok-i.ensures c.split_at.ensures.front c.split_at.ensures.back c.split_at-2.ensures.back
