use Rattle.std.proofs.Common.{arith, rules}
use Rattle.std.specs.Prelude.{codes}
use Rattle.nb_seal.proofs.Opening.{no_short_seal}
use Rattle.nb_goods.proofs.Sealing.{opens_by_iv, no_goods_by_iv}
use Rattle.nb_goods.proofs.opened.opens.Goals as goal

pub returns-then-sealed-lt-SEAL-clause-refused : goal.returns-then-sealed-lt-SEAL-clause-refused
returns-then-sealed-lt-SEAL-clause-refused c refused = no_short_seal c.args.key.now (codes "good") c.args.sealed.now (omega arith)

pub returns-clause-opened : goal.returns-clause-opened
returns-clause-opened c is_same =
    opens_by_iv c.args.key.now c.args.sealed.now c.copy_from_slice.new.self _ c.hmac-stream.result c.iv_behind.result (search rules) c.split_at.ensures.back c.hmac-stream.ensures c.iv_behind.ensures (c.same.ensures.0 is_same)

pub returns-clause-refused : goal.returns-clause-refused
returns-clause-refused c differs =
    no_goods_by_iv c.args.key.now c.args.sealed.now c.copy_from_slice.new.self _ c.hmac-stream.result c.iv_behind.result (search rules) (search rules) c.split_at.ensures.back c.hmac-stream.ensures c.iv_behind.ensures
    (λ same. cc (c.same.ensures.1 same, differs))
