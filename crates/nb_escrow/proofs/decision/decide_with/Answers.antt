use Rattle.std.proofs.Common.{refl, sym, subst}
use Rattle.nb_escrow.proofs.Keys.{key_where_passed, key_where_refused}
use Rattle.nb_escrow.specs.Laws.{PaidWherePayable}
use Rattle.nb_escrow.specs.Verdict.{told}
use Rattle.nb_escrow.proofs.Exactly.{paid_exactly_where}
use Rattle.nb_escrow.proofs.Judging.{Answer}
use Rattle.nb_escrow.proofs.decision.decide_with.Goals as goal

pub returns-in-Ok-clause-key : goal.returns-in-Ok-clause-key
returns-in-Ok-clause-key c =
    λ is. key_where_passed c.args.book.now.entries (c.in-Ok.ensures.list is refl) c.args.head.now c.args.book.now.cap c.args.kind c.args.body.now c.args.moment c.in-Ok.decision is c.in-Ok.ensures.steps

pub returns-in-Err-clause-key : goal.returns-in-Err-clause-key
returns-in-Err-clause-key c =
    λ is. key_where_refused c.args.book.now.entries c.args.head.now c.args.book.now.cap c.args.kind c.args.body.now c.args.moment c.in-Err.refusal is c.in-Err.ensures.steps

pub returns-in-Ok-clause-paid : goal.returns-in-Ok-clause-paid
returns-in-Ok-clause-paid c =
    subst (λ (r : Answer). PaidWherePayable c.args.book.now.entries c.args.head.now c.args.book.now.cap c.args.kind c.args.body.now c.args.moment (told r).entry) (sym c.in-Ok.ensures.steps)
    (paid_exactly_where c.args.book.now.entries c.args.head.now c.args.book.now.cap c.args.kind c.args.body.now c.args.moment)

pub returns-in-Err-clause-paid : goal.returns-in-Err-clause-paid
returns-in-Err-clause-paid c =
    subst (λ (r : Answer). PaidWherePayable c.args.book.now.entries c.args.head.now c.args.book.now.cap c.args.kind c.args.body.now c.args.moment (told r).entry) (sym c.in-Err.ensures.steps)
    (paid_exactly_where c.args.book.now.entries c.args.head.now c.args.book.now.cap c.args.kind c.args.body.now c.args.moment)
