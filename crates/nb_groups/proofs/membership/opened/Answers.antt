use Rattle.std.proofs.Common.{◌∙◌, ap, sym, subst}
use Rattle.std.specs.Prelude.{codes}
use Rattle.nb_seal.specs.Seal.{Opens}
use Rattle.nb_groups.specs.Reading.{or_malformed}
use Rattle.nb_groups.proofs.Opening.{not_opened, opened_so}
use Rattle.nb_groups.proofs.membership.opened.Goals as goal

pub returns-in-Ok-read : goal.returns-in-Ok-read
returns-in-Ok-read c =
    let opens : Opens c.args.key.now (codes "cred") c.args.bytes.now c.split_at.result.0.now = subst (Opens c.args.key.now (codes "cred") c.args.bytes.now) (sym c.split_at.ensures.front) c.in-Ok.ensures.opened in
    sym (opened_so c.args.key.now c.args.bytes.now c.split_at.result.0.now (sym c.is_empty.ensures ∙ c.if-is_empty.false) opens ∙ ap or_malformed c.in-Ok-read.ensures.reads)

pub returns-in-Err-read : goal.returns-in-Err-read
returns-in-Err-read c =
    let opens : Opens c.args.key.now (codes "cred") c.args.bytes.now c.split_at.result.0.now = subst (Opens c.args.key.now (codes "cred") c.args.bytes.now) (sym c.split_at.ensures.front) c.in-Ok.ensures.opened in
    sym (opened_so c.args.key.now c.args.bytes.now c.split_at.result.0.now (sym c.is_empty.ensures ∙ c.if-is_empty.false) opens ∙ ap or_malformed c.in-Err-read.ensures.reads)

pub returns-in-Err : goal.returns-in-Err
returns-in-Err c = not_opened c.args.key.now c.args.bytes.now c.in-Err.bad.iv (sym c.is_empty.ensures ∙ c.if-is_empty.false) c.in-Err.ensures.refused c.in-Err.ensures.front
