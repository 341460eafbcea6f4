use Rattle.std.proofs.Common.{◌≤◌, ◌<◌, ℕ, List, ◌+◌, ◌≡◌, Option, IfSome, length, take, drop, subst, arith}
use Rattle.nb_journal.proofs.Records.{item_there, item_short}
use Rattle.nb_journal.proofs.opening.record.record_at.Goals as goal

pub returns-in-Got-clause-gives : goal.returns-in-Got-clause-gives
returns-in-Got-clause-gives g c =
    let body = subst (λ (told : Option (List ℕ)). IfSome told (λ image. take c.in-Sized.len (drop (c.args.place + 5) image) ≡ c.in-Got.item)) c.in-Sized.ensures.nothing.same c.in-Got.ensures.gives.1 in
    let fits : length c.in-Got.item ≤ 2097152 = omega (arith, c.in-Sized.ensures.gives.0, c.in-Got.ensures.gives.0) in
    (fits, item_there (g.D.Disk.tells.content c.args.disk.now) c.args.place c.in-Sized.len c.in-Got.item c.in-Sized.ensures.gives.0 c.in-Got.ensures.gives.0 c.in-Sized.ensures.gives.1 body)

pub returns-in-Short-clause-gives : goal.returns-in-Short-clause-gives
returns-in-Short-clause-gives g c =
    let short = subst (λ (told : Option (List ℕ)). IfSome told (λ image. length (drop (c.args.place + 5) image) < c.in-Sized.len)) c.in-Sized.ensures.nothing.same c.in-Short.ensures.gives in
    item_short (g.D.Disk.tells.content c.args.disk.now) c.args.place c.in-Sized.len c.in-Sized.ensures.gives.0 c.in-Sized.ensures.gives.1 short
