use Rattle.std.proofs.Common.{◌≡◌, ◌++◌, ◌∷◌, [], arith, ap, subst, ◌∙◌, Option, List, ℕ}
use Rattle.std.specs.Prelude.{replicate}
use Rattle.nb_port.specs.Disk.{wrote_at}
use Rattle.nb_journal.specs.Layout.{magic, terms, front_bytes}
use Rattle.nb_journal.proofs.Makes.{made, made_bytes}
use Rattle.nb_journal.proofs.making.make.Goals as goal

pub returns-in-Done-put_synced-clause-gives : goal.returns-in-Done-put_synced-clause-gives
returns-in-Done-put_synced-clause-gives g c =
    let charter = c.args.charter.now in
    let old = g.D.Disk.tells.content c.magic_of.new.disk in
    let mid = g.D.Disk.tells.content c.put_synced.new.disk in
    let new = g.D.Disk.tells.content c.put_synced-2.new.disk in
    let first : mid ≡ wrote_at old 0 (replicate 8 0 ++ (terms c.args.cap charter ++ 0 ∷ [])) = c.in-Done.ensures.gives.0 ∙ ap (wrote_at old 0) c.unborn.ensures in
    let second : new ≡ wrote_at mid 0 (magic charter.version) = c.in-Done-put_synced.ensures.gives.0 ∙ ap (wrote_at mid 0) c.magic.ensures in
    (((omega (arith, c.if-cap-lt1.false), omega (arith, c.if-cap-gt-MAX_CAP.false)), c.if-charter-gt-MAX_RATE.false), c.in-Other.ensures.gives, made old mid new c.args.cap charter first second, c.in-Done-put_synced.ensures.gives.1)

pub returns-in-Done-put_synced-clause-bytes : goal.returns-in-Done-put_synced-clause-bytes
returns-in-Done-put_synced-clause-bytes g c =
    let charter = c.args.charter.now in
    let old = g.D.Disk.tells.content c.magic_of.new.disk in
    let mid = g.D.Disk.tells.content c.put_synced.new.disk in
    let new = g.D.Disk.tells.content c.put_synced-2.new.disk in
    let first : mid ≡ wrote_at old 0 (replicate 8 0 ++ (terms c.args.cap charter ++ 0 ∷ [])) = c.in-Done.ensures.gives.0 ∙ ap (wrote_at old 0) c.unborn.ensures in
    let second : new ≡ wrote_at mid 0 (magic charter.version) = c.in-Done-put_synced.ensures.gives.0 ∙ ap (wrote_at mid 0) c.magic.ensures in
    subst (λ (told : Option (List ℕ)). new ≡ wrote_at told 0 (front_bytes c.args.cap charter ++ 0 ∷ [])) c.in-Other.ensures.nothing.same (made_bytes old mid new c.args.cap charter first second)
