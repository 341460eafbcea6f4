use Rattle.std.proofs.Common.{◌≡◌, ℕ, ◌++◌, ◌∷◌, [], Option, OnOk, subst, sym}
use Rattle.nb_port.specs.Disk.{wrote_at}
use Rattle.nb_journal.specs.Layout.{front_bytes}
use Rattle.nb_commands.specs.Init.{charter_with}
use Rattle.nb_commands.proofs.init.make_with.Goals as goal

pub returns-in-None-clause-bytes : goal.returns-in-None-clause-bytes
returns-in-None-clause-bytes g c =
    subst (λ (rate : Option ℕ). OnOk c.init.result (g.D.Disk.tells.content c.init.new.disk ≡ wrote_at (g.D.Disk.tells.content c.args.disk.now) 0 (front_bytes c.args.cap (charter_with c.args.head.now rate) ++ 0 ∷ []))) (sym c.in-None.is)
    c.init.ensures.bytes

pub returns-in-Some-clause-bytes : goal.returns-in-Some-clause-bytes
returns-in-Some-clause-bytes g c =
    subst (λ (rate : Option ℕ). OnOk c.init2.result (g.D.Disk.tells.content c.init2.new.disk ≡ wrote_at (g.D.Disk.tells.content c.args.disk.now) 0 (front_bytes c.args.cap (charter_with c.args.head.now rate) ++ 0 ∷ []))) (sym c.in-Some.is)
    c.init2.ensures.bytes
