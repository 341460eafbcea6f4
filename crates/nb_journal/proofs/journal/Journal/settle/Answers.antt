use Rattle.std.proofs.Common.{◌≡◌, ◌≢◌, refl, ◌∙◌, rules}
use Rattle.nb_port.specs.Disk.{Only}
use Rattle.nb_journal.specs.Layout.{open_gate}
use Rattle.nb_journal.proofs.Settling.{gate_is, kept, dropped}
use Rattle.nb_journal.proofs.journal.Journal.settle.Goals as goal

pub returns-then-byte-clause-gives : goal.returns-then-byte-clause-gives
returns-then-byte-clause-gives g c =
    let read = c.in-Got.ensures.gives.0 in
    let same = c.in-Got.ensures.nothing.same in
    let only : Only (g.D.Disk.tells.content c.synced_byte.new.disk) (g.D.Disk.tells.allowed c.synced_byte.new.disk) = λ image is. same ∙ c.in-Got.ensures.gives.1 image is in (
      gate_is (g.D.Disk.tells.content c.args.self.now.disk) c.args.self.now.gate c.in-Got.byte (λ byte. byte ≢ open_gate) (search rules) read,
      λ front items item doubt. dropped g.D.Disk.tells front items item c.args.self.now _ c.in-Got.byte doubt read (search rules) same only refl refl refl,
    )

pub returns-clause-gives : goal.returns-clause-gives
returns-clause-gives g c =
    let read = c.in-Got.ensures.gives.0 in
    let same = c.in-Got.ensures.nothing.same in
    let only : Only (g.D.Disk.tells.content c.synced_byte.new.disk) (g.D.Disk.tells.allowed c.synced_byte.new.disk) = λ image is. same ∙ c.in-Got.ensures.gives.1 image is in (
      gate_is (g.D.Disk.tells.content c.args.self.now.disk) c.args.self.now.gate c.in-Got.byte (λ byte. byte ≡ open_gate) (search rules) read,
      λ front items item doubt. kept g.D.Disk.tells front items item c.args.self.now _ c.in-Got.byte doubt read (search rules) same only refl refl refl,
    )
