use Rattle.std.proofs.Common.{refl, ap}
use Rattle.nb_system.proofs.Parts.{tear_same}
use Rattle.nb_system.proofs.disk.FileDiskDisk.write.Goals as goal

pub returns-in-Failed-clause-bytes : goal.returns-in-Failed-clause-bytes
returns-in-Failed-clause-bytes g c =
    let told = c.in-Failed.ensures in (
      g.F.PositionalFile.content c.ready.new.self.file,
      λ prepared. ap (λ d. g.F.PositionalFile.content d.file) (told.prepared prepared),
      λ _. ((told.failed refl).1, tear_same _ _ _),
    )
