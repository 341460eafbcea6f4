use Rattle.std.proofs.Common.{refl, arith}
use Rattle.nb_vault.proofs.Resting.{gathered, item_room}
use Rattle.nb_vault.proofs.records.Records.gather.Goals as goal

pub write_entry-requires-clause-room : goal.write_entry-requires-clause-room
write_entry-requires-clause-room g c = omega (arith, item_room g.D.Disk.tells c.args.self.now c.requires.gathers c.requires.few, c.args.self.now.item.ok.0)

pub returns-clause-gathers : goal.returns-clause-gathers
returns-clause-gathers g c =
    let has = c.requires.gathers.has in
    gathered g.D.Disk.tells c.args.self.now _ c.args.entry.now c.requires.gathers (record { charter = refl; cap = c.apply.ensures.cap; most = refl; room = refl })
    (record { group = omega (arith, has.group, c.push_reserved.ensures.capacity); item = omega (arith, has.item, c.write_entry.ensures.room); places = has.places })
    refl refl c.apply.ensures.entries c.push_reserved.ensures.items c.write_entry.ensures.bytes c.write_entry.ensures.fits c.requires.legal c.requires.within c.requires.few
