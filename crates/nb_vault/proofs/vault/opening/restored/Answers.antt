use Rattle.std.proofs.Common.{refl, arith, rules}
use Rattle.nb_vault.proofs.Founding.{restored_as}
use Rattle.nb_vault.proofs.Joining.{may_rule}
use Rattle.nb_vault.proofs.vault.opening.restored.Goals as goal

pub restore-requires-clause-ruled : goal.restore-requires-clause-ruled
restore-requires-clause-ruled g c = may_rule c.args.opened.version c.args.opened.rate c.requires.opened.terms.ruled

pub returns : goal.returns
returns g c =
    let room = c.in-Ok.ensures in
    record {
      gives = (
        restored_as g.D.Disk.tells c.args.opened c.args.count _ c.requires.opened c.requires.count (record { group = room.turn.group; item = room.turn.item; places = room.turn.places }) refl refl (search rules) (search rules)
            (record { legal = c.len-opening.ensures.legal; each = search rules }) (search rules) c.len-opening.ensures.len refl room.told refl (omega (arith, room.lines, room.cap_is, c.restore.ensures.cap)) (search rules),
        room.drafts,
      );
    }
