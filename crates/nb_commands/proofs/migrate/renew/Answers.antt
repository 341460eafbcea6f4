use Rattle.std.proofs.Common.{◌≡◌, ◌+◌, ◌++◌, ℕ, List, length, length-append, take, drop, arith, ap, ◌∙◌, refl}
use Rattle.std.proofs.lemmas.List.{take_at}
use Rattle.nb_port.specs.Disk.{put_at}
use Rattle.nb_units.specs.Fields.{be2}
use Rattle.nb_commands.proofs.Moving.{renewed_so}
use Rattle.nb_commands.proofs.migrate.renew.Goals as goal

pub returns-clause-items : goal.returns-clause-items
returns-clause-items c =
    let front = c.split_at_mut-behind.result.0.now in
    let bytes = c.copy_from_slice.new.self in
    let rest = c.split_at_mut.result.1.now in
    let all = front ++ (bytes ++ rest) in
    let whole : List ℕ = take (c.args.gate + 1) c.args.image.now.items in
    let slice : c.as_mut_slice.result.now ≡ whole = c.as_mut_slice.ensures.value ∙ c.truncate.ensures.items in
    let rate : bytes ≡ be2 c.args.rate = c.copy_from_slice.ensures.after ∙ c.to_be_bytes.ensures in
    let two : length bytes ≡ 2 = ap length rate in
    let long : length all ≡ c.truncate.new.self.len =
    omega (arith, length-append front (bytes ++ rest), length-append bytes rest, two, c.split_at_mut-behind.ensures.front_len, c.split_at_mut-behind.ensures.back_len, c.split_at_mut.ensures.back_len, c.as_mut_slice.ensures.len) in
    take_at all _ c.truncate.new.self.len long
    ∙ renewed_so whole front c.split_at_mut-behind.result.1.now rest bytes all refl (c.split_at_mut-behind.ensures.front ∙ ap (take 92) slice) (c.split_at_mut-behind.ensures.back ∙ ap (drop 92) slice) c.split_at_mut.ensures.back two
    ∙ ap (put_at whole 92) rate
