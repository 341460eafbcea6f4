use Rattle.std.proofs.Common.{rules, ◌≡◌, ◌++◌}
use Rattle.nb_seal.proofs.Fronts.{tail_written, tail_appended}
use Rattle.nb_seal.proofs.seals.unseal.Goals as goal

pub returns-then-open_text-clause-opened : goal.returns-then-open_text-clause-opened
returns-then-open_text-clause-opened c =
    let all : c.deref_mut.result.now ≡ c.args.out.now.items ++ c.in_ok-iv.text.now = search rules in
    let tail = tail_appended c.len-start.result c.args.out.now.items c.in_ok-iv.text.now c.deref_mut.result.now all (search rules) in
    let opened = rw (tail, c.new.ensures) at (c.if-open_text.ensures.opened (search rules)) in
    (c.open_text.new.text, rw c.in_ok-iv.ensures.parts opened, tail_written _ _ c.args.out.now.items c.in_ok-iv.text.now c.extend_from_slice.new.self.items _ _ (search rules) (search rules) (search rules) (search rules) (search rules))
