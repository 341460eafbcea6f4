use Rattle.std.proofs.Common.{◌≡◌, ◌+◌, ◌++◌, take, vec_capacity, vec_len}
use Rattle.nb_units.proofs.pen.Pen.raw.Given as goal

abbrev pub invariant-loop-x : goal.invariant-loop-x
invariant-loop-x l =
    (l.self.out.ghost_name ≡ l.initial.self.out.ghost_name)
    × (l.self.out.now.items ≡ l.initial.self.out.now.items ++ take l.x-index l.b)
    × (vec_len l.self.out.now ≡ vec_len l.initial.self.out.now + l.x-index)
    × (vec_capacity l.self.out.now ≡ vec_capacity l.initial.self.out.now)
