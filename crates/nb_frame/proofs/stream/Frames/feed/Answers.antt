use Rattle.std.proofs.Common.{◌≡◌, ◌+◌, ◌∙◌, ap, length, length-append, arith}
use Rattle.nb_frame.specs.State.{Collected, waiting}
use Rattle.nb_frame.proofs.Shortness.{short_length}
use Rattle.nb_frame.proofs.stream.Frames.feed.Goals as goal

pub unwrap-requires : goal.unwrap-requires
unwrap-requires c =
    c.extend_from_slice.ensures.succeeds
    (omega (arith, short_length (waiting c.args.self.now) c.requires.ready, ap (λ (s : Collected). length (waiting s)) c.self.view_is, ap length c.drop_front.ensures.items, c.drop_front.ensures.room, c.self.invariant.1, c.requires.short))

-- what was held is short, and so is the piece
pub invariant_of-self : goal.invariant_of-self
invariant_of-self c =
    let waits : length c.drop_front.new.held.items ≡ length (waiting c.args.self.now) = ap length c.drop_front.ensures.items ∙ ap (λ (s : Collected). length (waiting s)) c.self.view_is in
    let taken : c.self.inside.taken ≡ c.args.self.now.taken = ap (λ (s : Collected). s.taken) c.self.view_is in
    let len : length c.extend_from_slice.new.self.items ≡ length c.drop_front.new.held.items + length c.args.piece.now = grind (arith, c.extend_from_slice.ensures.items, c.unwrap.ensures, length-append) in (
      omega arith,
      omega (arith, c.drop_front.ensures.room, c.self.invariant.1, c.extend_from_slice.ensures.capacity),
      omega (arith, len, waits, taken, c.requires.near),
      omega (arith, len, waits, short_length (waiting c.args.self.now) c.requires.ready, c.requires.short),
    )
