use Rattle.std.proofs.Common.{List, ℕ, ◌≡◌, ◌+◌, refl, sym, ap, subst, ◌∙◌, drop}
use Rattle.nb_units.specs.Frames.{AreBytes, front_of}
use Rattle.nb_frame.specs.State.{Collected, waiting}
use Rattle.nb_frame.specs.Faults.{header_of, placed}
use Rattle.nb_frame.specs.Looks.{IsShort, LooksAs}
use Rattle.nb_frame.specs.Collected.{TakesFrame}
use Rattle.nb_frame.specs.declared.look.Seen.TheVariants as seen
use Rattle.nb_frame.proofs.Shortness.{short_length}
use Rattle.nb_frame.proofs.Taking.{takes_frame, moved_is}
use Rattle.nb_frame.proofs.stream.Frames.next.Goals as goal

pub returns-in-Whole : goal.returns-in-Whole
returns-in-Whole c =
    let held : List ℕ = c.self.inside.held.items in
    let new : Collected = record { held = held; at = c.self.inside.at + 8 + c.in-Whole.len; taken = c.self.inside.taken + (8 + c.in-Whole.len) } in
    let is : c.split_at.result.1.now ≡ drop c.self.inside.at held = c.split_at.ensures.back ∙ ap (drop c.self.inside.at) c.as_slice.ensures.value in
    subst (λ (old : Collected). TakesFrame old new (record { kind = c.in-Whole.kind; start = c.self.inside.at + 8; len = c.in-Whole.len })) c.self.view_is
    (takes_frame held c.self.inside.at c.self.inside.taken c.in-Whole.kind c.in-Whole.len (subst AreBytes is c.in-Whole.ensures.fits)
    (subst (λ (bytes : List ℕ). LooksAs bytes (seen.Whole c.in-Whole.kind c.in-Whole.len)) is c.in-Whole.ensures.seen))

pub returns-in-Short : goal.returns-in-Short
returns-in-Short c =
    let is : c.split_at.result.1.now ≡ waiting c.args.self.now = c.split_at.ensures.back ∙ ap (drop c.self.inside.at) c.as_slice.ensures.value ∙ ap waiting c.self.view_is in
    let short : IsShort (front_of (waiting c.args.self.now)) = subst (λ (bytes : List ℕ). IsShort (front_of bytes)) is c.in-Short.ensures.seen in
    (refl, short, short_length (waiting c.args.self.now) short)

pub returns-in-Bad : goal.returns-in-Bad
returns-in-Bad c =
    let is : c.split_at.result.1.now ≡ waiting c.args.self.now = c.split_at.ensures.back ∙ ap (drop c.self.inside.at) c.as_slice.ensures.value ∙ ap waiting c.self.view_is in (
      refl,
      (
        header_of c.in-Bad.fault,
        ap front_of (sym is) ∙ c.in-Bad.ensures.seen.0,
        c.behind.ensures ∙ moved_is c.self.inside.taken c.in-Bad.fault ∙ ap (λ (s : Collected). placed s.taken (header_of c.in-Bad.fault)) c.self.view_is,
      ),
    )
