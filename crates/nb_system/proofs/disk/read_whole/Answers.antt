use Rattle.std.proofs.Common.{◌≡◌, ◌∙◌, length, ◌++◌, subst, Option, List, ℕ, arith}
use Rattle.std.proofs.lemmas.List.{places}
use Rattle.nb_system.specs.File.{ReadsPart}
use Rattle.nb_system.proofs.Parts.{read_more}
use Rattle.nb_system.proofs.disk.read_whole.Goals as goal

pub loop-done-preserved : goal.loop-done-preserved
loop-done-preserved g c =
    let s = c.split_at_mut.ensures in
    let n = c.in-Some.ensures.some.0 in
    let kept = c.read_part.auto.buf in
    let long : length (c.split_at_mut.result.0.now ++ c.read_part.new.buf) ≡ length c.loop-done.buf = grind (arith, places, s.front_len, s.back_len, kept) in
    record {
      grows = omega (arith, c.loop-done.invariant.grows, c.read_part.ensures.count);
      within = omega (arith, long, s.front_len, s.back_len, n);
      room = long ∙ c.loop-done.invariant.room;
      content = c.read_part.ensures.content ∙ c.loop-done.invariant.content;
      faithful = c.read_part.ensures.faithful;
      named = c.read_part.ensures.named;
      so_far = read_more _ _ _ _ _ _ _ _ _ _ (omega (arith, c.saturating_add-at.ensures, c.if-at-gt-LAST_PLACE.false)) s.front_len s.value (omega (arith, kept, n)) c.loop-done.invariant.so_far
          (subst (λ (content : Option (List ℕ)). ReadsPart content c.saturating_add-at.result (length c.split_at_mut.result.1.now) c.read_part.new.buf c.in-Some.n) c.loop-done.invariant.content c.in-Some.ensures.some.1);
    }
