use Rattle.std.proofs.Common.{◌≡◌, ℕ, min, length, take, drop, ◌++◌, List, sym, ap, ◌∙◌, refl, subst, arith}
use Rattle.std.proofs.lemmas.List.{take_at, length-take, length-drop}
use Rattle.nb_play.specs.declared.source.DrillSource.TheInside.{Inside}
use Rattle.nb_play.specs.Feed.{Feed, count_of}
use Rattle.nb_play.proofs.Feeding.{Ready, done, ready_now, ready_next, gives}
use Rattle.nb_play.proofs.source.DrillSourceSource.read.Goals.{then-self-as_slice+else-self-frame_count+in-Ok, else-self-as_slice}
use Rattle.nb_play.proofs.source.DrillSourceSource.read.Goals as goal

pub returns-then-self-frame_count-clause-gives : goal.returns-then-self-frame_count-clause-gives
returns-then-self-frame_count-clause-gives c =
    (sym (ap (λ (f : Feed). f.left) c.self.view_is) ∙ done c.self.inside.seed c.self.inside.at c.self.inside.made (count_of c.self.inside.orders) c.self.inside.frame (c.if-self-as_slice.true ∙ ap length c.as_slice.ensures) (c.if-self-frame_count.true ∙ c.frame_count.ensures), refl)

abbrev IsReady : Inside → List ℕ → Type 0
IsReady s left = Ready s.seed s.orders s.at s.made s.frame left

ready : (c : goal.After-self-2-1) → IsReady c.if-self-as_slice.self-inside c.args.self.now.left
ready c =
    let inside = c.self.inside in
    let held = sym (ap (λ (f : Feed). f.left) c.self.view_is) in
    elim c.if-self-as_slice.branch [
      | then-self-as_slice+else-self-frame_count+in-Ok w ↦
          subst (λ (s : Inside). IsReady s c.args.self.now.left) (sym w.self-inside-is)
          (ready_next inside.seed inside.orders inside.at inside.made inside.frame _ c.args.self.now.left c.self.invariant.few (w.if-self-as_slice.true ∙ ap length c.as_slice.ensures) (omega (arith, c.self.invariant.made, w.if-self-frame_count.false, w.frame_count.ensures)) w.in-Ok.ensures.made held)
      | else-self-as_slice w ↦
          subst (λ (s : Inside). IsReady s c.args.self.now.left) (sym w.self-inside-is)
          (ready_now inside.seed inside.orders inside.at inside.made inside.frame c.args.self.now.left c.self.invariant.few c.self.invariant.within c.self.invariant.made c.self.invariant.last held (λ e. w.if-self-as_slice.false (e ∙ ap length (sym c.as_slice.ensures))))
    ]

-- what is left of the frame
waits : (c : goal.After-self-2-1) → c.split_at.result.1.now ≡ drop c.if-self-as_slice.self-inside.at c.if-self-as_slice.self-inside.frame
waits c = c.split_at.ensures.back ∙ ap (drop c.if-self-as_slice.self-inside.at) c.as_slice-2.ensures

pub invariant_of-self-2 : goal.invariant_of-self-2
invariant_of-self-2 c =
    let r = ready c in
    record {
      few = r.0;
      within = omega (arith, c.min-n.ensures, ap length (waits c), length-drop c.if-self-as_slice.self-inside.at c.if-self-as_slice.self-inside.frame, r.1);
      made = r.2;
      last = r.3;
    }

pub returns-clause-gives : goal.returns-clause-gives
returns-clause-gives c =
    let s = c.if-self-as_slice.self-inside in
    let n = c.min-n.result in
    let long : length c.copy_from_slice.new.self ≡ n = omega (arith, c.copy_from_slice.ensures.len, length-take n c.args.buf.now, c.min-n.ensures) in
    let copied : take n (c.copy_from_slice.new.self ++ drop n c.args.buf.now) ≡ take n (drop s.at s.frame) =
    take_at c.copy_from_slice.new.self (drop n c.args.buf.now) n long ∙ c.copy_from_slice.ensures.after ∙ c.split_at-2.ensures.front ∙ ap (take n) (waits c) in
    gives s.seed s.orders s.at s.made n (length c.args.buf.now) s.frame c.args.self.now.left (c.copy_from_slice.new.self ++ drop n c.args.buf.now) (ready c) (c.min-n.ensures ∙ ap (λ (xs : List ℕ). min (length xs) (length c.args.buf.now)) (waits c)) c.requires copied
