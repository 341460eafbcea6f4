use Rattle.std.proofs.Common.{◌≡◌, ◌+◌, ◌++◌, ◌∷◌, [], take, sym, ap, ◌∙◌}
use Rattle.std.proofs.lemmas.List.{take_more}
use Rattle.nb_script.specs.declared.act.Act.{Act}
use Rattle.nb_player.proofs.Events.{behind_more}
use Rattle.nb_player.proofs.playing.happen_all.Goals as goal

pub loop-act-preserved : goal.loop-act-preserved
loop-act-preserved c = λ s start.
    let acts = c.args.acts.now in
    let i = c.loop-act.act-index in
    let a : Act = c.act-item.result in
    let e : take (i + 1) acts ≡ take i acts ++ a ∷ [] = take_more acts i a c.loop-act-test.true ∙ ap (λ (x : Act). take i acts ++ x ∷ []) (sym c.act-item.is) in
    rw e (behind_more s (take i acts) a c.loop-act.world c.happen.new.world (c.loop-act.invariant s start) (c.in_ok-happen.ensures s))
