-- A journal has one item more at most behind a step.
use Rattle.std.proofs.Common.{◌≡◌, ℕ, ◌+◌, ◌<◌, ◌^◌, List, ◌++◌, length, Some, None, ap, ◌∙◌, arith, length-append}
use Rattle.nb_msgs.specs.declared.node.Step.{Step}
use Rattle.nb_msgs.specs.declared.node.Step.TheVariants as step
use Rattle.nb_msgs.specs.Steps.{kept_in}

one_more : (s : Step) → length (kept_in s) < 2
one_more (step.Move (Some x) to m) = omega (arith)
one_more (step.Move None to m) = omega (arith)
one_more (step.Ended x end) = omega (arith)
one_more (step.Ignored why) = omega (arith)

pub few_more : (items kept : List (List ℕ)) (s : Step) → kept ≡ items ++ kept_in s → length items + 1 < 2 ^ 32 → length kept < 2 ^ 32
few_more items kept s is room =
    let one = one_more s in
    let all : length kept ≡ length items + length (kept_in s) = ap length is ∙ length-append items (kept_in s) in
    omega (arith, one, all, room)
