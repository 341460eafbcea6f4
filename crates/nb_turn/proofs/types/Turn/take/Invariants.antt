use Rattle.std.proofs.Common.{◌≡◌, ℕ, List}
use Rattle.std.specs.List.{AllByRecursion}
use Rattle.nb_turn.specs.Views.{found_more}
use Rattle.nb_turn.specs.Passes.{sees, Belongs}
use Rattle.nb_turn.proofs.types.Turn.take.Given as goal

abbrev pub invariant-loop : goal.invariant-loop
invariant-loop g l = record {
  turn : Belongs l.waiting l.self;
  number : l.waiting.number ≡ l.initial.waiting.number;
  waited : (more : List (ℕ × ℕ)) × AllByRecursion (λ (f : ℕ × ℕ). f ≡ (0, 1)) more × (sees l.waiting ≡ found_more more (sees l.initial.waiting));
}
