-- A world that is a set-up's behind some events is, one step on, the set-up's behind these and that event.
use Rattle.std.proofs.Common.{◌≡◌, ℕ, List, [], ◌∷◌, ◌++◌, Option, Result, Ok, Err, sym, ap, ◌∙◌}
use Rattle.std.specs.Prelude.{IfOk}
use Rattle.nb_units.specs.declared.memory.NoMemory.{NoMemory}
use Rattle.nb_escrow.specs.declared.head.Head.{Head}
use Rattle.nb_consumer.specs.State.{Buyer}
use Rattle.nb_merchant.specs.Shop.{Shop}
use Rattle.nb_world.specs.declared.event.Event.{Event}
use Rattle.nb_world.specs.World.{World}
use Rattle.nb_world.specs.Steps.{step, next, or_same}
use Rattle.nb_world.proofs.Stopping.{run_then}
use Rattle.nb_simulator.specs.declared.setup.Setup.{Setup}
use Rattle.nb_simulator.specs.declared.world.Stepped.{Stepped}
use Rattle.nb_simulator.specs.declared.world.Stepped.TheVariants.{Moved, Unfit}
use Rattle.nb_simulator.specs.Setups.{world_of}
use Rattle.nb_simulator.specs.Worlds.{Simulated, rules_of, Tells, SameHouse}
use Rattle.nb_simulator.specs.Laws.{behind, IsBehind}

next_is : (led : Option (World Buyer Shop)) (old new : World Buyer Shop) (stepped : Stepped) → Tells led old new stepped → new ≡ or_same old led
next_is led old new Moved tells = sym (ap (or_same old) tells)
next_is led old new Unfit tells = tells.1 ∙ sym (ap (or_same old) tells.0)

same_of : (a b : Simulated) → a.head ≡ b.head → a.cap ≡ b.cap → a.world ≡ b.world → a ≡ b
same_of a b head cap world =
    ap (λ (h : Head). record a { head = h }) head ∙ ap (λ (c : ℕ). record a { head = b.head; cap = c }) cap ∙ ap (λ (w : World Buyer Shop). record b { world = w }) world

one_more : (old new : Simulated) (e : Event) (stepped : Stepped) → Tells (step (rules_of old) old.world e) old.world new.world stepped → SameHouse old new
    → (s : Setup) (es : List Event) → IsBehind s es old → IsBehind s (es ++ e ∷ []) new
one_more old new e stepped tells house s es is =
    let led : new.world ≡ next (rules_of old) old.world e = next_is (step (rules_of old) old.world e) old.world new.world stepped tells in
    let goes : next (rules_of old) old.world e ≡ next (rules_of (world_of s)) (behind s es) e = ap (λ (x : Simulated). next (rules_of x) x.world e) is in
    let all : behind s (es ++ e ∷ []) ≡ next (rules_of (world_of s)) (behind s es) e = run_then (rules_of (world_of s)) (world_of s).world es (e ∷ []) in
    same_of new (record (world_of s) { world = behind s (es ++ e ∷ []) }) (house.0 ∙ ap (λ (x : Simulated). x.head) is) (house.1 ∙ ap (λ (x : Simulated). x.cap) is) (led ∙ goes ∙ sym all)

pub steps_on : (old new : Simulated) (e : Event) (result : Result Stepped NoMemory)
    → IfOk result (λ stepped. Tells (step (rules_of old) old.world e) old.world new.world stepped) → SameHouse old new
    → IfOk result (λ _. (s : Setup) (es : List Event) → IsBehind s es old → IsBehind s (es ++ e ∷ []) new)
steps_on old new e (Ok stepped) tells house = one_more old new e stepped tells house
steps_on old new e (Err none) tells house = tt
