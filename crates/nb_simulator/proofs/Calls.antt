-- A packet that is for the house is a call of it.
use Rattle.std.proofs.Common.{◌≡◌, ℕ, ◌+◌, List, [], ◌∷◌, ◌++◌, Option, Some, None, refl, sym, ap, ◌∙◌}
use Rattle.std.specs.Prelude.{option_map}
use Rattle.std.specs.List.{slice_get}
use Rattle.nb_world.specs.declared.call.Call.{Call}
use Rattle.nb_msgs.specs.declared.node.To.TheVariants as to
use Rattle.nb_world.specs.declared.call.CallPhase.TheVariants.{Waiting}
use Rattle.nb_world.specs.declared.packet.Packet.{Packet}
use Rattle.nb_world.specs.Steps.{deliver_of}
use Rattle.nb_world.proofs.Chains.{same_some}
use Rattle.nb_simulator.specs.Worlds.{Simulated, rules_of}
use Rattle.nb_simulator.proofs.Nodes.{house_hears_is}

pub packet_there : {A B : Type 0} (f : A → B) (o : Option A) (y : B) → option_map f o ≡ Some y → (x : A) × (o ≡ Some x) × (f x ≡ y)
packet_there f None y e = absurd cc
packet_there f (Some x) y e = (x, refl, same_some (f x) y e)

pub house_called : (s : Simulated) (k : ℕ) (calls : List Call) → option_map (λ (packet : Packet). packet.to) (slice_get s.world.packets k) ≡ Some to.Server
    → calls ≡ s.world.calls ++ record { packet = k; moment = s.world.moment; phase = Waiting } ∷ [] → deliver_of (rules_of s) s.world k ≡ Some (record s.world { calls = calls })
house_called s k calls whom is =
    let there = packet_there (λ (packet : Packet). packet.to) (slice_get s.world.packets k) to.Server whom in
    house_hears_is (rules_of s) s.world k there.0 there.1 there.2 ∙ ap (λ (cs : List Call). Some (record s.world { calls = cs })) (sym is)
