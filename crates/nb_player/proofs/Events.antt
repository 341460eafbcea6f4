-- What lines let happen, one behind the other.
use Rattle.std.proofs.Common.{◌≡◌, ℕ, List, [], ◌∷◌, ◌++◌, refl, sym, ap, subst, ◌∙◌, append_assoc}
use Rattle.nb_consumer.specs.State.{Buyer}
use Rattle.nb_merchant.specs.Shop.{Shop}
use Rattle.nb_script.specs.declared.act.Act.{Act}
use Rattle.nb_script.specs.declared.act.Act.TheVariants as on
use Rattle.nb_script.specs.Settings.{Setting}
use Rattle.nb_world.specs.World.{World}
use Rattle.nb_world.specs.declared.event.Event.{Event}
use Rattle.nb_simulator.specs.declared.setup.Setup.{Setup}
use Rattle.nb_simulator.specs.Laws.{behind, IsBehind}
use Rattle.nb_simulator.specs.Worlds.{Simulated}
use Rattle.nb_simulator.specs.Setups.{IsLawful}
use Rattle.nb_player.specs.Playing.{event_of, events_of, events_behind, IsSetUpOf, TellsOf}
use Rattle.nb_player.specs.Report.{ReportIs}

-- a line that serves nothing has one event
pub one_event : (w : World Buyer Shop) (a : Act) → ((packet : ℕ) → a ≡ on.Serve packet → ⊥) → events_of w a ≡ event_of a ∷ []
one_event w (on.Clock moment) other = refl
one_event w (on.Buy consumer tid merchant product limit) other = refl
one_event w (on.Deliver packet) other = refl
one_event w (on.Turn call) other = refl
one_event w (on.Write call) other = refl
one_event w (on.Open call) other = refl
one_event w (on.Answer call) other = refl
one_event w (on.Serve packet) other = absurd (other packet refl)
one_event w (on.QuietConsumer consumer tid) other = refl
one_event w (on.QuietMerchant merchant consumer tid) other = refl
one_event w (on.Stop keep) other = refl
one_event w (on.RestartConsumer consumer) other = refl
one_event w (on.RestartMerchant merchant) other = refl
one_event w (on.Inject whom kind body) other = refl

-- behind five events, one behind the other
pub behind_five : (s : Setup) (es : List Event) (a b c d e : Event) (w : Simulated) → IsBehind s (((((es ++ a ∷ []) ++ b ∷ []) ++ c ∷ []) ++ d ∷ []) ++ e ∷ []) w → IsBehind s (es ++ a ∷ b ∷ c ∷ d ∷ e ∷ []) w
behind_five s es a b c d e w is = subst (λ (xs : List Event). IsBehind s xs w) joined is
  where
    joined : ((((es ++ a ∷ []) ++ b ∷ []) ++ c ∷ []) ++ d ∷ []) ++ e ∷ [] ≡ es ++ a ∷ b ∷ c ∷ d ∷ e ∷ []
    joined = simp append_assoc

-- with a line more
pub events_more : (s : Setup) (es : List Event) (acts : List Act) (a : Act)
    → events_behind s es (acts ++ a ∷ []) ≡ events_behind s es acts ++ events_of (behind s (events_behind s es acts)) a
events_more s es [] a = refl
events_more s es (b ∷ acts) a = events_more s (es ++ events_of (behind s es) b) acts a

-- so a world that is behind the lines is then behind these and one more
pub behind_more : (s : Setup) (acts : List Act) (a : Act) (old new : Simulated) → IsBehind s (events_behind s [] acts) old
    → ((es : List Event) → IsBehind s es old → IsBehind s (es ++ events_of old.world a) new) → IsBehind s (events_behind s [] (acts ++ a ∷ [])) new
behind_more s acts a old new is goes =
    let here : old.world ≡ behind s (events_behind s [] acts) = ap (λ (w : Simulated). w.world) is in
    subst (λ (es : List Event). IsBehind s es new) (ap (λ (w : World Buyer Shop). events_behind s [] acts ++ events_of w a) here ∙ sym (events_more s [] acts a)) (goes (events_behind s [] acts) is)

-- so a lawful set-up of a script is told of behind its lines
pub tells : (said : Setting) (s : Setup) (acts : List Act) (w : Simulated) (report : List ℕ) → IsSetUpOf said s → IsLawful s → acts ≡ said.acts → IsBehind s (events_behind s [] acts) w → ReportIs w.world report
    → TellsOf said report
tells said s acts w report is lawful same here told = record {
  setup = s;
  is = is;
  lawful = lawful;
  told = subst (λ (xs : List Act). ReportIs (behind s (events_behind s [] xs)) report) same (subst (λ (x : World Buyer Shop). ReportIs x report) (ap (λ (v : Simulated). v.world) here) told);
}
