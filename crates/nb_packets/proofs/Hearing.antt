-- What a node hears, said of its place among the others.
use Rattle.std.proofs.Common.{◌≡◌, ◌∙◌, ℕ, false, List, Some, Result, Ok, Err, refl, sym, ap, subst}
use Rattle.std.specs.Prelude.{IfOk, set}
use Rattle.std.specs.Result.{is_ok}
use Rattle.std.specs.List.{slice_get}
use Rattle.std.proofs.lemmas.Bool.{false≢true}
use Rattle.nb_units.specs.declared.memory.NoMemory.{NoMemory}
use Rattle.nb_msgs.specs.declared.message.Message.{Message}
use Rattle.nb_world.specs.World.{Going, Stays}
use Rattle.nb_packets.specs.declared.did.Did.{Did}
use Rattle.nb_packets.specs.declared.did.Did.TheVariants.{Stayed}
use Rattle.nb_packets.specs.Doing.{Follows, DidSo, WentAt}
use Rattle.nb_packets.proofs.Places.{set_same}

module _ {S : Type 0} (hears : S → Result Message ℕ → Going S) where
  -- a node that hears a message goes at its place as it goes alone
  pub went : (read : Result Message ℕ) (m : Message) (old : List S) (i : ℕ) (was now : S) (result : Result Did NoMemory) → read ≡ Ok m → slice_get old i ≡ Some was
      → IfOk result (λ did. Follows (hears was (Ok m)) was now did × DidSo did)
      → IfOk result (λ did. WentAt (λ (s : S). hears s read) old (set old i now) i did × DidSo did)
  went read m old i was now (Ok did) is there alone =
      (record { was = was; now = now; there = there; behind = refl; follows = subst (λ (g : Going S). Follows g was now did) (sym (ap (hears was) is)) alone.0 }, alone.1)
  went read m old i was now (Err none) is there alone = tt

  module _ (bad : (s : S) (place : ℕ) → hears s (Err place) ≡ Stays) where
    -- a body that is none leaves it as it is
    pub stays : (read : Result Message ℕ) (place : ℕ) (old : List S) (i : ℕ) (was : S) → read ≡ Err place → slice_get old i ≡ Some was → WentAt (λ (s : S). hears s read) old old i Stayed
    stays read place old i was is there =
        record { was = was; now = was; there = there; behind = sym (set_same old i was there); follows = subst (λ (g : Going S). Follows g was was Stayed) (sym (ap (hears was) is ∙ bad was place)) refl }

    pub unread : (read : Result Message ℕ) (s : S) → is_ok read ≡ false → hears s read ≡ Stays
    unread (Ok m) s e = absurd (false≢true (sym e))
    unread (Err place) s e = bad s place
