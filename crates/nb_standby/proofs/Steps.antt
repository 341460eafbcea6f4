-- What `follow` does is a step of the world.
use Rattle.std.proofs.Common.{◌≡◌, inl, inr, ⊎_elim, ℕ, true, false, List, [], ◌++◌, Ok, Result, refl, sym, subst}
use Rattle.std.proofs.lemmas.List.{append-nil}
use Rattle.nb_seal.proofs.Opening.{length-hmac_of}
use Rattle.nb_port.specs.Tells.{DiskTells}
use Rattle.nb_entry.specs.declared.entry.Entry.{Entry}
use Rattle.nb_turns.specs.Turns.{State}
use Rattle.nb_vault.specs.declared.taking.TakeIn.{TakeIn}
use Rattle.nb_vault.specs.declared.taking.TakeIn.TheVariants as takes
use Rattle.nb_vault.specs.Taking.{TakesIn}
use Rattle.nb_vault.specs.Vaults.{Chronicled, doubt_in, entries_in, state_of}
use Rattle.nb_standby.specs.declared.limits.TheConstants.{PRIMARY}
use Rattle.nb_standby.specs.declared.shipped.Shipped.{Shipped}
use Rattle.nb_standby.specs.Spelling.{IsShipped, ship_tag, signed}
use Rattle.nb_standby.specs.Following.{FollowsAs, code_of, house_key}
use Rattle.nb_standby.specs.World.{TakesTo}
use Rattle.nb_standby.specs.Laws.{FollowIsStep, OpensOver, Restarts, StopInFollowIsStep, StopIsStep}
use Rattle.nb_standby.proofs.Layouts.{shipped_reads_back}

module _ {D : Type 0} (tells : DiskTells D) (old new : Chronicled D) where
  pub takes_to : (place : ℕ) (e : Entry) (how : TakeIn) → TakesIn tells old new PRIMARY place e how → TakesTo old.origin.charter old.origin.cap (state_of old) place e how (state_of new)
  takes_to place e takes.Taken t = (t.over, t.went.turn, t.judged)
  takes_to place e takes.Same t = (t.over, t.went.turn, t.judged)
  takes_to place e takes.Other t = (t.over, t.went.turn, t.judged)
  takes_to place e takes.Ahead t = (t.over, t.went.turn, t.judged)
  takes_to place e takes.Illegal t = (t.over, t.went.turn, t.judged)
  takes_to place e (takes.DiskFault before after) (inl went) = inl went.turn
  takes_to place e (takes.DiskFault before after) (inr t) = inr (t.went.turn, t.judged)
  takes_to place e (takes.Worn faults) t = (t.0, t.1.turn)

  signed_step : (r : Shipped) (code : ℕ) → r.tag ≡ ship_tag (house_key old) r.place r.entry → FollowsAs tells old new (Ok r) code
      → (how : TakeIn) × (code ≡ code_of how) × TakesTo old.origin.charter old.origin.cap (state_of old) r.place r.entry how (state_of new)
  signed_step r code tag (inl other) = absurd (other.0 tag)
  signed_step r code tag (inr t) = (t.1.how, t.1.code_is, takes_to r.place r.entry t.1.how t.1.taken)

pub follow_is_step : {D : Type 0} (tells : DiskTells D) → FollowIsStep tells
follow_is_step tells world k old new place e code small is at was follows =
    let r : Shipped = signed (house_key old) place e in
    let fits : IsShipped r = record { place = small; entry = is; tag = length-hmac_of (house_key old) _ } in
    let step = signed_step tells old new r code refl (subst (λ (read : Result Shipped ℕ). FollowsAs tells old new read code) (shipped_reads_back r fits) follows) in
    let how = step.0 in
    let taken = subst (λ (s : State). TakesTo old.origin.charter old.origin.cap s place e how (state_of new)) (sym was) step.2 in
    (how, step.1, (record { place = place; entry = e }, at, state_of new, taken, refl))

-- a vault that was opened is in such a state
pub at_start : {D : Type 0} (v : Chronicled D) (entries : List Entry) → v.lines ≡ [] → v.origin.entries ≡ entries → v.stale ≡ false
    → state_of v ≡ record { entries = entries; doubt = []; faults = 0 }
at_start v entries none is fresh = rw (none, fresh, is, append-nil entries) refl

pub stop_is_step : {D : Type 0} (tells : DiskTells D) → StopIsStep tells
stop_is_step tells old opened image (inl stands) over =
    let is = over.whole image old.origin.charter old.origin.cap (entries_in old) over.content stands in
    record { kept = false; state_is = at_start opened (entries_in old) over.opens.lines is.2 over.opens.durable.fresh; charter = is.0; cap = is.1 }
stop_is_step tells old opened image (inr stands) over =
    let is = over.whole image old.origin.charter old.origin.cap (entries_in old ++ doubt_in old) over.content stands in
    record { kept = true; state_is = at_start opened (entries_in old ++ doubt_in old) over.opens.lines is.2 over.opens.durable.fresh; charter = is.0; cap = is.1 }

pub stop_in_follow_is_step : {D : Type 0} (tells : DiskTells D) → StopInFollowIsStep tells
stop_in_follow_is_step tells old new opened image only left over = ⊎_elim
    (λ stands. inl (stop_is_step tells old opened image stands over))
    (λ stands. inr (stop_is_step tells new opened image stands over))
    (only.each image left)
