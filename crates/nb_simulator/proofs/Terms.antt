-- The terms of a set-up are kept, and nothing is lost, behind every list of events.
use Rattle.std.proofs.Common.{◌≡◌, ℕ, suc, true, ◌+◌, ◌<◌, ◌≤◌, List, [], ◌∷◌, ◌++◌, length, take, Some, refl, sym, ap, subst, ◌∙◌, arith}
use Rattle.std.proofs.lemmas.List.{length-take-le}
use Rattle.std.proofs.lemmas.Option.{slice_get_within}
use Rattle.std.specs.List.{slice_get}
use Rattle.nb_entry.specs.declared.entry.Entry.{Entry}
use Rattle.nb_book.specs.Laws.{StaysLegal}
use Rattle.nb_consumer.specs.State.{Buyer}
use Rattle.nb_merchant.specs.Shop.{Shop}
use Rattle.nb_escrow.specs.Head.{IsRuling}
use Rattle.nb_escrow.specs.Laws as escrow
use Rattle.nb_escrow.specs.declared.head.Head.{Head}
use Rattle.nb_world.specs.declared.event.Event.{Event}
use Rattle.nb_world.specs.declared.event.Event.TheVariants as on
use Rattle.nb_world.specs.declared.turning.Origin.{Origin}
use Rattle.nb_world.specs.World.{World, commits}
use Rattle.nb_world.specs.Laws.{Begins, CameBy, GrowsInto, HasOrigins}
use Rattle.nb_world.proofs.Lists.{all_at}
use Rattle.nb_world.proofs.Moving.{only_grows}
use Rattle.nb_world.proofs.Rating.{rate_is_kept, house_records_of_rate}
use Rattle.nb_world.proofs.Settling.{commits_left, house_records_legal}
use Rattle.nb_world.proofs.Stopping.{entries_have_origins, run_then, stop_keeps_prefix}
use Rattle.nb_parties.specs.Rules.{house_verdict, shown}
use Rattle.nb_simulator.specs.declared.setup.Setup.{Setup}
use Rattle.nb_simulator.specs.Setups.{IsLawful, world_of}
use Rattle.nb_simulator.specs.Worlds.{rules_of}
use Rattle.nb_simulator.specs.Laws.{behind, head_in, StopsKeepPrefix, TermsAreKept, WorldsOnlyGrow}
use Rattle.nb_simulator.proofs.Lawful.{begins, worlds_are_lawful}

-- ---- the cap

-- there is a last of some
last_there : {A : Type 0} (x : A) (xs : List A) → (y : A) × (slice_get (x ∷ xs) (length xs) ≡ Some y)
last_there x [] = (x, refl)
last_there x (y ∷ xs) = last_there y xs

-- an entry that the house recorded had room
had_room : escrow.RecordsLegal → (head : Head) (cap : ℕ) → IsRuling head → (w : World Buyer Shop) (origin : Origin) → CameBy (house_verdict head cap) w origin → origin.place < cap
had_room records head cap ruling w origin came =
    let room : length (take origin.place w.durable) < cap =
    (records (take origin.place w.durable) head cap came.packet.kind came.packet.body came.moment came.entry ruling came.ruled).1 in
    let within : origin.place < length w.durable = slice_get_within w.durable origin.place came.entry came.stands in
    let least : origin.place ≤ length w.durable = omega (arith, within) in
    subst (λ (n : ℕ). n < cap) (length-take-le origin.place w.durable least) room

-- the last entry is the set-up's, or came by the last of the calls that entries came by
module _ (records : escrow.RecordsLegal) (head : Head) (cap : ℕ) (ruling : IsRuling head) (first w : World Buyer Shop) (has : HasOrigins first w) (within : length first.durable ≤ cap) where
  all_had_room : (origins : List Origin) → w.origins ≡ origins → ((k : ℕ) (origin : Origin) → slice_get w.origins k ≡ Some origin → CameBy (house_verdict head cap) w origin)
      → length w.durable ≤ cap
  all_had_room [] is came = let as_many = has.as_many in let none : length w.origins ≡ 0 = ap length is in omega (arith, as_many, none, within)
  all_had_room (origin ∷ more) is came =
      let last = last_there origin more in
      let there : slice_get w.origins (length more) ≡ Some last.0 = ap (λ (os : List Origin). slice_get os (length more)) is ∙ last.1 in
      let room : last.0.place < cap = had_room records head cap ruling w last.0 (came (length more) last.0 there) in
      let place : last.0.place ≡ length first.durable + length more = has.in_order (length more) last.0 there in
      let count : length w.origins ≡ suc (length more) = ap length is in
      let as_many = has.as_many in
      omega (arith, as_many, count, place, room)

within_cap : StaysLegal → escrow.RecordsLegal → (s : Setup) → IsLawful s → (es : List Event) → length (behind s es).durable ≤ s.cap
within_cap stays records s is es =
    let lawful = worlds_are_lawful stays records s is es in
    all_had_room records (head_in s) s.cap is.ruling (world_of s).world (behind s es) (entries_have_origins (rules_of (world_of s)) (world_of s).world refl es) is.within
    (behind s es).origins refl (λ k origin there. all_at (CameBy (house_verdict (head_in s) s.cap) (behind s es)) (behind s es).origins k origin there lawful.came)

pub terms_are_kept : StaysLegal → escrow.RecordsLegal → TermsAreKept
terms_are_kept stays records s is es =
    let p = rules_of (world_of s) in
    let legal = house_records_legal records p shown (head_in s) s.cap (λ entries request. refl) is.ruling in
    let of_rate = house_records_of_rate records p shown (head_in s) s.cap (λ entries request. refl) is.ruling in
    let kept = rate_is_kept stays p (world_of s).world s.version s.rate legal of_rate (begins s is) is.legal.each es in
    let within : length (behind s (es ++ on.Stop true ∷ [])).durable ≤ s.cap = within_cap stays records s is (es ++ on.Stop true ∷ []) in
    ((kept.0, within_cap stays records s is es), (kept.1, subst (λ (entries : List Entry). length entries ≤ s.cap) (commits_left p (world_of s).world es) within))

-- ---- nothing is lost

pub worlds_only_grow : WorldsOnlyGrow
worlds_only_grow s es more =
    subst (GrowsInto (behind s es)) (sym (run_then (rules_of (world_of s)) (world_of s).world es more)) (only_grows (rules_of (world_of s)) (behind s es) more)

pub stops_keep_prefix : StopsKeepPrefix
stops_keep_prefix s es keep =
    subst (λ (w : World Buyer Shop). Begins (commits (behind s es)) w.durable) (sym (run_then (rules_of (world_of s)) (world_of s).world es (on.Stop keep ∷ [])))
    (stop_keeps_prefix (rules_of (world_of s)) (behind s es) keep)
