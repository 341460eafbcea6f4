-- The version and the rate of a journal along every list of events.
use Rattle.std.proofs.Common.{◌≡◌, ℕ, ◌+◌, suc, true, List, [], ◌∷◌, ◌++◌, length, take, Some, refl, sym, ap, subst, ◌∙◌, arith, length-append}
use Rattle.std.specs.List.{slice_get, AllByRecursion}
use Rattle.nb_entry.specs.declared.entry.Entry.{Entry}
use Rattle.nb_book.specs.Laws.{StaysLegal}
use Rattle.nb_book.specs.Legal.{IsOfRate, LegalUnder}
use Rattle.nb_turns.specs.Turns.{Request}
use Rattle.nb_escrow.specs.Laws as escrow
use Rattle.nb_world.specs.declared.event.Event.{Event}
use Rattle.nb_world.specs.declared.event.Event.TheVariants as on
use Rattle.nb_world.specs.declared.turning.Origin.{Origin}
use Rattle.nb_world.specs.declared.turning.Verdict.{Verdict}
use Rattle.nb_world.specs.World.{World, request_of}
use Rattle.nb_world.specs.Steps.{run}
use Rattle.nb_world.specs.Laws.{CameBy, IsLawfulWorld, HasOrigins, Begins}
use Rattle.nb_world.specs.Headline.{RateIsKept, HouseRecordsOfRate}
use Rattle.nb_world.proofs.Chains.{same_some}
use Rattle.nb_world.proofs.Lists.{all_append}
use Rattle.nb_world.proofs.Moving.{only_grows}
use Rattle.nb_world.proofs.Serving.{world_law}
use Rattle.nb_world.proofs.Settling.{commits_left}
use Rattle.nb_world.proofs.Stopping.{entries_have_origins}

-- an element behind a front
get_behind : {A : Type 0} (front more : List A) (k : ℕ) → slice_get (front ++ more) (length front + k) ≡ slice_get more k
get_behind [] more k = let none : 0 + k ≡ k = omega arith in ap (slice_get more) none
get_behind (x ∷ front) more k =
    let further : length (x ∷ front) + k ≡ suc (length front + k) = omega arith in
    ap (slice_get (x ∷ (front ++ more))) further ∙ get_behind front more k

-- where a verdict records only entries that are so, those that came by it are, and with those of a first world that are so all are
module _ {C M : Type 0} (So : Entry → Type 0) (verdict : List Entry → Request → Verdict)
    (records : (entries : List Entry) (request : Request) (entry : Entry) → (verdict entries request).entry ≡ Some entry → So entry)
    (first w : World C M) where
  came_so : (place : ℕ) (more : List Entry) (origins : List Origin) → length more ≡ length origins
      → ((k : ℕ) → slice_get w.durable (place + k) ≡ slice_get more k)
      → ((k : ℕ) (origin : Origin) → slice_get origins k ≡ Some origin → origin.place ≡ place + k)
      → AllByRecursion (CameBy verdict w) origins → AllByRecursion So more
  came_so place [] origins as_many stand in_order came = tt
  came_so place (entry ∷ more) [] as_many stand in_order came = absurd (omega (arith, as_many))
  came_so place (entry ∷ more) (origin ∷ origins) as_many stand in_order came =
      let is = came.0 in
      let its : is.entry ≡ entry = same_some _ _ (sym is.stands ∙ ap (slice_get w.durable) (in_order 0 origin refl) ∙ stand 0) in
      let one : (k : ℕ) → place + 1 + k ≡ place + suc k = λ k. omega arith in (
        subst So its (records (take origin.place w.durable) (request_of is.packet is.moment) is.entry is.ruled),
        came_so (place + 1) more origins (omega (arith, as_many)) (λ k. ap (slice_get w.durable) (one k) ∙ stand (suc k))
            (λ k o there. in_order (suc k) o there ∙ sym (one k)) came.1,
      )

  pub all_so : Begins w.durable first.durable → HasOrigins first w → AllByRecursion (CameBy verdict w) w.origins → AllByRecursion So first.durable → AllByRecursion So w.durable
  all_so begins origins came so =
      let more = begins.0 in
      let as_many : length more ≡ length w.origins = omega (arith, origins.as_many, ap length begins.1, length-append first.durable more) in
      subst (AllByRecursion So) (sym begins.1)
      (all_append So first.durable more so
      (came_so (length first.durable) more w.origins as_many (λ k. ap (λ entries. slice_get entries (length first.durable + k)) begins.1 ∙ get_behind first.durable more k) origins.in_order came))

pub rate_is_kept : {C M : Type 0} → StaysLegal → RateIsKept C M
rate_is_kept {C} {M} stays p w version rate legal of_rate setup so es = (under es, subst (LegalUnder version rate) (commits_left p w es) (under (es ++ on.Stop true ∷ [])))
  where
    under : (es : List Event) → LegalUnder version rate (run p w es).durable
    under es =
        let lawful : IsLawfulWorld p.verdict (run p w es) = world_law stays p w legal setup es in
        record {
          legal = lawful.legal;
          each = all_so (IsOfRate version rate) p.verdict of_rate w (run p w es) (only_grows p w es).durable (entries_have_origins p w setup.no_origins es) lawful.came so;
        }

pub house_records_of_rate : {C M : Type 0} → escrow.RecordsLegal → HouseRecordsOfRate C M
house_records_of_rate legal p shown head cap by_house ruling entries request entry has =
    (legal entries head cap request.kind request.body request.moment entry ruling (ap (λ (x : Verdict). x.entry) (sym (by_house entries request)) ∙ has)).0.1
