-- What a run of turns plays leads a world as the run leads the house.
use Rattle.std.proofs.Common.{◌≡◌, ◌≢◌, ◌⊎◌, inl, inr, ℕ, ◌+◌, Bool, true, false, List, [], ◌∷◌, ◌++◌, length, take, Option, None, Some, refl, sym, ap, subst, ◌∙◌, append_assoc, arith, length-append}
use Rattle.std.proofs.lemmas.List.{append-nil}
use Rattle.std.specs.Prelude.{if◌then◌else◌}
use Rattle.std.specs.Option.{option_to_list, is_some}
use Rattle.std.specs.List.{cons_option, AllByRecursion}
use Rattle.nb_entry.specs.declared.entry.Entry.{Entry}
use Rattle.nb_turns.specs.Turns.{Request, House, State, Outcome, Decides, Fails, Refuses, Answered as Reply, Round, SettlesInto, Unsettled, Doubts, Turn, Run, answered, answered_in, alike, decided, recorded, with_entry, last_state}
use Rattle.nb_turns.specs.declared.mark.Mark.TheVariants as mark
use Rattle.nb_world.specs.declared.event.Event.{Event}
use Rattle.nb_world.specs.World.{Rules, World}
use Rattle.nb_world.specs.Steps.{run}
use Rattle.nb_world.specs.Laws.{Begins}
use Rattle.nb_world.specs.Ties.{house_of, IsAt, IsPacketOf, Answers, Stops, Played, asks, ends, behind, events_of, all_play, givers, Settling, PlaysTurn, PlaysRun, reply_with_place, told_by, RunIsEvents}
use Rattle.nb_world.proofs.Growing.{get_begins}
use Rattle.nb_world.proofs.Lists.{begins_same, begins_then, all_weaker}
use Rattle.nb_world.proofs.Tying.{Leads, leads_then, One, told_as, left_as}

-- ---- requests that gave what is in doubt

-- over these entries each of the requests records the next of these
Gives : House → List Entry → List Request → List Entry → Type 0
Gives house over [] [] = Unit {0}
Gives house over (request ∷ gave) (entry ∷ doubt) = ((house.rules over request).entry ≡ Some entry) × Gives house (over ++ entry ∷ []) gave doubt
Gives house over [] (entry ∷ doubt) = ⊥
Gives house over (request ∷ gave) [] = ⊥

-- one request more, which records an entry or none
give_one : (house : House) (over : List Entry) (request : Request) (gave : List Request) (doubt : List Entry) (o : Option Entry) → (house.rules over request).entry ≡ o
    → Gives house (over ++ option_to_list o) gave doubt → Gives house over (if is_some o then request ∷ gave else gave) (option_to_list o ++ doubt)
unfolding Gives
give_one house over request gave doubt None is rest = subst (λ es. Gives house es gave doubt) (append-nil over) rest
give_one house over request gave doubt (Some entry) is rest = (is, rest)

givers_give : (house : House) (over : List Entry) (requests : List Request) → Gives house over (givers house over requests) (recorded house over requests)
unfolding Gives
givers_give house over [] = tt
givers_give house over (request ∷ requests) =
    give_one house over request (givers house (with_entry house over request) requests) (recorded house (with_entry house over request) requests) (house.rules over request).entry refl
    (givers_give house (with_entry house over request) requests)

-- they are among the requests
givers_among : (P : Request → Type 0) (house : House) (over : List Entry) (requests : List Request) → AllByRecursion P requests → AllByRecursion P (givers house over requests)
givers_among P house over [] all = tt
givers_among P house over (request ∷ requests) all = either (is_some (house.rules over request).entry) (givers_among P house (with_entry house over request) requests all.1)
  where
    either : (b : Bool) → AllByRecursion P (givers house (with_entry house over request) requests)
        → AllByRecursion P (if b then request ∷ givers house (with_entry house over request) requests else givers house (with_entry house over request) requests)
    either true rest = (all.0, rest)
    either false rest = rest

-- ---- what is told

told_append : (answers more : List Reply) → told_by (answers ++ more) ≡ told_by answers ++ told_by more
told_append [] more = refl
told_append (a ∷ answers) more = either (reply_with_place a) (told_append answers more)
  where
    either : (o : Option (List ℕ)) → told_by (answers ++ more) ≡ told_by answers ++ told_by more
        → cons_option o (told_by (answers ++ more)) ≡ cons_option o (told_by answers) ++ told_by more
    either None rest = rest
    either (Some reply) rest = ap (λ all. reply ∷ all) rest

-- a failure and a refusal have no place
failed_tell_nothing : (before after : ℕ) (reply : List ℕ) (requests : List Request) → told_by (alike (mark.Fault before after) reply requests) ≡ []
failed_tell_nothing before after reply [] = refl
failed_tell_nothing before after reply (request ∷ requests) = failed_tell_nothing before after reply requests

worn_tell_nothing : (reply : List ℕ) (requests : List Request) → told_by (alike mark.Worn reply requests) ≡ []
worn_tell_nothing reply [] = refl
worn_tell_nothing reply (request ∷ requests) = worn_tell_nothing reply requests

-- ---- what is played, one after another

-- the entries behind all of it
behind_all : House → List Entry → List Played → List Entry
behind_all house over [] = over
behind_all house over (x ∷ played) = behind_all house (behind house over x.request x.play) played

behind_append : (house : House) (over : List Entry) (played more : List Played) → behind_all house over (played ++ more) ≡ behind_all house (behind_all house over played) more
unfolding behind_all
behind_append house over [] more = refl
behind_append house over (x ∷ played) more = behind_append house (behind house over x.request x.play) played more

events_append : (house : House) (number : Request → ℕ) (n : ℕ) (over : List Entry) (played more : List Played)
    → events_of house number n over (played ++ more) ≡ events_of house number n over played ++ events_of house number (n + length played) (behind_all house over played) more
unfolding behind_all
events_append house number n over [] more = let same : n ≡ n + 0 = omega arith in ap (λ k. events_of house number k over more) same
events_append house number n over (x ∷ played) more =
    let front : List Event = asks number n x.request ++ ends n x.play (house.rules over x.request).entry in
    let over_next : List Entry = behind house over x.request x.play in
    let rest : events_of house number (n + 1) over_next (played ++ more)
    ≡ events_of house number (n + 1) over_next played ++ events_of house number ((n + 1) + length played) (behind_all house over_next played) more =
    events_append house number (n + 1) over_next played more in
    let same : (n + 1) + length played ≡ n + length (x ∷ played) = omega arith in
    ap (λ es. front ++ es) (rest ∙ ap (λ k. events_of house number (n + 1) over_next played ++ events_of house number k (behind_all house over_next played) more) same)
    ∙ sym (append_assoc front (events_of house number (n + 1) over_next played) (events_of house number (n + length (x ∷ played)) (behind_all house over_next played) more))

module _ {C M : Type 0} (p : Rules C M) (fault : ℕ → ℕ → List ℕ) (worn : List ℕ) (number : Request → ℕ) where
  -- what is played over these entries leads to a world at others, and its answers hand out these replies
  record Goes (w : World C M) (over : List Entry) (played : List Played) (told : List (List ℕ)) (entries : List Entry) : Type 0 where
    pub end : World C M
    pub leads : Leads p w (events_of (house_of p fault worn) number (length w.calls) over played) end told
    pub at : IsAt end entries
    pub calls : length end.calls ≡ length w.calls + length played
    pub packets : Begins end.packets w.packets
    pub over_is : behind_all (house_of p fault worn) over played ≡ entries

  goes_none : (w : World C M) (over : List Entry) → IsAt w over → Goes w over [] [] over
  unfolding behind_all
  goes_none w over at = record { end = w; leads = record { to = refl; tells = refl }; at = at; calls = omega arith; packets = begins_same w.packets; over_is = refl }

  goes_first : (w : World C M) (over : List Entry) (x : Played) (played : List Played) (told others : List (List ℕ)) (entries : List Entry)
      → (one : One p w (asks number (length w.calls) x.request ++ ends (length w.calls) x.play (p.verdict over x.request).entry) told (behind (house_of p fault worn) over x.request x.play))
      → Goes one.end (behind (house_of p fault worn) over x.request x.play) played others entries
      → Goes w over (x ∷ played) (told ++ others) entries
  unfolding behind_all
  goes_first w over x played told others entries one rest =
      let over_next : List Entry = behind (house_of p fault worn) over x.request x.play in
      record {
        end = rest.end;
        leads = leads_then p w one.end rest.end (asks number (length w.calls) x.request ++ ends (length w.calls) x.play (p.verdict over x.request).entry)
            (events_of (house_of p fault worn) number (length w.calls + 1) over_next played) told others one.leads
            (subst (λ (k : ℕ). Leads p one.end (events_of (house_of p fault worn) number k over_next played) rest.end others) one.calls rest.leads);
        at = rest.at;
        calls = let h : length rest.end.calls ≡ length one.end.calls + length played = rest.calls in omega (arith, h, one.calls);
        packets = begins_then w.packets one.end.packets rest.end.packets one.packets rest.packets;
        over_is = rest.over_is;
      }

  goes_then : (w : World C M) (over : List Entry) (played more : List Played) (told others : List (List ℕ)) (entries last : List Entry)
      → (first : Goes w over played told entries) → Goes first.end entries more others last → Goes w over (played ++ more) (told ++ others) last
  goes_then w over played more told others entries last first second =
      let then_is : events_of (house_of p fault worn) number (length first.end.calls) entries more
      ≡ events_of (house_of p fault worn) number (length w.calls + length played) (behind_all (house_of p fault worn) over played) more =
      ap (λ k. events_of (house_of p fault worn) number k entries more) first.calls
      ∙ ap (λ es. events_of (house_of p fault worn) number (length w.calls + length played) es more) (sym first.over_is) in
      let all_are = events_append (house_of p fault worn) number (length w.calls) over played more in
      let second_leads : Leads p first.end (events_of (house_of p fault worn) number (length w.calls + length played) (behind_all (house_of p fault worn) over played) more) second.end others =
      subst (λ es. Leads p first.end es second.end others) then_is second.leads in
      record {
        end = second.end;
        leads = subst (λ es. Leads p w es second.end (told ++ others)) (sym all_are)
            (leads_then p w first.end second.end (events_of (house_of p fault worn) number (length w.calls) over played) _ told others first.leads second_leads);
        at = second.at;
        calls = let h : length second.end.calls ≡ length first.end.calls + length more = second.calls in omega (arith, h, first.calls, length-append played more);
        packets = begins_then w.packets first.end.packets second.end.packets first.packets second.packets;
        over_is = behind_append (house_of p fault worn) over played more ∙ ap (λ es. behind_all (house_of p fault worn) es more) first.over_is ∙ second.over_is;
      }

  -- packets of requests stay those of a later world
  later_packets : (w v : World C M) → Begins v.packets w.packets → (requests : List Request)
      → AllByRecursion (λ (request : Request). IsPacketOf w (number request) request) requests → AllByRecursion (λ (request : Request). IsPacketOf v (number request) request) requests
  later_packets w v begins requests all =
      all_weaker (λ (request : Request). IsPacketOf w (number request) request) (λ (request : Request). IsPacketOf v (number request) request) requests
      (λ (request : Request) (is : IsPacketOf w (number request) request). record { packet = is.packet; stands = get_begins w.packets v.packets begins (number request) is.packet is.stands; for_house = is.for_house; kind = is.kind; body = is.body }) all

  -- each request is answered
  goes_told : (requests : List Request) (w : World C M) (over : List Entry) → IsAt w over → AllByRecursion (λ (request : Request). IsPacketOf w (number request) request) requests
      → Goes w over (all_play Answers requests) (told_by (decided (house_of p fault worn) over requests)) (over ++ recorded (house_of p fault worn) over requests)
  goes_told [] w over at packets = subst (Goes w over [] []) (sym (append-nil over)) (goes_none w over at)
  goes_told (request ∷ requests) w over at packets =
      let one = told_as p w over number request at packets.0 (p.verdict over request).entry refl in
      let over_next : List Entry = over ++ option_to_list (p.verdict over request).entry in
      let rest : Goes one.end over_next (all_play Answers requests) (told_by (decided (house_of p fault worn) over_next requests)) (over_next ++ recorded (house_of p fault worn) over_next requests) =
      goes_told requests one.end over_next one.at (later_packets w one.end one.packets requests packets.1) in
      let all : Goes w over (all_play Answers (request ∷ requests)) (told_by (decided (house_of p fault worn) over (request ∷ requests))) (over_next ++ recorded (house_of p fault worn) over_next requests) =
      goes_first w over (record { request = request; play = Answers }) (all_play Answers requests) _ _ _ one rest in
      subst (Goes w over (all_play Answers (request ∷ requests)) (told_by (decided (house_of p fault worn) over (request ∷ requests))))
      (append_assoc over (option_to_list (p.verdict over request).entry) (recorded (house_of p fault worn) over_next requests)) all

  -- each request that gave an entry is written, and a stop leaves it
  goes_kept : (gave : List Request) (doubt : List Entry) (w : World C M) (over : List Entry) → IsAt w over → Gives (house_of p fault worn) over gave doubt
      → AllByRecursion (λ (request : Request). IsPacketOf w (number request) request) gave → Goes w over (all_play (Stops true) gave) [] (over ++ doubt)
  unfolding Gives
  goes_kept [] [] w over at gives packets = subst (Goes w over [] []) (sym (append-nil over)) (goes_none w over at)
  goes_kept [] (entry ∷ doubt) w over at gives packets = absurd gives
  goes_kept (request ∷ gave) [] w over at gives packets = absurd gives
  goes_kept (request ∷ gave) (entry ∷ doubt) w over at gives packets =
      let one = left_as p w over number request at packets.0 true entry gives.0 in
      let same : over ++ entry ∷ [] ≡ with_entry (house_of p fault worn) over request = ap (λ o. over ++ option_to_list o) (sym gives.0) in
      let next_one : One p w (asks number (length w.calls) request ++ ends (length w.calls) (Stops true) (p.verdict over request).entry) [] (with_entry (house_of p fault worn) over request) =
      record { end = one.end; leads = one.leads; at = subst (IsAt one.end) same one.at; calls = one.calls; packets = one.packets } in
      let rest : Goes one.end (over ++ entry ∷ []) (all_play (Stops true) gave) [] ((over ++ entry ∷ []) ++ doubt) =
      goes_kept gave doubt one.end (over ++ entry ∷ []) one.at gives.1 (later_packets w one.end one.packets gave packets.1) in
      let there : Goes one.end (with_entry (house_of p fault worn) over request) (all_play (Stops true) gave) [] ((over ++ entry ∷ []) ++ doubt) =
      subst (λ es. Goes one.end es (all_play (Stops true) gave) [] ((over ++ entry ∷ []) ++ doubt)) same rest in
      let all : Goes w over (all_play (Stops true) (request ∷ gave)) [] ((over ++ entry ∷ []) ++ doubt) =
      goes_first w over (record { request = request; play = Stops true }) (all_play (Stops true) gave) [] [] ((over ++ entry ∷ []) ++ doubt) next_one there in
      subst (Goes w over (all_play (Stops true) (request ∷ gave)) []) (append_assoc over (entry ∷ []) doubt) all

  -- the first of them is written, and a stop does not leave it
  goes_dropped : (gave : List Request) (entry : Entry) (doubt : List Entry) (w : World C M) (over : List Entry) → IsAt w over → Gives (house_of p fault worn) over gave (entry ∷ doubt)
      → AllByRecursion (λ (request : Request). IsPacketOf w (number request) request) gave → Goes w over (all_play (Stops false) (take 1 gave)) [] over
  unfolding Gives
  goes_dropped [] entry doubt w over at gives packets = absurd gives
  goes_dropped (request ∷ gave) entry doubt w over at gives packets =
      let one = left_as p w over number request at packets.0 false entry gives.0 in
      goes_first w over (record { request = request; play = Stops false }) [] [] [] over
      (record { end = one.end; leads = one.leads; at = one.at; calls = one.calls; packets = one.packets }) (goes_none one.end over one.at)

  -- ---- settling

  record Settles (old : State) (gave : List Request) (w : World C M) (over : List Entry) : Type 0 where
    pub settling : List Played
    pub so : Settling old gave over settling
    pub goes : Goes w old.entries settling [] over

  settled : (old : State) (gave : List Request) (w : World C M) (over : List Entry) → SettlesInto old over → IsAt w old.entries → Gives (house_of p fault worn) old.entries gave old.doubt
      → AllByRecursion (λ (request : Request). IsPacketOf w (number request) request) gave → Settles old gave w over
  settled old gave w over into at gives packets = cases old.doubt refl into
    where
      cases : (doubt : List Entry) → old.doubt ≡ doubt → SettlesInto old over → Settles old gave w over
      cases [] none (inl same) = record { settling = []; so = inl (none, same, refl); goes = subst (Goes w old.entries [] []) (sym same) (goes_none w old.entries at) }
      cases [] none (inr same) =
          let alone : over ≡ old.entries = same ∙ ap (λ es. old.entries ++ es) none ∙ append-nil old.entries in
          record { settling = []; so = inl (none, alone, refl); goes = subst (Goes w old.entries [] []) (sym alone) (goes_none w old.entries at) }
      cases (entry ∷ doubt) is (inl same) =
          let some : old.doubt ≢ [] = λ (none : old.doubt ≡ []). cc in
          record {
            settling = all_play (Stops false) (take 1 gave);
            so = inr (inr (some, same, refl));
            goes = subst (Goes w old.entries (all_play (Stops false) (take 1 gave)) []) (sym same)
                (goes_dropped gave entry doubt w old.entries at (subst (Gives (house_of p fault worn) old.entries gave) is gives) packets);
          }
      cases (entry ∷ doubt) is (inr same) =
          let some : old.doubt ≢ [] = λ (none : old.doubt ≡ []). cc in
          record {
            settling = all_play (Stops true) gave;
            so = inr (inl (some, same, refl));
            goes = subst (Goes w old.entries (all_play (Stops true) gave) []) (sym same) (goes_kept gave old.doubt w old.entries at gives packets);
          }

  -- ---- a turn

  record Turns (old new : State) (gave requests : List Request) (outcome : Outcome) (w : World C M) : Type 0 where
    pub here : List Played
    pub gives : List Request
    pub plays : PlaysTurn (house_of p fault worn) old gave requests outcome new here gives
    pub goes : Goes w old.entries here (told_by (answered (house_of p fault worn) requests outcome)) new.entries
    pub give : Gives (house_of p fault worn) new.entries gives new.doubt
    pub packets : AllByRecursion (λ (request : Request). IsPacketOf w (number request) request) gives

  module _ (old new : State) (gave requests : List Request) (w : World C M) (at : IsAt w old.entries) (gives : Gives (house_of p fault worn) old.entries gave old.doubt)
      (packets : AllByRecursion (λ (request : Request). IsPacketOf w (number request) request) gave) (has : AllByRecursion (λ (request : Request). IsPacketOf w (number request) request) requests) where
    turn_decides : (over : List Entry) → Turn (house_of p fault worn) old requests (Decides over) new → Turns old new gave requests (Decides over) w
    unfolding Gives
    turn_decides over turn =
        let first : Settles old gave w over = settled old gave w over turn.1 at gives packets in
        let entries : new.entries ≡ over ++ recorded (house_of p fault worn) over requests = ap (λ (s : State). s.entries) turn.2 in
        let none : new.doubt ≡ [] = ap (λ (s : State). s.doubt) turn.2 in
        record {
          here = first.settling ++ all_play Answers requests;
          gives = [];
          plays = (first.settling, first.so, refl, refl);
          goes = subst (Goes w old.entries (first.settling ++ all_play Answers requests) (told_by (decided (house_of p fault worn) over requests))) (sym entries)
              (goes_then w old.entries first.settling (all_play Answers requests) [] (told_by (decided (house_of p fault worn) over requests)) over (over ++ recorded (house_of p fault worn) over requests) first.goes
              (goes_told requests first.goes.end over first.goes.at (later_packets w first.goes.end first.goes.packets requests has)));
          give = subst (Gives (house_of p fault worn) new.entries []) (sym none) tt;
          packets = tt;
        }

    turn_fails : (before after : ℕ) → Unsettled old new ⊎ Doubts (house_of p fault worn) old requests new → Turns old new gave requests (Fails before after) w
    turn_fails before after (inl unsettled) =
        let entries : new.entries ≡ old.entries = ap (λ (s : State). s.entries) unsettled.1 in
        let doubt : new.doubt ≡ old.doubt = ap (λ (s : State). s.doubt) unsettled.1 in
        record {
          here = [];
          gives = gave;
          plays = inl (unsettled.0, entries, doubt, refl, refl);
          goes = subst (λ told. Goes w old.entries [] told new.entries) (sym (failed_tell_nothing before after (fault before after) requests))
              (subst (Goes w old.entries [] []) (sym entries) (goes_none w old.entries at));
          give = subst (λ es. Gives (house_of p fault worn) es gave new.doubt) (sym entries) (subst (Gives (house_of p fault worn) old.entries gave) (sym doubt) gives);
          packets = packets;
        }
    turn_fails before after (inr d) =
        let first : Settles old gave w d.over = settled old gave w d.over d.settled at gives packets in
        let entries : new.entries ≡ d.over = ap (λ (s : State). s.entries) d.left in
        let doubt : new.doubt ≡ recorded (house_of p fault worn) d.over requests = ap (λ (s : State). s.doubt) d.left in
        let given : Gives (house_of p fault worn) new.entries (givers (house_of p fault worn) new.entries requests) (recorded (house_of p fault worn) new.entries requests) =
        givers_give (house_of p fault worn) new.entries requests in
        record {
          here = first.settling;
          gives = givers (house_of p fault worn) new.entries requests;
          plays = inr (
            subst (λ es. Settling old gave es first.settling) (sym entries) first.so,
            (λ none. d.some (sym doubt ∙ none)),
            doubt ∙ ap (λ es. recorded (house_of p fault worn) es requests) (sym entries),
            refl,
          );
          goes = subst (λ told. Goes w old.entries first.settling told new.entries) (sym (failed_tell_nothing before after (fault before after) requests))
              (subst (Goes w old.entries first.settling []) (sym entries) first.goes);
          give = subst (Gives (house_of p fault worn) new.entries (givers (house_of p fault worn) new.entries requests))
              (ap (λ es. recorded (house_of p fault worn) es requests) entries ∙ sym doubt) given;
          packets = givers_among (λ (request : Request). IsPacketOf w (number request) request) (house_of p fault worn) new.entries requests has;
        }

    turn_refuses : new ≡ old → Turns old new gave requests Refuses w
    turn_refuses same =
        let entries : new.entries ≡ old.entries = ap (λ (s : State). s.entries) same in
        let doubt : new.doubt ≡ old.doubt = ap (λ (s : State). s.doubt) same in
        record {
          here = [];
          gives = gave;
          plays = (refl, refl);
          goes = subst (λ told. Goes w old.entries [] told new.entries) (sym (worn_tell_nothing worn requests)) (subst (Goes w old.entries [] []) (sym entries) (goes_none w old.entries at));
          give = subst (λ es. Gives (house_of p fault worn) es gave new.doubt) (sym entries) (subst (Gives (house_of p fault worn) old.entries gave) (sym doubt) gives);
          packets = packets;
        }

    turn_goes : (outcome : Outcome) → Turn (house_of p fault worn) old requests outcome new → Turns old new gave requests outcome w
    turn_goes (Decides over) turn = turn_decides over turn
    turn_goes (Fails before after) turn = turn_fails before after turn.1
    turn_goes Refuses turn = turn_refuses turn.1

  -- ---- a run

  record Runs (first : State) (gave : List Request) (rounds : List Round) (states : List State) (w : World C M) : Type 0 where
    pub played : List Played
    pub plays : PlaysRun (house_of p fault worn) first gave rounds states played
    pub goes : Goes w first.entries played (told_by (answered_in (house_of p fault worn) rounds)) (last_state first states).entries

  run_goes : (first : State) (gave : List Request) (rounds : List Round) (states : List State) (w : World C M) → IsAt w first.entries
      → Gives (house_of p fault worn) first.entries gave first.doubt → AllByRecursion (λ (request : Request). IsPacketOf w (number request) request) gave
      → AllByRecursion (λ (round : Round). AllByRecursion (λ (request : Request). IsPacketOf w (number request) request) round.requests) rounds
      → Run (house_of p fault worn) first rounds states → Runs first gave rounds states w
  run_goes first gave [] [] w at gives packets has run = record { played = []; plays = refl; goes = goes_none w first.entries at }
  run_goes first gave (round ∷ more) (next_one ∷ states) w at gives packets has run =
      let here : Turns first next_one gave round.requests round.outcome w = turn_goes first next_one gave round.requests w at gives packets has.0 round.outcome run.1 in
      let v : World C M = here.goes.end in
      let later : AllByRecursion (λ (r : Round). AllByRecursion (λ (request : Request). IsPacketOf v (number request) request) r.requests) more =
      all_weaker (λ (r : Round). AllByRecursion (λ (request : Request). IsPacketOf w (number request) request) r.requests)
      (λ (r : Round). AllByRecursion (λ (request : Request). IsPacketOf v (number request) request) r.requests) more
      (λ (r : Round) (all : AllByRecursion (λ (request : Request). IsPacketOf w (number request) request) r.requests). later_packets w v here.goes.packets r.requests all) has.1 in
      let rest : Runs next_one here.gives more states v =
      run_goes next_one here.gives more states v here.goes.at here.give (later_packets w v here.goes.packets here.gives here.packets) later run.2 in
      record {
        played = here.here ++ rest.played;
        plays = (here.here, rest.played, here.gives, refl, here.plays, rest.plays);
        goes = subst (λ told. Goes w first.entries (here.here ++ rest.played) told (last_state next_one states).entries)
            (sym (told_append (answered (house_of p fault worn) round.requests round.outcome) (answered_in (house_of p fault worn) more)))
            (goes_then w first.entries here.here rest.played (told_by (answered (house_of p fault worn) round.requests round.outcome)) (told_by (answered_in (house_of p fault worn) more)) next_one.entries (last_state next_one states).entries here.goes rest.goes);
      }
  run_goes first gave [] (next_one ∷ states) w at gives packets has run = absurd run
  run_goes first gave (round ∷ more) [] w at gives packets has run = absurd run

pub run_is_events : {C M : Type 0} → RunIsEvents C M
unfolding Gives
run_is_events p fault worn w first number rounds states at none has run =
    let all : Runs p fault worn number first [] rounds states w =
    run_goes p fault worn number first [] rounds states w at (subst (Gives (house_of p fault worn) first.entries []) (sym none) tt) tt has run in
    record {
      played = all.played;
      plays = all.plays;
      ends_at = subst (λ end. IsAt end (last_state first states).entries) (sym all.goes.leads.to) all.goes.at;
      told = all.goes.leads.tells;
    }
