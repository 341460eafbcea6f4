-- What a stop leaves, which events add an entry, what an answer acknowledges.
use Rattle.std.proofs.Common.{◌≡◌, ◌≢◌, ◌⊎◌, inl, inr, ℕ, zero, suc, ◌+◌, Bool, true, false, List, [], ◌∷◌, ◌++◌, length, Option, None, Some, refl, sym, ap, subst, ◌∙◌, arith, length-append}
use Rattle.std.proofs.lemmas.List.{append-nil}
use Rattle.std.specs.Prelude.{◌==◌, map, if◌then◌else◌}
use Rattle.std.specs.Option.{option_to_list, option_map, is_none}
use Rattle.std.specs.List.{slice_get, AllByRecursion}
use Rattle.nb_entry.specs.declared.entry.Entry.{Entry}
use Rattle.nb_world.specs.declared.call.Call.{Call}
use Rattle.nb_world.specs.declared.call.CallPhase.{CallPhase}
use Rattle.nb_world.specs.declared.call.CallPhase.TheVariants.{Waiting, InTurn, Answered, Gone}
use Rattle.nb_world.specs.declared.event.Event.{Event}
use Rattle.nb_world.specs.declared.event.Event.TheVariants as on
use Rattle.nb_world.specs.declared.turning.Acknowledged.{Acknowledged}
use Rattle.nb_world.specs.declared.turning.Origin.{Origin}
use Rattle.nb_world.specs.declared.turning.Turning.{Turning}
use Rattle.nb_world.specs.World.{Rules, World, is_decided, is_written, entry_written}
use Rattle.nb_world.specs.Steps.{where_so, is_waiting, stopped, phase_stopped, origin_of, left, origins_left, may_answer, acknowledged_by, turn_of, write_of, open_of, answer_of, stop_of, step, next, or_same, run}
use Rattle.nb_world.specs.Laws.{Begins, RunThen, HasOrigins, EntriesHaveOrigins, IsFinished, StopLeaves, StopKeepsPrefix, IsQuiet, OthersAddNothing, AnswerAcknowledges, IsAnswer, OthersAcknowledgeNothing}
use Rattle.nb_world.proofs.Chains.{inside, same_some, value}
use Rattle.nb_world.proofs.Fitting.{fits_step}
use Rattle.nb_world.proofs.Lists.{begins_same, stopped_remains}
use Rattle.nb_world.proofs.Outside.{Outside, buy_outside, quiet_consumer_outside, quiet_merchant_outside, restart_consumer_outside, restart_merchant_outside, clock_outside, inject_outside, deliver_outside}

pub run_then : {C M : Type 0} → RunThen C M
run_then p w [] more = refl
run_then p w (e ∷ es) more = run_then p (next p w e) es more

-- ---- a stop

all_over : (calls : List Call) → AllByRecursion IsFinished (map stopped calls)
all_over [] = tt
all_over (call ∷ calls) = (over call call.phase refl, all_over calls)
  where
    over : (call : Call) (phase : CallPhase) → call.phase ≡ phase → IsFinished (stopped call)
    over call Waiting is = inr (ap phase_stopped is)
    over call InTurn is = inr (ap phase_stopped is)
    over call Answered is = inl (ap phase_stopped is)
    over call Gone is = inr (ap phase_stopped is)

answered_same : (call : Call) → call.phase ≡ Answered → stopped call ≡ call
answered_same call is = ap (λ (phase : CallPhase). let x : Call = record { packet = call.packet; moment = call.moment; phase = phase } in x) (ap phase_stopped is ∙ sym is)

gone_now : (phase : CallPhase) → phase ≢ Answered → phase_stopped phase ≡ Gone
gone_now Waiting not = refl
gone_now InTurn not = refl
gone_now Answered not = absurd (not refl)
gone_now Gone not = refl

left_is : (entries : List Entry) (keep : Bool) (turn : Option Turning)
    → entries ++ option_to_list (left keep turn) ≡ (if keep then entries ++ option_to_list (entry_written turn) else entries)
left_is entries true turn = refl
left_is entries false turn = append-nil entries

pub stop_leaves : {C M : Type 0} → StopLeaves C M
unfolding stop_of
stop_leaves p w keep = record {
  consumers = refl;
  merchants = refl;
  packets = refl;
  moment = refl;
  durable = left_is w.durable keep w.turn;
  server = refl;
  free = refl;
  over = all_over w.calls;
  answered = λ c call there is. stopped_remains w.calls c call there ∙ ap (λ (x : Call). Some x) (answered_same call is);
  unanswered = λ c call gone there later not. sym (ap (λ (x : Call). x.phase) (same_some (stopped call) gone (sym (stopped_remains w.calls c call there) ∙ later))) ∙ gone_now call.phase not;
}

kept_begins : (entries : List Entry) (keep : Bool) (turn : Option Turning) → Begins (entries ++ option_to_list (entry_written turn)) (entries ++ option_to_list (left keep turn))
kept_begins entries true turn = begins_same (entries ++ option_to_list (entry_written turn))
kept_begins entries false turn = (option_to_list (entry_written turn), ap (λ front. front ++ option_to_list (entry_written turn)) (sym (append-nil entries)))

pub stop_keeps_prefix : {C M : Type 0} → StopKeepsPrefix C M
unfolding stop_of
stop_keeps_prefix p w keep = kept_begins w.durable keep w.turn

-- ---- which events add an entry

module _ {C M : Type 0} (p : Rules C M) (v w : World C M) where
  turn_adds_nothing : (c : ℕ) → turn_of p v c ≡ Some w → (w.durable ≡ v.durable) × (w.acknowledged ≡ v.acknowledged) × (w.origins ≡ v.origins)
  unfolding turn_of
  turn_adds_nothing c is =
      let free = inside (where_so (is_none v.turn)) _ w is in
      let call = inside (slice_get v.calls c) _ w free.2 in
      let waits = inside (where_so (is_waiting call.0.phase)) _ w call.2 in
      let packet = inside (slice_get v.packets call.0.packet) _ w waits.2 in
      let same = sym (same_some _ w packet.2) in
      (ap (λ (x : World C M). x.durable) same, ap (λ (x : World C M). x.acknowledged) same, ap (λ (x : World C M). x.origins) same)

  write_adds_nothing : (c : ℕ) → write_of v c ≡ Some w → (w.durable ≡ v.durable) × (w.acknowledged ≡ v.acknowledged) × (w.origins ≡ v.origins)
  unfolding write_of
  write_adds_nothing c is =
      let t = inside v.turn _ w is in
      let its = inside (where_so (t.0.call == c)) _ w t.2 in
      let decided = inside (where_so (is_decided t.0.stage)) _ w its.2 in
      let entry = inside t.0.verdict.entry _ w decided.2 in
      let same = sym (same_some _ w entry.2) in
      (ap (λ (x : World C M). x.durable) same, ap (λ (x : World C M). x.acknowledged) same, ap (λ (x : World C M). x.origins) same)

  open_adds_one : (c : ℕ) → open_of v c ≡ Some w → (entry : Entry) × (w.durable ≡ v.durable ++ entry ∷ []) × (w.acknowledged ≡ v.acknowledged) × (w.origins ≡ v.origins ++ origin_of v.durable c ∷ [])
  unfolding open_of
  open_adds_one c is =
      let t = inside v.turn _ w is in
      let its = inside (where_so (t.0.call == c)) _ w t.2 in
      let written = inside (where_so (is_written t.0.stage)) _ w its.2 in
      let entry = inside t.0.verdict.entry _ w written.2 in
      let same = sym (same_some _ w entry.2) in
      (entry.0, ap (λ (x : World C M). x.durable) same, ap (λ (x : World C M). x.acknowledged) same, ap (λ (x : World C M). x.origins) same)

  answer_adds_nothing : (c : ℕ) → answer_of v c ≡ Some w → (t : Turning) × (v.turn ≡ Some t) × (w.durable ≡ v.durable) × (w.acknowledged ≡ v.acknowledged ++ acknowledged_by t) × (w.origins ≡ v.origins)
  unfolding answer_of
  answer_adds_nothing c is =
      let t = inside v.turn _ w is in
      let its = inside (where_so (t.0.call == c)) _ w t.2 in
      let ready = inside (where_so (may_answer t.0.stage t.0.verdict.entry)) _ w its.2 in
      let same = sym (same_some _ w ready.2) in
      (t.0, t.1, ap (λ (x : World C M). x.durable) same, ap (λ (x : World C M). x.acknowledged) same, ap (λ (x : World C M). x.origins) same)

-- what an event adds: nothing, or one entry with the call that it came by
abbrev Adds : {C M : Type 0} → World C M → World C M → Type 0
Adds v w = ((w.durable ≡ v.durable) × (w.origins ≡ v.origins))
    ⊎ ((entry : Entry) × (c : ℕ) × (w.durable ≡ v.durable ++ entry ∷ []) × (w.origins ≡ v.origins ++ origin_of v.durable c ∷ []))

module _ {C M : Type 0} (p : Rules C M) (v : World C M) where
  outside_adds : (w : World C M) → Outside v w → Adds v w
  outside_adds w out = inl (out.durable, out.origins)

  stop_adds : (keep : Bool) (turn : Option Turning) (w : World C M) → w.durable ≡ v.durable ++ option_to_list (left keep turn) → w.origins ≡ v.origins ++ origins_left v.durable keep turn → Adds v w
  stop_adds keep None w durable origins = inl (durable ∙ none keep, origins ∙ append-nil v.origins)
    where
      none : (keep : Bool) → v.durable ++ option_to_list (left keep None) ≡ v.durable
      none true = append-nil v.durable
      none false = append-nil v.durable
  stop_adds keep (Some t) w durable origins = cases (left keep (Some t)) refl
    where
      cases : (o : Option Entry) → left keep (Some t) ≡ o → Adds v w
      cases None is = inl (
        durable ∙ ap (λ o. v.durable ++ option_to_list o) is ∙ append-nil v.durable,
        origins ∙ ap (λ o. v.origins ++ option_to_list (option_map (λ (entry : Entry). origin_of v.durable t.call) o)) is ∙ append-nil v.origins,
      )
      cases (Some entry) is = inr (
        entry,
        t.call,
        durable ∙ ap (λ o. v.durable ++ option_to_list o) is,
        origins ∙ ap (λ o. v.origins ++ option_to_list (option_map (λ (entry : Entry). origin_of v.durable t.call) o)) is,
      )

  stopped_adds : (keep : Bool) → Adds v (stop_of v keep)
  unfolding stop_of
  stopped_adds keep = stop_adds keep v.turn (stop_of v keep) refl refl

  step_adds : (w : World C M) (e : Event) → step p v e ≡ Some w → Adds v w
  step_adds w (on.Buy id start) is = outside_adds w (buy_outside p v w id start is)
  step_adds w (on.Deliver k) is = outside_adds w (deliver_outside p v w k is)
  step_adds w (on.Turn c) is = let same = turn_adds_nothing p v w c is in inl (same.0, same.2)
  step_adds w (on.Write c) is = let same = write_adds_nothing p v w c is in inl (same.0, same.2)
  step_adds w (on.Open c) is = let one = open_adds_one p v w c is in inr (one.0, c, one.1, one.3)
  step_adds w (on.Answer c) is = let same = answer_adds_nothing p v w c is in inl (same.2, same.4)
  step_adds w (on.QuietConsumer id tid) is = outside_adds w (quiet_consumer_outside p v w id tid is)
  step_adds w (on.QuietMerchant id consumer tid) is = outside_adds w (quiet_merchant_outside p v w id consumer tid is)
  step_adds w (on.Stop keep) is = subst (Adds v) (same_some (stop_of v keep) w is) (stopped_adds keep)
  step_adds w (on.RestartConsumer id) is = outside_adds w (restart_consumer_outside p v w id is)
  step_adds w (on.RestartMerchant id) is = outside_adds w (restart_merchant_outside p v w id is)
  step_adds w (on.Clock moment) is = outside_adds w (clock_outside p v w moment is)
  step_adds w (on.Inject addressee kind body) is = outside_adds w (inject_outside p v w addressee kind body is)

  next_adds : (e : Event) → Adds v (next p v e)
  next_adds e = cases (step p v e) refl
    where
      cases : (o : Option (World C M)) → step p v e ≡ o → Adds v (or_same v o)
      cases None is = inl (refl, refl)
      cases (Some w) is = step_adds w e is

  others_same : (w : World C M) (e : Event) → IsQuiet e → step p v e ≡ Some w → w.durable ≡ v.durable
  others_same w (on.Buy id start) quiet is = (buy_outside p v w id start is).durable
  others_same w (on.Deliver k) quiet is = (deliver_outside p v w k is).durable
  others_same w (on.Turn c) quiet is = (turn_adds_nothing p v w c is).0
  others_same w (on.Write c) quiet is = (write_adds_nothing p v w c is).0
  others_same w (on.Open c) quiet is = absurd quiet
  others_same w (on.Answer c) quiet is = (answer_adds_nothing p v w c is).2
  others_same w (on.QuietConsumer id tid) quiet is = (quiet_consumer_outside p v w id tid is).durable
  others_same w (on.QuietMerchant id consumer tid) quiet is = (quiet_merchant_outside p v w id consumer tid is).durable
  others_same w (on.Stop keep) quiet is = absurd quiet
  others_same w (on.RestartConsumer id) quiet is = (restart_consumer_outside p v w id is).durable
  others_same w (on.RestartMerchant id) quiet is = (restart_merchant_outside p v w id is).durable
  others_same w (on.Clock moment) quiet is = (clock_outside p v w moment is).durable
  others_same w (on.Inject addressee kind body) quiet is = (inject_outside p v w addressee kind body is).durable

  stop_acknowledges_nothing : (keep : Bool) → (stop_of v keep).acknowledged ≡ v.acknowledged
  unfolding stop_of
  stop_acknowledges_nothing keep = refl

  none_acknowledged : (w : World C M) (e : Event) → (IsAnswer e → ⊥) → step p v e ≡ Some w → w.acknowledged ≡ v.acknowledged
  none_acknowledged w (on.Buy id start) other is = (buy_outside p v w id start is).acknowledged
  none_acknowledged w (on.Deliver k) other is = (deliver_outside p v w k is).acknowledged
  none_acknowledged w (on.Turn c) other is = (turn_adds_nothing p v w c is).1
  none_acknowledged w (on.Write c) other is = (write_adds_nothing p v w c is).1
  none_acknowledged w (on.Open c) other is = (open_adds_one p v w c is).2
  none_acknowledged w (on.Answer c) other is = absurd (other tt)
  none_acknowledged w (on.QuietConsumer id tid) other is = (quiet_consumer_outside p v w id tid is).acknowledged
  none_acknowledged w (on.QuietMerchant id consumer tid) other is = (quiet_merchant_outside p v w id consumer tid is).acknowledged
  none_acknowledged w (on.Stop keep) other is = ap (λ (x : World C M). x.acknowledged) (sym (same_some (stop_of v keep) w is)) ∙ stop_acknowledges_nothing keep
  none_acknowledged w (on.RestartConsumer id) other is = (restart_consumer_outside p v w id is).acknowledged
  none_acknowledged w (on.RestartMerchant id) other is = (restart_merchant_outside p v w id is).acknowledged
  none_acknowledged w (on.Clock moment) other is = (clock_outside p v w moment is).acknowledged
  none_acknowledged w (on.Inject addressee kind body) other is = (inject_outside p v w addressee kind body is).acknowledged

pub others_add_nothing : {C M : Type 0} → OthersAddNothing C M
others_add_nothing {C} {M} p w e quiet = cases (step p w e) refl
  where
    cases : (o : Option (World C M)) → step p w e ≡ o → (or_same w o).durable ≡ w.durable
    cases None is = refl
    cases (Some v) is = others_same p w v e quiet is

pub others_acknowledge_nothing : {C M : Type 0} → OthersAcknowledgeNothing C M
others_acknowledge_nothing {C} {M} p w e other = cases (step p w e) refl
  where
    cases : (o : Option (World C M)) → step p w e ≡ o → (or_same w o).acknowledged ≡ w.acknowledged
    cases None is = refl
    cases (Some v) is = none_acknowledged p w v e other is

-- ---- an answer

pub answer_acknowledges : {C M : Type 0} → AnswerAcknowledges C M
answer_acknowledges {C} {M} p w c fits =
    let behind = value (step p w (on.Answer c)) (fits_step p w (on.Answer c) fits) in
    let adds = answer_adds_nothing p w behind.0 c behind.1 in
    let one : adds.0 ≡ fits.0.turn = same_some _ _ (sym adds.1 ∙ fits.0.is) in
    let now : next p w (on.Answer c) ≡ behind.0 = ap (or_same w) behind.1 in
    let acked : (next p w (on.Answer c)).acknowledged ≡ w.acknowledged ++ acknowledged_by fits.0.turn =
    ap (λ (x : World C M). x.acknowledged) now ∙ adds.3 ∙ ap (λ (t : Turning). w.acknowledged ++ acknowledged_by t) one in
    let of_entry : Option Entry → List Acknowledged =
    λ (o : Option Entry). w.acknowledged ++ option_to_list (option_map (λ (entry : Entry). let a : Acknowledged = record { entry = entry; place = fits.0.turn.at } in a) o) in
    (λ entry has. acked ∙ ap of_entry has, λ none. acked ∙ ap of_entry none ∙ append-nil w.acknowledged)

-- ---- where entries came from

module _ {C M : Type 0} (first : World C M) where
  none_then : (v w : World C M) → HasOrigins first v → (w.durable ≡ v.durable) × (w.origins ≡ v.origins) → HasOrigins first w
  none_then v w has same = record {
    as_many = ap length same.0 ∙ has.as_many ∙ ap (λ (origins : List Origin). length first.durable + length origins) (sym same.1);
    in_order = λ k origin there. has.in_order k origin (ap (λ origins. slice_get origins k) (sym same.1) ∙ there);
  }

  last_in_order : (before : ℕ) (origins : List Origin) (last : Origin) → last.place ≡ before + length origins
      → ((k : ℕ) (origin : Origin) → slice_get origins k ≡ Some origin → origin.place ≡ before + k)
      → (k : ℕ) (origin : Origin) → slice_get (origins ++ last ∷ []) k ≡ Some origin → origin.place ≡ before + k
  last_in_order before [] last is each zero origin there = ap (λ (x : Origin). x.place) (sym (same_some last origin there)) ∙ is
  last_in_order before [] last is each (suc k) origin there = absurd cc
  last_in_order before (o ∷ origins) last is each zero origin there = each zero origin there
  last_in_order before (o ∷ origins) last is each (suc k) origin there =
      let more : (j : ℕ) (x : Origin) → slice_get origins j ≡ Some x → x.place ≡ (before + 1) + j =
      λ (j : ℕ) (x : Origin) (e : slice_get origins j ≡ Some x). let h : x.place ≡ before + suc j = each (suc j) x e in omega arith in
      let here : origin.place ≡ (before + 1) + k = last_in_order (before + 1) origins last (omega arith) more k origin there in
      omega arith

  one_then : (v w : World C M) (entry : Entry) (c : ℕ) → HasOrigins first v → w.durable ≡ v.durable ++ entry ∷ [] → w.origins ≡ v.origins ++ origin_of v.durable c ∷ [] → HasOrigins first w
  one_then v w entry c has durable origins = record {
    as_many = omega (arith, ap length durable, ap (λ (x : List Origin). length x) origins, length-append v.durable (entry ∷ []), length-append v.origins (origin_of v.durable c ∷ []), has.as_many);
    in_order = λ k origin there.
        last_in_order (length first.durable) v.origins (origin_of v.durable c) has.as_many has.in_order k origin (ap (λ all. slice_get all k) (sym origins) ∙ there);
  }

  adds_origins : (v w : World C M) → HasOrigins first v → Adds v w → HasOrigins first w
  adds_origins v w has (inl same) = none_then v w has same
  adds_origins v w has (inr one) = one_then v w one.0 one.1 has one.2 one.3

  run_origins : (p : Rules C M) (v : World C M) → HasOrigins first v → (es : List Event) → HasOrigins first (run p v es)
  run_origins p v has [] = has
  run_origins p v has (e ∷ es) = run_origins p (next p v e) (adds_origins v (next p v e) has (next_adds p v e)) es

pub entries_have_origins : {C M : Type 0} → EntriesHaveOrigins C M
entries_have_origins p w none es = run_origins w p w (record {
  as_many = omega (arith, ap length none);
  in_order = λ k origin there. let e : slice_get [] k ≡ Some origin = ap (λ all. slice_get all k) (sym none) ∙ there in absurd cc;
}) es
