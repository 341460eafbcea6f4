-- The six sentences, one after another.
use Rattle.std.proofs.Common.{◌≡◌, inl, inr, ℕ, ◌≤◌, Bool, List, [], ◌∷◌, ◌++◌, length, map, take, Some, Result, Ok, refl, sym, ap, subst, ◌∙◌, arith}
use Rattle.std.specs.List.{count_by, slice_get, AllByRecursion}
use Rattle.nb_port.specs.Tells.{DiskTells}
use Rattle.nb_units.specs.declared.frames.TheConstants.{STATUS_REQUEST}
use Rattle.nb_units.specs.Charter.{MayRule, AreVersionAndRate}
use Rattle.nb_entry.specs.declared.entry.Entry.{Entry}
use Rattle.nb_book.specs.Laws.{StaysLegal}
use Rattle.nb_book.specs.Legal.{Legal}
use Rattle.nb_book.specs.declared.party.Party.{Party}
use Rattle.nb_book.specs.Searches.{order_in, party_in, settles}
use Rattle.nb_book.proofs.Counting.{settled_once}
use Rattle.nb_book.proofs.Growing.{front_legal}
use Rattle.nb_book.proofs.Summing.{balances_make_total, none_overdrawn}
use Rattle.nb_endorse.specs.declared.refusal.TheConstants.{DISK_FAULT, WORN}
use Rattle.nb_turns.specs.declared.limits.TheConstants.{MAX_FAULTS}
use Rattle.nb_turns.specs.Turns.{Request, State, Round, Run, answered_in, last_state}
use Rattle.nb_turns.specs.Callers.{AreTaken}
use Rattle.nb_turns.specs.Laws.{IsBalanced, IsLawful, IsLegalState}
use Rattle.nb_turns.proofs.Keeping.{turn_keeps_legal, run_keeps_legal, run_keeps_money}
use Rattle.nb_turns.proofs.Lists.{all_weaker}
use Rattle.nb_body.specs.declared.query.StatusQuery.{StatusQuery}
use Rattle.nb_endorse.specs.declared.receipt.TheConstants.{NO_KEY}
use Rattle.nb_endorse.specs.declared.reply.Reply.{Reply}
use Rattle.nb_endorse.specs.declared.reply.Reply.TheVariants as reply
use Rattle.nb_endorse.specs.declared.reply.ReplyKeys.{ReplyKeys}
use Rattle.nb_escrow.specs.declared.decision.Decision.{Decision}
use Rattle.nb_escrow.specs.declared.head.Head.{Head}
use Rattle.nb_escrow.specs.Head.{IsRuling}
use Rattle.nb_escrow.specs.Laws as escrow
use Rattle.nb_escrow.specs.Payable.{TellsPayment}
use Rattle.nb_escrow.specs.Replies.{HasKeysOfParties, StatusTellsTheOrder}
use Rattle.nb_escrow.specs.Verdict.{verdict}
use Rattle.nb_escrow.proofs.Exactly.{paid_exactly_where, payable_is_told, refusals_are_true, refused_for_true_reason, told_exactly_where, answered_exactly_where}
use Rattle.nb_escrow.proofs.Replying.{receipts_name_the_order, keys_are_the_parties}
use Rattle.nb_vault.specs.Rules.{refused}
use Rattle.nb_vault.specs.Vaults.{Chronicled, Keeps, doubt_in, entries_in, house_in, state_of}
use Rattle.nb_vault.proofs.Vaulting.{house_lawful}
use Rattle.nb_consumer.specs.State.{Buyer}
use Rattle.nb_merchant.specs.Shop.{Shop}
use Rattle.nb_world.specs.declared.event.Event.{Event}
use Rattle.nb_world.specs.declared.event.Event.TheVariants as on
use Rattle.nb_world.specs.World.{Rules, World, request_of}
use Rattle.nb_world.specs.Steps.{next, run}
use Rattle.nb_world.specs.declared.call.Call.{Call}
use Rattle.nb_world.specs.declared.packet.Packet.{Packet}
use Rattle.nb_world.specs.Laws.{Asks, Begins, IsLawfulWorld, IsReply, RecordsLegal, RepliesSo, StandsDurable}
use Rattle.nb_world.specs.Ties.{Ties}
use Rattle.nb_world.proofs.Chains.{same_some}
use Rattle.nb_world.proofs.Lists.{all_at}
use Rattle.nb_world.proofs.Moving.{only_grows, replies_read_all}
use Rattle.nb_world.proofs.Playing.{run_is_events}
use Rattle.nb_world.proofs.Serving.{world_law}
use Rattle.nb_world.proofs.Settling.{house_records_legal, key_where_it_stands, money_is_conserved, order_moves_once}
use Rattle.nb_world.proofs.Stopping.{run_then, stop_keeps_prefix, entries_have_origins, others_acknowledge_nothing}
use Rattle.nb_parties.specs.Rules.{house_verdict, shown}
use Rattle.nb_headline.specs.Served.{IsTied, head_in, last_vault, rules_in, states_of}
use Rattle.nb_headline.specs.Headline.{StopLeavesPrefix, WorldLeaves, OrderMovesOnce, MoneyIsConserved, PaysTruly, RepliesTruly, PaidWherePayableRefusedTruly, SealsForAsker, GivesKeyWherePaid, KeyWherePaymentStands, RepliesOfOneList, Headline, HeadlineLaw}
use Rattle.nb_headline.proofs.Fronts.{begins_same, AreTold, none_told, told_run, told_taken}
use Rattle.nb_headline.proofs.Along.{house_run, last_is, order_along, stops_leave, calm_decides, decided_run, decided_so}

all_of_map : {A B : Type 0} (P : B → Type 0) (f : A → B) (xs : List A) → AllByRecursion P (map f xs) → AllByRecursion (λ (x : A). P (f x)) xs
all_of_map P f [] all = tt
all_of_map P f (x ∷ xs) all = (all.0, all_of_map P f xs all.1)

may_rule : (version rate : ℕ) → AreVersionAndRate version rate → MayRule version rate
may_rule version rate (inl is) = (inl is.0, omega (arith, is.1))
may_rule version rate (inr is) = (inr is.0, is.1)

legal_state : {D : Type 0} (tells : DiskTells D) (v : Chronicled D) → Keeps tells v → IsLegalState v.origin.cap (state_of v)
legal_state tells v keeps = record { legal = keeps.legal.legal; within = keeps.within; most = keeps.most; few = keeps.few }

last_legal : (cap : ℕ) (first : State) (states : List State) → IsLegalState cap first → AllByRecursion (IsLegalState cap) states → IsLegalState cap (last_state first states)
last_legal cap first [] one all = one
last_legal cap first (next ∷ states) one all = last_legal cap next states all.0 all.1

entries_legal : (cap : ℕ) (s : State) → IsLegalState cap s → Legal s.entries
entries_legal cap s is = subst Legal (take_front s.entries s.doubt) (front_legal (s.entries ++ s.doubt) (length s.entries) is.legal)
  where
    take_front : (xs ys : List Entry) → take (length xs) (xs ++ ys) ≡ xs
    take_front [] ys = refl
    take_front (x ∷ xs) ys = ap (λ (zs : List Entry). x ∷ zs) (take_front xs ys)

balanced_list : (entries : List Entry) → Legal entries → IsBalanced entries
balanced_list entries legal = record { once = settled_once entries legal; sums = balances_make_total entries legal; none_overdrawn = none_overdrawn entries legal }

pays_truly : (head : Head) (cap : ℕ) (over : List Entry) (request : Request) → Legal over → PaysTruly head cap over request
pays_truly head cap over request legal = record {
  paid = paid_exactly_where over head cap request.kind request.body request.moment;
  refusal = refusals_are_true over legal head cap request.kind request.body request.moment;
  refused = refused_for_true_reason over head cap request.kind request.body request.moment;
  told = λ is p may. subst (λ (kind : ℕ). TellsPayment p (verdict over head cap kind request.body request.moment).reply) (sym is) (payable_is_told over head cap request.body request.moment p may);
  receipts = receipts_name_the_order over head cap request.kind request.body request.moment;
  again = told_exactly_where over head cap request.kind request.body request.moment;
  keys = keys_are_the_parties over head cap request.kind request.body request.moment;
}

-- a call is of one packet, at one moment
same_call : (w : World Buyer Shop) (c : ℕ) (one other : Packet) (first second : ℕ) → Asks w c one first → Asks w c other second → request_of one first ≡ request_of other second
same_call w c one other first second a b =
    let call : a.call ≡ b.call = same_some a.call b.call (sym a.is ∙ b.is) in
    let packet : one ≡ other = same_some one other (sym a.of ∙ ap (λ (x : Call). slice_get w.packets x.packet) call ∙ b.of) in
    let moment : first ≡ second = sym a.at ∙ ap (λ (x : Call). x.moment) call ∙ b.at in
    ap (λ (x : Packet). request_of x first) packet ∙ ap (λ (t : ℕ). request_of other t) moment

replies_truly : (head : Head) (cap : ℕ) (w : World Buyer Shop) (c at : ℕ) (made packet : Packet) (moment : ℕ) → IsLawfulWorld (house_verdict head cap) w
    → IsReply (house_verdict head cap) w made c at → Asks w c packet moment → RepliesTruly head cap w made packet at moment
replies_truly head cap w c at made packet moment lawful is asks =
    let same = same_call w c is.packet packet is.moment moment is.asks asks in
    record {
      within = is.within;
      kind = is.kind ∙ ap (λ (r : Request). (house_verdict head cap (take at w.durable) r).kind) same;
      body = is.body ∙ ap (λ (r : Request). (house_verdict head cap (take at w.durable) r).body) same;
      truly = pays_truly head cap (take at w.durable) (request_of packet moment) (front_legal w.durable at lawful.legal);
    }

-- a query is read as one, and one is enrolled under its number
same_asker : (over : List Entry) (body : List ℕ) (asked other : StatusQuery) (one : escrow.IsAuthentic over body asked) (two : escrow.IsAuthentic over body other) → one.asker.key ≡ two.asker.key
same_asker over body asked other one two =
    let same : asked ≡ other = same_ok asked other (sym one.read ∙ two.read) in
    ap (λ (party : Party). party.key) (same_some one.asker two.asker (sym one.enrolled ∙ ap (λ (x : StatusQuery). party_in over x.asker) same ∙ two.enrolled))
  where
    same_ok : (x y : StatusQuery) → (let r : Result StatusQuery ℕ = Ok x in r) ≡ Ok y → x ≡ y
    same_ok x y is = cc

seals_for_asker : (head : Head) (cap : ℕ) (over : List Entry) (body : List ℕ) (moment : ℕ) → SealsForAsker head over body (verdict over head cap STATUS_REQUEST body moment)
seals_for_asker head cap over body moment = record {
  told = λ asked is least. (answered_exactly_where over head cap STATUS_REQUEST body moment).1 (refl, (asked, is, least));
  sealed = λ asked is told. under (verdict over head cap STATUS_REQUEST body moment) (keys_are_the_parties over head cap STATUS_REQUEST body moment) asked is told;
  asks = λ told. ((answered_exactly_where over head cap STATUS_REQUEST body moment).0 told).1;
}
  where
    keyed : (reply : Reply) (keys : ReplyKeys) → HasKeysOfParties over head body reply keys → (asked : StatusQuery) (is : escrow.IsAuthentic over body asked) → escrow.IsStatusReply reply
        → keys ≡ record { house = head.house; first = is.asker.key; second = NO_KEY }
    keyed (reply.Status place epoid receipt) keys has asked is told =
        has.2 ∙ ap (λ (key : List ℕ). let k : ReplyKeys = record { house = head.house; first = key; second = NO_KEY } in k) (same_asker over body has.0 asked has.1 is)
    keyed (reply.Result merchant consumer) keys has asked is told = absurd told
    keyed (reply.Grant consumer merchant nonce until session) keys has asked is told = absurd told
    keyed (reply.Done acct at amount) keys has asked is told = absurd told
    keyed (reply.Refused why) keys has asked is told = absurd told

    under : (decision : Decision) → HasKeysOfParties over head body decision.reply decision.keys → (asked : StatusQuery) (is : escrow.IsAuthentic over body asked) → escrow.IsStatusReply decision.reply
        → decision.keys ≡ record { house = head.house; first = is.asker.key; second = NO_KEY }
    under decision has asked is told = keyed decision.reply decision.keys has asked is told

gives_key : escrow.StatusTellsKey → (head : Head) (cap : ℕ) (over : List Entry) (request : Request) → Legal over → GivesKeyWherePaid head cap over request
gives_key tells head cap over request legal is =
    subst (λ (kind : ℕ). escrow.KeyWherePaid over request.body (verdict over head cap kind request.body request.moment).reply × SealsForAsker head over request.body (verdict over head cap kind request.body request.moment))
    (sym is) (tells over legal head cap request.body request.moment, seals_for_asker head cap over request.body request.moment)

module _ {D : Type 0} (stays : StaysLegal) (records : escrow.RecordsLegal) (key : escrow.StatusTellsKey) (status : StatusTellsTheOrder)
    (tells : DiskTells D) (first : Chronicled D) (rounds : List Round) (vaults : List (Chronicled D)) (set_up : World Buyer Shop) (es : List Event) (number : Request → ℕ)
    (tied : IsTied tells first rounds vaults set_up es number) where
  abbrev p : Rules Buyer Shop
  p = rules_in first

  ruling : IsRuling (head_in first)
  ruling = may_rule first.origin.charter.version first.origin.charter.rate tied.keeps.terms.ruled

  legal_records : RecordsLegal p.verdict
  legal_records = house_records_legal records p shown (head_in first) first.origin.cap (λ entries request. refl) ruling

  lawful : IsLawful (house_in first) first.origin.cap
  lawful = house_lawful (head_in first) first.origin.cap ruling

  the_run : Run (house_in first) (state_of first) rounds (states_of vaults)
  the_run = house_run tells (house_in first) first rounds vaults refl tied.turns

  no_doubt : doubt_in first ≡ []
  no_doubt = rw tied.fresh refl

  states_legal : AllByRecursion (IsLegalState first.origin.cap) (states_of vaults)
  states_legal = run_keeps_legal (turn_keeps_legal stays) (house_in first) first.origin.cap (state_of first) rounds (states_of vaults) lawful (legal_state tells first tied.keeps) the_run

  last_list : Legal (entries_in (last_vault first vaults))
  last_list = subst (λ (s : State). Legal s.entries) (last_is first vaults)
      (entries_legal first.origin.cap (last_state (state_of first) (states_of vaults)) (last_legal first.origin.cap (state_of first) (states_of vaults) (legal_state tells first tied.keeps) states_legal))

  balanced : AllByRecursion (λ (v : Chronicled D). IsBalanced (entries_in v) × IsBalanced (entries_in v ++ doubt_in v)) (first ∷ vaults)
  balanced = (
    (balanced_list (entries_in first) (entries_legal first.origin.cap (state_of first) (legal_state tells first tied.keeps)), balanced_list (entries_in first ++ doubt_in first) tied.keeps.legal.legal),
    all_of_map (λ (s : State). IsBalanced s.entries × IsBalanced (s.entries ++ s.doubt)) state_of vaults
        (run_keeps_money (run_keeps_legal (turn_keeps_legal stays)) (house_in first) first.origin.cap (state_of first) rounds (states_of vaults) lawful (legal_state tells first tied.keeps) the_run),
  )

  taken : AreTaken (house_in first) (entries_in (last_vault first vaults)) (length (entries_in first)) (answered_in (house_in first) rounds)
  taken =
      let told : AreTold (house_in first) (length (entries_in first)) (answered_in (house_in first) rounds) (last_state (state_of first) (states_of vaults)).entries =
      told_run (house_in first) (length (entries_in first)) (state_of first) rounds (states_of vaults) [] the_run (none_told (house_in first) (entries_in first)) in
      let front : (last_state (state_of first) (states_of vaults)).entries ≡ entries_in (last_vault first vaults) = ap (λ (s : State). s.entries) (last_is first vaults) in
      told_taken (house_in first) (length (entries_in first)) (answered_in (house_in first) rounds) (entries_in (last_vault first vaults)) (entries_in (last_vault first vaults))
      (subst (AreTold (house_in first) (length (entries_in first)) (answered_in (house_in first) rounds)) front told) (begins_same (entries_in (last_vault first vaults)))

  in_world : (more : List Event) → IsLawfulWorld p.verdict (run p set_up more)
  in_world more = world_law stays p set_up legal_records tied.begins more

  world_leaves : (more : List Event) (keep : Bool) → WorldLeaves set_up (run p set_up more) (next p (run p set_up more) (on.Stop keep))
  world_leaves more keep =
      let w = run p set_up more in
      let stopped = next p w (on.Stop keep) in
      let is : run p set_up (more ++ on.Stop keep ∷ []) ≡ stopped = run_then p set_up more (on.Stop keep ∷ []) in
      let law : IsLawfulWorld p.verdict stopped = subst (IsLawfulWorld p.verdict) is (in_world (more ++ on.Stop keep ∷ [])) in
      record {
        prefix = stop_keeps_prefix p w keep;
        acknowledged = subst (AllByRecursion (StandsDurable stopped)) (others_acknowledge_nothing p w (on.Stop keep) (λ none. none)) law.stands;
        grows = subst (λ (v : World Buyer Shop). Begins v.durable set_up.durable) is (only_grows p set_up (more ++ on.Stop keep ∷ [])).durable;
      }

  sentence_one : StopLeavesPrefix tells first rounds vaults set_up
  sentence_one = record {
    house = stops_leave tells (house_in first) (length (entries_in first)) first rounds vaults [] refl tied.turns (none_told (house_in first) (entries_in first)) tied.keeps.images;
    world = world_leaves;
  }

  sentence_two : OrderMovesOnce first vaults set_up
  sentence_two = record {
    house = λ order. all_weaker (λ (v : Chronicled D). IsBalanced (entries_in v) × IsBalanced (entries_in v ++ doubt_in v)) (λ (v : Chronicled D). count_by (settles order) (entries_in v ++ doubt_in v) ≤ 1) (first ∷ vaults)
        (λ v both. both.1.once order) balanced;
    house_stays = λ order. order_along tells (house_in first) order first rounds vaults refl tied.turns;
    world = λ order more. (order_moves_once stays p set_up legal_records tied.begins order more []).0;
    stays = λ order more later kept is. subst (λ (w : World Buyer Shop). order_in w.durable order ≡ Some kept) (sym (run_then p set_up more later))
        ((order_moves_once stays p set_up legal_records tied.begins order more later).1 kept is);
  }

  sentence_three : MoneyIsConserved first vaults set_up
  sentence_three = record { house = balanced; world = λ more. money_is_conserved stays p set_up legal_records tied.begins more }

  sentence_four : PaidWherePayableRefusedTruly tells first rounds vaults set_up
  sentence_four = record {
    decided_turns = calm_decides tells (house_in first) first rounds vaults refl tied.turns;
    decided = λ calm few. decided_run tells (house_in first) (tells.faults first.disk) (tells.faults (last_vault first vaults).disk) calm first rounds vaults refl tied.turns (omega arith) (omega arith) few;
    house = decided_so (PaysTruly (head_in first) first.origin.cap) (entries_in (last_vault first vaults)) (answered_in (house_in first) rounds)
        (λ n request. pays_truly (head_in first) first.origin.cap (take n (entries_in (last_vault first vaults))) request (front_legal (entries_in (last_vault first vaults)) n last_list));
    causes = λ more. entries_have_origins p set_up tied.begins.no_origins more;
    came = λ more. (in_world more).came;
    world = λ more cause came. pays_truly (head_in first) first.origin.cap (take cause.place (run p set_up more).durable) (request_of came.packet came.moment)
        (front_legal (run p set_up more).durable cause.place (in_world more).legal);
    replied = λ more k c at made packet moment there maker.
        let so : RepliesSo p.verdict (run p set_up more) made made.maker = all_at (λ (x : Packet). RepliesSo p.verdict (run p set_up more) x x.maker) (run p set_up more).packets k made there (in_world more).replies in
        replies_truly (head_in first) first.origin.cap (run p set_up more) c at made packet moment (in_world more) (subst (RepliesSo p.verdict (run p set_up more) made) maker so);
  }

  sentence_five : KeyWherePaymentStands first rounds vaults set_up
  sentence_five = record {
    house = decided_so (GivesKeyWherePaid (head_in first) first.origin.cap) (entries_in (last_vault first vaults)) (answered_in (house_in first) rounds)
        (λ n request. gives_key key (head_in first) first.origin.cap (take n (entries_in (last_vault first vaults))) request (front_legal (entries_in (last_vault first vaults)) n last_list));
    world = λ more k c at made packet moment there maker asks is. (
      key_where_it_stands stays records key status p shown (head_in first) first.origin.cap (λ entries request. refl) ruling set_up tied.begins more k c at made packet moment there maker asks is,
      seals_for_asker (head_in first) first.origin.cap (take at (run p set_up more).durable) packet.body moment,
    );
  }

  sentence_six : RepliesOfOneList first rounds vaults set_up
  sentence_six = record {
    house = taken;
    world = λ more. (in_world more).replies;
    read_all = replies_read_all p set_up tied.begins.same tied.begins.no_packets tied.begins.no_turn;
  }

  the_tie : Ties p (house_in first) (run p set_up es) number (state_of first) rounds (states_of vaults)
  the_tie = run_is_events p (λ (before after : ℕ). refused DISK_FAULT before after) (refused WORN MAX_FAULTS 0) (run p set_up es) (state_of first) number rounds (states_of vaults) tied.at no_doubt tied.packets the_run

  pub all_six : Headline tells first rounds vaults set_up es number
  all_six = record {
    tie = the_tie;
    stop_leaves_prefix = sentence_one;
    order_moves_once = sentence_two;
    money_is_conserved = sentence_three;
    paid_where_payable = sentence_four;
    key_where_payment_stands = sentence_five;
    replies_of_one_list = sentence_six;
  }

pub headline_law : {D : Type 0} → StaysLegal → escrow.RecordsLegal → escrow.StatusTellsKey → StatusTellsTheOrder → (tells : DiskTells D) → HeadlineLaw tells
headline_law stays records key status tells first rounds vaults set_up es number tied = all_six stays records key status tells first rounds vaults set_up es number tied
