-- What passes have seen grows, and what was told stays.
use Rattle.std.proofs.Common.{◌≡◌, inl, inr, ℕ, zero, suc, ◌+◌, ◌≤◌, List, [], ◌∷◌, ◌++◌, length, Option, None, Some, sym, refl, ap, ◌∙◌, subst, append_assoc, append-nil, length-append, slice_index_or, arith}
use Rattle.std.specs.List.{Any, filter_map}
use Rattle.std.specs.Option.{option_to_list}
use Rattle.nb_port.specs.Tells.{DiskTells}
use Rattle.nb_units.specs.declared.frames.TheConstants.{ORDER_REQUEST, STATUS_REQUEST}
use Rattle.nb_entry.specs.declared.entry.Entry.{Entry}
use Rattle.nb_book.specs.Legal.{Legal}
use Rattle.nb_book.proofs.Growing.{front_legal}
use Rattle.nb_escrow.specs.declared.decision.Decision.{Decision}
use Rattle.nb_endorse.specs.declared.reply.Reply.TheVariants.{Result as Receipts}
use Rattle.nb_vault.specs.Asking.{request_of}
use Rattle.nb_escrow.specs.Laws.{PaysWith}
use Rattle.nb_escrow.proofs.Keys.{status_tells_key}
use Rattle.nb_escrow.proofs.Telling.{result_stays}
use Rattle.nb_escrow.specs.Head.{head_of}
use Rattle.nb_escrow.specs.Verdict.{verdict}
use Rattle.std.proofs.lemmas.Option.{same_Some}
use Rattle.nb_turns.specs.declared.line.Line.{Line}
use Rattle.nb_turns.specs.Turns.{Request, State, Outcome, Decides, Fails, Refuses, SettlesInto, recorded}
use Rattle.nb_turns.specs.Lines.{entries_of, entry_of}
use Rattle.nb_turns.proofs.Lining.{entries_append}
use Rattle.nb_turn.specs.declared.chronicle.View.{View}
use Rattle.nb_turn.specs.Lines.{StartsWith}
use Rattle.nb_turn.proofs.Lists.{starts-refl, starts-trans, front_is}
use Rattle.nb_vault.specs.declared.answer.AnswerAll.{AnswerAll}
use Rattle.nb_vault.specs.declared.origin.Origin.{Origin}
use Rattle.nb_vault.specs.Vaults.{Chronicled, Keeps, doubt_in, entries_in, house_in, state_of}
use Rattle.nb_desk.specs.declared.asked.AskedAll.{AskedAll}
use Rattle.nb_desk.specs.declared.asked.AskedAll.TheVariants as asked
use Rattle.nb_desk.specs.Asks.{Asks, Gives, Tries}
use Rattle.nb_desk.specs.Laws.{SeesMore, EntriesGrow, PlaceIsCount, KeysStay, ResultsStay, Later}

-- ---- growth

pub entries_more : (opening : List Entry) (last first : List Line) → StartsWith last first → StartsWith (entries_of opening last) (entries_of opening first)
entries_more opening last first (more, e) = (filter_map entry_of more, ap (entries_of opening) e ∙ entries_append opening first more)

sees_more : (v w : View Origin Line) → StartsWith w.seen v.seen → SeesMore v w
sees_more v w s = (s, λ opening. entries_more opening w.seen v.seen s)

module _ {D : Type 0} (tells : DiskTells D) (by : ℕ) (v w : View Origin Line) (requests : List Request) (found out out' : List ℕ) where
  asks_more : (outcome : Outcome) (answer : AnswerAll) → Asks tells by v w requests outcome found out out' answer → SeesMore v w
  asks_more outcome told a = sees_more v w (a.meets.others ++ a.went.added, a.seen ∙ append_assoc v.seen a.meets.others a.went.added)

  gives_more : (answer : AskedAll) → Gives tells by v w requests found out out' answer → SeesMore v w
  gives_more asked.Served g = asks_more (Decides g.0) _ g.1
  gives_more (asked.DiskFault before after) g = asks_more (Fails before after) _ g
  gives_more (asked.Worn faults) g = asks_more Refuses _ g.1
  gives_more (asked.Busy word) g = absurd g

  tries_more : (answer : AskedAll) → Tries tells by v w requests found out out' answer → SeesMore v w
  tries_more asked.Served g = gives_more asked.Served g.1
  tries_more (asked.DiskFault before after) g = gives_more (asked.DiskFault before after) g.1
  tries_more (asked.Worn faults) g = gives_more (asked.Worn faults) g.1
  tries_more (asked.Busy word) g = sees_more v w (subst (λ (s : List Line). StartsWith s v.seen) (sym (ap (λ (x : View Origin Line). x.seen) g.1)) (starts-refl v.seen))

pub entries_grow : {D : Type 0} (tells : DiskTells D) → EntriesGrow tells
entries_grow tells by v w requests found out out' told = (gives_more tells by v w requests found out out' told, tries_more tells by v w requests found out out' told)

-- ---- places

at_most_one : {A : Type 0} (x : Option A) → length (option_to_list x ++ []) ≤ 1
at_most_one None = omega arith
at_most_one (Some x) = omega arith

-- the entries that the pass has seen behind a turn that decided
behind_is : {D : Type 0} (tells : DiskTells D) (by : ℕ) (v w : View Origin Line) (requests : List Request) (found out out' : List ℕ) (over : List Entry) (answer : AnswerAll)
    → (a : Asks tells by v w requests (Decides over) found out out' answer) → entries_of a.old.origin.entries w.seen ≡ over ++ recorded (house_in a.old) over requests
behind_is tells by v w requests found out out' over told a = sym a.over_behind.entries ∙ ap (λ (s : State). s.entries) a.went.turn.2

pub place_is_count : {D : Type 0} (tells : DiskTells D) → PlaceIsCount tells
place_is_count tells by v w request at out out' g =
    let made = recorded (house_in g.1.old) g.0 (request ∷ []) in
    let place : at ≡ length g.0 = ap (λ (xs : List ℕ). slice_index_or xs 0 0) g.1.went.found_is in (
      at_most_one ((house_in g.1.old).rules g.0 request).entry,
      ap length (behind_is tells by v w (request ∷ []) (at ∷ []) out out' g.0 _ g.1) ∙ length-append g.0 made ∙ ap (λ (n : ℕ). n + length made) (sym place),
    )

-- ---- what was told

any_later : (P : Entry → Type 0) (x : Entry) (xs : List Entry) → Any P xs → Any P (x ∷ xs)
any_later P x xs a = (suc a.0, a.1, omega (arith, a.2), a.3, a.4)

any_front : (P : Entry → Type 0) (xs ys : List Entry) → Any P xs → Any P (xs ++ ys)
any_front P [] ys a = absurd (omega (arith, a.2))
any_front P (x ∷ xs) ys (zero, y, less, at, p) = (0, y, omega arith, at, p)
any_front P (x ∷ xs) ys (suc k, y, less, at, p) = any_later P x (xs ++ ys) (any_front P xs ys (k, y, omega (arith, less), at, p))

-- a turn is decided over entries that begin with those before it, and they are Legal
settled_more : (s : State) (over : List Entry) → SettlesInto s over → StartsWith over s.entries × StartsWith (s.entries ++ s.doubt) over
settled_more s over (inl is) = (subst (λ (x : List Entry). StartsWith x s.entries) (sym is) (starts-refl s.entries), (s.doubt, ap (λ (x : List Entry). x ++ s.doubt) (sym is)))
settled_more s over (inr is) = ((s.doubt, is), subst (λ (x : List Entry). StartsWith x over) is (starts-refl over))

over_legal : {D : Type 0} (tells : DiskTells D) (old : Chronicled D) (over : List Entry) → Keeps tells old → SettlesInto (state_of old) over → Legal over
over_legal tells old over keeps settled =
    let front = (settled_more (state_of old) over settled).1 in
    subst Legal (front_is (entries_in old ++ doubt_in old) over front.0 front.1) (front_legal (entries_in old ++ doubt_in old) (length over) keeps.legal.legal)

-- what the second of two passes was decided over begins with all entries that the first has seen
over_more : {D : Type 0} (tells : DiskTells D) (by by' : ℕ) (v w u z : View Origin Line) (requests requests' : List Request) (found found' out out' more more' : List ℕ)
    (a : Gives tells by v w requests found out out' asked.Served) (b : Gives tells by' u z requests' found' more more' asked.Served) → Later v w u
    → (b.1.old.origin ≡ a.1.old.origin) × StartsWith b.0 (a.0 ++ recorded (house_in a.1.old) a.0 requests)
over_more tells by by' v w u z requests requests' found found' out out' more more' a b later =
    let same : b.1.old.origin ≡ a.1.old.origin = same_Some _ _ (sym b.1.meets.origin_is ∙ later.0 ∙ a.1.meets.origin_is) in
    let seen : StartsWith b.1.old.lines w.seen = starts-trans b.1.old.lines u.seen w.seen (b.1.meets.others, b.1.meets.begins) later.1 in
    let listed : StartsWith (entries_in b.1.old) (entries_of a.1.old.origin.entries w.seen) =
    subst (λ (o : Origin). StartsWith (entries_in b.1.old) (entries_of o.entries w.seen)) same (entries_more b.1.old.origin.entries b.1.old.lines w.seen seen) in (
      same,
      subst (StartsWith b.0) (behind_is tells by v w requests found out out' a.0 _ a.1)
          (starts-trans b.0 (entries_in b.1.old) (entries_of a.1.old.origin.entries w.seen) (settled_more (state_of b.1.old) b.0 b.1.went.turn.1).0 listed),
    )

pub keys_stay : {D : Type 0} (tells : DiskTells D) → KeysStay tells
keys_stay tells by by' v w u z body body' moment moment' found found' out out' more more' a b later asked asked' key is least is' least' same_order same_party gives =
    let o = over_more tells by by' v w u z _ _ found found' out out' more more' a b later in
    let made = recorded (house_in a.1.old) a.0 (request_of STATUS_REQUEST body moment ∷ []) in
    let all = starts-trans b.0 (a.0 ++ made) a.0 o.1 (made, refl) in
    let here : Any (PaysWith asked.epoid asked.asker key) a.0 =
    (status_tells_key a.0 (over_legal tells a.1.old a.0 a.1.kept a.1.went.turn.1) (head_of a.1.old.origin.charter) a.1.old.origin.cap body moment asked key is least).0 gives in
    let there : Any (PaysWith asked.epoid asked.asker key) b.0 = subst (Any (PaysWith asked.epoid asked.asker key)) (sym all.1) (any_front _ a.0 all.0 here) in
    let named : Any (PaysWith asked'.epoid asked'.asker key) b.0 = subst (λ e. Any (PaysWith e asked'.asker key) b.0) (sym same_order) (subst (λ p. Any (PaysWith asked.epoid p key) b.0) (sym same_party) there) in
    (status_tells_key b.0 (over_legal tells b.1.old b.0 b.1.kept b.1.went.turn.1) (head_of b.1.old.origin.charter) b.1.old.origin.cap body' moment' asked' key is' least').1 named

pub results_stay : {D : Type 0} (tells : DiskTells D) → ResultsStay tells
results_stay tells by by' v w u z body moment moment' found found' out out' more more' a b later merchant consumer keys entry verdict_is =
    let o = over_more tells by by' v w u z _ _ found found' out out' more more' a b later in
    let told : Decision = record { reply = Receipts merchant consumer; keys = keys; entry = None } in
    let made : recorded (house_in a.1.old) a.0 (request_of ORDER_REQUEST body moment ∷ []) ≡ option_to_list entry = append-nil _ ∙ ap (λ (d : Decision). option_to_list d.entry) verdict_is in
    let over : b.0 ≡ a.0 ++ option_to_list entry ++ o.1.0 = o.1.1 ∙ ap (λ (es : List Entry). (a.0 ++ es) ++ o.1.0) made in
    subst (λ (x : Origin × List Entry). verdict x.1 (head_of x.0.charter) x.0.cap ORDER_REQUEST body moment' ≡ told) (λ i. (sym o.0 i, sym over i))
    (result_stays a.0 o.1.0 (head_of a.1.old.origin.charter) a.1.old.origin.cap body moment moment' merchant consumer keys entry verdict_is)
