-- Orders, money and keys along every list of events.
use Rattle.std.proofs.Common.{◌≡◌, ℕ, true, List, [], ◌∷◌, ◌++◌, length, take, Option, Some, sym, ap, subst, ◌∙◌}
use Rattle.std.proofs.lemmas.List.{length-take-le}
use Rattle.std.specs.List.{slice_get}
use Rattle.nb_units.specs.declared.epoid.Epoid.{Epoid}
use Rattle.nb_units.specs.declared.frames.TheConstants.{STATUS_REQUEST}
use Rattle.nb_units.specs.Frames.{Frame}
use Rattle.nb_entry.specs.declared.entry.Entry.{Entry}
use Rattle.nb_book.specs.declared.kept.Kept.{Kept}
use Rattle.nb_book.specs.Laws.{StaysLegal}
use Rattle.nb_book.specs.Legal.{LegalAfter, Legal}
use Rattle.nb_book.specs.Searches.{order_in}
use Rattle.nb_book.proofs.Counting.{settled_once}
use Rattle.nb_book.proofs.Growing.{front_legal}
use Rattle.nb_book.proofs.Summing.{balances_make_total, none_overdrawn}
use Rattle.nb_turns.specs.Turns.{Request}
use Rattle.nb_turns.specs.Laws.{IsBalanced}
use Rattle.nb_endorse.specs.declared.receipt.Receipt.{Receipt}
use Rattle.nb_endorse.specs.declared.reply.Reply.TheVariants.{Status}
use Rattle.nb_escrow.specs.declared.decision.Decision.{Decision}
use Rattle.nb_escrow.specs.Laws as escrow
use Rattle.nb_escrow.specs.Laws.{KeyWherePaid, StatusTellsKey}
use Rattle.nb_escrow.specs.Replies.{TellsStatus, StatusTellsTheOrder}
use Rattle.nb_escrow.specs.Verdict.{verdict}
use Rattle.nb_escrow.proofs.Lasts.{order_stays}
use Rattle.nb_world.specs.declared.call.Call.{Call}
use Rattle.nb_world.specs.declared.event.Event.{Event}
use Rattle.nb_world.specs.declared.event.Event.TheVariants as on
use Rattle.nb_world.specs.declared.packet.Maker.TheVariants as by
use Rattle.nb_world.specs.declared.packet.Packet.{Packet}
use Rattle.nb_world.specs.declared.turning.Verdict.{Verdict}
use Rattle.nb_world.specs.World.{Rules, World, request_of, commits}
use Rattle.nb_world.specs.Steps.{run}
use Rattle.nb_world.specs.Laws.{RecordsLegal, IsSetUp, Asks, IsReply, RepliesSo, IsLawfulWorld, Begins}
use Rattle.nb_world.specs.Headline.{OrderMovesOnce, MoneyIsConserved, verdict_shown, HouseRecordsLegal, TellsKey, KeyWhereItStands}
use Rattle.nb_world.proofs.Chains.{same_some}
use Rattle.nb_world.proofs.Lists.{all_at}
use Rattle.nb_world.proofs.Moving.{only_grows}
use Rattle.nb_world.proofs.Serving.{world_law}
use Rattle.nb_world.proofs.Stopping.{run_then, stop_leaves}

-- ---- orders

order_later : (entries later : List Entry) → Begins later entries → (order : Epoid) (kept : Kept) → order_in entries order ≡ Some kept → order_in later order ≡ Some kept
order_later entries later begins order kept is = ap (λ (all : List Entry). order_in all order) begins.1 ∙ order_stays entries begins.0 order kept is

pub order_moves_once : {C M : Type 0} → StaysLegal → OrderMovesOnce C M
order_moves_once stays p w records setup order es more = (
  settled_once (run p w es).durable (world_law stays p w records setup es).legal order,
  order_later (run p w es).durable (run p (run p w es) more).durable (only_grows p (run p w es) more).durable order,
)

-- ---- money

balanced : (entries : List Entry) → Legal entries → IsBalanced entries
balanced entries legal = record { once = settled_once entries legal; sums = balances_make_total entries legal; none_overdrawn = none_overdrawn entries legal }

-- the commit list is what a stop that keeps the entry leaves
pub commits_left : {C M : Type 0} (p : Rules C M) (w : World C M) (es : List Event) → (run p w (es ++ on.Stop true ∷ [])).durable ≡ commits (run p w es)
commits_left p w es = ap (λ x. x.durable) (run_then p w es (on.Stop true ∷ [])) ∙ (stop_leaves p (run p w es) true).durable

commits_legal : {C M : Type 0} → StaysLegal → (p : Rules C M) (w : World C M) → RecordsLegal p.verdict → IsSetUp w → (es : List Event) → Legal (commits (run p w es))
commits_legal stays p w records setup es = subst Legal (commits_left p w es) (world_law stays p w records setup (es ++ on.Stop true ∷ [])).legal

pub money_is_conserved : {C M : Type 0} → StaysLegal → MoneyIsConserved C M
money_is_conserved stays p w records setup es = (
  balanced (run p w es).durable (world_law stays p w records setup es).legal,
  balanced (commits (run p w es)) (commits_legal stays p w records setup es),
)

-- ---- the key

same_call : {C M : Type 0} (w : World C M) (c : ℕ) (one other : Packet) (first second : ℕ) → Asks w c one first → Asks w c other second → (one ≡ other) × (first ≡ second)
same_call w c one other first second a b =
    let call : a.call ≡ b.call = same_some _ _ (sym a.is ∙ b.is) in
    (same_some _ _ (sym a.of ∙ ap (λ (x : Call). slice_get w.packets x.packet) call ∙ b.of), sym a.at ∙ ap (λ (x : Call). x.moment) call ∙ b.at)

-- decisions of any kind, of which three laws hold
abbrev Decides : Type 0
Decides = List Entry → ℕ → List ℕ → ℕ → Decision

legal_by : {C M : Type 0} (p : Rules C M) (shown : Decision → Frame) (decide : Decides)
    → ((entries : List Entry) (request : Request) → p.verdict entries request ≡ verdict_shown shown (decide entries request.kind request.body request.moment))
    → ((entries : List Entry) (kind : ℕ) (body : List ℕ) (moment : ℕ) (entry : Entry) → (decide entries kind body moment).entry ≡ Some entry → LegalAfter entries entry)
    → RecordsLegal p.verdict
legal_by p shown decide by_house legal entries request entry is has =
    legal entries request.kind request.body request.moment entry (ap (λ (x : Verdict). x.entry) (sym (by_house entries request)) ∙ has)

module _ {C M : Type 0} (stays : StaysLegal) (p : Rules C M) (shown : Decision → Frame) (decide : Decides)
    (by_house : (entries : List Entry) (request : Request) → p.verdict entries request ≡ verdict_shown shown (decide entries request.kind request.body request.moment))
    (legal : (entries : List Entry) (kind : ℕ) (body : List ℕ) (moment : ℕ) (entry : Entry) → (decide entries kind body moment).entry ≡ Some entry → LegalAfter entries entry)
    (key : (entries : List Entry) → Legal entries → (body : List ℕ) (moment : ℕ) → KeyWherePaid entries body (decide entries STATUS_REQUEST body moment).reply)
    (told : (entries : List Entry) (body : List ℕ) (moment : ℕ) → TellsStatus entries body (decide entries STATUS_REQUEST body moment).reply) where
  records : RecordsLegal p.verdict
  records = legal_by p shown decide by_house legal

  place_told : (entries : List Entry) (body : List ℕ) (moment place : ℕ) (order : Epoid) (receipt : Option Receipt)
      → (decide entries STATUS_REQUEST body moment).reply ≡ Status place order receipt → place ≡ length entries
  place_told entries body moment place order receipt is =
      let so : TellsStatus entries body (Status place order receipt) = subst (TellsStatus entries body) is (told entries body moment) in
      so.2

  tells : (w : World C M) → IsLawfulWorld p.verdict w → (made packet : Packet) (c at moment : ℕ) → IsReply p.verdict w made c at → Asks w c packet moment → packet.kind ≡ STATUS_REQUEST
      → TellsKey (decide (take at w.durable) STATUS_REQUEST packet.body moment) shown w.durable packet.body at made
  tells w lawful made packet c at moment is asks status =
      let same = same_call w c is.packet packet is.moment moment is.asks asks in
      let request : request_of is.packet is.moment ≡ record { kind = STATUS_REQUEST; body = packet.body; moment = moment } =
      ap (λ (x : Packet). request_of x is.moment) same.0 ∙ ap (request_of packet) same.1 ∙ ap (λ (kind : ℕ). let r : Request = record { kind = kind; body = packet.body; moment = moment } in r) status in
      let shows : p.verdict (take at w.durable) (request_of is.packet is.moment) ≡ verdict_shown shown (decide (take at w.durable) STATUS_REQUEST packet.body moment) =
      ap (p.verdict (take at w.durable)) request ∙ by_house (take at w.durable) (record { kind = STATUS_REQUEST; body = packet.body; moment = moment }) in
      record {
        kind = is.kind ∙ ap (λ (x : Verdict). x.kind) shows;
        body_shown = is.body ∙ ap (λ (x : Verdict). x.body) shows;
        within = is.within;
        place = λ place order receipt tells_so. place_told (take at w.durable) packet.body moment place order receipt tells_so ∙ length-take-le at w.durable is.within;
        key = key (take at w.durable) (front_legal w.durable at lawful.legal) packet.body moment;
      }

  pub key_shown : (w : World C M) → IsSetUp w → (es : List Event) (k c at : ℕ) (made packet : Packet) (moment : ℕ)
      → slice_get (run p w es).packets k ≡ Some made → made.maker ≡ by.Server c at
      → Asks (run p w es) c packet moment → packet.kind ≡ STATUS_REQUEST
      → TellsKey (decide (take at (run p w es).durable) STATUS_REQUEST packet.body moment) shown (run p w es).durable packet.body at made
  key_shown w setup es k c at made packet moment there maker asks status =
      let lawful : IsLawfulWorld p.verdict (run p w es) = world_law stays p w records setup es in
      let so : RepliesSo p.verdict (run p w es) made made.maker = all_at (λ (x : Packet). RepliesSo p.verdict (run p w es) x x.maker) (run p w es).packets k made there lawful.replies in
      tells (run p w es) lawful made packet c at moment (subst (RepliesSo p.verdict (run p w es) made) maker so) asks status

pub house_records_legal : {C M : Type 0} → escrow.RecordsLegal → HouseRecordsLegal C M
house_records_legal legal p shown head cap by_house ruling =
    legal_by p shown (λ entries kind body moment. verdict entries head cap kind body moment) by_house
    (λ entries kind body moment entry has. (legal entries head cap kind body moment entry ruling has).0.0)

pub key_where_it_stands : {C M : Type 0} → StaysLegal → escrow.RecordsLegal → StatusTellsKey → StatusTellsTheOrder → KeyWhereItStands C M
key_where_it_stands stays legal key told p shown head cap by_house ruling =
    key_shown stays p shown (λ entries kind body moment. verdict entries head cap kind body moment) by_house
    (λ entries kind body moment entry has. (legal entries head cap kind body moment entry ruling has).0.0)
    (λ entries is body moment. key entries is head cap body moment)
    (λ entries body moment. told entries head cap STATUS_REQUEST body moment)
