-- What holds of all answers of a desk.
use Rattle.std.specs.Prelude.{◌≡◌, ℕ, ◌+◌, ◌≤◌, List, [], ◌∷◌, length, Option, None}
use Rattle.nb_port.specs.Tells.{DiskTells}
use Rattle.nb_units.specs.declared.frames.TheConstants.{ORDER_REQUEST, STATUS_REQUEST}
use Rattle.nb_entry.specs.declared.entry.Entry.{Entry}
use Rattle.nb_endorse.specs.declared.receipt.Receipt.{Receipt}
use Rattle.nb_endorse.specs.declared.reply.Reply.TheVariants.{Result as Receipts}
use Rattle.nb_endorse.specs.declared.reply.ReplyKeys.{ReplyKeys}
use Rattle.nb_escrow.specs.declared.decision.Decision.{Decision}
use Rattle.nb_body.specs.declared.query.StatusQuery.{StatusQuery}
use Rattle.nb_escrow.specs.Head.{head_of}
use Rattle.nb_escrow.specs.Laws.{IsAuthentic, GivesKey}
use Rattle.nb_escrow.specs.Verdict.{verdict}
use Rattle.nb_turns.specs.Turns.{Request, recorded}
use Rattle.nb_turns.specs.Lines.{entries_of}
use Rattle.nb_turn.specs.declared.chronicle.View.{View}
use Rattle.nb_turn.specs.Lines.{StartsWith}
use Rattle.nb_turns.specs.declared.line.Line.{Line}
use Rattle.nb_vault.specs.declared.origin.Origin.{Origin}
use Rattle.nb_vault.specs.Asking.{request_of}
use Rattle.nb_vault.specs.Vaults.{Chronicled, house_in}
use Rattle.nb_desk.specs.declared.asked.AskedAll.{AskedAll}
use Rattle.nb_desk.specs.declared.asked.AskedAll.TheVariants.{Served}
use Rattle.nb_desk.specs.Asks.{Gives, Tries}

-- what a pass has seen begins with what it had seen, and so do the entries of it
abbrev pub SeesMore : View Origin Line → View Origin Line → Type 0
SeesMore v w = StartsWith w.seen v.seen × ((opening : List Entry) → StartsWith (entries_of opening w.seen) (entries_of opening v.seen))

-- so it is behind each answer
abbrev pub EntriesGrow : {D : Type 0} → DiskTells D → Type 0
EntriesGrow {D} tells = (by : ℕ) (v w : View Origin Line) (requests : List Request) (found out out' : List ℕ) (answer : AskedAll)
    → (Gives tells by v w requests found out out' answer → SeesMore v w) × (Tries tells by v w requests found out out' answer → SeesMore v w)

-- the place that one request is told is the number of entries that the pass has seen, less one where this call recorded one
abbrev pub PlaceIsCount : {D : Type 0} → DiskTells D → Type 0
PlaceIsCount {D} tells = (by : ℕ) (v w : View Origin Line) (request : Request) (at : ℕ) (out out' : List ℕ) (g : Gives tells by v w (request ∷ []) (at ∷ []) out out' Served)
    → (length (recorded (house_in g.1.old) g.0 (request ∷ [])) ≤ 1)
    × (length (entries_of g.1.old.origin.entries w.seen) ≡ at + length (recorded (house_in g.1.old) g.0 (request ∷ [])))

-- the verdict of a vault on one request over these entries
abbrev pub verdict_in : {D : Type 0} → Chronicled D → List Entry → ℕ → List ℕ → ℕ → Decision
verdict_in v over kind body moment = verdict over (head_of v.origin.charter) v.origin.cap kind body moment

-- two passes of one desk asked one request each, and what the second had seen begins with what the first has seen
abbrev pub Later : View Origin Line → View Origin Line → View Origin Line → Type 0
Later v w u = (u.origin ≡ v.origin) × StartsWith u.seen w.seen

-- A key that one pass was told of is told to every pass whose seen list begins with that one's: where an authentic status query of the
-- first gave a key, one of the second, for the same order and the same party and for at most as many entries as are held, gives it
abbrev pub KeysStay : {D : Type 0} → DiskTells D → Type 0
KeysStay {D} tells = (by by' : ℕ) (v w u z : View Origin Line) (body body' : List ℕ) (moment moment' : ℕ) (found found' out out' more more' : List ℕ)
    → (a : Gives tells by v w (request_of STATUS_REQUEST body moment ∷ []) found out out' Served)
    → (b : Gives tells by' u z (request_of STATUS_REQUEST body' moment' ∷ []) found' more more' Served)
    → Later v w u
    → (asked asked' : StatusQuery) (key : List ℕ)
    → IsAuthentic a.0 body asked → asked.least ≤ length a.0
    → IsAuthentic b.0 body' asked' → asked'.least ≤ length b.0
    → asked'.epoid ≡ asked.epoid → asked'.asker ≡ asked.asker
    → GivesKey (verdict_in a.1.old a.0 STATUS_REQUEST body moment).reply key
    → GivesKey (verdict_in b.1.old b.0 STATUS_REQUEST body' moment').reply key

-- and the result of an order that one was told is told to each of them that asks with the same body, with the same receipts, under the same keys;
-- and nothing more is recorded
abbrev pub ResultsStay : {D : Type 0} → DiskTells D → Type 0
ResultsStay {D} tells = (by by' : ℕ) (v w u z : View Origin Line) (body : List ℕ) (moment moment' : ℕ) (found found' out out' more more' : List ℕ)
    → (a : Gives tells by v w (request_of ORDER_REQUEST body moment ∷ []) found out out' Served)
    → (b : Gives tells by' u z (request_of ORDER_REQUEST body moment' ∷ []) found' more more' Served)
    → Later v w u
    → (merchant consumer : Receipt) (keys : ReplyKeys) (entry : Option Entry)
    → verdict_in a.1.old a.0 ORDER_REQUEST body moment ≡ record { reply = Receipts merchant consumer; keys = keys; entry = entry }
    → verdict_in b.1.old b.0 ORDER_REQUEST body moment' ≡ record { reply = Receipts merchant consumer; keys = keys; entry = None }
