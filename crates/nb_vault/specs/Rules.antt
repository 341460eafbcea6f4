-- The house of a vault: the verdict with the bytes of its reply, and the bytes of the two refusals of a turn that did not decide.
use Rattle.std.specs.Prelude.{ℕ, List}
use Rattle.nb_entry.specs.declared.entry.Entry.{Entry}
use Rattle.nb_endorse.specs.declared.refusal.TheConstants.{DISK_FAULT, WORN}
use Rattle.nb_endorse.specs.declared.reply.Reply.TheVariants.{Refused}
use Rattle.nb_endorse.specs.Refusals.{refusal}
use Rattle.nb_endorse.specs.Keys.{no_keys}
use Rattle.nb_escrow.specs.declared.head.Head.{Head}
use Rattle.nb_escrow.specs.Head.{IsRuling}
use Rattle.nb_escrow.specs.Verdict.{verdict}
use Rattle.nb_msgs.specs.ReplyBytes.{reply_bytes}
use Rattle.nb_turns.specs.declared.limits.TheConstants.{MAX_FAULTS}
use Rattle.nb_turns.specs.Turns.{Request, Ruling, House}
use Rattle.nb_turns.specs.Laws.{IsLawful, RecordsOfRate}

-- the verdict, as a house with this head and cap rules
abbrev pub house_rules : Head → ℕ → List Entry → Request → Ruling
house_rules head cap entries request =
    record {
      reply = reply_bytes (verdict entries head cap request.kind request.body request.moment).keys (verdict entries head cap request.kind request.body request.moment).reply;
      entry = (verdict entries head cap request.kind request.body request.moment).entry;
    }

-- the bytes of a refusal that shows two numbers
abbrev pub refused : ℕ → ℕ → ℕ → List ℕ
refused code a b = reply_bytes no_keys (Refused (refusal code a b))

-- the house with this head and cap
abbrev pub house_of : Head → ℕ → House
house_of head cap = record { rules = house_rules head cap; fault = λ (before after : ℕ). refused DISK_FAULT before after; worn = refused WORN MAX_FAULTS 0 }

-- what a house records is Legal next, and there is room for it: its version is one of the two, and its rate is at most 1,000
abbrev pub HousesAreLawful : Type 0
HousesAreLawful = (head : Head) (cap : ℕ) → IsRuling head → IsLawful (house_of head cap) cap

-- and a journal of its version and its rate may have it
abbrev pub HousesRecordOf : Type 0
HousesRecordOf = (head : Head) (cap : ℕ) → IsRuling head → RecordsOfRate (house_of head cap) head.version head.rate
