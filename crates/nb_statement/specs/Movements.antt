-- What an entry moves on an account, and what of that comes into the account and goes out of it.
use Rattle.std.specs.Prelude.{ℕ, ◌+◌, ◌-◌, ◌==◌, List, Option, Some, None, if◌then◌else◌}
use Rattle.std.specs.List.{filter_map}
use Rattle.nb_units.specs.declared.ids.AcctId.{AcctId}
use Rattle.nb_units.specs.Epoid.{epoid_bytes}
use Rattle.nb_entry.specs.declared.entry.Entry.{Entry}
use Rattle.nb_entry.specs.declared.entry.Entry.TheVariants as entry
use Rattle.nb_statement.specs.declared.movement.Movement.{Movement}
use Rattle.nb_statement.specs.declared.movement.Way.{Way}
use Rattle.nb_statement.specs.declared.movement.Way.TheVariants.{Fund, Out, In, Fee}

-- a payment moves its price out of the consumer's account, and what is left of it into the merchant's
abbrev pub paid : AcctId → List ℕ → ℕ → ℕ → AcctId → AcctId → Option Movement
paid a name price left cacct macct =
    if cacct.0 == a.0 then Some (record { way = Out; name = name; amount = price })
    else if macct.0 == a.0 then Some (record { way = In; name = name; amount = left })
    else None

-- what an entry moves on an account that a party may hold. What is left of a price is the price less the fee
abbrev pub moved_of : AcctId → Entry → Option Movement
moved_of a (entry.Fund acct amount reference) = if acct.0 == a.0 then Some (record { way = Fund; name = reference; amount = amount }) else None
moved_of a (entry.Paid digest epoid consumer merchant product price cacct macct moment key) = paid a (epoid_bytes epoid) price.0 price.0 cacct macct
moved_of a (entry.Charged digest epoid consumer merchant product price fee cacct macct moment key) = paid a (epoid_bytes epoid) price.0 (price.0 - fee) cacct macct
moved_of a other = None

-- what an entry moves into the house's own account: a payment with a fee the fee, also where that is 0
abbrev pub kept_of : Entry → Option Movement
kept_of (entry.Charged digest epoid consumer merchant product price fee cacct macct moment key) = Some (record { way = Fee; name = epoid_bytes epoid; amount = fee })
kept_of other = None

-- what an entry moves on an account
abbrev pub movement_of : AcctId → Entry → Option Movement
movement_of a e = if a.0 == 0 then kept_of e else moved_of a e

-- all that the entries move on an account, in their order
abbrev pub movements : AcctId → List Entry → List Movement
movements a H = filter_map (movement_of a) H

-- so much of an amount comes into the account
abbrev pub comes : Way → ℕ → ℕ
comes Out amount = 0
comes other amount = amount

-- and so much goes out of it
abbrev pub goes : Way → ℕ → ℕ
goes Out amount = amount
goes other amount = 0

-- what comes by a movement
abbrev pub came : Movement → ℕ
came m = comes m.way m.amount

-- what goes by a movement
abbrev pub went : Movement → ℕ
went m = goes m.way m.amount

-- the balance behind a movement, from that before it: a fund, an income and a fee are added, and an outgoing is taken away
abbrev pub after : ℕ → Movement → ℕ
after balance m = balance + came m - went m
