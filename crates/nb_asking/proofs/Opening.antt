-- What opening a grant and a status gives.
use Rattle.std.proofs.Common.{◌≡◌, ℕ, List, Ok, Err, Result, Option, Some, None}
use Rattle.std.specs.Prelude.{codes, IfSome}
use Rattle.nb_endorse.specs.declared.receipt.Signed.{Signed}
use Rattle.nb_endorse.specs.Spelling.{IsSigned}
use Rattle.nb_endorse.specs.Replies.{ReceiptKeepsRules}
use Rattle.nb_ticket.specs.declared.granted.Granted.{Granted}
use Rattle.nb_ticket.specs.declared.granted.GrantFault.{GrantFault}
use Rattle.nb_ticket.specs.declared.granted.GrantFault.TheVariants as grant
use Rattle.nb_ticket.specs.Reading.{granted_of}
use Rattle.nb_ticket.specs.Opening.{OpensGrant}
use Rattle.nb_msgs.specs.Tests.{or_seal, opened}
use Rattle.nb_msgs.proofs.Unsealing.{opened_so, no_text, receipt_lawful}

pub grant_so : (key bytes : List ℕ) (r : Result Granted GrantFault) → OpensGrant key bytes r → or_seal r ≡ opened granted_of key (codes "gran") bytes
grant_so key bytes (Ok g) is = opened_so granted_of key (codes "gran") bytes is.0 (Ok g) is.1 is.2
grant_so key bytes (Err (grant.BadSeal iv)) is = no_text granted_of key (codes "gran") bytes is.0
grant_so key bytes (Err (grant.Malformed place)) is = opened_so granted_of key (codes "gran") bytes is.0 (Err place) is.1 is.2

-- a receipt that was read keeps the rules of receipts
pub told_lawful : (o : Option Signed) → IfSome o IsSigned → IfSome o (λ s. ReceiptKeepsRules s.receipt)
told_lawful None is = tt
told_lawful (Some s) is = receipt_lawful s is
