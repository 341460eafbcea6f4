-- What was opened of an endorsed order before its turn. For the invariants of private types.
use Rattle.std.specs.Prelude.{◌≡◌, ℕ, List, Result, Ok, Err, IfOk, IfErr}
use Rattle.nb_epo.specs.declared.order.Order.{Order}
use Rattle.nb_epo.specs.declared.hidden.Hidden.{Hidden}
use Rattle.nb_epo.specs.Reading.{order_of}
use Rattle.nb_epo.specs.Tags.{order_tag}
use Rattle.nb_endorse.specs.declared.endorsement.DigestedEndorsement.{DigestedEndorsement}
use Rattle.nb_endorse.specs.declared.refusal.Refusal.{Refusal}
use Rattle.nb_endorse.specs.Tags.{endorsement_digest}
use Rattle.nb_escrow.specs.Checks.{right_tag}
use Rattle.nb_escrow.specs.Orders.{endorsement_in, hidden_in}

-- the bytes, as an endorsement that is sealed under the key, give this, with the digest of what is read
pub record ReadsEndorsement (key sealed : List ℕ) (result : Result DigestedEndorsement Refusal) : Type 0 where
  pub read : IfOk result (λ opened. endorsement_in key sealed ≡ Ok opened.endorsement)
  pub refused : IfErr result (λ refusal. endorsement_in key sealed ≡ Err refusal)
  pub digest : IfOk result (λ opened. opened.digest ≡ endorsement_digest opened.endorsement)

-- the order that the bytes spell has its tag tested under the key with the one result, and its hidden part opened under it with the other
pub record TestsOrder (key bytes : List ℕ) (tag : Result (Unit {0}) Refusal) (hidden : Result Hidden Refusal) : Type 0 where
  pub tagged : (order : Order) → order_of bytes ≡ Ok order → tag ≡ right_tag order.tag (order_tag key order)
  pub revealed : (order : Order) → order_of bytes ≡ Ok order → hidden ≡ hidden_in key order.hidden
