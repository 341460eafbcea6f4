-- Replies that are sent part by part.
use Rattle.std.proofs.Common.{◌≡◌, ℕ, ◌+◌, ◌≤◌, List, ◌++◌, length, take, drop, Option, sym, ap, ◌∙◌, subst, arith}
use Rattle.std.specs.Io.KnownBytes.{Appends}
use Rattle.std.proofs.lemmas.List.{length-append, length-drop, take-append-drop, take-append-le}
use Rattle.nb_wire.specs.Sent.{SentPart}
use Rattle.nb_wire.proofs.Outgoing.{sent_more}

-- a part of one of several replies was sent
pub sent_part : (s t u : Option (List ℕ)) (replies rest reply : List ℕ) (at n : ℕ) → Appends s t (take at replies) → rest ≡ drop at replies → reply ≡ take n rest → n ≤ length rest → SentPart t u reply → SentPart s u replies
sent_part s t u replies rest reply at n before is cut most part =
    let whole : rest ≡ reply ++ drop n rest = sym (take-append-drop n rest) ∙ ap (λ (xs : List ℕ). xs ++ drop n rest) (sym cut) in
    let same : take part.count rest ≡ take part.count reply = ap (take part.count) whole ∙ take-append-le part.count reply (drop n rest) (omega (arith, part.less)) in
    record {
      count = at + part.count;
      less = omega (arith, part.less, ap length whole, length-append reply (drop n rest), ap length is, length-drop at replies);
      appends = sent_more s t u replies rest at part.count before is (subst (λ (bytes : List ℕ). Appends t u bytes) (sym same) part.appends);
    }
