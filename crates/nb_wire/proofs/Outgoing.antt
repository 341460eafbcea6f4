-- Bytes that are sent part by part.
use Rattle.std.proofs.Common.{◌≡◌, ℕ, ◌+◌, ◌≤◌, List, [], ◌++◌, length, take, drop, Option, refl, sym, ap, ◌∙◌, subst, arith}
use Rattle.std.specs.Io.KnownBytes.{Appends}
use Rattle.std.proofs.KnownBytes.{Appends-trans, Appends-nil}
use Rattle.std.proofs.lemmas.List.{length-append, take-append-le}
use Rattle.std.proofs.Math.Seq.{take-add, take-append-add}
use Rattle.nb_link.specs.Link.{LinkSeen}
use Rattle.nb_wire.specs.Sent.{SentPart, OnlyWrites, WroteOn}
use Rattle.nb_wire.specs.declared.sending.Sent.{Sent}
use Rattle.nb_wire.specs.declared.sending.Sent.TheVariants.{All, Failed}

pub only_more : (a b c : LinkSeen) → OnlyWrites a b → OnlyWrites b c → OnlyWrites a c
only_more a b c first then = record {
  left = then.left ∙ first.left;
  reads = then.reads ∙ first.reads;
  read_faults = then.read_faults ∙ first.read_faults;
  count = omega (arith, first.count, then.count);
}

-- what a write took of the bytes that were left
pub sent_more : (s t u : Option (List ℕ)) (piece rest : List ℕ) (at n : ℕ) → Appends s t (take at piece) → rest ≡ drop at piece → Appends t u (take n rest) → Appends s u (take (at + n) piece)
sent_more s t u piece rest at n before is more =
    let P : List ℕ → Type 0 = λ bytes. Appends s u bytes in
    subst P (ap (λ (xs : List ℕ). take at piece ++ take n xs) is ∙ sym (take-add at n piece)) (Appends-trans s t u (take at piece) (take n rest) before more)

-- a part of bytes is a part of what is longer
part_longer : (s t : Option (List ℕ)) (bytes more : List ℕ) → SentPart s t bytes → SentPart s t (bytes ++ more)
part_longer s t bytes more part = record {
  count = part.count;
  less = omega (arith, part.less, length-append bytes more);
  appends = subst (λ (xs : List ℕ). Appends s t xs) (sym (take-append-le part.count bytes more (omega (arith, part.less)))) part.appends;
}

-- a part of what stands behind bytes that were sent
part_behind : (s t u : Option (List ℕ)) (bytes more : List ℕ) → Appends s t bytes → SentPart t u more → SentPart s u (bytes ++ more)
part_behind s t u bytes more sent part = record {
  count = length bytes + part.count;
  less = omega (arith, part.less, length-append bytes more);
  appends = subst (λ (xs : List ℕ). Appends s u xs) (sym (take-append-add bytes more part.count)) (Appends-trans s t u bytes (take part.count more) sent part.appends);
}

sent_part : (s t : Option (List ℕ)) (u : Option (List ℕ)) (bytes : List ℕ) → u ≡ t → SentPart s t bytes → SentPart s u bytes
sent_part s t u bytes same part = subst (λ (x : Option (List ℕ)). SentPart s x bytes) (sym same) part

pub wrote_none : (so : Sent) (here : LinkSeen) → WroteOn so so here here []
wrote_none All here = Appends-nil here.sent
wrote_none Failed here = refl

pub wrote_both : (first then last : Sent) (old mid new : LinkSeen) (bytes more : List ℕ) → old.write_faults ≤ mid.write_faults → mid.write_faults ≤ new.write_faults
    → WroteOn first then old mid bytes → WroteOn then last mid new more → WroteOn first last old new (bytes ++ more)
wrote_both All All All old mid new bytes more grows rises wrote writes = Appends-trans old.sent mid.sent new.sent bytes more wrote writes
wrote_both All All Failed old mid new bytes more grows rises wrote writes =
    (omega (arith, grows, writes.0), part_behind old.sent mid.sent new.sent bytes more wrote writes.1)
wrote_both All Failed All old mid new bytes more grows rises wrote writes = absurd writes
wrote_both All Failed Failed old mid new bytes more grows rises wrote writes =
    (omega (arith, wrote.0, rises), sent_part old.sent mid.sent new.sent (bytes ++ more) writes (part_longer old.sent mid.sent bytes more wrote.1))
wrote_both Failed All last old mid new bytes more grows rises wrote writes = absurd wrote
wrote_both Failed Failed All old mid new bytes more grows rises wrote writes = absurd writes
wrote_both Failed Failed Failed old mid new bytes more grows rises wrote writes = writes ∙ wrote
