-- What was sent of a text, and what waits behind it.
use Rattle.std.proofs.Common.{◌≡◌, ℕ, ◌+◌, ◌≤◌, List, [], ◌++◌, length, take, drop, Option, refl, sym, ap, ◌∙◌, subst, arith, append_assoc}
use Rattle.std.specs.Io.KnownBytes.{Appends}
use Rattle.std.proofs.KnownBytes.{Appends-nil, Appends-trans}
use Rattle.std.proofs.lemmas.List.{length-append, take-append-le}
use Rattle.std.proofs.Math.Seq.{take-add, take-append-add}
use Rattle.nb_port.specs.Faults.{Rose}
use Rattle.nb_statement.specs.Statement.{SentPart, Stands}

-- what a write took of the bytes that were left
pub sent_more : (s t u : Option (List ℕ)) (piece rest : List ℕ) (at n : ℕ) → Appends s t (take at piece) → rest ≡ drop at piece → Appends t u (take n rest) → Appends s u (take (at + n) piece)
sent_more s t u piece rest at n before is more =
    let P : List ℕ → Type 0 = λ bytes. Appends s u bytes in
    subst P (ap (λ (xs : List ℕ). take at piece ++ take n xs) is ∙ sym (take-add at n piece)) (Appends-trans s t u (take at piece) (take n rest) before more)

-- a part of a text is a part of one that goes on
pub part_longer : (s t : Option (List ℕ)) (text more : List ℕ) → SentPart s t text → SentPart s t (text ++ more)
part_longer s t text more part = record {
  count = part.count;
  less = omega (arith, part.less, length-append text more);
  appends = subst (λ (xs : List ℕ). Appends s t xs) (sym (take-append-le part.count text more (omega (arith, part.less)))) part.appends;
}

-- a part of what stands behind bytes that were sent
part_behind : (s t u : Option (List ℕ)) (done more : List ℕ) → Appends s t done → SentPart t u more → SentPart s u (done ++ more)
part_behind s t u done more sent part = record {
  count = length done + part.count;
  less = omega (arith, part.less, length-append done more);
  appends = subst (λ (xs : List ℕ). Appends s u xs) (sym (take-append-add done more part.count)) (Appends-trans s t u done (take part.count more) sent part.appends);
}

-- at the start nothing was sent and nothing waits
pub begun : (s : Option (List ℕ)) → Stands s s [] []
begun s = record { done = []; appends = Appends-nil s; all = refl }

-- more is put behind what waits
pub waits_more : (s t : Option (List ℕ)) (waits text more : List ℕ) → Stands s t waits text → Stands s t (waits ++ more) (text ++ more)
waits_more s t waits text more stands = record {
  done = stands.done;
  appends = stands.appends;
  all = sym (append_assoc stands.done waits more) ∙ ap (λ (xs : List ℕ). xs ++ more) stands.all;
}

-- what waits is sent
pub all_sent : (s t u : Option (List ℕ)) (waits text : List ℕ) → Stands s t waits text → Appends t u waits → Appends s u text
all_sent s t u waits text stands sent = subst (λ (xs : List ℕ). Appends s u xs) stands.all (Appends-trans s t u stands.done waits stands.appends sent)

-- or a part of it
pub part_sent : (s t u : Option (List ℕ)) (waits text : List ℕ) → Stands s t waits text → SentPart t u waits → SentPart s u text
part_sent s t u waits text stands part = subst (λ (xs : List ℕ). SentPart s u xs) stands.all (part_behind s t u stands.done waits stands.appends part)

-- one part after another
pub stands_on : (s t u : Option (List ℕ)) (waited waits text more : List ℕ) → Stands s t waited text → Stands t u waits (waited ++ more) → Stands s u waits (text ++ more)
stands_on s t u waited waits text more first then = record {
  done = first.done ++ then.done;
  appends = Appends-trans s t u first.done then.done first.appends then.appends;
  all = append_assoc first.done then.done waits ∙ ap (λ (xs : List ℕ). first.done ++ xs) then.all ∙ sym (append_assoc first.done waited more) ∙ ap (λ (xs : List ℕ). xs ++ more) first.all;
}

-- a part that failed behind what stands
pub part_on : (s t u : Option (List ℕ)) (waited text more : List ℕ) → Stands s t waited text → SentPart t u (waited ++ more) → SentPart s u (text ++ more)
part_on s t u waited text more first part = part_sent s t u (waited ++ more) (text ++ more) (waits_more s t waited text more first) part

-- ---- a text in three parts, each put behind what waits of those before it

-- the first one, where nothing waited
pub first_stands : (s t : Option (List ℕ)) (none waits text : List ℕ) → none ≡ [] → Stands s t waits (none ++ text) → Stands s t waits text
first_stands s t none waits text is stands = subst (λ (xs : List ℕ). Stands s t waits (xs ++ text)) is stands

pub first_failed : (s t : Option (List ℕ)) (none first next last : List ℕ) → none ≡ [] → SentPart s t (none ++ first) → SentPart s t (first ++ (next ++ last))
first_failed s t none first next last is part = part_longer s t first (next ++ last) (subst (λ (xs : List ℕ). SentPart s t (xs ++ first)) is part)

pub next_failed : (s t u : Option (List ℕ)) (waited first next last : List ℕ) → Stands s t waited first → SentPart t u (waited ++ next) → SentPart s u (first ++ (next ++ last))
next_failed s t u waited first next last stands part =
    subst (λ (xs : List ℕ). SentPart s u xs) (append_assoc first next last) (part_longer s u (first ++ next) last (part_on s t u waited first next stands part))

pub last_failed : (s t u : Option (List ℕ)) (waited first next last : List ℕ) → Stands s t waited (first ++ next) → SentPart t u (waited ++ last) → SentPart s u (first ++ (next ++ last))
last_failed s t u waited first next last stands part =
    subst (λ (xs : List ℕ). SentPart s u xs) (append_assoc first next last) (part_on s t u waited (first ++ next) last stands part)

pub all_stand : (s t u : Option (List ℕ)) (waited waits first next last : List ℕ) → Stands s t waited (first ++ next) → Stands t u waits (waited ++ last) → Stands s u waits (first ++ (next ++ last))
all_stand s t u waited waits first next last stands then =
    subst (λ (xs : List ℕ). Stands s u waits xs) (append_assoc first next last) (stands_on s t u waited waits (first ++ next) last stands then)

-- a count that rose behind others, and one that rose before others
pub rose_behind : (a b c : ℕ) → a ≤ b → Rose b c → Rose a c
rose_behind a b c first rose = omega (arith, first, rose)

pub rose_before : (a b c : ℕ) → Rose a b → b ≤ c → Rose a c
rose_before a b c rose then = omega (arith, rose, then)
