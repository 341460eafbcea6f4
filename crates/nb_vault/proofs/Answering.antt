-- A turn, from its steps: settling, the verdicts, and making what they record durable.
use Rattle.std.proofs.Common.{◌≡◌, ◌⊎◌, inl, inr, ⊎_elim, ℕ, ◌+◌, ◌≤◌, ◌<◌, Bool, cond, List, [], ◌∷◌, ◌++◌, length, Option, IfSome, refl, sym, ap, subst, ◌∙◌, append_assoc, arith}
use Rattle.std.proofs.lemmas.List.{append-nil, length-append}
use Rattle.nb_units.specs.declared.charter.Charter.{Charter}
use Rattle.nb_port.specs.Tells.{DiskTells}
use Rattle.nb_entry.specs.declared.entry.Entry.{Entry}
use Rattle.nb_journal.specs.declared.journal.Journal.{Journal}
use Rattle.nb_journal.specs.Time.{LeavesOnly, Unwritten}
use Rattle.nb_journal.proofs.Moments.{started}
use Rattle.nb_escrow.specs.Head.{head_of}
use Rattle.nb_turns.specs.declared.limits.TheConstants.{MAX_FAULTS}
use Rattle.nb_turns.specs.declared.line.Line.{Line}
use Rattle.nb_turns.specs.declared.line.Line.TheVariants.{Fault}
use Rattle.nb_turns.specs.Turns.{Request, House, State, Decides, Fails, Refuses, SettlesInto, decided, recorded, replies}
use Rattle.nb_turns.specs.Lines.{AddsLines, Settled, DecidedLines, DoubtedLines, adopts, commits, doubts, entries_of, faults_of, next_turn, open_doubt}
use Rattle.nb_turns.proofs.Keeping.{Admits, IsList}
use Rattle.nb_turns.proofs.Lining.{decided_entries, doubt_faults, doubted_are, doubted_lines_entries, entries_append}
use Rattle.nb_vault.specs.declared.parts.Parts.{Parts}
use Rattle.nb_vault.specs.declared.records.Counts.{Counts}
use Rattle.nb_vault.specs.Holdings.{StandsFor, StandsForEither, WritesItem, TearsItem}
use Rattle.nb_vault.specs.Parts.{HasLines, IsVault, SameOrigin, Readied, Unready, Committed, Doubted, opening_of, seen_as}
use Rattle.nb_vault.specs.Records.{Rests, EitherOf, WithOrWithout, disk_under, doubt_of, over_of}
use Rattle.nb_vault.specs.Rules.{house_of}
use Rattle.nb_vault.specs.Vaults.{WentBy, OneGateOpens, doubt_in, house_in, handed_places, state_of, StandsForState}
use Rattle.nb_vault.proofs.Doubting.{few_faulted, few_recorded}
use Rattle.nb_vault.proofs.Resting.{leaves_more, leaves_then, fresh_content, rest_images}
use Rattle.nb_vault.proofs.Seeing.{doubt_seen, either_seen, state_at, state_seen}
use Rattle.nb_vault.proofs.Vaulting.{decided_faults, failed_faults, same_opening, vault_behind}

-- the steps of a turn by the rules of this house before what it records is made durable: from the vault, what was in doubt is settled, and
-- the requests are decided
pub record Steps {D : Type 0} (house : House) (tells : DiskTells D) (old mid p : Parts D) (by : ℕ) (requests : List Request) : Type 0 where
  pub vault : IsVault tells old
  pub few : old.faults < MAX_FAULTS
  pub ready : Readied old mid by (next_turn old.lines.items)
  pub rests : Rests tells mid.records
  pub first : SameOrigin old mid
  pub nothing : Unwritten tells (disk_under old.records) (disk_under mid.records)
  pub second : SameOrigin mid p
  pub journal : p.records.journal ≡ mid.records.journal
  pub over : over_of p.records ≡ mid.records.book.entries
  pub group : p.records.group.items ≡ recorded house mid.records.book.entries requests
  pub list : IsList p.records.book.cap (over_of p.records ++ p.records.group.items)
  pub lines : p.lines.items ≡ mid.lines.items
  pub faults : p.faults ≡ mid.faults

pub then_same : {D : Type 0} (old mid new : Parts D) → SameOrigin old mid → SameOrigin mid new → SameOrigin old new
then_same old mid new first second = record {
  terms = record { charter = second.terms.charter ∙ first.terms.charter; cap = second.terms.cap ∙ first.terms.cap };
  opening = second.opening ∙ first.opening;
  count = second.count ∙ first.count;
  head = second.head ∙ first.head;
}

-- what a vault was opened with stays
origin_is : {D : Type 0} (tells : DiskTells D) (old new : Parts D) (more : List Entry) → IsVault tells old → SameOrigin old new → new.records.book.entries ≡ old.records.book.entries ++ more → (seen_as new).origin ≡ (seen_as old).origin
origin_is tells old new more vault same grown = rw (same_opening tells old new more vault same grown, same.terms.charter, same.terms.cap, same.count) refl

-- those in doubt behind a turn that failed so
pub doubted_all : {D : Type 0} (tells : DiskTells D) (p new : Parts D) (by turn : ℕ) (counts : Counts) → Doubted tells p new by turn counts → doubt_of new.records ≡ p.records.group.items
doubted_all tells p new by turn counts d = ap (λ (b : Bool). cond b new.records.group.items []) d.stale ∙ d.group

-- the house stays
pub house_is : {D : Type 0} (tells : DiskTells D) (old mid : Parts D) → IsVault tells old → SameOrigin old mid → house_of mid.head mid.records.book.cap ≡ house_in (seen_as old)
house_is tells old mid vault same =
    ap (λ h. house_of h mid.records.book.cap) (same.head ∙ vault.keys) ∙ ap (λ (cap : ℕ). house_of (head_of old.records.charter) cap) same.terms.cap

pub stepped : {D : Type 0} (tells : DiskTells D) (old mid p : Parts D) (by turn : ℕ) (requests : List Request) → IsVault tells old → old.faults < MAX_FAULTS → turn ≡ next_turn old.lines.items → Readied old mid by turn → Rests tells mid.records
    → SameOrigin old mid → Unwritten tells (disk_under old.records) (disk_under mid.records) → SameOrigin mid p → p.records.journal ≡ mid.records.journal → over_of p.records ≡ mid.records.book.entries
    → p.records.group.items ≡ recorded (house_of mid.head mid.records.book.cap) mid.records.book.entries requests → IsList p.records.book.cap (over_of p.records ++ p.records.group.items)
    → p.lines.items ≡ mid.lines.items → p.faults ≡ mid.faults → Steps (house_in (seen_as old)) tells old mid p by requests
stepped tells old mid p by turn requests vault few turn_is ready rests first nothing second journal over group list lines faults = record {
  vault = vault;
  few = few;
  ready = subst (λ (n : ℕ). Readied old mid by n) turn_is ready;
  rests = rests;
  first = first;
  nothing = nothing;
  second = second;
  journal = journal;
  over = over;
  group = group ∙ ap (λ (h : House). recorded h mid.records.book.entries requests) (house_is tells old mid vault first);
  list = list;
  lines = lines;
  faults = faults;
}

module _ {D : Type 0} (house : House) (tells : DiskTells D) (old mid p : Parts D) (by : ℕ) (requests : List Request) (s : Steps house tells old mid p by requests) where
  -- the entries that the first verdict is over
  pub over_is : over_of p.records ≡ old.records.book.entries ++ s.ready.kept
  over_is = s.over ∙ s.ready.entries

  group_is : p.records.group.items ≡ recorded house (over_of p.records) requests
  group_is =
      s.group ∙ ap (λ (es : List Entry). recorded house es requests) (sym s.over)

  same : SameOrigin old p
  same = then_same old mid p s.first s.second

  -- what is recorded over these entries leaves them Legal and within the cap
  admits : Admits house old.records.book.cap (over_of p.records) requests
  admits list =
      subst (λ (es : List Entry). IsList old.records.book.cap (over_of p.records ++ es)) group_is
      (subst (λ (cap : ℕ). IsList cap (over_of p.records ++ p.records.group.items)) same.terms.cap s.list)

  -- what was in doubt is kept or dropped, whole
  settled : Settled (opening_of old) old.lines.items s.ready.kept (over_of p.records)
  settled = record {
    of_doubt = ⊎_elim inl (λ is. ⊎_elim (λ none. inl (is ∙ none)) (λ told. inr (is ∙ told)) s.vault.told.doubt_is) s.ready.kept_is;
    most = s.ready.most;
    over_is = over_is ∙ ap (λ (es : List Entry). es ++ s.ready.kept) s.vault.told.listed;
  }

  settles : SettlesInto (state_of (seen_as old)) (over_of p.records)
  settles = subst (λ (st : State). SettlesInto st (over_of p.records)) (sym (state_seen tells old s.vault))
      (⊎_elim (λ none. inl (over_is ∙ ap (λ (es : List Entry). old.records.book.entries ++ es) none ∙ append-nil old.records.book.entries))
      (λ is. inr (over_is ∙ ap (λ (es : List Entry). old.records.book.entries ++ es) is)) s.ready.kept_is)

  few_told : faults_of old.lines.items < MAX_FAULTS
  few_told = omega (arith, s.few, s.vault.faults_are)

  -- the content stood for these entries
  told_over : IfSome (tells.content (disk_under old.records)) (StandsFor old.records.charter old.records.book.cap (over_of p.records))
  told_over =
      subst (λ (t : Option (List ℕ)). IfSome t (StandsFor old.records.charter old.records.book.cap (over_of p.records))) s.nothing.same
      (subst (λ (es : List Entry). IfSome (tells.content (disk_under mid.records)) (StandsFor old.records.charter old.records.book.cap es)) (sym s.over)
      (subst (λ (cap : ℕ). IfSome (tells.content (disk_under mid.records)) (StandsFor old.records.charter cap mid.records.book.entries)) s.first.terms.cap
      (subst (λ (charter : Charter). IfSome (tells.content (disk_under mid.records)) (StandsFor charter mid.records.book.cap mid.records.book.entries)) s.first.terms.charter
      (fresh_content tells mid.records s.rests s.ready.fresh))))

  pub content_is : tells.content (disk_under p.records) ≡ tells.content (disk_under old.records)
  content_is = ap (λ (j : Journal D). tells.content j.disk) s.journal ∙ s.nothing.same

  -- the terms are those at the start
  at_start : (es : List Entry) (c : List ℕ) → StandsFor p.records.charter p.records.book.cap es c → StandsFor old.records.charter old.records.book.cap es c
  at_start es c is =
      subst (λ (charter : Charter). StandsFor charter old.records.book.cap es c) same.terms.charter
      (subst (λ (cap : ℕ). StandsFor p.records.charter cap es c) same.terms.cap is)

  -- up to the end of settling what stood before is left, and since then the entries alone or with the group
  gate_opens : (new : Parts D) → LeavesOnly tells (disk_under old.records) (disk_under mid.records) (EitherOf old.records) → LeavesOnly tells (disk_under p.records) (disk_under new.records) (WithOrWithout p.records (over_of p.records) p.records.group.items)
      → OneGateOpens house tells (seen_as old) (seen_as new) requests (over_of p.records)
  gate_opens new leaves more = record {
    settled = disk_under mid.records;
    before = leaves_more tells (disk_under old.records) (disk_under mid.records) (EitherOf old.records) (StandsForState (seen_as old)) (λ c is. either_seen tells old s.vault c is) leaves;
    since = leaves_more tells (disk_under mid.records) (disk_under new.records) (WithOrWithout p.records (over_of p.records) p.records.group.items)
        (StandsForEither old.records.charter old.records.book.cap (over_of p.records) (recorded house (over_of p.records) requests))
        (λ c is. ⊎_elim (λ alone. inl (at_start (over_of p.records) c alone))
        (λ all. inr (subst (λ (es : List Entry). StandsFor old.records.charter old.records.book.cap (over_of p.records ++ es) c) group_is (at_start (over_of p.records ++ p.records.group.items) c all))) is)
        (subst (λ (j : Journal D). LeavesOnly tells j.disk (disk_under new.records) (WithOrWithout p.records (over_of p.records) p.records.group.items)) s.journal more);
  }

  -- ---- a turn that decided

  module _ (new : Parts D) (c : Committed p new by (next_turn old.lines.items)) where
    decided_behind : new.lines.items ≡ old.lines.items ++ (adopts by (next_turn old.lines.items) s.ready.kept ++ commits by (next_turn old.lines.items) (recorded house (over_of p.records) requests))
    decided_behind =
        c.lines ∙ ap (λ (ls : List Line). ls ++ commits by (next_turn old.lines.items) p.records.group.items) (s.lines ∙ s.ready.lines)
        ∙ append_assoc old.lines.items (adopts by (next_turn old.lines.items) s.ready.kept) (commits by (next_turn old.lines.items) p.records.group.items)
        ∙ ap (λ (es : List Entry). old.lines.items ++ (adopts by (next_turn old.lines.items) s.ready.kept ++ commits by (next_turn old.lines.items) es)) group_is

    decided_adds : DecidedLines house (opening_of old) by (next_turn old.lines.items) old.lines.items requests (over_of p.records)
        (adopts by (next_turn old.lines.items) s.ready.kept ++ commits by (next_turn old.lines.items) (recorded house (over_of p.records) requests))
    decided_adds = record { few = few_told; kept = s.ready.kept; settled = settled; lines = refl }

    decided_list : new.records.book.entries ≡ over_of p.records ++ recorded house (over_of p.records) requests
    decided_list = c.entries ∙ ap (λ (es : List Entry). over_of p.records ++ es) group_is

    decided_fresh : doubt_of new.records ≡ []
    decided_fresh = ap (λ (b : Bool). cond b new.records.group.items []) c.fresh

    decided_count : new.faults ≡ old.faults
    decided_count = c.faults ∙ s.faults ∙ s.ready.faults

    pub decided_vault : SameOrigin p new → Rests tells new.records → HasLines new new.records.book.entries → tells.faults (disk_under old.records) ≤ tells.faults (disk_under new.records) → IsVault tells new
    decided_vault last rests has count =
        vault_behind tells old new (s.ready.kept ++ recorded house (over_of p.records) requests) house by requests (Decides (over_of p.records))
        (adopts by (next_turn old.lines.items) s.ready.kept ++ commits by (next_turn old.lines.items) (recorded house (over_of p.records) requests))
        s.vault (then_same old p new same last) rests has
        (decided_list ∙ ap (λ (es : List Entry). es ++ recorded house (over_of p.records) requests) over_is ∙ append_assoc old.records.book.entries s.ready.kept (recorded house (over_of p.records) requests))
        decided_adds decided_behind
        (decided_list ∙ sym (decided_entries house (opening_of old) by (next_turn old.lines.items) old.lines.items requests (over_of p.records) _ decided_adds))
        (inl decided_fresh) count
        (decided_count ∙ s.vault.faults_are ∙ sym (decided_faults house (opening_of old) by (next_turn old.lines.items) old.lines.items requests _ s.vault.told.closed (over_of p.records) decided_adds))
        (omega (arith, decided_count, s.vault.few)) admits
        (few_recorded old.lines.items by (next_turn old.lines.items) s.vault.open_most s.ready.kept (recorded house (over_of p.records) requests))

    pub decided_origin : SameOrigin p new → (seen_as new).origin ≡ (seen_as old).origin
    decided_origin last = origin_is tells old new (s.ready.kept ++ p.records.group.items) s.vault (then_same old p new same last)
        (c.entries ∙ ap (λ (es : List Entry). es ++ p.records.group.items) over_is ∙ append_assoc old.records.book.entries s.ready.kept p.records.group.items)

    -- where nothing is recorded the disk is the one behind settling, which writes nothing
    decided_idle : (p.records.group.items ≡ [] → disk_under new.records ≡ disk_under p.records) → recorded house (over_of p.records) requests ≡ [] → Unwritten tells (disk_under old.records) (disk_under new.records)
    decided_idle idle none =
        subst (λ (disk : D). Unwritten tells (disk_under old.records) disk) (sym (idle (group_is ∙ none) ∙ ap (λ (j : Journal D). j.disk) s.journal)) s.nothing

    pub decided_went : IsVault tells new → WritesItem p.records.charter p.records.book.cap (over_of p.records) p.records.group.items (tells.content (disk_under p.records)) (tells.content (disk_under new.records))
        → (p.records.group.items ≡ [] → disk_under new.records ≡ disk_under p.records)
        → LeavesOnly tells (disk_under old.records) (disk_under mid.records) (EitherOf old.records) → LeavesOnly tells (disk_under p.records) (disk_under new.records) (WithOrWithout p.records (over_of p.records) p.records.group.items)
        → (found out out' : List ℕ) → found ≡ handed_places house requests (Decides (over_of p.records)) → out' ≡ out ++ replies (decided house (over_of p.records) requests)
        → WentBy house tells (seen_as old) (seen_as new) by requests (Decides (over_of p.records)) found out out'
    decided_went vault wrote idle leaves more found out out' places bytes = record {
      turn = (few_told, settles, state_seen tells new vault ∙ rw (decided_list, decided_fresh, decided_count, s.vault.faults_are) refl);
      found_is = places;
      out_is = bytes;
      added = adopts by (next_turn old.lines.items) s.ready.kept ++ commits by (next_turn old.lines.items) (recorded house (over_of p.records) requests);
      behind = decided_behind;
      lines = decided_adds;
      disk = record {
        told = told_over;
        written = subst (λ (es : List Entry). WritesItem old.records.charter old.records.book.cap (over_of p.records) es (tells.content (disk_under old.records)) (tells.content (disk_under new.records))) group_is
            (subst (λ (t : Option (List ℕ)). WritesItem old.records.charter old.records.book.cap (over_of p.records) p.records.group.items t (tells.content (disk_under new.records))) content_is
            (subst (λ (cap : ℕ). WritesItem old.records.charter cap (over_of p.records) p.records.group.items (tells.content (disk_under p.records)) (tells.content (disk_under new.records))) same.terms.cap
            (subst (λ (charter : Charter). WritesItem charter p.records.book.cap (over_of p.records) p.records.group.items (tells.content (disk_under p.records)) (tells.content (disk_under new.records))) same.terms.charter wrote)));
        idle = decided_idle idle;
        gate = gate_opens new leaves more;
      };
    }

  -- ---- a turn whose item could not be made durable

  module _ (new : Parts D) (counts : Counts) (d : Doubted tells p new by (next_turn old.lines.items) counts) where
    some_recorded : recorded house (over_of p.records) requests ≡ [] → ⊥
    some_recorded none = d.some (group_is ∙ none)

    doubted_behind : new.lines.items ≡ old.lines.items ++ (adopts by (next_turn old.lines.items) s.ready.kept
        ++ (doubts by (next_turn old.lines.items) (recorded house (over_of p.records) requests) ++ Fault by (next_turn old.lines.items) counts.before counts.after ∷ []))
    doubted_behind =
        d.lines
        ∙ ap (λ (ls : List Line). ls ++ (doubts by (next_turn old.lines.items) p.records.group.items ++ Fault by (next_turn old.lines.items) counts.before counts.after ∷ [])) (s.lines ∙ s.ready.lines)
        ∙ append_assoc old.lines.items (adopts by (next_turn old.lines.items) s.ready.kept) (doubts by (next_turn old.lines.items) p.records.group.items ++ Fault by (next_turn old.lines.items) counts.before counts.after ∷ [])
        ∙ ap (λ (es : List Entry). old.lines.items ++ (adopts by (next_turn old.lines.items) s.ready.kept ++ (doubts by (next_turn old.lines.items) es ++ Fault by (next_turn old.lines.items) counts.before counts.after ∷ []))) group_is

    abbrev doubted_lines : DoubtedLines house (opening_of old) by (next_turn old.lines.items) old.lines.items requests counts.before counts.after
        (adopts by (next_turn old.lines.items) s.ready.kept ++ (doubts by (next_turn old.lines.items) (recorded house (over_of p.records) requests) ++ Fault by (next_turn old.lines.items) counts.before counts.after ∷ []))
    doubted_lines = record { kept = s.ready.kept; over = over_of p.records; settled = settled; some = some_recorded; lines = refl }

    doubted_stale : doubt_of new.records ≡ recorded house (over_of p.records) requests
    doubted_stale = ap (λ (b : Bool). cond b new.records.group.items []) d.stale ∙ d.group ∙ group_is

    pub doubted_count : new.faults ≡ old.faults + 1
    doubted_count = d.faults ∙ ap (λ (n : ℕ). n + 1) (s.faults ∙ s.ready.faults)

    pub doubted_vault : SameOrigin p new → Rests tells new.records → HasLines new new.records.book.entries → tells.faults (disk_under old.records) ≤ tells.faults (disk_under mid.records) → IsVault tells new
    doubted_vault last rests has count =
        vault_behind tells old new s.ready.kept house by requests (Fails counts.before counts.after)
        (adopts by (next_turn old.lines.items) s.ready.kept ++ (doubts by (next_turn old.lines.items) (recorded house (over_of p.records) requests) ++ Fault by (next_turn old.lines.items) counts.before counts.after ∷ []))
        s.vault (then_same old p new same last) rests has (d.entries ∙ over_is)
        (few_told, inr doubted_lines) doubted_behind
        (d.entries ∙ sym (doubted_lines_entries house (opening_of old) by (next_turn old.lines.items) old.lines.items requests counts.before counts.after (adopts by (next_turn old.lines.items) s.ready.kept ++ (doubts by (next_turn old.lines.items) (recorded house (over_of p.records) requests) ++ Fault by (next_turn old.lines.items) counts.before counts.after ∷ [])) doubted_lines))
        (inr (doubted_stale ∙ sym (doubted_are old.lines.items by (next_turn old.lines.items) counts.before counts.after s.ready.kept (recorded house (over_of p.records) requests) some_recorded s.vault.told.closed)))
        (omega (arith, count, d.failed.before, ap (λ (j : Journal D). tells.faults j.disk) s.journal), d.failed.rose, omega (arith, d.failed.after))
        (doubted_count ∙ ap (λ (n : ℕ). n + 1) s.vault.faults_are
        ∙ sym (failed_faults house (opening_of old) by (next_turn old.lines.items) old.lines.items requests (adopts by (next_turn old.lines.items) s.ready.kept ++ (doubts by (next_turn old.lines.items) (recorded house (over_of p.records) requests) ++ Fault by (next_turn old.lines.items) counts.before counts.after ∷ [])) s.vault.told.closed counts.before counts.after (few_told, inr doubted_lines)))
        (omega (arith, doubted_count, s.few)) admits
        (omega (arith, (rests.doubt d.stale).group.most, ap length (d.group ∙ group_is), ap length (doubted_are old.lines.items by (next_turn old.lines.items) counts.before counts.after s.ready.kept (recorded house (over_of p.records) requests) some_recorded s.vault.told.closed)))

    pub doubted_origin : SameOrigin p new → (seen_as new).origin ≡ (seen_as old).origin
    doubted_origin last = origin_is tells old new s.ready.kept s.vault (then_same old p new same last) (d.entries ∙ over_is)

    pub doubted_went : IsVault tells new → TearsItem p.records.charter p.records.book.cap (over_of p.records) p.records.group.items (tells.content (disk_under p.records)) (tells.content (disk_under new.records))
        → LeavesOnly tells (disk_under old.records) (disk_under mid.records) (EitherOf old.records) → LeavesOnly tells (disk_under p.records) (disk_under new.records) (WithOrWithout p.records (over_of p.records) p.records.group.items)
        → (out out' : List ℕ) → out' ≡ out → WentBy house tells (seen_as old) (seen_as new) by requests (Fails counts.before counts.after) [] out out'
    doubted_went vault torn leaves more out out' bytes = record {
      turn = (
        few_told,
        inr (record {
          over = over_of p.records;
          settled = settles;
          some = some_recorded;
          left = state_seen tells new vault ∙ rw (d.entries, doubted_stale, doubted_count, s.vault.faults_are) refl;
        }),
      );
      found_is = refl;
      out_is = bytes ∙ sym (append-nil out);
      added = adopts by (next_turn old.lines.items) s.ready.kept ++ (doubts by (next_turn old.lines.items) (recorded house (over_of p.records) requests) ++ Fault by (next_turn old.lines.items) counts.before counts.after ∷ []);
      behind = doubted_behind;
      lines = (few_told, inr doubted_lines);
      disk = (
        refl,
        record {
          told = told_over;
          written = subst (λ (es : List Entry). TearsItem old.records.charter old.records.book.cap (over_of p.records) es (tells.content (disk_under old.records)) (tells.content (disk_under new.records))) group_is
              (subst (λ (t : Option (List ℕ)). TearsItem old.records.charter old.records.book.cap (over_of p.records) p.records.group.items t (tells.content (disk_under new.records))) content_is
              (subst (λ (cap : ℕ). TearsItem old.records.charter cap (over_of p.records) p.records.group.items (tells.content (disk_under p.records)) (tells.content (disk_under new.records))) same.terms.cap
              (subst (λ (charter : Charter). TearsItem charter p.records.book.cap (over_of p.records) p.records.group.items (tells.content (disk_under p.records)) (tells.content (disk_under new.records))) same.terms.charter torn)));
          gate = gate_opens new leaves more;
        },
      );
    }

  -- ---- images

  -- what is left while the item is written: what stood before the turn, or what stands behind it
  pub turn_leaves : (new : Parts D) → IsVault tells new → SameOrigin p new
      → (new.records.book.entries ≡ over_of p.records ++ p.records.group.items) ⊎ (new.records.book.entries ++ doubt_of new.records ≡ over_of p.records ++ p.records.group.items)
      → LeavesOnly tells (disk_under old.records) (disk_under mid.records) (EitherOf old.records) → LeavesOnly tells (disk_under p.records) (disk_under new.records) (WithOrWithout p.records (over_of p.records) p.records.group.items)
      → LeavesOnly tells (disk_under old.records) (disk_under new.records) (λ image. StandsForState (seen_as old) image ⊎ StandsForState (seen_as new) image)
  turn_leaves new vault last list leaves more =
      leaves_then tells (disk_under old.records) (disk_under mid.records) (disk_under new.records) (EitherOf old.records) (WithOrWithout p.records (over_of p.records) p.records.group.items)
      (λ image. StandsForState (seen_as old) image ⊎ StandsForState (seen_as new) image)
      leaves
      (subst (λ (j : Journal D). LeavesOnly tells j.disk (disk_under new.records) (WithOrWithout p.records (over_of p.records) p.records.group.items)) s.journal more)
      (λ c is. inl (either_seen tells old s.vault c is)) (λ c is. ⊎_elim (λ before. inl (without c before)) (λ behind. inr (with_group c behind list)) is)
    where
      at_end : (es : List Entry) (c : List ℕ) → StandsFor p.records.charter p.records.book.cap es c → StandsFor new.records.charter new.records.book.cap es c
      at_end es c is =
          subst (λ (charter : Charter). StandsFor charter new.records.book.cap es c) (sym last.terms.charter)
          (subst (λ (cap : ℕ). StandsFor p.records.charter cap es c) (sym last.terms.cap) is)

      without : (c : List ℕ) → StandsFor p.records.charter p.records.book.cap (over_of p.records) c → StandsForState (seen_as old) c
      without c is = either_seen tells old s.vault c (⊎_elim
          (λ none. inl (at_start old.records.book.entries c (subst (λ (es : List Entry). StandsFor p.records.charter p.records.book.cap es c) (over_is ∙ ap (λ (es : List Entry). old.records.book.entries ++ es) none ∙ append-nil old.records.book.entries) is)))
          (λ all. inr (at_start (old.records.book.entries ++ doubt_of old.records) c (subst (λ (es : List Entry). StandsFor p.records.charter p.records.book.cap es c) (over_is ∙ ap (λ (es : List Entry). old.records.book.entries ++ es) all) is)))
          s.ready.kept_is)

      with_group : (c : List ℕ) → StandsFor p.records.charter p.records.book.cap (over_of p.records ++ p.records.group.items) c
          → (new.records.book.entries ≡ over_of p.records ++ p.records.group.items) ⊎ (new.records.book.entries ++ doubt_of new.records ≡ over_of p.records ++ p.records.group.items) → StandsForState (seen_as new) c
      with_group c is (inl alone) = either_seen tells new vault c (inl (at_end new.records.book.entries c (subst (λ (es : List Entry). StandsFor p.records.charter p.records.book.cap es c) (sym alone) is)))
      with_group c is (inr both) = either_seen tells new vault c (inr (at_end (new.records.book.entries ++ doubt_of new.records) c (subst (λ (es : List Entry). StandsFor p.records.charter p.records.book.cap es c) (sym both) is)))

-- ---- a turn that could not settle what was in doubt

module _ {D : Type 0} (house : House) (tells : DiskTells D) (old new : Parts D) (by : ℕ) (requests : List Request) (counts : Counts) (vault : IsVault tells old) (few : old.faults < MAX_FAULTS) (u : Unready tells old new by (next_turn old.lines.items) counts) where
  open_told : open_doubt old.lines.items ≡ [] → ⊥
  open_told none =
      let here : doubt_of old.records ≡ old.records.group.items = ap (λ (b : Bool). cond b old.records.group.items []) u.was in
      (vault.rests.doubt u.was).some (sym here ∙ ⊎_elim (λ is. is) (λ is. is ∙ none) vault.told.doubt_is)

  unready_few : faults_of old.lines.items < MAX_FAULTS
  unready_few = omega (arith, few, vault.faults_are)

  abbrev unready_adds : AddsLines house (opening_of old) by (next_turn old.lines.items) old.lines.items requests (Fails counts.before counts.after) (Fault by (next_turn old.lines.items) counts.before counts.after ∷ [])
  unready_adds = (unready_few, inl (record { some = open_told; lines = refl }))

  unready_doubt : doubt_of new.records ≡ doubt_of old.records
  unready_doubt =
      ap (λ (b : Bool). cond b new.records.group.items []) u.stale ∙ u.group ∙ ap (λ (b : Bool). cond b old.records.group.items []) (sym u.was)

  pub unready_vault : SameOrigin old new → Rests tells new.records → HasLines new new.records.book.entries → IsVault tells new
  unready_vault same rests has =
      vault_behind tells old new [] house by requests (Fails counts.before counts.after) (Fault by (next_turn old.lines.items) counts.before counts.after ∷ [])
      vault same rests has (u.entries ∙ sym (append-nil old.records.book.entries)) unready_adds u.lines
      (u.entries ∙ vault.told.listed ∙ sym (entries_append (opening_of old) old.lines.items (Fault by (next_turn old.lines.items) counts.before counts.after ∷ []) ∙ append-nil (entries_of (opening_of old) old.lines.items)))
      (⊎_elim (λ none. inl (unready_doubt ∙ none)) (λ is. inr (unready_doubt ∙ is ∙ sym (doubt_faults old.lines.items by (next_turn old.lines.items) counts.before counts.after))) vault.told.doubt_is)
      (omega (arith, u.failed.before), u.failed.rose, omega (arith, u.failed.after))
      (u.faults ∙ ap (λ (n : ℕ). n + 1) vault.faults_are
      ∙ sym (failed_faults house (opening_of old) by (next_turn old.lines.items) old.lines.items requests _ vault.told.closed counts.before counts.after unready_adds))
      (omega (arith, u.faults, few)) tt (few_faulted old.lines.items by (next_turn old.lines.items) vault.open_most counts.before counts.after)

  pub unready_origin : SameOrigin old new → (seen_as new).origin ≡ (seen_as old).origin
  unready_origin same = origin_is tells old new [] vault same (u.entries ∙ sym (append-nil old.records.book.entries))

  -- one more turn failed
  failed_more : state_at new ≡ record { entries = (state_of (seen_as old)).entries; doubt = (state_of (seen_as old)).doubt; faults = (state_of (seen_as old)).faults + 1 }
  failed_more =
      let one_more : State → State = λ st. record { entries = st.entries; doubt = st.doubt; faults = st.faults + 1 } in
      let here : state_at new ≡ one_more (state_at old) = rw (u.entries, unready_doubt, u.faults) refl in
      here ∙ ap one_more (sym (state_seen tells old vault))

  pub unready_went : IsVault tells new → Unwritten tells (disk_under old.records) (disk_under new.records) → (out out' : List ℕ) → out' ≡ out
      → WentBy house tells (seen_as old) (seen_as new) by requests (Fails counts.before counts.after) [] out out'
  unready_went done nothing out out' bytes = record {
    turn = (unready_few, inl (was_some, state_seen tells new done ∙ failed_more));
    found_is = refl;
    out_is = bytes ∙ sym (append-nil out);
    added = Fault by (next_turn old.lines.items) counts.before counts.after ∷ [];
    behind = u.lines;
    lines = unready_adds;
    disk = record { from = u.failed.before; nothing = nothing };
  }
    where
      was_some : doubt_in (seen_as old) ≡ [] → ⊥
      was_some none = (vault.rests.doubt u.was).some (ap (λ (b : Bool). cond b old.records.group.items []) (sym u.was) ∙ sym (doubt_seen tells old vault) ∙ none)

  pub unready_leaves : IsVault tells new → LeavesOnly tells (disk_under old.records) (disk_under new.records) (EitherOf old.records)
      → LeavesOnly tells (disk_under old.records) (disk_under new.records) (λ image. StandsForState (seen_as old) image ⊎ StandsForState (seen_as new) image)
  unready_leaves done leaves =
      leaves_more tells (disk_under old.records) (disk_under new.records) (EitherOf old.records) (λ image. StandsForState (seen_as old) image ⊎ StandsForState (seen_as new) image)
      (λ c is. inl (either_seen tells old vault c is)) leaves

-- ---- a turn that was refused

module _ {D : Type 0} (tells : DiskTells D) (p : Parts D) (vault : IsVault tells p) where
  pub worn_went : (house : House) (by : ℕ) (requests : List Request) (out out' : List ℕ) → out' ≡ out → p.faults ≡ MAX_FAULTS → WentBy house tells (seen_as p) (seen_as p) by requests Refuses [] out out'
  worn_went house by requests out out' bytes many = record {
    turn = (sym vault.faults_are ∙ many, refl);
    found_is = refl;
    out_is = bytes ∙ sym (append-nil out);
    added = [];
    behind = sym (append-nil p.lines.items);
    lines = (sym vault.faults_are ∙ many, refl);
    disk = refl;
  }

  -- nothing was done
  pub leaves_here : ((c : List ℕ) → tells.left (disk_under p.records) (tells.moment (disk_under p.records)) c → tells.allowed (disk_under p.records) c)
      → LeavesOnly tells (disk_under p.records) (disk_under p.records) (λ image. StandsForState (seen_as p) image ⊎ StandsForState (seen_as p) image)
  leaves_here only_now =
      started tells (disk_under p.records) (λ image. StandsForState (seen_as p) image ⊎ StandsForState (seen_as p) image)
      (λ c is. inl (either_seen tells p vault c (rest_images tells p.records vault.rests c (only_now c is))))

-- ---- where the state stays as it was

module _ {D : Type 0} (tells : DiskTells D) (old new : Parts D) (before : IsVault tells old) (after : IsVault tells new) (same : state_of (seen_as new) ≡ state_of (seen_as old)) where
  same_state : state_at new ≡ state_at old
  same_state = sym (state_seen tells new after) ∙ same ∙ state_seen tells old before

  -- then no turn failed
  pub quiet_failed : new.faults ≡ old.faults + 1 → tells.content (disk_under new.records) ≡ tells.content (disk_under old.records)
  quiet_failed more = absurd (omega (arith, more, ap (λ (s : State). s.faults) same_state))

  -- and nothing was recorded, and so nothing was written
  pub quiet_decided : (charter : Charter) (cap : ℕ) (over group kept : List Entry) → over ≡ old.records.book.entries ++ kept → new.records.book.entries ≡ over ++ group
      → WritesItem charter cap over group (tells.content (disk_under old.records)) (tells.content (disk_under new.records)) → tells.content (disk_under new.records) ≡ tells.content (disk_under old.records)
  quiet_decided charter cap over [] kept is list wrote = wrote
  quiet_decided charter cap over (e ∷ more) kept is list wrote =
      absurd (omega (arith, ap length list, length-append over (e ∷ more), ap length is, length-append old.records.book.entries kept, ap (λ (s : State). length s.entries) same_state))
