-- What a vault that was opened stands for.
use Rattle.std.proofs.Common.{◌≡◌, inl, ℕ, ◌≤◌, Bool, false, cond, List, [], ◌∷◌, ◌++◌, length, take, Option, Some, IfSome, Err, refl, sym, ap, subst, ◌∙◌, arith}
use Rattle.std.proofs.lemmas.List.{append-nil, take_all}
use Rattle.nb_entry.specs.declared.entry.Entry.{Entry}
use Rattle.std.specs.Vec.{vec_capacity}
use Rattle.nb_units.specs.declared.charter.Charter.{Charter}
use Rattle.nb_book.specs.Legal.{Legal, LegalUnder}
use Rattle.nb_escrow.specs.Head.{head_of}
use Rattle.nb_journal.specs.declared.journal.Journal.{Journal}
use Rattle.nb_journal.specs.declared.opening.Opened.{Opened}
use Rattle.nb_journal.specs.Layout.{front_bytes}
use Rattle.nb_journal.specs.Opening.{charter_of}
use Rattle.nb_journal.specs.States.{AtRest}
use Rattle.nb_turns.specs.declared.line.Line.{Line}
use Rattle.nb_turns.specs.Lines.{entries_of, faults_of, open_doubt}
use Rattle.nb_turns.specs.Laws.{AreLegal}
use Rattle.nb_journal.specs.Reading.{Holds}
use Rattle.nb_vault.specs.declared.parts.Parts.{Parts}
use Rattle.nb_vault.specs.declared.vault.opening.VaultFault.{VaultFault}
use Rattle.nb_vault.specs.declared.vault.opening.VaultFault.TheVariants as opens
use Rattle.nb_vault.specs.Holdings.{Joins, StandsFor}
use Rattle.nb_vault.specs.Opens.{IsOpened, IsRestored, RestoreFails, OpensWhole}
use Rattle.nb_vault.specs.Parts.{Tells, opening_of, seen_as}
use Rattle.nb_vault.specs.Records.{HasRoom, disk_under, doubt_of}
use Rattle.nb_vault.specs.Vaults.{Chronicled, most_lines}
use Rattle.nb_vault.proofs.Joining.{no_both}
use Rattle.nb_vault.proofs.Resting.{fresh_content}
use Rattle.nb_vault.proofs.HoldingLaws.{no_bad, one_list}
use Rattle.nb_port.specs.Tells.{DiskTells}

-- the content is this one
pub told_of : (told : Option (List ℕ)) (P : List ℕ → Type 0) (c : List ℕ) → told ≡ Some c → IfSome told P → P c
told_of told P c is some = subst (λ (o : Option (List ℕ)). IfSome o P) is some

-- ---- no line is told yet

no_lines : (before run behind : List Line) → [] ≡ before ++ (run ++ behind) → run ≡ []
no_lines [] [] behind split = refl
no_lines [] (l ∷ run) behind split = absurd cc
no_lines (l ∷ before) run behind split = absurd cc

tells_nothing : (opening entries doubt : List Entry) (from to : ℕ) (lines : List Line) → lines ≡ [] → opening ≡ entries → doubt ≡ [] → from ≤ to → Tells opening entries doubt from to lines
tells_nothing opening entries doubt from to lines none at settled le =
    subst (λ (ls : List Line). Tells opening entries doubt from to ls) (sym none)
    (record {
      listed = sym at ∙ sym (append-nil opening);
      doubt_is = inl settled;
      closed = tt;
      sound = λ before run behind split is. absurd (is.some (no_lines before run behind split));
      backed = le;
      turns = tt;
      numbers = omega arith;
    })

-- what is told is Legal, as what was opened
legal_nothing : (cap : ℕ) (opening entries : List Entry) (lines : List Line) → lines ≡ [] → opening ≡ entries → Legal entries → length entries ≤ cap → AreLegal cap opening lines
legal_nothing cap opening entries lines none at legal within =
    let is : entries_of opening lines ++ open_doubt lines ≡ entries =
    ap (λ (ls : List Line). entries_of opening ls ++ open_doubt ls) none ∙ append-nil (opening ++ []) ∙ append-nil opening ∙ at in
    record { legal = subst Legal (sym is) legal; within = omega (arith, within, ap length is) }

-- a vault over the items of a journal that was opened
pub restored_as : {D : Type 0} (tells : DiskTells D) (o : Opened D) (count : ℕ) (p : Parts D) → IsOpened tells o → count ≤ tells.faults o.journal.disk → HasRoom p.records
    → p.records.journal ≡ o.journal → p.records.charter ≡ charter_of o → p.records.book.cap ≡ o.cap → Joins o.items.items p.records.book.entries → LegalUnder p.records.charter.version p.records.charter.rate p.records.book.entries → length p.records.book.entries ≤ p.records.book.cap
    → p.opening ≡ length p.records.book.entries → p.count ≡ count → p.lines.items ≡ [] → p.faults ≡ 0 → most_lines p.records.book.cap ≤ vec_capacity p.lines → p.head ≡ head_of p.records.charter → IsRestored tells o count p
restored_as tells o count p opened le has journal charter cap joins legal within opening from lines none room keys =
    let rest : AtRest tells (front_bytes p.records.book.cap p.records.charter) o.items.items p.records.journal = rw (journal, cap, charter) opened.rest in
    let all : take p.opening p.records.book.entries ≡ p.records.book.entries = take_all p.opening p.records.book.entries (omega (arith, opening)) in
    record {
      vault = record {
        rests = record {
          items = o.items.items;
          carries = record {
            joins = joins;
            terms = rw (cap, charter) opened.terms;
            cap = ap (λ (j : Journal _). j.cap) journal ∙ opened.cap ∙ sym cap;
            room = ap (λ (j : Journal _). j.room) journal ∙ opened.room;
            legal = legal;
            count = within;
          };
          has = has;
          fresh = λ (fresh : p.records.journal.stale ≡ false). rest;
          doubt = λ stale. absurd (no_both p.records.journal.stale rest.fresh stale);
        };
        opened = omega (arith, opening);
        told = tells_nothing (opening_of p) p.records.book.entries (doubt_of p.records) p.count (tells.faults (disk_under p.records)) p.lines.items lines all
            (ap (λ (b : Bool). cond b p.records.group.items []) rest.fresh) (omega (arith, from, le, ap (λ (j : Journal _). tells.faults j.disk) journal));
        has = record { told = omega (arith, opening, ap length lines); room = room };
        faults_are = none ∙ ap faults_of (sym lines);
        few = omega (arith, none);
        keys = keys;
        lawful = legal_nothing p.records.book.cap (opening_of p) p.records.book.entries p.lines.items lines all legal.legal within;
        open_most = omega (arith, ap (λ (ls : List Line). length (open_doubt ls)) lines);
      };
      joins = joins;
      opening = opening;
      fresh = rest.fresh;
      lines = lines;
      from = from;
      charter = charter;
      cap = cap;
      disk = ap (λ (j : Journal _). j.disk) journal;
    }

module _ {D : Type 0} (tells : DiskTells D) (disk : D) (o : Opened D) (count : ℕ) where
  -- the content stands for the entries that were read
  pub opens_stands : (p : Parts D) → IsRestored tells o count p → tells.content o.journal.disk ≡ tells.content disk → IfSome (tells.content disk) (StandsFor (seen_as p).origin.charter (seen_as p).origin.cap (seen_as p).origin.entries)
  opens_stands p r same =
      subst (λ (es : List Entry). IfSome (tells.content disk) (StandsFor p.records.charter p.records.book.cap es)) (sym (take_all p.opening p.records.book.entries (omega (arith, r.opening))))
      (subst (λ (t : Option (List ℕ)). IfSome t (StandsFor p.records.charter p.records.book.cap p.records.book.entries)) (ap tells.content r.disk ∙ same) (fresh_content tells p.records r.vault.rests r.fresh))

  -- they are the entries that the content stands for
  pub opens_whole : (v : Chronicled D) → IfSome (tells.content disk) (StandsFor v.origin.charter v.origin.cap v.origin.entries) → (image : List ℕ) (charter : Charter) (cap : ℕ) (entries : List Entry) → tells.content disk ≡ Some image → StandsFor charter cap entries image
      → (v.origin.charter ≡ charter) × (v.origin.cap ≡ cap) × (v.origin.entries ≡ entries)
  opens_whole v stands image charter cap entries is whole =
      let same = one_list image v.origin.charter charter v.origin.cap cap v.origin.entries entries (told_of (tells.content disk) (StandsFor v.origin.charter v.origin.cap v.origin.entries) image is stands) whole in
      (same.1, same.0, same.2)

  -- none of its items is bad
  pub fails_whole : (fault : VaultFault) (back : D) → RestoreFails o back fault → IfSome (tells.content disk) (λ image. Holds image o.cap (charter_of o) o.items.items) → (image : List ℕ) (charter : Charter) (cap : ℕ) (entries : List Entry) → tells.content disk ≡ Some image
      → StandsFor charter cap entries image → OpensWhole charter cap entries (Err (fault, back))
  fails_whole (opens.Unborn found) back fails holds image charter cap entries is whole = absurd fails
  fails_whole (opens.Damaged item place) back fails holds image charter cap entries is whole = absurd fails
  fails_whole (opens.BadEntry item) back fails holds image charter cap entries is whole =
      absurd (no_bad charter cap entries image item whole (record { cap = o.cap; charter = charter_of o; items = o.items.items; holds = told_of (tells.content disk) (λ image. Holds image o.cap (charter_of o) o.items.items) image is holds; first = fails.0 }))
  fails_whole (opens.DiskFault before after) back fails holds image charter cap entries is whole = absurd fails
  fails_whole opens.NoMemory back fails holds image charter cap entries is whole = tt
