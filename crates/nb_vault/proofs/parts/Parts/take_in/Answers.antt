use Rattle.std.proofs.Common.{inl, inr, ℕ, List, [], ◌∷◌, ◌++◌, length, Option, Some, None, refl, sym, ap, subst, ◌∙◌, arith}
use Rattle.std.specs.Option.{option_to_list}
use Rattle.nb_units.specs.declared.charter.Charter.{Charter}
use Rattle.nb_entry.specs.declared.entry.Entry.{Entry}
use Rattle.nb_journal.specs.declared.journal.Journal.{Journal}
use Rattle.nb_vault.specs.declared.parts.Parts.{Parts}
use Rattle.nb_vault.specs.declared.taking.TakeIn.{TakeIn}
use Rattle.nb_vault.specs.declared.taking.TakeIn.TheVariants as takes
use Rattle.nb_vault.specs.Holdings.{WritesItem}
use Rattle.nb_vault.specs.Parts.{Committed, Doubted, Unready, seen_as}
use Rattle.nb_vault.specs.Records.{doubt_of, over_of}
use Rattle.nb_vault.specs.Taking.{IsJudged, entry_taken, house_told, nothing_asked}
use Rattle.nb_vault.proofs.Answering.{content_is, decided_origin, decided_vault, decided_went, doubted_all, doubted_count, doubted_origin, doubted_vault, doubted_went, leaves_here, over_is, quiet_decided, quiet_failed, turn_leaves, unready_leaves, unready_origin, unready_vault, unready_went, worn_went}
use Rattle.nb_vault.proofs.Seeing.{durable, entries_seen}
use Rattle.nb_vault.proofs.TakingIn.{decided_is, decides_in, taken_is, taking_steps, where_durable, where_fault, where_same}
use Rattle.nb_vault.proofs.parts.Parts.take_in.Goals as goal

pub returns-then-self-ge-MAX_FAULTS-clause-any_moment : goal.returns-then-self-ge-MAX_FAULTS-clause-any_moment
returns-then-self-ge-MAX_FAULTS-clause-any_moment g c =
    leaves_here g.D.Disk.tells c.args.self.now c.requires.vault (g.met.D.Disk.only_now c.args.self.now.records.journal.disk)

pub returns-then-self-ge-MAX_FAULTS-clause-turn : goal.returns-then-self-ge-MAX_FAULTS-clause-turn
returns-then-self-ge-MAX_FAULTS-clause-turn g c =
    (refl, worn_went g.D.Disk.tells c.args.self.now c.requires.vault (house_told None) c.args.by nothing_asked [] [] refl (omega (arith, c.if-self-ge-MAX_FAULTS.true, c.requires.vault.few)))

pub returns-in-Err-clause-vault : goal.returns-in-Err-clause-vault
returns-in-Err-clause-vault g c =
    let tells = g.D.Disk.tells in
    let old = c.args.self.now in
    let counts = c.in-Err.field-0 in
    let unready = subst (λ (n : ℕ). Unready tells old c.ready.new.self c.args.by n counts) c.next_turn-turn.ensures c.in-Err.ensures.gives in
    let vault = unready_vault (house_told None) tells old c.ready.new.self c.args.by nothing_asked counts c.requires.vault c.if-self-ge-MAX_FAULTS.false unready c.ready.ensures.origin c.ready.ensures.rests c.ready.ensures.has in
    vault

pub returns-in-Err-clause-turn : goal.returns-in-Err-clause-turn
returns-in-Err-clause-turn g c =
    let tells = g.D.Disk.tells in
    let old = c.args.self.now in
    let counts = c.in-Err.field-0 in
    let unready = subst (λ (n : ℕ). Unready tells old c.ready.new.self c.args.by n counts) c.next_turn-turn.ensures c.in-Err.ensures.gives in
    let vault = unready_vault (house_told None) tells old c.ready.new.self c.args.by nothing_asked counts c.requires.vault c.if-self-ge-MAX_FAULTS.false unready c.ready.ensures.origin c.ready.ensures.rests c.ready.ensures.has in
    inl (unready_went (house_told None) tells old c.ready.new.self c.args.by nothing_asked counts c.requires.vault c.if-self-ge-MAX_FAULTS.false unready vault c.ready.ensures.nothing [] [] refl)

pub returns-in-Err-clause-any_moment : goal.returns-in-Err-clause-any_moment
returns-in-Err-clause-any_moment g c =
    let tells = g.D.Disk.tells in
    let old = c.args.self.now in
    let counts = c.in-Err.field-0 in
    let unready = subst (λ (n : ℕ). Unready tells old c.ready.new.self c.args.by n counts) c.next_turn-turn.ensures c.in-Err.ensures.gives in
    let vault = unready_vault (house_told None) tells old c.ready.new.self c.args.by nothing_asked counts c.requires.vault c.if-self-ge-MAX_FAULTS.false unready c.ready.ensures.origin c.ready.ensures.rests c.ready.ensures.has in
    unready_leaves (house_told None) tells old c.ready.new.self c.args.by nothing_asked counts c.requires.vault c.if-self-ge-MAX_FAULTS.false unready vault c.ready.ensures.any_moment

pub returns-in-Err-clause-origin : goal.returns-in-Err-clause-origin
returns-in-Err-clause-origin g c =
    let tells = g.D.Disk.tells in
    let old = c.args.self.now in
    let counts = c.in-Err.field-0 in
    let unready = subst (λ (n : ℕ). Unready tells old c.ready.new.self c.args.by n counts) c.next_turn-turn.ensures c.in-Err.ensures.gives in
    let vault = unready_vault (house_told None) tells old c.ready.new.self c.args.by nothing_asked counts c.requires.vault c.if-self-ge-MAX_FAULTS.false unready c.ready.ensures.origin c.ready.ensures.rests c.ready.ensures.has in
    unready_origin (house_told None) tells old c.ready.new.self c.args.by nothing_asked counts c.requires.vault c.if-self-ge-MAX_FAULTS.false unready c.ready.ensures.origin

pub returns-in-Ok-commit-clause-vault : goal.returns-in-Ok-commit-clause-vault
returns-in-Ok-commit-clause-vault g c =
    let tells = g.D.Disk.tells in
    let old = c.args.self.now in
    let mid = c.ready.new.self in
    let how = c.admit-how.result in
    let e = c.args.entry.now in
    let p : Parts _ = record { records = c.admit-how.new.self; head = mid.head; opening = mid.opening; count = mid.count; lines = mid.lines; faults = mid.faults } in
    let told = entry_taken e how in
    let group = c.admit-how.ensures.group in
    let steps = taking_steps tells old mid p c.args.by c.next_turn-turn.result told c.requires.vault c.if-self-ge-MAX_FAULTS.false c.next_turn-turn.ensures c.in-Ok.ensures.gives c.ready.ensures.rests
    c.ready.ensures.origin c.ready.ensures.nothing (record { terms = c.admit-how.ensures.terms; opening = refl; count = refl; head = refl }) c.admit-how.ensures.journal c.admit-how.ensures.over
    group c.admit-how.ensures.gathers refl refl in
    let done = subst (λ (n : ℕ). Committed p c.commit.new.self c.args.by n) c.next_turn-turn.ensures c.in-Ok-commit.ensures.gives in
    let vault = decided_vault (house_told told) tells old mid p c.args.by nothing_asked steps c.commit.new.self done c.commit.ensures.origin c.commit.ensures.rests c.commit.ensures.has
    (omega (arith, c.ready.ensures.count, c.commit.ensures.count, ap (λ (j : Journal _). tells.faults j.disk) c.admit-how.ensures.journal)) in
    vault

pub returns-in-Ok-commit-clause-turn : goal.returns-in-Ok-commit-clause-turn
returns-in-Ok-commit-clause-turn g c =
    let tells = g.D.Disk.tells in
    let old = c.args.self.now in
    let mid = c.ready.new.self in
    let how = c.admit-how.result in
    let e = c.args.entry.now in
    let p : Parts _ = record { records = c.admit-how.new.self; head = mid.head; opening = mid.opening; count = mid.count; lines = mid.lines; faults = mid.faults } in
    let told = entry_taken e how in
    let group = c.admit-how.ensures.group in
    let steps = taking_steps tells old mid p c.args.by c.next_turn-turn.result told c.requires.vault c.if-self-ge-MAX_FAULTS.false c.next_turn-turn.ensures c.in-Ok.ensures.gives c.ready.ensures.rests
    c.ready.ensures.origin c.ready.ensures.nothing (record { terms = c.admit-how.ensures.terms; opening = refl; count = refl; head = refl }) c.admit-how.ensures.journal c.admit-how.ensures.over
    group c.admit-how.ensures.gathers refl refl in
    let done = subst (λ (n : ℕ). Committed p c.commit.new.self c.args.by n) c.next_turn-turn.ensures c.in-Ok-commit.ensures.gives in
    let vault = decided_vault (house_told told) tells old mid p c.args.by nothing_asked steps c.commit.new.self done c.commit.ensures.origin c.commit.ensures.rests c.commit.ensures.has
    (omega (arith, c.ready.ensures.count, c.commit.ensures.count, ap (λ (j : Journal _). tells.faults j.disk) c.admit-how.ensures.journal)) in
    let at_start = subst (λ (cap : ℕ). IsJudged mid.records.charter cap mid.records.book.entries c.args.place e how) c.ready.ensures.origin.terms.cap c.admit-how.ensures.judged in
    let judged = subst (λ (charter : Charter). IsJudged charter old.records.book.cap mid.records.book.entries c.args.place e how) c.ready.ensures.origin.terms.charter at_start in
    let over = subst (λ (es : List Entry). IsJudged old.records.charter old.records.book.cap es c.args.place e how) (sym c.admit-how.ensures.over) judged in
    decides_in tells (seen_as old) (seen_as c.commit.new.self) c.args.by c.args.place e how (over_of p.records)
    (decided_went (house_told told) tells old mid p c.args.by nothing_asked steps c.commit.new.self done vault c.in-Ok-commit.ensures.writes c.commit.ensures.idle c.ready.ensures.any_moment c.commit.ensures.any_moment (length (over_of p.records) ∷ []) [] [] refl refl) over
    (λ fresh none. ap (λ (d : _). tells.faults d) (c.commit.ensures.idle (group ∙ ap (λ (t : Option Entry). option_to_list t) none)) ∙ ap (λ (j : Journal _). tells.faults j.disk) c.admit-how.ensures.journal ∙ c.ready.ensures.idle fresh)

pub returns-in-Ok-commit-clause-any_moment : goal.returns-in-Ok-commit-clause-any_moment
returns-in-Ok-commit-clause-any_moment g c =
    let tells = g.D.Disk.tells in
    let old = c.args.self.now in
    let mid = c.ready.new.self in
    let how = c.admit-how.result in
    let e = c.args.entry.now in
    let p : Parts _ = record { records = c.admit-how.new.self; head = mid.head; opening = mid.opening; count = mid.count; lines = mid.lines; faults = mid.faults } in
    let told = entry_taken e how in
    let group = c.admit-how.ensures.group in
    let steps = taking_steps tells old mid p c.args.by c.next_turn-turn.result told c.requires.vault c.if-self-ge-MAX_FAULTS.false c.next_turn-turn.ensures c.in-Ok.ensures.gives c.ready.ensures.rests
    c.ready.ensures.origin c.ready.ensures.nothing (record { terms = c.admit-how.ensures.terms; opening = refl; count = refl; head = refl }) c.admit-how.ensures.journal c.admit-how.ensures.over
    group c.admit-how.ensures.gathers refl refl in
    let done = subst (λ (n : ℕ). Committed p c.commit.new.self c.args.by n) c.next_turn-turn.ensures c.in-Ok-commit.ensures.gives in
    let vault = decided_vault (house_told told) tells old mid p c.args.by nothing_asked steps c.commit.new.self done c.commit.ensures.origin c.commit.ensures.rests c.commit.ensures.has
    (omega (arith, c.ready.ensures.count, c.commit.ensures.count, ap (λ (j : Journal _). tells.faults j.disk) c.admit-how.ensures.journal)) in
    turn_leaves (house_told told) tells old mid p c.args.by nothing_asked steps c.commit.new.self vault c.commit.ensures.origin (inl done.entries) c.ready.ensures.any_moment c.commit.ensures.any_moment

pub returns-in-Ok-commit-clause-durable : goal.returns-in-Ok-commit-clause-durable
returns-in-Ok-commit-clause-durable g c =
    let tells = g.D.Disk.tells in
    let old = c.args.self.now in
    let mid = c.ready.new.self in
    let how = c.admit-how.result in
    let e = c.args.entry.now in
    let p : Parts _ = record { records = c.admit-how.new.self; head = mid.head; opening = mid.opening; count = mid.count; lines = mid.lines; faults = mid.faults } in
    let told = entry_taken e how in
    let group = c.admit-how.ensures.group in
    let steps = taking_steps tells old mid p c.args.by c.next_turn-turn.result told c.requires.vault c.if-self-ge-MAX_FAULTS.false c.next_turn-turn.ensures c.in-Ok.ensures.gives c.ready.ensures.rests
    c.ready.ensures.origin c.ready.ensures.nothing (record { terms = c.admit-how.ensures.terms; opening = refl; count = refl; head = refl }) c.admit-how.ensures.journal c.admit-how.ensures.over
    group c.admit-how.ensures.gathers refl refl in
    let done = subst (λ (n : ℕ). Committed p c.commit.new.self c.args.by n) c.next_turn-turn.ensures c.in-Ok-commit.ensures.gives in
    let vault = decided_vault (house_told told) tells old mid p c.args.by nothing_asked steps c.commit.new.self done c.commit.ensures.origin c.commit.ensures.rests c.commit.ensures.has
    (omega (arith, c.ready.ensures.count, c.commit.ensures.count, ap (λ (j : Journal _). tells.faults j.disk) c.admit-how.ensures.journal)) in
    let is = decided_is mid.records.charter mid.records.book.cap mid.records.book.entries c.args.place e how c.admit-how.ensures.judged in
    where_durable tells (seen_as c.commit.new.self) how is (durable tells c.commit.new.self vault done.fresh)

pub returns-in-Ok-commit-clause-same : goal.returns-in-Ok-commit-clause-same
returns-in-Ok-commit-clause-same g c =
    let tells = g.D.Disk.tells in
    let old = c.args.self.now in
    let mid = c.ready.new.self in
    let how = c.admit-how.result in
    let e = c.args.entry.now in
    let p : Parts _ = record { records = c.admit-how.new.self; head = mid.head; opening = mid.opening; count = mid.count; lines = mid.lines; faults = mid.faults } in
    let is = decided_is mid.records.charter mid.records.book.cap mid.records.book.entries c.args.place e how c.admit-how.ensures.judged in
    where_same (seen_as old) (seen_as c.commit.new.self) how is

pub returns-in-Ok-commit-clause-fault : goal.returns-in-Ok-commit-clause-fault
returns-in-Ok-commit-clause-fault g c =
    let tells = g.D.Disk.tells in
    let old = c.args.self.now in
    let mid = c.ready.new.self in
    let how = c.admit-how.result in
    let e = c.args.entry.now in
    let p : Parts _ = record { records = c.admit-how.new.self; head = mid.head; opening = mid.opening; count = mid.count; lines = mid.lines; faults = mid.faults } in
    let is = decided_is mid.records.charter mid.records.book.cap mid.records.book.entries c.args.place e how c.admit-how.ensures.judged in
    where_fault tells (seen_as old) (seen_as c.commit.new.self) how is

pub returns-in-Ok-commit-clause-quiet : goal.returns-in-Ok-commit-clause-quiet
returns-in-Ok-commit-clause-quiet g c =
    let tells = g.D.Disk.tells in
    let old = c.args.self.now in
    let mid = c.ready.new.self in
    let how = c.admit-how.result in
    let e = c.args.entry.now in
    let p : Parts _ = record { records = c.admit-how.new.self; head = mid.head; opening = mid.opening; count = mid.count; lines = mid.lines; faults = mid.faults } in
    let told = entry_taken e how in
    let group = c.admit-how.ensures.group in
    let steps = taking_steps tells old mid p c.args.by c.next_turn-turn.result told c.requires.vault c.if-self-ge-MAX_FAULTS.false c.next_turn-turn.ensures c.in-Ok.ensures.gives c.ready.ensures.rests
    c.ready.ensures.origin c.ready.ensures.nothing (record { terms = c.admit-how.ensures.terms; opening = refl; count = refl; head = refl }) c.admit-how.ensures.journal c.admit-how.ensures.over
    group c.admit-how.ensures.gathers refl refl in
    let done = subst (λ (n : ℕ). Committed p c.commit.new.self c.args.by n) c.next_turn-turn.ensures c.in-Ok-commit.ensures.gives in
    let vault = decided_vault (house_told told) tells old mid p c.args.by nothing_asked steps c.commit.new.self done c.commit.ensures.origin c.commit.ensures.rests c.commit.ensures.has
    (omega (arith, c.ready.ensures.count, c.commit.ensures.count, ap (λ (j : Journal _). tells.faults j.disk) c.admit-how.ensures.journal)) in
    λ same. quiet_decided tells old c.commit.new.self c.requires.vault vault same p.records.charter p.records.book.cap (over_of p.records) p.records.group.items steps.ready.kept (over_is (house_told told) tells old mid p c.args.by nothing_asked steps) done.entries
    (subst (λ t. WritesItem p.records.charter p.records.book.cap (over_of p.records) p.records.group.items t (tells.content c.commit.new.self.records.journal.disk))
    (content_is (house_told told) tells old mid p c.args.by nothing_asked steps) c.in-Ok-commit.ensures.writes)

pub returns-in-Ok-commit-clause-origin : goal.returns-in-Ok-commit-clause-origin
returns-in-Ok-commit-clause-origin g c =
    let tells = g.D.Disk.tells in
    let old = c.args.self.now in
    let mid = c.ready.new.self in
    let how = c.admit-how.result in
    let e = c.args.entry.now in
    let p : Parts _ = record { records = c.admit-how.new.self; head = mid.head; opening = mid.opening; count = mid.count; lines = mid.lines; faults = mid.faults } in
    let told = entry_taken e how in
    let group = c.admit-how.ensures.group in
    let steps = taking_steps tells old mid p c.args.by c.next_turn-turn.result told c.requires.vault c.if-self-ge-MAX_FAULTS.false c.next_turn-turn.ensures c.in-Ok.ensures.gives c.ready.ensures.rests
    c.ready.ensures.origin c.ready.ensures.nothing (record { terms = c.admit-how.ensures.terms; opening = refl; count = refl; head = refl }) c.admit-how.ensures.journal c.admit-how.ensures.over
    group c.admit-how.ensures.gathers refl refl in
    let done = subst (λ (n : ℕ). Committed p c.commit.new.self c.args.by n) c.next_turn-turn.ensures c.in-Ok-commit.ensures.gives in
    let vault = decided_vault (house_told told) tells old mid p c.args.by nothing_asked steps c.commit.new.self done c.commit.ensures.origin c.commit.ensures.rests c.commit.ensures.has
    (omega (arith, c.ready.ensures.count, c.commit.ensures.count, ap (λ (j : Journal _). tells.faults j.disk) c.admit-how.ensures.journal)) in
    decided_origin (house_told told) tells old mid p c.args.by nothing_asked steps c.commit.new.self done c.commit.ensures.origin

pub returns-in-Err-commit-clause-vault : goal.returns-in-Err-commit-clause-vault
returns-in-Err-commit-clause-vault g c =
    let tells = g.D.Disk.tells in
    let old = c.args.self.now in
    let mid = c.ready.new.self in
    let how = c.admit-how.result in
    let e = c.args.entry.now in
    let p : Parts _ = record { records = c.admit-how.new.self; head = mid.head; opening = mid.opening; count = mid.count; lines = mid.lines; faults = mid.faults } in
    let counts = c.in-Err-commit.field-0 in
    let taken = taken_is mid.records.charter mid.records.book.cap mid.records.book.entries c.args.place e how (λ none. c.in-Err-commit.ensures.gives.some (c.admit-how.ensures.group ∙ none)) in
    let told : Option Entry = Some e in
    let group = c.admit-how.ensures.group ∙ ap (λ (h : TakeIn). option_to_list (entry_taken e h)) taken in
    let steps = taking_steps tells old mid p c.args.by c.next_turn-turn.result told c.requires.vault c.if-self-ge-MAX_FAULTS.false c.next_turn-turn.ensures c.in-Ok.ensures.gives c.ready.ensures.rests
    c.ready.ensures.origin c.ready.ensures.nothing (record { terms = c.admit-how.ensures.terms; opening = refl; count = refl; head = refl }) c.admit-how.ensures.journal c.admit-how.ensures.over
    group c.admit-how.ensures.gathers refl refl in
    let done = subst (λ (n : ℕ). Doubted tells p c.commit.new.self c.args.by n counts) c.next_turn-turn.ensures c.in-Err-commit.ensures.gives in
    let vault = doubted_vault (house_told told) tells old mid p c.args.by nothing_asked steps c.commit.new.self counts done c.commit.ensures.origin c.commit.ensures.rests c.commit.ensures.has c.ready.ensures.count in
    vault

pub returns-in-Err-commit-clause-turn : goal.returns-in-Err-commit-clause-turn
returns-in-Err-commit-clause-turn g c =
    let tells = g.D.Disk.tells in
    let old = c.args.self.now in
    let mid = c.ready.new.self in
    let how = c.admit-how.result in
    let e = c.args.entry.now in
    let p : Parts _ = record { records = c.admit-how.new.self; head = mid.head; opening = mid.opening; count = mid.count; lines = mid.lines; faults = mid.faults } in
    let counts = c.in-Err-commit.field-0 in
    let taken = taken_is mid.records.charter mid.records.book.cap mid.records.book.entries c.args.place e how (λ none. c.in-Err-commit.ensures.gives.some (c.admit-how.ensures.group ∙ none)) in
    let told : Option Entry = Some e in
    let group = c.admit-how.ensures.group ∙ ap (λ (h : TakeIn). option_to_list (entry_taken e h)) taken in
    let steps = taking_steps tells old mid p c.args.by c.next_turn-turn.result told c.requires.vault c.if-self-ge-MAX_FAULTS.false c.next_turn-turn.ensures c.in-Ok.ensures.gives c.ready.ensures.rests
    c.ready.ensures.origin c.ready.ensures.nothing (record { terms = c.admit-how.ensures.terms; opening = refl; count = refl; head = refl }) c.admit-how.ensures.journal c.admit-how.ensures.over
    group c.admit-how.ensures.gathers refl refl in
    let done = subst (λ (n : ℕ). Doubted tells p c.commit.new.self c.args.by n counts) c.next_turn-turn.ensures c.in-Err-commit.ensures.gives in
    let vault = doubted_vault (house_told told) tells old mid p c.args.by nothing_asked steps c.commit.new.self counts done c.commit.ensures.origin c.commit.ensures.rests c.commit.ensures.has c.ready.ensures.count in
    let at_start = subst (λ (cap : ℕ). IsJudged mid.records.charter cap mid.records.book.entries c.args.place e how) c.ready.ensures.origin.terms.cap c.admit-how.ensures.judged in
    let judged = subst (λ (charter : Charter). IsJudged charter old.records.book.cap mid.records.book.entries c.args.place e how) c.ready.ensures.origin.terms.charter at_start in
    let over = subst (λ (es : List Entry). IsJudged old.records.charter old.records.book.cap es c.args.place e how) (sym c.admit-how.ensures.over) judged in
    let next = subst (λ (h : TakeIn). IsJudged old.records.charter old.records.book.cap (over_of p.records) c.args.place e h) taken over in
    inr (record {
      went = doubted_went (house_told told) tells old mid p c.args.by nothing_asked steps c.commit.new.self counts done vault c.in-Err-commit.ensures.writes c.ready.ensures.any_moment c.commit.ensures.any_moment [] [] refl;
      judged = subst (λ (es : List Entry). IsJudged old.records.charter old.records.book.cap es c.args.place e takes.Taken) (sym (entries_seen tells c.commit.new.self vault ∙ done.entries)) next;
    })

pub returns-in-Err-commit-clause-any_moment : goal.returns-in-Err-commit-clause-any_moment
returns-in-Err-commit-clause-any_moment g c =
    let tells = g.D.Disk.tells in
    let old = c.args.self.now in
    let mid = c.ready.new.self in
    let how = c.admit-how.result in
    let e = c.args.entry.now in
    let p : Parts _ = record { records = c.admit-how.new.self; head = mid.head; opening = mid.opening; count = mid.count; lines = mid.lines; faults = mid.faults } in
    let counts = c.in-Err-commit.field-0 in
    let taken = taken_is mid.records.charter mid.records.book.cap mid.records.book.entries c.args.place e how (λ none. c.in-Err-commit.ensures.gives.some (c.admit-how.ensures.group ∙ none)) in
    let told : Option Entry = Some e in
    let group = c.admit-how.ensures.group ∙ ap (λ (h : TakeIn). option_to_list (entry_taken e h)) taken in
    let steps = taking_steps tells old mid p c.args.by c.next_turn-turn.result told c.requires.vault c.if-self-ge-MAX_FAULTS.false c.next_turn-turn.ensures c.in-Ok.ensures.gives c.ready.ensures.rests
    c.ready.ensures.origin c.ready.ensures.nothing (record { terms = c.admit-how.ensures.terms; opening = refl; count = refl; head = refl }) c.admit-how.ensures.journal c.admit-how.ensures.over
    group c.admit-how.ensures.gathers refl refl in
    let done = subst (λ (n : ℕ). Doubted tells p c.commit.new.self c.args.by n counts) c.next_turn-turn.ensures c.in-Err-commit.ensures.gives in
    let vault = doubted_vault (house_told told) tells old mid p c.args.by nothing_asked steps c.commit.new.self counts done c.commit.ensures.origin c.commit.ensures.rests c.commit.ensures.has c.ready.ensures.count in
    turn_leaves (house_told told) tells old mid p c.args.by nothing_asked steps c.commit.new.self vault c.commit.ensures.origin
    (inr (ap (λ (es : List Entry). es ++ doubt_of c.commit.new.self.records) done.entries ∙ ap (λ (es : List Entry). over_of p.records ++ es) (doubted_all tells p c.commit.new.self c.args.by _ counts done)))
    c.ready.ensures.any_moment c.commit.ensures.any_moment

pub returns-in-Err-commit-clause-quiet : goal.returns-in-Err-commit-clause-quiet
returns-in-Err-commit-clause-quiet g c =
    let tells = g.D.Disk.tells in
    let old = c.args.self.now in
    let mid = c.ready.new.self in
    let how = c.admit-how.result in
    let e = c.args.entry.now in
    let p : Parts _ = record { records = c.admit-how.new.self; head = mid.head; opening = mid.opening; count = mid.count; lines = mid.lines; faults = mid.faults } in
    let counts = c.in-Err-commit.field-0 in
    let taken = taken_is mid.records.charter mid.records.book.cap mid.records.book.entries c.args.place e how (λ none. c.in-Err-commit.ensures.gives.some (c.admit-how.ensures.group ∙ none)) in
    let told : Option Entry = Some e in
    let group = c.admit-how.ensures.group ∙ ap (λ (h : TakeIn). option_to_list (entry_taken e h)) taken in
    let steps = taking_steps tells old mid p c.args.by c.next_turn-turn.result told c.requires.vault c.if-self-ge-MAX_FAULTS.false c.next_turn-turn.ensures c.in-Ok.ensures.gives c.ready.ensures.rests
    c.ready.ensures.origin c.ready.ensures.nothing (record { terms = c.admit-how.ensures.terms; opening = refl; count = refl; head = refl }) c.admit-how.ensures.journal c.admit-how.ensures.over
    group c.admit-how.ensures.gathers refl refl in
    let done = subst (λ (n : ℕ). Doubted tells p c.commit.new.self c.args.by n counts) c.next_turn-turn.ensures c.in-Err-commit.ensures.gives in
    let vault = doubted_vault (house_told told) tells old mid p c.args.by nothing_asked steps c.commit.new.self counts done c.commit.ensures.origin c.commit.ensures.rests c.commit.ensures.has c.ready.ensures.count in
    λ same. quiet_failed tells old c.commit.new.self c.requires.vault vault same (doubted_count (house_told told) tells old mid p c.args.by nothing_asked steps c.commit.new.self counts done)

pub returns-in-Err-commit-clause-origin : goal.returns-in-Err-commit-clause-origin
returns-in-Err-commit-clause-origin g c =
    let tells = g.D.Disk.tells in
    let old = c.args.self.now in
    let mid = c.ready.new.self in
    let how = c.admit-how.result in
    let e = c.args.entry.now in
    let p : Parts _ = record { records = c.admit-how.new.self; head = mid.head; opening = mid.opening; count = mid.count; lines = mid.lines; faults = mid.faults } in
    let counts = c.in-Err-commit.field-0 in
    let taken = taken_is mid.records.charter mid.records.book.cap mid.records.book.entries c.args.place e how (λ none. c.in-Err-commit.ensures.gives.some (c.admit-how.ensures.group ∙ none)) in
    let told : Option Entry = Some e in
    let group = c.admit-how.ensures.group ∙ ap (λ (h : TakeIn). option_to_list (entry_taken e h)) taken in
    let steps = taking_steps tells old mid p c.args.by c.next_turn-turn.result told c.requires.vault c.if-self-ge-MAX_FAULTS.false c.next_turn-turn.ensures c.in-Ok.ensures.gives c.ready.ensures.rests
    c.ready.ensures.origin c.ready.ensures.nothing (record { terms = c.admit-how.ensures.terms; opening = refl; count = refl; head = refl }) c.admit-how.ensures.journal c.admit-how.ensures.over
    group c.admit-how.ensures.gathers refl refl in
    let done = subst (λ (n : ℕ). Doubted tells p c.commit.new.self c.args.by n counts) c.next_turn-turn.ensures c.in-Err-commit.ensures.gives in
    let vault = doubted_vault (house_told told) tells old mid p c.args.by nothing_asked steps c.commit.new.self counts done c.commit.ensures.origin c.commit.ensures.rests c.commit.ensures.has c.ready.ensures.count in
    doubted_origin (house_told told) tells old mid p c.args.by nothing_asked steps c.commit.new.self counts done c.commit.ensures.origin
