use Rattle.std.proofs.Common.{◌≡◌, inl, inr, ℕ, List, [], ◌++◌, refl, sym, ap, subst, ◌∙◌, arith}
use Rattle.nb_entry.specs.declared.entry.Entry.{Entry}
use Rattle.nb_escrow.specs.Head.{head_of}
use Rattle.nb_journal.specs.declared.journal.Journal.{Journal}
use Rattle.nb_msgs.specs.ReplyBytes.{joined}
use Rattle.nb_turns.specs.Turns.{House, decided, places, replies}
use Rattle.nb_vault.specs.declared.parts.Parts.{Parts}
use Rattle.nb_vault.specs.Asking.{requests_of}
use Rattle.nb_vault.specs.Parts.{Committed, Doubted, Unready, seen_as}
use Rattle.nb_vault.specs.Holdings.{WritesItem}
use Rattle.nb_vault.specs.Records.{doubt_of, over_of}
use Rattle.nb_vault.specs.Rules.{house_of}
use Rattle.nb_vault.specs.Vaults.{house_in}
use Rattle.nb_vault.proofs.Answering.{content_is, decided_origin, decided_vault, decided_went, doubted_all, doubted_count, doubted_origin, doubted_vault, doubted_went, house_is, leaves_here, over_is, quiet_decided, quiet_failed, stepped, turn_leaves, unready_leaves, unready_origin, unready_vault, unready_went}
use Rattle.nb_vault.proofs.Seeing.{durable}
use Rattle.nb_vault.proofs.parts.Parts.answer_all.Goals as goal

pub decide_each-requires-clause-keys : goal.decide_each-requires-clause-keys
decide_each-requires-clause-keys g c = c.ready.ensures.origin.head ∙ c.requires.vault.keys ∙ ap head_of (sym c.ready.ensures.origin.terms.charter)

pub returns-then-self-ge-MAX_FAULTS-clause-any_moment : goal.returns-then-self-ge-MAX_FAULTS-clause-any_moment
returns-then-self-ge-MAX_FAULTS-clause-any_moment g c =
    leaves_here g.D.Disk.tells c.args.self.now c.requires.vault (g.met.D.Disk.only_now c.args.self.now.records.journal.disk)

pub returns-in-Err-clause-vault : goal.returns-in-Err-clause-vault
returns-in-Err-clause-vault g c =
    let tells = g.D.Disk.tells in
    let old = c.args.self.now in
    let requests = requests_of c.args.bytes.now c.args.asks.now in
    let counts = c.in-Err.field-0 in
    let unready = subst (λ (n : ℕ). Unready tells old c.ready.new.self c.args.by n counts) c.next_turn-turn.ensures c.in-Err.ensures.gives in
    unready_vault (house_in (seen_as old)) tells old c.ready.new.self c.args.by requests counts c.requires.vault c.if-self-ge-MAX_FAULTS.false unready c.ready.ensures.origin c.ready.ensures.rests c.ready.ensures.has

pub returns-in-Err-clause-turn : goal.returns-in-Err-clause-turn
returns-in-Err-clause-turn g c =
    let tells = g.D.Disk.tells in
    let old = c.args.self.now in
    let requests = requests_of c.args.bytes.now c.args.asks.now in
    let counts = c.in-Err.field-0 in
    let unready = subst (λ (n : ℕ). Unready tells old c.ready.new.self c.args.by n counts) c.next_turn-turn.ensures c.in-Err.ensures.gives in
    unready_went (house_in (seen_as old)) tells old c.ready.new.self c.args.by requests counts c.requires.vault c.if-self-ge-MAX_FAULTS.false unready (unready_vault (house_in (seen_as old)) tells old c.ready.new.self c.args.by requests counts c.requires.vault c.if-self-ge-MAX_FAULTS.false unready c.ready.ensures.origin c.ready.ensures.rests c.ready.ensures.has) c.ready.ensures.nothing [] _ (ap joined c.requires.none)

pub returns-in-Err-clause-any_moment : goal.returns-in-Err-clause-any_moment
returns-in-Err-clause-any_moment g c =
    let tells = g.D.Disk.tells in
    let old = c.args.self.now in
    let requests = requests_of c.args.bytes.now c.args.asks.now in
    let counts = c.in-Err.field-0 in
    let unready = subst (λ (n : ℕ). Unready tells old c.ready.new.self c.args.by n counts) c.next_turn-turn.ensures c.in-Err.ensures.gives in
    unready_leaves (house_in (seen_as old)) tells old c.ready.new.self c.args.by requests counts c.requires.vault c.if-self-ge-MAX_FAULTS.false unready (unready_vault (house_in (seen_as old)) tells old c.ready.new.self c.args.by requests counts c.requires.vault c.if-self-ge-MAX_FAULTS.false unready c.ready.ensures.origin c.ready.ensures.rests c.ready.ensures.has) c.ready.ensures.any_moment

pub returns-in-Ok-commit-clause-vault : goal.returns-in-Ok-commit-clause-vault
returns-in-Ok-commit-clause-vault g c =
    let tells = g.D.Disk.tells in
    let old = c.args.self.now in
    let mid = c.ready.new.self in
    let requests = requests_of c.args.bytes.now c.args.asks.now in
    let p : Parts _ = record { records = c.decide_each.new.self; head = mid.head; opening = mid.opening; count = mid.count; lines = mid.lines; faults = mid.faults } in
    let steps = stepped tells old mid p c.args.by c.next_turn-turn.result requests c.requires.vault c.if-self-ge-MAX_FAULTS.false c.next_turn-turn.ensures c.in-Ok.ensures.gives c.ready.ensures.rests
    c.ready.ensures.origin c.ready.ensures.nothing (record { terms = c.decide_each.ensures.terms; opening = refl; count = refl; head = refl }) c.decide_each.ensures.journal c.decide_each.ensures.over c.decide_each.ensures.group
    (c.decide_each.ensures.gathers.group.legal.legal, c.decide_each.ensures.gathers.group.within) refl refl in
    let done = subst (λ (n : ℕ). Committed p c.commit.new.self c.args.by n) c.next_turn-turn.ensures c.in-Ok-commit.ensures.gives in
    let vault = decided_vault (house_in (seen_as old)) tells old mid p c.args.by requests steps c.commit.new.self done c.commit.ensures.origin c.commit.ensures.rests c.commit.ensures.has
    (omega (arith, c.ready.ensures.count, c.commit.ensures.count, ap (λ (j : Journal _). tells.faults j.disk) c.decide_each.ensures.journal)) in
    vault

pub returns-in-Ok-commit-clause-turn : goal.returns-in-Ok-commit-clause-turn
returns-in-Ok-commit-clause-turn g c =
    let tells = g.D.Disk.tells in
    let old = c.args.self.now in
    let mid = c.ready.new.self in
    let requests = requests_of c.args.bytes.now c.args.asks.now in
    let p : Parts _ = record { records = c.decide_each.new.self; head = mid.head; opening = mid.opening; count = mid.count; lines = mid.lines; faults = mid.faults } in
    let steps = stepped tells old mid p c.args.by c.next_turn-turn.result requests c.requires.vault c.if-self-ge-MAX_FAULTS.false c.next_turn-turn.ensures c.in-Ok.ensures.gives c.ready.ensures.rests
    c.ready.ensures.origin c.ready.ensures.nothing (record { terms = c.decide_each.ensures.terms; opening = refl; count = refl; head = refl }) c.decide_each.ensures.journal c.decide_each.ensures.over c.decide_each.ensures.group
    (c.decide_each.ensures.gathers.group.legal.legal, c.decide_each.ensures.gathers.group.within) refl refl in
    let done = subst (λ (n : ℕ). Committed p c.commit.new.self c.args.by n) c.next_turn-turn.ensures c.in-Ok-commit.ensures.gives in
    let vault = decided_vault (house_in (seen_as old)) tells old mid p c.args.by requests steps c.commit.new.self done c.commit.ensures.origin c.commit.ensures.rests c.commit.ensures.has
    (omega (arith, c.ready.ensures.count, c.commit.ensures.count, ap (λ (j : Journal _). tells.faults j.disk) c.decide_each.ensures.journal)) in
    let house = house_is tells old mid c.requires.vault c.ready.ensures.origin in
    let same : decided (house_of mid.head mid.records.book.cap) mid.records.book.entries requests ≡ decided (house_in (seen_as old)) (over_of p.records) requests =
    ap (λ (h : House). decided h mid.records.book.entries requests) house ∙ ap (λ (es : List Entry). decided (house_in (seen_as old)) es requests) (sym c.decide_each.ensures.over) in (
      over_of p.records,
      decided_went (house_in (seen_as old)) tells old mid p c.args.by requests steps c.commit.new.self done vault c.in-Ok-commit.ensures.writes c.commit.ensures.idle c.ready.ensures.any_moment c.commit.ensures.any_moment _ [] (joined c.decide_each.new.drafts.items)
          (ap (λ v. v.items) c.commit.ensures.places ∙ c.decide_each.ensures.places ∙ ap places same) (c.decide_each.ensures.drafts ∙ ap (λ answers. replies answers) same),
    )

pub returns-in-Ok-commit-clause-any_moment : goal.returns-in-Ok-commit-clause-any_moment
returns-in-Ok-commit-clause-any_moment g c =
    let tells = g.D.Disk.tells in
    let old = c.args.self.now in
    let mid = c.ready.new.self in
    let requests = requests_of c.args.bytes.now c.args.asks.now in
    let p : Parts _ = record { records = c.decide_each.new.self; head = mid.head; opening = mid.opening; count = mid.count; lines = mid.lines; faults = mid.faults } in
    let steps = stepped tells old mid p c.args.by c.next_turn-turn.result requests c.requires.vault c.if-self-ge-MAX_FAULTS.false c.next_turn-turn.ensures c.in-Ok.ensures.gives c.ready.ensures.rests
    c.ready.ensures.origin c.ready.ensures.nothing (record { terms = c.decide_each.ensures.terms; opening = refl; count = refl; head = refl }) c.decide_each.ensures.journal c.decide_each.ensures.over c.decide_each.ensures.group
    (c.decide_each.ensures.gathers.group.legal.legal, c.decide_each.ensures.gathers.group.within) refl refl in
    let done = subst (λ (n : ℕ). Committed p c.commit.new.self c.args.by n) c.next_turn-turn.ensures c.in-Ok-commit.ensures.gives in
    let vault = decided_vault (house_in (seen_as old)) tells old mid p c.args.by requests steps c.commit.new.self done c.commit.ensures.origin c.commit.ensures.rests c.commit.ensures.has
    (omega (arith, c.ready.ensures.count, c.commit.ensures.count, ap (λ (j : Journal _). tells.faults j.disk) c.decide_each.ensures.journal)) in
    turn_leaves (house_in (seen_as old)) tells old mid p c.args.by requests steps c.commit.new.self vault c.commit.ensures.origin (inl done.entries) c.ready.ensures.any_moment c.commit.ensures.any_moment

pub returns-in-Ok-commit-clause-durable : goal.returns-in-Ok-commit-clause-durable
returns-in-Ok-commit-clause-durable g c =
    let tells = g.D.Disk.tells in
    let old = c.args.self.now in
    let mid = c.ready.new.self in
    let requests = requests_of c.args.bytes.now c.args.asks.now in
    let p : Parts _ = record { records = c.decide_each.new.self; head = mid.head; opening = mid.opening; count = mid.count; lines = mid.lines; faults = mid.faults } in
    let steps = stepped tells old mid p c.args.by c.next_turn-turn.result requests c.requires.vault c.if-self-ge-MAX_FAULTS.false c.next_turn-turn.ensures c.in-Ok.ensures.gives c.ready.ensures.rests
    c.ready.ensures.origin c.ready.ensures.nothing (record { terms = c.decide_each.ensures.terms; opening = refl; count = refl; head = refl }) c.decide_each.ensures.journal c.decide_each.ensures.over c.decide_each.ensures.group
    (c.decide_each.ensures.gathers.group.legal.legal, c.decide_each.ensures.gathers.group.within) refl refl in
    let done = subst (λ (n : ℕ). Committed p c.commit.new.self c.args.by n) c.next_turn-turn.ensures c.in-Ok-commit.ensures.gives in
    let vault = decided_vault (house_in (seen_as old)) tells old mid p c.args.by requests steps c.commit.new.self done c.commit.ensures.origin c.commit.ensures.rests c.commit.ensures.has
    (omega (arith, c.ready.ensures.count, c.commit.ensures.count, ap (λ (j : Journal _). tells.faults j.disk) c.decide_each.ensures.journal)) in
    durable tells c.commit.new.self vault done.fresh

pub returns-in-Ok-commit-clause-quiet : goal.returns-in-Ok-commit-clause-quiet
returns-in-Ok-commit-clause-quiet g c =
    let tells = g.D.Disk.tells in
    let old = c.args.self.now in
    let mid = c.ready.new.self in
    let requests = requests_of c.args.bytes.now c.args.asks.now in
    let p : Parts _ = record { records = c.decide_each.new.self; head = mid.head; opening = mid.opening; count = mid.count; lines = mid.lines; faults = mid.faults } in
    let steps = stepped tells old mid p c.args.by c.next_turn-turn.result requests c.requires.vault c.if-self-ge-MAX_FAULTS.false c.next_turn-turn.ensures c.in-Ok.ensures.gives c.ready.ensures.rests
    c.ready.ensures.origin c.ready.ensures.nothing (record { terms = c.decide_each.ensures.terms; opening = refl; count = refl; head = refl }) c.decide_each.ensures.journal c.decide_each.ensures.over c.decide_each.ensures.group
    (c.decide_each.ensures.gathers.group.legal.legal, c.decide_each.ensures.gathers.group.within) refl refl in
    let done = subst (λ (n : ℕ). Committed p c.commit.new.self c.args.by n) c.next_turn-turn.ensures c.in-Ok-commit.ensures.gives in
    let vault = decided_vault (house_in (seen_as old)) tells old mid p c.args.by requests steps c.commit.new.self done c.commit.ensures.origin c.commit.ensures.rests c.commit.ensures.has
    (omega (arith, c.ready.ensures.count, c.commit.ensures.count, ap (λ (j : Journal _). tells.faults j.disk) c.decide_each.ensures.journal)) in
    λ same. quiet_decided tells old c.commit.new.self c.requires.vault vault same p.records.charter p.records.book.cap (over_of p.records) p.records.group.items steps.ready.kept (over_is (house_in (seen_as old)) tells old mid p c.args.by requests steps) done.entries
    (subst (λ t. WritesItem p.records.charter p.records.book.cap (over_of p.records) p.records.group.items t (tells.content c.commit.new.self.records.journal.disk))
    (content_is (house_in (seen_as old)) tells old mid p c.args.by requests steps) c.in-Ok-commit.ensures.writes)

pub returns-in-Err-commit-clause-vault : goal.returns-in-Err-commit-clause-vault
returns-in-Err-commit-clause-vault g c =
    let tells = g.D.Disk.tells in
    let old = c.args.self.now in
    let mid = c.ready.new.self in
    let requests = requests_of c.args.bytes.now c.args.asks.now in
    let p : Parts _ = record { records = c.decide_each.new.self; head = mid.head; opening = mid.opening; count = mid.count; lines = mid.lines; faults = mid.faults } in
    let steps = stepped tells old mid p c.args.by c.next_turn-turn.result requests c.requires.vault c.if-self-ge-MAX_FAULTS.false c.next_turn-turn.ensures c.in-Ok.ensures.gives c.ready.ensures.rests
    c.ready.ensures.origin c.ready.ensures.nothing (record { terms = c.decide_each.ensures.terms; opening = refl; count = refl; head = refl }) c.decide_each.ensures.journal c.decide_each.ensures.over c.decide_each.ensures.group
    (c.decide_each.ensures.gathers.group.legal.legal, c.decide_each.ensures.gathers.group.within) refl refl in
    let counts = c.in-Err-commit.field-0 in
    let done = subst (λ (n : ℕ). Doubted tells p c.commit.new.self c.args.by n counts) c.next_turn-turn.ensures c.in-Err-commit.ensures.gives in
    let vault = doubted_vault (house_in (seen_as old)) tells old mid p c.args.by requests steps c.commit.new.self counts done c.commit.ensures.origin c.commit.ensures.rests c.commit.ensures.has c.ready.ensures.count in
    vault

pub returns-in-Err-commit-clause-turn : goal.returns-in-Err-commit-clause-turn
returns-in-Err-commit-clause-turn g c =
    let tells = g.D.Disk.tells in
    let old = c.args.self.now in
    let mid = c.ready.new.self in
    let requests = requests_of c.args.bytes.now c.args.asks.now in
    let p : Parts _ = record { records = c.decide_each.new.self; head = mid.head; opening = mid.opening; count = mid.count; lines = mid.lines; faults = mid.faults } in
    let steps = stepped tells old mid p c.args.by c.next_turn-turn.result requests c.requires.vault c.if-self-ge-MAX_FAULTS.false c.next_turn-turn.ensures c.in-Ok.ensures.gives c.ready.ensures.rests
    c.ready.ensures.origin c.ready.ensures.nothing (record { terms = c.decide_each.ensures.terms; opening = refl; count = refl; head = refl }) c.decide_each.ensures.journal c.decide_each.ensures.over c.decide_each.ensures.group
    (c.decide_each.ensures.gathers.group.legal.legal, c.decide_each.ensures.gathers.group.within) refl refl in
    let counts = c.in-Err-commit.field-0 in
    let done = subst (λ (n : ℕ). Doubted tells p c.commit.new.self c.args.by n counts) c.next_turn-turn.ensures c.in-Err-commit.ensures.gives in
    let vault = doubted_vault (house_in (seen_as old)) tells old mid p c.args.by requests steps c.commit.new.self counts done c.commit.ensures.origin c.commit.ensures.rests c.commit.ensures.has c.ready.ensures.count in
    doubted_went (house_in (seen_as old)) tells old mid p c.args.by requests steps c.commit.new.self counts done vault c.in-Err-commit.ensures.writes c.ready.ensures.any_moment c.commit.ensures.any_moment [] (joined c.clear.new.self.items) (ap joined c.clear.ensures.items)

pub returns-in-Err-commit-clause-any_moment : goal.returns-in-Err-commit-clause-any_moment
returns-in-Err-commit-clause-any_moment g c =
    let tells = g.D.Disk.tells in
    let old = c.args.self.now in
    let mid = c.ready.new.self in
    let requests = requests_of c.args.bytes.now c.args.asks.now in
    let p : Parts _ = record { records = c.decide_each.new.self; head = mid.head; opening = mid.opening; count = mid.count; lines = mid.lines; faults = mid.faults } in
    let steps = stepped tells old mid p c.args.by c.next_turn-turn.result requests c.requires.vault c.if-self-ge-MAX_FAULTS.false c.next_turn-turn.ensures c.in-Ok.ensures.gives c.ready.ensures.rests
    c.ready.ensures.origin c.ready.ensures.nothing (record { terms = c.decide_each.ensures.terms; opening = refl; count = refl; head = refl }) c.decide_each.ensures.journal c.decide_each.ensures.over c.decide_each.ensures.group
    (c.decide_each.ensures.gathers.group.legal.legal, c.decide_each.ensures.gathers.group.within) refl refl in
    let counts = c.in-Err-commit.field-0 in
    let done = subst (λ (n : ℕ). Doubted tells p c.commit.new.self c.args.by n counts) c.next_turn-turn.ensures c.in-Err-commit.ensures.gives in
    let vault = doubted_vault (house_in (seen_as old)) tells old mid p c.args.by requests steps c.commit.new.self counts done c.commit.ensures.origin c.commit.ensures.rests c.commit.ensures.has c.ready.ensures.count in
    turn_leaves (house_in (seen_as old)) tells old mid p c.args.by requests steps c.commit.new.self vault c.commit.ensures.origin
    (inr (ap (λ (es : List Entry). es ++ doubt_of c.commit.new.self.records) done.entries ∙ ap (λ (es : List Entry). over_of p.records ++ es) (doubted_all tells p c.commit.new.self c.args.by _ counts done)))
    c.ready.ensures.any_moment c.commit.ensures.any_moment

pub returns-in-Err-commit-clause-quiet : goal.returns-in-Err-commit-clause-quiet
returns-in-Err-commit-clause-quiet g c =
    let tells = g.D.Disk.tells in
    let old = c.args.self.now in
    let mid = c.ready.new.self in
    let requests = requests_of c.args.bytes.now c.args.asks.now in
    let p : Parts _ = record { records = c.decide_each.new.self; head = mid.head; opening = mid.opening; count = mid.count; lines = mid.lines; faults = mid.faults } in
    let steps = stepped tells old mid p c.args.by c.next_turn-turn.result requests c.requires.vault c.if-self-ge-MAX_FAULTS.false c.next_turn-turn.ensures c.in-Ok.ensures.gives c.ready.ensures.rests
    c.ready.ensures.origin c.ready.ensures.nothing (record { terms = c.decide_each.ensures.terms; opening = refl; count = refl; head = refl }) c.decide_each.ensures.journal c.decide_each.ensures.over c.decide_each.ensures.group
    (c.decide_each.ensures.gathers.group.legal.legal, c.decide_each.ensures.gathers.group.within) refl refl in
    let counts = c.in-Err-commit.field-0 in
    let done = subst (λ (n : ℕ). Doubted tells p c.commit.new.self c.args.by n counts) c.next_turn-turn.ensures c.in-Err-commit.ensures.gives in
    let vault = doubted_vault (house_in (seen_as old)) tells old mid p c.args.by requests steps c.commit.new.self counts done c.commit.ensures.origin c.commit.ensures.rests c.commit.ensures.has c.ready.ensures.count in
    λ same. quiet_failed tells old c.commit.new.self c.requires.vault vault same (doubted_count (house_in (seen_as old)) tells old mid p c.args.by requests steps c.commit.new.self counts done)

pub returns-in-Err-clause-origin : goal.returns-in-Err-clause-origin
returns-in-Err-clause-origin g c =
    let tells = g.D.Disk.tells in
    let old = c.args.self.now in
    let requests = requests_of c.args.bytes.now c.args.asks.now in
    let counts = c.in-Err.field-0 in
    let unready = subst (λ (n : ℕ). Unready tells old c.ready.new.self c.args.by n counts) c.next_turn-turn.ensures c.in-Err.ensures.gives in
    unready_origin (house_in (seen_as old)) tells old c.ready.new.self c.args.by requests counts c.requires.vault c.if-self-ge-MAX_FAULTS.false unready c.ready.ensures.origin

pub returns-in-Ok-commit-clause-origin : goal.returns-in-Ok-commit-clause-origin
returns-in-Ok-commit-clause-origin g c =
    let tells = g.D.Disk.tells in
    let old = c.args.self.now in
    let mid = c.ready.new.self in
    let requests = requests_of c.args.bytes.now c.args.asks.now in
    let p : Parts _ = record { records = c.decide_each.new.self; head = mid.head; opening = mid.opening; count = mid.count; lines = mid.lines; faults = mid.faults } in
    let steps = stepped tells old mid p c.args.by c.next_turn-turn.result requests c.requires.vault c.if-self-ge-MAX_FAULTS.false c.next_turn-turn.ensures c.in-Ok.ensures.gives c.ready.ensures.rests
    c.ready.ensures.origin c.ready.ensures.nothing (record { terms = c.decide_each.ensures.terms; opening = refl; count = refl; head = refl }) c.decide_each.ensures.journal c.decide_each.ensures.over c.decide_each.ensures.group
    (c.decide_each.ensures.gathers.group.legal.legal, c.decide_each.ensures.gathers.group.within) refl refl in
    let done = subst (λ (n : ℕ). Committed p c.commit.new.self c.args.by n) c.next_turn-turn.ensures c.in-Ok-commit.ensures.gives in
    decided_origin (house_in (seen_as old)) tells old mid p c.args.by requests steps c.commit.new.self done c.commit.ensures.origin

pub returns-in-Err-commit-clause-origin : goal.returns-in-Err-commit-clause-origin
returns-in-Err-commit-clause-origin g c =
    let tells = g.D.Disk.tells in
    let old = c.args.self.now in
    let mid = c.ready.new.self in
    let requests = requests_of c.args.bytes.now c.args.asks.now in
    let p : Parts _ = record { records = c.decide_each.new.self; head = mid.head; opening = mid.opening; count = mid.count; lines = mid.lines; faults = mid.faults } in
    let steps = stepped tells old mid p c.args.by c.next_turn-turn.result requests c.requires.vault c.if-self-ge-MAX_FAULTS.false c.next_turn-turn.ensures c.in-Ok.ensures.gives c.ready.ensures.rests
    c.ready.ensures.origin c.ready.ensures.nothing (record { terms = c.decide_each.ensures.terms; opening = refl; count = refl; head = refl }) c.decide_each.ensures.journal c.decide_each.ensures.over c.decide_each.ensures.group
    (c.decide_each.ensures.gathers.group.legal.legal, c.decide_each.ensures.gathers.group.within) refl refl in
    let counts = c.in-Err-commit.field-0 in
    let done = subst (λ (n : ℕ). Doubted tells p c.commit.new.self c.args.by n counts) c.next_turn-turn.ensures c.in-Err-commit.ensures.gives in
    doubted_origin (house_in (seen_as old)) tells old mid p c.args.by requests steps c.commit.new.self counts done c.commit.ensures.origin
