use Rattle.std.proofs.Common.{ℕ, ◌+◌, List, [], ◌∷◌, ◌++◌, length, replicate, arith, refl, ap, subst, ◌∙◌}
use Rattle.std.proofs.lemmas.List.{append_assoc}
use Rattle.nb_port.specs.Disk.{MayTear, wrote_at}
use Rattle.nb_units.specs.Fields.{sized}
use Rattle.nb_journal.specs.Layout.{open_gate, item_bytes, body_bytes}
use Rattle.nb_journal.proofs.Appending.{gate_within, both_wrote, body_tears, gate_tears, doubt_first, doubt_second, added, run_first, run_second}
use Rattle.nb_journal.proofs.journal.Journal.append.Goals as goal

-- the body failed
pub returns-in-Failed-clause-gives : goal.returns-in-Failed-clause-gives
returns-in-Failed-clause-gives g c = (
  c.fault_count-before.ensures,
  c.fault_count-after.ensures,
  omega (arith, c.in-Failed.ensures.gives.0, c.fault_count-before.ensures, c.fault_count-after.ensures),
  λ front items rest. doubt_first g.D.Disk.tells front items c.args.item.now c.args.self.now _ _ rest c.in-Failed.ensures.gives.1 c.in-Failed.ensures.images refl refl refl refl,
)

pub returns-in-Failed-clause-bytes : goal.returns-in-Failed-clause-bytes
returns-in-Failed-clause-bytes g c =
    let item = c.args.item.now in
    subst (λ (n : ℕ). MayTear (g.D.Disk.tells.content c.args.self.now.disk) (g.D.Disk.tells.content c.put_body.new.disk) c.args.self.now.gate (length item + 6 + n)) c.zeros_behind-zeros.ensures.zeros
    (body_tears (g.D.Disk.tells.content c.args.self.now.disk) _ c.args.self.now.gate item c.zeros_behind-zeros.result c.in-Failed.ensures.gives.1)

pub returns-in-Failed-clause-any_moment : goal.returns-in-Failed-clause-any_moment
returns-in-Failed-clause-any_moment g c =
    λ front items rest. run_first g.D.Disk.tells front items c.args.item.now c.args.self.now _ _ rest (g.met.D.Disk.only_now c.args.self.now.disk) c.in-Failed.ensures.time

pub put_synced-requires-clause-inside : goal.put_synced-requires-clause-inside
put_synced-requires-clause-inside g c =
    gate_within (g.D.Disk.tells.content c.args.self.now.disk) (g.D.Disk.tells.content c.put_body.new.disk) c.args.self.now.gate (body_bytes c.args.item.now ++ replicate c.zeros_behind-zeros.result 0) c.in-Done.ensures.gives.0 c.requires.gate

-- the body was put, and the gate failed
pub returns-in-Failed-put_synced-clause-gives : goal.returns-in-Failed-put_synced-clause-gives
returns-in-Failed-put_synced-clause-gives g c = (
  c.fault_count-before.ensures,
  c.fault_count-after-in-Failed-put_synced.ensures,
  omega (arith, c.in-Failed-put_synced.ensures.gives.0, c.in-Done.ensures.count, c.fault_count-before.ensures, c.fault_count-after-in-Failed-put_synced.ensures),
  λ front items rest. doubt_second g.D.Disk.tells front items c.args.item.now c.args.self.now _ c.put_body.new.disk rest
      (record { more = replicate c.zeros_behind-zeros.result 0; wrote = c.in-Done.ensures.gives.0; only = c.in-Done.ensures.gives.1 }) c.in-Failed-put_synced.ensures.gives.1 c.in-Failed-put_synced.ensures.images refl refl refl refl,
)

pub returns-in-Failed-put_synced-clause-bytes : goal.returns-in-Failed-put_synced-clause-bytes
returns-in-Failed-put_synced-clause-bytes g c =
    let item = c.args.item.now in
    subst (λ (n : ℕ). MayTear (g.D.Disk.tells.content c.args.self.now.disk) (g.D.Disk.tells.content c.put_synced.new.disk) c.args.self.now.gate (length item + 6 + n)) c.zeros_behind-zeros.ensures.zeros
    (gate_tears (g.D.Disk.tells.content c.args.self.now.disk) (g.D.Disk.tells.content c.put_body.new.disk) _ c.args.self.now.gate item c.zeros_behind-zeros.result c.in-Done.ensures.gives.0 c.requires.gate c.in-Failed-put_synced.ensures.gives.1)

pub returns-in-Failed-put_synced-clause-any_moment : goal.returns-in-Failed-put_synced-clause-any_moment
returns-in-Failed-put_synced-clause-any_moment g c =
    λ front items rest. run_second g.D.Disk.tells front items c.args.item.now c.args.self.now c.put_body.new.disk _ _ rest (g.met.D.Disk.only_now c.args.self.now.disk)
    c.in-Done.ensures.time (record { more = replicate c.zeros_behind-zeros.result 0; wrote = c.in-Done.ensures.gives.0; only = c.in-Done.ensures.gives.1 }) c.in-Failed-put_synced.ensures.time

-- the gate was opened
pub returns-clause-gives : goal.returns-clause-gives
returns-clause-gives g c =
    λ front items rest. added g.D.Disk.tells front items c.args.item.now c.args.self.now _ c.put_body.new.disk rest
    (record { more = replicate c.zeros_behind-zeros.result 0; wrote = c.in-Done.ensures.gives.0; only = c.in-Done.ensures.gives.1 }) c.in-Done-put_synced.ensures.gives.0 c.in-Done-put_synced.ensures.gives.1 refl refl refl

pub returns-clause-bytes : goal.returns-clause-bytes
unfolding body_bytes item_bytes
returns-clause-bytes g c =
    let old = g.D.Disk.tells.content c.args.self.now.disk in
    let gate = c.args.self.now.gate in
    let item = c.args.item.now in
    both_wrote old (g.D.Disk.tells.content c.put_body.new.disk) _ gate open_gate (body_bytes item ++ replicate c.zeros_behind-zeros.result 0) c.in-Done.ensures.gives.0 c.in-Done-put_synced.ensures.gives.0 c.requires.gate
    ∙ ap (λ (xs : List ℕ). wrote_at old gate (open_gate ∷ xs)) (append_assoc (sized item) (0 ∷ []) (replicate c.zeros_behind-zeros.result 0))
    ∙ ap (λ (n : ℕ). wrote_at old gate (item_bytes item ++ 0 ∷ replicate n 0)) c.zeros_behind-zeros.ensures.zeros

pub returns-clause-any_moment : goal.returns-clause-any_moment
returns-clause-any_moment g c =
    λ front items rest. run_second g.D.Disk.tells front items c.args.item.now c.args.self.now c.put_body.new.disk _ _ rest (g.met.D.Disk.only_now c.args.self.now.disk)
    c.in-Done.ensures.time (record { more = replicate c.zeros_behind-zeros.result 0; wrote = c.in-Done.ensures.gives.0; only = c.in-Done.ensures.gives.1 }) c.in-Done-put_synced.ensures.time
