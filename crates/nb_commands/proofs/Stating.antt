-- The statement of an account, told as a run of the program.
use Rattle.std.proofs.Common.{◌≡◌, ◌≢◌, ◌⊎◌, ◌↔◌, ℕ, List, [], Option, IfSome, Result, Ok, Err, refl, ap, subst, ◌∙◌, append-nil, arith, inl, inr}
use Rattle.nb_port.specs.Tells.{DiskTells}
use Rattle.nb_port.specs.Faults.{Rose}
use Rattle.nb_entry.specs.declared.entry.Entry.{Entry}
use Rattle.nb_units.specs.declared.ids.AcctId.{AcctId}
use Rattle.nb_vault.specs.Opens.{VaultOpensAs}
use Rattle.nb_vault.specs.Vaults.{Chronicled, entries_in}
use Rattle.nb_statement.specs.declared.fault.StatementFault.{StatementFault}
use Rattle.nb_statement.specs.declared.fault.StatementFault.TheVariants.{NoAccount, WriteFault, NoMemory}
use Rattle.nb_statement.specs.Statement.{IsHeldByNobody, Untouched, Wrote}
use Rattle.nb_commands.specs.declared.ending.TheConstants.{CLEAN, SINK_FAILED, OUT_OF_MEMORY, NO_ACCOUNT}
use Rattle.nb_commands.specs.Statement.{Stated, told_ending}
use Rattle.nb_commands.proofs.Opening.{all_at_start, opened_as}

same_fault : (r : Result (Unit {0}) StatementFault) (e f : StatementFault) → r ≡ Err e → r ≡ Err f → e ≡ f
same_fault r e f is same = cc

-- the status says whether nobody holds the account
refused_by : (told : Result (Unit {0}) StatementFault) (H : List Entry) (a : AcctId) (before after : ℕ) (sent sent' : Option (List ℕ)) → Wrote before after sent sent' a H told → (told ≡ Err (NoAccount a)) ↔ IsHeldByNobody H a
    → ((told_ending told).status ≡ NO_ACCOUNT) ↔ IsHeldByNobody H a
refused_by (Ok u) H a before after sent sent' wrote is = (λ e. absurd (omega (arith, e)), λ nobody. let e = is.1 nobody in absurd cc)
refused_by (Err (NoAccount acct)) H a before after sent sent' wrote is = (λ e. is.0 (ap (λ (x : AcctId). Err (NoAccount x)) wrote), λ nobody. refl)
refused_by (Err WriteFault) H a before after sent sent' wrote is = (λ e. absurd (omega (arith, e)), λ nobody. let e = same_fault (Err WriteFault) WriteFault (NoAccount a) refl (is.1 nobody) in absurd cc)
refused_by (Err NoMemory) H a before after sent sent' wrote is = (λ e. absurd (omega (arith, e)), λ nobody. let e = same_fault (Err NoMemory) NoMemory (NoAccount a) refl (is.1 nobody) in absurd cc)

-- what was written of the entries of a vault that was opened, and has done nothing since
pub stated : {D : Type 0} (tells : DiskTells D) (old new : D) (v : Chronicled D) (told : Result (Unit {0}) StatementFault) (a : AcctId) (before after : ℕ) (sent sent' : Option (List ℕ))
    → VaultOpensAs tells old v → new ≡ v.disk
    → Wrote before after sent sent' a (entries_in v) told → (told ≡ Err (NoAccount a)) ↔ IsHeldByNobody (entries_in v) a → Stated tells old new sent sent' a (told_ending told)
stated tells old new v told a before after sent sent' opens handed wrote refused =
    let all : entries_in v ≡ v.origin.entries = all_at_start v opens.lines in
    over told (subst (λ (H : List Entry). Wrote before after sent sent' a H told) all wrote) (subst (λ (H : List Entry). (told ≡ Err (NoAccount a)) ↔ IsHeldByNobody H a) all refused)
  where
    over : (told : Result (Unit {0}) StatementFault) → Wrote before after sent sent' a v.origin.entries told → (told ≡ Err (NoAccount a)) ↔ IsHeldByNobody v.origin.entries a
        → Stated tells old new sent sent' a (told_ending told)
    over (Ok u) wrote refused = record {
      opened = opened_as tells old new v opens handed;
      whole = λ e. wrote;
      part = λ e. absurd (omega (arith, e));
      refused = refused_by (Ok u) v.origin.entries a before after sent sent' wrote refused;
      ends = inl refl;
    }
    over (Err (NoAccount acct)) wrote refused = record {
      opened = opened_as tells old new v opens handed;
      whole = λ e. absurd (omega (arith, e));
      part = λ e. absurd (omega (arith, e));
      refused = refused_by (Err (NoAccount acct)) v.origin.entries a before after sent sent' wrote refused;
      ends = inr (inr (inl refl));
    }
    over (Err WriteFault) wrote refused = record {
      opened = opened_as tells old new v opens handed;
      whole = λ e. absurd (omega (arith, e));
      part = λ e. wrote.1;
      refused = refused_by (Err WriteFault) v.origin.entries a before after sent sent' wrote refused;
      ends = inr (inl refl);
    }
    over (Err NoMemory) wrote refused = record {
      opened = opened_as tells old new v opens handed;
      whole = λ e. absurd (omega (arith, e));
      part = λ e. absurd (omega (arith, e));
      refused = refused_by (Err NoMemory) v.origin.entries a before after sent sent' wrote refused;
      ends = inr (inr (inr refl));
    }

-- a fault of the sink is told only where its count rose
pub rose_told : (told : Result (Unit {0}) StatementFault) (before after : ℕ) (sent sent' : Option (List ℕ)) (a : AcctId) (H : List Entry) → Wrote before after sent sent' a H told → (told_ending told).status ≡ SINK_FAILED → Rose before after
rose_told (Ok u) before after sent sent' a H wrote e = absurd (omega (arith, e))
rose_told (Err (NoAccount acct)) before after sent sent' a H wrote e = absurd (omega (arith, e))
rose_told (Err WriteFault) before after sent sent' a H wrote e = wrote.0
rose_told (Err NoMemory) before after sent sent' a H wrote e = absurd (omega (arith, e))

-- but after 0 and 4 the sink is as before
pub silent_told : {K : Type 0} (told : Result (Unit {0}) StatementFault) (old new : K) → Untouched old new told → (told_ending told).status ≢ CLEAN → (told_ending told).status ≢ SINK_FAILED → new ≡ old
silent_told (Ok u) old new same no_clean no_sink = absurd (no_clean refl)
silent_told (Err (NoAccount acct)) old new same no_clean no_sink = same
silent_told (Err WriteFault) old new same no_clean no_sink = absurd (no_sink refl)
silent_told (Err NoMemory) old new same no_clean no_sink = same

-- where the sink did not fail the statement was told, or nobody holds the account, or there was no memory
pub ends_told : (told : Result (Unit {0}) StatementFault) (before after : ℕ) (sent sent' : Option (List ℕ)) (a : AcctId) (H : List Entry) → Wrote before after sent sent' a H told → (Rose before after → ⊥)
    → ((told_ending told).status ≡ CLEAN) ⊎ ((told_ending told).status ≡ NO_ACCOUNT) ⊎ ((told_ending told).status ≡ OUT_OF_MEMORY)
ends_told (Ok u) before after sent sent' a H wrote no_sink = inl refl
ends_told (Err (NoAccount acct)) before after sent sent' a H wrote no_sink = inr (inl refl)
ends_told (Err WriteFault) before after sent sent' a H wrote no_sink = absurd (no_sink wrote.0)
ends_told (Err NoMemory) before after sent sent' a H wrote no_sink = inr (inr refl)
