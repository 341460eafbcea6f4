-- One worker: its sessions one after another.
use Rattle.std.proofs.Common.{◌≡◌, ℕ, ◌+◌, ◌<◌, suc, List, [], ◌∷◌, ◌++◌, length, Option, None, Some, refl, sym, ap, subst, ◌∙◌, append_assoc, append-nil, arith}
use Rattle.std.proofs.lemmas.List.{length-append, length-map, map-append}
use Rattle.nb_port.specs.Tells.{DiskTells}
use Rattle.nb_port.specs.Faults.{Rose}
use Rattle.nb_link.specs.Link.{LinkSeen}
use Rattle.nb_link.specs.Port.{PortSeen, GivesLink, FailsToGive, TakesBack, with_first, with_last}
use Rattle.nb_turns.specs.declared.line.Line.{Line}
use Rattle.nb_turn.specs.declared.chronicle.View.{View}
use Rattle.nb_turn.specs.Views.{first_sees}
use Rattle.nb_vault.specs.declared.origin.Origin.{Origin}
use Rattle.nb_session.specs.declared.ended.Record.{Record}
use Rattle.nb_session.specs.Session.{IsTold, around}
use Rattle.nb_session.proofs.Completing.{lines_tell}
use Rattle.nb_wire.proofs.Incoming.{rose_from}
use Rattle.nb_server.specs.Served.{WorkerSeen, Sessioned, links_given, links_taken, with_given, with_taken}
use Rattle.nb_server.specs.Steps.{Sessions, HasServed, IsOwn}

-- ---- the links

pub given_none : (told : Option (List LinkSeen)) → told ≡ with_given [] told
given_none None = refl
given_none (Some links) = refl

pub taken_none : (told : Option (List LinkSeen)) → told ≡ with_taken [] told
taken_none None = refl
taken_none (Some links) = ap Some (sym (append-nil links))

pub given_more : (gs : List LinkSeen) (g : LinkSeen) (a b c : Option (List LinkSeen)) → a ≡ with_given gs b → b ≡ with_first g c → a ≡ with_given (gs ++ g ∷ []) c
given_more gs g a b None is first = is ∙ ap (with_given gs) first
given_more gs g a b (Some rest) is first = is ∙ ap (with_given gs) first ∙ ap Some (sym (append_assoc gs (g ∷ []) rest))

pub taken_more : (ts : List LinkSeen) (t : LinkSeen) (a b c : Option (List LinkSeen)) → b ≡ with_taken ts a → c ≡ with_last t b → c ≡ with_taken (ts ++ t ∷ []) a
taken_more ts t None b c is last = last ∙ ap (with_last t) is
taken_more ts t (Some before) b c is last = last ∙ ap (with_last t) is ∙ ap Some (append_assoc before ts (t ∷ []))

module _ {D : Type 0} (tells : DiskTells D) (by : ℕ) where
  -- ---- sessions

  sessions_more : (number : ℕ) (v u : View Origin Line) (clock clock' : Option (List ℕ)) (ss : List Sessioned) (s : Sessioned) → Sessions tells by number v clock ss u clock' → s.first ≡ u
      → IsTold tells by (number + length ss) (around s.first s.given clock') (around s.last s.taken s.clock) s.told → Sessions tells by number v clock (ss ++ s ∷ []) s.last s.clock
  sessions_more number v u clock clock' [] s are first told =
      let same : number + 0 ≡ number = omega arith in
      (first ∙ are.0, subst (λ (x : ℕ × Option (List ℕ)). IsTold tells by x.0 (around s.first s.given x.1) (around s.last s.taken s.clock) s.told) (λ i. (same i, are.1 i)) told, (refl, refl))
  sessions_more number v u clock clock' (t ∷ ss) s are first told =
      let same : number + suc (length ss) ≡ (number + 1) + length ss = omega arith in
      (are.0, are.1, sessions_more (number + 1) t.last u t.clock clock' ss s are.2 first (subst (λ (n : ℕ). IsTold tells by n (around s.first s.given clock') (around s.last s.taken s.clock) s.told) same told))

  -- ---- what a worker did

  pub worked_none : (v : View Origin Line) (old : WorkerSeen) → HasServed tells by v v old old []
  worked_none v old = record {
    sessions = [];
    are = (refl, refl);
    records_are = refl;
    given = given_none old.port.coming;
    taken = taken_none old.port.taken;
    out = refl;
    left = omega arith;
    count = omega arith;
  }

  pub worked_more : (v u w : View Origin Line) (old mid : WorkerSeen) (between after : PortSeen) (clock : Option (List ℕ)) (given taken : LinkSeen) (records : List Record) (told : Record)
      → HasServed tells by v u old mid records → GivesLink mid.port between given → IsTold tells by (length records) (around u given mid.clock) (around w taken clock) told → TakesBack between after taken
      → HasServed tells by v w old (record { port = after; clock = clock }) (records ++ told ∷ [])
  worked_more v u w old mid between after clock given taken records told worked gives is back =
      let s : Sessioned = record { given = given; taken = taken; clock = clock; first = u; last = w; told = told } in
      let count : length records ≡ 0 + length worked.sessions = omega (arith, ap length worked.records_are ∙ length-map worked.sessions (λ (x : Sessioned). x.told)) in
      let coming : between.coming ≡ after.coming = sym (ap (λ (p : PortSeen). p.coming) back.same) in
      record {
        sessions = worked.sessions ++ s ∷ [];
        are = sessions_more 0 v u old.clock mid.clock worked.sessions s worked.are refl (subst (λ (n : ℕ). IsTold tells by n (around u given mid.clock) (around w taken clock) told) count is);
        records_are = ap (λ (rs : List Record). rs ++ told ∷ []) worked.records_are ∙ sym (map-append (λ (x : Sessioned). x.told) worked.sessions (s ∷ []));
        given = given_more (links_given worked.sessions) given old.port.coming mid.port.coming after.coming worked.given (gives.coming ∙ ap (with_first given) coming)
            ∙ ap (λ (ls : List LinkSeen). with_given ls after.coming) (sym (map-append (λ (x : Sessioned). x.given) worked.sessions (s ∷ [])));
        taken = taken_more (links_taken worked.sessions) taken old.port.taken between.taken after.taken (gives.taken ∙ worked.taken) back.taken
            ∙ ap (λ (ls : List LinkSeen). with_taken ls old.port.taken) (sym (map-append (λ (x : Sessioned). x.taken) worked.sessions (s ∷ [])));
        out = omega (arith, worked.out, gives.out, back.out);
        left = omega (arith, worked.left, gives.left, ap (λ (p : PortSeen). p.left) back.same, length-append records (told ∷ []));
        count = omega (arith, worked.count, gives.count, ap (λ (p : PortSeen). p.faults) back.same);
      }

  -- no link was given
  pub worked_failed : (v w : View Origin Line) (old mid : WorkerSeen) (after : PortSeen) (records : List Record) → HasServed tells by v w old mid records → FailsToGive mid.port after
      → HasServed tells by v w old (record { port = after; clock = mid.clock }) records
  worked_failed v w old mid after records worked fails = record {
    sessions = worked.sessions;
    are = worked.are;
    records_are = worked.records_are;
    given = worked.given ∙ ap (with_given (links_given worked.sessions)) (sym (ap (λ (p : PortSeen). p.coming) fails.same));
    taken = ap (λ (p : PortSeen). p.taken) fails.same ∙ worked.taken;
    out = ap (λ (p : PortSeen). p.out) fails.same ∙ worked.out;
    left = omega (arith, worked.left, ap (λ (p : PortSeen). p.left) fails.same);
    count = omega (arith, worked.count, fails.count);
  }

  pub failed_how : (v w : View Origin Line) (old mid : WorkerSeen) (after : PortSeen) (records : List Record) → HasServed tells by v w old mid records → FailsToGive mid.port after
      → (0 < after.left) × Rose old.port.faults after.faults
  failed_how v w old mid after records worked fails =
      (omega (arith, fails.left, ap (λ (p : PortSeen). p.left) fails.same), rose_from old.port.faults mid.port.faults after.faults worked.count fails.rose)

  -- ---- what the pass knows then

  own_after : (origin : Option Origin) (number : ℕ) (v w : View Origin Line) (clock clock' : Option (List ℕ)) (ss : List Sessioned) → Sessions tells by number v clock ss w clock' → IsOwn origin by v → IsOwn origin by w
  own_after origin number v w clock clock' [] are own = subst (IsOwn origin by) (sym are.0) own
  own_after origin number v w clock clock' (s ∷ ss) are own =
      let first : IsOwn origin by s.first = subst (IsOwn origin by) (sym are.0) own in
      let t = lines_tell tells by s.first s.last s.given s.taken clock s.clock s.told.moments.items s.told.marks.items s.told.end are.1.session in
      own_after origin (number + 1) s.last w s.clock clock' ss are.2 (record {
        origin_is = are.1.session.same_origin ∙ first.origin_is;
        parts_are = t.parts_stand (first.parts_are ∙ ap (first_sees s.first.seen) (sym first.parts_are)) ∙ ap (first_sees s.last.seen) first.parts_are;
      })

  -- into which none was joined before
  pub own_behind : (origin : Option Origin) (v w : View Origin Line) (old new : WorkerSeen) (records : List Record) → HasServed tells by v w old new records → IsOwn origin by v → IsOwn origin by w
  own_behind origin v w old new records worked own = own_after origin 0 v w old.clock new.clock worked.sessions worked.are own
