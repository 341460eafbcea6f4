-- What holds of the settings of scripts, line by line.
use Rattle.std.proofs.Common.{◌≡◌, ℕ, ◌+◌, ◌≤◌, Bool, true, false, List, [], ◌∷◌, ◌++◌, length, Option, Some, None, Result, Ok, Err, inl, inr, refl, sym, subst, cond, arith}
use Rattle.std.specs.Prelude.{codes, ◌==◌}
use Rattle.nb_units.specs.declared.ids.AcctId.{AcctId}
use Rattle.nb_script.specs.declared.act.Act.{Act}
use Rattle.nb_script.specs.declared.limits.TheConstants.{MAX_SCRIPT_CAP}
use Rattle.nb_script.specs.declared.line.Consumer.{Consumer}
use Rattle.nb_script.specs.declared.line.Merchant.{Merchant}
use Rattle.nb_script.specs.declared.line.Line.{Line}
use Rattle.nb_script.specs.declared.line.Line.TheVariants as line
use Rattle.nb_script.specs.declared.line.Shelf.{Shelf}
use Rattle.nb_script.specs.Words.{◌>>=◌, where_so, are, says, number_at, number_in, word_at, words_of}
use Rattle.nb_script.specs.Lines.{cap_in}
use Rattle.nb_script.specs.Settings.{Setting, bare, behind, consumer_entry, merchant_entry, fund_entry, MayEnter, MayFollow, MaySell}
use Rattle.nb_script.specs.Reads.{LinesSay, HeadSays, ScriptSays, first_head, second_cap, behind_two}
use Rattle.nb_script.proofs.Joining.{numbers_are_decimal}

-- it holds of a house's head and cap alone, and each kind of line keeps it
pub record IsKept (P : Setting → Type 0) : Type 0 where
  pub start : (head : List ℕ) (cap : ℕ) → 1 ≤ cap → cap ≤ MAX_SCRIPT_CAP → P (bare head cap)
  pub consumer : (s : Setting) (c : Consumer) → MayEnter s (consumer_entry c) → P s → P (record s { entries = s.entries ++ consumer_entry c ∷ []; consumers = s.consumers ++ c ∷ [] })
  pub merchant : (s : Setting) (m : Merchant) → MayEnter s (merchant_entry m) → P s → P (record s { entries = s.entries ++ merchant_entry m ∷ []; merchants = s.merchants ++ m ∷ [] })
  pub fund : (s : Setting) (number : ℕ) (acct : AcctId) (amount : ℕ) → MayEnter s (fund_entry number acct amount) → P s → P (record s { entries = s.entries ++ fund_entry number acct amount ∷ [] })
  pub shelf : (s : Setting) (x : Shelf) → MaySell s x → P s → P (record s { shelves = s.shelves ++ x ∷ [] })
  pub does : (s : Setting) (a : Act) → P s → P (record s { acts = s.acts ++ a ∷ [] })

line_keeps : (P : Setting → Type 0) → IsKept P → (s : Setting) (number : ℕ) (l : Line) → MayFollow s number l → P s → P (behind s number l)
line_keeps P kept s number (line.Consumer c) may is = kept.consumer s c may.1 is
line_keeps P kept s number (line.Merchant m) may is = kept.merchant s m may.1 is
line_keeps P kept s number (line.Fund acct amount) may is = kept.fund s number acct amount may.1 is
line_keeps P kept s number (line.Shelf x) may is = kept.shelf s x may.1 is
line_keeps P kept s number (line.Does a) may is = kept.does s a is

-- so do all lines
lines_keep : (P : Setting → Type 0) → IsKept P → (s t : Setting) (before : ℕ) (lines : List (List ℕ)) → LinesSay s before lines (Ok t) → P s → P t
lines_keep P kept s t before [] says is = absurd says
lines_keep P kept s t before (rest ∷ []) says is = by (length rest == 0) says
  where
    by : (b : Bool) → ◌≡◌ {A = Result Setting ℕ} (Ok t) (cond b (Ok s) (Err (before + 1))) → P t
    by true e = subst P (sym (same t s e)) is
      where
        same : (x y : Setting) → ◌≡◌ {A = Result Setting ℕ} (Ok x) (Ok y) → x ≡ y
        same x y e = cc
    by false e = absurd (clash e)
      where
        clash : ◌≡◌ {A = Result Setting ℕ} (Ok t) (Err (before + 1)) → ⊥
        clash e = cc
lines_keep P kept s t before (bytes ∷ next ∷ more) (inl (l, here, said)) is =
    lines_keep P kept (behind s (before + 1) l) t (before + 1) (next ∷ more) said (line_keeps P kept s (before + 1) l here.may is)
lines_keep P kept s t before (bytes ∷ next ∷ more) (inr (none, told)) is = absurd (clash told)
  where
    clash : ◌≡◌ {A = Result Setting ℕ} (Ok t) (Err (before + 1)) → ⊥
    clash e = cc

-- a cap that a line says is within its limits
cap_within : (words : List (List ℕ)) (n : ℕ) → cap_in words ≡ Some n → (1 ≤ n) × (n ≤ MAX_SCRIPT_CAP)
unfolding cap_in are number_at
cap_within words n e = by (length words == 2) (says words 0 (codes "cap")) e
  where
    clash : ◌≡◌ {A = Option ℕ} None (Some n) → ⊥
    clash e = cc

    by : (a b : Bool) → (where_so a >>= λ all. cond b (number_in 1 MAX_SCRIPT_CAP (word_at words 1)) None) ≡ Some n → (1 ≤ n) × (n ≤ MAX_SCRIPT_CAP)
    by true true is = let read = (numbers_are_decimal 1 MAX_SCRIPT_CAP (word_at words 1) n (omega arith)).0 is in (read.1, read.2)
    by true false is = absurd (clash is)
    by false b is = absurd (clash is)

second_within : (lines : List (List ℕ)) (n : ℕ) → second_cap lines ≡ Some n → (1 ≤ n) × (n ≤ MAX_SCRIPT_CAP)
second_within [] n is = absurd (no_cap n is)
  where
    no_cap : (n : ℕ) → ◌≡◌ {A = Option ℕ} None (Some n) → ⊥
    no_cap n e = cc
second_within (first ∷ []) n is = absurd (no_cap n is)
  where
    no_cap : (n : ℕ) → ◌≡◌ {A = Option ℕ} None (Some n) → ⊥
    no_cap n e = cc
second_within (first ∷ second ∷ []) n is = absurd (no_cap n is)
  where
    no_cap : (n : ℕ) → ◌≡◌ {A = Option ℕ} None (Some n) → ⊥
    no_cap n e = cc
second_within (first ∷ bytes ∷ next ∷ more) n is = cap_within (words_of bytes) n is

-- so it holds of what a script says
pub script_keeps : (P : Setting → Type 0) → IsKept P → (lines : List (List ℕ)) (said : Setting) → ScriptSays lines (Ok said) → P said
script_keeps P kept lines said says = by (first_head lines) (second_cap lines) refl says
  where
    clash : (n : ℕ) → ◌≡◌ {A = Result Setting ℕ} (Ok said) (Err n) → ⊥
    clash n e = cc

    by : (head : Option (List ℕ)) (cap : Option ℕ) → second_cap lines ≡ cap → HeadSays head cap (behind_two lines) (Ok said) → P said
    by None cap is says = absurd (clash 1 says)
    by (Some head) None is says = absurd (clash 2 says)
    by (Some head) (Some cap) is says =
        let within = second_within lines cap is in
        lines_keep P kept (bare head cap) said 2 (behind_two lines) says (kept.start head cap within.0 within.1)
