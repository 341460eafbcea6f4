-- The first two lines.
use Rattle.std.proofs.Common.{◌≡◌, ℕ, List, [], ◌∷◌, Option, Some, None, Result, Err, refl, sym, ap, subst, ◌∙◌}
use Rattle.nb_script.specs.Words.{words_of}
use Rattle.nb_script.specs.Lines.{head_in, cap_in}
use Rattle.nb_script.specs.Settings.{Setting, bare}
use Rattle.nb_script.specs.declared.fault.PlayFault.{PlayFault}
use Rattle.nb_script.specs.declared.fault.PlayFault.TheVariants.{BadLine, NoMemory}
use Rattle.nb_script.specs.Reads.{ReadsRest, ReadsScript, lines_of, LinesSay, HeadSays, ScriptSays, second_cap, behind_two}
use Rattle.nb_script.proofs.Parting.{some_part}

-- the first line does not end
pub no_first : (text : List ℕ) → lines_of text ≡ text ∷ [] → ScriptSays (lines_of text) (Err 1)
no_first text is = subst (λ (ls : List (List ℕ)). ScriptSays ls (Err 1)) (sym is) refl

-- it is no house's
pub no_head : (text first rest : List ℕ) → lines_of text ≡ first ∷ lines_of rest → head_in (words_of first) ≡ None → ScriptSays (lines_of text) (Err 1)
no_head text first rest cut none =
    let p = some_part 10 rest in
    let bad : ScriptSays (first ∷ p.first ∷ p.more) (Err 1) =
    subst (λ (head : Option (List ℕ)). HeadSays head (second_cap (first ∷ p.first ∷ p.more)) (behind_two (first ∷ p.first ∷ p.more)) (Err 1)) (sym none) refl in
    subst (λ (ls : List (List ℕ)). ScriptSays ls (Err 1)) (sym (cut ∙ ap (λ (ls : List (List ℕ)). first ∷ ls) p.is)) bad

-- the second does not end
pub no_second : (text first rest head : List ℕ) → lines_of text ≡ first ∷ lines_of rest → head_in (words_of first) ≡ Some head → lines_of rest ≡ rest ∷ [] → ScriptSays (lines_of text) (Err 2)
no_second text first rest head cut is last =
    let bad : ScriptSays (first ∷ rest ∷ []) (Err 2) = subst (λ (head : Option (List ℕ)). HeadSays head None [] (Err 2)) (sym is) refl in
    subst (λ (ls : List (List ℕ)). ScriptSays ls (Err 2)) (sym (cut ∙ ap (λ (ls : List (List ℕ)). first ∷ ls) last)) bad

-- it is no cap's
pub no_cap : (text first rest head second more : List ℕ) → lines_of text ≡ first ∷ lines_of rest → head_in (words_of first) ≡ Some head → lines_of rest ≡ second ∷ lines_of more
    → cap_in (words_of second) ≡ None → ScriptSays (lines_of text) (Err 2)
no_cap text first rest head second more cut is next none =
    let p = some_part 10 more in
    let bad : ScriptSays (first ∷ second ∷ p.first ∷ p.more) (Err 2) =
    subst (λ (h : Option (List ℕ)). HeadSays h (cap_in (words_of second)) (p.first ∷ p.more) (Err 2)) (sym is)
    (subst (λ (c : Option ℕ). HeadSays (Some head) c (p.first ∷ p.more) (Err 2)) (sym none) refl) in
    subst (λ (ls : List (List ℕ)). ScriptSays ls (Err 2)) (sym (cut ∙ ap (λ (ls : List (List ℕ)). first ∷ ls) (next ∙ ap (λ (ls : List (List ℕ)). second ∷ ls) p.is))) bad

-- both are: what stands behind them is said
pub both : (text first rest head second more : List ℕ) (cap : ℕ) (told : Result Setting ℕ) → lines_of text ≡ first ∷ lines_of rest → head_in (words_of first) ≡ Some head
    → lines_of rest ≡ second ∷ lines_of more → cap_in (words_of second) ≡ Some cap → LinesSay (bare head cap) 2 (lines_of more) told → ScriptSays (lines_of text) told
both text first rest head second more cap told cut is next cap_is says =
    let p = some_part 10 more in
    let says_parts : LinesSay (bare head cap) 2 (p.first ∷ p.more) told = subst (λ (ls : List (List ℕ)). LinesSay (bare head cap) 2 ls told) p.is says in
    let good : ScriptSays (first ∷ second ∷ p.first ∷ p.more) told =
    subst (λ (h : Option (List ℕ)). HeadSays h (cap_in (words_of second)) (p.first ∷ p.more) told) (sym is)
    (subst (λ (c : Option ℕ). HeadSays (Some head) c (p.first ∷ p.more) told) (sym cap_is) says_parts) in
    subst (λ (ls : List (List ℕ)). ScriptSays ls told) (sym (cut ∙ ap (λ (ls : List (List ℕ)). first ∷ ls) (next ∙ ap (λ (ls : List (List ℕ)). second ∷ ls) p.is))) good

-- what follows them has a fault
pub failed : (text first rest head second more : List ℕ) (cap : ℕ) (s t : Setting) (fault : PlayFault) → lines_of text ≡ first ∷ lines_of rest → head_in (words_of first) ≡ Some head
    → lines_of rest ≡ second ∷ lines_of more → cap_in (words_of second) ≡ Some cap → s ≡ bare head cap → ReadsRest s more t (Err fault) → ReadsScript text (Err fault)
failed text first rest head second more cap s t (BadLine n) cut is next cap_is begins reads =
    both text first rest head second more cap (Err n) cut is next cap_is (subst (λ (v : Setting). LinesSay v 2 (lines_of more) (Err n)) begins reads)
failed text first rest head second more cap s t NoMemory cut is next cap_is begins reads = tt
