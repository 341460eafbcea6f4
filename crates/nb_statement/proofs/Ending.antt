-- A text whose last bytes are put, and then all that waits is sent.
use Rattle.std.proofs.Common.{◌≡◌, ℕ, ◌≤◌, List, [], ◌++◌, Option, Result, Ok, Err, subst}
use Rattle.std.specs.Io.KnownBytes.{Appends}
use Rattle.nb_statement.specs.declared.fault.StatementFault.{StatementFault}
use Rattle.nb_statement.specs.Statement.{SentPart, Sends, Stands}
use Rattle.nb_statement.proofs.Standing.{all_sent, first_stands, last_failed, all_stand, part_sent, rose_behind}

-- the first bytes were put where nothing waited
pub begins : (s t : Option (List ℕ)) (none waits bytes text : List ℕ) → none ≡ [] → bytes ≡ text → Stands s t waits (none ++ bytes) → Stands s t waits text
begins s t none waits bytes text is spelled stands = first_stands s t none waits text is (subst (λ (xs : List ℕ). Stands s t waits (none ++ xs)) spelled stands)

-- the last ones were put
pub closes_all : (s t u : Option (List ℕ)) (waited waits first next last bytes : List ℕ) → bytes ≡ last → Stands s t waited (first ++ next) → Stands t u waits (waited ++ bytes)
    → Stands s u waits (first ++ (next ++ last))
closes_all s t u waited waits first next last bytes spelled stands then =
    all_stand s t u waited waits first next last stands (subst (λ (xs : List ℕ). Stands t u waits (waited ++ xs)) spelled then)

-- or not
pub closes_none : (s t u : Option (List ℕ)) (waited first next last bytes : List ℕ) → bytes ≡ last → Stands s t waited (first ++ next) → SentPart t u (waited ++ bytes)
    → SentPart s u (first ++ (next ++ last))
closes_none s t u waited first next last bytes spelled stands part =
    last_failed s t u waited first next last stands (subst (λ (xs : List ℕ). SentPart t u (waited ++ xs)) spelled part)

-- what waits is sent
pub sends_rest : (r : Result (Unit {0}) StatementFault) (before mid after : ℕ) (s t u : Option (List ℕ)) (waits bytes text : List ℕ) → before ≤ mid → bytes ≡ waits → Stands s t waits text
    → Sends mid after t u bytes r → Sends before after s u text r
sends_rest (Ok x) before mid after s t u waits bytes text grows same stands sent = all_sent s t u waits text stands (subst (λ (xs : List ℕ). Appends t u xs) same sent)
sends_rest (Err fault) before mid after s t u waits bytes text grows same stands sent =
    (sent.0, rose_behind before mid after grows sent.1, part_sent s t u waits text stands (subst (λ (xs : List ℕ). SentPart t u xs) same sent.2))
