-- Words are one command.
use Rattle.std.proofs.Common.{◌≡◌, ℕ, ◌<◌, ◌≤◌, ◌^◌, List, [], ◌∷◌, length, Option, None, Some, refl, sym, ap, ◌∙◌, arith, codes, slice_index_or}
use Rattle.std.specs.Fmt.{decimal}
use Rattle.std.proofs.lemmas.Fmt.{decimal_injective}
use Rattle.nb_units.specs.declared.ids.AcctId.{AcctId}
use Rattle.nb_units.specs.declared.ids.PartyId.{PartyId}
use Rattle.nb_units.specs.declared.ids.Price.{Price}
use Rattle.nb_groups.proofs.Naming.{one_naming}
use Rattle.nb_words.specs.declared.words.Command.{Command}
use Rattle.nb_words.specs.declared.words.Command.TheVariants.{Init, Batch, Drill, Serve, Migrate, Statement, Judge, Buy, BuyWith, Sell, SellOffers, Credential, Play, Ship, Follow, Promote}
use Rattle.nb_words.specs.Laws.{OneCommand}
use Rattle.nb_words.specs.Words.{Are, IsCredential, IsDrill, IsInit, IsMigrate, IsPurchase, IsSale, IsServe, IsShip, IsStatement}
use Rattle.nb_words.proofs.Whole.{sessions_small}

-- words that are the same have the same number at a place
same_number : (place : ℕ) (words other : List (List ℕ)) (m n : ℕ) → m < 2 ^ 64 → n < 2 ^ 64 → words ≡ other
    → slice_index_or words place [] ≡ decimal m → slice_index_or other place [] ≡ decimal n → m ≡ n
same_number place words other m n few less same is are =
    decimal_injective m n few less (sym is ∙ ap (λ (ws : List (List ℕ)). slice_index_or ws place []) same ∙ are)

-- words have one cap, and one rate or none
one_init : (words : List (List ℕ)) (m n : ℕ) (r q : Option ℕ) → IsInit words m r → IsInit words n q → (m ≡ n) × (r ≡ q)
one_init words m n None None is other = (same_number 2 _ _ m n (omega (arith, is.3)) (omega (arith, other.3)) (sym is.1 ∙ other.1) refl refl, refl)
one_init words m n None (Some q) is other = absurd (omega (arith, ap length (sym is.1 ∙ other.1)))
one_init words m n (Some r) None is other = absurd (omega (arith, ap length (sym is.1 ∙ other.1)))
one_init words m n (Some r) (Some q) is other = (
  same_number 2 _ _ m n (omega (arith, is.3)) (omega (arith, other.3)) (sym is.1 ∙ other.1) refl refl,
  ap (λ (n : ℕ). Some n) (same_number 3 _ _ r q (omega (arith, is.4)) (omega (arith, other.4)) (sym is.1 ∙ other.1) refl refl),
)

-- words have one seed and one number of orders
one_drill : (words : List (List ℕ)) (s o t p : ℕ) → IsDrill words s o → IsDrill words t p → (s ≡ t) × (o ≡ p)
one_drill words s o t p is other = (
  same_number 1 _ _ s t is.1 other.1 (sym is.0 ∙ other.0) refl refl,
  same_number 2 _ _ o p (omega (arith, is.2)) (omega (arith, other.2)) (sym is.0 ∙ other.0) refl refl,
)

-- words that are a server's with these numbers are so with no others
one_serve : (words : List (List ℕ)) (w s v t : ℕ) → IsServe words w s → IsServe words v t → Serve w s ≡ Serve v t
one_serve words w s v t is other =
    let same : codes "serve" ∷ is.0 ∷ is.1 ∷ decimal w ∷ decimal s ∷ [] ≡ codes "serve" ∷ other.0 ∷ other.1 ∷ decimal v ∷ decimal t ∷ [] = sym is.2 ∙ other.2 in
    ap (λ (n : ℕ). Serve n s) (same_number 3 _ _ w v (omega (arith, is.5.1)) (omega (arith, other.5.1)) same refl refl)
    ∙ ap (λ (n : ℕ). Serve v n) (same_number 4 _ _ s t (sessions_small w s is.5.0 is.5.3) (sessions_small v t other.5.0 other.5.3) same refl refl)

-- words that are a purchase's with these numbers are so with no others
one_purchase : (name : List ℕ) (words : List (List ℕ)) (m n : PartyId) (p q : ℕ) (l k : Price) (t u : ℕ) → IsPurchase name words m.0 p l.0 t → IsPurchase name words n.0 q k.0 u
    → ◌≡◌ {A = PartyId × ℕ × Price × ℕ} (m, p, l, t) (n, q, k, u)
one_purchase name words m n p q l k t u is other = λ i. (party i, same_number 5 _ _ p q (omega (arith, is.8)) (omega (arith, other.8)) same refl refl i, price i, same_number 7 _ _ t u is.10 other.10 same refl refl i)
  where
    same : name ∷ is.0 ∷ is.1 ∷ is.2 ∷ decimal m.0 ∷ decimal p ∷ decimal l.0 ∷ decimal t ∷ [] ≡ name ∷ other.0 ∷ other.1 ∷ other.2 ∷ decimal n.0 ∷ decimal q ∷ decimal k.0 ∷ decimal u ∷ []
    same = sym is.3 ∙ other.3

    party : m ≡ n
    party = ap (λ (x : ℕ). let party : PartyId = record { 0 = x } in party) (same_number 4 _ _ m.0 n.0 (omega (arith, is.7)) (omega (arith, other.7)) same refl refl)

    price : l ≡ k
    price = ap (λ (x : ℕ). let price : Price = record { 0 = x } in price) (same_number 6 _ _ l.0 k.0 is.9 other.9 same refl refl)

-- words have one rate of a journal that is moved
one_migrate : (words : List (List ℕ)) (r q : ℕ) → IsMigrate words r → IsMigrate words q → r ≡ q
one_migrate words r q is other = same_number 2 _ _ r q (omega (arith, is.3)) (omega (arith, other.3)) (sym is.1 ∙ other.1) refl refl

-- words have one account of a statement
one_statement : (words : List (List ℕ)) (a b : AcctId) → IsStatement words a.0 → IsStatement words b.0 → a ≡ b
one_statement words a b is other =
    ap (λ (n : ℕ). let acct : AcctId = record { 0 = n } in acct) (same_number 2 _ _ a.0 b.0 (omega (arith, is.3)) (omega (arith, other.3)) (sym is.1 ∙ other.1) refl refl)

-- words have one place of records
one_ship : (words : List (List ℕ)) (a b : ℕ) → IsShip words a → IsShip words b → a ≡ b
one_ship words a b is other = same_number 2 _ _ a b is.3 other.3 (sym is.1 ∙ other.1) refl refl

-- words have one number of links of one who sells
one_sale : (name : List ℕ) (words : List (List ℕ)) (l k : ℕ) → IsSale name words l → IsSale name words k → l ≡ k
one_sale name words l k is other = same_number 4 _ _ l k (omega (arith, is.7)) (omega (arith, other.7)) (sym is.3 ∙ other.3) refl refl

-- words have one consumer, one last second and one list of groups of a credential
one_credential : (words : List (List ℕ)) (a b : PartyId) (t u : ℕ) (g h : List ℕ) → IsCredential words a.0 t g → IsCredential words b.0 u h → ◌≡◌ {A = PartyId × ℕ × List ℕ} (a, t, g) (b, u, h)
one_credential words a b t u g h is other =
    λ i. (
      party i,
      same_number 2 _ _ t u is.2 other.2 (sym is.0 ∙ other.0) refl refl i,
      one_naming g h is.3 other.3 (ap (λ (ws : List (List ℕ)). slice_index_or ws 3 []) (sym is.0 ∙ other.0)) i,
    )
  where
    party : a ≡ b
    party = ap (λ (x : ℕ). let party : PartyId = record { 0 = x } in party) (same_number 1 _ _ a.0 b.0 (omega (arith, is.1)) (omega (arith, other.1)) (sym is.0 ∙ other.0) refl refl)

-- ---- of the first word

-- the name of a command
abbrev name_of : Command → List ℕ
name_of (Init cap rate) = codes "init"
name_of Batch = codes "batch"
name_of (Drill seed orders) = codes "drill"
name_of (Serve workers sessions) = codes "serve"
name_of (Migrate rate) = codes "migrate"
name_of (Statement acct) = codes "statement"
name_of Judge = codes "judge"
name_of (Buy merchant product limit transaction) = codes "buy"
name_of (BuyWith merchant product limit transaction) = codes "buywith"
name_of (Sell links) = codes "sell"
name_of (SellOffers links) = codes "selloffers"
name_of (Credential consumer until groups) = codes "credential"
name_of Play = codes "play"
name_of (Ship from) = codes "ship"
name_of Follow = codes "follow"
name_of Promote = codes "promote"

-- it is the first of its words
abbrev first : List (List ℕ) → List ℕ
first words = slice_index_or words 0 []

named : (words : List (List ℕ)) (command : Command) → Are words command → first words ≡ name_of command
named words (Init cap None) is = ap first is.1
named words (Init cap (Some rate)) is = ap first is.1
named words Batch is = ap first is.1
named words (Drill seed orders) is = ap first is.0
named words (Serve workers sessions) is = ap first is.2
named words (Migrate rate) is = ap first is.1
named words (Statement acct) is = ap first is.1
named words Judge is = ap first is
named words (Buy merchant product limit transaction) is = ap first is.3
named words (BuyWith merchant product limit transaction) is = ap first is.3
named words (Sell links) is = ap first is.3
named words (SellOffers links) is = ap first is.3
named words (Credential consumer until groups) is = ap first is.0
named words Play is = ap first is
named words (Ship from) is = ap first is.1
named words Follow is = ap first is.1
named words Promote is = ap first is.1

-- ---- the law

-- no two names have one length and the same two letters in front
same : (words : List (List ℕ)) (command other : Command) → Are words command → Are words other → name_of command ≡ name_of other → command ≡ other
same words (Init m r) (Init n q) is are e = let one = one_init words m n r q is are in λ i. Init (one.0 i) (one.1 i)
same words Batch Batch is are e = refl
same words (Drill s o) (Drill t p) is are e = let one = one_drill words s o t p is are in λ i. Drill (one.0 i) (one.1 i)
same words (Serve w s) (Serve v t) is are e = one_serve words w s v t is are
same words (Migrate r) (Migrate q) is are e = ap (λ (n : ℕ). Migrate n) (one_migrate words r q is are)
same words (Statement a) (Statement b) is are e = ap (λ (acct : AcctId). Statement acct) (one_statement words a b is are)
same words Judge Judge is are e = refl
same words (Buy m p l t) (Buy n q k u) is are e = let one = one_purchase (codes "buy") words m n p q l k t u is are in λ i. Buy (one i).0 (one i).1 (one i).2 (one i).3
same words (BuyWith m p l t) (BuyWith n q k u) is are e = let one = one_purchase (codes "buywith") words m n p q l k t u is are in λ i. BuyWith (one i).0 (one i).1 (one i).2 (one i).3
same words (Sell l) (Sell k) is are e = ap (λ (n : ℕ). Sell n) (one_sale (codes "sell") words l k is are)
same words (SellOffers l) (SellOffers k) is are e = ap (λ (n : ℕ). SellOffers n) (one_sale (codes "selloffers") words l k is are)
same words (Credential a t g) (Credential b u h) is are e = let one = one_credential words a b t u g h is are in λ i. Credential (one i).0 (one i).1 (one i).2
same words Play Play is are e = refl
same words (Ship a) (Ship b) is are e = ap (λ (n : ℕ). Ship n) (one_ship words a b is are)
same words Follow Follow is are e = refl
same words Promote Promote is are e = refl
same words command other is are e = absurd (omega (arith, ap length e, ap (λ (name : List ℕ). slice_index_or name 0 0) e, ap (λ (name : List ℕ). slice_index_or name 1 0) e))

pub one_command : OneCommand
one_command words command other is are = same words command other is are (sym (named words command is) ∙ named words other are)
