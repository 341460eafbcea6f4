-- An entry of a Legal list that enrols a number is the one that a search finds.
use Rattle.std.proofs.Common.{◌≡◌, ℕ, ◌+◌, ◌<◌, Bool, true, false, ltb, List, [], ◌∷◌, ◌++◌, Option, Some, None, length, get_or, arith, refl, sym, ap, subst, ◌∙◌}
use Rattle.std.proofs.lemmas.Bool.{eqb-true, ltb-true, ltb-false}
use Rattle.std.proofs.lemmas.List.{get_or_push, get_or_append_left, length_push}
use Rattle.std.specs.Prelude.{◌==◌}
use Rattle.std.specs.Option.{option_or, is_some, IfSome}
use Rattle.nb_units.specs.declared.ids.PartyId.{PartyId}
use Rattle.nb_units.specs.declared.ids.AcctId.{AcctId}
use Rattle.nb_entry.specs.declared.entry.Entry.{Entry}
use Rattle.nb_entry.specs.declared.entry.Entry.TheVariants.{Fund}
use Rattle.nb_book.specs.declared.party.Party.{Party}
use Rattle.nb_book.specs.Searches.{party_at, party_in, holder_at}
use Rattle.nb_book.specs.Legal.{LegalAfter, Legal}
use Rattle.nb_book.specs.Laws.{opens}
use Rattle.nb_book.specs.Indexes.{first_place}
use Rattle.nb_book.proofs.Growing.{along}
use Rattle.nb_book.proofs.Counting.{tests_party, tests_holder, enrols_new}
use Rattle.nb_book.proofs.Indexing.{first_push, found, none_of}
use Rattle.nb_book.proofs.Keeping.{own_place}

-- the party that the entry at a place enrols is the party of that number
enrolled_there : (H : List Entry) → Legal H → (id : PartyId) (at : ℕ) (d : Entry) (party : Party) → at < length H → party_at id at (get_or H at d) ≡ Some party → party_in H id ≡ Some party
enrolled_there H legal = along Enrolled none more H legal where
  Enrolled : List Entry → Type 0
  Enrolled H = (id : PartyId) (at : ℕ) (d : Entry) (party : Party) → at < length H → party_at id at (get_or H at d) ≡ Some party → party_in H id ≡ Some party

  none : Enrolled []
  none id at d party within is = absurd (omega (arith, within))

  more : (H : List Entry) (e : Entry) → Legal H → LegalAfter H e → Enrolled H → Enrolled (H ++ e ∷ [])
  more H e legal next before id at d party within is = part (ltb at (length H)) refl where
    last : party_at id (0 + length H) e ≡ Some party → party_in (H ++ e ∷ []) id ≡ Some party
    last here =
        first_push (party_at id) 0 H e
        ∙ ap (λ (x : Option Party). option_or x (party_at id (0 + length H) e))
        (none_of (party_in H id) (enrols_new H e next id (sym (tests_party id (0 + length H) e) ∙ ap (λ (x : Option Party). is_some x) here)))
        ∙ here

    part : (b : Bool) → ltb at (length H) ≡ b → party_in (H ++ e ∷ []) id ≡ Some party
    part true front =
        let inside : at < length H = ltb-true at (length H) front in
        first_push (party_at id) 0 H e
        ∙ ap (λ (x : Option Party). option_or x (party_at id (0 + length H) e))
        (before id at d party inside (ap (λ (x : Entry). party_at id at x) (sym (get_or_append_left H (e ∷ []) d at inside)) ∙ is))
    part false back =
        let here : length H ≡ at = omega (arith, ltb-false at (length H) back, within, length_push H e) in
        let place : 0 + length H ≡ at = omega (arith, here) in
        last (ap (λ (n : ℕ). party_at id n e) place ∙ ap (λ (x : Entry). party_at id at x) (sym (get_or_push H e d at here)) ∙ is)

-- so what the entry answers, if it does, is that party
pub confirms : (H : List Entry) → Legal H → (id : PartyId) (at : ℕ) (d : Entry) (r : Option Party) → at < length H → r ≡ party_at id at (get_or H at d)
    → IfSome r (λ party. party_in H id ≡ Some party)
confirms H legal id at d None within is = tt
confirms H legal id at d (Some party) within is = enrolled_there H legal id at d party within (sym is)

-- an account of the number of a party's has its place where the party is enrolled
pub seated : (H : List Entry) → Legal H → (id : PartyId) (party : Party) (a : AcctId) → party_in H id ≡ Some party → (party.acct.0 == a.0) ≡ true
    → (first_place (opens a) H ≡ Some party.at) × (party.at < length H)
seated H legal id party a enrolled same =
    let d : Entry = Fund (record { 0 = 0 }) 0 [] in
    let place : first_place (opens a) H ≡ Some party.at =
    subst (λ (n : ℕ). first_place (opens (record { 0 = n })) H ≡ Some party.at) (eqb-true party.acct.0 a.0 same) (own_place H legal id party enrolled) in
    (place, (found (opens a) (holder_at a) (tests_holder a) H party.at d place).within)
