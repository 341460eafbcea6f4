-- Endorsements as rows of fields.
use Rattle.std.proofs.Common.{◌≡◌, ℕ, List, Ok, refl, sym, ap, subst, ◌∙◌, arith}
use Rattle.nb_units.proofs.Rows.{Row, IsRow, ◌&◌, and_row, number4, number4_row, raw, raw_row, text, text_row, whole, whole_found, whole_reads, ok_is}
use Rattle.nb_units.specs.declared.limits.TheConstants.{MAX_MEMO, MAX_ORDER}
use Rattle.nb_endorse.specs.declared.endorsement.Endorsement.{Endorsement}
use Rattle.nb_endorse.specs.Spelling.{IsEndorsement, endorsement_bytes}
use Rattle.nb_endorse.specs.Reading.{endorsement_of}
use Rattle.nb_endorse.specs.Laws.{EndorsementReadsBack, EndorsementSpellsBack, OneEndorsement}

-- ---- endorsements

-- the parts of an endorsement, one behind the other
abbrev Parts : Type 0
Parts = ((List ℕ × ℕ) × List ℕ) × List ℕ

abbrev endorsement_row : Row Parts
endorsement_row = text MAX_ORDER & number4 & text MAX_MEMO & raw 32

is_row : IsRow endorsement_row
is_row = and_row (and_row (and_row (text_row MAX_ORDER (omega arith)) number4_row) (text_row MAX_MEMO (omega arith))) (raw_row 32)

abbrev made : Parts → Endorsement
made p = record { order = p.0.0.0; macct = record { 0 = p.0.0.1 }; memo = p.0.1; key = p.1 }

read_so : (bytes : List ℕ) → endorsement_of bytes ≡ whole endorsement_row Endorsement bytes (λ p. Ok (made p))
unfolding endorsement_of
read_so bytes = refl

spelled_so : (p : Parts) → endorsement_row.spelled p ≡ endorsement_bytes (made p)
unfolding endorsement_bytes
spelled_so p = refl

pub endorsement_spells_back : EndorsementSpellsBack
endorsement_spells_back bytes e are is =
    let w = whole_found endorsement_row is_row Endorsement bytes (λ p. Ok (made p)) e are (sym (read_so bytes) ∙ is) in
    subst (λ (x : Endorsement). IsEndorsement x × (bytes ≡ endorsement_bytes x)) (ok_is (made w.0) e w.3) (record { order = w.1.0.0.0; macct = w.1.0.0.1; memo = w.1.0.1; key = w.1.1 }, w.2 ∙ spelled_so w.0)

pub endorsement_reads_back : EndorsementReadsBack
endorsement_reads_back e is =
    let p : Parts = (((e.order, e.macct.0), e.memo), e.key) in
    read_so (endorsement_bytes e) ∙ whole_reads endorsement_row is_row Endorsement (endorsement_bytes e) (λ q. Ok (made q)) p (((is.order, is.macct), is.memo), is.key) (sym (spelled_so p))

pub one_endorsement : OneEndorsement
one_endorsement a b first second same = ok_is a b (sym (endorsement_reads_back a first) ∙ ap endorsement_of same ∙ endorsement_reads_back b second)
