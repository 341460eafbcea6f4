-- What a reader of sealed bytes gives is what the tests of a seal and of its text give.
use Rattle.std.proofs.Common.{◌≡◌, ℕ, List, Result, Ok, Err, codes, refl, sym}
use Rattle.nb_units.specs.Fields.{◌>>=◌}
use Rattle.nb_seal.specs.Seal.{Opens, IsNoSeal, iv_shown}
use Rattle.nb_seal.proofs.Opening.{text_in_opens, text_in_no_seal}
use Rattle.nb_epo.specs.declared.hidden.Hidden.{Hidden}
use Rattle.nb_epo.specs.declared.hidden.RevealFault.{RevealFault}
use Rattle.nb_epo.specs.declared.hidden.RevealFault.TheVariants as reveal
use Rattle.nb_epo.specs.Reading.{hidden_of}
use Rattle.nb_epo.specs.Revealing.{Reveals}
use Rattle.nb_endorse.specs.declared.endorsement.Endorsement.{Endorsement}
use Rattle.nb_endorse.specs.declared.sealed.SealedFault.{SealedFault}
use Rattle.nb_endorse.specs.declared.sealed.SealedFault.TheVariants as sealed
use Rattle.nb_endorse.specs.declared.refusal.TheConstants.{IN_ENDORSEMENT, IN_HIDDEN, NOT_SEALED}
use Rattle.nb_endorse.specs.declared.refusal.Refusal.{Refusal}
use Rattle.nb_endorse.specs.Reading.{endorsement_of}
use Rattle.nb_endorse.specs.Refusals.{refusal_with}
use Rattle.nb_endorse.specs.Sealed.{ReadsSealed}
use Rattle.nb_escrow.specs.Checks.{well_formed, unsealed}
use Rattle.nb_escrow.specs.Orders.{endorsement_in, hidden_in, unread_endorsement, unread_hidden}

-- the two tests, one behind the other
abbrev pub tested : {A : Type 0} → (List ℕ → Result A ℕ) → ℕ → List ℕ → List ℕ → List ℕ → Result A Refusal
tested reading part key label bytes = unsealed key label bytes >>= (λ plain. well_formed part (reading plain))

-- where the bytes are the seal of a text
opened : {A : Type 0} (reading : List ℕ → Result A ℕ) (part : ℕ) (key label bytes plain : List ℕ) (read : Result A ℕ) → Opens key label bytes plain → reading plain ≡ read
    → well_formed part read ≡ tested reading part key label bytes
unfolding unsealed
opened reading part key label bytes plain read opens is = sym (rw ((text_in_opens key label bytes plain).1 opens) (rw is refl))

-- where they are the seal of none
missed : {A : Type 0} (reading : List ℕ → Result A ℕ) (part : ℕ) (key label bytes iv : List ℕ) → IsNoSeal key label bytes → iv ≡ iv_shown bytes
    → (let r : Result A Refusal = Err (refusal_with NOT_SEALED iv) in r) ≡ tested reading part key label bytes
unfolding unsealed
missed reading part key label bytes iv none shown = sym (rw ((text_in_no_seal key label bytes).1 none, shown) refl)

pub endorsement_read : (key bytes : List ℕ) (e : Endorsement) → ReadsSealed endorsement_of key (codes "endo") bytes (Ok e) → Ok e ≡ endorsement_in key bytes
unfolding endorsement_in
endorsement_read key bytes e read = opened endorsement_of IN_ENDORSEMENT key (codes "endo") bytes read.0 (Ok e) read.1 read.2

pub endorsement_unread : (key bytes : List ℕ) (fault : SealedFault) → ReadsSealed endorsement_of key (codes "endo") bytes (Err fault) → Err (unread_endorsement fault) ≡ endorsement_in key bytes
unfolding endorsement_in
endorsement_unread key bytes (sealed.BadSeal iv) read = missed endorsement_of IN_ENDORSEMENT key (codes "endo") bytes iv read.0 read.1
endorsement_unread key bytes (sealed.Malformed place) read = opened endorsement_of IN_ENDORSEMENT key (codes "endo") bytes read.0 (Err place) read.1 read.2

pub hidden_read : (key bytes : List ℕ) (h : Hidden) → Reveals key bytes (Ok h) → Ok h ≡ hidden_in key bytes
unfolding hidden_in
hidden_read key bytes h read = opened hidden_of IN_HIDDEN key (codes "hide") bytes read.0 (Ok h) read.1 read.2

pub hidden_unread : (key bytes : List ℕ) (fault : RevealFault) → Reveals key bytes (Err fault) → Err (unread_hidden fault) ≡ hidden_in key bytes
unfolding hidden_in
hidden_unread key bytes (reveal.BadSeal iv) read = missed hidden_of IN_HIDDEN key (codes "hide") bytes iv read.0 read.1
hidden_unread key bytes (reveal.Malformed place) read = opened hidden_of IN_HIDDEN key (codes "hide") bytes read.0 (Err place) read.1 read.2
