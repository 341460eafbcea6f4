-- What an image stands for behind each write of an append.
use Rattle.std.proofs.Common.{◌≡◌, ◌≢◌, inl, inr, ℕ, ◌+◌, Bool, true, false, List, [], ◌∷◌, ◌++◌, length, drop, refl, sym, ap, subst, ◌∙◌}
use Rattle.std.proofs.lemmas.Bool.{eqb-true, eqb-false}
use Rattle.std.proofs.lemmas.List.{append_assoc}
use Rattle.std.specs.Prelude.{◌==◌}
use Rattle.nb_port.specs.Disk.{Torn, put_at}
use Rattle.nb_units.specs.Fields.{sized}
use Rattle.nb_journal.specs.Layout.{open_gate, item_bytes, body_bytes, up_to_gate}
use Rattle.nb_journal.specs.Stands.{Stands, BeforeOrAfter}
use Rattle.nb_journal.proofs.Layouts.{up_to_next}
use Rattle.nb_journal.proofs.Bytes.{behind_torn, behind_put, gate_put, gate_torn}

-- a write behind the gate that was torn
pub stands_torn : (front : List ℕ) (items : List (List ℕ)) (d c : List ℕ) (n : ℕ) → Stands front items d → Torn (length (up_to_gate front items) + 1) n d c → Stands front items c
stands_torn front items d c n stands torn = record {
  gate = stands.gate;
  rest = drop (length (up_to_gate front items) + 1) c;
  shut = stands.shut;
  bytes = behind_torn (up_to_gate front items) stands.gate stands.rest c n (subst (λ (xs : List ℕ). Torn (length (up_to_gate front items) + 1) n xs c) stands.bytes torn);
}

-- the body of an item stands behind a gate that is not open
pub record Staged (front : List ℕ) (items : List (List ℕ)) (item image : List ℕ) : Type 0 where
  pub gate : ℕ
  pub rest : List ℕ
  pub shut : gate ≢ open_gate
  pub bytes : image ≡ up_to_gate front items ++ gate ∷ (body_bytes item ++ rest)

-- the body that is put stands so, whatever is put behind it
pub stands_put : (front : List ℕ) (items : List (List ℕ)) (item more d : List ℕ) → Stands front items d → Staged front items item (put_at d (length (up_to_gate front items) + 1) (body_bytes item ++ more))
stands_put front items item more d stands =
    let up = up_to_gate front items in
    let bytes = body_bytes item ++ more in
    record {
      gate = stands.gate;
      rest = more ++ drop (length bytes) stands.rest;
      shut = stands.shut;
      bytes =
          ap (λ (xs : List ℕ). put_at xs (length up + 1) bytes) stands.bytes
          ∙ behind_put up stands.gate stands.rest bytes
          ∙ ap (λ (xs : List ℕ). up ++ stands.gate ∷ xs) (append_assoc (body_bytes item) more (drop (length bytes) stands.rest));
    }

-- the item does not count yet
pub staged_stands : (front : List ℕ) (items : List (List ℕ)) (item d : List ℕ) → Staged front items item d → Stands front items d
staged_stands front items item d staged = record { gate = staged.gate; rest = body_bytes item ++ staged.rest; shut = staged.shut; bytes = staged.bytes }

-- behind the gate the body of an item, and the gate open: the item stands there
opened : (front : List ℕ) (items : List (List ℕ)) (item rest image : List ℕ) → image ≡ up_to_gate front items ++ open_gate ∷ (body_bytes item ++ rest) → Stands front (items ++ item ∷ []) image
unfolding body_bytes item_bytes
opened front items item rest image is = record {
  gate = 0;
  rest = rest;
  shut = λ e. cc;
  bytes = is ∙ spelled;
}
  where
    spelled : up_to_gate front items ++ open_gate ∷ (body_bytes item ++ rest) ≡ up_to_gate front (items ++ item ∷ []) ++ 0 ∷ rest
    spelled =
        ap (λ (xs : List ℕ). up_to_gate front items ++ open_gate ∷ xs) (append_assoc (sized item) (0 ∷ []) rest)
        ∙ sym (append_assoc (up_to_gate front items) (open_gate ∷ sized item) (0 ∷ rest))
        ∙ ap (λ (xs : List ℕ). xs ++ 0 ∷ rest) (sym (up_to_next front items item))

-- the gate that is opened behind it
pub staged_open : (front : List ℕ) (items : List (List ℕ)) (item d : List ℕ) → Staged front items item d → Stands front (items ++ item ∷ []) (put_at d (length (up_to_gate front items)) (open_gate ∷ []))
staged_open front items item d staged =
    opened front items item staged.rest _
    (ap (λ (xs : List ℕ). put_at xs (length (up_to_gate front items)) (open_gate ∷ [])) staged.bytes ∙ gate_put (up_to_gate front items) staged.gate (body_bytes item ++ staged.rest) open_gate)

-- the write of the gate was torn: the item stands there where the gate is open, and else the items alone
gated_either : (front : List ℕ) (items : List (List ℕ)) (item c : List ℕ) (gate : ℕ) (rest : List ℕ) (is_open : Bool) → (gate == open_gate) ≡ is_open
    → c ≡ up_to_gate front items ++ gate ∷ (body_bytes item ++ rest) → BeforeOrAfter front items item c
gated_either front items item c gate rest true test bytes =
    inr (opened front items item rest c (bytes ∙ ap (λ (g : ℕ). up_to_gate front items ++ g ∷ (body_bytes item ++ rest)) (eqb-true gate open_gate test)))
gated_either front items item c gate rest false test bytes =
    inl (record { gate = gate; rest = body_bytes item ++ rest; shut = eqb-false gate open_gate test; bytes = bytes })

-- by the byte that the torn write left at the gate
pub staged_torn : (front : List ℕ) (items : List (List ℕ)) (item d c : List ℕ) → Staged front items item d → Torn (length (up_to_gate front items)) 1 d c → BeforeOrAfter front items item c
staged_torn front items item d c staged torn =
    let up = up_to_gate front items in
    let whole = gate_torn up staged.gate (body_bytes item ++ staged.rest) c (subst (λ (xs : List ℕ). Torn (length up) 1 xs c) staged.bytes torn) in
    gated_either front items item c whole.gate (staged.rest ++ whole.more) (whole.gate == open_gate) refl
    (whole.bytes ∙ ap (λ (xs : List ℕ). up ++ whole.gate ∷ xs) (append_assoc (body_bytes item) staged.rest whole.more))
