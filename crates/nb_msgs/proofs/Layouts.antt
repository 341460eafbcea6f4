-- The bodies as rows of fields.
use Rattle.std.proofs.Common.{◌≡◌, ℕ, ◌<◌, ◌≤◌, ◌^◌, Bool, true, false, cond, ltb, List, ◌++◌, length, Ok, Err, refl, sym, subst, ◌∙◌, arith}
use Rattle.std.proofs.lemmas.Bool.{ltb-false, le-ltb}
use Rattle.nb_units.proofs.Rows.{Row, IsRow, ◌&◌, and_row, byte, byte_row, number4, number4_row, number8, number8_row, raw, raw_row, text, text_row, whole, whole_found, whole_reads, ok_is}
use Rattle.nb_units.specs.Fields.{be8, sized}
use Rattle.nb_units.specs.Frames.{AreBytes}
use Rattle.nb_goods.specs.declared.limits.TheConstants.{PART_BYTES}
use Rattle.nb_msgs.specs.declared.lengths.TheConstants.{MAX_SEALED_HEAD}
use Rattle.nb_msgs.specs.declared.message.Message.{Message}
use Rattle.nb_msgs.specs.declared.message.Message.TheVariants as message
use Rattle.nb_msgs.specs.Bodies.{IsMessage, kind_of, body_bytes}
use Rattle.nb_msgs.specs.Reading.{two_texts_of, numbered_text_of, whole_of, goods_of, done_of, refusal_of}

-- ---- two texts

abbrev Two : Type 0
Two = List ℕ × List ℕ

two_read_so : (m n : ℕ) (bytes : List ℕ) → two_texts_of m n bytes ≡ whole (text m & text n) Two bytes (λ p. Ok p)
unfolding two_texts_of
two_read_so m n bytes = refl

pub two_texts_found : (m n : ℕ) (bytes : List ℕ) (p : Two) → m < 2 ^ 32 → n < 2 ^ 32 → AreBytes bytes → two_texts_of m n bytes ≡ Ok p
    → ((length p.0 ≤ m) × (length p.1 ≤ n)) × (bytes ≡ sized p.0 ++ sized p.1)
two_texts_found m n bytes p first second are e =
    let w = whole_found (text m & text n) (and_row (text_row m first) (text_row n second)) Two bytes (λ q. Ok q) p are (sym (two_read_so m n bytes) ∙ e) in
    subst (λ (x : Two). ((length x.0 ≤ m) × (length x.1 ≤ n)) × (bytes ≡ sized x.0 ++ sized x.1)) (ok_is w.0 p w.3) (w.1, w.2)

pub two_texts_read : (m n : ℕ) (a b : List ℕ) → m < 2 ^ 32 → n < 2 ^ 32 → length a ≤ m → length b ≤ n → two_texts_of m n (sized a ++ sized b) ≡ Ok (a, b)
two_texts_read m n a b first second is_a is_b =
    two_read_so m n (sized a ++ sized b)
    ∙ whole_reads (text m & text n) (and_row (text_row m first) (text_row n second)) Two (sized a ++ sized b) (λ q. Ok q) (a, b) (is_a, is_b) refl

-- ---- a number and a text

abbrev Numbered : Type 0
Numbered = ℕ × List ℕ

numbered_read_so : (m : ℕ) (bytes : List ℕ) → numbered_text_of m bytes ≡ whole (number8 & text m) Numbered bytes (λ p. Ok p)
unfolding numbered_text_of
numbered_read_so m bytes = refl

pub numbered_text_found : (m : ℕ) (bytes : List ℕ) (p : Numbered) → m < 2 ^ 32 → AreBytes bytes → numbered_text_of m bytes ≡ Ok p
    → ((p.0 < 2 ^ 64) × (length p.1 ≤ m)) × (bytes ≡ be8 p.0 ++ sized p.1)
numbered_text_found m bytes p limit are e =
    let w = whole_found (number8 & text m) (and_row number8_row (text_row m limit)) Numbered bytes (λ q. Ok q) p are (sym (numbered_read_so m bytes) ∙ e) in
    subst (λ (x : Numbered). ((x.0 < 2 ^ 64) × (length x.1 ≤ m)) × (bytes ≡ be8 x.0 ++ sized x.1)) (ok_is w.0 p w.3) (w.1, w.2)

pub numbered_text_read : (m n : ℕ) (a : List ℕ) → m < 2 ^ 32 → n < 2 ^ 64 → length a ≤ m → numbered_text_of m (be8 n ++ sized a) ≡ Ok (n, a)
numbered_text_read m n a limit small is =
    numbered_read_so m (be8 n ++ sized a) ∙ whole_reads (number8 & text m) (and_row number8_row (text_row m limit)) Numbered (be8 n ++ sized a) (λ q. Ok q) (n, a) (small, is) refl

-- ---- a body that is sealed as a whole

pub whole_of_found : (most : ℕ) (bytes sealed : List ℕ) → whole_of most bytes ≡ Ok sealed → (length sealed ≤ most) × (bytes ≡ sealed)
whole_of_found most bytes sealed e = within (ltb most (length bytes)) refl e
  where
    within : (b : Bool) → ltb most (length bytes) ≡ b → cond b (Err most) (Ok bytes) ≡ Ok sealed → (length sealed ≤ most) × (bytes ≡ sealed)
    within true is e = absurd cc
    within false is e =
        let same : bytes ≡ sealed = ok_is bytes sealed e in
        (subst (λ (x : List ℕ). length x ≤ most) same (ltb-false most (length bytes) is), same)

pub whole_of_reads : (most : ℕ) (sealed : List ℕ) → length sealed ≤ most → whole_of most sealed ≡ Ok sealed
whole_of_reads most sealed short = rw (le-ltb most (length sealed) short) refl

-- ---- a part of goods

abbrev GoodsParts : Type 0
GoodsParts = (ℕ × List ℕ) × List ℕ

abbrev goods_row : Row GoodsParts
goods_row = number8 & text MAX_SEALED_HEAD & text PART_BYTES

is_goods_row : IsRow goods_row
is_goods_row = and_row (and_row number8_row (text_row MAX_SEALED_HEAD (omega arith))) (text_row PART_BYTES (omega arith))

abbrev goods_made : GoodsParts → Message
goods_made p = message.Goods p.0.0 p.0.1 p.1

goods_read_so : (bytes : List ℕ) → goods_of bytes ≡ whole goods_row Message bytes (λ p. Ok (goods_made p))
unfolding goods_of
goods_read_so bytes = refl

-- a message that was read of a body as this kind
abbrev pub Spelled : ℕ → List ℕ → Message → Type 0
Spelled kind body m = IsMessage m × (kind_of m ≡ kind) × (body ≡ body_bytes m)

pub goods_found : (bytes : List ℕ) (m : Message) → AreBytes bytes → goods_of bytes ≡ Ok m → Spelled 4 bytes m
goods_found bytes m are e =
    let w = whole_found goods_row is_goods_row Message bytes (λ p. Ok (goods_made p)) m are (sym (goods_read_so bytes) ∙ e) in
    subst (Spelled 4 bytes) (ok_is (goods_made w.0) m w.3) ((w.1.0.0, w.1.0.1, w.1.1), refl, w.2)

pub goods_reads : (transaction : ℕ) (head part : List ℕ) → IsMessage (message.Goods transaction head part)
    → goods_of (be8 transaction ++ sized head ++ sized part) ≡ Ok (message.Goods transaction head part)
goods_reads transaction head part is =
    goods_read_so (be8 transaction ++ sized head ++ sized part)
    ∙ whole_reads goods_row is_goods_row Message (be8 transaction ++ sized head ++ sized part) (λ p. Ok (goods_made p)) ((transaction, head), part) ((is.0, is.1), is.2) refl

-- ---- what was done

abbrev DoneParts : Type 0
DoneParts = (ℕ × ℕ) × ℕ

abbrev done_row : Row DoneParts
done_row = number4 & number8 & number8

is_done_row : IsRow done_row
is_done_row = and_row (and_row number4_row number8_row) number8_row

abbrev done_made : DoneParts → Message
done_made p = message.Done (record { 0 = p.0.0 }) p.0.1 p.1

done_read_so : (bytes : List ℕ) → done_of bytes ≡ whole done_row Message bytes (λ p. Ok (done_made p))
unfolding done_of
done_read_so bytes = refl

pub done_found : (bytes : List ℕ) (m : Message) → AreBytes bytes → done_of bytes ≡ Ok m → Spelled 15 bytes m
done_found bytes m are e =
    let w = whole_found done_row is_done_row Message bytes (λ p. Ok (done_made p)) m are (sym (done_read_so bytes) ∙ e) in
    subst (Spelled 15 bytes) (ok_is (done_made w.0) m w.3) ((w.1.0.0, w.1.0.1, w.1.1), refl, w.2)

pub done_reads : (p : DoneParts) → done_row.fits p → done_of (body_bytes (done_made p)) ≡ Ok (done_made p)
done_reads p fits = done_read_so (body_bytes (done_made p)) ∙ whole_reads done_row is_done_row Message (body_bytes (done_made p)) (λ q. Ok (done_made q)) p fits refl

-- ---- refusals

abbrev RefusalParts : Type 0
RefusalParts = ((ℕ × ℕ) × ℕ) × List ℕ

abbrev refusal_row : Row RefusalParts
refusal_row = byte & number8 & number8 & raw 32

is_refusal_row : IsRow refusal_row
is_refusal_row = and_row (and_row (and_row byte_row number8_row) number8_row) (raw_row 32)

abbrev refusal_made : RefusalParts → Message
refusal_made p = message.Refusal (record { code = p.0.0.0; a = p.0.0.1; b = p.0.1; x = p.1 })

refusal_read_so : (bytes : List ℕ) → refusal_of bytes ≡ whole refusal_row Message bytes (λ p. Ok (refusal_made p))
unfolding refusal_of
refusal_read_so bytes = refl

pub refusal_found : (bytes : List ℕ) (m : Message) → AreBytes bytes → refusal_of bytes ≡ Ok m → Spelled 16 bytes m
refusal_found bytes m are e =
    let w = whole_found refusal_row is_refusal_row Message bytes (λ p. Ok (refusal_made p)) m are (sym (refusal_read_so bytes) ∙ e) in
    subst (Spelled 16 bytes) (ok_is (refusal_made w.0) m w.3) (record { code = w.1.0.0.0; a = w.1.0.0.1; b = w.1.0.1; x = w.1.1 }, refl, w.2)

pub refusal_reads : (p : RefusalParts) → refusal_row.fits p → refusal_of (body_bytes (refusal_made p)) ≡ Ok (refusal_made p)
refusal_reads p fits = refusal_read_so (body_bytes (refusal_made p)) ∙ whole_reads refusal_row is_refusal_row Message (body_bytes (refusal_made p)) (λ q. Ok (refusal_made q)) p fits refl
