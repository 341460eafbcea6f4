-- Kept items read back and spell back, one kind after the other.
use Rattle.std.proofs.Common.{◌≡◌, ℕ, ◌≤◌, Bool, true, false, cond, List, [], ◌∷◌, ◌++◌, length, take, drop, Ok, Err, Result, refl, sym, ap, subst, ◌∙◌, arith, append_assoc, length-append, take-append-drop}
use Rattle.std.proofs.lemmas.Bool.{eqb-true}
use Rattle.std.proofs.lemmas.List.{take_at, drop_at}
use Rattle.std.specs.Prelude.{◌==◌}
use Rattle.nb_units.proofs.ByteLists.{AreBytes-drop, AreBytes-take}
use Rattle.nb_units.proofs.FieldLaws.{byte_stands}
use Rattle.nb_units.proofs.Rows.{Row, IsRow, ◌&◌, and_row, tested, tested_row, byte, byte_row, number4, number4_row, number8, number8_row, epoid, epoid_row, raw, raw_row, text, text_row, whole, whole_found, whole_reads, ok_is}
use Rattle.nb_units.specs.declared.epoid.Epoid.{Epoid}
use Rattle.nb_units.specs.Epoid.{epoid_bytes}
use Rattle.nb_units.specs.Fields.{◌>>=◌, be4, be8, sized, u8_at, or_place, allowed}
use Rattle.nb_units.specs.Frames.{AreBytes}
use Rattle.nb_body.specs.declared.goods_head.GoodsHead.{GoodsHead}
use Rattle.nb_epo.specs.declared.order.Order.{Order}
use Rattle.nb_epo.specs.Spelling.{order_bytes}
use Rattle.nb_epo.specs.Reading.{order_of}
use Rattle.nb_epo.proofs.Layouts.{order_reads_back, order_spells_back, lengths}
use Rattle.nb_endorse.specs.declared.receipt.Signed.{Signed}
use Rattle.nb_endorse.specs.Spelling.{signed_bytes}
use Rattle.nb_endorse.specs.Reading.{signed_of}
use Rattle.nb_endorse.proofs.Receipts.{receipt_reads_back, receipt_spells_back, receipt_is_as_long}
use Rattle.nb_wallet.specs.declared.wallet.Start.{Start}
use Rattle.nb_units.specs.declared.ids.Price.{Price}
use Rattle.nb_wallet.specs.declared.item.SessionTicket.{SessionTicket}
use Rattle.nb_wallet.specs.declared.item.Item.{Item}
use Rattle.nb_wallet.specs.declared.item.Item.TheVariants as item
use Rattle.nb_wallet.specs.Spelling.{IsItem, item_bytes, started_bytes, granted_item_bytes, wanted_bytes, ordered_front, ordered_bytes, ended_bytes, part_front, forgotten_bytes}
use Rattle.nb_wallet.specs.Reading.{item_of, of_kind, started_of, granted_item_of, wanted_of, ordered_of, order_within, ended_of, receipt_within, from_place, part_of, forgotten_of}
use Rattle.nb_wallet.specs.Laws.{ItemReadsBack, ItemSpellsBack, OneItem, ItemKindsAre, ItemIsShort}

-- an item that the bytes are of
abbrev Spelled : List ℕ → Item → Type 0
Spelled bytes x = IsItem x × (bytes ≡ item_bytes x)

-- a kind, and a row behind it
abbrev kind_row : ℕ → Row ℕ
kind_row kind = tested byte (λ k. k == kind)

is_kind_row : (kind : ℕ) → IsRow (kind_row kind)
is_kind_row kind = tested_row byte (λ k. k == kind) byte_row

first_byte : (k : ℕ) (rest : List ℕ) → or_place (u8_at (k ∷ rest) 0) ≡ Ok k
first_byte k rest = ap or_place ((byte_stands (k ∷ rest) 0 k).1 refl)

-- behind a kind that was read
of_kind_read : (K kind : ℕ) (bytes : List ℕ) (r : Result Item ℕ) → or_place (u8_at bytes 0) ≡ Ok kind → (kind == K) ≡ true
    → (or_place (u8_at bytes 0) >>= λ k. allowed (k == K) 0 >>= λ is. r) ≡ r
of_kind_read K kind bytes r read is = rw (read, is) refl

-- of one kind, or of those behind it
next : {P : Type 0} (b : Bool) (x y : Result Item ℕ) (m : Item) → cond b x y ≡ Ok m → (b ≡ true → x ≡ Ok m → P) → (y ≡ Ok m → P) → P
next true x y m e this others = this refl e
next false x y m e this others = others e

bind_found : {A B : Type 0} (r : Result A ℕ) (next : A → Result B ℕ) (y : B) → (r >>= next) ≡ Ok y → (x : A) × (r ≡ Ok x) × (next x ≡ Ok y)
bind_found (Ok x) next y e = (x, refl, e)
bind_found (Err place) next y e = absurd cc

placed_found : {A : Type 0} (place : ℕ) (r : Result A ℕ) (x : A) → from_place place r ≡ Ok x → r ≡ Ok x
placed_found place (Ok v) x e = ap Ok (ok_is v x e)
placed_found place (Err bad) x e = absurd cc

-- ---- items that are a row of fields behind their kind

-- what such an item is read as
abbrev behind_kind : ℕ → List ℕ → Result Item ℕ → Result Item ℕ
behind_kind K bytes r = or_place (u8_at bytes 0) >>= λ k. allowed (k == K) 0 >>= λ is. r

row_found : {A : Type 0} (K : ℕ) (row : Row A) → IsRow row → (made : A → Item) (r : List ℕ → Result Item ℕ)
    → ((bytes : List ℕ) → behind_kind K bytes (r bytes) ≡ whole row Item bytes (λ p. Ok (made p)))
    → ((p : A) → row.fits p → IsItem (made p) × (row.spelled p ≡ item_bytes (made p)))
    → (kind : ℕ) (bytes : List ℕ) (x : Item) → AreBytes bytes → or_place (u8_at bytes 0) ≡ Ok kind → (kind == K) ≡ true → r bytes ≡ Ok x → Spelled bytes x
row_found K row is_row made r so back kind bytes x are read is e =
    let w = whole_found row is_row Item bytes (λ p. Ok (made p)) x are (sym (so bytes) ∙ of_kind_read K kind bytes (r bytes) read is ∙ e) in
    let b = back w.0 w.1 in
    subst (Spelled bytes) (ok_is (made w.0) x w.3) (b.0, w.2 ∙ b.1)

row_reads : {A : Type 0} (K : ℕ) (row : Row A) → IsRow row → (made : A → Item) (r : List ℕ → Result Item ℕ)
    → ((bytes : List ℕ) → behind_kind K bytes (r bytes) ≡ whole row Item bytes (λ p. Ok (made p)))
    → (p : A) (bytes rest : List ℕ) → row.fits p → bytes ≡ row.spelled p → row.spelled p ≡ K ∷ rest → (K == K) ≡ true
    → (or_place (u8_at bytes 0) ≡ Ok K) × (r bytes ≡ Ok (made p))
row_reads K row is_row made r so p bytes rest fits same front is =
    let first : or_place (u8_at bytes 0) ≡ Ok K = ap (λ (b : List ℕ). or_place (u8_at b 0)) (same ∙ front) ∙ first_byte K rest in
    (first, sym (of_kind_read K K bytes (r bytes) first is) ∙ so bytes ∙ whole_reads row is_row Item bytes (λ q. Ok (made q)) p fits same)

kind_is : (K k : ℕ) → (k == K) ≡ true → k ≡ K
kind_is K k e = eqb-true k K e

-- ---- a start

abbrev StartParts : Type 0
StartParts = (((((ℕ × ℕ) × ℕ) × ℕ) × ℕ) × List ℕ) × List ℕ

abbrev start_row : Row StartParts
start_row = kind_row 1 & number8 & number4 & number4 & number8 & text 64 & text 64

is_start_row : IsRow start_row
is_start_row = and_row (and_row (and_row (and_row (and_row (and_row (is_kind_row 1) number8_row) number4_row) number4_row) number8_row) (text_row 64 (omega arith))) (text_row 64 (omega arith))

abbrev start_made : StartParts → Item
start_made p = item.Started (record { transaction = p.0.0.0.0.0.1; merchant = record { 0 = p.0.0.0.0.1 }; product = p.0.0.0.1; limit = record { 0 = p.0.0.1 }; request = p.0.1; memo = p.1 })

start_read_so : (bytes : List ℕ) → behind_kind 1 bytes (started_of bytes) ≡ whole start_row Item bytes (λ p. Ok (start_made p))
unfolding started_of
start_read_so bytes = refl

start_spelled_so : (p : StartParts) → p.0.0.0.0.0.0 ≡ 1 → start_row.spelled p ≡ item_bytes (start_made p)
unfolding started_bytes
start_spelled_so p one = rw one refl

start_found : (kind : ℕ) (bytes : List ℕ) (x : Item) → AreBytes bytes → or_place (u8_at bytes 0) ≡ Ok kind → (kind == 1) ≡ true → started_of bytes ≡ Ok x → Spelled bytes x
start_found = row_found 1 start_row is_start_row start_made started_of start_read_so (λ p f. (
  record { transaction = f.0.0.0.0.0.1; merchant = f.0.0.0.0.1; product = f.0.0.0.1; limit = f.0.0.1; request = f.0.1; memo = f.1 },
  start_spelled_so p (kind_is 1 p.0.0.0.0.0.0 f.0.0.0.0.0.0.1),
))

start_reads : (s : Start) → IsItem (item.Started s) → item_of (item_bytes (item.Started s)) ≡ Ok (item.Started s)
unfolding item_of
start_reads s is =
    let p : StartParts = ((((((1, s.transaction), s.merchant.0), s.product), s.limit.0), s.request), s.memo) in
    let r = row_reads 1 start_row is_start_row start_made started_of start_read_so p (item_bytes (item.Started s)) _
    (((((((omega arith, refl), is.transaction), is.merchant), is.product), is.limit), is.request), is.memo) (sym (start_spelled_so p refl)) refl refl in
    rw r.0 r.1

-- ---- a grant

abbrev GrantParts : Type 0
GrantParts = ((ℕ × ℕ) × List ℕ) × List ℕ

abbrev grant_row : Row GrantParts
grant_row = kind_row 2 & number8 & raw 32 & text 80

is_grant_row : IsRow grant_row
is_grant_row = and_row (and_row (and_row (is_kind_row 2) number8_row) (raw_row 32)) (text_row 80 (omega arith))

abbrev grant_made : GrantParts → Item
grant_made p = item.Granted p.0.0.1 (record { session = p.0.1; ticket = p.1 })

grant_read_so : (bytes : List ℕ) → behind_kind 2 bytes (granted_item_of bytes) ≡ whole grant_row Item bytes (λ p. Ok (grant_made p))
unfolding granted_item_of
grant_read_so bytes = refl

grant_spelled_so : (p : GrantParts) → p.0.0.0 ≡ 2 → grant_row.spelled p ≡ item_bytes (grant_made p)
unfolding granted_item_bytes
grant_spelled_so p one = rw one refl

grant_found : (kind : ℕ) (bytes : List ℕ) (x : Item) → AreBytes bytes → or_place (u8_at bytes 0) ≡ Ok kind → (kind == 2) ≡ true → granted_item_of bytes ≡ Ok x → Spelled bytes x
grant_found = row_found 2 grant_row is_grant_row grant_made granted_item_of grant_read_so (λ p f. (
  (f.0.0.1, record { session = f.0.1; ticket = f.1 }),
  grant_spelled_so p (kind_is 2 p.0.0.0 f.0.0.0.1),
))

grant_reads : (t : ℕ) (g : SessionTicket) → IsItem (item.Granted t g) → item_of (item_bytes (item.Granted t g)) ≡ Ok (item.Granted t g)
unfolding item_of
grant_reads t g is =
    let p : GrantParts = (((2, t), g.session), g.ticket) in
    let r = row_reads 2 grant_row is_grant_row grant_made granted_item_of grant_read_so p (item_bytes (item.Granted t g)) _
    ((((omega arith, refl), is.0), is.1.session), is.1.ticket) (sym (grant_spelled_so p refl)) refl refl in
    rw r.0 r.1

-- ---- a price

abbrev PriceParts : Type 0
PriceParts = (ℕ × ℕ) × ℕ

abbrev price_row : Row PriceParts
price_row = kind_row 3 & number8 & number8

is_price_row : IsRow price_row
is_price_row = and_row (and_row (is_kind_row 3) number8_row) number8_row

abbrev price_made : PriceParts → Item
price_made p = item.Wanted p.0.1 (record { 0 = p.1 })

price_read_so : (bytes : List ℕ) → behind_kind 3 bytes (wanted_of bytes) ≡ whole price_row Item bytes (λ p. Ok (price_made p))
unfolding wanted_of
price_read_so bytes = refl

price_spelled_so : (p : PriceParts) → p.0.0 ≡ 3 → price_row.spelled p ≡ item_bytes (price_made p)
unfolding wanted_bytes
price_spelled_so p one = rw one refl

price_found : (kind : ℕ) (bytes : List ℕ) (x : Item) → AreBytes bytes → or_place (u8_at bytes 0) ≡ Ok kind → (kind == 3) ≡ true → wanted_of bytes ≡ Ok x → Spelled bytes x
price_found = row_found 3 price_row is_price_row price_made wanted_of price_read_so (λ p f. ((f.0.1, f.1), price_spelled_so p (kind_is 3 p.0.0 f.0.0.1)))

price_reads : (t : ℕ) (price : Price) → IsItem (item.Wanted t price) → item_of (item_bytes (item.Wanted t price)) ≡ Ok (item.Wanted t price)
unfolding item_of
price_reads t price is =
    let p : PriceParts = ((3, t), price.0) in
    let r = row_reads 3 price_row is_price_row price_made wanted_of price_read_so p (item_bytes (item.Wanted t price)) _
    (((omega arith, refl), is.0), is.1) (sym (price_spelled_so p refl)) refl refl in
    rw r.0 r.1

-- ---- that parts are forgotten

abbrev forgotten_row : Row (ℕ × ℕ)
forgotten_row = kind_row 8 & number8

is_forgotten_row : IsRow forgotten_row
is_forgotten_row = and_row (is_kind_row 8) number8_row

abbrev forgotten_made : ℕ × ℕ → Item
forgotten_made p = item.Forgotten p.1

forgotten_read_so : (bytes : List ℕ) → behind_kind 8 bytes (forgotten_of bytes) ≡ whole forgotten_row Item bytes (λ p. Ok (forgotten_made p))
unfolding forgotten_of
forgotten_read_so bytes = refl

forgotten_spelled_so : (p : ℕ × ℕ) → p.0 ≡ 8 → forgotten_row.spelled p ≡ item_bytes (forgotten_made p)
unfolding forgotten_bytes
forgotten_spelled_so p one = rw one refl

forgotten_found : (kind : ℕ) (bytes : List ℕ) (x : Item) → AreBytes bytes → or_place (u8_at bytes 0) ≡ Ok kind → (kind == 8) ≡ true → forgotten_of bytes ≡ Ok x → Spelled bytes x
forgotten_found = row_found 8 forgotten_row is_forgotten_row forgotten_made forgotten_of forgotten_read_so (λ p f. (f.1, forgotten_spelled_so p (kind_is 8 p.0 f.0.1)))

forgotten_reads : (t : ℕ) → IsItem (item.Forgotten t) → item_of (item_bytes (item.Forgotten t)) ≡ Ok (item.Forgotten t)
unfolding item_of
forgotten_reads t is =
    let r = row_reads 8 forgotten_row is_forgotten_row forgotten_made forgotten_of forgotten_read_so (8, t) (item_bytes (item.Forgotten t)) _
    ((omega arith, refl), is) (sym (forgotten_spelled_so (8, t) refl)) refl refl in
    rw r.0 r.1

-- ---- a part

abbrev PartParts : Type 0
PartParts = (((((ℕ × ℕ) × Epoid) × ℕ) × List ℕ) × ℕ) × List ℕ

abbrev part_row : Row PartParts
part_row = kind_row 6 & number8 & epoid & number8 & raw 32 & number8 & text 1000000

is_part_row : IsRow part_row
is_part_row = and_row (and_row (and_row (and_row (and_row (and_row (is_kind_row 6) number8_row) epoid_row) number8_row) (raw_row 32)) number8_row) (text_row 1000000 (omega arith))

abbrev part_made : PartParts → Item
part_made p = item.Part (record { transaction = p.0.0.0.0.0.1; epoid = p.0.0.0.0.1; total = p.0.0.0.1; place = p.0.1; checksum = p.0.0.1 }) p.1

part_read_so : (bytes : List ℕ) → behind_kind 6 bytes (part_of bytes) ≡ whole part_row Item bytes (λ p. Ok (part_made p))
unfolding part_of
part_read_so bytes = refl

part_spelled_so : (p : PartParts) → p.0.0.0.0.0.0 ≡ 6 → part_row.spelled p ≡ item_bytes (part_made p)
unfolding part_front
part_spelled_so p one =
    let front : List ℕ = (6 ∷ []) ++ be8 p.0.0.0.0.0.1 ++ epoid_bytes p.0.0.0.0.1 ++ be8 p.0.0.0.1 ++ p.0.0.1 ++ be8 p.0.1 in
    rw one (sym (append_assoc front (be4 (length p.1)) p.1))

part_found : (kind : ℕ) (bytes : List ℕ) (x : Item) → AreBytes bytes → or_place (u8_at bytes 0) ≡ Ok kind → (kind == 6) ≡ true → part_of bytes ≡ Ok x → Spelled bytes x
part_found = row_found 6 part_row is_part_row part_made part_of part_read_so (λ p f. (
  (record { transaction = f.0.0.0.0.0.1; epoid = f.0.0.0.0.1; total = f.0.0.0.1; place = f.0.1; checksum = f.0.0.1 }, f.1),
  part_spelled_so p (kind_is 6 p.0.0.0.0.0.0 f.0.0.0.0.0.0.1),
))

part_reads : (h : GoodsHead) (part : List ℕ) → IsItem (item.Part h part) → item_of (item_bytes (item.Part h part)) ≡ Ok (item.Part h part)
unfolding item_of
part_reads h part is =
    let p : PartParts = ((((((6, h.transaction), h.epoid), h.total), h.checksum), h.place), part) in
    let r = row_reads 6 part_row is_part_row part_made part_of part_read_so p (item_bytes (item.Part h part)) _
    (((((((omega arith, refl), is.0.transaction), is.0.epoid), is.0.total), is.0.checksum), is.0.place), is.1) (sym (part_spelled_so p refl)) refl refl in
    rw r.0 r.1

-- ---- an order: its own bytes are read where the item's fields are there

abbrev OrderParts : Type 0
OrderParts = ((ℕ × ℕ) × List ℕ) × List ℕ

abbrev order_row : Row OrderParts
order_row = kind_row 4 & number8 & text 280 & text 1000000

is_order_row : IsRow order_row
is_order_row = and_row (and_row (and_row (is_kind_row 4) number8_row) (text_row 280 (omega arith))) (text_row 1000000 (omega arith))

abbrev order_made : OrderParts → Result Item ℕ
order_made p = order_within p.0.1 >>= λ order. Ok (item.Ordered p.0.0.1 order p.1)

order_read_so : (bytes : List ℕ) → behind_kind 4 bytes (ordered_of bytes) ≡ whole order_row Item bytes order_made
unfolding ordered_of
order_read_so bytes = refl

order_spelled_so : (p : OrderParts) → p.0.0.0 ≡ 4 → order_row.spelled p ≡ ordered_bytes p.0.0.1 p.0.1 p.1
unfolding ordered_front
order_spelled_so p one =
    let front : List ℕ = (4 ∷ []) ++ be8 p.0.0.1 ++ sized p.0.1 in
    rw one (sym (append_assoc front (be4 (length p.1)) p.1))

order_bytes_are : (p : OrderParts) (bytes : List ℕ) → AreBytes bytes → bytes ≡ order_row.spelled p → AreBytes p.0.1
order_bytes_are p bytes are same =
    let front : List ℕ = (p.0.0.0 ∷ []) ++ be8 p.0.0.1 in
    let both : List ℕ = front ++ sized p.0.1 in
    let first : AreBytes both =
    subst AreBytes (ap (take (length both)) same ∙ take_at both (sized p.1) (length both) refl) (AreBytes-take (length both) bytes are) in
    let second : AreBytes (sized p.0.1) = subst AreBytes (drop_at front (sized p.0.1) (length front) refl) (AreBytes-drop (length front) both first) in
    subst AreBytes (drop_at (be4 (length p.0.1)) p.0.1 (length (be4 (length p.0.1))) refl) (AreBytes-drop (length (be4 (length p.0.1))) (sized p.0.1) second)

order_found : (kind : ℕ) (bytes : List ℕ) (x : Item) → AreBytes bytes → or_place (u8_at bytes 0) ≡ Ok kind → (kind == 4) ≡ true → ordered_of bytes ≡ Ok x → Spelled bytes x
order_found kind bytes x are read is e =
    let w = whole_found order_row is_order_row Item bytes order_made x are (sym (order_read_so bytes) ∙ of_kind_read 4 kind bytes (ordered_of bytes) read is ∙ e) in
    let p : OrderParts = w.0 in
    let b = bind_found (order_within p.0.1) (λ order. Ok (item.Ordered p.0.0.1 order p.1)) x w.3 in
    let o = order_spells_back p.0.1 b.0 (order_bytes_are p bytes are w.2) (placed_found 13 (order_of p.0.1) b.0 b.1) in
    let same : bytes ≡ ordered_bytes p.0.0.1 (order_bytes b.0) p.1 =
    w.2 ∙ order_spelled_so p (kind_is 4 p.0.0.0 w.1.0.0.0.1) ∙ ap (λ (t : List ℕ). ordered_bytes p.0.0.1 t p.1) o.1 in
    subst (Spelled bytes) (ok_is (item.Ordered p.0.0.1 b.0 p.1) x b.2) ((w.1.0.0.1, o.0, w.1.1), same)

order_reads : (t : ℕ) (o : Order) (part : List ℕ) → IsItem (item.Ordered t o part) → item_of (item_bytes (item.Ordered t o part)) ≡ Ok (item.Ordered t o part)
unfolding item_of
order_reads t o part is =
    let p : OrderParts = (((4, t), order_bytes o), part) in
    let bytes : List ℕ = item_bytes (item.Ordered t o part) in
    let short : length (order_bytes o) ≤ 280 = omega (arith, lengths.0 o is.1, is.1.hidden) in
    let same : bytes ≡ order_row.spelled p = sym (order_spelled_so p refl) in
    let first : or_place (u8_at bytes 0) ≡ Ok 4 = ap (λ (b : List ℕ). or_place (u8_at b 0)) same ∙ first_byte 4 _ in
    rw first (sym (of_kind_read 4 4 bytes (ordered_of bytes) first refl) ∙ order_read_so bytes
    ∙ whole_reads order_row is_order_row Item bytes order_made p ((((omega arith, refl), is.0), short), is.2) same
    ∙ ap (λ (r : Result Order ℕ). from_place 13 r >>= λ order. Ok (item.Ordered t order part)) (order_reads_back o is.1))

-- ---- an end

abbrev end_row : Row (ℕ × ℕ)
end_row = kind_row 5 & number8

is_end_row : IsRow end_row
is_end_row = and_row (is_kind_row 5) number8_row

abbrev end_made : List ℕ → ℕ × ℕ → Result Item ℕ
end_made bytes p = receipt_within (drop 9 bytes) >>= λ receipt. Ok (item.Ended p.1 receipt)

end_read_so : (bytes : List ℕ) → behind_kind 5 bytes (ended_of bytes) ≡ end_row.read Item bytes 0 (end_made bytes)
unfolding ended_of
end_read_so bytes = refl

end_spelled_so : (p : ℕ × ℕ) (s : Signed) → p.0 ≡ 5 → end_row.spelled p ++ signed_bytes s ≡ item_bytes (item.Ended p.1 s)
unfolding ended_bytes
end_spelled_so p s one = rw one refl

end_long : (p : ℕ × ℕ) → end_row.fits p → length (end_row.spelled p) ≡ 9
end_long p fits = omega (arith, is_end_row.long 0 p fits)

end_found : (kind : ℕ) (bytes : List ℕ) (x : Item) → AreBytes bytes → or_place (u8_at bytes 0) ≡ Ok kind → (kind == 5) ≡ true → ended_of bytes ≡ Ok x → Spelled bytes x
end_found kind bytes x are read is e =
    let w = is_end_row.found Item bytes 0 (end_made bytes) x are (sym (end_read_so bytes) ∙ of_kind_read 5 kind bytes (ended_of bytes) read is ∙ e) in
    let b = bind_found (receipt_within (drop 9 bytes)) (λ receipt. Ok (item.Ended w.0.1 receipt)) x w.3 in
    let s = receipt_spells_back (drop 9 bytes) b.0 (AreBytes-drop 9 bytes are) (placed_found 9 (signed_of (drop 9 bytes)) b.0 b.1) in
    let long : length (end_row.spelled w.0) ≡ 9 = end_long w.0 w.1 in
    let front : take 9 bytes ≡ end_row.spelled w.0 = ap (λ (n : ℕ). take n bytes) (sym long) ∙ w.2 in
    let same : bytes ≡ item_bytes (item.Ended w.0.1 b.0) =
    sym (take-append-drop 9 bytes) ∙ ap (λ (xs : List ℕ). xs ++ drop 9 bytes) front ∙ ap (λ (xs : List ℕ). end_row.spelled w.0 ++ xs) s.1
    ∙ end_spelled_so w.0 b.0 (kind_is 5 w.0.0 w.1.0.1) in
    subst (Spelled bytes) (ok_is (item.Ended w.0.1 b.0) x b.2) ((w.1.1, s.0), same)

end_reads : (t : ℕ) (s : Signed) → IsItem (item.Ended t s) → item_of (item_bytes (item.Ended t s)) ≡ Ok (item.Ended t s)
unfolding item_of
end_reads t s is =
    let p : ℕ × ℕ = (5, t) in
    let bytes : List ℕ = item_bytes (item.Ended t s) in
    let fits : end_row.fits p = ((omega arith, refl), is.0) in
    let long : length (end_row.spelled p) ≡ 9 = end_long p fits in
    let same : bytes ≡ end_row.spelled p ++ signed_bytes s = sym (end_spelled_so p s refl) in
    let first : or_place (u8_at bytes 0) ≡ Ok 5 = ap (λ (b : List ℕ). or_place (u8_at b 0)) same ∙ first_byte 5 _ in
    let stands : take (length (end_row.spelled p)) bytes ≡ end_row.spelled p = ap (take (length (end_row.spelled p))) same ∙ take_at (end_row.spelled p) (signed_bytes s) (length (end_row.spelled p)) refl in
    let rest : drop 9 bytes ≡ signed_bytes s = ap (drop 9) same ∙ drop_at (end_row.spelled p) (signed_bytes s) 9 long in
    rw first (sym (of_kind_read 5 5 bytes (ended_of bytes) first refl) ∙ end_read_so bytes
    ∙ is_end_row.reads Item bytes 0 (end_made bytes) p fits stands
    ∙ ap (λ (xs : List ℕ). from_place 9 (signed_of xs) >>= λ receipt. Ok (item.Ended t receipt)) rest
    ∙ ap (λ (r : Result Signed ℕ). from_place 9 r >>= λ receipt. Ok (item.Ended t receipt)) (receipt_reads_back s is.1))

-- ---- all kinds

pub item_reads_back : ItemReadsBack
item_reads_back (item.Started start) is = start_reads start is
item_reads_back (item.Granted transaction pass) is = grant_reads transaction pass is
item_reads_back (item.Wanted transaction price) is = price_reads transaction price is
item_reads_back (item.Ordered transaction order part) is = order_reads transaction order part is
item_reads_back (item.Ended transaction receipt) is = end_reads transaction receipt is
item_reads_back (item.Part head part) is = part_reads head part is
item_reads_back (item.Forgotten transaction) is = forgotten_reads transaction is

kind_found : (kind : ℕ) (bytes : List ℕ) (x : Item) → AreBytes bytes → or_place (u8_at bytes 0) ≡ Ok kind → of_kind kind bytes ≡ Ok x → Spelled bytes x
kind_found kind bytes x are read e =
    next (kind == 1) _ _ x e (λ k r. start_found kind bytes x are read k r) (λ e.
    next (kind == 2) _ _ x e (λ k r. grant_found kind bytes x are read k r) (λ e.
    next (kind == 3) _ _ x e (λ k r. price_found kind bytes x are read k r) (λ e.
    next (kind == 4) _ _ x e (λ k r. order_found kind bytes x are read k r) (λ e.
    next (kind == 5) _ _ x e (λ k r. end_found kind bytes x are read k r) (λ e.
    next (kind == 6) _ _ x e (λ k r. part_found kind bytes x are read k r) (λ e.
    next (kind == 8) _ _ x e (λ k r. forgotten_found kind bytes x are read k r) (λ e. absurd (no_item e))))))))
  where
    no_item : (let none : Result Item ℕ = Err 0 in none ≡ Ok x) → ⊥
    no_item e = cc

pub item_spells_back : ItemSpellsBack
unfolding item_of
item_spells_back bytes x are e =
    let b = bind_found (or_place (u8_at bytes 0)) (λ kind. of_kind kind bytes) x e in
    kind_found b.0 bytes x are b.1 b.2

pub one_item : OneItem
one_item a b first second same = ok_is a b (sym (item_reads_back a first) ∙ ap item_of same ∙ item_reads_back b second)

-- ---- numbers

pub item_kinds : ItemKindsAre
item_kinds = refl

start_short : (s : Start) → IsItem (item.Started s) → length (item_bytes (item.Started s)) ≤ 1000297
start_short s is =
    let p : StartParts = ((((((1, s.transaction), s.merchant.0), s.product), s.limit.0), s.request), s.memo) in
    omega (arith, is_start_row.long 0 p (((((((omega arith, refl), is.transaction), is.merchant), is.product), is.limit), is.request), is.memo), ap length (start_spelled_so p refl), is.request, is.memo)

grant_short : (t : ℕ) (pass : SessionTicket) → IsItem (item.Granted t pass) → length (item_bytes (item.Granted t pass)) ≤ 1000297
grant_short t pass is =
    let p : GrantParts = (((2, t), pass.session), pass.ticket) in
    omega (arith, is_grant_row.long 0 p ((((omega arith, refl), is.0), is.1.session), is.1.ticket), ap length (grant_spelled_so p refl), is.1.ticket)

price_short : (t : ℕ) (price : Price) → IsItem (item.Wanted t price) → length (item_bytes (item.Wanted t price)) ≤ 1000297
price_short t price is =
    omega (arith, is_price_row.long 0 ((3, t), price.0) (((omega arith, refl), is.0), is.1), ap length (price_spelled_so ((3, t), price.0) refl))

order_short : (t : ℕ) (o : Order) (part : List ℕ) → IsItem (item.Ordered t o part) → length (item_bytes (item.Ordered t o part)) ≤ 1000297
order_short t o part is =
    let p : OrderParts = (((4, t), order_bytes o), part) in
    let short : length (order_bytes o) ≤ 280 = omega (arith, lengths.0 o is.1, is.1.hidden) in
    omega (arith, is_order_row.long 0 p ((((omega arith, refl), is.0), short), is.2), ap length (order_spelled_so p refl), short, is.2)

end_short : (t : ℕ) (s : Signed) → IsItem (item.Ended t s) → length (item_bytes (item.Ended t s)) ≤ 1000297
end_short t s is =
    let p : ℕ × ℕ = (5, t) in
    omega (arith, end_long p ((omega arith, refl), is.0), ap length (end_spelled_so p s refl), length-append (end_row.spelled p) (signed_bytes s), receipt_is_as_long s is.1)

part_short : (h : GoodsHead) (part : List ℕ) → IsItem (item.Part h part) → length (item_bytes (item.Part h part)) ≤ 1000297
part_short h part is =
    let p : PartParts = ((((((6, h.transaction), h.epoid), h.total), h.checksum), h.place), part) in
    omega (arith, is_part_row.long 0 p (((((((omega arith, refl), is.0.transaction), is.0.epoid), is.0.total), is.0.checksum), is.0.place), is.1), ap length (part_spelled_so p refl), is.1)

forgotten_short : (t : ℕ) → IsItem (item.Forgotten t) → length (item_bytes (item.Forgotten t)) ≤ 1000297
forgotten_short t is = omega (arith, is_forgotten_row.long 0 (8, t) ((omega arith, refl), is), ap length (forgotten_spelled_so (8, t) refl))

pub item_is_short : ItemIsShort
item_is_short (item.Started start) is = start_short start is
item_is_short (item.Granted transaction pass) is = grant_short transaction pass is
item_is_short (item.Wanted transaction price) is = price_short transaction price is
item_is_short (item.Ordered transaction order part) is = order_short transaction order part is
item_is_short (item.Ended transaction receipt) is = end_short transaction receipt is
item_is_short (item.Part head part) is = part_short head part is
item_is_short (item.Forgotten transaction) is = forgotten_short transaction is
