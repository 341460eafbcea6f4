-- Spelling and reading are the two sides of one thing.
use Rattle.std.specs.Prelude.{◌≡◌, ℕ, ◌+◌, List, length, codes, Ok}
use Rattle.nb_units.specs.Frames.{AreBytes}
use Rattle.nb_epo.specs.declared.hidden.TheConstants.{HIDE_LABEL}
use Rattle.nb_epo.specs.declared.order.TheConstants.{ORDER_LABEL}
use Rattle.nb_epo.specs.declared.order.Order.{Order}
use Rattle.nb_epo.specs.declared.hidden.Hidden.{Hidden}
use Rattle.nb_epo.specs.Spelling.{IsOrder, order_bytes, IsHidden, hidden_bytes}
use Rattle.nb_epo.specs.Reading.{order_of, hidden_of}
use Rattle.nb_epo.specs.Tags.{order_tag, signed_order}

-- what was spelled of an order is read as that order
abbrev pub OrderReadsBack : Type 0
OrderReadsBack = (o : Order) → IsOrder o → order_of (order_bytes o) ≡ Ok o

-- what was read as an order is spelled as those bytes, and is within its limits
abbrev pub OrderSpellsBack : Type 0
OrderSpellsBack = (bytes : List ℕ) (o : Order) → AreBytes bytes → order_of bytes ≡ Ok o → IsOrder o × (bytes ≡ order_bytes o)

-- two orders with one spelling are one
abbrev pub OneOrder : Type 0
OneOrder = (a b : Order) → IsOrder a → IsOrder b → order_bytes a ≡ order_bytes b → a ≡ b

-- what was spelled of a hidden part is read as that hidden part
abbrev pub HiddenReadsBack : Type 0
HiddenReadsBack = (h : Hidden) → IsHidden h → hidden_of (hidden_bytes h) ≡ Ok h

-- what was read as a hidden part is spelled as those bytes, and is within its limits
abbrev pub HiddenSpellsBack : Type 0
HiddenSpellsBack = (bytes : List ℕ) (h : Hidden) → AreBytes bytes → hidden_of bytes ≡ Ok h → IsHidden h × (bytes ≡ hidden_bytes h)

-- two hidden parts with one spelling are one
abbrev pub OneHidden : Type 0
OneHidden = (a b : Hidden) → IsHidden a → IsHidden b → hidden_bytes a ≡ hidden_bytes b → a ≡ b

-- an order and a hidden part, before it is sealed, are as long as this
abbrev pub LengthsAre : Type 0
LengthsAre = ((o : Order) → IsOrder o → length (order_bytes o) ≡ 168 + length o.hidden)
    × ((h : Hidden) → IsHidden h → length (hidden_bytes h) ≡ 16 + length h.memo)

-- an order that was signed has the tag that it is tested against
abbrev pub SignedIsRight : Type 0
SignedIsRight = (key : List ℕ) (o : Order) → (signed_order key o).tag ≡ order_tag key (signed_order key o)

-- the labels in texts
abbrev pub LabelsAre : Type 0
LabelsAre = (HIDE_LABEL ≡ codes "hide") × (ORDER_LABEL ≡ codes "ordr")
