-- That messages read back and spell back, one kind after the other.
use Rattle.std.proofs.Common.{◌≡◌, ℕ, ◌+◌, ◌<◌, ◌≤◌, ◌^◌, Bool, true, false, cond, List, ◌++◌, length, drop, get_or, Ok, Err, Result, refl, sym, ap, subst, ◌∙◌, arith, length-append}
use Rattle.std.proofs.lemmas.Bool.{eqb-true}
use Rattle.std.specs.Prelude.{◌==◌}
use Rattle.nb_units.proofs.FrameLaws.{whole_front}
use Rattle.nb_units.proofs.Rows.{ok_is}
use Rattle.nb_units.specs.Fields.{be8, sized}
use Rattle.nb_units.specs.Frames.{AreBytes, IsFrame}
use Rattle.nb_body.proofs.Layouts.{endorsed_reads_back, endorsed_spells_back, endorsed_is_as_long, query_reads_back, query_spells_back, query_is_as_long, enrolment_reads_back, enrolment_spells_back, enrolment_is_as_long, funding_reads_back, funding_spells_back, funding_is_as_long}
use Rattle.nb_body.specs.Reading.{endorsed_of, query_of, enrolment_of, funding_of}
use Rattle.nb_ticket.proofs.Layouts.{ask_reads_back, ask_spells_back}
use Rattle.nb_ticket.specs.declared.ask.TicketAsk.{TicketAsk}
use Rattle.nb_ticket.specs.Spelling.{IsAsk, unsigned_bytes, ask_bytes}
use Rattle.nb_ticket.specs.Reading.{ask_of}
use Rattle.nb_msgs.specs.declared.message.Message.{Message}
use Rattle.nb_msgs.specs.declared.message.Message.TheVariants as message
use Rattle.nb_msgs.specs.Bodies.{IsMessage, MessageKeepsRules, kind_of, body_bytes, message_frame}
use Rattle.nb_msgs.specs.Laws.{MessageReadsBack, MessageSpellsBack, OneMessage, MessageIsFrame}
use Rattle.nb_msgs.specs.Reading.{two_texts_of, numbered_text_of, whole_of, made, message_of}
use Rattle.nb_msgs.proofs.Layouts.{two_texts_found, two_texts_read, numbered_text_found, numbered_text_read, whole_of_found, whole_of_reads, goods_found, goods_reads, done_found, done_reads, refusal_found, refusal_reads, Spelled}

-- ---- reading back

pub message_reads_back : MessageReadsBack
message_reads_back (message.PriceAsk ticket sealed) is = ap (made (λ p. message.PriceAsk p.0 p.1)) (two_texts_read 80 112 ticket sealed (omega arith) (omega arith) is.0 is.1)
message_reads_back (message.Quote transaction sealed) is = ap (made (λ p. message.Quote p.0 p.1)) (numbered_text_read 52 transaction sealed (omega arith) is.0 is.1)
message_reads_back (message.GoodsAsk ticket sealed) is = ap (made (λ p. message.GoodsAsk p.0 p.1)) (two_texts_read 80 48 ticket sealed (omega arith) (omega arith) is.0 is.1)
message_reads_back (message.Goods transaction head part) is = goods_reads transaction head part is
message_reads_back (message.Order ticket sealed) is = ap (made (λ p. message.Order p.0 p.1)) (two_texts_read 80 324 ticket sealed (omega arith) (omega arith) is.0 is.1)
message_reads_back (message.Endorsed merchant sealed) is = ap (made (λ o. message.Endorsed o.merchant o.sealed)) (endorsed_reads_back (record { merchant = merchant; sealed = sealed }) is)
message_reads_back (message.Result merchant consumer) is = ap (made (λ p. message.Result p.0 p.1)) (two_texts_read 167 167 merchant consumer (omega arith) (omega arith) is.0 is.1)
message_reads_back (message.Passed transaction part) is = ap (made (λ p. message.Passed p.0 p.1)) (numbered_text_read 167 transaction part (omega arith) is.0 is.1)
message_reads_back (message.StatusAsk query) is = ap (made message.StatusAsk) (query_reads_back query is)
message_reads_back (message.Status sealed) is = ap (made message.Status) (whole_of_reads 192 sealed is)
message_reads_back (message.TicketAsk ask) is = ap (made message.TicketAsk) (ask_reads_back ask is)
message_reads_back (message.Grant sealed) is = ap (made message.Grant) (whole_of_reads 168 sealed is)
message_reads_back (message.Enrol enrolment) is = ap (made message.Enrol) (enrolment_reads_back enrolment is)
message_reads_back (message.Fund funding) is = ap (made message.Fund) (funding_reads_back funding is)
message_reads_back (message.Done acct at balance) is = done_reads ((acct.0, at), balance) ((is.0, is.1), is.2)
message_reads_back (message.Refusal refusal) is = refusal_reads (((refusal.code, refusal.a), refusal.b), refusal.x) (((is.code, is.a), is.b), is.x)

-- ---- spelling back

-- what was made of a value was made of what was read
made_found : {A : Type 0} (f : A → Message) (r : Result A ℕ) (m : Message) → made f r ≡ Ok m → (x : A) × (r ≡ Ok x) × (f x ≡ m)
made_found f (Ok x) m e = (x, refl, ok_is (f x) m e)
made_found f (Err place) m e = absurd cc

two_found : (kind most_first most_second : ℕ) (f : List ℕ × List ℕ → Message) (body : List ℕ) (m : Message) → most_first < 2 ^ 32 → most_second < 2 ^ 32 → AreBytes body
    → ((p : List ℕ × List ℕ) → (length p.0 ≤ most_first) × (length p.1 ≤ most_second) → body ≡ sized p.0 ++ sized p.1 → Spelled kind body (f p))
    → made f (two_texts_of most_first most_second body) ≡ Ok m → Spelled kind body m
two_found kind most_first most_second f body m first second are is e =
    let w = made_found f (two_texts_of most_first most_second body) m e in
    let t = two_texts_found most_first most_second body w.0 first second are w.1 in
    subst (Spelled kind body) w.2 (is w.0 t.0 t.1)

numbered_found : (kind most : ℕ) (f : ℕ × List ℕ → Message) (body : List ℕ) (m : Message) → most < 2 ^ 32 → AreBytes body
    → ((p : ℕ × List ℕ) → (p.0 < 2 ^ 64) × (length p.1 ≤ most) → body ≡ be8 p.0 ++ sized p.1 → Spelled kind body (f p))
    → made f (numbered_text_of most body) ≡ Ok m → Spelled kind body m
numbered_found kind most f body m limit are is e =
    let w = made_found f (numbered_text_of most body) m e in
    let t = numbered_text_found most body w.0 limit are w.1 in
    subst (Spelled kind body) w.2 (is w.0 t.0 t.1)

sealed_found : (kind most : ℕ) (f : List ℕ → Message) (body : List ℕ) (m : Message)
    → ((sealed : List ℕ) → length sealed ≤ most → body ≡ sealed → Spelled kind body (f sealed)) → made f (whole_of most body) ≡ Ok m → Spelled kind body m
sealed_found kind most f body m is e =
    let w = made_found f (whole_of most body) m e in
    let t = whole_of_found most body w.0 w.1 in
    subst (Spelled kind body) w.2 (is w.0 t.0 t.1)

-- of the kind that was asked for
at : (kind k : ℕ) (body : List ℕ) (m : Message) → (kind == k) ≡ true → Spelled k body m → Spelled kind body m
at kind k body m same is = subst (λ (n : ℕ). Spelled n body m) (sym (eqb-true kind k same)) is

-- one kind, or one of those behind it
next : {P : Type 0} (b : Bool) (x y : Result Message ℕ) (m : Message) → cond b x y ≡ Ok m → (b ≡ true → x ≡ Ok m → P) → (y ≡ Ok m → P) → P
next true x y m e this others = this refl e
next false x y m e this others = others e

endorsed_found : (body : List ℕ) (m : Message) → AreBytes body → made (λ o. message.Endorsed o.merchant o.sealed) (endorsed_of body) ≡ Ok m → Spelled 6 body m
endorsed_found body m are e =
    let w = made_found (λ o. message.Endorsed o.merchant o.sealed) (endorsed_of body) m e in
    let b = endorsed_spells_back body w.0 are w.1 in
    subst (Spelled 6 body) w.2 (b.0, refl, b.1)

query_found : (body : List ℕ) (m : Message) → AreBytes body → made message.StatusAsk (query_of body) ≡ Ok m → Spelled 9 body m
query_found body m are e =
    let w = made_found message.StatusAsk (query_of body) m e in
    let b = query_spells_back body w.0 are w.1 in
    subst (Spelled 9 body) w.2 (b.0, refl, b.1)

ask_found : (body : List ℕ) (m : Message) → AreBytes body → made message.TicketAsk (ask_of body) ≡ Ok m → Spelled 11 body m
ask_found body m are e =
    let w = made_found message.TicketAsk (ask_of body) m e in
    let b = ask_spells_back body w.0 are w.1 in
    subst (Spelled 11 body) w.2 (b.0, refl, b.1)

enrolment_found : (body : List ℕ) (m : Message) → AreBytes body → made message.Enrol (enrolment_of body) ≡ Ok m → Spelled 13 body m
enrolment_found body m are e =
    let w = made_found message.Enrol (enrolment_of body) m e in
    let b = enrolment_spells_back body w.0 are w.1 in
    subst (Spelled 13 body) w.2 (b.0, refl, b.1)

funding_found : (body : List ℕ) (m : Message) → AreBytes body → made message.Fund (funding_of body) ≡ Ok m → Spelled 14 body m
funding_found body m are e =
    let w = made_found message.Fund (funding_of body) m e in
    let b = funding_spells_back body w.0 are w.1 in
    subst (Spelled 14 body) w.2 (b.0, refl, b.1)

pub message_spells_back : MessageSpellsBack
message_spells_back kind body m are e =
    next (kind == 1) _ _ m e (λ k r. at kind 1 body m k (two_found 1 80 112 (λ p. message.PriceAsk p.0 p.1) body m (omega arith) (omega arith) are (λ p fits same. (fits, refl, same)) r)) (λ e.
    next (kind == 2) _ _ m e (λ k r. at kind 2 body m k (numbered_found 2 52 (λ p. message.Quote p.0 p.1) body m (omega arith) are (λ p fits same. (fits, refl, same)) r)) (λ e.
    next (kind == 3) _ _ m e (λ k r. at kind 3 body m k (two_found 3 80 48 (λ p. message.GoodsAsk p.0 p.1) body m (omega arith) (omega arith) are (λ p fits same. (fits, refl, same)) r)) (λ e.
    next (kind == 4) _ _ m e (λ k r. at kind 4 body m k (goods_found body m are r)) (λ e.
    next (kind == 5) _ _ m e (λ k r. at kind 5 body m k (two_found 5 80 324 (λ p. message.Order p.0 p.1) body m (omega arith) (omega arith) are (λ p fits same. (fits, refl, same)) r)) (λ e.
    next (kind == 6) _ _ m e (λ k r. at kind 6 body m k (endorsed_found body m are r)) (λ e.
    next (kind == 7) _ _ m e (λ k r. at kind 7 body m k (two_found 7 167 167 (λ p. message.Result p.0 p.1) body m (omega arith) (omega arith) are (λ p fits same. (fits, refl, same)) r)) (λ e.
    next (kind == 8) _ _ m e (λ k r. at kind 8 body m k (numbered_found 8 167 (λ p. message.Passed p.0 p.1) body m (omega arith) are (λ p fits same. (fits, refl, same)) r)) (λ e.
    next (kind == 9) _ _ m e (λ k r. at kind 9 body m k (query_found body m are r)) (λ e.
    next (kind == 10) _ _ m e (λ k r. at kind 10 body m k (sealed_found 10 192 message.Status body m (λ sealed short same. (short, refl, same)) r)) (λ e.
    next (kind == 11) _ _ m e (λ k r. at kind 11 body m k (ask_found body m are r)) (λ e.
    next (kind == 12) _ _ m e (λ k r. at kind 12 body m k (sealed_found 12 168 message.Grant body m (λ sealed short same. (short, refl, same)) r)) (λ e.
    next (kind == 13) _ _ m e (λ k r. at kind 13 body m k (enrolment_found body m are r)) (λ e.
    next (kind == 14) _ _ m e (λ k r. at kind 14 body m k (funding_found body m are r)) (λ e.
    next (kind == 15) _ _ m e (λ k r. at kind 15 body m k (done_found body m are r)) (λ e.
    next (kind == 16) _ _ m e (λ k r. at kind 16 body m k (refusal_found body m are r)) (λ e.
    absurd (never e)))))))))))))))))
  where
    never : (let none : Result Message ℕ = Err 0 in none) ≡ Ok m → ⊥
    never e = cc

-- ---- frames

pub one_message : OneMessage
one_message a b first second same =
    let kind : kind_of a ≡ kind_of b = ap (λ xs. get_or xs 3 0) same in
    let body : body_bytes a ≡ body_bytes b = ap (drop 8) same in
    ok_is a b (sym (message_reads_back a first) ∙ ap (λ (k : ℕ). message_of k (body_bytes a)) kind ∙ ap (message_of (kind_of b)) body ∙ message_reads_back b second)

length_two : (a b : List ℕ) → length (sized a ++ sized b) ≡ 8 + length a + length b
length_two a b = omega (arith, length-append (sized a) (sized b))

pub ask_is_as_long : (t : TicketAsk) → IsAsk t → length (ask_bytes t) ≡ 48
unfolding unsigned_bytes
ask_is_as_long t is = omega (arith, is.tag)

short : (m : Message) → IsMessage m → length (body_bytes m) ≤ 1048576
short (message.PriceAsk ticket sealed) is = omega (arith, is.0, is.1, length_two ticket sealed)
short (message.Quote transaction sealed) is = omega (arith, is.1)
short (message.GoodsAsk ticket sealed) is = omega (arith, is.0, is.1, length_two ticket sealed)
short (message.Goods transaction head part) is = omega (arith, is.1, is.2, length_two head part)
short (message.Order ticket sealed) is = omega (arith, is.0, is.1, length_two ticket sealed)
short (message.Endorsed merchant sealed) is = omega (arith, is.sealed, endorsed_is_as_long (record { merchant = merchant; sealed = sealed }) is)
short (message.Result merchant consumer) is = omega (arith, is.0, is.1, length_two merchant consumer)
short (message.Passed transaction part) is = omega (arith, is.1)
short (message.StatusAsk query) is = omega (arith, query_is_as_long query is)
short (message.Status sealed) is = omega (arith, is)
short (message.TicketAsk ask) is = omega (arith, ask_is_as_long ask is)
short (message.Grant sealed) is = omega (arith, is)
short (message.Enrol enrolment) is = omega (arith, enrolment_is_as_long enrolment is)
short (message.Fund funding) is = omega (arith, funding_is_as_long funding is)
short (message.Done acct at balance) is = omega arith
short (message.Refusal refusal) is = omega (arith, is.x)

least : (m : Message) → (1 ≤ kind_of m) × (kind_of m ≤ 16)
least (message.PriceAsk ticket sealed) = (omega arith, omega arith)
least (message.Quote transaction sealed) = (omega arith, omega arith)
least (message.GoodsAsk ticket sealed) = (omega arith, omega arith)
least (message.Goods transaction head part) = (omega arith, omega arith)
least (message.Order ticket sealed) = (omega arith, omega arith)
least (message.Endorsed merchant sealed) = (omega arith, omega arith)
least (message.Result merchant consumer) = (omega arith, omega arith)
least (message.Passed transaction part) = (omega arith, omega arith)
least (message.StatusAsk query) = (omega arith, omega arith)
least (message.Status sealed) = (omega arith, omega arith)
least (message.TicketAsk ask) = (omega arith, omega arith)
least (message.Grant sealed) = (omega arith, omega arith)
least (message.Enrol enrolment) = (omega arith, omega arith)
least (message.Fund funding) = (omega arith, omega arith)
least (message.Done acct at balance) = (omega arith, omega arith)
least (message.Refusal refusal) = (omega arith, omega arith)

pub message_is_frame : MessageIsFrame
message_is_frame m rest is =
    let frame : IsFrame (message_frame m) = ((least m).0, (least m).1, short m is) in
    (frame, whole_front (message_frame m) rest frame)

-- a message within its limits keeps the rules
pub keeps_rules : (m : Message) → IsMessage m → MessageKeepsRules m
keeps_rules (message.PriceAsk ticket sealed) is = is
keeps_rules (message.Quote transaction sealed) is = is.1
keeps_rules (message.GoodsAsk ticket sealed) is = is
keeps_rules (message.Goods transaction head part) is = (is.1, is.2)
keeps_rules (message.Order ticket sealed) is = is
keeps_rules (message.Endorsed merchant sealed) is = is.sealed
keeps_rules (message.Result merchant consumer) is = is
keeps_rules (message.Passed transaction part) is = is.1
keeps_rules (message.StatusAsk query) is = tt
keeps_rules (message.Status sealed) is = is
keeps_rules (message.TicketAsk ask) is = tt
keeps_rules (message.Grant sealed) is = is
keeps_rules (message.Enrol enrolment) is = is.role
keeps_rules (message.Fund funding) is = is.amount
keeps_rules (message.Done acct at balance) is = tt
keeps_rules (message.Refusal refusal) is = tt
