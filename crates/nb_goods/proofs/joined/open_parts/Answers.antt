use Rattle.std.proofs.Common.{◌≡◌, ◌++◌, ◌∙◌, ◌≤◌, ◌<◌, List, ℕ, length, take, drop, refl, sym, subst, ap, arith}
use Rattle.std.specs.Prelude.{codes}
use Rattle.nb_seal.specs.Seal.{iv_shown}
use Rattle.nb_seal.proofs.Opening.{no_short_seal}
use Rattle.nb_goods.specs.Goods.{OpensTo, OpensToNothing, joined}
use Rattle.nb_goods.proofs.Slices.{iv_and_text, front_short, rest_short, front_all, front_whole, front_shows, written_all}
use Rattle.nb_goods.proofs.joined.open_parts.Goals as goal

pub padded-iv-requires : goal.padded-iv-requires
padded-iv-requires c = front_short 32 (joined c.args.parts.now) c.deref.result.now (c.deref.ensures.value ∙ c.in_ok-front.ensures.front)

pub open_text-requires : goal.open_text-requires
open_text-requires c = omega (arith, rest_short 32 (joined c.args.parts.now) c.deref_mut.result.now (c.deref_mut.ensures.value ∙ c.in_ok-front.ensures.text), c.requires)

pub returns-then-len-lt-SEAL : goal.returns-then-len-lt-SEAL
returns-then-len-lt-SEAL c =
    let front : c.deref.result.now ≡ c.in_ok-front.front.items = c.deref.ensures.value in
    let short : length (joined c.args.parts.now) < 32 = omega (arith, ap length (front_all 32 (joined c.args.parts.now) c.in_ok-front.front.items c.in_ok-front.ensures.front (omega (arith, ap length front, c.deref.ensures.len, c.len.ensures, c.if-len-lt-SEAL.true))), ap length front, c.deref.ensures.len, c.len.ensures, c.if-len-lt-SEAL.true) in (
      no_short_seal c.args.key.now (codes "good") (joined c.args.parts.now) short,
      c.padded-iv.ensures ∙ front_shows (joined c.args.parts.now) c.deref.result.now (front ∙ c.in_ok-front.ensures.front),
    )

-- the front and what follows it, of bytes of which there is a whole front
whole : (bytes front items iv rest text : List ℕ) (len : ℕ) → front ≡ items → items ≡ take 32 bytes → len ≡ length front → 32 ≤ len → iv ≡ iv_shown front → rest ≡ text → text ≡ drop 32 bytes
    → (iv ++ rest ≡ bytes) × (iv ≡ iv_shown bytes)
whole bytes front items iv rest text len front_is items_is len_is long iv_is rest_is text_is =
    let is : front ≡ take 32 bytes = front_is ∙ items_is in
    let shown : iv ≡ iv_shown bytes = iv_is ∙ front_shows bytes front is in
    (iv_and_text bytes iv rest (front_whole 32 bytes front is (omega (arith, len_is, long))) shown (rest_is ∙ text_is), shown)

pub returns-then-not-open_text : goal.returns-then-not-open_text
returns-then-not-open_text c =
    let is = whole (joined c.args.parts.now) c.deref.result.now _ c.padded-iv.result c.deref_mut.result.now _ c.len.result c.deref.ensures.value c.in_ok-front.ensures.front (c.len.ensures ∙ sym c.deref.ensures.len) c.if-len-lt-SEAL.false c.padded-iv.ensures c.deref_mut.ensures.value c.in_ok-front.ensures.text in (
      subst (OpensToNothing c.args.key.now) is.0 (subst (λ (key : List ℕ). OpensToNothing key (c.padded-iv.result ++ c.deref_mut.result.now)) c.new.ensures (c.open_text.ensures.refused c.if-not-open_text.true)),
      is.1,
    )

pub returns : goal.returns
returns c =
    let is = whole (joined c.args.parts.now) c.deref.result.now _ c.padded-iv.result c.deref_mut.result.now _ c.len.result c.deref.ensures.value c.in_ok-front.ensures.front (c.len.ensures ∙ sym c.deref.ensures.len) c.if-len-lt-SEAL.false c.padded-iv.ensures c.deref_mut.ensures.value c.in_ok-front.ensures.text in
    let made : c.from_vec.result ≡ c.open_text.new.text = c.from_vec.ensures ∙ written_all _ c.open_text.new.text c.in_ok-front.text.items (grind arith) (grind (arith, c.open_text.auto.text, c.deref_mut.ensures.len)) in
    subst (λ (goods : List ℕ). OpensTo c.args.key.now (joined c.args.parts.now) goods) (sym made)
    (subst (λ (bytes : List ℕ). OpensTo c.args.key.now bytes c.open_text.new.text) is.0
    (subst (λ (key : List ℕ). OpensTo key (c.padded-iv.result ++ c.deref_mut.result.now) c.open_text.new.text) c.new.ensures (c.if-not-open_text.ensures.opened refl)))
