use Rattle.std.proofs.Common.{◌≡◌, ◌++◌, ℕ, List, length, take, drop, refl, sym, ap, subst, ◌∙◌, arith, take-append-drop, length-append}
use Rattle.std.proofs.lemmas.Bool.{iff_false}
use Rattle.std.proofs.lemmas.List.{take_at, drop_at}
use Rattle.nb_price.specs.Shelf.{Item, IsItem, IsName, item_bytes}
use Rattle.nb_price.specs.Fields.{line_bytes}
use Rattle.nb_price.proofs.Lines.{item_line, free_name}
use Rattle.nb_price.proofs.line.item_of.Goals as goal

pub returns-in_err-line-clause-each : goal.returns-in_err-line-clause-each
returns-in_err-line-clause-each c x rest begins =
    absurd (c.in_err-line.ensures.each x.id x.price (length x.goods) x.name (x.goods ++ rest) begins.0.id (omega (arith, begins.0.price.1)) (omega (arith, begins.0.goods)) (free_name x.name begins.0.bytes) begins.0.name (begins.1 ∙ item_line x rest))

pub returns-then-not-is_lawful-clause-each : goal.returns-then-not-is_lawful-clause-each
returns-then-not-is_lawful-clause-each c x rest begins =
    let line = c.in_ok-line.ensures.each x.id x.price (length x.goods) x.name (x.goods ++ rest) begins.0.id (omega (arith, begins.0.price.1)) (omega (arith, begins.0.goods)) (free_name x.name begins.0.bytes) begins.0.name (begins.1 ∙ item_line x rest) in
    absurd (iff_false c.is_lawful.ensures c.if-not-is_lawful.true (omega (arith, line.1, begins.0.price.0), omega (arith, line.1, begins.0.price.1), omega (arith, line.3, begins.0.goods), subst IsName (sym line.2) begins.0.bytes))

pub returns-clause-each : goal.returns-clause-each
returns-clause-each c x rest begins =
    let line = c.in_ok-line.ensures.each x.id x.price (length x.goods) x.name (x.goods ++ rest) begins.0.id (omega (arith, begins.0.price.1)) (omega (arith, begins.0.goods)) (free_name x.name begins.0.bytes) begins.0.name (begins.1 ∙ item_line x rest) in
    let goods : c.split_at.result.0.now ≡ x.goods = c.split_at.ensures.front ∙ ap (take c.in_ok-line.line.len) line.4 ∙ take_at x.goods rest c.in_ok-line.line.len (sym line.3) in
    let behind : c.split_at.result.1.now ≡ rest = c.split_at.ensures.back ∙ ap (drop c.in_ok-line.line.len) line.4 ∙ drop_at x.goods rest c.in_ok-line.line.len (sym line.3) in
    (line.0, line.1, goods, behind)

pub returns-clause-some : goal.returns-clause-some
returns-clause-some c =
    let lawful = c.is_lawful.ensures.0 c.if-not-is_lawful.false in
    let x : Item = record { id = c.in_ok-line.line.id; price = c.in_ok-line.line.price; name = c.in_ok-line.line.name.now; goods = c.split_at.result.0.now } in
    let is : IsItem x = record {
      id = c.in_ok-line.ensures.fits;
      price = (lawful.0, lawful.1);
      name = c.in_ok-line.ensures.name.1;
      bytes = lawful.3;
      goods = omega (arith, c.split_at.ensures.front_len, lawful.2);
    } in
    let cut : c.in_ok-line.line.rest.now ≡ c.split_at.result.0.now ++ c.split_at.result.1.now =
    sym (take-append-drop c.in_ok-line.line.len c.in_ok-line.line.rest.now) ∙ rw (c.split_at.ensures.front, c.split_at.ensures.back) refl in
    let spelled : c.args.bytes.now ≡ item_bytes x ++ c.split_at.result.1.now =
    c.in_ok-line.ensures.some
    ∙ ap (λ (l : List ℕ). line_bytes x.id x.price x.name c.in_ok-line.line.len l) cut
    ∙ ap (λ (n : ℕ). line_bytes x.id x.price x.name n (x.goods ++ c.split_at.result.1.now)) (sym c.split_at.ensures.front_len)
    ∙ sym (item_line x c.split_at.result.1.now) in
    (x, (refl, refl, refl, refl), (is, spelled))

pub returns-then-line-len-clause-each : goal.returns-then-line-len-clause-each
returns-then-line-len-clause-each c x rest begins =
    let line = c.in_ok-line.ensures.each x.id x.price (length x.goods) x.name (x.goods ++ rest) begins.0.id (omega (arith, begins.0.price.1)) (omega (arith, begins.0.goods)) (free_name x.name begins.0.bytes) begins.0.name (begins.1 ∙ item_line x rest) in
    omega (arith, c.if-line-len.true, line.3, ap length line.4 ∙ length-append x.goods rest)
