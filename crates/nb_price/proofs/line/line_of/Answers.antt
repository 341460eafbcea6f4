use Rattle.std.proofs.Common.{◌∷◌, ◌++◌, sym, ◌∙◌}
use Rattle.std.specs.Fmt.{decimal}
use Rattle.nb_price.specs.Fields.{line_bytes}
use Rattle.nb_price.proofs.Splitting.{one_word}
use Rattle.nb_price.proofs.line.line_of.Goals as goal

pub returns-in_err-len-clause-each : goal.returns-in_err-len-clause-each
unfolding line_bytes
returns-in_err-len-clause-each c id price len name rest small_id small_price small_len free short e =
    let one = c.in_ok-id.ensures.each id (decimal price ++ 59 ∷ (name ++ 59 ∷ (decimal len ++ 10 ∷ rest))) small_id e in
    let two = c.in_ok-price.ensures.each price (name ++ 59 ∷ (decimal len ++ 10 ∷ rest)) small_price one.1 in
    let three = one_word 59 c.in_ok-name.name.now name c.in_ok-name.bytes.now (decimal len ++ 10 ∷ rest) c.in_ok-name.ensures.free free (sym c.in_ok-name.ensures.some ∙ two.1) in
    absurd (c.in_err-len.ensures.each len rest small_len three.1)

pub returns-clause-each : goal.returns-clause-each
unfolding line_bytes
returns-clause-each c id price len name rest small_id small_price small_len free short e =
    let one = c.in_ok-id.ensures.each id (decimal price ++ 59 ∷ (name ++ 59 ∷ (decimal len ++ 10 ∷ rest))) small_id e in
    let two = c.in_ok-price.ensures.each price (name ++ 59 ∷ (decimal len ++ 10 ∷ rest)) small_price one.1 in
    let three = one_word 59 c.in_ok-name.name.now name c.in_ok-name.bytes.now (decimal len ++ 10 ∷ rest) c.in_ok-name.ensures.free free (sym c.in_ok-name.ensures.some ∙ two.1) in
    let four = c.in_ok-len.ensures.each len rest small_len three.1 in
    (one.0, two.0, three.0, four.0, four.1)
