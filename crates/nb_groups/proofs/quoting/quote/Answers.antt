use Rattle.std.proofs.Common.{rules, ◌≡◌, Ok, arith}
use Rattle.nb_groups.specs.Quote.{quote_of}
use Rattle.nb_groups.proofs.Quotes.{quote_is_least}
use Rattle.nb_groups.proofs.quoting.quote.Goals as goal

pub returns-in-Ok-clause-carried : goal.returns-in-Ok-clause-carried
returns-in-Ok-clause-carried c =
    let is : quote_of c.args.c.now c.args.o.now c.args.product c.args.consumer c.args.request.now c.args.now ≡ Ok c.chosen.result = search rules in
    quote_is_least c.args.c.now c.args.o.now c.args.product c.args.consumer c.args.request.now c.args.now c.chosen.result (λ i. omega (arith, c.type_inv.request i)) c.apart.ensures is
