-- How one purchase ends with a receipt, and how far it has come then and behind a quote, a part, an order and a status.
use Rattle.std.specs.Prelude.{ℕ, max, List, codes, Option, Some, None, ◌==◌, if◌then◌else◌}
use Rattle.nb_units.specs.declared.ids.Price.{Price}
use Rattle.nb_body.specs.declared.end.End.{End}
use Rattle.nb_body.specs.declared.end.End.TheVariants as end
use Rattle.nb_body.specs.declared.goods_head.GoodsHead.{GoodsHead}
use Rattle.nb_endorse.specs.declared.receipt.TheConstants.{PAID_CODE}
use Rattle.nb_endorse.specs.declared.receipt.Receipt.{Receipt}
use Rattle.nb_epo.specs.declared.order.Order.{Order}
use Rattle.nb_seal.specs.Seal.{text_in}
use Rattle.nb_wallet.specs.declared.purchase.Stage.{Stage}
use Rattle.nb_wallet.specs.declared.purchase.Stage.TheVariants as stage

-- the key of a receipt opens the sealed goods, or does not
abbrev pub end_opened : Option (List ℕ) → End
end_opened (Some goods) = end.Paid goods
end_opened None = end.Foul

-- how a purchase ends with this key, if there is one, and these sealed goods
abbrev pub end_with : Option (List ℕ) → List ℕ → End
end_with (Some key) sealed = end_opened (text_in key (codes "good") sealed)
end_with None sealed = end.Foul

-- how a purchase of these sealed goods ends with this receipt
abbrev pub end_of : Receipt → List ℕ → End
end_of r sealed = if r.code == PAID_CODE then end_with r.key sealed else end.Refused r.code

-- what is left of a purchase whose goods the key opened, or did not
abbrev pub stage_opened : List ℕ → Option (List ℕ) → Stage
stage_opened key (Some goods) = stage.Paid key
stage_opened key None = stage.Foul

-- what is left of a purchase with this key, if there is one, and these sealed goods
abbrev pub stage_with : Option (List ℕ) → List ℕ → Stage
stage_with (Some key) sealed = stage_opened key (text_in key (codes "good") sealed)
stage_with None sealed = stage.Foul

-- and what is left of it
abbrev pub stage_ended : Receipt → List ℕ → Stage
stage_ended r sealed = if r.code == PAID_CODE then stage_with r.key sealed else stage.Refused r.code

-- the stage behind a quote: the goods are wanted at this price, where it was asked for
abbrev pub wanted_from : Stage → Price → Stage
wanted_from (stage.Asked pass) price = stage.Wanted pass price None
wanted_from other price = other

-- the stage behind a part, with what was said of it, where goods are wanted
abbrev pub with_head : Stage → Option GoodsHead → Stage
with_head (stage.Wanted pass price held) head = stage.Wanted pass price head
with_head other head = other

-- the stage behind an order, where goods were wanted
abbrev pub ordered_from : Stage → Order → Stage
ordered_from (stage.Wanted pass price head) order = stage.Ordered pass order 0
ordered_from other order = other

-- with the greater of two places, where it was ordered
abbrev pub raised_from : Stage → ℕ → Stage
raised_from (stage.Ordered pass order least) place = stage.Ordered pass order (max least place)
raised_from other place = other
