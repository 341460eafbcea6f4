-- What a consumer sends.
use Rattle.std.specs.Prelude.{ℕ, List, ◌++◌, codes}
use Rattle.nb_units.specs.Fields.{be4, be8}
use Rattle.nb_units.specs.Epoid.{epoid_bytes}
use Rattle.nb_units.specs.declared.epoid.Epoid.{Epoid}
use Rattle.nb_seal.specs.Hmac.{hmac_of}
use Rattle.nb_seal.specs.Seal.{seal_of}
use Rattle.nb_body.specs.Spelling.{goods_request_bytes, payment_request_bytes}
use Rattle.nb_epo.specs.declared.order.Order.{Order}
use Rattle.nb_epo.specs.Spelling.{order_bytes}
use Rattle.nb_ticket.specs.Keys.{ask_tag}
use Rattle.nb_msgs.specs.declared.message.Message.{Message}
use Rattle.nb_msgs.specs.declared.message.Message.TheVariants as message
use Rattle.nb_wallet.specs.declared.wallet.Wallet.{Wallet}
use Rattle.nb_wallet.specs.declared.wallet.Start.{Start}
use Rattle.nb_wallet.specs.declared.item.SessionTicket.{SessionTicket}
use Rattle.nb_wallet.specs.Orders.{price_request_of_start}

-- a request for a ticket, whose nonce is the number of the purchase
abbrev pub ticket_request : Wallet → Start → Message
ticket_request w s = message.TicketAsk (record { consumer = w.id; merchant = s.merchant; nonce = s.transaction; tag = ask_tag w.key w.id s.merchant s.transaction })

-- what a price is asked for, sealed under the session key, with the ticket
abbrev pub price_request : SessionTicket → Start → Message
price_request pass s = message.PriceAsk pass.ticket (seal_of pass.session (codes "m001") (price_request_of_start s))

-- a request for the goods from a place on
abbrev pub goods_request : SessionTicket → Start → ℕ → Message
goods_request pass s place = message.GoodsAsk pass.ticket (seal_of pass.session (codes "m003") (goods_request_bytes (record { transaction = s.transaction; place = place })))

-- an order for its merchant
abbrev pub payment : SessionTicket → Start → Order → Message
payment pass s order = message.Order pass.ticket (seal_of pass.session (codes "m005") (payment_request_bytes (record { transaction = s.transaction; order = order_bytes order })))

-- the body of a status query before its tag
unfoldable pub untagged_query : Wallet → Epoid → ℕ → List ℕ
untagged_query w epoid least = be4 w.id.0 ++ epoid_bytes epoid ++ be8 least

-- a query for the status of an order, over at least so many entries
abbrev pub status_query : Wallet → Epoid → ℕ → Message
status_query w epoid least = message.StatusAsk (record { asker = w.id; epoid = epoid; least = least; tag = hmac_of w.key (codes "stat" ++ untagged_query w epoid least) })
