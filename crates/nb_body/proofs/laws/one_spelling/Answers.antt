use Rattle.nb_body.proofs.Layouts.{one_endorsed, one_query, one_enrolment, one_funding, one_price_request, one_quote, one_goods_request, one_goods_head, one_payment_request}
use Rattle.nb_body.proofs.laws.one_spelling.Goals as goal

pub returns-clause-endorsed : goal.returns-clause-endorsed
returns-clause-endorsed c = one_endorsed

pub returns-clause-query : goal.returns-clause-query
returns-clause-query c = one_query

pub returns-clause-enrolment : goal.returns-clause-enrolment
returns-clause-enrolment c = one_enrolment

pub returns-clause-funding : goal.returns-clause-funding
returns-clause-funding c = one_funding

pub returns-clause-price_request : goal.returns-clause-price_request
returns-clause-price_request c = one_price_request

pub returns-clause-quote : goal.returns-clause-quote
returns-clause-quote c = one_quote

pub returns-clause-goods_request : goal.returns-clause-goods_request
returns-clause-goods_request c = one_goods_request

pub returns-clause-goods_head : goal.returns-clause-goods_head
returns-clause-goods_head c = one_goods_head

pub returns-clause-payment_request : goal.returns-clause-payment_request
returns-clause-payment_request c = one_payment_request
