use Rattle.nb_body.proofs.Layouts.{endorsed_is_as_long, query_is_as_long, enrolment_is_as_long, funding_is_as_long, price_request_is_as_long, quote_is_as_long, goods_request_is_as_long, goods_head_is_as_long, payment_request_is_as_long}
use Rattle.nb_body.proofs.laws.lengths.Goals as goal

pub returns-clause-endorsed : goal.returns-clause-endorsed
returns-clause-endorsed c = endorsed_is_as_long

pub returns-clause-query : goal.returns-clause-query
returns-clause-query c = query_is_as_long

pub returns-clause-enrolment : goal.returns-clause-enrolment
returns-clause-enrolment c = enrolment_is_as_long

pub returns-clause-funding : goal.returns-clause-funding
returns-clause-funding c = funding_is_as_long

pub returns-clause-price_request : goal.returns-clause-price_request
returns-clause-price_request c = price_request_is_as_long

pub returns-clause-quote : goal.returns-clause-quote
returns-clause-quote c = quote_is_as_long

pub returns-clause-goods_request : goal.returns-clause-goods_request
returns-clause-goods_request c = goods_request_is_as_long

pub returns-clause-goods_head : goal.returns-clause-goods_head
returns-clause-goods_head c = goods_head_is_as_long

pub returns-clause-payment_request : goal.returns-clause-payment_request
returns-clause-payment_request c = payment_request_is_as_long
