use Rattle.std.proofs.Common.{◌≡◌, Err, refl, ap, subst}
use Rattle.nb_msgs.specs.Reading.{message_of, ReadsBody}
use Rattle.nb_body.specs.declared.fault.BodyFault.{BodyFault}
use Rattle.nb_msgs.specs.declared.message.Message.{Message}
use Rattle.nb_sellers.specs.Sellers.{shop_number}
use Rattle.nb_packets.proofs.Places.{stands_at, numbers_at, there_is}
use Rattle.nb_packets.proofs.Reading.{said_reads, raw_reads}
use Rattle.nb_parties.specs.Rules.{shop_hears}
use Rattle.nb_packets.proofs.Hearing.{went, stays}
use Rattle.nb_sellers.proofs.sellers.hear_at.Goals as goal

pub returns-in-Said-clause-goes : goal.returns-in-Said-clause-goes
returns-in-Said-clause-goes c =
    let read = said_reads c.packet.inside.content c.packet.inside.maker c.packet.inside.to c.args.packet.now c.in-Said.message c.packet.view_is c.in-Said.is c.packet.invariant in
    went (λ s read. shop_hears s read c.args.moment) (message_of c.args.packet.now.kind c.args.packet.now.body) c.in-Said.message c.args.each.now.items c.args.i c.index_mut.result.now c.hear.new.self c.hear.result read
    (stands_at c.args.each.now.items c.args.i c.index_mut.result.now _ c.requires.within c.index_mut.ensures.value) c.hear.ensures.goes

pub returns-in-Said-clause-numbers : goal.returns-in-Said-clause-numbers
returns-in-Said-clause-numbers c = numbers_at shop_number c.args.each.now.items c.args.i c.index_mut.result.now c.hear.new.self _ c.requires.within c.index_mut.ensures.value (ap (λ s. s.id.0) c.hear.ensures.same)

pub returns-in-Ok-clause-goes : goal.returns-in-Ok-clause-goes
returns-in-Ok-clause-goes c =
    let read = raw_reads c.packet.inside.content c.packet.inside.maker c.packet.inside.to c.args.packet.now c.in-Raw.kind c.in-Raw.body c.as_slice.result.now _ c.packet.view_is c.in-Raw.is c.as_slice.ensures c.in-Ok.ensures.reads in
    went (λ s read. shop_hears s read c.args.moment) (message_of c.args.packet.now.kind c.args.packet.now.body) c.in-Ok.message c.args.each.now.items c.args.i c.index_mut-in-Ok.result.now c.hear-did.new.self c.hear-did.result read
    (stands_at c.args.each.now.items c.args.i c.index_mut-in-Ok.result.now _ c.requires.within c.index_mut-in-Ok.ensures.value) c.hear-did.ensures.goes

pub returns-in-Ok-clause-numbers : goal.returns-in-Ok-clause-numbers
returns-in-Ok-clause-numbers c =
    numbers_at shop_number c.args.each.now.items c.args.i c.index_mut-in-Ok.result.now c.hear-did.new.self _ c.requires.within c.index_mut-in-Ok.ensures.value (ap (λ s. s.id.0) c.hear-did.ensures.same)

pub returns-in-Err-Malformed-clause-goes : goal.returns-in-Err-Malformed-clause-goes
returns-in-Err-Malformed-clause-goes c =
    let reads : message_of c.in-Raw.kind c.as_slice.result.now ≡ Err c.in-Err-Malformed.field-0-0 =
    subst (λ (f : BodyFault). ReadsBody {A = Message} (Err f) (message_of c.in-Raw.kind c.as_slice.result.now)) c.in-Err-Malformed.field-0-is c.in-Err-Malformed.ensures.reads in
    let read = raw_reads c.packet.inside.content c.packet.inside.maker c.packet.inside.to c.args.packet.now c.in-Raw.kind c.in-Raw.body c.as_slice.result.now (Err c.in-Err-Malformed.field-0-0) c.packet.view_is c.in-Raw.is c.as_slice.ensures reads in
    let there = there_is c.args.each.now.items c.args.i c.requires.within in
    (stays (λ s read. shop_hears s read c.args.moment) (λ s place. refl) (message_of c.args.packet.now.kind c.args.packet.now.body) _ c.args.each.now.items c.args.i there.0 read there.1, tt)
