use Rattle.std.proofs.Common.{◌++◌, [], ◌∷◌, List, ℕ, length, ap, ◌∙◌, length-append, arith}
use Rattle.nb_endorse.specs.declared.reply.Reply.TheVariants.{Refused}
use Rattle.nb_endorse.specs.Keys.{no_keys}
use Rattle.nb_msgs.specs.ReplyBytes.{reply_bytes}
use Rattle.nb_turns.specs.declared.mark.Mark.{Mark}
use Rattle.nb_session.proofs.Marking.{map_one_more, joined_one_more}
use Rattle.nb_session.proofs.answering.refuse_each.Goals as goal

pub loop-preserved : goal.loop-preserved
loop-preserved c =
    let reply : List ℕ = reply_bytes no_keys (Refused c.args.refusal) in
    record {
      marked = c.push_reserved.ensures.items ∙ ap (λ (ms : List Mark). ms ++ c.args.mark ∷ []) c.loop.invariant.marked ∙ map_one_more c.args.mark c.args.marks.now.items c.args.asks.now c.loop.counter c.loop-test.true;
      refused = c.write_reply.ensures.bytes ∙ ap (λ (bs : List ℕ). bs ++ reply) c.loop.invariant.refused ∙ joined_one_more reply c.args.out.now.items c.args.asks.now c.loop.counter c.loop-test.true;
      count = omega (arith, c.push_reserved.ensures.len);
      spare = omega (arith, c.write_reply.ensures.short, ap length c.write_reply.ensures.bytes, length-append c.loop.out.items reply);
      marks_room = omega (arith, c.push_reserved.ensures.capacity);
      out_room = omega (arith, c.write_reply.ensures.room);
    }
