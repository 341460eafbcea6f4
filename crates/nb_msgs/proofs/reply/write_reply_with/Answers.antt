use Rattle.std.proofs.Common.{ℕ, List, ◌++◌, ap, sym, ◌∙◌}
use Rattle.nb_units.specs.Frames.{frame}
use Rattle.nb_units.specs.declared.frames.TheConstants.{REFUSED_REPLY}
use Rattle.nb_endorse.specs.declared.reply.Reply.{Reply}
use Rattle.nb_msgs.specs.ReplyBytes.{reply_bytes}
use Rattle.nb_msgs.proofs.reply.write_reply_with.Goals as goal

pub returns-in-Refused-clause-bytes : goal.returns-in-Refused-clause-bytes
returns-in-Refused-clause-bytes c =
    c.write_frame-in-Refused.ensures.bytes
    ∙ ap (λ (body : List ℕ). c.args.out.now.items ++ frame (record { kind = REFUSED_REPLY; body = body })) (c.as_slice-in-Refused.ensures.value ∙ c.refusal_body.ensures.bytes)
    ∙ ap (λ (reply : Reply). c.args.out.now.items ++ reply_bytes c.args.keys.now reply) (sym c.in-Refused.is)
