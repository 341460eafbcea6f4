use Rattle.std.proofs.Common.{ℕ, ◌+◌, ◌++◌, codes, List, length, ap, sym, ◌∙◌}
use Rattle.nb_units.specs.declared.frames.TheConstants.{STATUS_REPLY}
use Rattle.nb_units.specs.Frames.{frame}
use Rattle.nb_seal.specs.Seal.{seal_of}
use Rattle.nb_seal.specs.declared.limits.TheConstants.{CODE_BYTES}
use Rattle.nb_msgs.specs.ReplyBytes.{told_status}
use Rattle.nb_msgs.specs.StatusText.{text_bytes}
use Rattle.nb_msgs.proofs.Framing.{sealed_framed}
use Rattle.nb_msgs.proofs.reply.write_status.Goals as goal

pub returns-clause-bytes : goal.returns-clause-bytes
returns-clause-bytes c =
    sealed_framed c.args.out.now.items c.write_header.new.out.items c.seal_spare.new.out.items c.asker.result.now _ _ _ STATUS_REPLY _ c.write_header.ensures.bytes c.seal_spare.ensures.sealed
    (c.as_slice-2.ensures.value ∙ c.spelled-text.ensures.bytes ∙ ap text_bytes c.told.ensures.told)
    (ap (λ (text : List ℕ). CODE_BYTES + length text) (c.as_slice.ensures.value ∙ sym c.as_slice-2.ensures.value))
    ∙ ap (λ (key : List ℕ). c.args.out.now.items ++ frame (record { kind = STATUS_REPLY; body = seal_of key (codes "stat") (text_bytes (told_status c.args.keys.now.house c.args.place c.args.epoid.now c.args.receipt.now)) })) c.asker.ensures
