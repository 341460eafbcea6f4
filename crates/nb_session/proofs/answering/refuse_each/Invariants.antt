use Rattle.std.proofs.Common.{◌≡◌, ◌≤◌, ◌+◌, ◌-◌, ◌*◌, ◌++◌, length, take}
use Rattle.std.specs.Prelude.{map, vec_capacity, vec_len}
use Rattle.std.specs.List.{flat_map}
use Rattle.nb_endorse.specs.declared.reply.Reply.TheVariants.{Refused}
use Rattle.nb_endorse.specs.Keys.{no_keys}
use Rattle.nb_msgs.specs.ReplyBytes.{reply_bytes}
use Rattle.nb_msgs.specs.declared.reply.TheConstants.{REPLY_ROOM}
use Rattle.nb_vault.specs.declared.answer.AskAt.{AskAt}
use Rattle.nb_session.proofs.answering.refuse_each.Given as goal

-- as many as were counted are marked and refused
abbrev pub invariant-loop : goal.invariant-loop
invariant-loop l = record {
  marked : l.marks.items ≡ l.fn.marks.items ++ map (λ (ask : AskAt). l.mark) (take l.counter l.asks);
  refused : l.out.items ≡ l.fn.out.items ++ flat_map (λ (ask : AskAt). reply_bytes no_keys (Refused l.refusal)) (take l.counter l.asks);
  count : vec_len l.marks ≡ vec_len l.fn.marks + l.counter;
  spare : vec_len l.out + REPLY_ROOM * (length l.asks - l.counter) ≤ vec_capacity l.out;
  marks_room : vec_capacity l.marks ≡ vec_capacity l.fn.marks;
  out_room : vec_capacity l.out ≡ vec_capacity l.fn.out;
}
