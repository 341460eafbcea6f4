use Rattle.std.proofs.Common.{◌≡◌, ◌+◌, ◌*◌, ◌≤◌, ◌++◌, length, take}
use Rattle.std.specs.Vec.{vec_capacity}
use Rattle.nb_msgs.specs.ReplyBytes.{joined}
use Rattle.nb_msgs.specs.declared.reply.TheConstants.{REPLY_ROOM}
use Rattle.nb_msgs.proofs.draft.write_each.Given as goal

abbrev pub invariant-loop-draft : goal.invariant-loop-draft
invariant-loop-draft l = record {
  bytes : l.out.items ≡ l.initial.out.items ++ joined (take l.draft-index l.drafts);
  long : length l.out.items ≤ length l.initial.out.items + REPLY_ROOM * l.draft-index;
  room : vec_capacity l.out ≡ vec_capacity l.initial.out;
}
