-- The limits of replies in numbers.
use Rattle.std.specs.Prelude.{◌≡◌}
use Rattle.nb_msgs.specs.declared.reply.TheConstants.{REPLY_ROOM, LONGEST_REPLY}

-- room for 512 bytes is asked for, and the longest reply has 350
abbrev pub ReplyLimitsAre : Type 0
ReplyLimitsAre = (REPLY_ROOM ≡ 512) × (LONGEST_REPLY ≡ 350)
