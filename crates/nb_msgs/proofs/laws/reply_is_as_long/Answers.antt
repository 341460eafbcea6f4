use Rattle.nb_msgs.proofs.ReplyMessages.{reply_is_as_long}
use Rattle.nb_msgs.proofs.laws.reply_is_as_long.Goals as goal

pub returns : goal.returns
returns c = reply_is_as_long
