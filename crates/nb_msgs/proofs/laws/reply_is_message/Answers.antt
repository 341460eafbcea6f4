use Rattle.nb_msgs.proofs.ReplyMessages.{reply_is_message}
use Rattle.nb_msgs.proofs.laws.reply_is_message.Goals as goal

pub returns : goal.returns
returns c = reply_is_message
