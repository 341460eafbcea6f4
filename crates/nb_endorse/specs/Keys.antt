-- The keys of a reply that is neither signed nor sealed.
use Rattle.nb_endorse.specs.declared.receipt.TheConstants.{NO_KEY}
use Rattle.nb_endorse.specs.declared.reply.ReplyKeys.{ReplyKeys}

-- no key is used
abbrev pub no_keys : ReplyKeys
no_keys = record { house = NO_KEY; first = NO_KEY; second = NO_KEY }
