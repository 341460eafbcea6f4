-- What a desk tells of what its vault answered.
use Rattle.nb_vault.specs.declared.answer.Answer.{Answer}
use Rattle.nb_vault.specs.declared.answer.Answer.TheVariants as one
use Rattle.nb_vault.specs.declared.answer.AnswerAll.{AnswerAll}
use Rattle.nb_vault.specs.declared.answer.AnswerAll.TheVariants as all
use Rattle.nb_desk.specs.declared.asked.Asked.{Asked}
use Rattle.nb_desk.specs.declared.asked.Asked.TheVariants as asked
use Rattle.nb_desk.specs.declared.asked.AskedAll.{AskedAll}
use Rattle.nb_desk.specs.declared.asked.AskedAll.TheVariants as asked_all

-- the answer to one request
abbrev pub asked_of : Answer → Asked
asked_of (one.Answered at) = asked.Served at
asked_of (one.DiskFault before after) = asked.DiskFault before after
asked_of (one.Worn faults) = asked.Worn faults

-- the answer to all requests of a turn
abbrev pub asked_all_of : AnswerAll → AskedAll
asked_all_of all.Answered = asked_all.Served
asked_all_of (all.DiskFault before after) = asked_all.DiskFault before after
asked_all_of (all.Worn faults) = asked_all.Worn faults
