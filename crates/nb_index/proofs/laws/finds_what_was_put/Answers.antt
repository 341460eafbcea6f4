use Rattle.nb_index.proofs.Keys.{found-put, put-found}
use Rattle.nb_index.proofs.laws.finds_what_was_put.Goals as goal

pub returns : goal.returns
returns c = λ ps new k v. (found-put k v ps, put-found k v ps new)
