-- The link that came anew is the one that the write found.
use Rattle.std.proofs.Common.{rules, inl}
use Rattle.nb_net.proofs.dial.DialLink.write_anew.Goals as goal

pub returns-in-Some-clause-anew : goal.returns-in-Some-clause-anew
returns-in-Some-clause-anew g c =
    (search rules, inl (search rules, record { link = c.go_on_over.new.self; anew = search rules; writes_it = search rules; waits = search rules }))
