use Rattle.std.proofs.Common.{rules, ◌≡◌, Some}
use Rattle.nb_script.proofs.Rows.{failed}
use Rattle.nb_script.specs.Words.{words_of}
use Rattle.nb_script.specs.Lines.{head_in, cap_in}
use Rattle.nb_script.proofs.script.read_script.Goals as goal

pub returns : goal.returns
returns c =
    let head_is : head_in (words_of c.in-Some.first.now) ≡ Some c.in-Some-head_in.head = search rules in
    let cap_is : cap_in (words_of c.in-Some-cut.second.now) ≡ Some c.in-Some-cap_in.cap = search rules in
    failed c.args.text.now c.in-Some.first.now c.in-Some.rest.now c.in-Some-head_in.head c.in-Some-cut.second.now c.in-Some-cut.rest.now c.in-Some-cap_in.cap c.in_ok-scene.scene c.read_lines.new.scene c.in-Err.fault
    c.in-Some.ensures.some head_is c.in-Some-cut.ensures.some cap_is c.in_ok-scene.ensures c.in-Err.ensures
