use Rattle.std.proofs.Common.{◌≡◌, ◌≢◌, ◌<◌, length, get_or, rules}
use Rattle.nb_journal.specs.Layout.{open_gate}
use Rattle.nb_journal.proofs.Records.{none_there, shut_there, short_there, long_there, sized_there}
use Rattle.nb_journal.proofs.opening.record.lead_of.Goals as goal

pub returns-then-is_empty : goal.returns-then-is_empty
returns-then-is_empty c = λ xs is. none_there c.args.bytes.now xs (search rules) is

pub returns-then-gate : goal.returns-then-gate
returns-then-gate c =
    let some : 0 < length c.args.bytes.now = search rules in
    let shut : get_or c.args.bytes.now 0 0 ≢ open_gate = search rules in
    λ xs is. shut_there c.args.bytes.now xs some shut is

pub returns-then-word-lt-LENGTH : goal.returns-then-word-lt-LENGTH
returns-then-word-lt-LENGTH c =
    let some : 0 < length c.args.bytes.now = search rules in
    let opens : get_or c.args.bytes.now 0 0 ≡ open_gate = search rules in
    λ xs is. short_there c.args.bytes.now c.split_at.result.1.now xs some opens c.split_at.ensures.back (search rules) is

pub returns-then-len-gt-MAX_ITEM : goal.returns-then-len-gt-MAX_ITEM
returns-then-len-gt-MAX_ITEM c =
    let some : 0 < length c.args.bytes.now = search rules in
    let opens : get_or c.args.bytes.now 0 0 ≡ open_gate = search rules in
    λ xs is. long_there c.args.bytes.now c.split_at.result.1.now xs c.number-len.result some opens c.split_at.ensures.back (search rules) c.number-len.ensures.value c.if-len-gt-MAX_ITEM.true is

pub returns : goal.returns
returns c =
    let some : 0 < length c.args.bytes.now = search rules in
    let opens : get_or c.args.bytes.now 0 0 ≡ open_gate = search rules in
    (c.if-len-gt-MAX_ITEM.false, sized_there c.args.bytes.now c.split_at.result.1.now c.number-len.result some opens c.split_at.ensures.back c.number-len.ensures.spelled)
