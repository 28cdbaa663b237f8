use Rattle.std.proofs.Common.{rules}
use Rattle.judges.proofs.EntryHeads.{other_name, name-same}
use Rattle.judges.proofs.entry.after_head.Goals as goal

pub returns-in_err-rest-2 : goal.returns-in_err-rest-2
returns-in_err-rest-2 c =
    let one = (rw c.in_ok-strip_prefix.was at c.strip_prefix-in-loop-name.ensures.cases) in
    let two = (rw c.in_err-rest-2.was at c.strip_prefix-in-loop-name-2.ensures.cases) in
    let e = other_name c.loop-name.rest.now c.args.line.now c.args.names.now c.loop-name.name-index c.name-item.result c.loop-name-test.true c.name-item.is c.loop-name.invariant
    c.bytes.result.now c.in_ok-strip_prefix.field-0.now c.bytes.ensures one.0 one.1 two in
    search rules

pub loop-name-preserved : goal.loop-name-preserved
loop-name-preserved c =
    let one = (rw c.in_ok-strip_prefix.was at c.strip_prefix-in-loop-name.ensures.cases) in
    let two = (rw c.in_ok-rest-2.was at c.strip_prefix-in-loop-name-2.ensures.cases) in
    name-same c.loop-name.rest.now c.args.line.now c.args.names.now c.loop-name.name-index c.name-item.result c.loop-name-test.true c.name-item.is c.loop-name.invariant
    c.bytes.result.now c.in_ok-strip_prefix.field-0.now c.bytes.ensures one.0 one.1 c.in_ok-rest-2.rest.now two.0 two.1
