use Rattle.std.proofs.Common.{arith}
use Rattle.clocks.proofs.Names.{names-equal}
use Rattle.tables.proofs.Lawfulness.{different-later, not-different}
use Rattle.tables.proofs.limits.+all_different.Goals as goal

pub returns-then-is_none : goal.returns-then-is_none
returns-then-is_none t c =
    different-later c.args.names.now c.name-item.result c.position.result c.is_none.result (omega arith) c.name-item.is (c.position.ensures.value names-equal) c.is_none.ensures
    c.if-is_none.true c.all_different.result c.all_different.ensures

pub returns-else-is_none : goal.returns-else-is_none
returns-else-is_none t c =
    not-different c.args.names.now c.name-item.result c.position.result c.is_none.result (omega arith) c.name-item.is (c.position.ensures.value names-equal) c.is_none.ensures c.if-is_none.false
