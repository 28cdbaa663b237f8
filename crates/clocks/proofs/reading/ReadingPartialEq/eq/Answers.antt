use Rattle.clocks.proofs.Cells.{readings_decide}
use Rattle.clocks.proofs.reading.ReadingPartialEq.eq.Goals as goal

pub returns-clause-same : goal.returns-clause-same
returns-clause-same c = readings_decide c.args.self.now c.args.other.now c.is_equal.result c.is_equal.ensures
