use Rattle.std.proofs.Common.{arith}
use Rattle.clocks.proofs.Cells.{advanced-more, advanced-all}
use Rattle.clocks.proofs.reading.Reading.advanced.Goals as goal

pub loop-cell-preserved : goal.loop-cell-preserved
loop-cell-preserved c =
    advanced-more c.args.«cap» c.args.wait c.args.self.cells c.loop-cell.cell-items c.loop-cell.cell-index _ c.advanced_cell.result (omega arith) c.loop-cell.invariant c.advanced_cell.ensures

pub returns : goal.returns
returns c =
    advanced-all c.args.«cap» c.args.wait c.args.self.cells c.loop-cell.cell-items c.loop-cell.cell-index (omega arith) c.loop-cell.invariant
