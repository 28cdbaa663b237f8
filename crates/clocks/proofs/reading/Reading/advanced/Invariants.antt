use Rattle.clocks.proofs.Cells.{Advanced}
use Rattle.clocks.proofs.reading.Reading.advanced.Given as goal

abbrev pub invariant-loop-cell : goal.invariant-loop-cell
invariant-loop-cell l = Advanced l.«cap» l.wait l.initial.cell-items l.cell-items l.cell-index
