use Rattle.meaning.specs.Stepping.{cap_of}
use Rattle.tables.specs.Held.{contents}
use Rattle.tables.proofs.Runs.{Walks}
use Rattle.tables.proofs.table.Table.walked.Given as goal

abbrev pub invariant-loop-pair : goal.invariant-loop-pair
invariant-loop-pair l = Walks (contents l.self) (cap_of (contents l.self).edges) l.word l.pair-index l.front.set l.front.reading.cells
