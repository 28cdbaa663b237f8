use lib.Bits.{bit_or}
use Rattle.std.proofs.Common.{◌≡◌, drop}
use Rattle.meaning.specs.Stepping.{targets}
use Rattle.tables.proofs.table.behaving.targets_of.Given as goal

abbrev pub invariant-loop-edge : goal.invariant-loop-edge
invariant-loop-edge l =
    bit_or l.reached (targets (drop l.edge-index l.edges) l.front.set l.event l.front.reading.cells)
    ≡ targets l.edges l.front.set l.event l.front.reading.cells
