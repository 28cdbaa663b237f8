use Rattle.std.proofs.Common.{length}
use Rattle.texts.specs.Lines.{words}
use Rattle.rows.specs.Rows.{columns}
use Rattle.rows.proofs.Walks.{Read}
use Rattle.rows.proofs.line.read_words.Given as goal

abbrev pub invariant-loop-place : goal.invariant-loop-place
invariant-loop-place l = Read (columns l.kind) l.events (words l.line) (length l.yielded) l.before l.cells
