use Rattle.std.proofs.Common.{◌≡◌, ◌+◌, ◌≤◌, length}
use Rattle.judges.specs.Cursor.{left}
use Rattle.sheets.proofs.Walking.{Walking}
use Rattle.sheets.proofs.reading.read_lines.Given as goal

abbrev pub invariant-loop-line : goal.invariant-loop-line
invariant-loop-line g l =
    Walking (g.R.LineReader.step l.initial.reader) (g.R.LineReader.parts l.initial.reader) l.text l.line-iterator l.line-iterator.number (g.R.LineReader.parts l.reader)
    × (g.R.LineReader.step l.reader ≡ g.R.LineReader.step l.initial.reader)
    × g.R.LineReader.Good (g.R.LineReader.parts l.reader)
    × (l.line-iterator.number + length (left l.line-iterator) ≤ 4294967295)
