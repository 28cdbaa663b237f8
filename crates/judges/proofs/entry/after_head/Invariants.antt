use Rattle.std.proofs.Common.{map, drop}
use Rattle.clocks.specs.Texts.{text}
use Rattle.judges.proofs.EntryHeads.{Compared}
use Rattle.judges.proofs.entry.after_head.Given as goal

abbrev pub invariant-loop-name : goal.invariant-loop-name
invariant-loop-name l = Compared l.rest l.line (map text (drop l.name-index l.names)) (map text l.names)
