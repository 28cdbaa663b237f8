use Rattle.std.proofs.Common.{◌≡◌, drop}
use Rattle.texts.specs.Lines.{spaced}
use Rattle.texts.proofs.Counting.{spaced_on}
use Rattle.texts.proofs.words.has_empty_word.Given as goal

abbrev pub invariant-loop-b : goal.invariant-loop-b
invariant-loop-b l = spaced_on l.empty (drop l.b-index l.line) ≡ spaced l.line
