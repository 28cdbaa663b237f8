use Rattle.texts.proofs.Values.{Read}
use Rattle.texts.proofs.numbers.read_digits.Given as goal

abbrev pub invariant-loop-digit : goal.invariant-loop-digit
invariant-loop-digit l = Read l.digits l.digit-index l.value
