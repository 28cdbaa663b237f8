-- What can be wrong with a text before its lines are read: its length, a byte, or the spacing of a line. Each fault has a number, and a line.
use Rattle.std.specs.Prelude.{ℕ, cond, List, length, Some, Option, nat_lt}
use Rattle.std.specs.Option.{option_map}
use Rattle.texts.specs.declared.fault.TextFault.{TextFault}
use Rattle.texts.specs.declared.fault.TextFault.TheVariants.{TooLong, BadByte, BadSpacing}
use Rattle.texts.specs.Lines.{bad_byte}

abbrev pub text_number : TextFault → ℕ
text_number TooLong = 1
text_number (BadByte line) = 2
text_number (BadSpacing line) = 3

-- the line that the fault is in, or 0 where it is in no one line
abbrev pub text_line : TextFault → ℕ
text_line TooLong = 0
text_line (BadByte line) = line
text_line (BadSpacing line) = line

-- A text with more than the most bytes is too long, whatever they are; else the first byte that is not allowed is at fault.
abbrev pub bytes_fault : ℕ → List ℕ → Option TextFault
bytes_fault most t = cond (nat_lt most (length t)) (Some TooLong) (option_map BadByte (bad_byte t))
