-- The number and the line of every fault, and how an answer agrees with what is defined.
use Rattle.std.specs.Prelude.{◌≡◌, ℕ, Some, None, Ok, Err, Option, Result}
use Rattle.std.specs.Option.{option_map}
use Rattle.texts.specs.Faults.{text_number, text_line}
use Rattle.rows.specs.declared.cell.WordFault.{WordFault}
use Rattle.rows.specs.declared.cell.WordFault.TheVariants.{Misfit, OutOfRange}
use Rattle.formats.specs.declared.fault.Refusal.{Refusal as Told}
use Rattle.formats.specs.declared.fault.SheetFault.{SheetFault}
use Rattle.formats.specs.declared.fault.SheetFault.TheVariants as sheet
use Rattle.formats.specs.declared.fault.LineFault.{LineFault}
use Rattle.formats.specs.declared.fault.LineFault.TheVariants as line
use Rattle.formats.specs.declared.line.TextLine.{TextLine}
use Rattle.formats.specs.declared.line.SheetLimits.{SheetLimits}
use Rattle.formats.specs.Walk.{Refusal, Line, Limits}

-- a line and limits as the definitions have them
abbrev pub line_in : TextLine → Line
line_in l = record { bytes = l.bytes.now; last = l.last; ended = l.ended }

abbrev pub limits_in : SheetLimits → Limits
limits_in s = record { least = s.least; most = s.most; more = s.more }

-- The number of what is wrong with a line; want of memory has none.
abbrev pub line_number : LineFault → Option ℕ
line_number line.Spacing = Some 3
line_number line.Head = Some 4
line_number line.Word = Some 5
line_number line.Range = Some 6
line_number line.Count = Some 7
line_number line.Memory = None

-- what a row's words make of its line
abbrev pub row_fault : WordFault → LineFault
row_fault Misfit = line.Word
row_fault OutOfRange = line.Range

-- the number of what is wrong with a word
abbrev pub word_number : WordFault → ℕ
word_number Misfit = 5
word_number OutOfRange = 6

-- a refusal as the definitions have it
abbrev pub refusal_in : Told → Refusal
refusal_in q = record { number = q.number; line = q.line }

-- The refusal of a text that a fault tells.
abbrev pub refusal : SheetFault → Option Refusal
refusal (sheet.Text f) = Some (record { number = text_number f; line = text_line f })
refusal (sheet.Head k) = Some (record { number = 4; line = k })
refusal (sheet.Word k) = Some (record { number = 5; line = k })
refusal (sheet.Range k) = Some (record { number = 6; line = k })
refusal (sheet.Count k) = Some (record { number = 7; line = k })
refusal sheet.Memory = None

-- what is defined fails with this, where this is told at all
abbrev pub Fails : {S E : Type 0} → Result S E → Option E → Type 0
Fails d None = Unit {0}
Fails d (Some e) = d ≡ Err e

-- An answer agrees with what is defined, or its fault, of which this is told, tells nothing: memory was wanting.
abbrev pub AgreesBy : {X S F E : Type 0} → (F → Option E) → (X → S) → Result X F → Result S E → Type 0
AgreesBy told f (Ok x) d = d ≡ Ok (f x)
AgreesBy told f (Err e) d = Fails d (told e)

-- An answer about a line agrees so.
abbrev pub Agrees : {X S : Type 0} → (X → S) → Result X LineFault → Result S ℕ → Type 0
Agrees f r d = AgreesBy line_number f r d

-- The same of an answer about a text.
abbrev pub AgreesOnText : {X S : Type 0} → (X → S) → Result X SheetFault → Result S Refusal → Type 0
AgreesOnText f r d = AgreesBy refusal f r d

-- what is defined fails with this; where nothing is told, it is no answer
abbrev pub FailsAs : {S E : Type 0} → Result S E → Option E → Type 0
FailsAs d told = Some d ≡ option_map Err told
