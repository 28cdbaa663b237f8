-- What a reader of lines answers, about one line and about a whole text, beside what is defined.
use Rattle.std.specs.Prelude.{◌≡◌, ℕ, List, [], ◌∷◌, ◌++◌, length, Some, None, Ok, Err, Option, Result, slice_index_or}
use Rattle.rows.specs.Rows.{number_in}
use Rattle.rows.specs.declared.cell.Cell.TheVariants.{Absent}
use Rattle.rows.specs.declared.cell.RowKind.TheVariants.{Tick}
use Rattle.formats.specs.declared.fault.LineFault.{LineFault}
use Rattle.formats.specs.declared.fault.SheetFault.{SheetFault}
use Rattle.formats.specs.Faults.{Agrees, line_number, refusal}
use Rattle.formats.specs.Walk.{Refusal, Line, row_step}

-- The line is taken as defined and leaves this, or it is refused as defined, or memory was wanting.
abbrev pub Leads : {S : Type 0} → Result (Unit {0}) LineFault → S → Result S ℕ → Type 0
Leads r after d = Agrees (λ _. after) r d

-- What is defined fails with this. A fault that tells nothing is want of memory, and there may be one only where `lacks` holds.
abbrev pub FailsOr : {S E : Type 0} → Type 0 → Result S E → Option E → Type 0
FailsOr lacks d None = lacks
FailsOr lacks d (Some e) = d ≡ Err e

-- As `Leads`, where memory may be wanting only if `lacks` holds.
abbrev pub TakesLine : {S : Type 0} → Type 0 → Result (Unit {0}) LineFault → S → Result S ℕ → Type 0
TakesLine lacks (Ok _) after d = d ≡ Ok after
TakesLine lacks (Err e) after d = FailsOr lacks d (line_number e)

-- The same of a text.
abbrev pub TakesText : {S : Type 0} → Type 0 → Result (Unit {0}) SheetFault → S → Result S Refusal → Type 0
TakesText lacks (Ok _) after d = d ≡ Ok after
TakesText lacks (Err e) after d = FailsOr lacks d (refusal e)

-- The row of the tick, or the end of its sheet, which `more` sheets follow: the stage after it, and the ticks.
abbrev pub tick_step : {S : Type 0} → ℕ → S → S → List ℕ → Line → Result (S × List ℕ) ℕ
tick_step more here next ticks l =
    row_step (record { least = 1; most = 1; more = more }) (length ticks) Tick [] l (λ cells. (here, ticks ++ (number_in (slice_index_or cells 0 Absent) ∷ []))) (next, ticks)
