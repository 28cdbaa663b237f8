-- The row of the tick, or the end of its sheet, by what the judge of ticks told. Assumes nothing.
use Rattle.std.proofs.Common.{◌≡◌, ℕ, List, [], ◌∷◌, ◌++◌, length, get_or, Some, None, Ok, Err, Option, Result, sym, ap, subst}
use Rattle.std.specs.Option.{option_map}
use Rattle.rows.specs.Rows.{and_then, number_in}
use Rattle.rows.specs.declared.cell.Cell.TheVariants.{Absent}
use Rattle.rows.specs.declared.cell.RowKind.TheVariants.{Tick}
use Rattle.formats.specs.declared.fault.LineFault.{LineFault}
use Rattle.formats.specs.Faults.{Agrees, Fails, line_number}
use Rattle.formats.specs.TableText.{tick_judged}
use Rattle.formats.specs.Walk.{Line, row_step}
use Rattle.formats.proofs.Steps.{fails-so, row-natural}
use Rattle.formats.proofs.ReaderSteps.{tick-step-fails, tick-step-ends, tick-step-goes}
use Rattle.sheets.specs.Reading.{FailsOr, TakesLine, tick_step}

pub tick_refused : {S : Type 0} (more k : ℕ) (here next : S) (ticks : List ℕ) (l : Line) → k ≡ length ticks → (o : Option ℕ) → Some (tick_judged more k l) ≡ option_map Err o
    → Fails (tick_step more here next ticks l) o
tick_refused more k here next ticks l is o h = fails-so _ _ o h (tick-step-fails more ticks l (λ ts. (here, ts)) (next, ticks) k is)

pub tick_sheet_ends : {S : Type 0} (more k : ℕ) (here next : S) (ticks : List ℕ) (l : Line) → k ≡ length ticks → tick_judged more k l ≡ Ok None
    → tick_step more here next ticks l ≡ Ok (next, ticks)
tick_sheet_ends more k here next ticks l is h = tick-step-ends more ticks l (λ ts. (here, ts)) (next, ticks) k is h

pub tick_is_read : {S : Type 0} (more k : ℕ) (here next : S) (ticks : List ℕ) (l : Line) (v : ℕ) → k ≡ length ticks → tick_judged more k l ≡ Ok (Some v)
    → tick_step more here next ticks l ≡ Ok (here, v ∷ [])
tick_is_read more k here next ticks l v is h = tick-step-goes more ticks l (λ ts. (here, ts)) (next, ticks) k is v h

-- ---- a step that goes by what another gives

takes_on : {X S : Type 0} (on : X → S) (r : Result (Unit {0}) LineFault) (x : X) (d : Result X ℕ) → Agrees (λ _. x) r d → TakesLine (Unit {0}) r (on x) (and_then d (λ y. Ok (on y)))
takes_on on (Ok u) x d h = ap (λ e. and_then e (λ y. Ok (on y))) h
takes_on {X} {S} on (Err e) x d h = go (line_number e) h
  where
    go : (o : Option ℕ) → Fails d o → FailsOr (Unit {0}) (and_then d (λ y. Ok (on y))) o
    go None h' = tt
    go (Some n) h' = ap (λ e'. and_then e' (λ y. Ok (on y))) h'

-- The tick of a reader that holds a stage, ticks, and whatever else stays.
pub takes_tick : {X S : Type 0} (more : ℕ) (here next : X) (ticks : List ℕ) (l : Line) (on : X × List ℕ → S) (r : Result (Unit {0}) LineFault) (x : X × List ℕ)
    → Agrees (λ _. x) r (tick_step more here next ticks l)
    → TakesLine (Unit {0}) r (on x) (row_step (record { least = 1; most = 1; more = more }) (length ticks) Tick [] l (λ cells. on (here, ticks ++ (number_in (get_or cells 0 Absent) ∷ []))) (on (next, ticks)))
takes_tick more here next ticks l on r x h =
    subst (TakesLine (Unit {0}) r (on x))
    (sym (row-natural (record { least = 1; most = 1; more = more }) (length ticks) Tick [] l (λ cells. (here, ticks ++ (number_in (get_or cells 0 Absent) ∷ []))) (next, ticks) on))
    (takes_on on r x (tick_step more here next ticks l) h)
