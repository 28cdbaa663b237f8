-- No kind of row has more than eleven columns. Assumes nothing.
use Rattle.std.proofs.Common.{◌≡◌, ℕ, zero, suc, ◌+◌, ◌<◌, ◌≤◌, min, List, [], ◌∷◌, ◌++◌, length, refl, ap, arith}
use Rattle.std.specs.List.{slice_get}
use Rattle.std.proofs.lemmas.List.{length-replicate}
use Rattle.rows.specs.declared.cell.Column.{Column}
use Rattle.rows.specs.declared.cell.Column.TheVariants.{Limit, NumberOrNone}
use Rattle.rows.specs.declared.cell.RowKind.{RowKind}
use Rattle.rows.specs.declared.cell.RowKind.TheVariants.{Tick, Place, Edge, Distance, Claim}
use Rattle.rows.specs.Rows.{columns}

pub columns-are-few : (kind : RowKind) → length (columns kind) ≤ 11
columns-are-few Tick = omega arith
columns-are-few (Place k) = omega arith
columns-are-few (Edge most n) = omega (arith, length-replicate (min n 8) Limit)
columns-are-few Distance = omega arith
columns-are-few (Claim n) = omega (arith, length-replicate (min n 8) NumberOrNone)

-- The columns of the events stand after the others.
pub column_before : (first rest : List Column) (place : ℕ) → place < length first → slice_get (first ++ rest) place ≡ slice_get first place
column_before [] rest place h = absurd (omega arith)
column_before (c ∷ first) rest zero h = refl
column_before (c ∷ first) rest (suc place) h = column_before first rest place (omega arith)

pub column_after : (first rest : List Column) (place event : ℕ) → length first + event ≡ place → slice_get (first ++ rest) place ≡ slice_get rest event
column_after [] rest place event is = ap (slice_get rest) (let same : place ≡ event = omega arith in same)
column_after (c ∷ first) rest zero event is = absurd (omega arith)
column_after (c ∷ first) rest (suc place) event is = column_after first rest place event (omega arith)
