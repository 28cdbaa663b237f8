-- The text of distances between the events of a given list: how it is written, and how it is read line by line.
use Rattle.std.specs.Prelude.{◌≡◌, ℕ, Bool, true, ◌&&◌, List, [], ◌∷◌, ◌++◌, map, length, codes, Result, nat_le, nat_lt, slice_index, slice_index_or}
use Rattle.texts.specs.Lines.{unlines}
use Rattle.texts.specs.Numbers.{every}
use Rattle.rows.specs.Rows.{row_line, number_in, event_in}
use Rattle.rows.specs.declared.cell.Cell.{Cell}
use Rattle.rows.specs.declared.cell.Cell.TheVariants.{Number, Absent, Event}
use Rattle.rows.specs.declared.cell.RowKind.TheVariants.{Tick, Distance as Distance'}
use Rattle.formats.specs.declared.distance.Distance.{Distance}
use Rattle.formats.specs.declared.distance.DistanceStage.{DistanceStage}
use Rattle.formats.specs.declared.distance.DistanceStage.TheVariants.{TickHead, TickRows, LineHead, LineRows}
use Rattle.formats.specs.Walk.{Refusal, Line, Limits, head_step, row_step, reading}
use Rattle.formats.specs.Least.{Due, Format, Least, OneOf, head_due, row_due}
use Rattle.formats.specs.TableText.{tick_head, head_is}

-- what a distance text holds
pub record Distances : Type 0 where
  pub tick : ℕ
  pub lines : List Distance

-- Two of the n events, and a least that is not above a most of at most 250 ticks.
abbrev pub lawful_distance : ℕ → Distance → Bool
lawful_distance n d = (nat_lt d.on n && nat_lt d.since n) && (nat_le d.least d.most && nat_le d.most 250)

-- A tick of 1 to 60,000 milliseconds, and at most 16 distances.
abbrev pub lawful_distances : List (List ℕ) → Distances → Bool
lawful_distances names d =
    (nat_le 1 d.tick && nat_le d.tick 60000) && (nat_le (length d.lines) 16 && every (lawful_distance (length names)) d.lines)

-- The same between two of n events, whatever their names.
abbrev pub lawful_between : ℕ → Distances → Bool
lawful_between n d = (nat_le 1 d.tick && nat_le d.tick 60000) && (nat_le (length d.lines) 16 && every (lawful_distance n) d.lines)

-- the distances of a list that nothing was read into
abbrev pub blank_distances : Distances
blank_distances = record { tick = 1; lines = [] }

-- ---- how it is written

abbrev pub line_head : List ℕ
line_head = codes "on since least most"

abbrev pub distance_cells : Distance → List Cell
distance_cells d = Event d.on ∷ Event d.since ∷ Number d.least ∷ Number d.most ∷ []

abbrev pub distance_rows : List (List ℕ) → List Distance → List (List ℕ)
distance_rows names ds = map (λ d. row_line names (distance_cells d)) ds

-- Two sheets, with an empty line after the first.
abbrev pub distance_lines : List (List ℕ) → Distances → List (List ℕ)
distance_lines names d = tick_head ∷ row_line [] (Number d.tick ∷ []) ∷ [] ∷ line_head ∷ distance_rows names d.lines

-- Distances have one text.
abbrev pub distance_text : List (List ℕ) → Distances → List ℕ
distance_text names d = unlines (distance_lines names d)

-- ---- how it is read

-- what has been read so far, and where the next line stands
pub record DistanceParts : Type 0 where
  pub stage : DistanceStage
  pub ticks : List ℕ
  pub lines : List Distance

abbrev pub distance_start : DistanceParts
distance_start = record { stage = TickHead; ticks = []; lines = [] }

abbrev pub distances_held : DistanceParts → Distances
distances_held s = record { tick = slice_index s.ticks 0; lines = s.lines }

-- where all lines of a text of these distances have been read
abbrev pub distances_read : Distances → DistanceParts
distances_read d = record { stage = LineRows; ticks = d.tick ∷ []; lines = d.lines }

abbrev pub distance_at : DistanceParts → DistanceStage → DistanceParts
distance_at s stage = record { stage = stage; ticks = s.ticks; lines = s.lines }

abbrev pub distance_from : List Cell → Distance
distance_from cells = record {
  on = event_in (slice_index_or cells 0 Absent);
  since = event_in (slice_index_or cells 1 Absent);
  least = number_in (slice_index_or cells 2 Absent);
  most = number_in (slice_index_or cells 3 Absent);
}

abbrev pub with_distance_tick : DistanceParts → ℕ → DistanceParts
with_distance_tick s n = record { stage = TickRows; ticks = s.ticks ++ (n ∷ []); lines = s.lines }

abbrev pub with_distance : DistanceParts → Distance → DistanceParts
with_distance s d = record { stage = LineRows; ticks = s.ticks; lines = s.lines ++ (d ∷ []) }

abbrev pub distance_tick_limits : Limits
distance_tick_limits = record { least = 1; most = 1; more = 1 }

abbrev pub line_limits : Limits
line_limits = record { least = 0; most = 16; more = 0 }

abbrev pub distance_step_at : List (List ℕ) → DistanceStage → DistanceParts → Line → Result DistanceParts ℕ
distance_step_at names TickHead s l = head_step 1 (head_is tick_head l.bytes) l (distance_at s TickRows)
distance_step_at names TickRows s l =
    row_step distance_tick_limits (length s.ticks) Tick [] l (λ cells. with_distance_tick s (number_in (slice_index_or cells 0 Absent))) (distance_at s LineHead)
distance_step_at names LineHead s l = head_step 0 (head_is line_head l.bytes) l (distance_at s LineRows)
distance_step_at names LineRows s l = row_step line_limits (length s.lines) Distance' names l (λ cells. with_distance s (distance_from cells)) s

abbrev pub distance_step : List (List ℕ) → DistanceParts → Line → Result DistanceParts ℕ
distance_step names s l = distance_step_at names s.stage s l

-- The distances that a text stands for, or why it stands for none.
abbrev pub read_distances : List (List ℕ) → List ℕ → Result DistanceParts Refusal
read_distances names t = reading 32768 (distance_step names) distance_start t

-- ---- what it is refused for

abbrev pub distance_due : List (List ℕ) → DistanceStage → DistanceParts → Due
distance_due names TickHead s = head_due 1 (head_is tick_head)
distance_due names TickRows s = row_due distance_tick_limits (length s.ticks) Tick []
distance_due names LineHead s = head_due 0 (head_is line_head)
distance_due names LineRows s = row_due line_limits (length s.lines) Distance' names

abbrev pub distance_format : List (List ℕ) → Format DistanceParts
distance_format names = record { most = 32768; start = distance_start; due = λ s. distance_due names s.stage s; step = distance_step names }

-- ---- what reading promises

-- The text of lawful distances.
abbrev pub IsDistances : List (List ℕ) → List ℕ → Distances → Type 0
IsDistances names t d = (lawful_distances names d ≡ true) × (distance_text names d ≡ t)

-- The text of these distances, and of no others.
abbrev pub OnlyDistances : List (List ℕ) → List ℕ → Distances → Type 0
OnlyDistances names t d = IsDistances names t d × ((others : Distances) → IsDistances names t others → others ≡ d)

-- Exactly one of the two: the text of distances, or a text with a least fault.
abbrev pub DistancesOrFault : List (List ℕ) → List ℕ → Type 0
DistancesOrFault names t = OneOf ((d : Distances) × IsDistances names t d) ((q : Refusal) × Least (distance_format names) t q)
