-- The text of a table: how it is written, and how it is read line by line.
use Rattle.std.specs.Prelude.{◌≡◌, ℕ, suc, ◌-◌, true, cond, ◌&&◌, List, [], ◌∷◌, ◌++◌, map, length, take, drop, replicate, Some, None, Ok, Err, codes, Option, Result, nat_le, slice_index, slice_index_or}
use Rattle.std.specs.Str.{bytes_eq}
use Rattle.meaning.specs.declared.values.Bound.TheVariants.{Any}
use Rattle.meaning.specs.declared.values.Place.{Place}
use Rattle.meaning.specs.declared.values.Edge.{Edge}
use Rattle.meaning.specs.Tables.{Contents}
use Rattle.texts.specs.Lines.{words, unlines, unwords}
use Rattle.texts.specs.Numbers.{every}
use Rattle.clocks.specs.Letters.{lawful_name}
use Rattle.tables.specs.Lawful.{different, lawful, blank}
use Rattle.rows.specs.Rows.{row_line, number_in, flag_in, event_in, bound_in}
use Rattle.rows.specs.declared.cell.Cell.{Cell}
use Rattle.rows.specs.declared.cell.Cell.TheVariants.{Number, Absent, Flag, Event, Bounded}
use Rattle.rows.specs.declared.cell.RowKind.TheVariants.{Tick, Place as Place', Edge as Edge'}
use Rattle.formats.specs.declared.stage.Stage.{Stage}
use Rattle.formats.specs.declared.stage.Stage.TheVariants.{TickHead, TickRows, PlaceHead, PlaceRows, EdgeHead, EdgeRows}
use Rattle.formats.specs.declared.fault.SheetFault.{SheetFault}
use Rattle.formats.specs.Walk.{Refusal, Line, Limits, head_step, row_step, reading}
use Rattle.formats.specs.Faults.{refusal}
use Rattle.formats.specs.Least.{Due, Format, Least, OneOf, Refused, head_due, row_due}

-- ---- how it is written

abbrev pub tick_head : List ℕ
tick_head = codes "tick"

abbrev pub place_head : List ℕ
place_head = codes "place start final"

abbrev pub edge_head : List (List ℕ) → List ℕ
edge_head names = unwords (codes "from" ∷ codes "to" ∷ codes "on" ∷ names)

abbrev pub place_cells : ℕ → Place → List Cell
place_cells k p = Number k ∷ Flag p.start ∷ Flag p.accepting ∷ []

abbrev pub place_lines : ℕ → List Place → List (List ℕ)
place_lines k [] = []
place_lines k (p ∷ ps) = row_line [] (place_cells k p) ∷ place_lines (suc k) ps

-- the bounds of the n events
abbrev pub edge_cells : ℕ → Edge → List Cell
edge_cells n e = Number e.source ∷ Number e.target ∷ Event e.event ∷ map Bounded (take n e.bounds)

abbrev pub edge_lines : List (List ℕ) → List Edge → List (List ℕ)
edge_lines names edges = map (λ e. row_line names (edge_cells (length names) e)) edges

-- Three sheets, with an empty line after the first two.
abbrev pub table_lines : Contents → List (List ℕ)
table_lines t =
    (tick_head ∷ row_line [] (Number t.tick ∷ []) ∷ [] ∷ place_head ∷ place_lines 0 t.places)
    ++ ([] ∷ edge_head t.names ∷ edge_lines t.names t.edges)

-- Every table has one text.
abbrev pub table_text : Contents → List ℕ
table_text t = unlines (table_lines t)

-- ---- how it is read

-- what has been read so far, and where the next line stands
pub record Parts : Type 0 where
  pub stage : Stage
  pub ticks : List ℕ
  pub places : List Place
  pub names : List (List ℕ)
  pub edges : List Edge

abbrev pub start : Parts
start = record { stage = TickHead; ticks = []; places = []; names = []; edges = [] }

abbrev pub held : Parts → Contents
held s = record { tick = slice_index s.ticks 0; names = s.names; places = s.places; edges = s.edges }

abbrev pub at : Parts → Stage → Parts
at s stage = record { stage = stage; ticks = s.ticks; places = s.places; names = s.names; edges = s.edges }

-- 4: another head than this one
abbrev pub head_is : List ℕ → List ℕ → ℕ
head_is head line = cond (bytes_eq line head) 0 4

-- 4: a bad name, or a name twice; then 7: no name, or over eight.
abbrev pub names_wrong : List (List ℕ) → ℕ
names_wrong names = cond (every lawful_name names && different names) (cond (nat_le 1 (length names) && nat_le (length names) 8) 0 7) 4

-- The head of the edges has three words of its own, and then the names.
abbrev pub edge_head_wrong : List (List ℕ) → ℕ
edge_head_wrong [] = 4
edge_head_wrong (a ∷ []) = 4
edge_head_wrong (a ∷ b ∷ []) = 4
edge_head_wrong (a ∷ b ∷ c ∷ names) =
    cond (bytes_eq a (codes "from") && (bytes_eq b (codes "to") && bytes_eq c (codes "on"))) (names_wrong names) 4

abbrev pub place_from : List Cell → Place
place_from cells = record { start = flag_in (slice_index_or cells 1 Absent); accepting = flag_in (slice_index_or cells 2 Absent) }

abbrev pub edge_from : ℕ → List Cell → Edge
edge_from n cells = record {
  source = number_in (slice_index_or cells 0 Absent);
  target = number_in (slice_index_or cells 1 Absent);
  event = event_in (slice_index_or cells 2 Absent);
  bounds = map bound_in (drop 3 cells) ++ replicate (8 - n) Any;
}

abbrev pub with_tick : Parts → ℕ → Parts
with_tick s n = record { stage = TickRows; ticks = s.ticks ++ (n ∷ []); places = s.places; names = s.names; edges = s.edges }

abbrev pub with_place : Parts → Place → Parts
with_place s p = record { stage = PlaceRows; ticks = s.ticks; places = s.places ++ (p ∷ []); names = s.names; edges = s.edges }

abbrev pub with_names : Parts → List (List ℕ) → Parts
with_names s names = record { stage = EdgeRows; ticks = s.ticks; places = s.places; names = names; edges = s.edges }

abbrev pub with_edge : Parts → Edge → Parts
with_edge s e = record { stage = EdgeRows; ticks = s.ticks; places = s.places; names = s.names; edges = s.edges ++ (e ∷ []) }

abbrev pub tick_limits : Limits
tick_limits = record { least = 1; most = 1; more = 2 }

-- The tick of a line among rows of ticks; none where an empty line ends the sheet.
abbrev pub tick_in : Limits → ℕ → Line → Result (Option ℕ) ℕ
tick_in limits count l = row_step limits count Tick [] l (λ cells. Some (number_in (slice_index_or cells 0 Absent))) None

-- The tick sheet has one row.
abbrev pub tick_judged : ℕ → ℕ → Line → Result (Option ℕ) ℕ
tick_judged more count l = tick_in (record { least = 1; most = 1; more = more }) count l

abbrev pub place_limits : Limits
place_limits = record { least = 1; most = 32; more = 1 }

abbrev pub edge_limits : Limits
edge_limits = record { least = 0; most = 64; more = 0 }

abbrev pub step_at : Stage → Parts → Line → Result Parts ℕ
step_at TickHead s l = head_step 2 (head_is tick_head l.bytes) l (at s TickRows)
step_at TickRows s l = row_step tick_limits (length s.ticks) Tick [] l (λ cells. with_tick s (number_in (slice_index_or cells 0 Absent))) (at s PlaceHead)
step_at PlaceHead s l = head_step 1 (head_is place_head l.bytes) l (at s PlaceRows)
step_at PlaceRows s l = row_step place_limits (length s.places) (Place' (length s.places)) [] l (λ cells. with_place s (place_from cells)) (at s EdgeHead)
step_at EdgeHead s l = head_step 0 (edge_head_wrong (words l.bytes)) l (with_names s (drop 3 (words l.bytes)))
step_at EdgeRows s l =
    row_step edge_limits (length s.edges) (Edge' (length s.places - 1) (length s.names)) s.names l (λ cells. with_edge s (edge_from (length s.names) cells)) s

abbrev pub table_step : Parts → Line → Result Parts ℕ
table_step s l = step_at s.stage s l

-- The table that a text stands for, or why it stands for none.
abbrev pub read_table : List ℕ → Result Parts Refusal
read_table t = reading 32768 table_step start t

-- ---- what it is refused for

abbrev pub due_at : Stage → Parts → Due
due_at TickHead s = head_due 2 (head_is tick_head)
due_at TickRows s = row_due tick_limits (length s.ticks) Tick []
due_at PlaceHead s = head_due 1 (head_is place_head)
due_at PlaceRows s = row_due place_limits (length s.places) (Place' (length s.places)) []
due_at EdgeHead s = head_due 0 (λ line. edge_head_wrong (words line))
due_at EdgeRows s = row_due edge_limits (length s.edges) (Edge' (length s.places - 1) (length s.names)) s.names

abbrev pub table_format : Format Parts
table_format = record { most = 32768; start = start; due = λ s. due_at s.stage s; step = table_step }

-- ---- what reading promises

-- The text of a lawful table.
abbrev pub IsTable : List ℕ → Contents → Type 0
IsTable t c = (lawful c ≡ true) × (table_text c ≡ t)

-- The text of this table, and of no other.
abbrev pub OnlyTable : List ℕ → Contents → Type 0
OnlyTable t c = IsTable t c × ((d : Contents) → IsTable t d → d ≡ c)

-- A text that is taken is that of the table; one that is refused is that of none, the refusal is its least fault, and the lent table is blank.
abbrev pub TableTaken : Result (Unit {0}) SheetFault → List ℕ → Contents → Type 0
TableTaken (Ok _) t after = OnlyTable t after
TableTaken (Err e) t after = Refused table_format t (IsTable t) (refusal e) × (after ≡ blank)

-- Exactly one of the two: the text of a table, or a text with a least fault.
abbrev pub TableOrFault : List ℕ → Type 0
TableOrFault t = OneOf ((c : Contents) × IsTable t c) ((q : Refusal) × Least table_format t q)
