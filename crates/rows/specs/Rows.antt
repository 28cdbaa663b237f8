-- What the words of a row say, column by column, and how a row is written.
use Rattle.std.specs.Prelude.{ℕ, ◌+◌, ◌-◌, min, Bool, true, false, cond, ◌&&◌, List, [], ◌∷◌, ◌++◌, map, length, drop, replicate, Some, None, Ok, Err, codes, decimal, Option, Result, ◌==◌, nat_le, slice_index_or}
use Rattle.std.specs.Str.{bytes_eq}
use Rattle.meaning.specs.declared.values.Bound.{Bound}
use Rattle.meaning.specs.declared.values.Bound.TheVariants.{Any, Never, AtLeast, Between}
use Rattle.meaning.specs.Writing.{bound_word}
use Rattle.texts.specs.Numbers.{number, read_on}
use Rattle.texts.specs.Lines.{words, unwords, no_space, end_from}
use Rattle.texts.specs.Bounds.{bound_of}
use Rattle.clocks.specs.Search.{first_of}
use Rattle.tables.specs.Lawful.{lawful_bound}
use Rattle.rows.specs.declared.cell.Cell.{Cell}
use Rattle.rows.specs.declared.cell.Cell.TheVariants.{Number, Absent, Flag, Event, Bounded}
use Rattle.rows.specs.declared.cell.Column.{Column}
use Rattle.rows.specs.declared.cell.Column.TheVariants.{Within, NotBelow, YesOrNo, EventName, Limit, NumberOrNone}
use Rattle.rows.specs.declared.cell.RowKind.{RowKind}
use Rattle.rows.specs.declared.cell.RowKind.TheVariants.{Tick, Place, Edge, Distance, Claim}
use Rattle.rows.specs.declared.cell.Row.{Row}
use Rattle.rows.specs.declared.cell.WordFault.{WordFault}
use Rattle.rows.specs.declared.cell.WordFault.TheVariants.{Misfit, OutOfRange}

-- ---- one word

abbrev pub numbered : Option ℕ → (ℕ → Result Cell WordFault) → Result Cell WordFault
numbered None f = Err Misfit
numbered (Some n) f = f n

abbrev pub ranged : ℕ → ℕ → ℕ → Result Cell WordFault
ranged least most n = cond (nat_le least n && nat_le n most) (Ok (Number n)) (Err OutOfRange)

-- The shape of the whole word comes before its sizes. An empty second part is a bound without an end.
abbrev pub bounded : Option (List ℕ × List ℕ) → Result Cell WordFault
bounded None = Err Misfit
bounded (Some parts) =
    cond (length parts.1 == 0)
    (cond (nat_le (read_on 0 parts.0) 250) (Ok (Bounded (AtLeast (read_on 0 parts.0)))) (Err OutOfRange))
    (cond (nat_le (read_on 0 parts.0) (read_on 0 parts.1) && nat_le (read_on 0 parts.1) 250)
    (Ok (Bounded (Between (read_on 0 parts.0) (read_on 0 parts.1)))) (Err OutOfRange))

abbrev pub named : Option ℕ → Result Cell WordFault
named None = Err Misfit
named (Some i) = Ok (Event i)

-- The cell that a word gives in a column, for a table with these event names; `before` is the number in the cell before it.
abbrev pub cell_of : Column → List (List ℕ) → ℕ → List ℕ → Result Cell WordFault
cell_of (Within least most) names before w = numbered (number w) (ranged least most)
cell_of (NotBelow most) names before w = numbered (number w) (ranged before most)
cell_of YesOrNo names before w =
    cond (bytes_eq w (codes "yes")) (Ok (Flag true)) (cond (bytes_eq w (codes "no")) (Ok (Flag false)) (Err Misfit))
cell_of EventName names before w = named (first_of (λ name. bytes_eq name w) names)
cell_of Limit names before w =
    cond (bytes_eq w (codes "any")) (Ok (Bounded Any)) (cond (bytes_eq w (codes "none")) (Ok (Bounded Never)) (bounded (bound_of w)))
cell_of NumberOrNone names before w = cond (bytes_eq w (codes "none")) (Ok Absent) (numbered (number w) (λ n. Ok (Number n)))

-- ---- a row

abbrev pub number_in : Cell → ℕ
number_in (Number n) = n
number_in Absent = 0
number_in (Flag b) = 0
number_in (Event i) = 0
number_in (Bounded b) = 0

abbrev pub flag_in : Cell → Bool
flag_in (Number n) = false
flag_in Absent = false
flag_in (Flag b) = b
flag_in (Event i) = false
flag_in (Bounded b) = false

abbrev pub event_in : Cell → ℕ
event_in (Number n) = 0
event_in Absent = 0
event_in (Flag b) = 0
event_in (Event i) = i
event_in (Bounded b) = 0

abbrev pub bound_in : Cell → Bound
bound_in (Number n) = Any
bound_in Absent = Any
bound_in (Flag b) = Any
bound_in (Event i) = Any
bound_in (Bounded b) = b

abbrev pub claimed_in : Cell → Option ℕ
claimed_in (Number n) = Some n
claimed_in Absent = None
claimed_in (Flag b) = None
claimed_in (Event i) = None
claimed_in (Bounded b) = None

abbrev pub and_then : {X Y E : Type 0} → Result X E → (X → Result Y E) → Result Y E
and_then (Ok x) f = f x
and_then (Err e) f = Err e

-- The words from the left: the first that is at fault decides.
abbrev pub cells_of : List Column → List (List ℕ) → ℕ → List (List ℕ) → Result (List Cell) WordFault
cells_of [] names before [] = Ok []
cells_of [] names before (w ∷ ws) = Err Misfit
cells_of (c ∷ cs) names before [] = Err Misfit
cells_of (c ∷ cs) names before (w ∷ ws) =
    and_then (cell_of c names before w) (λ cell. and_then (cells_of cs names (number_in cell) ws) (λ cells. Ok (cell ∷ cells)))

abbrev pub columns : RowKind → List Column
columns Tick = Within 1 60000 ∷ []
columns (Place k) = Within k k ∷ YesOrNo ∷ YesOrNo ∷ []
columns (Edge most n) = Within 0 most ∷ Within 0 most ∷ EventName ∷ replicate (min n 8) Limit
columns Distance = EventName ∷ EventName ∷ Within 0 250 ∷ NotBelow 250 ∷ []
columns (Claim n) = Within 0 9999999999 ∷ Within 0 9999999999 ∷ replicate (min n 8) NumberOrNone

-- the words of a line from a place on; past the line's end there are none
abbrev pub words_from : List ℕ → ℕ → List (List ℕ)
words_from line from = cond (nat_le from (length line)) (words (drop from line)) []

-- The place of the first space of a line at or after `from`, or its length if there is none.
abbrev pub word_stop : List ℕ → ℕ → ℕ
word_stop line from = end_from no_space line from

-- The cells of a line: the number of its words comes before the words.
abbrev pub row_of : RowKind → List (List ℕ) → List ℕ → Result (List Cell) WordFault
row_of kind names line =
    cond (length (words line) == length (columns kind)) (cells_of (columns kind) names 0 (words line)) (Err Misfit)

-- with absent cells up to eleven
abbrev pub padded : List Cell → List Cell
padded cells = cells ++ replicate (11 - length cells) Absent

-- a row has all its cells
abbrev pub row_result : Result (List Cell) WordFault → Result Row WordFault
row_result (Ok cells) = Ok (record { cells = padded cells })
row_result (Err e) = Err e

-- ---- how it is written

abbrev pub cell_word : List (List ℕ) → Cell → List ℕ
cell_word names (Number n) = decimal n
cell_word names Absent = codes "none"
cell_word names (Flag true) = codes "yes"
cell_word names (Flag false) = codes "no"
cell_word names (Event i) = slice_index_or names i []
cell_word names (Bounded b) = bound_word b

abbrev pub row_line : List (List ℕ) → List Cell → List ℕ
row_line names cells = unwords (map (cell_word names) cells)

-- ---- which cells a column takes

abbrev pub suits : Column → List (List ℕ) → ℕ → Cell → Bool
suits (Within least most) names before (Number n) = (nat_le least n && nat_le n most) && nat_le n 9999999999
suits (Within least most) names before Absent = false
suits (Within least most) names before (Flag b) = false
suits (Within least most) names before (Event i) = false
suits (Within least most) names before (Bounded b) = false
suits (NotBelow most) names before (Number n) = (nat_le before n && nat_le n most) && nat_le n 9999999999
suits (NotBelow most) names before Absent = false
suits (NotBelow most) names before (Flag b) = false
suits (NotBelow most) names before (Event i) = false
suits (NotBelow most) names before (Bounded b) = false
suits YesOrNo names before (Number n) = false
suits YesOrNo names before Absent = false
suits YesOrNo names before (Flag b) = true
suits YesOrNo names before (Event i) = false
suits YesOrNo names before (Bounded b) = false
suits EventName names before (Number n) = false
suits EventName names before Absent = false
suits EventName names before (Flag b) = false
suits EventName names before (Event i) = nat_le (i + 1) (length names)
suits EventName names before (Bounded b) = false
suits Limit names before (Number n) = false
suits Limit names before Absent = false
suits Limit names before (Flag b) = false
suits Limit names before (Event i) = false
suits Limit names before (Bounded b) = lawful_bound b
suits NumberOrNone names before (Number n) = nat_le n 9999999999
suits NumberOrNone names before Absent = true
suits NumberOrNone names before (Flag b) = false
suits NumberOrNone names before (Event i) = false
suits NumberOrNone names before (Bounded b) = false

abbrev pub suits_all : List Column → List (List ℕ) → ℕ → List Cell → Bool
suits_all [] names before [] = true
suits_all [] names before (x ∷ cells) = false
suits_all (c ∷ cs) names before [] = false
suits_all (c ∷ cs) names before (x ∷ cells) = suits c names before x && suits_all cs names (number_in x) cells
