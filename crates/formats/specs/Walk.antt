-- How a text is walked line by line, and what is wrong with a line where it stands.
-- A line is wrong by the first of these that applies: 3 (spacing), 4 (head, or a sheet lacks), 7 (too many or too few), 5 (number of words, or a word), 6 (range).
use Rattle.std.specs.Prelude.{ℕ, suc, Bool, true, false, cond, not, ◌&&◌, ◌||◌, List, [], ◌∷◌, length, Some, None, Ok, Err, Option, Result, ◌==◌, nat_le, nat_lt}
use Rattle.texts.specs.Lines.{lines, spaced, ended, bad_byte}
use Rattle.rows.specs.Rows.{and_then, row_of}
use Rattle.rows.specs.declared.cell.Cell.{Cell}
use Rattle.rows.specs.declared.cell.RowKind.{RowKind}
use Rattle.rows.specs.declared.cell.WordFault.{WordFault}
use Rattle.rows.specs.declared.cell.WordFault.TheVariants.{Misfit, OutOfRange}

-- a refusal: its number, and the line that it names
pub record Refusal : Type 0 where
  pub number : ℕ
  pub line : ℕ

-- ---- one line

-- A line as it stands in its text: its bytes, whether it is the last, and whether it is ended.
pub record Line : Type 0 where
  pub bytes : List ℕ
  pub last : Bool
  pub ended : Bool

abbrev pub empty : List ℕ → Bool
empty l = length l == 0

-- 3: wrong spacing, or the line is not ended.
abbrev pub misspaced : Line → Bool
misspaced l = not (spaced l.bytes && l.ended)

-- 4: this is the last line, and `more` sheets are to come.
abbrev pub lacks_sheet : ℕ → Line → Bool
lacks_sheet more l = l.last && nat_lt 0 more

-- A head, where `more` sheets follow its own: `wrong` is 4 or 7 where the head is wrong, and 0 where it is right.
abbrev pub head_step : {S : Type 0} → ℕ → ℕ → Line → S → Result S ℕ
head_step more wrong l next =
    cond (misspaced l) (Err 3) (cond (lacks_sheet more l) (Err 4) (cond (wrong == 0) (Ok next) (Err wrong)))

-- 5 and 6: the words of a row.
abbrev pub row_gives : {S : Type 0} → Result (List Cell) WordFault → (List Cell → S) → Result S ℕ
row_gives (Ok cells) next = Ok (next cells)
row_gives (Err Misfit) next = Err 5
row_gives (Err OutOfRange) next = Err 6

-- How many rows a sheet may have, and how many sheets follow it.
pub record Limits : Type 0 where
  pub least : ℕ
  pub most : ℕ
  pub more : ℕ

-- A line among the rows of a sheet that has `count` rows so far. An empty line ends the sheet if another follows.
abbrev pub row_step : {S : Type 0} → Limits → ℕ → RowKind → List (List ℕ) → Line → (List Cell → S) → S → Result S ℕ
row_step limits count kind names l next closed =
    cond (empty l.bytes && nat_lt 0 limits.more)
    (cond l.last (Err 4) (cond (nat_lt count limits.least) (Err 7) (Ok closed)))
    (cond (misspaced l) (Err 3)
    (cond (lacks_sheet limits.more l) (Err 4)
    (cond (nat_le limits.most count) (Err 7) (row_gives (row_of kind names l.bytes) next))))

-- ---- all lines in turn

abbrev pub is_nil : {X : Type 0} → List X → Bool
is_nil [] = true
is_nil (x ∷ xs) = false

-- the first of some lines, of a text that is ended or not
abbrev pub line_here : Bool → List ℕ → List (List ℕ) → Line
line_here whole l rest = record { bytes = l; last = is_nil rest; ended = not (is_nil rest) || whole }

abbrev pub at_line : {S : Type 0} → ℕ → Result S ℕ → Result S Refusal
at_line k (Ok s) = Ok s
at_line k (Err n) = Err (record { number = n; line = k })

-- From a state, with the lines from number k on: the first line that is wrong where it stands refuses the text.
abbrev pub walk : {S : Type 0} → (S → Line → Result S ℕ) → Bool → S → ℕ → List (List ℕ) → Result S Refusal
walk step whole s k [] = Ok s
walk step whole s k (l ∷ ls) = and_then (at_line k (step s (line_here whole l ls))) (λ next. walk step whole next (suc k) ls)

-- ---- the whole text

abbrev pub checked : {S : Type 0} → Option ℕ → Result S Refusal → Result S Refusal
checked None rest = rest
checked (Some k) rest = Err (record { number = 2; line = k })

-- 1 and 2 are told of the whole text, then a text without a line is 3 at line 0, then each line is judged in turn.
abbrev pub reading : {S : Type 0} → ℕ → (S → Line → Result S ℕ) → S → List ℕ → Result S Refusal
reading most step start t =
    cond (nat_lt most (length t)) (Err (record { number = 1; line = 0 }))
    (checked (bad_byte t) (cond (empty t) (Err (record { number = 3; line = 0 })) (walk step (ended t) start 1 (lines t))))
