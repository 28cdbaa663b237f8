-- What is wrong with a text: each fault has its place in one order, and the refusal is the least of them all.
use Rattle.std.specs.Prelude.{◌≡◌, ℕ, zero, suc, ◌<◌, ◌≤◌, Bool, true, false, cond, not, ◌&&◌, ◌||◌, ◌⊎◌, List, [], ◌∷◌, length, Some, None, Ok, Err, Option, Result, ◌==◌, nat_le, nat_lt}
use Rattle.texts.specs.Lines.{lines, words, ended, bad_byte}
use Rattle.rows.specs.Rows.{cell_of, columns, number_in}
use Rattle.rows.specs.declared.cell.Cell.{Cell}
use Rattle.rows.specs.declared.cell.Column.{Column}
use Rattle.rows.specs.declared.cell.RowKind.{RowKind}
use Rattle.rows.specs.declared.cell.WordFault.{WordFault}
use Rattle.formats.specs.Faults.{word_number}
use Rattle.formats.specs.Walk.{Refusal, Line, Limits, empty, misspaced, lacks_sheet, line_here}

-- ---- a word

-- 5 or 6: the column does not take the word
abbrev pub cell_wrong : Result Cell WordFault → Option ℕ
cell_wrong (Ok cell) = None
cell_wrong (Err fault) = Some (word_number fault)

-- the number that a word gives the column after it to compare with
abbrev pub said_in : Result Cell WordFault → ℕ
said_in (Ok cell) = number_in cell
said_in (Err fault) = 0

-- What is wrong with word i, from 0, in its own column.
abbrev pub word_wrong : List Column → List (List ℕ) → ℕ → List (List ℕ) → ℕ → Option ℕ
word_wrong [] names before ws i = None
word_wrong (c ∷ cs) names before [] i = None
word_wrong (c ∷ cs) names before (w ∷ ws) zero = cell_wrong (cell_of c names before w)
word_wrong (c ∷ cs) names before (w ∷ ws) (suc i) = word_wrong cs names (said_in (cell_of c names before w)) ws i

-- ---- a line where it stands

-- what a line is at fault by where it stands
pub record Due : Type 0 where
  pub spacing : Line → Bool
  pub head : Line → Bool
  pub count : Line → Bool
  pub size : Line → Bool
  pub word : Line → ℕ → Option ℕ

-- A head is due, and `more` sheets follow its own; `wrong` is 4 for another head or a bad name, and 7 for a wrong number of names.
abbrev pub head_due : ℕ → (List ℕ → ℕ) → Due
head_due more wrong = record {
  spacing = misspaced;
  head = λ l. lacks_sheet more l || (wrong l.bytes == 4);
  count = λ l. (wrong l.bytes == 7);
  size = λ l. false;
  word = λ l i. None;
}

-- an empty line that ends a sheet
abbrev pub ends_sheet : Limits → Line → Bool
ends_sheet limits l = empty l.bytes && nat_lt 0 limits.more

-- A row is due, or the end of the sheet, which has `count` rows so far.
abbrev pub row_due : Limits → ℕ → RowKind → List (List ℕ) → Due
row_due limits count kind names = record {
  spacing = λ l. cond (ends_sheet limits l) false (misspaced l);
  head = lacks_sheet limits.more;
  count = λ l. cond (ends_sheet limits l) (nat_lt count limits.least) (nat_le limits.most count);
  size = λ l. cond (ends_sheet limits l) false (not (length (words l.bytes) == length (columns kind)));
  word = λ l i. cond (ends_sheet limits l) None (word_wrong (columns kind) names 0 (words l.bytes) i);
}

-- The faults of a line in their order: spacing, head, count, the number of words, and the words from the left.
abbrev pub LineWrong : Due → Line → ℕ → ℕ → Type 0
LineWrong due l zero n = (due.spacing l ≡ true) × (n ≡ 3)
LineWrong due l (suc zero) n = (due.head l ≡ true) × (n ≡ 4)
LineWrong due l (suc (suc zero)) n = (due.count l ≡ true) × (n ≡ 7)
LineWrong due l (suc (suc (suc zero))) n = (due.size l ≡ true) × (n ≡ 5)
LineWrong due l (suc (suc (suc (suc i)))) n = due.word l i ≡ Some n

-- ---- a text

-- How a kind of text is read: its most bytes, and from each state what is due and where a line leads.
pub record Format (S : Type 0) : Type 0 where
  pub most : ℕ
  pub start : S
  pub due : S → Due
  pub step : S → Line → Result S ℕ

-- Line i of some lines, from 0, has this fault where it stands, which is where the lines before it led.
abbrev pub InLines : {S : Type 0} → Format S → Bool → S → List (List ℕ) → ℕ → ℕ → ℕ → Type 0
InLines f whole s [] i j n = ⊥
InLines f whole s (l ∷ ls) zero j n = LineWrong (f.due s) (line_here whole l ls) j n
InLines {S} f whole s (l ∷ ls) (suc i) j n = (next : S) × (f.step s (line_here whole l ls) ≡ Ok next) × InLines f whole next ls i j n

-- The faults of a text, each at its place in the order: the length, a byte, no line at all, and the lines in turn with their own order.
abbrev pub Faulty : {S : Type 0} → Format S → List ℕ → ℕ → ℕ → Refusal → Type 0
Faulty f t zero j q = (f.most < length t) × (q ≡ record { number = 1; line = 0 }) × (j ≡ 0)
Faulty f t (suc zero) j q = (bad_byte t ≡ Some q.line) × (q.number ≡ 2) × (j ≡ 0)
Faulty f t (suc (suc zero)) j q = (t ≡ []) × (q ≡ record { number = 3; line = 0 }) × (j ≡ 0)
Faulty f t (suc (suc (suc i))) j q = InLines f (ended t) f.start (lines t) i j q.number × (q.line ≡ suc i)

-- The least of all faults of a text.
pub record Least {S : Type 0} (f : Format S) (t : List ℕ) (q : Refusal) : Type 0 where
  pub place : ℕ
  pub within : ℕ
  pub fault : Faulty f t place within q
  pub least : (a j : ℕ) (p : Refusal) → Faulty f t a j p → (place < a) ⊎ ((place ≡ a) × (within ≤ j))

-- ---- what a reader answers

-- Exactly one of two.
abbrev pub OneOf : Type 0 → Type 0 → Type 0
OneOf A B = (A ⊎ B) × (A → B → ⊥)

-- Nothing is written so, and this is the least fault; where memory was wanting, nothing is said.
abbrev pub Refused : {S X : Type 0} → Format S → List ℕ → (X → Type 0) → Option Refusal → Type 0
Refused f t Written None = Unit {0}
Refused {X = X} f t Written (Some q) = Least f t q × ((x : X) → Written x → ⊥)
