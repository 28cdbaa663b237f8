-- The lines of a text in turn: what is left of it, and how one line is taken.
use Rattle.std.specs.Prelude.{◌≡◌, ℕ, ◌+◌, ◌≤◌, min, List, [], ◌∷◌, length, drop, Some, None, Option}
use Rattle.texts.specs.Lines.{lines, ended}
use Rattle.judges.specs.declared.cursor.Lines.{Lines}
use Rattle.formats.specs.declared.line.TextLine.{TextLine}
use Rattle.formats.specs.Faults.{line_in}
use Rattle.formats.specs.Walk.{line_here}

-- the whole text
abbrev pub whole : Lines → List ℕ
whole c = c.text.now

-- the lines that are left
abbrev pub left : Lines → List (List ℕ)
left c = lines (drop c.at (whole c))

-- The line at a place of a text, with what is left after it.
pub record Here (t : List ℕ) (at number : ℕ) (line : TextLine) : Type 0 where
  pub within : at + length line.bytes.now ≤ length t
  pub here : lines (drop at t) ≡ line.bytes.now ∷ lines (drop (at + (length line.bytes.now + 1)) t)
  pub stands : line_in line ≡ line_here (ended t) line.bytes.now (lines (drop (at + (length line.bytes.now + 1)) t))
  pub numbered : line.number ≡ number

abbrev pub StandsAt : List ℕ → ℕ → ℕ → Option TextLine → Type 0
StandsAt t at number None = lines (drop at t) ≡ []
StandsAt t at number (Some line) = Here t at number line

-- At the first line, which is line 1.
pub record Starts (t : List ℕ) (c : Lines) : Type 0 where
  pub text : whole c ≡ t
  pub all : left c ≡ lines t
  pub first : c.number ≡ 1

-- The text stays, the line is the first of those left, and it stands where it stands among them.
pub record Takes (before after : Lines) (line : TextLine) : Type 0 where
  pub same : whole after ≡ whole before
  pub here : left before ≡ line.bytes.now ∷ left after
  pub stands : line_in line ≡ line_here (ended (whole before)) line.bytes.now (left after)
  pub numbered : line.number ≡ before.number
  pub counted : after.number ≡ min (before.number + 1) 4294967295

-- Nothing is left, and the cursor stays.
pub record Stops (before after : Lines) : Type 0 where
  pub none : left before ≡ []
  pub same : after ≡ before

abbrev pub Steps : Lines → Lines → Option TextLine → Type 0
Steps before after None = Stops before after
Steps before after (Some line) = Takes before after line
