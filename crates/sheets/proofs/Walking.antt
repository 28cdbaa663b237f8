-- A text is walked by the cursor, one line after the other. Assumes nothing.
use Rattle.std.proofs.Common.{◌≡◌, ℕ, suc, List, [], ◌∷◌, Ok, Option, Result, sym, ap, ◌∙◌}
use Rattle.texts.specs.Lines.{lines, ended}
use Rattle.judges.specs.declared.cursor.Lines.{Lines}
use Rattle.formats.specs.declared.line.TextLine.{TextLine}
use Rattle.judges.specs.Cursor.{whole, left, Starts, Takes}
use Rattle.formats.specs.Faults.{Fails, line_in}
use Rattle.formats.specs.Walk.{Refusal, Line, line_here, at_line, walk}
use Rattle.formats.proofs.Steps.{walk-goes, fails-through}

module _ {S : Type 0} (step : S → Line → Result S ℕ) (start : S) (t : List ℕ) where
  abbrev pub walked : Result S Refusal
  walked = walk step (ended t) start 1 (lines t)

  -- The lines before the cursor led here, from where the lines left go on; the next line has the number k.
  pub record Walking (cursor : Lines) (k : ℕ) (s : S) : Type 0 where
    pub text-is : whole cursor ≡ t
    pub on : walk step (ended t) s k (left cursor) ≡ walked

  pub begins : (cursor : Lines) → Starts t cursor → (k : ℕ) → k ≡ 1 → Walking cursor k start
  begins cursor h k one = record { text-is = h.text; on = λ i. walk step (ended t) start (one i) (h.all i) }

  module _ (from : Lines) (k : ℕ) (s : S) (w : Walking from k s) where
    pub ends : left from ≡ [] → walked ≡ Ok s
    ends h = sym w.on ∙ ap (walk step (ended t) s k) h

    module _ (to : Lines) (line : TextLine) (h : Takes from to line) where
      stands_here : line_in line ≡ line_here (ended t) line.bytes.now (left to)
      stands_here = h.stands ∙ ap (λ x. line_here (ended x) line.bytes.now (left to)) w.text-is

      on-here : walk step (ended t) s k (line.bytes.now ∷ left to) ≡ walked
      on-here = ap (walk step (ended t) s k) (sym h.here) ∙ w.on

      pub goes_on : (next : S) → step s (line_in line) ≡ Ok next → (j : ℕ) → j ≡ suc k → Walking to j next
      goes_on next g j one = record {
        text-is = h.same ∙ w.text-is;
        on = ap (λ n. walk step (ended t) next n (left to)) one
            ∙ sym (walk-goes step (ended t) s next k line.bytes.now (left to) (ap (step s) (sym stands_here) ∙ g)) ∙ on-here;
      }

      -- a fault of the line is the refusal of the text
      pub fails : (o : Option Refusal) → Fails (at_line k (step s (line_in line))) o → Fails walked o
      fails o g = fails-through step (ended t) s k line.bytes.now (left to) walked o on-here (line_in line) stands_here g
