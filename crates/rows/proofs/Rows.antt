-- A line gives the cells of a row exactly when it is how they are written, and a line that is written is well formed. Assumes nothing.
use Rattle.std.proofs.Common.{◌≡◌, ℕ, suc, ◌*◌, ◌<◌, ◌≤◌, Bool, true, false, cond, eqb, leb, List, [], ◌∷◌, map, length, Ok, Err, Result, sym, refl, ap, ◌∙◌, subst, arith}
use Rattle.std.proofs.lemmas.List.{length-map, length-append}
use Rattle.std.proofs.lemmas.Bool.{and_parts, and_from, leb-true, le-leb, eq-eqb, cond-true, false≢true}
use Rattle.texts.specs.Numbers.{every}
use Rattle.texts.specs.Lines.{allowed, lacks, filled, spaced, words, further_words, unwords}
use Rattle.texts.proofs.Pieces.{unwords-of-words, words-of-unwords}
use Rattle.clocks.specs.Letters.{lawful_name}
use Rattle.tables.specs.Lawful.{different}
use Rattle.rows.specs.declared.cell.Cell.{Cell}
use Rattle.rows.specs.declared.cell.Column.{Column}
use Rattle.rows.specs.declared.cell.RowKind.{RowKind}
use Rattle.rows.specs.declared.cell.RowKind.TheVariants.{Tick, Place, Edge, Distance, Claim}
use Rattle.rows.specs.declared.cell.WordFault.TheVariants.{Misfit}
use Rattle.rows.specs.Rows.{number_in, and_then, cell_of, cells_of, columns, row_of, cell_word, row_line, suits, suits_all}
use Rattle.rows.proofs.Outcomes.{never-ok, same-from-ok, ok-after}
use Rattle.rows.proofs.Cells.{cell-is-written, written-cell-is}
use Rattle.rows.proofs.Plain.{every_append, Plain, plain-lacks, plain-is-allowed, cell-word-is-plain}

-- ---- cells

abbrev AllWritten : List Column → List (List ℕ) → ℕ → List (List ℕ) → List Cell → Type 0
AllWritten cs names before ws cells = (ws ≡ map (cell_word names) cells) × (suits_all cs names before cells ≡ true)

pub cells-are-written : (cs : List Column) (names : List (List ℕ)) (before : ℕ) (ws : List (List ℕ)) (cells : List Cell) → cells_of cs names before ws ≡ Ok cells
    → (ws ≡ map (cell_word names) cells) × (suits_all cs names before cells ≡ true)
cells-are-written [] names before [] cells h = subst (AllWritten [] names before []) (same-from-ok [] cells h) (refl, refl)
cells-are-written [] names before (w ∷ ws) cells h = never-ok Misfit cells h
cells-are-written (c ∷ cs) names before [] cells h = never-ok Misfit cells h
cells-are-written (c ∷ cs) names before (w ∷ ws) cells h =
    let first = ok-after (cell_of c names before w) (λ cell. and_then (cells_of cs names (number_in cell) ws) (λ more. Ok (cell ∷ more))) cells h in
    let cell = first.0 in
    let others = ok-after (cells_of cs names (number_in cell) ws) (λ more. Ok (cell ∷ more)) cells first.2 in
    let one = cell-is-written c names before w cell first.1 in
    let more = cells-are-written cs names (number_in cell) ws others.0 others.1 in
    subst (AllWritten (c ∷ cs) names before (w ∷ ws)) (same-from-ok (cell ∷ others.0) cells others.2)
    (λ i. one.0 i ∷ more.0 i, and_from _ _ one.1 more.1)

pub written-cells-are : (cs : List Column) (names : List (List ℕ)) (before : ℕ) (cells : List Cell) → different names ≡ true → suits_all cs names before cells ≡ true
    → cells_of cs names before (map (cell_word names) cells) ≡ Ok cells
written-cells-are [] names before [] d h = refl
written-cells-are [] names before (x ∷ cells) d h = absurd (false≢true h)
written-cells-are (c ∷ cs) names before [] d h = absurd (false≢true h)
written-cells-are (c ∷ cs) names before (x ∷ cells) d h =
    let both = and_parts (suits c names before x) _ h in
    ap (λ r. and_then r (λ cell. and_then (cells_of cs names (number_in cell) (map (cell_word names) cells)) (λ more. Ok (cell ∷ more)))) (written-cell-is c names before x d both.0)
    ∙ ap (λ r. and_then r (λ more. Ok (x ∷ more))) (written-cells-are cs names (number_in x) cells d both.1)

length-suits : (cs : List Column) (names : List (List ℕ)) (before : ℕ) (cells : List Cell) → suits_all cs names before cells ≡ true → length cells ≡ length cs
length-suits [] names before [] h = refl
length-suits [] names before (x ∷ cells) h = absurd (false≢true h)
length-suits (c ∷ cs) names before [] h = absurd (false≢true h)
length-suits (c ∷ cs) names before (x ∷ cells) h = ap suc (length-suits cs names (number_in x) cells (and_parts (suits c names before x) _ h).1)

-- what holds of every plain word holds of each word of the cells
each_word : (f : List ℕ → Bool) → ((w : List ℕ) → Plain w → f w ≡ true) → (cs : List Column) (names : List (List ℕ)) (before : ℕ) (cells : List Cell) → every lawful_name names ≡ true
    → suits_all cs names before cells ≡ true → every f (map (cell_word names) cells) ≡ true
each_word f holds [] names before [] l h = refl
each_word f holds [] names before (x ∷ cells) l h = absurd (false≢true h)
each_word f holds (c ∷ cs) names before [] l h = absurd (false≢true h)
each_word f holds (c ∷ cs) names before (x ∷ cells) l h =
    let both = and_parts (suits c names before x) _ h in
    and_from _ _ (holds (cell_word names x) (cell-word-is-plain c names before x l both.0)) (each_word f holds cs names (number_in x) cells l both.1)

-- ---- a line of words

every-further : (f : ℕ → Bool) → f 32 ≡ true → (ws : List (List ℕ)) → every (every f) ws ≡ true → every f (further_words ws) ≡ true
every-further f space [] h = refl
every-further f space (w ∷ ws) h =
    let both = and_parts (every f w) _ h in
    and_from _ _ space (every_append f w (further_words ws) both.0 (every-further f space ws both.1))

pub every-unwords : (f : ℕ → Bool) → f 32 ≡ true → (ws : List (List ℕ)) → every (every f) ws ≡ true → every f (unwords ws) ≡ true
every-unwords f space [] h = refl
every-unwords f space (w ∷ ws) h =
    let both = and_parts (every f w) _ h in
    every_append f w (further_words ws) both.0 (every-further f space ws both.1)

pub length-unwords : (ws : List (List ℕ)) → every (λ w. leb (length w) 12) ws ≡ true → length (unwords ws) ≤ 13 * length ws
length-unwords [] h = omega arith
length-unwords (w ∷ ws) h =
    let both = and_parts (leb (length w) 12) _ h in
    omega (arith, length-append w (further_words ws), leb-true (length w) 12 both.0, further ws both.1)
  where
    further : (ws' : List (List ℕ)) → every (λ v. leb (length v) 12) ws' ≡ true → length (further_words ws') ≤ 13 * length ws'
    further [] g = omega arith
    further (v ∷ vs) g =
        let both = and_parts (leb (length v) 12) _ g in
        omega (arith, length-append v (further_words vs), leb-true (length v) 12 both.0, further vs both.1)

words_back : (ws : List (List ℕ)) → 0 < length ws → every (lacks 32) ws ≡ true → words (unwords ws) ≡ ws
words_back [] some h = absurd (omega arith)
words_back (w ∷ ws) some h = words-of-unwords w ws h

spaced-is-some : (l : List ℕ) → spaced l ≡ true → 0 < length l
spaced-is-some [] h = absurd (false≢true h)
spaced-is-some (b ∷ l) h = omega arith

-- ---- rows

some-column : (kind : RowKind) → 0 < length (columns kind)
some-column Tick = omega arith
some-column (Place k) = omega arith
some-column (Edge most n) = omega arith
some-column Distance = omega arith
some-column (Claim n) = omega arith

counted : {X E : Type 0} (t : Bool) (r : Result X E) (e : E) (x : X) → cond t r (Err e) ≡ Ok x → r ≡ Ok x
counted true r e x h = h
counted false r e x h = never-ok e x h

pub row-is-written : (kind : RowKind) (names : List (List ℕ)) (line : List ℕ) (cells : List Cell) → row_of kind names line ≡ Ok cells
    → (line ≡ row_line names cells) × (suits_all (columns kind) names 0 cells ≡ true)
row-is-written kind names line cells h =
    let are = cells-are-written (columns kind) names 0 (words line) cells (counted (eqb (length (words line)) (length (columns kind))) _ Misfit cells h) in
    (sym (unwords-of-words line) ∙ ap unwords are.0, are.1)

module _ (kind : RowKind) (names : List (List ℕ)) (cells : List Cell) (l : every lawful_name names ≡ true) (fits : suits_all (columns kind) names 0 cells ≡ true) where
  abbrev its-words : List (List ℕ)
  its-words = map (cell_word names) cells

  count : length its-words ≡ length (columns kind)
  count = length-map cells (cell_word names) ∙ length-suits (columns kind) names 0 cells fits

  each : (f : List ℕ → Bool) → ((w : List ℕ) → Plain w → f w ≡ true) → every f its-words ≡ true
  each f holds = each_word f holds (columns kind) names 0 cells l fits

  words_are : words (row_line names cells) ≡ its-words
  words_are = words_back its-words (omega (arith, count, some-column kind)) (each (lacks 32) (plain-lacks 32 (omega arith)))

  pub written-row-is : different names ≡ true → row_of kind names (row_line names cells) ≡ Ok cells
  written-row-is d =
      cond-true _ _ _ (eq-eqb _ _ (ap length words_are ∙ count))
      ∙ ap (cells_of (columns kind) names 0) words_are
      ∙ written-cells-are (columns kind) names 0 cells d fits

  pub written-row-is-spaced : spaced (row_line names cells) ≡ true
  written-row-is-spaced = ap (every filled) words_are ∙ each filled (λ w h. h.some)

  pub written-row-is-one-line : lacks 10 (row_line names cells) ≡ true
  written-row-is-one-line = every-unwords _ refl its-words (each (lacks 10) (plain-lacks 10 (omega arith)))

  pub written-row-is-allowed : every allowed (row_line names cells) ≡ true
  written-row-is-allowed = every-unwords allowed refl its-words (each (every allowed) plain-is-allowed)

  pub written-row-is-some : 0 < length (row_line names cells)
  written-row-is-some = spaced-is-some (row_line names cells) written-row-is-spaced

  pub written-row-is-short : length (row_line names cells) ≤ 13 * length (columns kind)
  written-row-is-short = omega (arith, length-unwords its-words (each (λ w. leb (length w) 12) (λ w h. le-leb (length w) 12 h.short)), count)
