-- What every text shares that is written: which rows and heads are clean, and how a walk takes them. Assumes nothing.
use Rattle.std.proofs.Common.{◌≡◌, ℕ, suc, ◌+◌, ◌<◌, ◌≤◌, Bool, true, false, cond, not, ◌&&◌, ◌||◌, eqb, ltb, leb, List, [], ◌∷◌, ◌++◌, map, length, replicate, Ok, Err, Result, sym, refl, ap, ◌∙◌, append_assoc, append-nil, arith}
use Rattle.std.proofs.lemmas.List.{length_push, length-append}
use Rattle.std.proofs.lemmas.Bool.{and_parts, and_from, leb-true, le-leb, le-ltb, and_right, ne_eqb}
use Rattle.texts.specs.Lines.{words, unwords, unlines, spaced, lacks, filled, allowed}
use Rattle.texts.specs.Numbers.{every}
use Rattle.texts.proofs.Pieces.{words-of-unwords, lines-of-unlines}
use Rattle.texts.proofs.Faulty.{bad-none}
use Rattle.clocks.specs.Letters.{lawful_name}
use Rattle.tables.specs.Lawful.{different}
use Rattle.rows.specs.Rows.{row_line, suits, suits_all, columns, number_in}
use Rattle.rows.specs.declared.cell.Cell.{Cell}
use Rattle.rows.specs.declared.cell.Cell.TheVariants.{Number}
use Rattle.rows.specs.declared.cell.Column.{Column}
use Rattle.rows.specs.declared.cell.RowKind.{RowKind}
use Rattle.rows.specs.declared.cell.RowKind.TheVariants.{Tick}
use Rattle.rows.proofs.Plain.{Plain, name-is-plain, plain-lacks, plain-is-allowed}
use Rattle.rows.proofs.Rows.{every-unwords, length-unwords, written-row-is, written-row-is-spaced, written-row-is-some, written-row-is-one-line, written-row-is-allowed, written-row-is-short}
use Rattle.formats.specs.Walk.{Line, Limits, empty, checked, misspaced, lacks_sheet, head_step, row_step, is_nil, line_here, walk, reading}
use Rattle.formats.specs.TableText.{head_is, tick_head}
use Rattle.formats.proofs.Clean.{clean, clean-lacks, clean-is-allowed, unlines-is-ended}
use Rattle.formats.proofs.Steps.{head-goes, row_goes, sheet-ends, walk-goes}

-- ---- lines as they stand

pub fine : (l : List ℕ) (ls : List (List ℕ)) → spaced l ≡ true → misspaced (line_here true l ls) ≡ false
fine l ls h = go (is_nil ls)
  where
    go : (b : Bool) → not (spaced l && (not b || true)) ≡ false
    go true = ap (λ s. not (s && true)) h
    go false = ap (λ s. not (s && true)) h

pub not_last : (more : ℕ) (l : List ℕ) (ls : List (List ℕ)) → is_nil ls ≡ false → lacks_sheet more (line_here true l ls) ≡ false
not_last more l ls h = ap (λ b. b && ltb 0 more) h

pub last-sheet : (l : Line) → lacks_sheet 0 l ≡ false
last-sheet l = and_right l.last _ (le-ltb 0 0 (omega arith))

-- ---- words that are names

names-are : (f : List ℕ → Bool) → ((w : List ℕ) → Plain w → f w ≡ true) → (names : List (List ℕ)) → every lawful_name names ≡ true → every f names ≡ true
names-are f holds [] h = refl
names-are f holds (n ∷ names) h = let both = and_parts (lawful_name n) _ h in and_from _ _ (holds n (name-is-plain n both.0)) (names-are f holds names both.1)

module _ (w : List ℕ) (ws : List (List ℕ)) (named : every lawful_name (w ∷ ws) ≡ true) where
  pub words-of-names : words (unwords (w ∷ ws)) ≡ w ∷ ws
  words-of-names = words-of-unwords w ws (names-are (lacks 32) (plain-lacks 32 (omega arith)) (w ∷ ws) named)

  pub names-are-spaced : spaced (unwords (w ∷ ws)) ≡ true
  names-are-spaced = ap (every filled) words-of-names ∙ names-are filled (λ v p. p.some) (w ∷ ws) named

  pub names-are-clean : length (w ∷ ws) ≤ 11 → clean 143 (unwords (w ∷ ws)) ≡ true
  names-are-clean few =
      and_from _ _ (every-unwords (λ b. not (eqb b 10)) refl (w ∷ ws) (names-are (lacks 10) (plain-lacks 10 (omega arith)) (w ∷ ws) named))
      (and_from _ _ (every-unwords allowed refl (w ∷ ws) (names-are (every allowed) plain-is-allowed (w ∷ ws) named))
      (le-leb (length (unwords (w ∷ ws))) 143
      (omega (arith, length-unwords (w ∷ ws) (names-are (λ v. leb (length v) 12) (λ v p. le-leb (length v) 12 p.short) (w ∷ ws) named), few))))

-- ---- rows

-- as many cells as there are events, each of a value that the column takes
pub alike-suit : {X : Type 0} (wrap : X → Cell) (good : X → Bool) (c : Column)
    → ((names : List (List ℕ)) (before : ℕ) (x : X) → good x ≡ true → suits c names before (wrap x) ≡ true)
    → (names : List (List ℕ)) (before : ℕ) (xs : List X) → every good xs ≡ true → suits_all (replicate (length xs) c) names before (map wrap xs) ≡ true
alike-suit wrap good c suit names before [] h = refl
alike-suit wrap good c suit names before (x ∷ xs) h =
    let both = and_parts (good x) _ h in
    and_from _ _ (suit names before x both.0) (alike-suit wrap good c suit names (number_in (wrap x)) xs both.1)

pub row-is-clean : (kind : RowKind) (names : List (List ℕ)) (cells : List Cell) → length (columns kind) ≤ 11 → every lawful_name names ≡ true
    → suits_all (columns kind) names 0 cells ≡ true → clean 143 (row_line names cells) ≡ true
row-is-clean kind names cells few l fits =
    and_from _ _ (written-row-is-one-line kind names cells l fits)
    (and_from _ _ (written-row-is-allowed kind names cells l fits) (le-leb (length (row_line names cells)) 143 (omega (arith, written-row-is-short kind names cells l fits))))

-- ---- walks

-- From a state, a walk takes all the lines of an ended text, and ends in the other.
abbrev pub Walks : {S : Type 0} → (S → Line → Result S ℕ) → S → List (List ℕ) → S → Type 0
Walks step s ls f = (k : ℕ) → walk step true s k ls ≡ Ok f

pub goes : {S : Type 0} (step : S → Line → Result S ℕ) (s next f : S) (l : List ℕ) (ls : List (List ℕ)) → step s (line_here true l ls) ≡ Ok next → Walks step next ls f
    → Walks step s (l ∷ ls) f
goes step s next f l ls here on k = walk-goes step true s next k l ls here ∙ on (suc k)

-- The rows of a text's last sheet, each of a value whose cells suit their columns.
module _ {X : Type 0} (kind : RowKind) (names : List (List ℕ)) (Cells-of : X → List Cell) (good : X → Bool) (named : every lawful_name names ≡ true)
    (suit : (x : X) → good x ≡ true → suits_all (columns kind) names 0 (Cells-of x) ≡ true) where
  pub rows-are-clean : length (columns kind) ≤ 11 → (xs : List X) → every good xs ≡ true → every (clean 143) (map (λ x. row_line names (Cells-of x)) xs) ≡ true
  rows-are-clean few [] h = refl
  rows-are-clean few (x ∷ xs) h =
      let both = and_parts (good x) _ h in
      and_from _ _ (row-is-clean kind names (Cells-of x) few named (suit x both.0)) (rows-are-clean few xs both.1)

  pub rows-walk : {S : Type 0} (step : S → Line → Result S ℕ) (state : List X → S) (least most : ℕ) (from : List Cell → X) → different names ≡ true
      → ((front : List X) (l : Line)
      → step (state front) l ≡ row_step (record { least = least; most = most; more = 0 }) (length front) kind names l (λ cells. state (front ++ (from cells ∷ []))) (state front))
      → ((x : X) → good x ≡ true → from (Cells-of x) ≡ x)
      → (xs front : List X) → length front + length xs ≤ most → every good xs ≡ true
      → Walks step (state front) (map (λ x. row_line names (Cells-of x)) xs) (state (front ++ xs))
  rows-walk step state least most from apart steps back [] front small lawful' = λ k. ap (λ xs. Ok (state xs)) (sym (append-nil front))
  rows-walk step state least most from apart steps back (x ∷ xs) front small lawful' =
      let both = and_parts (good x) _ lawful' in
      let here = row_line names (Cells-of x) in
      let after = map (λ y. row_line names (Cells-of y)) xs in
      let fits = suit x both.0 in
      let taken : step (state front) (line_here true here after) ≡ Ok (state (front ++ (x ∷ []))) =
      steps front (line_here true here after)
      ∙ row_goes (record { least = least; most = most; more = 0 }) (length front) kind names (line_here true here after) (λ cells. state (front ++ (from cells ∷ []))) (state front) (state front)
      (Cells-of x)
      (written-row-is-some kind names (Cells-of x) named fits)
      (fine here after (written-row-is-spaced kind names (Cells-of x) named fits))
      (last-sheet (line_here true here after))
      (omega arith)
      (written-row-is kind names (Cells-of x) named fits apart)
      ∙ ap (λ y. Ok (state (front ++ (y ∷ [])))) (back x both.0) in
      let next : Walks step (state (front ++ (x ∷ []))) after (state (front ++ (x ∷ xs))) =
      λ k. rows-walk step state least most from apart steps back xs (front ++ (x ∷ [])) (omega (arith, length_push front x)) both.1 k
      ∙ ap (λ ys. Ok (state ys)) (append_assoc front (x ∷ []) xs) in
      goes step (state front) (state (front ++ (x ∷ []))) (state (front ++ (x ∷ xs))) here after taken next

-- ---- the tick sheet

module _ (tick : ℕ) (range : (leb 1 tick && leb tick 60000) ≡ true) where
  tick-suits : suits_all (columns Tick) [] 0 (Number tick ∷ []) ≡ true
  tick-suits = and_from _ _ (and_from _ _ range (le-leb tick 9999999999 (omega (arith, leb-true tick 60000 (and_parts (leb 1 tick) _ range).1)))) refl

  -- the head, the tick, and the empty line after them
  pub tick-sheet-is-clean : (tail : List (List ℕ)) → every (clean 143) tail ≡ true → every (clean 143) (tick_head ∷ row_line [] (Number tick ∷ []) ∷ [] ∷ tail) ≡ true
  tick-sheet-is-clean tail h =
      and_from (clean 143 tick_head) _ refl
      (and_from _ _ (row-is-clean Tick [] (Number tick ∷ []) (omega arith) refl tick-suits)
      (and_from (clean 143 []) _ refl h))

  -- A walk takes the tick sheet, where `more` sheets follow it.
  pub tick-sheet-walk : {S : Type 0} (step : S → Line → Result S ℕ) (more : ℕ) (s₀ s₁ s₂ s₃ f : S) (first then : List Cell → S) (other : S) → 0 < more
      → ((l : Line) → step s₀ l ≡ head_step more (head_is tick_head l.bytes) l s₁)
      → ((l : Line) → step s₁ l ≡ row_step (record { least = 1; most = 1; more = more }) 0 Tick [] l first other)
      → first (Number tick ∷ []) ≡ s₂
      → ((l : Line) → step s₂ l ≡ row_step (record { least = 1; most = 1; more = more }) 1 Tick [] l then s₃)
      → (l : List ℕ) (ls : List (List ℕ)) → Walks step s₃ (l ∷ ls) f → Walks step s₀ (tick_head ∷ row_line [] (Number tick ∷ []) ∷ [] ∷ l ∷ ls) f
  tick-sheet-walk step more s₀ s₁ s₂ s₃ f first then other some at_head at_tick read at-end l ls on =
      let limits : Limits = record { least = 1; most = 1; more = more } in
      let row = row_line [] (Number tick ∷ []) in
      let fits = tick-suits in
      goes step s₀ s₁ f tick_head (row ∷ [] ∷ l ∷ ls)
      (at_head (line_here true tick_head (row ∷ [] ∷ l ∷ ls))
      ∙ head-goes more 0 (line_here true tick_head (row ∷ [] ∷ l ∷ ls)) s₁ (fine tick_head (row ∷ [] ∷ l ∷ ls) refl) refl refl)
      (goes step s₁ s₂ f row ([] ∷ l ∷ ls)
      (at_tick (line_here true row ([] ∷ l ∷ ls))
      ∙ row_goes limits 0 Tick [] (line_here true row ([] ∷ l ∷ ls)) first other other
      (Number tick ∷ []) (written-row-is-some Tick [] (Number tick ∷ []) refl fits)
      (fine row ([] ∷ l ∷ ls) (written-row-is-spaced Tick [] (Number tick ∷ []) refl fits)) refl (omega arith)
      (written-row-is Tick [] (Number tick ∷ []) refl fits refl)
      ∙ ap Ok read)
      (goes step s₂ s₃ f [] (l ∷ ls)
      (at-end (line_here true [] (l ∷ ls)) ∙ sheet-ends limits 1 Tick [] (line_here true [] (l ∷ ls)) then s₃ s₃ refl some refl (omega arith))
      on))

-- ---- the whole text

-- The text of clean lines that a walk takes is taken, if it is short enough.
pub text-is-taken : {S : Type 0} (most : ℕ) (step : S → Line → Result S ℕ) (start f : S) (l : List ℕ) (ls : List (List ℕ)) → every (clean 143) (l ∷ ls) ≡ true
    → length (unlines (l ∷ ls)) ≤ most → Walks step start (l ∷ ls) f → reading most step start (unlines (l ∷ ls)) ≡ Ok f
text-is-taken most step start f l ls cleaned short on =
    let text = unlines (l ∷ ls) in
    let within : ltb most (length text) ≡ false = le-ltb most (length text) short in
    let some : empty text ≡ false = ne_eqb (length text) 0 (λ e. omega (arith, e, length-append l (10 ∷ unlines ls))) in
    (λ i. cond (within i) (Err (record { number = 1; line = 0 }))
    (checked (bad-none text (clean-is-allowed 143 (l ∷ ls) cleaned) i)
    (cond (some i) (Err (record { number = 3; line = 0 })) (walk step (unlines-is-ended (l ∷ ls) i) start 1 (lines-of-unlines (l ∷ ls) (clean-lacks 143 (l ∷ ls) cleaned) i)))))
    ∙ on 1
