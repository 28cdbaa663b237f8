-- What every text shares that is taken: how it was walked, its heads and rows, and its tick sheet. Assumes nothing.
use Rattle.std.proofs.Common.{◌≡◌, ℕ, suc, ◌<◌, ◌≤◌, Bool, true, false, cond, ◌&&◌, ltb, leb, ◌⊎◌, List, [], ◌∷◌, ◌++◌, map, length, get_or, Some, None, Ok, Err, Option, Result, sym, refl, ap, ◌∙◌, subst, inl, inr, ⊎_elim, arith}
use Rattle.std.proofs.lemmas.Slice.Eq.{bytes_eq-Decides}
use Rattle.std.proofs.lemmas.List.{map_push}
use Rattle.std.proofs.lemmas.Bool.{and_parts, and_from, le-leb, lt-ltb, not-false, false≢true}
use Rattle.std.specs.Str.{bytes_eq}
use Rattle.texts.specs.Lines.{unlines, lines, spaced, ended, bad_byte}
use Rattle.texts.specs.Numbers.{every}
use Rattle.texts.proofs.Pieces.{unlines-of-lines, some-line}
use Rattle.rows.specs.Rows.{and_then, row_line, number_in}
use Rattle.rows.specs.declared.cell.Cell.{Cell}
use Rattle.rows.specs.declared.cell.Cell.TheVariants.{Number, Absent}
use Rattle.rows.specs.declared.cell.RowKind.TheVariants.{Tick}
use Rattle.rows.proofs.Outcomes.{never-ok, same-from-ok}
use Rattle.rows.proofs.Rows.{row-is-written}
use Rattle.formats.specs.Walk.{Refusal, Line, Limits, empty, misspaced, lacks_sheet, row_step, line_here, at_line, walk, checked, reading}
use Rattle.formats.specs.TableText.{head_is, tick_head}
use Rattle.formats.specs.TableGood.{Ticked, OneTick}
use Rattle.formats.proofs.Steps.{SheetEnded, row-taken, walk-keeps}
use Rattle.formats.proofs.Columns.{tick-row}

-- ---- lists

pub every-push : {X : Type 0} (f : X → Bool) (xs : List X) (x : X) → every f xs ≡ true → f x ≡ true → every f (xs ++ (x ∷ [])) ≡ true
every-push f [] x h g = and_from (f x) true g refl
every-push f (y ∷ xs) x h g = let both = and_parts (f y) _ h in and_from (f y) _ both.0 (every-push f xs x both.1 g)

pub map_back : {X Y : Type 0} (f : X → Y) (back : Y → X) → ((x : X) → back (f x) ≡ x) → (xs : List X) → map back (map f xs) ≡ xs
map_back f back undoes [] = refl
map_back f back undoes (x ∷ xs) = λ i. undoes x i ∷ map_back f back undoes xs i

-- ---- heads and rows

pub head-is : (head line : List ℕ) → head_is head line ≡ 0 → line ≡ head
head-is head line h = (bytes_eq-Decides line head).0 (right (bytes_eq line head) h)
  where
    right : (b : Bool) → ◌≡◌ {A = ℕ} (cond b 0 4) 0 → b ≡ true
    right true e = refl
    right false e = absurd (omega (arith, e))

-- One row more, which its line writes, is one line more.
pub rows-push : {X : Type 0} (names : List (List ℕ)) (Cells-of : X → List Cell) (xs : List X) (x : X) (cells : List Cell) (line : List ℕ)
    → line ≡ row_line names cells → Cells-of x ≡ cells
    → map (λ y. row_line names (Cells-of y)) (xs ++ (x ∷ [])) ≡ map (λ y. row_line names (Cells-of y)) xs ++ (line ∷ [])
rows-push names Cells-of xs x cells line is back =
    map_push (λ y. row_line names (Cells-of y)) xs x ∙ ap (λ v. map (λ y. row_line names (Cells-of y)) xs ++ (v ∷ [])) (ap (row_line names) back ∙ sym is)

-- ---- the last line

pub ended-when-fine : (l : Line) → misspaced l ≡ false → l.ended ≡ true
ended-when-fine l h = (and_parts (spaced l.bytes) l.ended (not-false _ h)).1

-- A sheet does not lack where the last line is taken.
pub none-lacks : (more : ℕ) (l : Line) → l.last ≡ true → lacks_sheet more l ≡ false → 0 < more → ⊥
none-lacks more l last h some = false≢true (sym h ∙ and_from l.last (ltb 0 more) last (lt-ltb 0 more some))

-- ---- the tick sheet

abbrev pub tick_lines : List ℕ → List (List ℕ)
tick_lines ticks = map (λ n. row_line [] (Number n ∷ [])) ticks

pub one-tick : (ticks : List ℕ) → OneTick ticks → (ticks ≡ get_or ticks 0 0 ∷ []) × ((leb 1 (get_or ticks 0 0) && leb (get_or ticks 0 0) 60000) ≡ true)
one-tick [] one = absurd (omega (arith, one.1))
one-tick (n ∷ []) one = (refl, and_from _ _ (le-leb 1 n one.0.0) (le-leb n 60000 one.0.1))
one-tick (n ∷ m ∷ ns) one = absurd one.0

-- the head alone, before the first tick
pub tick-head-is : (ticks : List ℕ) (line : List ℕ) → ticks ≡ [] → head_is tick_head line ≡ 0 → (tick_head ∷ tick_lines ticks ≡ line ∷ []) × Ticked ticks
tick-head-is ticks line none h = (ap (λ ns. tick_head ∷ tick_lines ns) none ∙ ap (λ x. x ∷ []) (sym (head-is tick_head line h)), subst Ticked (sym none) tt)

ticked-push : (ticks : List ℕ) (n : ℕ) → length ticks < 1 → 1 ≤ n → n ≤ 60000 → Ticked (ticks ++ (n ∷ []))
ticked-push [] n h low high = (low, high)
ticked-push (m ∷ ticks) n h low high = absurd (omega arith)

pub record TickTaken {S : Type 0} (limits : Limits) (ticks : List ℕ) (l : Line) (next : ℕ → S) (s : S) : Type 0 where
  pub whole : lacks_sheet limits.more l ≡ false
  pub tick : ℕ
  pub goes : next tick ≡ s
  pub good : Ticked (ticks ++ (tick ∷ []))
  pub written : tick_lines (ticks ++ (tick ∷ [])) ≡ tick_lines ticks ++ (l.bytes ∷ [])

pub tick-taken : {S : Type 0} (limits : Limits) (ticks : List ℕ) (l : Line) (next : ℕ → S) (closed s : S) → limits.most ≡ 1
    → row_step limits (length ticks) Tick [] l (λ cells. next (number_in (get_or cells 0 Absent))) closed ≡ Ok s
    → SheetEnded limits (length ticks) l closed s ⊎ TickTaken limits ticks l next s
tick-taken limits ticks l next closed s one h = ⊎_elim
    (λ ended. inl ended)
    (λ row.
    let is = row-is-written Tick [] l.bytes row.cells row.row in
    let n = tick-row row.cells is.1 in
    inr (record {
      whole = row.whole;
      tick = n.0;
      goes = ap (λ cells. next (number_in (get_or cells 0 Absent))) (sym n.1) ∙ row.goes;
      good = ticked-push ticks n.0 (omega (arith, row.room)) n.2 n.3;
      written = rows-push [] (λ m. Number m ∷ []) ticks n.0 row.cells l.bytes is.0 (sym n.1);
    }))
    (row-taken limits (length ticks) Tick [] l (λ cells. next (number_in (get_or cells 0 Absent))) closed s h)

-- ---- the whole text

no_lines : (t : List ℕ) → empty t ≡ false → lines t ≡ [] → ⊥
no_lines [] e h = false≢true (sym e)
no_lines (b ∷ t) e h = omega (arith, some-line b t, ap length h)

abbrev walk_some : {S : Type 0} → Bool → Result S Refusal → Result S Refusal
walk_some none walked = cond none (Err (record { number = 3; line = 0 })) walked

-- what the walk has to go on with, once the whole text is fine
walk_of : {S : Type 0} (most : ℕ) (step : S → Line → Result S ℕ) (start : S) (t : List ℕ) (s : S) → reading most step start t ≡ Ok s
    → (lines t ≡ [] → ⊥) × (walk step (ended t) start 1 (lines t) ≡ Ok s)
walk_of {S} most step start t s h = line-not (empty t) refl (byte-not (bad_byte t) (size-not (ltb most (length t)) h))
  where
    size-not : (b : Bool) → cond b (Err (record { number = 1; line = 0 })) (checked (bad_byte t) (walk_some (empty t) (walk step (ended t) start 1 (lines t)))) ≡ Ok s → checked (bad_byte t) (walk_some (empty t) (walk step (ended t) start 1 (lines t))) ≡ Ok s
    size-not true e = never-ok _ s e
    size-not false e = e

    byte-not : (o : Option ℕ) → checked o (walk_some (empty t) (walk step (ended t) start 1 (lines t))) ≡ Ok s → walk_some (empty t) (walk step (ended t) start 1 (lines t)) ≡ Ok s
    byte-not None e = e
    byte-not (Some k) e = never-ok _ s e

    line-not : (b : Bool) → empty t ≡ b → walk_some b (walk step (ended t) start 1 (lines t)) ≡ Ok s → (lines t ≡ [] → ⊥) × ((walk step (ended t) start 1 (lines t)) ≡ Ok s)
    line-not true e h' = never-ok _ s h'
    line-not false e h' = (λ none. no_lines t e none, h')

-- What every last line that is taken leaves holds where a walk along some line ends, and the text is ended.
walk_ends : {S : Type 0} (step : S → Line → Result S ℕ) (End : S → Type 0) → ((s t : S) (l : Line) → step s l ≡ Ok t → l.last ≡ true → End t × (l.ended ≡ true))
    → (whole : Bool) (l : List ℕ) (ls : List (List ℕ)) (s t : S) (k : ℕ) → walk step whole s k (l ∷ ls) ≡ Ok t → End t × (whole ≡ true)
walk_ends {S} step End ends whole l [] s t k h = go (step s (line_here whole l [])) refl h
  where
    go : (r : Result S ℕ) → step s (line_here whole l []) ≡ r → and_then (at_line k r) (λ next. Ok next) ≡ Ok t → End t × (whole ≡ true)
    go (Ok u) e h' = ends s t (line_here whole l []) (e ∙ ap Ok (same-from-ok u t h')) refl
    go (Err n) e h' = never-ok _ t h'
walk_ends {S} step End ends whole l (l' ∷ ls) s t k h = go (λ u h'. walk_ends step End ends whole l' ls u t (suc k) h') (step s (line_here whole l (l' ∷ ls))) h
  where
    go : ((u : S) → walk step whole u (suc k) (l' ∷ ls) ≡ Ok t → End t × (whole ≡ true))
        → (r : Result S ℕ) → and_then (at_line k r) (λ next. walk step whole next (suc k) (l' ∷ ls)) ≡ Ok t → End t × (whole ≡ true)
    go on (Ok u) h' = on u h'
    go on (Err n) h' = never-ok _ t h'

-- What holds at the start and is kept by every line that is taken holds of the lines of a text that is taken, and the text is that of its lines.
pub taken-was-walked : {S : Type 0} (most : ℕ) (step : S → Line → Result S ℕ) (start : S) (P : S → List (List ℕ) → Type 0) (End : S → Type 0)
    → P start []
    → ((s t : S) (before : List (List ℕ)) (l : Line) → P s before → step s l ≡ Ok t → P t (before ++ (l.bytes ∷ [])))
    → ((s t : S) (l : Line) → step s l ≡ Ok t → l.last ≡ true → End t × (l.ended ≡ true))
    → (t : List ℕ) (s : S) → reading most step start t ≡ Ok s → P s (lines t) × End s × (t ≡ unlines (lines t))
taken-was-walked {S} most step start P End begins keeps ends t s h =
    let walked = walk_of most step start t s h in
    let last = at-end (lines t) walked.0 walked.1 in (
      walk-keeps step (ended t) P (λ p q before l rest now taken. keeps p q before (line_here (ended t) l rest) now taken) (lines t) [] start s 1 begins walked.1,
      last.0,
      sym (unlines-of-lines t last.1),
    )
  where
    at-end : (ls : List (List ℕ)) → (ls ≡ [] → ⊥) → walk step (ended t) start 1 ls ≡ Ok s → End s × (ended t ≡ true)
    at-end [] some h' = absurd (some refl)
    at-end (l ∷ ls) some h' = walk_ends step End ends (ended t) l ls start s 1 h'
