-- What is read of a distance text is written so, and is lawful. Assumes nothing.
use Rattle.std.proofs.Common.{◌≡◌, ℕ, ◌≤◌, true, List, [], ◌∷◌, ◌++◌, length, Ok, sym, refl, ap, ◌∙◌, subst, ⊎_elim, append_assoc, arith}
use Rattle.std.proofs.lemmas.List.{length_push, nil_from_length}
use Rattle.std.proofs.lemmas.Bool.{and_from, le-leb, lt-ltb, false≢true}
use Rattle.texts.specs.Lines.{unlines}
use Rattle.texts.specs.Numbers.{every}
use Rattle.rows.specs.Rows.{suits, suits_all, columns, number_in}
use Rattle.rows.specs.declared.cell.Cell.{Cell}
use Rattle.rows.specs.declared.cell.Cell.TheVariants.{Number, Absent, Flag, Event, Bounded}
use Rattle.rows.specs.declared.cell.Column.TheVariants.{Within, NotBelow, EventName}
use Rattle.rows.specs.declared.cell.RowKind.TheVariants.{Distance as Distance'}
use Rattle.rows.proofs.Rows.{row-is-written}
use Rattle.formats.specs.declared.distance.DistanceStage.{DistanceStage}
use Rattle.formats.specs.declared.distance.DistanceStage.TheVariants.{TickHead, TickRows, LineHead, LineRows}
use Rattle.formats.specs.Walk.{Line}
use Rattle.formats.specs.TableText.{head_is, tick_head}
use Rattle.formats.specs.DistanceText.{lawful_distance, lawful_distances, line_head, distance_cells, distance_rows, distance_lines, distance_text, DistanceParts, distance_start, distances_held, distance_at, distance_from, with_distance_tick, with_distance, distance_tick_limits, line_limits, distance_step_at, distance_step, read_distances}
use Rattle.formats.specs.TableGood.{Ticked, OneTick}
use Rattle.formats.proofs.Steps.{head-taken, row-taken}
use Rattle.formats.proofs.Columns.{within-is, event-is, split, none_left}
use Rattle.formats.proofs.Taken.{every-push, head-is, rows-push, ended-when-fine, none-lacks, tick_lines, one-tick, tick-head-is, tick-taken, taken-was-walked}

-- ---- one distance

not-below-is : (names : List (List ℕ)) (before most : ℕ) (x : Cell) → suits (NotBelow most) names before x ≡ true → (n : ℕ) × (x ≡ Number n) × (before ≤ n) × (n ≤ most)
not-below-is names before most (Number n) h = within-is names before before most (Number n) h
not-below-is names before most Absent h = absurd (false≢true h)
not-below-is names before most (Flag b) h = absurd (false≢true h)
not-below-is names before most (Event i) h = absurd (false≢true h)
not-below-is names before most (Bounded b) h = absurd (false≢true h)

pub distance-row : (names : List (List ℕ)) (cells : List Cell) → suits_all (columns Distance') names 0 cells ≡ true
    → (distance_cells (distance_from cells) ≡ cells) × (lawful_distance (length names) (distance_from cells) ≡ true)
distance-row names cells h =
    let one = split EventName (EventName ∷ Within 0 250 ∷ NotBelow 250 ∷ []) names 0 cells h in
    let on = event-is names 0 one.0 one.3 in
    let two = split EventName (Within 0 250 ∷ NotBelow 250 ∷ []) names (number_in one.0) one.1 one.4 in
    let since = event-is names (number_in one.0) two.0 two.3 in
    let three = split (Within 0 250) (NotBelow 250 ∷ []) names (number_in two.0) two.1 two.4 in
    let least = within-is names (number_in two.0) 0 250 three.0 three.3 in
    let four = split (NotBelow 250) [] names (number_in three.0) three.1 three.4 in
    let most = not-below-is names (number_in three.0) 250 four.0 four.3 in
    let low : least.0 ≤ most.0 = omega (arith, ap number_in least.1, most.2) in
    let are : cells ≡ Event on.0 ∷ Event since.0 ∷ Number least.0 ∷ Number most.0 ∷ [] =
    one.2 ∙ (λ i. on.1 i ∷ (two.2 ∙ (λ j. since.1 j ∷ (three.2 ∙ (λ k. least.1 k ∷ (four.2 ∙ (λ m. most.1 m ∷ none_left names (number_in four.0) four.1 four.4 m)) k)) j)) i) in (
      ap (λ c. distance_cells (distance_from c)) are ∙ sym are,
      ap (λ c. lawful_distance (length names) (distance_from c)) are
          ∙ and_from _ _ (and_from _ _ (lt-ltb on.0 (length names) on.2) (lt-ltb since.0 (length names) since.2))
          (and_from _ _ (le-leb least.0 most.0 low) (le-leb most.0 250 most.3)),
    )

module _ (names : List (List ℕ)) where
  -- ---- the lines that have been read, and what is kept of the parts, stage by stage

  abbrev front : DistanceParts → List (List ℕ)
  front s = tick_head ∷ tick_lines s.ticks

  abbrev back : DistanceParts → List (List ℕ)
  back s = [] ∷ line_head ∷ distance_rows names s.lines

  abbrev so_far_at : DistanceStage → DistanceParts → List (List ℕ)
  so_far_at TickHead s = []
  so_far_at TickRows s = front s
  so_far_at LineHead s = front s ++ ([] ∷ [])
  so_far_at LineRows s = front s ++ back s

  abbrev GoodAt : DistanceStage → DistanceParts → Type 0
  GoodAt TickHead s = (s.ticks ≡ []) × (s.lines ≡ [])
  GoodAt TickRows s = Ticked s.ticks × (s.lines ≡ [])
  GoodAt LineHead s = OneTick s.ticks × (s.lines ≡ [])
  GoodAt LineRows s = OneTick s.ticks × ((length s.lines ≤ 16) × (every (lawful_distance (length names)) s.lines ≡ true))

  abbrev Kept : List (List ℕ) → DistanceParts → Type 0
  Kept before s = (so_far_at s.stage s ≡ before) × GoodAt s.stage s

  -- ---- one line more

  pub keeps : (stage : DistanceStage) (s t : DistanceParts) (l : Line) → GoodAt stage s → distance_step_at names stage s l ≡ Ok t → Kept (so_far_at stage s ++ (l.bytes ∷ [])) t
  keeps TickHead s t l good h =
      let head = head-taken 1 (head_is tick_head l.bytes) l (distance_at s TickRows) t h in
      let is = tick-head-is s.ticks l.bytes good.0 head.right in
      subst (Kept (l.bytes ∷ [])) head.goes (is.0, (is.1, good.1))
  keeps TickRows s t l good h = ⊎_elim
      (λ ended. subst (Kept (front s ++ (l.bytes ∷ []))) ended.goes
      (ap (λ x. front s ++ (x ∷ [])) (sym (nil_from_length l.bytes ended.none)), ((good.0, ended.enough), good.1)))
      (λ row. subst (Kept (front s ++ (l.bytes ∷ []))) row.goes (ap (λ x. tick_head ∷ x) row.written, (row.good, good.1)))
      (tick-taken distance_tick_limits s.ticks l (with_distance_tick s) (distance_at s LineHead) t refl h)
  keeps LineHead s t l good h =
      let head = head-taken 0 (head_is line_head l.bytes) l (distance_at s LineRows) t h in
      subst (Kept ((front s ++ ([] ∷ [])) ++ (l.bytes ∷ []))) head.goes (
        ap (λ ds. front s ++ ([] ∷ line_head ∷ distance_rows names ds)) good.1
            ∙ ap (λ x. front s ++ ([] ∷ x ∷ [])) (sym (head-is line_head l.bytes head.right))
            ∙ sym (append_assoc (front s) ([] ∷ []) (l.bytes ∷ [])),
        (good.0, (omega (arith, ap length good.1), ap (every (lawful_distance (length names))) good.1)),
      )
  keeps LineRows s t l good h = ⊎_elim
      (λ ended. absurd (omega (arith, ended.more)))
      (λ row.
      let is = row-is-written Distance' names l.bytes row.cells row.row in
      let one = distance-row names row.cells is.1 in
      let d = distance_from row.cells in
      subst (Kept ((front s ++ back s) ++ (l.bytes ∷ []))) row.goes (
        ap (λ x. front s ++ ([] ∷ line_head ∷ x)) (rows-push names distance_cells s.lines d row.cells l.bytes is.0 one.0)
            ∙ sym (append_assoc (front s) (back s) (l.bytes ∷ [])),
        (
          good.0,
          (omega (arith, length_push s.lines d, row.room), every-push (lawful_distance (length names)) s.lines d good.1.1 one.1),
        ),
      ))
      (row-taken line_limits (length s.lines) Distance' names l (λ cells. with_distance s (distance_from cells)) s t h)

  -- ---- the last line

  pub last_line : (stage : DistanceStage) (s t : DistanceParts) (l : Line) → distance_step_at names stage s l ≡ Ok t → l.last ≡ true → (t.stage ≡ LineRows) × (l.ended ≡ true)
  last_line TickHead s t l h last = absurd (none-lacks 1 l last (head-taken 1 (head_is tick_head l.bytes) l (distance_at s TickRows) t h).whole (omega arith))
  last_line TickRows s t l h last = ⊎_elim
      (λ ended. absurd (false≢true (sym ended.later ∙ last)))
      (λ row. absurd (none-lacks 1 l last row.whole (omega arith)))
      (tick-taken distance_tick_limits s.ticks l (with_distance_tick s) (distance_at s LineHead) t refl h)
  last_line LineHead s t l h last =
      let head = head-taken 0 (head_is line_head l.bytes) l (distance_at s LineRows) t h in
      (ap (λ x. x.stage) (sym head.goes), ended-when-fine l head.fine)
  last_line LineRows s t l h last = ⊎_elim
      (λ ended. absurd (omega (arith, ended.more)))
      (λ row. (ap (λ x. x.stage) (sym row.goes), ended-when-fine l row.fine))
      (row-taken line_limits (length s.lines) Distance' names l (λ cells. with_distance s (distance_from cells)) s t h)

  -- ---- the whole text

  finished : (stage : DistanceStage) (s : DistanceParts) → stage ≡ LineRows → GoodAt stage s
      → (so_far_at stage s ≡ distance_lines names (distances_held s)) × (lawful_distances names (distances_held s) ≡ true)
  finished TickHead s e good = absurd (let z : ◌≡◌ {A = ℕ} 0 1 = cc in omega arith)
  finished TickRows s e good = absurd (let z : ◌≡◌ {A = ℕ} 0 1 = cc in omega arith)
  finished LineHead s e good = absurd (let z : ◌≡◌ {A = ℕ} 0 1 = cc in omega arith)
  finished LineRows s e good =
      let one = one-tick s.ticks good.0 in
      (ap (λ ticks. (tick_head ∷ tick_lines ticks) ++ back s) one.0, and_from _ _ one.1 (and_from _ _ (le-leb _ 16 good.1.0) good.1.1))

  -- A text that is taken is the text of the distances that are read, which are lawful; it is read to its end.
  pub taken-is-written : (t : List ℕ) (s : DistanceParts) → read_distances names t ≡ Ok s
      → (t ≡ distance_text names (distances_held s)) × (lawful_distances names (distances_held s) ≡ true) × (s.stage ≡ LineRows)
  taken-is-written t s h =
      let all = taken-was-walked 32768 (distance_step names) distance_start (λ p before. Kept before p) (λ p. p.stage ≡ LineRows) (refl, (refl, refl))
      (λ p q before l now taken. subst (λ x. Kept (x ++ (l.bytes ∷ [])) q) now.0 (keeps p.stage p q l now.1 taken))
      (λ p q l taken last. last_line p.stage p q l taken last)
      t s h in
      let done = finished s.stage s all.1 all.0.1 in
      (all.2 ∙ ap unlines (sym all.0.0 ∙ done.0), done.1, all.1)
