-- What is read of a table text is written so, and is lawful. Assumes nothing.
use Rattle.std.proofs.Common.{◌≡◌, ℕ, zero, suc, ◌+◌, ◌-◌, ◌≤◌, Bool, true, false, cond, ◌&&◌, ltb, leb, List, [], ◌∷◌, ◌++◌, map, length, get_or, drop, replicate, Ok, codes, sym, refl, ap, ◌∙◌, subst, ⊎_elim, append_assoc, arith}
use Rattle.std.proofs.lemmas.Slice.Eq.{bytes_eq-Decides}
use Rattle.std.proofs.lemmas.List.{length_push, length-append, length-replicate, take_at, nil_from_length}
use Rattle.std.proofs.lemmas.Bool.{and_parts, and_from, leb-true, le-leb, lt-ltb, le-ltb, eq-eqb, cond-true, cond-false, false≢true}
use Rattle.std.specs.Str.{bytes_eq}
use Rattle.meaning.specs.declared.values.Bound.{Bound}
use Rattle.meaning.specs.declared.values.Bound.TheVariants.{Any}
use Rattle.meaning.specs.declared.values.Place.{Place}
use Rattle.texts.specs.Lines.{words, unwords, unlines, lines}
use Rattle.texts.specs.Numbers.{every}
use Rattle.texts.proofs.Pieces.{unwords-of-words}
use Rattle.clocks.specs.Letters.{lawful_name}
use Rattle.tables.specs.Lawful.{different, lawful_bound, is_any, lawful_bounds, lawful_edge, lawful_names, lawful}
use Rattle.rows.specs.Rows.{row_line, number_in, bound_in}
use Rattle.rows.specs.declared.cell.Cell.{Cell}
use Rattle.rows.specs.declared.cell.Cell.TheVariants.{Number, Absent, Event, Bounded}
use Rattle.rows.specs.declared.cell.RowKind.TheVariants.{Tick, Place as Place', Edge as Edge'}
use Rattle.rows.proofs.Rows.{row-is-written}
use Rattle.formats.specs.declared.stage.Stage.{Stage}
use Rattle.formats.specs.declared.stage.Stage.TheVariants.{TickHead, TickRows, PlaceHead, PlaceRows, EdgeHead, EdgeRows}
use Rattle.formats.specs.Walk.{Line}
use Rattle.formats.specs.TableText.{Parts, at, with_tick, with_place, with_names, with_edge, head_is, names_wrong, edge_head_wrong, place_from, edge_from, step_at, table_step, start, held, tick_head, place_head, edge_head, place_cells, place_lines, edge_cells, edge_lines, table_lines, table_text, read_table, tick_limits, place_limits, edge_limits}
use Rattle.formats.specs.TableGood.{GoodAt}
use Rattle.formats.proofs.Steps.{head-taken, row-taken}
use Rattle.formats.proofs.Columns.{place-row, EdgeRow, edge_row}
use Rattle.formats.proofs.Taken.{every-push, map_back, head-is, rows-push, ended-when-fine, none-lacks, tick_lines, one-tick, tick-head-is, tick-taken, taken-was-walked}

-- ---- the lines that have been read, from what was read of them

abbrev front : Parts → List (List ℕ)
front s = tick_head ∷ tick_lines s.ticks

abbrev middle : Parts → List (List ℕ)
middle s = [] ∷ place_head ∷ place_lines 0 s.places

abbrev back : Parts → List (List ℕ)
back s = [] ∷ edge_head s.names ∷ edge_lines s.names s.edges

abbrev so_far_at : Stage → Parts → List (List ℕ)
so_far_at TickHead s = []
so_far_at TickRows s = front s
so_far_at PlaceHead s = front s ++ ([] ∷ [])
so_far_at PlaceRows s = front s ++ middle s
so_far_at EdgeHead s = (front s ++ middle s) ++ ([] ∷ [])
so_far_at EdgeRows s = (front s ++ middle s) ++ back s

-- ---- places, and the head of the edges

places-push : (k : ℕ) (ps : List Place) (p : Place) → place_lines k (ps ++ (p ∷ [])) ≡ place_lines k ps ++ (row_line [] (place_cells (k + length ps) p) ∷ [])
places-push k [] p = let e : k ≡ k + 0 = omega arith in ap (λ m. row_line [] (place_cells m p) ∷ []) e
places-push k (q ∷ ps) p =
    let e : suc k + length ps ≡ k + suc (length ps) = omega arith in
    ap (λ ls. row_line [] (place_cells k q) ∷ ls) (places-push (suc k) ps p ∙ ap (λ m. place_lines (suc k) ps ++ (row_line [] (place_cells m p) ∷ [])) e)

names-right : (names : List (List ℕ)) → names_wrong names ≡ 0 → lawful_names names ≡ true
names-right names h = right (every lawful_name names && different names) (leb 1 (length names) && leb (length names) 8) h
  where
    right : (b c : Bool) → ◌≡◌ {A = ℕ} (cond b (cond c 0 7) 4) 0 → (c && b) ≡ true
    right true true e = refl
    right true false e = absurd (omega (arith, e))
    right false c e = absurd (omega (arith, e))

-- a right head of the edges is written so, and its names are lawful
edge-head-is : (ws : List (List ℕ)) → edge_head_wrong ws ≡ 0 → (unwords ws ≡ edge_head (drop 3 ws)) × (lawful_names (drop 3 ws) ≡ true)
edge-head-is [] h = absurd (omega (arith, h))
edge-head-is (a ∷ []) h = absurd (omega (arith, h))
edge-head-is (a ∷ b ∷ []) h = absurd (omega (arith, h))
edge-head-is (a ∷ b ∷ c ∷ names) h =
    let three = right (bytes_eq a (codes "from") && (bytes_eq b (codes "to") && bytes_eq c (codes "on"))) h in
    let one = and_parts (bytes_eq a (codes "from")) _ three.0 in
    let two = and_parts (bytes_eq b (codes "to")) (bytes_eq c (codes "on")) one.1 in (
      (λ i. unwords ((bytes_eq-Decides a (codes "from")).0 one.0 i ∷ (bytes_eq-Decides b (codes "to")).0 two.0 i ∷ (bytes_eq-Decides c (codes "on")).0 two.1 i ∷ names)),
      names-right names three.1,
    )
  where
    right : (t : Bool) → cond t (names_wrong names) 4 ≡ 0 → (t ≡ true) × (names_wrong names ≡ 0)
    right true e = (refl, e)
    right false e = absurd (omega (arith, e))

-- ---- edges

pub unbound : (bs : List Bound) → map bound_in (map Bounded bs) ≡ bs
unbound bs = map_back Bounded bound_in (λ b. refl) bs

-- the bounds of the events, and `any` up to eight
lawful-bounds : (n i : ℕ) (bs : List Bound) (m : ℕ) → every lawful_bound bs ≡ true → n ≡ i + length bs → lawful_bounds n i (bs ++ replicate m Any) ≡ true
lawful-bounds n i [] zero h e = refl
lawful-bounds n i [] (suc m) h e =
    and_from _ _ (cond-false (ltb i n) true true (le-ltb i n (omega arith)))
    (rest (suc i) m (omega arith))
  where
    rest : (j k : ℕ) → n ≤ j → lawful_bounds n j (replicate k Any) ≡ true
    rest j zero le = refl
    rest j (suc k) le = and_from _ _ (cond-false (ltb j n) true true (le-ltb j n le)) (rest (suc j) k (omega arith))
lawful-bounds n i (b ∷ bs) m h e =
    let both = and_parts (lawful_bound b) _ h in
    and_from _ _ (cond-true (ltb i n) (lawful_bound b) (is_any b) (lt-ltb i n (omega arith)) ∙ both.0) (lawful-bounds n (suc i) bs m both.1 (omega arith))

module _ (m n : ℕ) (names : List (List ℕ)) (cells : List Cell) (few : n ≤ 8) (some : 1 ≤ m) (count : length names ≡ n) (row : EdgeRow (m - 1) n names cells) where
  edge-cells : edge_from n cells ≡ record { source = row.source; target = row.target; event = row.event; bounds = row.bounds ++ replicate (8 - n) Any }
  edge-cells = ap (edge_from n) row.cells_are ∙ ap (λ bs. record { source = row.source; target = row.target; event = row.event; bounds = bs ++ replicate (8 - n) Any }) (unbound row.bounds)

  bounds-count : length row.bounds ≡ n
  bounds-count = omega (arith, row.count)

  edge-is-written : edge_cells n (edge_from n cells) ≡ cells
  edge-is-written =
      ap (edge_cells n) edge-cells
      ∙ ap (λ bs. Number row.source ∷ Number row.target ∷ Event row.event ∷ map Bounded bs) (take_at row.bounds (replicate (8 - n) Any) n bounds-count)
      ∙ sym row.cells_are

  edge-is-lawful : lawful_edge n m (edge_from n cells) ≡ true
  edge-is-lawful =
      ap (lawful_edge n m) edge-cells
      ∙ and_from _ _
      (and_from _ _ (lt-ltb row.source m (omega (arith, row.from))) (lt-ltb row.target m (omega (arith, row.to))))
      (and_from _ _ (lt-ltb row.event n (omega (arith, row.on)))
      (and_from _ _
      (eq-eqb _ 8 (omega (arith, length-append row.bounds (replicate (8 - n) Any), length-replicate (8 - n) Any, bounds-count)))
      (lawful-bounds n 0 row.bounds (8 - n) row.lawful (omega (arith, bounds-count)))))

-- ---- one line more

abbrev Kept : List (List ℕ) → Parts → Type 0
Kept lines t = (so_far_at t.stage t ≡ lines) × GoodAt t.stage t

module _ (s t : Parts) (l : Line) where
  keeps-tick-head : GoodAt TickHead s → step_at TickHead s l ≡ Ok t → Kept (l.bytes ∷ []) t
  keeps-tick-head good h =
      let head = head-taken 2 (head_is tick_head l.bytes) l (at s TickRows) t h in
      let is = tick-head-is s.ticks l.bytes good.0 head.right in
      subst (Kept (l.bytes ∷ [])) head.goes (is.0, (is.1, good.1, good.2))

  keeps-tick-rows : GoodAt TickRows s → step_at TickRows s l ≡ Ok t → Kept (front s ++ (l.bytes ∷ [])) t
  keeps-tick-rows good h = ⊎_elim
      (λ ended. subst (Kept (front s ++ (l.bytes ∷ []))) ended.goes
      (ap (λ x. front s ++ (x ∷ [])) (sym (nil_from_length l.bytes ended.none)), ((good.0, ended.enough), good.1, good.2)))
      (λ row. subst (Kept (front s ++ (l.bytes ∷ []))) row.goes (ap (λ x. tick_head ∷ x) row.written, (row.good, good.1, good.2)))
      (tick-taken tick_limits s.ticks l (with_tick s) (at s PlaceHead) t refl h)

  keeps-place-head : GoodAt PlaceHead s → step_at PlaceHead s l ≡ Ok t → Kept ((front s ++ ([] ∷ [])) ++ (l.bytes ∷ [])) t
  keeps-place-head good h =
      let head = head-taken 1 (head_is place_head l.bytes) l (at s PlaceRows) t h in
      subst (Kept ((front s ++ ([] ∷ [])) ++ (l.bytes ∷ []))) head.goes (
        ap (λ ps. front s ++ ([] ∷ place_head ∷ place_lines 0 ps)) good.1
            ∙ ap (λ x. front s ++ ([] ∷ x ∷ [])) (sym (head-is place_head l.bytes head.right))
            ∙ sym (append_assoc (front s) ([] ∷ []) (l.bytes ∷ [])),
        (good.0, omega (arith, ap length good.1), good.2),
      )

  keeps-place-rows : GoodAt PlaceRows s → step_at PlaceRows s l ≡ Ok t → Kept ((front s ++ middle s) ++ (l.bytes ∷ [])) t
  keeps-place-rows good h = ⊎_elim
      (λ ended. subst (Kept ((front s ++ middle s) ++ (l.bytes ∷ []))) ended.goes
      (ap (λ x. (front s ++ middle s) ++ (x ∷ [])) (sym (nil_from_length l.bytes ended.none)), (good.0, (ended.enough, good.1), good.2)))
      (λ row.
      let k = length s.places in
      let is = row-is-written (Place' k) [] l.bytes row.cells row.row in
      let flags = place-row k row.cells is.1 in
      let p = place_from row.cells in
      let cells : place_cells (0 + k) p ≡ row.cells =
      (let e : 0 + k ≡ k = omega arith in ap (λ m. place_cells m p) e) ∙ ap (λ c. place_cells k (place_from c)) flags.2 ∙ sym flags.2 in
      subst (Kept ((front s ++ middle s) ++ (l.bytes ∷ []))) row.goes (
        ap (λ x. front s ++ ([] ∷ place_head ∷ x)) (places-push 0 s.places p ∙ ap (λ c. place_lines 0 s.places ++ (row_line [] c ∷ [])) cells
            ∙ ap (λ x. place_lines 0 s.places ++ (x ∷ [])) (sym is.0))
            ∙ sym (append_assoc (front s) (middle s) (l.bytes ∷ [])),
        (good.0, omega (arith, length_push s.places p, row.room), good.2),
      ))
      (row-taken place_limits (length s.places) (Place' (length s.places)) [] l (λ cells. with_place s (place_from cells)) (at s EdgeHead) t h)

  keeps-edge-head : GoodAt EdgeHead s → step_at EdgeHead s l ≡ Ok t → Kept (((front s ++ middle s) ++ ([] ∷ [])) ++ (l.bytes ∷ [])) t
  keeps-edge-head good h =
      let ws = words l.bytes in
      let head = head-taken 0 (edge_head_wrong ws) l (with_names s (drop 3 ws)) t h in
      let is = edge-head-is ws head.right in
      subst (Kept (((front s ++ middle s) ++ ([] ∷ [])) ++ (l.bytes ∷ []))) head.goes (
        ap (λ es. (front s ++ middle s) ++ ([] ∷ edge_head (drop 3 ws) ∷ edge_lines (drop 3 ws) es)) good.2
            ∙ ap (λ x. (front s ++ middle s) ++ ([] ∷ x ∷ [])) (sym is.0 ∙ unwords-of-words l.bytes)
            ∙ sym (append_assoc (front s ++ middle s) ([] ∷ []) (l.bytes ∷ [])),
        (
          good.0,
          good.1,
          is.1,
          (omega (arith, ap length good.2), ap (every (lawful_edge (length (drop 3 ws)) (length s.places))) good.2),
        ),
      )

  keeps-edge-rows : GoodAt EdgeRows s → step_at EdgeRows s l ≡ Ok t → Kept (((front s ++ middle s) ++ back s) ++ (l.bytes ∷ [])) t
  keeps-edge-rows good h = ⊎_elim
      (λ ended. absurd (omega (arith, ended.more)))
      (λ row.
      let n = length s.names in
      let m = length s.places in
      let kind = Edge' (m - 1) n in
      let is = row-is-written kind s.names l.bytes row.cells row.row in
      let edge = edge_row (m - 1) n s.names row.cells is.1 in
      let sizes = and_parts (leb 1 n && leb n 8) _ good.2 in
      let few = leb-true n 8 (and_parts (leb 1 n) (leb n 8) sizes.0).1 in
      let e = edge_from n row.cells in
      subst (Kept (((front s ++ middle s) ++ back s) ++ (l.bytes ∷ []))) row.goes (
        ap (λ x. (front s ++ middle s) ++ ([] ∷ edge_head s.names ∷ x))
            (rows-push s.names (edge_cells n) s.edges e row.cells l.bytes is.0 (edge-is-written m n s.names row.cells few good.1.0 refl edge))
            ∙ sym (append_assoc (front s ++ middle s) (back s) (l.bytes ∷ [])),
        (
          good.0,
          good.1,
          good.2,
          (
            omega (arith, length_push s.edges e, row.room),
            every-push (lawful_edge n m) s.edges e good.3.1 (edge-is-lawful m n s.names row.cells few good.1.0 refl edge),
          ),
        ),
      ))
      (row-taken edge_limits (length s.edges) (Edge' (length s.places - 1) (length s.names)) s.names l (λ cells. with_edge s (edge_from (length s.names) cells)) s t h)

pub keeps : (stage : Stage) (s t : Parts) (l : Line) → GoodAt stage s → step_at stage s l ≡ Ok t → Kept (so_far_at stage s ++ (l.bytes ∷ [])) t
keeps TickHead s t l good h = keeps-tick-head s t l good h
keeps TickRows s t l good h = keeps-tick-rows s t l good h
keeps PlaceHead s t l good h = keeps-place-head s t l good h
keeps PlaceRows s t l good h = keeps-place-rows s t l good h
keeps EdgeHead s t l good h = keeps-edge-head s t l good h
keeps EdgeRows s t l good h = keeps-edge-rows s t l good h

-- what holds of the parts stage by stage is kept
pub good-kept : (s t : Parts) (l : Line) → GoodAt s.stage s → table_step s l ≡ Ok t → GoodAt t.stage t
good-kept s t l good h = (keeps s.stage s t l good h).1

-- ---- the last line

pub last_line : (stage : Stage) (s t : Parts) (l : Line) → step_at stage s l ≡ Ok t → l.last ≡ true → (t.stage ≡ EdgeRows) × (l.ended ≡ true)
last_line TickHead s t l h last = absurd (none-lacks 2 l last (head-taken 2 (head_is tick_head l.bytes) l (at s TickRows) t h).whole (omega arith))
last_line TickRows s t l h last = ⊎_elim
    (λ ended. absurd (false≢true (sym ended.later ∙ last)))
    (λ row. absurd (none-lacks 2 l last row.whole (omega arith)))
    (row-taken tick_limits (length s.ticks) Tick [] l (λ cells. with_tick s (number_in (get_or cells 0 Absent))) (at s PlaceHead) t h)
last_line PlaceHead s t l h last = absurd (none-lacks 1 l last (head-taken 1 (head_is place_head l.bytes) l (at s PlaceRows) t h).whole (omega arith))
last_line PlaceRows s t l h last = ⊎_elim
    (λ ended. absurd (false≢true (sym ended.later ∙ last)))
    (λ row. absurd (none-lacks 1 l last row.whole (omega arith)))
    (row-taken place_limits (length s.places) (Place' (length s.places)) [] l (λ cells. with_place s (place_from cells)) (at s EdgeHead) t h)
last_line EdgeHead s t l h last =
    let head = head-taken 0 (edge_head_wrong (words l.bytes)) l (with_names s (drop 3 (words l.bytes))) t h in
    (ap (λ x. x.stage) (sym head.goes), ended-when-fine l head.fine)
last_line EdgeRows s t l h last = ⊎_elim
    (λ ended. absurd (omega (arith, ended.more)))
    (λ row. (ap (λ x. x.stage) (sym row.goes), ended-when-fine l row.fine))
    (row-taken edge_limits (length s.edges) (Edge' (length s.places - 1) (length s.names)) s.names l (λ cells. with_edge s (edge_from (length s.names) cells)) s t h)

-- ---- the whole text

finished : (stage : Stage) (s : Parts) → stage ≡ EdgeRows → GoodAt stage s → (so_far_at stage s ≡ table_lines (held s)) × (lawful (held s) ≡ true)
finished TickHead s e good = absurd (let z : ◌≡◌ {A = ℕ} 0 1 = cc in omega arith)
finished TickRows s e good = absurd (let z : ◌≡◌ {A = ℕ} 0 1 = cc in omega arith)
finished PlaceHead s e good = absurd (let z : ◌≡◌ {A = ℕ} 0 1 = cc in omega arith)
finished PlaceRows s e good = absurd (let z : ◌≡◌ {A = ℕ} 0 1 = cc in omega arith)
finished EdgeHead s e good = absurd (let z : ◌≡◌ {A = ℕ} 0 1 = cc in omega arith)
finished EdgeRows s e good =
    let one = one-tick s.ticks good.0 in (
      ap (λ ticks. ((tick_head ∷ tick_lines ticks) ++ middle s) ++ back s) one.0,
      and_from _ _ one.1
          (and_from _ _ good.2
          (and_from _ _ (and_from _ _ (le-leb 1 _ good.1.0) (le-leb _ 32 good.1.1))
          (and_from _ _ (le-leb _ 64 good.3.0) good.3.1))),
    )

-- A text that is taken is the text of the table that is read, and that table is lawful.
pub taken-is-written : (t : List ℕ) (s : Parts) → read_table t ≡ Ok s → (t ≡ table_text (held s)) × (lawful (held s) ≡ true)
taken-is-written t s h =
    let all = taken-was-walked 32768 table_step start (λ p before. Kept before p) (λ p. p.stage ≡ EdgeRows) (refl, (refl, refl, refl))
    (λ p q before l now taken. subst (λ x. Kept (x ++ (l.bytes ∷ [])) q) now.0 (keeps p.stage p q l now.1 taken))
    (λ p q l taken last. last_line p.stage p q l taken last)
    t s h in
    let done = finished s.stage s all.1 all.0.1 in
    (all.2 ∙ ap unlines (sym all.0.0 ∙ done.0), done.1)
