-- The text of a lawful table is taken, and gives that table. Assumes nothing.
use Rattle.std.proofs.Common.{◌≡◌, ℕ, zero, suc, ◌+◌, ◌-◌, ◌<◌, ◌≤◌, min, true, false, cond, ◌&&◌, eqb, ltb, leb, List, [], ◌∷◌, ◌++◌, map, length, get_or, take, drop, replicate, Ok, codes, sym, refl, ap, ◌∙◌, subst, append_assoc, append-nil, add-one, arith}
use Rattle.std.proofs.lemmas.List.{length_push, length-append, length-take, length-map, length-replicate, take-append-drop}
use Rattle.std.proofs.lemmas.Bool.{and_parts, and_from, leb-true, le-leb, ltb-true, lt-ltb, le-ltb, eqb-true, cond-true, cond-false, false≢true}
use Rattle.meaning.specs.declared.values.Bound.{Bound}
use Rattle.meaning.specs.declared.values.Bound.TheVariants.{Any, Never, AtLeast, Between}
use Rattle.meaning.specs.declared.values.Place.{Place}
use Rattle.meaning.specs.declared.values.Edge.{Edge}
use Rattle.meaning.specs.Tables.{Contents}
use Rattle.texts.specs.Lines.{words}
use Rattle.texts.specs.Numbers.{every}
use Rattle.clocks.specs.Letters.{lawful_name}
use Rattle.tables.specs.Lawful.{different, lawful_bound, is_any, lawful_bounds, lawful_edge, lawful_edges, lawful_names, lawful}
use Rattle.rows.specs.Rows.{row_line, suits_all, columns, number_in}
use Rattle.rows.specs.declared.cell.Cell.TheVariants.{Number, Absent, Bounded}
use Rattle.rows.specs.declared.cell.Column.TheVariants.{Limit}
use Rattle.rows.specs.declared.cell.RowKind.TheVariants.{Place as Place', Edge as Edge'}
use Rattle.rows.proofs.Plain.{every_append}
use Rattle.rows.proofs.Rows.{written-row-is, written-row-is-spaced, written-row-is-some}
use Rattle.formats.specs.declared.stage.Stage.{Stage}
use Rattle.formats.specs.declared.stage.Stage.TheVariants.{TickRows, PlaceHead, PlaceRows, EdgeHead, EdgeRows}
use Rattle.formats.specs.Walk.{is_nil, line_here, walk}
use Rattle.formats.specs.TableText.{Parts, at, with_tick, with_place, with_names, edge_head_wrong, place_from, edge_from, table_step, start, tick_head, place_head, edge_head, place_cells, place_lines, edge_cells, edge_lines, table_lines, table_text, read_table, place_limits}
use Rattle.formats.proofs.Clean.{clean, clean-is-short}
use Rattle.formats.proofs.TableRead.{unbound}
use Rattle.formats.proofs.Steps.{head-goes, row_goes, sheet-ends}
use Rattle.formats.proofs.Written.{fine, not_last, last-sheet, words-of-names, names-are-spaced, names-are-clean, alike-suit, row-is-clean, Walks, goes, rows-are-clean, rows-walk, tick-sheet-is-clean, tick-sheet-walk, text-is-taken}

-- ---- lines as they stand

nil-after : {X : Type 0} (xs : List X) (y : X) (ys : List X) → is_nil (xs ++ (y ∷ ys)) ≡ false
nil-after [] y ys = refl
nil-after (x ∷ xs) y ys = refl

-- ---- rows of each kind

place-suits : (k : ℕ) (p : Place) → k < 32 → suits_all (columns (Place' k)) [] 0 (place_cells k p) ≡ true
place-suits k p h =
    and_from _ _ (and_from _ _ (and_from _ _ (le-leb k k (omega arith)) (le-leb k k (omega arith))) (le-leb k 9999999999 (omega arith))) refl

-- The bounds of the first n events are lawful, and the others are `any`.
bounds_of : (n i : ℕ) (bs : List Bound) → lawful_bounds n i bs ≡ true → (every lawful_bound (take (n - i) bs) ≡ true) × (drop (n - i) bs ≡ replicate (length bs - (n - i)) Any)
bounds_of n i bs h = go (n - i) i bs (omega arith) h
  where
    any-is : (b : Bound) → is_any b ≡ true → b ≡ Any
    any-is Any e = refl
    any-is Never e = absurd (false≢true e)
    any-is (AtLeast a) e = absurd (false≢true e)
    any-is (Between a c) e = absurd (false≢true e)

    all_any : (j : ℕ) (cs : List Bound) → n ≤ j → lawful_bounds n j cs ≡ true → cs ≡ replicate (length cs) Any
    all_any j [] le e = refl
    all_any j (c ∷ cs) le e =
        let both = and_parts (cond (ltb j n) (lawful_bound c) (is_any c)) _ e in
        λ m. any-is c (sym (cond-false (ltb j n) (lawful_bound c) (is_any c) (le-ltb j n le)) ∙ both.0) m ∷ all_any (suc j) cs (omega arith) both.1 m

    go : (m j : ℕ) (cs : List Bound) → m ≡ n - j → lawful_bounds n j cs ≡ true → (every lawful_bound (take m cs) ≡ true) × (drop m cs ≡ replicate (length cs - m) Any)
    go zero j cs e g =
        (refl, all_any j cs (omega arith) g ∙ (let z : length cs ≡ length cs - 0 = omega arith in ap (λ k. replicate k Any) z))
    go (suc m) j [] e g = (refl, (let z : 0 ≡ 0 - suc m = omega arith in ap (λ k. replicate k Any) z))
    go (suc m) j (c ∷ cs) e g =
        let both = and_parts (cond (ltb j n) (lawful_bound c) (is_any c)) _ g in
        let rest = go m (suc j) cs (omega arith) both.1 in (
          and_from _ _ (sym (cond-true (ltb j n) (lawful_bound c) (is_any c) (lt-ltb j n (omega arith))) ∙ both.0) rest.0,
          rest.1 ∙ (let z : length cs - m ≡ suc (length cs) - suc m = omega arith in ap (λ k. replicate k Any) z),
        )

module _ (m n : ℕ) (names : List (List ℕ)) (e : Edge) (few : n ≤ 8) (fewer : m ≤ 32) (count : length names ≡ n) (lawful' : lawful_edge n m e ≡ true) where
  parts : (ltb e.source m && ltb e.target m) ≡ true
  parts = (and_parts (ltb e.source m && ltb e.target m) _ lawful').0

  rest : (ltb e.event n && (eqb (length e.bounds) 8 && lawful_bounds n 0 e.bounds)) ≡ true
  rest = (and_parts (ltb e.source m && ltb e.target m) _ lawful').1

  sized : (length e.bounds ≡ 8) × (lawful_bounds n 0 e.bounds ≡ true)
  sized = let two = and_parts (eqb (length e.bounds) 8) _ (and_parts (ltb e.event n) _ rest).1 in (eqb-true _ 8 two.0, two.1)

  bounds : (every lawful_bound (take n e.bounds) ≡ true) × (drop n e.bounds ≡ replicate (8 - n) Any)
  bounds =
      let is = bounds_of n 0 e.bounds sized.1 in
      let whole : n - 0 ≡ n = omega arith in
      let left : length e.bounds - n ≡ 8 - n = omega (arith, sized.0) in (
        subst (λ k. every lawful_bound (take k e.bounds) ≡ true) whole is.0,
        subst (λ k. drop k e.bounds ≡ replicate (length e.bounds - k) Any) whole is.1 ∙ ap (λ k. replicate k Any) left,
      )

  edge-suits : suits_all (columns (Edge' (m - 1) n)) names 0 (edge_cells n e) ≡ true
  edge-suits =
      let s = ltb-true e.source m (and_parts (ltb e.source m) _ parts).0 in
      let t = ltb-true e.target m (and_parts (ltb e.source m) _ parts).1 in
      let on = ltb-true e.event n (and_parts (ltb e.event n) _ rest).0 in
      let size : length (take n e.bounds) ≡ min n 8 = omega (arith, length-take n e.bounds, sized.0) in
      and_from _ _ (and_from _ _ (and_from _ _ (le-leb 0 e.source (omega arith)) (le-leb e.source (m - 1) (omega arith))) (le-leb e.source 9999999999 (omega arith)))
      (and_from _ _ (and_from _ _ (and_from _ _ (le-leb 0 e.target (omega arith)) (le-leb e.target (m - 1) (omega arith))) (le-leb e.target 9999999999 (omega arith)))
      (and_from _ _ (le-leb (e.event + 1) (length names) (omega arith))
      (subst (λ k. suits_all (replicate k Limit) names 0 (map Bounded (take n e.bounds)) ≡ true) size (alike-suit Bounded lawful_bound Limit (λ others before b g. g) names 0 (take n e.bounds) bounds.0))))

  edge-back : edge_from n (edge_cells n e) ≡ e
  edge-back =
      ap (λ bs. record { source = e.source; target = e.target; event = e.event; bounds = bs })
      (ap (λ bs. bs ++ replicate (8 - n) Any) (unbound (take n e.bounds))
      ∙ ap (λ bs. take n e.bounds ++ bs) (sym bounds.1) ∙ take-append-drop n e.bounds)

-- ---- the walk along the lines of a table

abbrev ticked : ℕ → Stage → Parts
ticked tick stage = record { stage = stage; ticks = tick ∷ []; places = []; names = []; edges = [] }

abbrev placed : ℕ → List Place → Stage → Parts
placed tick ps stage = record { stage = stage; ticks = tick ∷ []; places = ps; names = []; edges = [] }

abbrev edged : Contents → List Edge → Parts
edged t es = record { stage = EdgeRows; ticks = t.tick ∷ []; places = t.places; names = t.names; edges = es }

places-walk : (tick : ℕ) (f : Parts) (tail : List (List ℕ)) → is_nil tail ≡ false → (ps front : List Place) → length front + length ps ≤ 32
    → Walks table_step (placed tick (front ++ ps) PlaceRows) tail f → Walks table_step (placed tick front PlaceRows) (place_lines (length front) ps ++ tail) f
places-walk tick f tail more [] front few on = λ k. sym (ap (λ x. walk table_step true (placed tick x PlaceRows) k tail) (append-nil front)) ∙ on k
places-walk tick f tail more (p ∷ ps) front few on =
    let here = row_line [] (place_cells (length front) p) in
    let after = place_lines (suc (length front)) ps ++ tail in
    let fits = place-suits (length front) p (omega arith) in
    let step : table_step (placed tick front PlaceRows) (line_here true here after) ≡ Ok (placed tick (front ++ (p ∷ [])) PlaceRows) =
    row_goes place_limits (length front) (Place' (length front)) [] (line_here true here after) (λ cells. with_place (placed tick front PlaceRows) (place_from cells)) (placed tick front EdgeHead) (placed tick front PlaceRows)
    (place_cells (length front) p)
    (written-row-is-some (Place' (length front)) [] (place_cells (length front) p) refl fits)
    (fine here after (written-row-is-spaced (Place' (length front)) [] (place_cells (length front) p) refl fits))
    (not_last 1 here after (later (place_lines (suc (length front)) ps)))
    (omega arith)
    (written-row-is (Place' (length front)) [] (place_cells (length front) p) refl fits refl) in
    let next : Walks table_step (placed tick (front ++ (p ∷ [])) PlaceRows) after f =
    subst (λ n. Walks table_step (placed tick (front ++ (p ∷ [])) PlaceRows) (place_lines n ps ++ tail) f) (length_push front p ∙ add-one (length front))
    (places-walk tick f tail more ps (front ++ (p ∷ [])) (omega (arith, length_push front p))
    (λ k. ap (λ x. walk table_step true (placed tick x PlaceRows) k tail) (append_assoc front (p ∷ []) ps) ∙ on k)) in
    goes table_step (placed tick front PlaceRows) (placed tick (front ++ (p ∷ [])) PlaceRows) f here after step next
  where
    later : (xs : List (List ℕ)) → is_nil (xs ++ tail) ≡ false
    later [] = more
    later (x ∷ xs) = refl

-- ---- the head of the edges

abbrev after_from : List (List ℕ) → List (List ℕ)
after_from names = codes "to" ∷ codes "on" ∷ names

head-is-right : (names : List (List ℕ)) → lawful_names names ≡ true → every lawful_name names ≡ true → edge_head_wrong (words (edge_head names)) ≡ 0
head-is-right names h named =
    let both = and_parts (leb 1 (length names) && leb (length names) 8) _ h in
    ap edge_head_wrong (words-of-names (codes "from") (after_from names) named) ∙ (λ i. cond (both.1 i) (cond (both.0 i) 0 7) 4)

-- ---- the whole walk

-- where all lines of a text of this table have been read
abbrev pub table_parts : Contents → Parts
table_parts t = edged t t.edges

module _ (t : Contents) (h : lawful t ≡ true) where
  tick-range : (leb 1 t.tick && leb t.tick 60000) ≡ true
  tick-range = (and_parts (leb 1 t.tick && leb t.tick 60000) _ h).0

  others : (lawful_names t.names && ((leb 1 (length t.places) && leb (length t.places) 32) && lawful_edges (length t.names) (length t.places) t.edges)) ≡ true
  others = (and_parts (leb 1 t.tick && leb t.tick 60000) _ h).1

  names-lawful : lawful_names t.names ≡ true
  names-lawful = (and_parts (lawful_names t.names) _ others).0

  names-split : ((leb 1 (length t.names) && leb (length t.names) 8) ≡ true) × ((every lawful_name t.names && different t.names) ≡ true)
  names-split = and_parts (leb 1 (length t.names) && leb (length t.names) 8) (every lawful_name t.names && different t.names) names-lawful

  few-names : length t.names ≤ 8
  few-names = leb-true (length t.names) 8 (and_parts (leb 1 (length t.names)) _ names-split.0).1

  named : every lawful_name t.names ≡ true
  named = (and_parts (every lawful_name t.names) _ names-split.1).0

  apart : different t.names ≡ true
  apart = (and_parts (every lawful_name t.names) _ names-split.1).1

  places-split : ((leb 1 (length t.places) && leb (length t.places) 32) ≡ true) × (lawful_edges (length t.names) (length t.places) t.edges ≡ true)
  places-split = and_parts (leb 1 (length t.places) && leb (length t.places) 32) _ (and_parts (lawful_names t.names) _ others).1

  some-places : 1 ≤ length t.places
  some-places = leb-true 1 (length t.places) (and_parts (leb 1 (length t.places)) _ places-split.0).0

  few-places : length t.places ≤ 32
  few-places = leb-true (length t.places) 32 (and_parts (leb 1 (length t.places)) _ places-split.0).1

  few-edges : length t.edges ≤ 64
  few-edges = leb-true (length t.edges) 64 (and_parts (leb (length t.edges) 64) _ places-split.1).0

  edges-lawful : every (lawful_edge (length t.names) (length t.places)) t.edges ≡ true
  edges-lawful = (and_parts (leb (length t.edges) 64) _ places-split.1).1

  suit : (e : Edge) → lawful_edge (length t.names) (length t.places) e ≡ true
      → suits_all (columns (Edge' (length t.places - 1) (length t.names))) t.names 0 (edge_cells (length t.names) e) ≡ true
  suit e g = edge-suits (length t.places) (length t.names) t.names e few-names few-places refl g

  from-edge-head : Walks table_step (placed t.tick t.places EdgeHead) (edge_head t.names ∷ edge_lines t.names t.edges) (edged t t.edges)
  from-edge-head =
      let head = edge_head t.names in
      let after = edge_lines t.names t.edges in
      goes table_step (placed t.tick t.places EdgeHead) (edged t []) (edged t t.edges) head after
      (head-goes 0 (edge_head_wrong (words head)) (line_here true head after) (with_names (placed t.tick t.places EdgeHead) (drop 3 (words head)))
      (fine head after (names-are-spaced (codes "from") (after_from t.names) named)) (last-sheet (line_here true head after)) (head-is-right t.names names-lawful named)
      ∙ ap (λ ws. Ok (with_names (placed t.tick t.places EdgeHead) (drop 3 ws))) (words-of-names (codes "from") (after_from t.names) named))
      (rows-walk (Edge' (length t.places - 1) (length t.names)) t.names (edge_cells (length t.names)) (lawful_edge (length t.names) (length t.places)) named suit
      table_step (edged t) 0 64 (edge_from (length t.names)) apart (λ front l. refl)
      (λ e g. edge-back (length t.places) (length t.names) t.names e few-names few-places refl g)
      t.edges [] (omega (arith, few-edges)) edges-lawful)

  from-places-end : Walks table_step (placed t.tick t.places PlaceRows) ([] ∷ edge_head t.names ∷ edge_lines t.names t.edges) (edged t t.edges)
  from-places-end =
      let after = edge_head t.names ∷ edge_lines t.names t.edges in
      goes table_step (placed t.tick t.places PlaceRows) (placed t.tick t.places EdgeHead) (edged t t.edges) [] after
      (sheet-ends place_limits (length t.places) (Place' (length t.places)) [] (line_here true [] after) (λ cells. with_place (placed t.tick t.places PlaceRows) (place_from cells))
      (placed t.tick t.places EdgeHead) (placed t.tick t.places EdgeHead) refl (omega arith) refl some-places)
      from-edge-head

  from-place-head : Walks table_step (ticked t.tick PlaceHead) (place_head ∷ (place_lines 0 t.places ++ ([] ∷ edge_head t.names ∷ edge_lines t.names t.edges))) (edged t t.edges)
  from-place-head =
      let end = edge_head t.names ∷ edge_lines t.names t.edges in
      let after = place_lines 0 t.places ++ ([] ∷ end) in
      goes table_step (ticked t.tick PlaceHead) (placed t.tick [] PlaceRows) (edged t t.edges) place_head after
      (head-goes 1 0 (line_here true place_head after) (placed t.tick [] PlaceRows) (fine place_head after refl) (not_last 1 place_head after (nil-after (place_lines 0 t.places) [] end)) refl)
      (places-walk t.tick (edged t t.edges) ([] ∷ end) refl t.places [] (omega (arith, few-places)) from-places-end)

  pub lines-are-taken : Walks table_step start (table_lines t) (edged t t.edges)
  lines-are-taken =
      tick-sheet-walk t.tick tick-range table_step 2
      start (at start TickRows) (ticked t.tick TickRows) (ticked t.tick PlaceHead) (edged t t.edges)
      (λ cells. with_tick (at start TickRows) (number_in (get_or cells 0 Absent)))
      (λ cells. with_tick (ticked t.tick TickRows) (number_in (get_or cells 0 Absent)))
      (at start PlaceHead) (omega arith) (λ l. refl) (λ l. refl) refl (λ l. refl)
      place_head (place_lines 0 t.places ++ ([] ∷ edge_head t.names ∷ edge_lines t.names t.edges)) from-place-head

  -- ---- the whole text

  places-are-clean : (k : ℕ) (ps : List Place) → k + length ps ≤ 32 → every (clean 143) (place_lines k ps) ≡ true
  places-are-clean k [] few = refl
  places-are-clean k (p ∷ ps) few =
      and_from _ _ (row-is-clean (Place' k) [] (place_cells k p) (omega arith) refl (place-suits k p (omega arith))) (places-are-clean (suc k) ps (omega arith))

  edge-columns : (most n : ℕ) → length (columns (Edge' most n)) ≤ 11
  edge-columns most n = omega (arith, length-replicate (min n 8) Limit)

  lines-are-clean : every (clean 143) (table_lines t) ≡ true
  lines-are-clean =
      tick-sheet-is-clean t.tick tick-range (place_head ∷ (place_lines 0 t.places ++ ([] ∷ edge_head t.names ∷ edge_lines t.names t.edges)))
      (and_from (clean 143 place_head) _ refl
      (every_append (clean 143) (place_lines 0 t.places) ([] ∷ edge_head t.names ∷ edge_lines t.names t.edges)
      (places-are-clean 0 t.places (omega (arith, few-places)))
      (and_from (clean 143 []) _ refl
      (and_from _ _ (names-are-clean (codes "from") (after_from t.names) named (omega (arith, few-names)))
      (rows-are-clean (Edge' (length t.places - 1) (length t.names)) t.names (edge_cells (length t.names)) (lawful_edge (length t.names) (length t.places)) named suit
      (edge-columns (length t.places - 1) (length t.names)) t.edges edges-lawful)))))

  length-places : (k : ℕ) (ps : List Place) → length (place_lines k ps) ≡ length ps
  length-places k [] = refl
  length-places k (p ∷ ps) = ap suc (length-places (suc k) ps)

  lines-are-few : length (table_lines t) ≤ 102
  lines-are-few =
      omega (
        arith,
        length-append (place_lines 0 t.places) ([] ∷ edge_head t.names ∷ edge_lines t.names t.edges),
        length-places 0 t.places,
        length-map t.edges (λ e. row_line t.names (edge_cells (length t.names) e)),
        few-places,
        few-edges,
      )

  -- The text of a lawful table is taken, and gives that table.
  pub written-is-taken : read_table (table_text t) ≡ Ok (edged t t.edges)
  written-is-taken =
      text-is-taken 32768 table_step start (edged t t.edges) tick_head
      (row_line [] (Number t.tick ∷ []) ∷ [] ∷ place_head ∷ (place_lines 0 t.places ++ ([] ∷ edge_head t.names ∷ edge_lines t.names t.edges)))
      lines-are-clean (omega (arith, clean-is-short 143 (table_lines t) lines-are-clean, lines-are-few)) lines-are-taken
