-- One row more, as the reader of table texts adds it. Assumes nothing.
use Rattle.std.proofs.Common.{◌≡◌, ℕ, zero, suc, ◌-◌, ◌<◌, ◌≤◌, Bool, ◌&&◌, ltb, leb, List, [], ◌∷◌, ◌++◌, map, length, get_or, drop, replicate, Some, None, Ok, Err, Option, Result, sym, refl, ap, ◌∙◌, subst, ⊎_elim, arith}
use Rattle.std.proofs.lemmas.Bool.{and_parts, leb-true}
use Rattle.std.proofs.lemmas.List.{nil_from_length, length-map, map-append}
use Rattle.meaning.specs.declared.values.Bound.{Bound}
use Rattle.meaning.specs.declared.values.Bound.TheVariants.{Any}
use Rattle.rows.specs.Rows.{and_then, padded, number_in, flag_in, event_in, bound_in}
use Rattle.rows.specs.declared.cell.Cell.{Cell}
use Rattle.rows.specs.declared.cell.Cell.TheVariants.{Number, Absent, Flag, Event, Bounded}
use Rattle.rows.specs.declared.cell.Row.{Row}
use Rattle.rows.specs.declared.cell.RowKind.{RowKind}
use Rattle.rows.specs.declared.cell.RowKind.TheVariants.{Tick, Place as Place', Edge as Edge', Distance as Distance'}
use Rattle.rows.proofs.Rows.{row-is-written}
use Rattle.formats.specs.declared.stage.Stage.TheVariants.{PlaceRows, EdgeHead, EdgeRows}
use Rattle.formats.specs.Walk.{Line, Limits, row_step}
use Rattle.formats.specs.TableText.{Parts, at, with_place, with_edge, place_from, edge_from, step_at, tick_in, tick_judged, place_limits, edge_limits}
use Rattle.formats.specs.declared.distance.DistanceStage.TheVariants.{LineRows}
use Rattle.formats.specs.DistanceText.{DistanceParts, distance_cells, distance_from, distance_step_at, line_limits, with_distance}
use Rattle.formats.proofs.DistanceRead.{distance-row}
use Rattle.formats.proofs.Columns.{tick-row, place-row, edge_row}
use Rattle.std.specs.Option.{option_map}
use Rattle.formats.specs.Faults.{Agrees}
use Rattle.formats.specs.EntryLines.{Says}
use Rattle.formats.specs.declared.fault.LineFault.{LineFault}
use Rattle.formats.proofs.Steps.{agrees-after, some_row, row-taken, row_read, row-fails, row-natural, sheet-ended}

abbrev pub Judged : Limits → ℕ → RowKind → List (List ℕ) → Line → Result (Option Row) ℕ
Judged limits count kind names l = row_step limits count kind names l some_row None

-- what the judgement is, once it is known which way it went
pub judged-as : (d : Result (Option Row) ℕ) (j k : Option Row) → d ≡ Ok j → j ≡ k → d ≡ Ok k
judged-as d j k h e = h ∙ ap Ok e

-- what an answer says of a row, it says of the row's cells
pub cells-said : (limits : Limits) (count : ℕ) (kind : RowKind) (names : List (List ℕ)) (l : Line) (r : Result (Option Row) LineFault) → Says r (Judged limits count kind names l)
    → Agrees (option_map (λ x. x.cells)) r (row_step limits count kind names l (λ cells. Some (padded cells)) None)
cells-said limits count kind names l r h =
    let cells : Option Row → Option (List Cell) = option_map (λ x. x.cells) in
    subst (Agrees cells r) (sym (row-natural limits count kind names l some_row None cells)) (agrees-after cells r (Judged limits count kind names l) h)

-- ---- the tick, as the code judges it

module _ (limits : Limits) (count : ℕ) (l : Line) where
  abbrev tick_of : List Cell → Option ℕ
  tick_of cells = Some (number_in (get_or cells 0 Absent))

  pub tick-fails : (n : ℕ) → Judged limits count Tick [] l ≡ Err n → tick_in limits count l ≡ Err n
  tick-fails n h = row-fails limits count Tick [] l tick_of None n h

  pub tick-ends : Judged limits count Tick [] l ≡ Ok None → tick_in limits count l ≡ Ok None
  tick-ends h = sheet-ended limits count Tick [] l tick_of None h

  pub tick-read : (x : Row) (d : Cell) (v : ℕ) → Judged limits count Tick [] l ≡ Ok (Some x) → v ≡ number_in (get_or x.cells 0 d)
      → (tick_in limits count l ≡ Ok (Some v)) × (v ≤ 60000)
  tick-read x d v h value =
      let read = row_read limits count Tick [] l tick_of None x h in
      let n = tick-row read.cells (row-is-written Tick [] l.bytes read.cells read.row).1 in
      let first : v ≡ n.0 = value ∙ ap (λ ys. number_in (get_or ys 0 d)) (sym read.padding ∙ ap padded n.1) in
      let told : number_in (get_or read.cells 0 Absent) ≡ v = ap (λ ys. number_in (get_or ys 0 Absent)) n.1 ∙ sym first in
      (read.goes ∙ ap (λ y. Ok (Some y)) told, omega (arith, first, n.3))

  -- a tick is read only where there is room
  tick-has-room : (v : ℕ) → tick_in limits count l ≡ Ok (Some v) → count < limits.most
  tick-has-room v h = ⊎_elim
      (λ ended. absurd (let e = ended.goes in let z : ◌≡◌ {A = ℕ} 0 1 = cc in omega arith))
      (λ row. row.room)
      (row-taken limits count Tick [] l tick_of None (Some v) h)

-- The step of a reader that holds ticks, by what the judge of ticks told.
module _ {S : Type 0} (more : ℕ) (ticks : List ℕ) (l : Line) (with : List ℕ → S) (closed : S) (k : ℕ) (is : k ≡ length ticks) where
  abbrev step : Result S ℕ
  step = row_step (record { least = 1; most = 1; more = more }) (length ticks) Tick [] l (λ cells. with (ticks ++ (number_in (get_or cells 0 Absent) ∷ []))) closed

  abbrev after : Option ℕ → S
  after None = closed
  after (Some v) = with (ticks ++ (v ∷ []))

  step_is : step ≡ and_then (tick_judged more k l) (λ x. Ok (after x))
  step_is =
      row-natural (record { least = 1; most = 1; more = more }) (length ticks) Tick [] l (λ cells. Some (number_in (get_or cells 0 Absent))) None after
      ∙ ap (λ n. and_then (tick_judged more n l) (λ x. Ok (after x))) (sym is)

  pub tick-step-fails : (n : ℕ) → tick_judged more k l ≡ Err n → step ≡ Err n
  tick-step-fails n h = step_is ∙ ap (λ d. and_then d (λ x. Ok (after x))) h

  pub tick-step-ends : tick_judged more k l ≡ Ok None → step ≡ Ok closed
  tick-step-ends h = step_is ∙ ap (λ d. and_then d (λ x. Ok (after x))) h

  pub tick-step-goes : (v : ℕ) → tick_judged more k l ≡ Ok (Some v) → step ≡ Ok (with (v ∷ []))
  tick-step-goes v h =
      let none : ticks ≡ [] = nil_from_length ticks (omega (arith, tick-has-room (record { least = 1; most = 1; more = more }) k l v h)) in
      step_is ∙ ap (λ d. and_then d (λ x. Ok (after x))) h ∙ ap (λ xs. Ok (with (xs ++ (v ∷ [])))) none

module _ (s : Parts) (l : Line) (k : ℕ) (is : k ≡ length s.places) where
  pub place-fails : (m : ℕ) → Judged place_limits k (Place' k) [] l ≡ Err m → step_at PlaceRows s l ≡ Err m
  place-fails m h =
      row-fails place_limits (length s.places) (Place' (length s.places)) [] l (λ cells. with_place s (place_from cells)) (at s EdgeHead) m
      (subst (λ n. Judged place_limits n (Place' n) [] l ≡ Err m) is h)

  pub place-ends : Judged place_limits k (Place' k) [] l ≡ Ok None → step_at PlaceRows s l ≡ Ok (at s EdgeHead)
  place-ends h =
      sheet-ended place_limits (length s.places) (Place' (length s.places)) [] l (λ cells. with_place s (place_from cells)) (at s EdgeHead)
      (subst (λ n. Judged place_limits n (Place' n) [] l ≡ Ok None) is h)

  pub place_read : (x : Row) (d : Cell) (a b : Bool) → Judged place_limits k (Place' k) [] l ≡ Ok (Some x) → a ≡ flag_in (get_or x.cells 1 d) → b ≡ flag_in (get_or x.cells 2 d)
      → step_at PlaceRows s l ≡ Ok (with_place s (record { start = a; accepting = b }))
  place_read x d a b h one two =
      let read = row_read place_limits (length s.places) (Place' (length s.places)) [] l (λ cells. with_place s (place_from cells)) (at s EdgeHead) x
      (subst (λ n. Judged place_limits n (Place' n) [] l ≡ Ok (Some x)) is h) in
      let flags = place-row (length s.places) read.cells (row-is-written (Place' (length s.places)) [] l.bytes read.cells read.row).1 in
      let same : x.cells ≡ padded (Number (length s.places) ∷ Flag flags.0 ∷ Flag flags.1 ∷ []) = sym read.padding ∙ ap padded flags.2 in
      let first : a ≡ flags.0 = one ∙ ap (λ ys. flag_in (get_or ys 1 d)) same in
      let second : b ≡ flags.1 = two ∙ ap (λ ys. flag_in (get_or ys 2 d)) same in
      read.goes ∙ ap (λ c. Ok (with_place s (place_from c))) flags.2 ∙ (λ i. Ok (with_place s (record { start = sym first i; accepting = sym second i })))

-- ---- edges

any_cells : (k : ℕ) → map bound_in (replicate k Absent) ≡ replicate k Any
any_cells zero = refl
any_cells (suc k) = ap (λ xs. Any ∷ xs) (any_cells k)

module _ (s : Parts) (l : Line) (k m n : ℕ) (few : length s.names ≤ 8) (fewer : length s.places ≤ 32) (names : List (List ℕ))
    (is : k ≡ length s.edges) (most : m ≡ length s.places - 1) (count : n ≡ length s.names) (named : names ≡ s.names) where
  abbrev next : List Cell → Parts
  next cells = with_edge s (edge_from (length s.names) cells)

  here : (P : Result (Option Row) ℕ → Type 0) → P (Judged edge_limits k (Edge' m n) names l)
      → P (Judged edge_limits (length s.edges) (Edge' (length s.places - 1) (length s.names)) s.names l)
  here P h = subst P (λ i. Judged edge_limits (is i) (Edge' (most i) (count i)) (named i) l) h

  pub edge-fails : (j : ℕ) → Judged edge_limits k (Edge' m n) names l ≡ Err j → step_at EdgeRows s l ≡ Err j
  edge-fails j h =
      row-fails edge_limits (length s.edges) (Edge' (length s.places - 1) (length s.names)) s.names l next s j (here (λ d. d ≡ Err j) h)

  pub edges-do-not-end : Judged edge_limits k (Edge' m n) names l ≡ Ok None → ⊥
  edges-do-not-end h = ⊎_elim
      (λ ended. omega (arith, ended.more))
      (λ row. let e = row.goes in let z : ◌≡◌ {A = ℕ} 0 1 = cc in omega arith)
      (row-taken edge_limits k (Edge' m n) names l some_row None None h)

  pub edge-read : (x : Row) (d : Cell) (a b e : ℕ) (bs : List Bound) → Judged edge_limits k (Edge' m n) names l ≡ Ok (Some x)
      → a ≡ number_in (get_or x.cells 0 d) → b ≡ number_in (get_or x.cells 1 d) → e ≡ event_in (get_or x.cells 2 d) → bs ≡ map bound_in (drop 3 x.cells)
      → (step_at EdgeRows s l ≡ Ok (with_edge s (record { source = a; target = b; event = e; bounds = bs }))) × (a ≤ 32) × (b ≤ 32)
  edge-read x d a b e bs h one two three four =
      let kind = Edge' (length s.places - 1) (length s.names) in
      let read = row_read edge_limits (length s.edges) kind s.names l next s x (here (λ r. r ≡ Ok (Some x)) h) in
      let row = edge_row (length s.places - 1) (length s.names) s.names read.cells (row-is-written kind s.names l.bytes read.cells read.row).1 in
      let cells = Number row.source ∷ Number row.target ∷ Event row.event ∷ map Bounded row.bounds in
      let size : length row.bounds ≡ length s.names = omega (arith, row.count) in
      let left : 11 - length cells ≡ 8 - length s.names = omega (arith, length-map row.bounds Bounded, size) in
      let same : x.cells ≡ cells ++ replicate (8 - length s.names) Absent = sym read.padding ∙ ap padded row.cells_are ∙ ap (λ j. cells ++ replicate j Absent) left in
      let src : a ≡ row.source = one ∙ ap (λ ys. number_in (get_or ys 0 d)) same in
      let tgt : b ≡ row.target = two ∙ ap (λ ys. number_in (get_or ys 1 d)) same in
      let on : e ≡ row.event = three ∙ ap (λ ys. event_in (get_or ys 2 d)) same in
      let bounds : bs ≡ map bound_in (map Bounded row.bounds) ++ replicate (8 - length s.names) Any =
      four ∙ ap (λ ys. map bound_in (drop 3 ys)) same
      ∙ map-append bound_in (map Bounded row.bounds) (replicate (8 - length s.names) Absent)
      ∙ ap (λ ys. map bound_in (map Bounded row.bounds) ++ ys) (any_cells (8 - length s.names)) in (
        read.goes ∙ ap (λ c. Ok (with_edge s (edge_from (length s.names) c))) row.cells_are
            ∙ (λ i. Ok (with_edge s (record { source = sym src i; target = sym tgt i; event = sym on i; bounds = sym bounds i }))),
        omega (arith, src, row.from),
        omega (arith, tgt, row.to),
      )

-- ---- distances

module _ (names : List (List ℕ)) (s : DistanceParts) (l : Line) (k : ℕ) (is : k ≡ length s.lines) where
  abbrev distance_next : List Cell → DistanceParts
  distance_next cells = with_distance s (distance_from cells)

  pub distance-fails : (n : ℕ) → Judged line_limits k Distance' names l ≡ Err n → distance_step_at names LineRows s l ≡ Err n
  distance-fails n h = row-fails line_limits (length s.lines) Distance' names l distance_next s n (subst (λ j. Judged line_limits j Distance' names l ≡ Err n) is h)

  pub distances-do-not-end : Judged line_limits k Distance' names l ≡ Ok None → ⊥
  distances-do-not-end h = ⊎_elim
      (λ ended. omega (arith, ended.more))
      (λ row. let e = row.goes in let z : ◌≡◌ {A = ℕ} 0 1 = cc in omega arith)
      (row-taken line_limits k Distance' names l some_row None None h)

  pub distance_read : (x : Row) (d : Cell) (a b c e : ℕ) → Judged line_limits k Distance' names l ≡ Ok (Some x)
      → a ≡ event_in (get_or x.cells 0 d) → b ≡ event_in (get_or x.cells 1 d) → c ≡ number_in (get_or x.cells 2 d) → e ≡ number_in (get_or x.cells 3 d)
      → (distance_step_at names LineRows s l ≡ Ok (with_distance s (record { on = a; since = b; least = c; most = e }))) × (c ≤ 250) × (e ≤ 250)
  distance_read x d a b c e h one two three four =
      let read = row_read line_limits (length s.lines) Distance' names l distance_next s x (subst (λ j. Judged line_limits j Distance' names l ≡ Ok (Some x)) is h) in
      let row = distance-row names read.cells (row-is-written Distance' names l.bytes read.cells read.row).1 in
      let f = distance_from read.cells in
      let same : x.cells ≡ padded (distance_cells f) = sym read.padding ∙ ap padded (sym row.0) in
      let on : a ≡ f.on = one ∙ ap (λ ys. event_in (get_or ys 0 d)) same in
      let since : b ≡ f.since = two ∙ ap (λ ys. event_in (get_or ys 1 d)) same in
      let least : c ≡ f.least = three ∙ ap (λ ys. number_in (get_or ys 2 d)) same in
      let most : e ≡ f.most = four ∙ ap (λ ys. number_in (get_or ys 3 d)) same in
      let sizes = and_parts (leb f.least f.most) (leb f.most 250) (and_parts (ltb f.on (length names) && ltb f.since (length names)) _ row.1).1 in
      let low = leb-true f.least f.most sizes.0 in
      let high = leb-true f.most 250 sizes.1 in (
        read.goes ∙ (λ i. Ok (with_distance s (record { on = sym on i; since = sym since i; least = sym least i; most = sym most i }))),
        omega (arith, least, low, high),
        omega (arith, most, high),
      )
