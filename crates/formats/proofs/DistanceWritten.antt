-- The text of lawful distances is taken, and gives those distances. Assumes nothing.
use Rattle.std.proofs.Common.{◌≡◌, ℕ, ◌+◌, ◌≤◌, true, ◌&&◌, ltb, leb, List, [], ◌∷◌, length, get_or, Ok, refl, arith}
use Rattle.std.proofs.lemmas.List.{length-map}
use Rattle.std.proofs.lemmas.Bool.{and_parts, and_from, leb-true, le-leb, ltb-true}
use Rattle.texts.specs.Numbers.{every}
use Rattle.clocks.specs.Letters.{lawful_name}
use Rattle.tables.specs.Lawful.{different}
use Rattle.rows.specs.Rows.{row_line, suits_all, columns, number_in}
use Rattle.rows.specs.declared.cell.Cell.TheVariants.{Number, Absent}
use Rattle.rows.specs.declared.cell.RowKind.TheVariants.{Distance as Distance'}
use Rattle.formats.specs.declared.distance.Distance.{Distance}
use Rattle.formats.specs.declared.distance.DistanceStage.{DistanceStage}
use Rattle.formats.specs.declared.distance.DistanceStage.TheVariants.{TickRows, LineHead, LineRows}
use Rattle.formats.specs.Walk.{line_here}
use Rattle.formats.specs.TableText.{tick_head}
use Rattle.formats.specs.DistanceText.{Distances, lawful_distance, lawful_distances, line_head, distance_cells, distance_rows, distance_lines, distance_text, DistanceParts, distance_start, distances_read, distance_at, distance_from, with_distance_tick, distance_step, read_distances}
use Rattle.formats.proofs.Clean.{clean, clean-is-short}
use Rattle.formats.proofs.Steps.{head-goes}
use Rattle.formats.proofs.Written.{fine, last-sheet, Walks, goes, rows-are-clean, rows-walk, tick-sheet-is-clean, tick-sheet-walk, text-is-taken}

distance-suits : (names : List (List ℕ)) (d : Distance) → lawful_distance (length names) d ≡ true → suits_all (columns Distance') names 0 (distance_cells d) ≡ true
distance-suits names d h =
    let both = and_parts (ltb d.on (length names) && ltb d.since (length names)) _ h in
    let events = and_parts (ltb d.on (length names)) _ both.0 in
    let ends = and_parts (leb d.least d.most) _ both.1 in
    let most : d.most ≤ 250 = leb-true d.most 250 ends.1 in
    let low : d.least ≤ d.most = leb-true d.least d.most ends.0 in
    and_from _ _ (le-leb (d.on + 1) (length names) (omega (arith, ltb-true d.on (length names) events.0)))
    (and_from _ _ (le-leb (d.since + 1) (length names) (omega (arith, ltb-true d.since (length names) events.1)))
    (and_from _ _ (and_from _ _ (and_from _ _ (le-leb 0 d.least (omega arith)) (le-leb d.least 250 (omega arith))) (le-leb d.least 9999999999 (omega arith)))
    (and_from _ _ (and_from _ _ (and_from _ _ ends.0 ends.1) (le-leb d.most 9999999999 (omega arith))) refl)))

-- what has been read of these distances, where some lines of them have
abbrev so_far : ℕ → DistanceStage → List Distance → DistanceParts
so_far tick stage ds = record { stage = stage; ticks = tick ∷ []; lines = ds }

module _ (names : List (List ℕ)) (named : every lawful_name names ≡ true) (apart : different names ≡ true) (d : Distances) (h : lawful_distances names d ≡ true) where
  parts : ((leb 1 d.tick && leb d.tick 60000) ≡ true) × ((leb (length d.lines) 16 && every (lawful_distance (length names)) d.lines) ≡ true)
  parts = and_parts (leb 1 d.tick && leb d.tick 60000) _ h

  lines-lawful : (length d.lines ≤ 16) × (every (lawful_distance (length names)) d.lines ≡ true)
  lines-lawful = let both = and_parts (leb (length d.lines) 16) _ parts.1 in (leb-true (length d.lines) 16 both.0, both.1)

  from-line-head : Walks (distance_step names) (so_far d.tick LineHead []) (line_head ∷ distance_rows names d.lines) (distances_read d)
  from-line-head =
      let after = distance_rows names d.lines in
      goes (distance_step names) (so_far d.tick LineHead []) (so_far d.tick LineRows []) (distances_read d) line_head after
      (head-goes 0 0 (line_here true line_head after) (so_far d.tick LineRows []) (fine line_head after refl) (last-sheet (line_here true line_head after)) refl)
      (rows-walk Distance' names distance_cells (lawful_distance (length names)) named (distance-suits names)
      (distance_step names) (so_far d.tick LineRows) 0 16 distance_from apart (λ front l. refl) (λ x g. refl) d.lines [] (omega (arith, lines-lawful.0)) lines-lawful.1)

  pub lines-are-taken : Walks (distance_step names) distance_start (distance_lines names d) (distances_read d)
  lines-are-taken =
      tick-sheet-walk d.tick parts.0 (distance_step names) 1
      distance_start (distance_at distance_start TickRows) (so_far d.tick TickRows []) (so_far d.tick LineHead []) (distances_read d)
      (λ cells. with_distance_tick (distance_at distance_start TickRows) (number_in (get_or cells 0 Absent)))
      (λ cells. with_distance_tick (so_far d.tick TickRows []) (number_in (get_or cells 0 Absent)))
      (distance_at distance_start LineHead) (omega arith) (λ l. refl) (λ l. refl) refl (λ l. refl)
      line_head (distance_rows names d.lines) from-line-head

  lines-are-clean : every (clean 143) (distance_lines names d) ≡ true
  lines-are-clean =
      tick-sheet-is-clean d.tick parts.0 (line_head ∷ distance_rows names d.lines)
      (and_from (clean 143 line_head) _ refl
      (rows-are-clean Distance' names distance_cells (lawful_distance (length names)) named (distance-suits names) (omega arith) d.lines lines-lawful.1))

  -- The text of lawful distances is taken, and gives them.
  pub written-is-taken : read_distances names (distance_text names d) ≡ Ok (distances_read d)
  written-is-taken =
      text-is-taken 32768 (distance_step names) distance_start (distances_read d) tick_head (row_line [] (Number d.tick ∷ []) ∷ [] ∷ line_head ∷ distance_rows names d.lines)
      lines-are-clean
      (omega (arith, clean-is-short 143 (distance_lines names d) lines-are-clean, length-map d.lines (λ x. row_line names (distance_cells x)), lines-lawful.0))
      lines-are-taken
