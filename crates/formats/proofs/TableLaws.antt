-- A text is taken exactly where a lawful table is written so, and is refused with its least fault everywhere else. Assumes nothing.
use Rattle.std.proofs.Common.{◌≡◌, ℕ, ◌-◌, Bool, true, false, cond, ◌&&◌, leb, List, [], ◌∷◌, length, get_or, drop, Ok, codes, Option, sym, refl, ap, ◌∙◌, inl, inr}
use Rattle.std.specs.Str.{bytes_eq}
use Rattle.meaning.specs.Tables.{Contents}
use Rattle.texts.specs.Lines.{words}
use Rattle.texts.specs.Numbers.{every}
use Rattle.clocks.specs.Letters.{lawful_name}
use Rattle.tables.specs.Lawful.{different}
use Rattle.rows.specs.Rows.{number_in}
use Rattle.rows.specs.declared.cell.Cell.TheVariants.{Absent}
use Rattle.rows.specs.declared.cell.RowKind.TheVariants.{Tick, Place as Place', Edge as Edge'}
use Rattle.formats.specs.declared.stage.Stage.{Stage}
use Rattle.formats.specs.declared.stage.Stage.TheVariants.{TickHead, TickRows, PlaceHead, PlaceRows, EdgeHead, EdgeRows}
use Rattle.formats.specs.Faults.{Fails}
use Rattle.formats.specs.Least.{Refused}
use Rattle.formats.specs.Walk.{Refusal, Line}
use Rattle.formats.specs.TableText.{Parts, at, held, head_is, edge_head_wrong, tick_head, place_head, tick_limits, place_limits, edge_limits, place_from, edge_from, with_tick, with_place, with_names, with_edge, step_at, due_at, table_format, read_table, IsTable, OnlyTable, TableOrFault}
use Rattle.formats.proofs.Least.{Judges, head-judges, row-judges}
use Rattle.formats.proofs.Laws.{Known, head-known, taken-is-only, not-read, one_of_two}
use Rattle.formats.proofs.TableRead.{taken-is-written}
use Rattle.formats.proofs.TableWritten.{table_parts, written-is-taken}

-- ---- each line is judged by what is due

edge-head-known : (ws : List (List ℕ)) → Known (edge_head_wrong ws)
edge-head-known [] = inr (inl refl)
edge-head-known (a ∷ []) = inr (inl refl)
edge-head-known (a ∷ b ∷ []) = inr (inl refl)
edge-head-known (a ∷ b ∷ c ∷ names) =
    go (bytes_eq a (codes "from") && (bytes_eq b (codes "to") && bytes_eq c (codes "on"))) (every lawful_name names && different names) (leb 1 (length names) && leb (length names) 8)
  where
    go : (x y z : Bool) → Known (cond x (cond y (cond z 0 7) 4) 4)
    go true true true = inl refl
    go true true false = inr (inr refl)
    go true false z = inr (inl refl)
    go false y z = inr (inl refl)

table-judges : (stage : Stage) (s : Parts) (l : Line) → Judges (due_at stage s) l (step_at stage s l)
table-judges TickHead s l = head-judges 2 (head_is tick_head) l (at s TickRows) (head-known tick_head l.bytes)
table-judges TickRows s l = row-judges tick_limits (length s.ticks) Tick [] l (λ cells. with_tick s (number_in (get_or cells 0 Absent))) (at s PlaceHead)
table-judges PlaceHead s l = head-judges 1 (head_is place_head) l (at s PlaceRows) (head-known place_head l.bytes)
table-judges PlaceRows s l = row-judges place_limits (length s.places) (Place' (length s.places)) [] l (λ cells. with_place s (place_from cells)) (at s EdgeHead)
table-judges EdgeHead s l = head-judges 0 (λ line. edge_head_wrong (words line)) l (with_names s (drop 3 (words l.bytes))) (edge-head-known (words l.bytes))
table-judges EdgeRows s l =
    row-judges edge_limits (length s.edges) (Edge' (length s.places - 1) (length s.names)) s.names l (λ cells. with_edge s (edge_from (length s.names) cells)) s

-- ---- the whole text

module _ (t : List ℕ) where
  written_back : (c : Contents) → IsTable t c → read_table t ≡ Ok (table_parts c)
  written_back c is = ap read_table (sym is.1) ∙ written-is-taken c is.0

  taken_back : (s : Parts) → read_table t ≡ Ok s → IsTable t (held s)
  taken_back s h = let written = taken-is-written t s h in (written.1, sym written.0)

  pub table_taken : (s : Parts) → read_table t ≡ Ok s → OnlyTable t (held s)
  table_taken = taken-is-only table_format (λ s l. table-judges s.stage s l) t (IsTable t) held table_parts (λ c. refl) written_back taken_back

  pub table-not-read : (o : Option Refusal) → Fails (read_table t) o → Refused table_format t (IsTable t) o
  table-not-read = not-read table_format (λ s l. table-judges s.stage s l) t (IsTable t) held table_parts (λ c. refl) written_back taken_back

  pub table-or-fault : TableOrFault t
  table-or-fault = one_of_two table_format (λ s l. table-judges s.stage s l) t (IsTable t) held table_parts (λ c. refl) written_back taken_back
