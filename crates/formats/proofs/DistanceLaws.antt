-- A text is taken exactly where lawful distances are written so, and is refused with its least fault everywhere else. Assumes nothing.
use Rattle.std.proofs.Common.{◌≡◌, ℕ, ◌≤◌, true, ◌&&◌, ltb, leb, List, [], ◌∷◌, length, get_or, Ok, Option, sym, refl, ap, ◌∙◌, arith}
use Rattle.std.proofs.lemmas.Bool.{and_parts, and_from, ltb-true, lt-ltb}
use Rattle.texts.specs.Numbers.{every}
use Rattle.clocks.specs.Letters.{lawful_name}
use Rattle.tables.specs.Lawful.{different}
use Rattle.rows.specs.Rows.{number_in}
use Rattle.rows.specs.declared.cell.Cell.TheVariants.{Absent}
use Rattle.rows.specs.declared.cell.RowKind.TheVariants.{Tick, Distance as Distance'}
use Rattle.formats.specs.declared.distance.Distance.{Distance}
use Rattle.formats.specs.declared.distance.DistanceStage.{DistanceStage}
use Rattle.formats.specs.declared.distance.DistanceStage.TheVariants.{TickHead, TickRows, LineHead, LineRows}
use Rattle.formats.specs.Faults.{Fails}
use Rattle.formats.specs.Least.{Refused}
use Rattle.formats.specs.TableText.{head_is, tick_head}
use Rattle.formats.specs.Walk.{Refusal, Line}
use Rattle.formats.specs.DistanceText.{Distances, DistanceParts, distance_at, distance_due, distance_format, distance_from, distance_step_at, distance_tick_limits, distances_held, distances_read, lawful_between, lawful_distance, line_head, line_limits, read_distances, with_distance, with_distance_tick, IsDistances, OnlyDistances, DistancesOrFault}
use Rattle.formats.proofs.Least.{Judges, head-judges, row-judges}
use Rattle.formats.proofs.Laws.{head-known, taken-is-only, not-read, one_of_two}
use Rattle.formats.proofs.DistanceRead.{taken-is-written}
use Rattle.formats.proofs.DistanceWritten.{written-is-taken}

-- what is lawful for some events is so for more
lines-of-more : (n m : ℕ) → n ≤ m → (ds : List Distance) → every (lawful_distance n) ds ≡ true → every (lawful_distance m) ds ≡ true
lines-of-more n m more [] h = refl
lines-of-more n m more (d ∷ ds) h =
    let both = and_parts (lawful_distance n d) _ h in
    let parts = and_parts (ltb d.on n && ltb d.since n) _ both.0 in
    let events = and_parts (ltb d.on n) (ltb d.since n) parts.0 in
    let on = ltb-true d.on n events.0 in
    let since = ltb-true d.since n events.1 in
    and_from _ _
    (and_from _ _ (and_from _ _ (lt-ltb d.on m (omega (arith, on, more))) (lt-ltb d.since m (omega (arith, since, more)))) parts.1)
    (lines-of-more n m more ds both.1)

pub lawful-for-more : (n m : ℕ) → n ≤ m → (d : Distances) → lawful_between n d ≡ true → lawful_between m d ≡ true
lawful-for-more n m more d h =
    let both = and_parts (leb 1 d.tick && leb d.tick 60000) _ h in
    let rest = and_parts (leb (length d.lines) 16) _ both.1 in
    and_from _ _ both.0 (and_from _ _ rest.0 (lines-of-more n m more d.lines rest.1))

module _ (names : List (List ℕ)) where
  distance-judges : (stage : DistanceStage) (s : DistanceParts) (l : Line) → Judges (distance_due names stage s) l (distance_step_at names stage s l)
  distance-judges TickHead s l = head-judges 1 (head_is tick_head) l (distance_at s TickRows) (head-known tick_head l.bytes)
  distance-judges TickRows s l =
      row-judges distance_tick_limits (length s.ticks) Tick [] l (λ cells. with_distance_tick s (number_in (get_or cells 0 Absent))) (distance_at s LineHead)
  distance-judges LineHead s l = head-judges 0 (head_is line_head) l (distance_at s LineRows) (head-known line_head l.bytes)
  distance-judges LineRows s l = row-judges line_limits (length s.lines) Distance' names l (λ cells. with_distance s (distance_from cells)) s

  module _ (named : every lawful_name names ≡ true) (apart : different names ≡ true) (t : List ℕ) where
    written_back : (d : Distances) → IsDistances names t d → read_distances names t ≡ Ok (distances_read d)
    written_back d is = ap (read_distances names) (sym is.1) ∙ written-is-taken names named apart d is.0

    taken_back : (s : DistanceParts) → read_distances names t ≡ Ok s → IsDistances names t (distances_held s)
    taken_back s h = let written = taken-is-written names t s h in (written.1, sym written.0)

    pub distances-taken : (s : DistanceParts) → read_distances names t ≡ Ok s → OnlyDistances names t (distances_held s)
    distances-taken =
        taken-is-only (distance_format names) (λ s l. distance-judges s.stage s l) t (IsDistances names t) distances_held distances_read (λ d. refl) written_back taken_back

    pub distances-not-read : (o : Option Refusal) → Fails (read_distances names t) o → Refused (distance_format names) t (IsDistances names t) o
    distances-not-read =
        not-read (distance_format names) (λ s l. distance-judges s.stage s l) t (IsDistances names t) distances_held distances_read (λ d. refl) written_back taken_back

    pub distances-or-fault : DistancesOrFault names t
    distances-or-fault =
        one_of_two (distance_format names) (λ s l. distance-judges s.stage s l) t (IsDistances names t) distances_held distances_read (λ d. refl) written_back taken_back
