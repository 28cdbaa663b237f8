use Rattle.std.proofs.Common.{◌≡◌, max, length, take, Ok, sym, ap, ◌∙◌, subst, arith}
use Rattle.std.proofs.lemmas.List.{take_all}
use Rattle.std.proofs.lemmas.Result.{err_from_is_err_and}
use Rattle.tables.specs.Held.{contents}
use Rattle.tables.proofs.Held.{kept, names-kept}
use Rattle.sheets.specs.DistanceReading.{distance_parts_of}
use Rattle.formats.specs.DistanceText.{OnlyDistances, distances_held, read_distances}
use Rattle.formats.specs.Faults.{Fails, refusal}
use Rattle.formats.proofs.DistanceLaws.{lawful-for-more, distances-taken, distances-not-read, distances-or-fault}
use Rattle.sheets.proofs.distances.list_in.Goals as goal
use Rattle.sheets.proofs.distances.list_in.Goals.{After-read_parts, In_ok-reader}

told : (c : After-read_parts) → c.first_eight.result ≡ (contents c.args.table.now).names
told c = c.first_eight.ensures ∙ ap (take 8) c.names.ensures ∙ take_all 8 (contents c.args.table.now).names (kept c.args.table.now).events

taken : (c : In_ok-reader) → OnlyDistances (contents c.args.table.now).names c.args.text.now (distances_held (distance_parts_of c.in_ok-reader.reader))
taken c =
    let table = c.args.table.now in
    let t = c.args.text.now in
    distances-taken (contents table).names (names-kept table).0 (names-kept table).1 t (distance_parts_of c.in_ok-reader.reader)
    (subst (λ ns. read_distances ns t ≡ Ok (distance_parts_of c.in_ok-reader.reader)) (told (goal.at.In_ok-reader c).After-read_parts) c.in_ok-reader.ensures)

pub list-requires-clause-lawful : goal.list-requires-clause-lawful
list-requires-clause-lawful c =
    let table = c.args.table.now in
    let events : c.max.result ≡ max (length (contents table).names) 1 = c.max.ensures ∙ ap (λ n. max n 1) c.events.ensures in
    lawful-for-more (length (contents table).names) c.max.result (omega (arith, events)) (distances_held (distance_parts_of c.in_ok-reader.reader))
    (taken (goal.at.list-requires-clause-lawful c).In_ok-reader).0.0

pub returns-clause-value : goal.returns-clause-value
returns-clause-value c =
    let names = (contents c.args.table.now).names in (
      subst (OnlyDistances names c.args.text.now) (sym c.list.ensures.value) (taken (goal.at.returns-clause-value c).In_ok-reader),
      c.list.ensures.events ∙ c.max.ensures ∙ ap (λ n. max n 1) c.events.ensures,
    )

pub returns-clause-one : goal.returns-clause-one
returns-clause-one c = let table = c.args.table.now in distances-or-fault (contents table).names (names-kept table).0 (names-kept table).1 c.args.text.now

pub returns-in_err-reader-clause-value : goal.returns-in_err-reader-clause-value
returns-in_err-reader-clause-value c =
    let table = c.args.table.now in
    let t = c.args.text.now in
    let p = err_from_is_err_and c.from_residual.result c.from_residual.ensures.1 in
    rw (p.1, p.2) (distances-not-read (contents table).names (names-kept table).0 (names-kept table).1 t (refusal c.in_err-reader.field-0.0)
    (subst (λ ns. Fails (read_distances ns t) (refusal c.in_err-reader.field-0.0)) (told (goal.at.returns-in_err-reader-clause-value c).After-read_parts) c.in_err-reader.ensures))

pub returns-in_err-reader-clause-one : goal.returns-in_err-reader-clause-one
returns-in_err-reader-clause-one c = let table = c.args.table.now in distances-or-fault (contents table).names (names-kept table).0 (names-kept table).1 c.args.text.now
