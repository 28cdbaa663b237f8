use Rattle.std.proofs.Common.{◌≡◌, length, Some, None, Ok, vec_items, sym, refl, ap, ◌∙◌, arith}
use Rattle.std.proofs.lemmas.Result.{err_from_is_err_and}
use Rattle.formats.specs.declared.distance.DistanceStage.TheVariants.{LineRows}
use Rattle.sheets.specs.DistanceReading.{distance_parts_of}
use Rattle.formats.specs.Faults.{line_in, line_number}
use Rattle.formats.proofs.Steps.{fails-so}
use Rattle.formats.proofs.ReaderSteps.{judged-as, distance-fails, distances-do-not-end, distance_read}
use Rattle.sheets.proofs.spans.DistanceReader.distance_row.Goals as goal
use Rattle.sheets.proofs.spans.DistanceReader.distance_row.Goals.{After-judge_row_for}

counted : (c : After-judge_row_for) → c.len.result ≡ length (vec_items c.args.self.now.lines)
counted c = c.len.ensures ∙ c.args.self.now.lines.ok.0

pub returns-in_err-row-clause-gives : goal.returns-in_err-row-clause-gives
returns-in_err-row-clause-gives c =
    let p = err_from_is_err_and c.from_residual.result c.from_residual.ensures.1 in
    rw (p.1, p.2) (fails-so _ _ (line_number c.in_err-row.field-0.0) c.in_err-row.ensures.row
    (distance-fails c.args.self.now.events (distance_parts_of c.args.self.now) (line_in c.args.line) c.len.result
    (counted (goal.at.returns-in_err-row-clause-gives c).After-judge_row_for)))

pub returns-in_default-clause-gives : goal.returns-in_default-clause-gives
returns-in_default-clause-gives c = absurd
    (distances-do-not-end c.args.self.now.events (distance_parts_of c.args.self.now) (line_in c.args.line) c.len.result
    (counted (goal.at.returns-in_default-clause-gives c).After-judge_row_for)
    (judged-as _ c.in_ok-row.field-0 None c.in_ok-row.ensures.row c.in_default.is))

pub returns-in_ok-push-clause-gives : goal.returns-in_ok-push-clause-gives
returns-in_ok-push-clause-gives c =
    let s = distance_parts_of c.args.self.now in
    (distance_read c.args.self.now.events s (line_in c.args.line) c.len.result (counted (goal.at.returns-in_ok-push-clause-gives c).After-judge_row_for)
    c.in-Some.row _ c.event_in-on.result c.event_in-since.result c.number_in-least.result c.number_in-most.result
    (judged-as _ c.in_ok-row.field-0 (Some c.in-Some.row) c.in_ok-row.ensures.row c.in-Some.is)
    c.event_in-on.ensures c.event_in-since.ensures c.number_in-least.ensures c.number_in-most.ensures).0
    ∙ ap (λ ls. Ok (record { stage = LineRows; ticks = s.ticks; lines = ls })) (sym c.in_ok-push.ensures.items)

pub overflow_cast-least : goal.overflow_cast-least
overflow_cast-least c =
    let read =
    distance_read c.args.self.now.events (distance_parts_of c.args.self.now) (line_in c.args.line) c.len.result (counted (goal.at.overflow_cast-least c).After-judge_row_for)
    c.in-Some.row _ c.event_in-on.result c.event_in-since.result c.number_in-least.result _
    (judged-as _ c.in_ok-row.field-0 (Some c.in-Some.row) c.in_ok-row.ensures.row c.in-Some.is) c.event_in-on.ensures c.event_in-since.ensures c.number_in-least.ensures refl in
    omega (arith, read.1)

pub overflow_cast-most : goal.overflow_cast-most
overflow_cast-most c =
    let read =
    distance_read c.args.self.now.events (distance_parts_of c.args.self.now) (line_in c.args.line) c.len.result (counted (goal.at.overflow_cast-most c).After-judge_row_for)
    c.in-Some.row _ c.event_in-on.result c.event_in-since.result _ c.number_in-most.result
    (judged-as _ c.in_ok-row.field-0 (Some c.in-Some.row) c.in_ok-row.ensures.row c.in-Some.is) c.event_in-on.ensures c.event_in-since.ensures refl c.number_in-most.ensures in
    omega (arith, read.2)
