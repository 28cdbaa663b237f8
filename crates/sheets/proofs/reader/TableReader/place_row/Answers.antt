use Rattle.std.proofs.Common.{◌≡◌, length, Some, None, Ok, vec_items, sym, ap, ◌∙◌}
use Rattle.std.proofs.lemmas.Result.{err_from_is_err_and}
use Rattle.formats.specs.Faults.{line_in, line_number}
use Rattle.sheets.specs.Reader.{parts_of}
use Rattle.formats.specs.declared.stage.Stage.TheVariants.{PlaceRows}
use Rattle.formats.proofs.Steps.{fails-so}
use Rattle.formats.proofs.ReaderSteps.{judged-as, place-fails, place-ends, place_read}
use Rattle.sheets.proofs.reader.TableReader.place_row.Goals as goal
use Rattle.sheets.proofs.reader.TableReader.place_row.Goals.{After-judge_row_for}

counted : (c : After-judge_row_for) → c.len.result ≡ length (vec_items c.args.self.now.places)
counted c = c.len.ensures ∙ c.args.self.now.places.ok.0

pub returns-in_err-judge_row_for : goal.returns-in_err-judge_row_for
returns-in_err-judge_row_for c =
    let p = err_from_is_err_and c.from_residual.result c.from_residual.ensures.1 in
    rw (p.1, p.2) (fails-so _ _ (line_number c.in_err-judge_row_for.field-0.0) c.in_err-judge_row_for.ensures.row
    (place-fails (parts_of c.args.self.now) (line_in c.args.line) c.len.result (counted (goal.at.returns-in_err-judge_row_for c).After-judge_row_for)))

pub returns-in-None : goal.returns-in-None
returns-in-None c =
    place-ends (parts_of c.args.self.now) (line_in c.args.line) c.len.result (counted (goal.at.returns-in-None c).After-judge_row_for)
    (judged-as _ c.in_ok-judge_row_for.field-0 None c.in_ok-judge_row_for.ensures.row c.in-None.is)

pub returns-in_ok-push-in-Some : goal.returns-in_ok-push-in-Some
returns-in_ok-push-in-Some c =
    let s = parts_of c.args.self.now in
    place_read s (line_in c.args.line) c.len.result (counted (goal.at.returns-in_ok-push-in-Some c).After-judge_row_for)
    c.in-Some.row _ c.flag_in-start.result c.flag_in-accepting.result
    (judged-as _ c.in_ok-judge_row_for.field-0 (Some c.in-Some.row) c.in_ok-judge_row_for.ensures.row c.in-Some.is) c.flag_in-start.ensures c.flag_in-accepting.ensures
    ∙ ap (λ ps. Ok (record { stage = PlaceRows; ticks = s.ticks; places = ps; names = s.names; edges = s.edges })) (sym c.in_ok-push-in-Some.ensures.items)
