use Rattle.std.proofs.Common.{rules, ◌≡◌, Some, None, Ok, sym, ap, ◌∙◌}
use Rattle.rows.specs.Rows.{row_of}
use Rattle.formats.specs.EntryLines.{Says}
use Rattle.formats.specs.Faults.{line_in, limits_in}
use Rattle.formats.specs.Walk.{row_step, row_gives}
use Rattle.formats.proofs.ReaderSteps.{cells-said}
use Rattle.formats.proofs.Steps.{some_row, row-judged, row-given, row-refused}
use Rattle.judges.proofs.Spacing.{spacing-fine}
use Rattle.judges.proofs.judging.judge_row_for.Goals as goal
use Rattle.judges.proofs.judging.judge_row_for.Goals.{After-read_row_for}

judged : (c : After-read_row_for) → row_step (limits_in c.args.rows.limits) c.args.rows.count c.args.kind c.args.events.now (line_in c.args.line) some_row None
    ≡ row_gives (row_of c.args.kind c.args.events.now c.args.line.bytes.now) some_row
judged c =
    row-judged (limits_in c.args.rows.limits) c.args.rows.count c.args.kind c.args.events.now (line_in c.args.line)
    (sym c.if-ends_sheet.ensures) (spacing-fine (line_in c.args.line) c.in_ok-check_spacing.field-0 c.in_ok-check_spacing.ensures) (sym c.if-lacks_sheet.ensures) c.if-rows.false some_row None

pub returns-in_err-read_row_for : goal.returns-in_err-read_row_for
returns-in_err-read_row_for c =
    let told =
    ap Some (judged (goal.at.returns-in_err-read_row_for c).After-read_row_for)
    ∙ row-refused some_row (row_of c.args.kind c.args.events.now c.args.line.bytes.now) c.in_err-read_row_for.field-0.0 c.in_err-read_row_for.ensures in
    let row : Says c.from_residual-in_err-read_row_for.result (row_step (limits_in c.args.rows.limits) c.args.rows.count c.args.kind c.args.events.now (line_in c.args.line) some_row None) = search rules in
    record {
      row = row;
      cells = cells-said (limits_in c.args.rows.limits) c.args.rows.count c.args.kind c.args.events.now (line_in c.args.line) c.from_residual-in_err-read_row_for.result row;
    }

pub returns : goal.returns
returns c =
    let row =
    judged (goal.at.returns c).After-read_row_for
    ∙ sym (row-given (row_of c.args.kind c.args.events.now c.args.line.bytes.now) c.in_ok-read_row_for.field-0 c.in_ok-read_row_for.ensures) in
    record {
      row = row;
      cells = cells-said (limits_in c.args.rows.limits) c.args.rows.count c.args.kind c.args.events.now (line_in c.args.line) (Ok (Some c.in_ok-read_row_for.field-0)) row;
    }
