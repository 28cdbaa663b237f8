use Rattle.std.proofs.Common.{Ok, ap, ◌∙◌}
use Rattle.std.proofs.lemmas.Result.{err_from_is_err_and}
use Rattle.std.specs.Option.{option_to_list}
use Rattle.formats.specs.Faults.{line_in, line_number}
use Rattle.sheets.proofs.Ticks.{tick_refused, tick_sheet_ends, tick_is_read}
use Rattle.sheets.proofs.shared.tick_row.Goals as goal

pub returns-in_err-read : goal.returns-in_err-read
returns-in_err-read g c =
    let p = err_from_is_err_and c.from_residual.result c.from_residual.ensures.1 in
    rw (p.1, p.2) (tick_refused c.args.more c.tick_count.result c.args.stage.now c.args.head (option_to_list c.args.tick.now) (line_in c.args.line) c.tick_count.ensures
    (line_number c.in_err-read.field-0.0) c.in_err-read.ensures)

pub returns-in-Some : goal.returns-in-Some
returns-in-Some g c =
    tick_is_read c.args.more c.tick_count.result c.args.stage.now c.args.head (option_to_list c.args.tick.now) (line_in c.args.line) c.in-Some.read c.tick_count.ensures
    (c.in_ok-read.ensures ∙ ap Ok c.in-Some.is)

pub returns-in-None : goal.returns-in-None
returns-in-None g c =
    tick_sheet_ends c.args.more c.tick_count.result c.args.stage.now c.args.head (option_to_list c.args.tick.now) (line_in c.args.line) c.tick_count.ensures
    (c.in_ok-read.ensures ∙ ap Ok c.in-None.is)
