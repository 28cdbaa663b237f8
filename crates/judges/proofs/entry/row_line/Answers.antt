use Rattle.std.proofs.Common.{Ok, sym, ap, ◌∙◌}
use Rattle.formats.specs.Faults.{line_in}
use Rattle.judges.proofs.EntryRows.{row-claims}
use Rattle.judges.proofs.Spacing.{spacing-fine}
use Rattle.judges.proofs.entry.row_line.Goals as goal

pub returns : goal.returns
returns c =
    row-claims c.args.events.now c.args.room c.args.count (line_in c.args.line) (spacing-fine (line_in c.args.line) c.in_ok-check_spacing.field-0 c.in_ok-check_spacing.ensures) c.if-count-room.false
    c.count.result c.count.ensures c.in_ok-row.row c.in_ok-row.ensures
    ∙ ap Ok (sym c.from.ensures)
