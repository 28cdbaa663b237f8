use Rattle.std.proofs.Common.{sym, ◌∙◌, arith}
use Rattle.rows.proofs.Columns.{column_before, column_after}
use Rattle.rows.proofs.kind.with_events.Goals as goal

pub returns-in-None : goal.returns-in-None
returns-in-None c = c.column_of.ensures ∙ sym (column_before c.args.first.now _ c.args.place (omega (arith, c.in-None.ensures)))

pub returns-in-Some : goal.returns-in-Some
returns-in-Some c = c.event_column.ensures ∙ sym (column_after c.args.first.now _ c.args.place c.in-Some.event (omega (arith, c.in-Some.ensures)))
