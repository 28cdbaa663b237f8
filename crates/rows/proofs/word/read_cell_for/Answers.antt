use Rattle.std.proofs.Common.{◌∙◌}
use Rattle.rows.proofs.Shaped.{cell-by-token}
use Rattle.rows.proofs.word.read_cell_for.Goals as goal

pub returns-in_default : goal.returns-in_default
returns-in_default c =
    c.cell_from_token.ensures
    ∙ cell-by-token c.args.column c.args.events.now c.args.before c.args.word.now c.args.line _ c.in_default.not-EventName c.token_of.ensures
