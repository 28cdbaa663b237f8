use Rattle.std.proofs.Common.{map, refl, ap, ◌∙◌, arith, rules}
use Rattle.meaning.specs.declared.values.Bound.TheVariants.{Any}
use Rattle.rows.specs.declared.cell.Cell.TheVariants.{Number, Absent}
use Rattle.rows.specs.Rows.{bound_in}
use Rattle.sheets.proofs.Made.{mapped_of, written_out}
use Rattle.sheets.proofs.reader.steps.bounds_in.Goals as goal

pub returns : goal.returns
returns c =
    mapped_of _ _ bound_in _ c.map.result 8 Absent Any (λ p q x y called. search rules) c.map.ensures.items refl
    ∙ ap (map bound_in) (written_out c.args.row.cells (Number 0) 8 3 (omega arith))
