use Rattle.std.proofs.Common.{◌&&◌, length, sym, ◌∙◌}
use Rattle.std.proofs.lemmas.Bool.{eq-eqb}
use Rattle.tables.specs.Lawful.{lawful_bounds}
use Rattle.tables.proofs.Lawfulness.{bounds_by_all}
use Rattle.tables.proofs.limits.lawful_bounds.Goals as goal

pub returns : goal.returns
returns c =
    let bounds = c.args.bounds.now in
    c.each_bound_lawful.ensures ∙ bounds_by_all c.args.events bounds ∙ (λ i. sym (eq-eqb (length bounds) 8 c.told-bounds) i && lawful_bounds c.args.events 0 bounds)
