use Rattle.std.proofs.Common.{false-eqb, sym, ◌∙◌}
use Rattle.tables.proofs.Lawfulness.{lawful-names-is}
use Rattle.tables.proofs.limits.lawful_names.Goals as goal

pub returns-then-names-le8 : goal.returns-then-names-le8
returns-then-names-le8 c =
    let some = c.if-names-le8.true in
    lawful-names-is c.args.names.now (false-eqb _ 0 (sym some.0 ∙ c.is_empty.ensures)) some.1 _ c.all_different.ensures
