use Rattle.std.proofs.Common.{ap, ◌∙◌}
use Rattle.std.specs.Option.{option_map}
use Rattle.clocks.proofs.Names.{names-equal}
use Rattle.clocks.specs.Texts.{text}
use Rattle.judges.proofs.NameLists.{name-if-new}
use Rattle.judges.proofs.heads.new_name.Goals as goal

pub returns : goal.returns
returns c =
    ap (option_map text) c.then_some.ensures
    ∙ name-if-new c.args.word.now c.args.names.now c.in_ok-name.name c.position.result c.in_ok-name.ensures (c.position.ensures.value names-equal) c.is_none.result c.is_none.ensures
