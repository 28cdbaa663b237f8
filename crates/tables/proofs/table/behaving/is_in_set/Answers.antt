use Rattle.tables.proofs.Masks.{bit-is-in-set}
use Rattle.tables.proofs.table.behaving.is_in_set.Goals as goal

pub returns : goal.returns
returns c = bit-is-in-set c.args.set c.args.place
