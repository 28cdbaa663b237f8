use mathlib.Core.List.{Memᴰ}
use Rattle.std.proofs.Common.{subst}
use Rattle.tables.proofs.Held.{edges_fit}
use Rattle.tables.proofs.table.Table.targets.Goals as goal

pub targets_of-requires : goal.targets_of-requires
targets_of-requires c = λ e mem. edges_fit c.args.self.now e (subst (Memᴰ e) c.edges.ensures mem)
