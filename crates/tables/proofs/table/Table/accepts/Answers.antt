use Rattle.tables.specs.Held.{contents}
use Rattle.tables.proofs.Held.{fair}
use Rattle.tables.proofs.Runs.{word-decides}
use Rattle.tables.proofs.table.Table.accepts.Goals as goal

pub returns : goal.returns
returns c = word-decides (contents c.args.self.now) (fair c.args.self.now) c.args.word.now _ _ c.walked.ensures.set c.finals.ensures
