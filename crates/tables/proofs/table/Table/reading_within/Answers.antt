use Rattle.std.proofs.Common.{length}
use Rattle.meaning.specs.Stepping.{cap_of}
use Rattle.tables.specs.Held.{contents}
use Rattle.tables.proofs.Held.{kept}
use Rattle.tables.proofs.Runs.{reads_here}
use Rattle.tables.proofs.table.Table.reading_within.Goals as goal

pub returns : goal.returns
returns c =
    let t = contents c.args.self.now in
    reads_here (cap_of t.edges) (length t.names) c.args.word.now c.args.position _ (kept c.args.self.now).events c.requires
    c.cap.result _ _ c.cap.ensures c.walked.ensures.reading c.advanced.ensures
