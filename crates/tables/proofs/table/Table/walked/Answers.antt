use Rattle.meaning.specs.Stepping.{cap_of}
use Rattle.tables.specs.Held.{contents}
use Rattle.tables.proofs.Runs.{walks-at-first, walks-on, walked_all}
use Rattle.tables.proofs.table.Table.walked.Goals as goal

pub loop-pair-init : goal.loop-pair-init
loop-pair-init c =
    let t = contents c.args.self.now in
    walks-at-first t (cap_of t.edges) c.args.word.now _ _ c.starts.ensures c.never.ensures

pub loop-pair-preserved : goal.loop-pair-preserved
loop-pair-preserved c =
    let t = contents c.args.self.now in
    walks-on t (cap_of t.edges) c.args.word.now c.loop-pair.pair-index _ _ _ c.loop-pair-test.true c.loop-pair.invariant
    _ _ c.stepped-front.ensures.set c.stepped-front.ensures.reading

pub returns : goal.returns
returns c =
    let t = contents c.args.self.now in
    let ends = walked_all t (cap_of t.edges) c.args.word.now c.loop-pair.pair-index _ _ c.loop-pair-test.false c.loop-pair.invariant in
    record { set = ends.0; reading = ends.1 }
