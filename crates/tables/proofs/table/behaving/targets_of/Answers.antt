use Rattle.std.proofs.Common.{ℕ, ◌+◌, drop, ap, ◌∙◌}
use lib.Bits.{bit_or}
use Rattle.meaning.specs.Stepping.{targets}
use Rattle.tables.proofs.Held.{get_or-member}
use Rattle.tables.proofs.Masks.{targets-take, targets-pass, targets-all}
use Rattle.tables.proofs.table.behaving.targets_of.Goals as goal
use Rattle.tables.proofs.table.behaving.targets_of.Goals.{then-leaves_front, else-leaves_front}

pub leaves_front-requires : goal.leaves_front-requires
leaves_front-requires c = (c.requires _ (get_or-member c.args.edges.now c.loop-edge.edge-index _ c.loop-edge-test.true)).0

pub loop-edge-preserved : goal.loop-edge-preserved
loop-edge-preserved c =
    let es = c.args.edges.now in
    let rest = λ (k : ℕ). bit_or k (targets (drop (c.loop-edge.edge-index + 1) es) c.args.front.now.set c.args.event c.args.front.now.reading.cells) in
    elim c.if-leaves_front.branch [
      | then-leaves_front w ↦ ap rest w.reached-is ∙ targets-take es _ _ _ c.loop-edge.edge-index _ _ _ c.loop-edge-test.true c.loop-edge.invariant
          (c.requires _ (get_or-member es c.loop-edge.edge-index _ c.loop-edge-test.true)).1 w.if-leaves_front.ensures
      | else-leaves_front w ↦ ap rest w.reached-is ∙ targets-pass es _ _ _ c.loop-edge.edge-index _ _ _ c.loop-edge-test.true c.loop-edge.invariant w.if-leaves_front.ensures
    ]

pub returns : goal.returns
returns c = targets-all c.args.edges.now c.args.front.now.set c.args.event c.args.front.now.reading.cells c.loop-edge.edge-index _ _ c.loop-edge-test.false c.loop-edge.invariant

pub overflow_shl-reached : goal.overflow_shl-reached
overflow_shl-reached c = (c.requires _ (get_or-member c.args.edges.now c.loop-edge.edge-index _ c.loop-edge-test.true)).1
