use Rattle.std.proofs.Common.{map, vec_items, arith, true-eqb, false-eqb}
use Rattle.std.proofs.lemmas.List.{length-map}
use Rattle.clocks.specs.Texts.{text}
use Rattle.judges.proofs.EdgeHeads.{names-too-few, names-too-many, names-counted}
use Rattle.judges.proofs.heads.counted.Goals as goal
use Rattle.judges.proofs.heads.counted.Goals.{then-is_empty-via-then-is_empty, then-is_empty-via-else-is_empty+then-len-gt8}

pub returns-then-is_empty : goal.returns-then-is_empty
returns-then-is_empty c = λ ws h.
    let long = length-map (vec_items c.args.names) text in
    elim c.then-is_empty.branch [
      | then-is_empty-via-then-is_empty w ↦ names-too-few ws _ h (omega (arith, long, c.args.names.ok.0, true-eqb _ 0 w.if-is_empty.ensures))
      | then-is_empty-via-else-is_empty+then-len-gt8 w ↦ names-too-many ws _ h (omega (arith, long, c.args.names.ok.0, w.len.ensures, w.if-len-gt8.true))
    ]

pub returns : goal.returns
returns c = λ ws h.
    let long = length-map (vec_items c.args.names) text in
    let some = false-eqb _ 0 c.if-is_empty.ensures in
    names-counted ws (map text (vec_items c.args.names)) h
    (λ e. some (omega (arith, long, c.args.names.ok.0, e)))
    (omega (arith, long, c.args.names.ok.0, c.len.ensures, c.if-len-gt8.false))
