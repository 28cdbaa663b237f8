use Rattle.std.proofs.Common.{ℕ, ◌+◌, drop, ap, ◌∙◌, arith}
use lib.Bits.{bit_or}
use Rattle.meaning.specs.Stepping.{places_from}
use Rattle.tables.proofs.Masks.{places-take, places-pass, places-all}
use Rattle.tables.proofs.table.behaving.places_where.Goals as goal
use Rattle.tables.proofs.table.behaving.places_where.Goals.{then-test, else-test}

pub loop-p-preserved : goal.loop-p-preserved
loop-p-preserved g c = λ f says.
    let ps = c.args.places.now in
    let p = c.loop-p.p in
    let rest = λ (k : ℕ). bit_or k (places_from f (p + 1) (drop (p + 1) ps)) in
    elim c.if-test.branch [
      | then-test w ↦ ap rest w.set-is ∙ places-take f ps p _ _ _ c.loop-p-test.true (c.loop-p.invariant f says) (omega (arith, c.requires.few)) (says _ _ w.if-test.ensures)
      | else-test w ↦ ap rest w.set-is ∙ places-pass f ps p _ _ _ c.loop-p-test.true (c.loop-p.invariant f says) (says _ _ w.if-test.ensures)
    ]

pub returns : goal.returns
returns g c = λ f says. places-all f c.args.places.now c.loop-p.p _ _ c.loop-p-test.false (c.loop-p.invariant f says)
