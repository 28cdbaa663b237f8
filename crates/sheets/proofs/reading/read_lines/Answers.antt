use Rattle.std.proofs.Common.{length, refl, ap, sym, subst, arith}
use Rattle.judges.proofs.InTurn.{few-lines}
use Rattle.judges.specs.Cursor.{Starts}
use Rattle.sheets.proofs.Walking.{begins}
use Rattle.sheets.proofs.reading.read_lines.Goals as goal

pub loop-line-init : goal.loop-line-init
loop-line-init g c =
    let r = c.args.reader.now in
    let t = c.args.text.now in
    let cursor = c.into_iter-line-iterator.result in
    let starts = subst (Starts t) (sym c.into_iter-line-iterator.ensures.into_iter_gives) c.new-line-items.ensures in (
      begins (g.R.LineReader.step r) (g.R.LineReader.parts r) t cursor starts cursor.number starts.first,
      refl,
      c.requires.good,
      omega (arith, starts.first, ap length starts.all, few-lines t, c.requires.short),
    )
