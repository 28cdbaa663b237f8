use Rattle.std.proofs.Common.{◌∙◌, arith}
use Rattle.clocks.proofs.Cells.{holds_all_by_pairs}
use Rattle.clocks.proofs.reading.Reading.meets.Goals as goal

pub returns : goal.returns
returns c = c.each_holds.ensures ∙ holds_all_by_pairs c.args.bounds.now c.args.self.now.cells (omega arith)
