use Rattle.std.proofs.Common.{drop}
use Rattle.std.proofs.lemmas.Result.{err_from_is_err_and}
use Rattle.texts.specs.Lines.{words}
use Rattle.formats.specs.Faults.{line_in, line_number}
use Rattle.sheets.specs.Reader.{parts_of}
use Rattle.formats.specs.TableText.{edge_head_wrong, with_names}
use Rattle.formats.proofs.Steps.{head-fails, fails-on}
use Rattle.sheets.proofs.reader.TableReader.edge_head.Goals as goal

pub returns-in_err-self : goal.returns-in_err-self
returns-in_err-self c =
    let ws = words c.args.line.bytes.now in
    let p = err_from_is_err_and c.from_residual.result c.from_residual.ensures.1 in
    rw (p.1, p.2) (fails-on _ _ (head-fails 0 (edge_head_wrong ws) (line_in c.args.line) (drop 3 ws) (with_names (parts_of c.args.self.now) (drop 3 ws)))
    (line_number c.in_err-self.field-0.0) c.in_err-self.ensures)
