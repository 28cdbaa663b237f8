use Rattle.std.proofs.Common.{sym, subst}
use Rattle.std.proofs.lemmas.Result.{err_from_is_err_and}
use Rattle.formats.specs.Faults.{refusal}
use Rattle.sheets.specs.Reader.{parts_of}
use Rattle.formats.specs.TableText.{OnlyTable}
use Rattle.formats.proofs.TableLaws.{table_taken, table-not-read, table-or-fault}
use Rattle.sheets.proofs.table.table_in.Goals as goal

pub table-requires : goal.table-requires
table-requires c = (table_taken c.args.text.now (parts_of c.in_ok-read_parts.field-0) c.in_ok-read_parts.ensures).0.0

pub returns-clause-value : goal.returns-clause-value
returns-clause-value c =
    let t = c.args.text.now in
    subst (OnlyTable t) (sym c.table.ensures) (table_taken t (parts_of c.in_ok-read_parts.field-0) c.in_ok-read_parts.ensures)

pub returns-clause-one : goal.returns-clause-one
returns-clause-one c = table-or-fault c.args.text.now

pub returns-in_err-read_parts-clause-value : goal.returns-in_err-read_parts-clause-value
returns-in_err-read_parts-clause-value c =
    let p = err_from_is_err_and c.from_residual.result c.from_residual.ensures.1 in
    rw (p.1, p.2) (table-not-read c.args.text.now (refusal c.in_err-read_parts.field-0.0) c.in_err-read_parts.ensures)

pub returns-in_err-read_parts-clause-one : goal.returns-in_err-read_parts-clause-one
returns-in_err-read_parts-clause-one c = table-or-fault c.args.text.now
