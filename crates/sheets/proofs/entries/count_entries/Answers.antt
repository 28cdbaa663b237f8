use Rattle.std.proofs.lemmas.Result.{err_from_is_err_and}
use Rattle.sheets.proofs.Counted.{counts_taken, counts_refused}
use Rattle.sheets.proofs.entries.count_entries.Goals as goal

pub returns : goal.returns
returns c = let r = c.read_text.new.reader in counts_taken c.args.events.now c.args.room c.args.text.now (record { stage = r.stage; count = r.count }) c.in_ok-read_text.ensures

pub returns-in_err-read_text : goal.returns-in_err-read_text
returns-in_err-read_text c =
    let p = err_from_is_err_and c.from_residual.result c.from_residual.ensures.1 in
    rw (p.1, p.2) (counts_refused c.args.events.now c.args.room c.args.text.now c.in_err-read_text.field-0.0 c.in_err-read_text.ensures)
