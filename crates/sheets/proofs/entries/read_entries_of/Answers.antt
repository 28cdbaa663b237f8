use Rattle.std.proofs.Common.{length}
use Rattle.sheets.proofs.EntriesOf.{entries_or_fault_of}
use Rattle.sheets.proofs.entries.read_entries_of.Goals as goal

pub returns-clause-one : goal.returns-clause-one
returns-clause-one c = entries_or_fault_of c.args.table.now (length c.args.claims.now) c.args.text.now
