-- What reading entries for the names of a table gives. Assumes nothing.
use Rattle.std.proofs.Common.{◌≡◌, ℕ, ◌≤◌, List, map, length, take, Result, ap, ◌∙◌, subst}
use Rattle.std.proofs.lemmas.List.{take_all}
use Rattle.clocks.specs.Texts.{text}
use Rattle.clocks.specs.declared.name.Name.{Name}
use Rattle.tables.specs.Held.{contents}
use Rattle.tables.specs.declared.table.Table.{Table}
use Rattle.tables.proofs.Held.{kept, names-kept}
use Rattle.formats.specs.declared.claim.Claim.{Claim}
use Rattle.formats.specs.declared.fault.SheetFault.{SheetFault}
use Rattle.formats.specs.EntriesText.{EntriesTaken, EntriesOrFault, read_entries}
use Rattle.formats.specs.EntryLines.{Fills, event_names}
use Rattle.formats.proofs.EntryLaws.{list-filled, entries-or-fault}

few : (table : Table) → length (contents table).names ≤ 8
few table = (kept table).events

pub entries_taken_of : (table : Table) (names : List Name) (t : List ℕ) (before after : List Claim) (r : Result ℕ SheetFault) → map text names ≡ (contents table).names
    → Fills r (read_entries (event_names names) (length before) t) before after → EntriesTaken r (contents table).names t before after
entries_taken_of table names t before after r is h =
    let told : event_names names ≡ (contents table).names = ap (take 8) is ∙ take_all 8 (contents table).names (few table) in
    list-filled (contents table).names (names-kept table).0 (names-kept table).1 (few table) t before after r
    (subst (λ ns. Fills r (read_entries ns (length before) t) before after) told h)

pub entries_or_fault_of : (table : Table) (room : ℕ) (t : List ℕ) → EntriesOrFault (contents table).names room t
entries_or_fault_of table room t = entries-or-fault (contents table).names room (names-kept table).0 (names-kept table).1 (few table) t
