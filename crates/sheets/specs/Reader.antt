-- What a reader of table texts holds, and what reading promises.
use Rattle.std.specs.Prelude.{ℕ, List, map, Ok, Err, vec_items, Result}
use Rattle.std.specs.Option.{option_to_list}
use Rattle.clocks.specs.Texts.{text}
use Rattle.tables.specs.Held.{contents}
use Rattle.tables.specs.declared.table.Table.{Table}
use Rattle.formats.specs.declared.fault.SheetFault.{SheetFault}
use Rattle.sheets.specs.declared.reader.TableReader.{TableReader}
use Rattle.formats.specs.Faults.{refusal}
use Rattle.formats.specs.Least.{Refused}
use Rattle.formats.specs.TableText.{Parts, IsTable, OnlyTable, table_format}

abbrev pub parts_of : TableReader → Parts
parts_of r = record { stage = r.stage; ticks = option_to_list r.tick; places = vec_items r.places; names = map text (vec_items r.names); edges = vec_items r.edges }

-- The table that was read, or why there is none.
abbrev pub TableRead : Result Table SheetFault → List ℕ → Type 0
TableRead (Ok table) t = OnlyTable t (contents table)
TableRead (Err e) t = Refused table_format t (IsTable t) (refusal e)
