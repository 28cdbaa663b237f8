-- What names and tables hold, as the definitions speak of it.
use Rattle.std.specs.Prelude.{vec_items}
use Rattle.meaning.specs.Tables.{Contents}
use Rattle.tables.specs.declared.table.Table.{Table}
use Rattle.tables.specs.Forms.{form}

abbrev pub contents : Table → Contents
contents t = form t.tick (vec_items t.names) (vec_items t.places) (vec_items t.edges)
