-- The values that a table is made of, as the definitions speak of them.
use Rattle.std.specs.Prelude.{ℕ, List, map}
use Rattle.meaning.specs.declared.values.Place.{Place}
use Rattle.meaning.specs.declared.values.Edge.{Edge}
use Rattle.meaning.specs.Tables.{Contents}
use Rattle.clocks.specs.Texts.{text}
use Rattle.clocks.specs.declared.name.Name.{Name}

abbrev pub form : ℕ → List Name → List Place → List Edge → Contents
form tick names places edges = record { tick = tick; names = map text names; places = places; edges = edges }
