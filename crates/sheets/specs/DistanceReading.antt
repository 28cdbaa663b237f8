-- What a reader of distance texts holds.
use Rattle.std.specs.Prelude.{vec_items}
use Rattle.std.specs.Option.{option_to_list}
use Rattle.sheets.specs.declared.spans.DistanceReader.{DistanceReader}
use Rattle.formats.specs.DistanceText.{DistanceParts}

abbrev pub distance_parts_of : DistanceReader → DistanceParts
distance_parts_of r = record { stage = r.stage; ticks = option_to_list r.tick; lines = vec_items r.lines }
