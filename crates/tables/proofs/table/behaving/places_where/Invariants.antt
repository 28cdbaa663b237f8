use lib.Bits.{bit_or}
use Rattle.std.proofs.Common.{◌≡◌, Bool, drop}
use Rattle.meaning.specs.declared.values.Place.{Place}
use Rattle.meaning.specs.Stepping.{places_from}
use Rattle.tables.proofs.table.behaving.places_where.Given as goal

abbrev pub invariant-loop-p : goal.invariant-loop-p
invariant-loop-p g l =
    (t : Place → Bool) → ((p : Place) (r : Bool) → goal.F-post g l.test p r → r ≡ t p) → bit_or l.set (places_from t l.p (drop l.p l.places)) ≡ places_from t 0 l.places
